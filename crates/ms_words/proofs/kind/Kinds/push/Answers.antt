use Rattle.std.proofs.Common.{sym, ap, ◌∙◌, arith, ◌+◌, ◌-◌, drop, replicate}
use Rattle.std.proofs.lemmas.List.{drop-drop, drop-replicate, drop-set-lt}
use Rattle.std.proofs.Math.ListN.{length-set}
use Rattle.ms_words.specs.declared.kind.Kind.TheVariants.{Z}
use Rattle.ms_words.proofs.kind.Kinds.push.Goals as goal

pub invariant_of-self : goal.invariant_of-self
invariant_of-self c =
    let count = c.self.inside.count in
    record {
      small = omega arith;
      whole = length-set _ _ _ ∙ c.self.invariant.whole;
      rest = drop-set-lt (count + 1) c.self.inside.kinds count c.args.kind (omega arith) ∙ sym (drop-drop 1 count c.self.inside.kinds)
          ∙ ap (drop 1) c.self.invariant.rest ∙ drop-replicate 1 (8 - count) _ ∙ ap (λ n. replicate n Z) (omega arith);
    }
