use Rattle.std.proofs.Common.{◌<◌, IsTrue, get_or, length, slice_get, take, FitsSigned, w32, ap, sym, ◌∙◌, arith, rules}
use Rattle.std.proofs.lemmas.Int.{to_z-of_z}
use Rattle.std.proofs.Math.Seq.{take-set-lt}
use Rattle.ms_words.specs.declared.kind.Kind.TheVariants.{Z}
use Rattle.ms_words.specs.Inputs.{Words, is_of}
use Rattle.ms_words.specs.Padding.{length_unpadded}
use Rattle.ms_words.proofs.Places.{is_input, kept-set, slice_get-take}
use Rattle.ms_words.proofs.input.Input.set.Goals as goal

within : (c : goal.Else-not-has) → c.args.i < c.self.inside.count
within c = omega (arith, ap (λ (input : Words). length input.kinds) c.self.view_is, length_unpadded Z c.self.inside.kinds c.self.inside.count c.self.invariant.kinds_kept)

is_of_kind : (c : goal.Else-not-has) → IsTrue (is_of (get_or c.self.inside.kinds c.args.i Z) c.args.word)
is_of_kind c =
    let fits : FitsSigned w32 c.args.word = search rules in
    sym (simp to_z-of_z at c.has.ensures) ∙ c.if-not-has.false

pub invariant_of-self : goal.invariant_of-self
invariant_of-self c =
    let fits : FitsSigned w32 c.args.word = search rules in
    rw (to_z-of_z w32 c.args.word fits)
    (kept-set c.self.inside.kinds c.self.inside.words c.self.inside.count c.args.i Z c.args.word (within c) c.self.invariant (is_of_kind c))

pub returns-clause-fits : goal.returns-clause-fits
returns-clause-fits c =
    let there = ap (λ (input : Words). slice_get input.kinds c.args.i) (sym c.self.view_is)
    ∙ slice_get-take c.self.inside.count c.self.inside.kinds c.args.i Z (within c) (omega (arith, c.self.invariant.kinds_kept.small, c.self.invariant.kinds_kept.whole)) in
    rw there (sym (is_of_kind c))

pub returns-clause-written : goal.returns-clause-written
returns-clause-written c =
    let fits : FitsSigned w32 c.args.word = search rules in
    rw (to_z-of_z w32 c.args.word fits, ← c.self.view_is)
    (ap (λ words. record { kinds = take c.self.inside.count c.self.inside.kinds; words = words }) (take-set-lt c.self.inside.count c.self.inside.words c.args.i c.args.word (within c)))

pub returns-clause-kept : goal.returns-clause-kept
returns-clause-kept c = is_input _ _ _ (invariant_of-self c)
