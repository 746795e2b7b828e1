use Rattle.std.proofs.Common.{◌∙◌, ap, ◌++◌, drop, length, replicate}
use Rattle.std.proofs.lemmas.List.{drop-replicate}
use Rattle.ms_words.specs.declared.kind.Kind.TheVariants.{Z}
use Rattle.ms_words.proofs.kind.eight_places.Goals as goal

pub returns : goal.returns
returns c =
    ap (λ front. front ++ drop (length c.args.kinds.now) (replicate 8 Z)) c.copy_from_slice.ensures.after
    ∙ ap (λ rest. c.args.kinds.now ++ rest) (drop-replicate (length c.args.kinds.now) 8 Z)
