use Rattle.std.proofs.Common.{◌∙◌, ap, pos, ◌++◌, drop, length, replicate}
use Rattle.std.proofs.lemmas.List.{drop-replicate}
use Rattle.ms_words.proofs.input.eight_words.Goals as goal

pub returns : goal.returns
returns c =
    ap (λ front. front ++ drop (length c.args.words.now) (replicate 8 (pos 0))) c.copy_from_slice.ensures.after
    ∙ ap (λ rest. c.args.words.now ++ rest) (drop-replicate (length c.args.words.now) 8 (pos 0))
