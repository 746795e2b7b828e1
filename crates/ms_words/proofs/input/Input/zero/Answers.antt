use Rattle.std.proofs.Common.{◌≤◌, length, refl, ap, ◌∙◌, arith}
use Rattle.std.proofs.lemmas.List.{take_at}
use Rattle.ms_words.specs.Inputs.{Words, comes_before}
use Rattle.ms_words.proofs.Places.{is_input, kept_zero, none_before_zero, taken_zero}
use Rattle.ms_words.proofs.input.Input.zero.Goals as goal

small : (c : goal.After-eight_places) → length c.get-given.result.now ≤ 8
small c = omega (arith, c.get-given.ensures.few, ap length c.get-given.ensures.kinds)

pub invariant_of-result : goal.invariant_of-result
invariant_of-result c = rw c.eight_places.ensures (kept_zero c.get-given.result.now (small c))

pub returns-clause-zero : goal.returns-clause-zero
returns-clause-zero c =
    rw (c.eight_places.ensures, taken_zero c.get-given.result.now (small c), take_at c.get-given.result.now _ (length c.get-given.result.now) refl, c.get-given.ensures.kinds) refl

pub returns-clause-first : goal.returns-clause-first
returns-clause-first c =
    λ words. ap (λ (input : Words). comes_before input.kinds words input.words) (returns-clause-zero c) ∙ none_before_zero c.args.kinds words

pub returns-clause-kept : goal.returns-clause-kept
returns-clause-kept c = is_input _ _ _ (invariant_of-result c)
