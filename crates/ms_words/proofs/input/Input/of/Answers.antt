use Rattle.std.proofs.Common.{◌≤◌, IsTrue, length, refl, sym, ap, ◌∙◌, arith}
use Rattle.std.proofs.lemmas.List.{take_at}
use Rattle.ms_words.specs.Inputs.{are_of}
use Rattle.ms_words.proofs.Places.{is_input, kept_words, length_are_of}
use Rattle.ms_words.proofs.input.Input.of.Goals as goal

fit : (c : goal.After-eight_words) → IsTrue (are_of c.get-given.result.now c.args.words.now)
fit c = sym c.are_words_of.ensures ∙ c.if-not-are_words_of.false

few : (c : goal.After-eight_words) → length c.get-given.result.now ≤ 8
few c = omega (arith, c.get-given.ensures.few, ap length c.get-given.ensures.kinds)

pub eight_words-requires : goal.eight_words-requires
eight_words-requires c =
    omega (arith, c.get-given.ensures.few, ap length c.get-given.ensures.kinds, length_are_of c.get-given.result.now c.args.words.now (sym c.are_words_of.ensures ∙ c.if-not-are_words_of.false))

pub invariant_of-result : goal.invariant_of-result
invariant_of-result c = rw (c.eight_places.ensures, c.eight_words.ensures) (kept_words c.get-given.result.now c.args.words.now (few c) (fit c))

pub returns-clause-input : goal.returns-clause-input
returns-clause-input c =
    rw (
      c.eight_places.ensures,
      c.eight_words.ensures,
      take_at c.get-given.result.now _ (length c.get-given.result.now) refl,
      take_at c.args.words.now _ (length c.get-given.result.now) (length_are_of c.get-given.result.now c.args.words.now (fit c)),
      c.get-given.ensures.kinds,
    ) refl

pub returns-clause-kept : goal.returns-clause-kept
returns-clause-kept c = is_input _ _ _ (invariant_of-result c)
