use Rattle.std.proofs.Common.{◌++◌, ◌∷◌, [], w32, ◌<◌, length, map, take, ap, subst, ◌∙◌, arith}
use Rattle.std.proofs.Math.Facts.{to_z-of_z}
use Rattle.ms_terms.specs.Nodes.{IsBelow, term_at, terms_of}
use Rattle.ms_terms.specs.Terms as terms
use Rattle.ms_terms.specs.Values.{word_over}
use Rattle.ms_terms.proofs.Growing.{as_many}
use Rattle.ms_terms.proofs.Valuing.{word_more}
use Rattle.ms_terms.proofs.table.Terms.values.Goals as goal

pub loop-place-preserved : goal.loop-place-preserved
loop-place-preserved c = let kept = to_z-of_z {w = w32} {z = c.word_of-word.result} (record { sfits = c.word_of-word.type_inv }) in
    let less : c.loop-place.place < length (terms_of c.args.self.now) = omega (arith, c.loop-place-test.true, c.requires, as_many c.args.self.now) in
    c.in_ok-push.ensures.items ∙ ap (λ word. c.loop-place.words.items ++ word ∷ []) kept ∙ word_more c.args.parameters.now (terms_of c.args.self.now) c.loop-place.words.items c.loop-place.place c.term.result c.word_of-word.result less
    c.loop-place.invariant
    (subst (λ n. IsBelow n c.term.result) c.new.ensures c.term.ensures.operands)
    (c.term.ensures.term ∙ ap (term_at (terms_of c.args.self.now)) c.new.ensures)
    (c.word_of-word.ensures ∙ ap (λ ws. word_over ws c.args.parameters.now c.term.result) c.as_slice.ensures.value)

pub returns : goal.returns
returns c = c.loop-place.invariant ∙ ap (λ n. map (terms.value c.args.parameters.now) (take n (terms_of c.args.self.now))) (omega (arith, c.loop-place-test.false, c.loop-place.auto.place-end))
