use Rattle.std.proofs.Common.{◌∙◌, ap, map, sym, take, w32}
use Rattle.std.proofs.Math.Facts.{to_z-of_z}
use Rattle.ms_terms.specs.Nodes.{terms_of}
use Rattle.ms_terms.specs.Terms as terms
use Rattle.ms_terms.specs.Values.{word_over}
use Rattle.ms_terms.proofs.Valuing.{word_is}
use Rattle.ms_terms.proofs.table.Terms.value.Goals as goal

pub returns : goal.returns
returns c =
    let words = c.words.result.now in
    let all = terms_of c.args.self.now in
    to_z-of_z {w = w32} {z = c.word_of.result} (record { sfits = c.word_of.type_inv })
    ∙ c.word_of.ensures
    ∙ (λ j. word_over c.as_slice.result.now (c.words-2.ensures.words j) c.term.result) ∙ (λ j. word_over c.as_slice.result.now (sym c.words.ensures.words j) c.term.result)
    ∙ ap (λ list. word_over list words c.term.result) (c.as_slice.ensures.value ∙ c.in_ok-words.ensures ∙ ap (λ n. map (terms.value words) (take n all)) c.place.ensures)
    ∙ word_is words all c.args.id c.term.result c.term.ensures.operands
    ∙ (λ j. terms.value (c.words.ensures.words j) (c.term.ensures.term j))
