use Rattle.std.proofs.Common.{◌≡◌, ℕ, ◌+◌, ◌∷◌, List, drop, get_or, None, option_map, subst, ap, sym, ◌∙◌}
use Rattle.std.proofs.lemmas.List.{drop_more}
use Rattle.std.proofs.lemmas.Bool.{ne_eqb}
use Rattle.ms_words.specs.Descriptors.{few, kind_of}
use Rattle.ms_words.proofs.EntryParts.{AreRead, behind, no_int}
use Rattle.ms_words.proofs.descriptor.int_parameters.Goals as goal

pub returns-in_default : goal.returns-in_default
returns-in_default c =
    let text = c.args.text.now in
    let at = c.loop-at.at in
    let letter = get_or text at 0 in
    let next : drop at text ≡ letter ∷ drop (at + 1) text = drop_more text at 0 c.loop-at-test.true in
    let read : AreRead text c.loop-at.kinds (letter ∷ drop (at + 1) text) = subst (λ (l : List ℕ). AreRead text c.loop-at.kinds l) next c.loop-at.invariant.read in
    let unread : kind_of letter ≡ None = sym c.kind_of.ensures ∙ c.in_default.is in
    sym (ap few (read ∙ ap (option_map (behind c.loop-at.kinds)) (no_int letter (drop (at + 1) text) (ne_eqb letter 41 c.if-letter-eq41.false) unread)))
