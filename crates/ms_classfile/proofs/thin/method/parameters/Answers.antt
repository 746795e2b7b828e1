use Rattle.std.proofs.Common.{◌≡◌, ◌+◌, ◌∷◌, List, ℕ, suc, drop, get_or, drop-cons, ap, subst, sym, refl, ◌∙◌, arith}
use Rattle.std.proofs.lemmas.Bool.{ne_eqb}
use Rattle.ms_classfile.proofs.Signatures.{IsListing, is_begun, goes_on}
use Rattle.ms_classfile.proofs.thin.method.parameters.Goals as goal

pub loop-at-init : goal.loop-at-init
loop-at-init c = rw c.new-kinds.ensures (is_begun c.args.text.now)

pub loop-at-preserved : goal.loop-at-preserved
loop-at-preserved c =
    let text = c.args.text.now in
    let byte = get_or text c.loop-at.at 0 in
    let next : suc c.loop-at.at ≡ c.loop-at.at + 1 = omega arith in
    let split : drop c.loop-at.at text ≡ byte ∷ drop (c.loop-at.at + 1) text = drop-cons text c.loop-at.at 0 c.loop-at-test.true ∙ ap (λ (k : ℕ). byte ∷ drop k text) next in
    let listing = subst (λ (left : List ℕ). IsListing text c.loop-at.kinds left) split c.loop-at.invariant in
    rw c.if-not-push.ensures.added (goes_on text c.loop-at.kinds byte (drop (c.loop-at.at + 1) text) c.in_ok-kind.kind listing (c.if-not-push.ensures.room.0 refl) (ne_eqb byte 41 c.if-letter-eq41.false) (sym c.in_ok-kind.ensures))
