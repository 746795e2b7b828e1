use Rattle.std.proofs.Common.{◌≡◌, [], ◌∷◌, Some, sym, ap, ◌∙◌}
use Rattle.std.specs.Option.{option_map}
use Rattle.ms_classfile.specs.Found.{view}
use Rattle.ms_classfile.specs.Reading.{thin_method}
use Rattle.ms_session.specs.States.{State}
use Rattle.ms_session.proofs.Sessions.{classes_are, missing_says, not_so, so, unbuilt_says, unknown_says}
use Rattle.ms_session.proofs.session.Session.set_entry.Goals as goal

pub returns-then-ne : goal.returns-then-ne
returns-then-ne c =
    let read : thin_method c.in-Some.bytes.items ≡ Some (view c.in-Some-2.method) = ap thin_method (sym c.as_slice.ensures.value) ∙ sym c.in_ok-method.ensures.found ∙ ap (option_map view) c.in-Some-2.is in
    let one : c.args.self.now.classes ≡ view c.in-Some-2.method ∷ [] = sym (ap (λ (s : State). s.classes) c.self.view_is) ∙ classes_are c.self.inside.file c.in-Some.bytes (view c.in-Some-2.method) c.in-Some.is read in
    rw c.in_ok-reply.ensures
    (unknown_says c.args.self.now c.args.class.now c.args.name.now c.args.desc.now (view c.in-Some-2.method) one (rw c.bytes.ensures at (not_so _ (sym c.ne.ensures ∙ c.if-ne.true))))

pub returns-then-not-is_entry : goal.returns-then-not-is_entry
returns-then-not-is_entry c =
    let read : thin_method c.in-Some.bytes.items ≡ Some (view c.in-Some-2.method) = ap thin_method (sym c.as_slice.ensures.value) ∙ sym c.in_ok-method.ensures.found ∙ ap (option_map view) c.in-Some-2.is in
    let one : c.args.self.now.classes ≡ view c.in-Some-2.method ∷ [] = sym (ap (λ (s : State). s.classes) c.self.view_is) ∙ classes_are c.self.inside.file c.in-Some.bytes (view c.in-Some-2.method) c.in-Some.is read in
    missing_says c.args.self.now c.args.class.now c.args.name.now c.args.desc.now (view c.in-Some-2.method) one
    (rw c.bytes.ensures at (so _ (sym c.if-ne.ensures))) (rw (c.bytes-2.ensures, c.bytes-3.ensures) at (sym c.is_entry.ensures ∙ c.if-not-is_entry.true))

pub returns-then-not-are_boolean : goal.returns-then-not-are_boolean
returns-then-not-are_boolean c =
    let read : thin_method c.in-Some.bytes.items ≡ Some (view c.in-Some-2.method) = ap thin_method (sym c.as_slice.ensures.value) ∙ sym c.in_ok-method.ensures.found ∙ ap (option_map view) c.in-Some-2.is in
    let one : c.args.self.now.classes ≡ view c.in-Some-2.method ∷ [] = sym (ap (λ (s : State). s.classes) c.self.view_is) ∙ classes_are c.self.inside.file c.in-Some.bytes (view c.in-Some-2.method) c.in-Some.is read in
    unbuilt_says c.args.self.now c.args.class.now c.args.name.now c.args.desc.now (view c.in-Some-2.method) one
    (rw c.bytes.ensures at (so _ (sym c.if-ne.ensures))) (rw (c.bytes-2.ensures, c.bytes-3.ensures) at (sym c.is_entry.ensures ∙ c.if-not-is_entry.false)) (sym c.are_boolean.ensures ∙ c.if-not-are_boolean.true)
