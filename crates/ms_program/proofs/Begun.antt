-- The code of a method, by what is known of whole codes.
use Rattle.std.proofs.Common.{◌≡◌, ℕ, List, [], ◌∷◌, length, slice_get, Bool, true, false, ◌&&◌, Some, refl, ap, ◌∙◌, arith}
use Rattle.std.specs.List.{list_all}
use Rattle.ms_code.specs.declared.decoded.Handler.{Handler}
use Rattle.ms_code.specs.Codes.{Steps, is_start}
use Rattle.ms_code.specs.Laws.{is_handler}
use Rattle.ms_code.proofs.Laid.{length_laid}
use Rattle.ms_program.specs.declared.body.Body.{Body}
use Rattle.ms_program.specs.declared.method.MethodId.{MethodId}
use Rattle.ms_program.specs.Laws.{IsWholeBody}
use Rattle.ms_program.specs.Programs.{Class, Program, body_in, body_of}
use Rattle.ms_program.proofs.Picking.{joined}
use Rattle.ms_program.proofs.Standing.{slot_is}
use Rattle.ms_program.proofs.WholeCodes.{HasWholeCode}

both : (a b : Bool) → (a && b) ≡ true → (a ≡ true) × (b ≡ true)
both true b is = (refl, is)
both false b is = absurd (let e = is in cc)

-- where each handler is as it should be, an instruction starts where it begins
handlers_begin : (steps : Steps) (size : ℕ) (handlers : List Handler) → list_all (is_handler steps size) handlers ≡ true → list_all (λ (handler : Handler). is_start steps handler.target) handlers ≡ true
handlers_begin steps size [] all = refl
handlers_begin steps size (handler ∷ handlers) all =
    let parts = both (is_handler steps size handler) (list_all (is_handler steps size) handlers) all in
    let begins = (both (is_start steps handler.target) _ (both (is_start steps handler.start) _ parts.0).1).0 in
    rw begins (handlers_begin steps size handlers parts.1)

module _ (P : Program) (whole : (number method : ℕ) (class : Class) (body : Body) → slice_get P.classes number ≡ Some class → slice_get class.bodies method ≡ Some (Some body) → HasWholeCode class body) where
  pub body_stands : (id : MethodId) (body : Body) → body_of P id ≡ Some body → IsWholeBody body
  body_stands id body is =
      let class = joined (λ (c : Class). body_in c id.method) (slice_get P.classes id.class) body is in
      let known = whole id.class id.method class.0 body class.1 (slot_is class.0.bodies id.method body class.2) in
      let long : length body.code.steps ≡ length known.code.code =
      ap (λ steps. length steps) known.whole.whole.steps_are ∙ (omega (arith, length_laid 0 known.whole.whole.steps (length known.code.code) known.whole.whole.end_to_end)) in
      record {
        some = omega (arith, known.some, long);
        short = omega (arith, known.short, long);
        first = known.whole.first known.some;
        next = known.whole.next;
        targets = known.whole.targets;
        handlers = handlers_begin body.code.steps (length known.code.code) body.code.handlers known.whole.handlers;
      }
