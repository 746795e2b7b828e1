-- What the rules see of a method, and what the machine sees at the same item.
use Rattle.std.proofs.Common.{◌≡◌, ℕ, List, [], ◌∷◌, length, map, slice_get, Option, Some, None, refl, ap, subst, ◌∙◌, arith}
use Rattle.std.specs.Prelude.{filter, option_and_then, option_map}
use Rattle.std.specs.List.{range_with_len}
use Rattle.ms_words.specs.declared.item.Item.{Item}
use Rattle.ms_words.specs.declared.item.Item.TheVariants.{At}
use Rattle.ms_words.specs.declared.thrown.Thrown.{Thrown}
use Rattle.ms_words.specs.Descriptors.{Signature, signature_of}
use Rattle.ms_code.specs.declared.decoded.Handler as code_handler
use Rattle.ms_code.specs.declared.instruction.Instr as code
use Rattle.ms_code.specs.Codes as codes
use Rattle.ms_program.specs.declared.body.Body.{Body}
use Rattle.ms_program.specs.Names.{Key}
use Rattle.ms_program.specs.Programs.{Program, body_of, class_named, key_of, known_body, method_id}
use Rattle.ms_program.specs.Views as views
use Rattle.ms_program.specs.Views.{body_at, catch_part, covers, handlers_at, instr_of, or_empty, targets_at, view, view_at}
use Rattle.ms_program.proofs.Picking.{joined, mapped}
use Rattle.ms_program.proofs.Standing.{is_view}
use Rattle.ms_machine.specs.Control.{Handler}
use Rattle.ms_linking.specs.Linked.{handler_of, linked, linked_instr, views_of, with_instr}
use Rattle.ms_typing.specs.Verifier.{Line, Method, line_at, or_no}
use Rattle.ms_verify.specs.Methods.{handler_in, line_in, line_of, line_with, method_of, method_with, offset_in}
use Rattle.ms_verify.proofs.Among.{made_of}

-- METHODS

-- a method of a program is made of its body and of the signature that its descriptor spells
pub record IsMethod (P : Program) (class number : ℕ) (method : Method) : Type 0 where
  pub key : Key
  pub body : Body
  pub signature : Signature
  pub key_is : key_of P (method_id class number) ≡ Some key
  pub body_is : body_of P (method_id class number) ≡ Some body
  pub signature_is : signature_of key.1 ≡ Some signature
  pub is : method_with P class number body signature ≡ method

-- so is each of them
pub method_made : (P : Program) (class number : ℕ) (method : Method) → method_of P class number ≡ Some method → IsMethod P class number method
method_made P class number method is =
    let known = joined (λ (known : Key × Body). option_map (method_with P class number known.1) (signature_of known.0.1)) (known_body P (method_id class number)) method is in
    let signature = mapped (method_with P class number known.0.1) (signature_of known.0.0.1) method known.2 in
    let body = joined (λ (body : Body). option_map (λ (key : Key). (key, body)) (key_of P (method_id class number))) (body_of P (method_id class number)) known.0 known.1 in
    let key = mapped (λ (key : Key). (key, body.0)) (key_of P (method_id class number)) known.0 body.2 in
    record {
      key = known.0.0;
      body = known.0.1;
      signature = signature.0;
      key_is = key.1 ∙ ap (λ (k : Key × Body). Some k.0) key.2;
      body_is = body.1 ∙ ap (λ (k : Key × Body). Some k.1) key.2;
      signature_is = signature.1;
      is = signature.2;
    }

-- and what has these is a method
pub makes_method : (P : Program) (class number : ℕ) (key : Key) (body : Body) (signature : Signature) → key_of P (method_id class number) ≡ Some key → body_of P (method_id class number) ≡ Some body → signature_of key.1 ≡ Some signature
    → method_of P class number ≡ Some (method_with P class number body signature)
makes_method P class number key body signature key_is body_is signature_is =
    ap (λ o. option_and_then (λ (known : Key × Body). option_map (method_with P class number known.1) (signature_of known.0.1)) (option_and_then (λ (b : Body). option_map (λ (k : Key). (k, b)) (key_of P (method_id class number))) o)) body_is
    ∙ ap (λ o. option_and_then (λ (known : Key × Body). option_map (method_with P class number known.1) (signature_of known.0.1)) (option_map (λ (k : Key). (k, body)) o)) key_is
    ∙ ap (option_map (method_with P class number body)) signature_is

-- an instruction of a method is one of the program
pub line_known : (P : Program) (class number : ℕ) (method : Method) → IsMethod P class number method → (offset : ℕ) (line : Line) → line_at method offset ≡ Some line → line_of P class number offset ≡ Some line
line_known P class number method made offset line is = by_place (slice_get method.lines offset) refl is
  where
    lines : map (line_of P class number) (range_with_len 0 (length made.body.code.steps)) ≡ method.lines
    lines = ap (λ (m : Method). m.lines) made.is

    by_place : (found : Option (Option Line)) → slice_get method.lines offset ≡ found → or_no found ≡ Some line → line_of P class number offset ≡ Some line
    by_place None at e = absurd (let f = e in cc)
    by_place (Some found) at e =
        ap (line_of P class number) (omega arith) ∙ made_of (line_of P class number) 0 (length made.body.code.steps) offset found (ap (λ ls. slice_get ls offset) lines ∙ at) ∙ e

-- INSTRUCTIONS

-- a handler of a method
abbrev pub handler_at : (class number : ℕ) → ℕ × Thrown → Handler
handler_at class number handler = record { begins = At class number handler.0; catches = handler.1 }

-- an instruction of a method is what the machine sees there, and all that it may go on to is of the method
pub record Shows (P : Program) (class number offset : ℕ) (line : Line) : Type 0 where
  pub v : views.View
  pub is : view P (At class number offset) ≡ Some v
  pub written : code.Instr
  pub written_is : v.instr ≡ Some written
  pub linked_is : linked_instr (class_named P) v written ≡ Some line.instr
  pub seen : views_of P (At class number offset) ≡ Some (with_instr v line.instr)
  pub next : v.successor ≡ option_map (At class number) line.next
  pub targets : v.targets ≡ map (At class number) line.targets
  pub handlers : map handler_of v.handlers ≡ map (handler_at class number) line.handlers

module _ (class number : ℕ) where
  next_stays : (next : Option ℕ) → option_map (At class number) next ≡ option_map (At class number) (option_map offset_in (option_map (At class number) next))
  next_stays None = refl
  next_stays (Some offset) = refl

  items_stay : (offsets : List ℕ) → map (At class number) offsets ≡ map (At class number) (map offset_in (map (At class number) offsets))
  items_stay [] = refl
  items_stay (offset ∷ offsets) = ap (λ (items : List Item). At class number offset ∷ items) (items_stay offsets)

  parts_stay : (handlers : List code_handler.Handler) → map handler_of (map (catch_part class number) handlers) ≡ map (handler_at class number) (map handler_in (map (catch_part class number) handlers))
  parts_stay [] = refl
  parts_stay (handler ∷ handlers) = ap (λ (others : List Handler). handler_of (catch_part class number handler) ∷ others) (parts_stay handlers)

  targets_stay : (offset : ℕ) (instr : Option code.Instr) → or_empty (option_map (targets_at (At class number offset)) instr) ≡ map (At class number) (map offset_in (or_empty (option_map (targets_at (At class number offset)) instr)))
  targets_stay offset None = refl
  targets_stay offset (Some instr) = items_stay (codes.targets_of instr.operand)

  handlers_stay : (offset : ℕ) (body : Option Body) → map handler_of (or_empty (option_map (handlers_at (At class number offset)) body)) ≡ map (handler_at class number) (map handler_in (or_empty (option_map (handlers_at (At class number offset)) body)))
  handlers_stay offset None = refl
  handlers_stay offset (Some body) = parts_stay (filter (covers offset) body.code.handlers)

-- what the rules see there is so
pub line_shown : (P : Program) (class number offset : ℕ) (line : Line) → line_of P class number offset ≡ Some line → Shows P class number offset line
line_shown P class number offset line is =
    let item = At class number offset in
    let v = joined (line_in P) (view P item) line is in
    let instr = mapped (line_with v.0) (option_and_then (linked_instr (class_named P) v.0) v.0.instr) line v.2 in
    let written = joined (linked_instr (class_named P) v.0) v.0.instr instr.0 instr.1 in
    let here = (is_view P item v.0 v.1).1 in
    subst (Shows P class number offset) instr.2 (record {
      v = v.0;
      is = v.1;
      written = written.0;
      written_is = written.1;
      linked_is = written.2;
      seen = ap (option_and_then (linked (class_named P))) v.1 ∙ ap (option_map (with_instr v.0)) instr.1;
      next = subst (λ (v : views.View). v.successor ≡ option_map (At class number) (option_map offset_in v.successor)) here (next_stays class number _);
      targets = subst (λ (v : views.View). v.targets ≡ map (At class number) (map offset_in v.targets)) here (targets_stay class number offset (instr_of P item));
      handlers = subst (λ (v : views.View). map handler_of v.handlers ≡ map (handler_at class number) (map handler_in v.handlers)) here (handlers_stay class number offset (body_at P item));
    })
