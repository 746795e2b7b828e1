-- What a Code attribute holds is spelled there, and what is spelled there is read.
use Rattle.std.proofs.Common.{◌≡◌, ℕ, true, eqb, List, [], ◌++◌, length, Some, refl, sym, ap, subst, ◌∙◌, append_assoc, arith}
use Rattle.std.specs.Prelude.{nat_le, ◌&&◌, ◌==◌}
use Rattle.std.proofs.lemmas.Bool.{and_parts, leb-true, le-leb, eqb-true}
use Rattle.std.proofs.lemmas.List.{append-nil}
use Rattle.ms_pool.specs.Places.{Place, beginning}
use Rattle.ms_pool.specs.Numbers.{IsBytes, width2, width4}
use Rattle.ms_classfile.specs.declared.instruction.Instruction.{Instruction}
use Rattle.ms_classfile.specs.declared.thin.parts.Limits.{Limits}
use Rattle.ms_classfile.specs.Instructions.{ends_with_return, is_walked}
use Rattle.ms_classfile.specs.ThinFile.{Entry, Attribute, Code, u2, u4, code_bytes, spelled_attributes, spelled_code, IsThinCode}
use Rattle.ms_classfile.specs.Reading.{provided, u2_at, u4_at, bytes_at, limits_at, attributes_at, rest_is_plain, instructions_of, code_of}
use Rattle.ms_classfile.proofs.Steps.{then_some, provided_some, some_is}
use Rattle.ms_classfile.proofs.Spelling.{Takes, Takes-is, at_end, ends_there, number_takes, number_reaches, run_takes, run_reaches}
use Rattle.ms_classfile.proofs.Attributes.{AreHeld, attributes_takes, attributes_reaches}
use Rattle.ms_classfile.proofs.Instructions.{instructions_take, instructions_reach}

limits_takes : (start front : List ℕ) (place : Place) (x : Limits × Place) → Takes start front place.left → limits_at place ≡ Some x → Takes start (front ++ u2 x.0.max_stack ++ u2 x.0.max_locals) x.1.left
unfolding limits_at
limits_takes start front place x takes found =
    then_some (u2_at place) _ x found (λ stack at_stack more.
    then_some (u2_at stack.1) _ x more (λ locals at_locals last.
    let one = number_takes 2 width2 start front place stack takes at_stack in
    let two = number_takes 2 width2 start (front ++ u2 stack.0) stack.1 locals one.0 at_locals in
    let made : Limits × Place = (record { max_stack = stack.0; max_locals = locals.0 }, locals.1) in
    subst (λ (y : Limits × Place). Takes start (front ++ u2 y.0.max_stack ++ u2 y.0.max_locals) y.1.left) (some_is made x last) two.0))

rest_takes : (pool : List Entry) (start front : List ℕ) (place after : Place) → Takes start front place.left → rest_is_plain pool place ≡ Some after
    → (attributes : List Attribute) × (start ≡ front ++ u2 0 ++ spelled_attributes attributes) × AreHeld pool attributes
unfolding rest_is_plain
rest_takes pool start front place after takes found =
    then_some (u2_at place) _ after found (λ handlers at_handlers more.
    then_some (provided (handlers.0 == 0) (attributes_at pool handlers.1)) _ after more (λ attributes at_attributes last.
    let none = provided_some (handlers.0 == 0) (attributes_at pool handlers.1) attributes at_attributes in
    let ended = provided_some (length attributes.1.left == 0) (Some attributes.1) after last in
    let one = number_takes 2 width2 start front place handlers takes at_handlers in
    let zero_there = Takes-is start _ (front ++ u2 0) handlers.1.left (ap (λ (n : ℕ). front ++ u2 n) (eqb-true _ _ none.0)) one.0 in
    let two = attributes_takes pool start (front ++ u2 0) handlers.1 attributes zero_there none.1 in
    (attributes.0, ends_there start (front ++ u2 0 ++ spelled_attributes attributes.0) attributes.1 two.0 ended.0, two.1.0)))

-- the code that a Code attribute holds
pub record HoldsCode (pool : List Entry) (parameters : ℕ) (content : List ℕ) (found : ℕ × List Instruction) : Type 0 where
  pub code : Code
  pub spelled : content ≡ spelled_code code
  pub thin : IsThinCode pool parameters code
  pub stack : code.max_stack ≡ found.0
  pub instructions : code.instructions ≡ found.1

pub code_takes : (pool : List Entry) (parameters : ℕ) (content : List ℕ) (x : ℕ × List Instruction) → IsBytes content → code_of pool parameters content ≡ Some x → HoldsCode pool parameters content x
unfolding code_of
code_takes pool parameters content x fits found =
    then_some (limits_at (beginning content)) _ x found (λ limits at_limits more.
    then_some (u4_at limits.1) _ x more (λ size at_size more.
    then_some (provided (nat_le size.0 19999) (bytes_at size.0 size.1)) _ x more (λ bytes at_bytes more.
    then_some (rest_is_plain pool bytes.1) _ x more (λ rest at_rest more.
    then_some (instructions_of bytes.0) _ x more (λ code at_code last.
    let small = provided_some (nat_le size.0 19999) (bytes_at size.0 size.1) bytes at_bytes in
    let good = provided_some (nat_le limits.0.max_stack 256 && nat_le limits.0.max_locals 256 && nat_le parameters limits.0.max_locals && is_walked parameters limits.0.max_stack 0 code && ends_with_return code) (Some (limits.0.max_stack, code)) x last in
    let returns = and_parts (nat_le limits.0.max_stack 256 && nat_le limits.0.max_locals 256 && nat_le parameters limits.0.max_locals && is_walked parameters limits.0.max_stack 0 code) (ends_with_return code) good.0 in
    let walked = and_parts (nat_le limits.0.max_stack 256 && nat_le limits.0.max_locals 256 && nat_le parameters limits.0.max_locals) (is_walked parameters limits.0.max_stack 0 code) returns.0 in
    let room = and_parts (nat_le limits.0.max_stack 256 && nat_le limits.0.max_locals 256) (nat_le parameters limits.0.max_locals) walked.0 in
    let most = and_parts (nat_le limits.0.max_stack 256) (nat_le limits.0.max_locals 256) room.0 in
    let front : List ℕ = u2 limits.0.max_stack ++ u2 limits.0.max_locals in
    let one = limits_takes content [] (beginning content) limits (record { parts = refl; fits = fits }) at_limits in
    let two = number_takes 4 width4 content front limits.1 size one at_size in
    let three = run_takes size.0 content (front ++ u4 size.0) size.1 bytes two.0 small.1 in
    let four = rest_takes pool content (front ++ u4 size.0 ++ bytes.0) bytes.1 rest three.0 at_rest in
    let decoded = instructions_take bytes.0 code three.1.1 at_code in
    let long : size.0 ≡ length bytes.0 = sym three.1.0 in
    let made : Code = record { max_stack = limits.0.max_stack; max_locals = limits.0.max_locals; instructions = code; attributes = four.0 } in
    let whole : content ≡ spelled_code made =
    four.1 ∙ ap (λ (n : ℕ). front ++ u4 n ++ bytes.0 ++ u2 0 ++ spelled_attributes four.0) long
    ∙ ap (λ (b : List ℕ). front ++ u4 (length b) ++ b ++ u2 0 ++ spelled_attributes four.0) decoded.0 in
    record {
      code = made;
      spelled = whole;
      thin = record {
        stack = leb-true _ _ most.0;
        locals = leb-true _ _ most.1;
        room = leb-true _ _ room.1;
        length = rw (← decoded.0, ← long) (leb-true _ _ small.0);
        plain = decoded.1;
        walked = walked.1;
        returns = returns.1;
        attributes = four.2.fit;
        named = four.2.named;
      };
      stack = ap (λ (p : ℕ × List Instruction). p.0) (some_is (limits.0.max_stack, code) x good.1);
      instructions = ap (λ (p : ℕ × List Instruction). p.1) (some_is (limits.0.max_stack, code) x good.1);
    })))))

pub code_reaches : (pool : List Entry) (parameters : ℕ) (code : Code) → IsThinCode pool parameters code → code_of pool parameters (spelled_code code) ≡ Some (code.max_stack, code.instructions)
unfolding code_of limits_at rest_is_plain
code_reaches pool parameters code thin =
    let text = code_bytes code in
    let rest : List ℕ = u2 0 ++ spelled_attributes code.attributes in
    let start = beginning (spelled_code code) in
    let regrouped : spelled_code code ≡ u2 code.max_stack ++ (u2 code.max_locals ++ (u4 (length text) ++ (text ++ rest))) = simp append_assoc in
    let stack = number_reaches 2 code.max_stack start (u2 code.max_locals ++ (u4 (length text) ++ (text ++ rest))) (omega (arith, thin.stack)) regrouped in
    let locals = number_reaches 2 code.max_locals stack.after (u4 (length text) ++ (text ++ rest)) (omega (arith, thin.locals)) stack.left in
    let size = number_reaches 4 (length text) locals.after (text ++ rest) (omega (arith, thin.length)) locals.left in
    let bytes = run_reaches text size.after rest size.left in
    let handlers = number_reaches 2 0 bytes.after (spelled_attributes code.attributes) (omega arith) bytes.left in
    let attributes = attributes_reaches pool code.attributes handlers.after [] (record { fit = thin.attributes; named = thin.named }) (subst (λ (left : List ℕ). handlers.after.left ≡ left) (sym (append-nil (spelled_attributes code.attributes))) handlers.left) in
    let ended : eqb (length attributes.after.left) 0 ≡ true = at_end attributes.after attributes.left in
    let decoded = instructions_reach code.instructions thin.plain in
    rw (stack.found, locals.found, size.found, le-leb _ _ thin.length, bytes.found, handlers.found, attributes.found, ended, decoded, le-leb _ _ thin.stack, le-leb _ _ thin.locals, le-leb _ _ thin.room, thin.walked, thin.returns) refl
