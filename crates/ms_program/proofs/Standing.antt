-- An item that is an instruction, and what its view says of it.
use Rattle.std.proofs.Common.{◌≡◌, ℕ, List, map, slice_get, Bool, true, false, cond, Option, Some, None, refl, ap, ◌∙◌}
use Rattle.std.specs.Prelude.{option_map, option_and_then}
use Rattle.ms_words.specs.declared.item.Item.{Item}
use Rattle.ms_words.specs.declared.item.Item.TheVariants.{At}
use Rattle.ms_pool.specs.ByNumber.{Reference}
use Rattle.ms_code.specs.declared.decoded.Step.{Step}
use Rattle.ms_code.specs.Codes.{targets_of}
use Rattle.ms_program.specs.declared.body.Body.{Body}
use Rattle.ms_program.specs.Programs.{Class, Program, body_in, body_of, method_id}
use Rattle.ms_program.specs.Views.{View, bare, has_view, initialiser_there, member_part, named_in, numbered_by_name, reference_in, step_of, view, view_at}
use Rattle.ms_program.proofs.Picking.{joined, some_is, there}

-- the item has a view, and it is this one
pub is_view : (P : Program) (item : Item) (v : View) → view P item ≡ Some v → (has_view P item ≡ true) × (view_at P item ≡ v)
is_view P item v is = by_test (has_view P item) refl is
  where
    by_test : (b : Bool) → has_view P item ≡ b → cond b (Some (view_at P item)) None ≡ Some v → (has_view P item ≡ true) × (view_at P item ≡ v)
    by_test true has e = (has, some_is (view_at P item) v e)
    by_test false has e = absurd (let f = e in cc)

-- what a list that may hold nothing at a place holds there
pub slot_is : {X : Type 0} (slots : List (Option X)) (i : ℕ) (x : X) → option_and_then (λ (slot : Option X). slot) (slice_get slots i) ≡ Some x → slice_get slots i ≡ Some (Some x)
slot_is {X = X} slots i x is =
    let found = joined (λ (slot : Option X). slot) (slice_get slots i) x is in
    found.1 ∙ ap (λ (slot : Option X). Some slot) found.2

-- the class, the body and the step of an item
pub record Stands (P : Program) (number method offset : ℕ) : Type 0 where
  pub class : Class
  pub body : Body
  pub step : Step
  pub class_there : slice_get P.classes number ≡ Some class
  pub body_there : slice_get class.bodies method ≡ Some (Some body)
  pub step_there : slice_get body.code.steps offset ≡ Some (Some step)

-- an instruction that has a view stands there
pub stands : (P : Program) (number method offset : ℕ) → has_view P (At number method offset) ≡ true → Stands P number method offset
stands P number method offset has =
    let step = there (step_of P (At number method offset)) has in
    let body = joined _ (body_of P (method_id number method)) step.0 step.1 in
    let class = joined (λ (c : Class). body_in c method) (slice_get P.classes number) body.0 body.1 in
    record {
      class = class.0;
      body = body.0;
      step = step.0;
      class_there = class.1;
      body_there = slot_is class.0.bodies method body.0 class.2;
      step_there = slot_is body.0.code.steps offset step.0 body.2;
    }

module _ (P : Program) (number method offset : ℕ) (at : Stands P number method offset) where
  -- its method's body
  pub body_known : body_of P (method_id number method) ≡ Some at.body
  body_known = rw (at.class_there, at.body_there) refl

  -- what the view of an instruction says of it
  pub instr_seen : (view_at P (At number method offset)).instr ≡ Some (bare at.step.instr)
  instr_seen = rw (at.class_there, at.body_there, at.step_there) refl

  pub named_seen : (view_at P (At number method offset)).named ≡ named_in at.class at.step.instr
  named_seen = rw (at.class_there, at.body_there, at.step_there) refl

  pub targets_seen : (view_at P (At number method offset)).targets ≡ map (At number method) (targets_of at.step.instr.operand)
  targets_seen = rw (at.class_there, at.body_there, at.step_there) refl

  pub member_seen : (view_at P (At number method offset)).member ≡ option_map (λ (reference : Reference). member_part at.step.instr.op reference (numbered_by_name P reference.class)) (reference_in at.class at.step.instr)
  member_seen = rw (at.class_there, at.body_there, at.step_there) refl

  pub initialiser_seen : (view_at P (At number method offset)).initialiser ≡ option_map initialiser_there (option_map (λ (reference : Reference). numbered_by_name P reference.class) (reference_in at.class at.step.instr))
  initialiser_seen = rw (at.class_there, at.body_there, at.step_there) refl
