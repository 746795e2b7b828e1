-- The first instructions of methods that are called, and of initialisers, are known.
use Rattle.std.proofs.Common.{◌≡◌, ℕ, true, Option, Some, None, refl, sym, ap, subst, ◌∙◌}
use Rattle.std.specs.Prelude.{is_some, option_map, option_and_then}
use Rattle.std.specs.Option.{option_map_or}
use Rattle.ms_words.specs.declared.item.Item.{Item}
use Rattle.ms_words.specs.declared.item.Item.TheVariants.{Entry, At}
use Rattle.ms_pool.specs.ByNumber.{Reference}
use Rattle.ms_code.specs.declared.instruction.Instr.{Instr}
use Rattle.ms_program.specs.declared.body.Body.{Body}
use Rattle.ms_program.specs.declared.view.Initialiser.TheVariants.{Absent, Present}
use Rattle.ms_program.specs.declared.view.MemberPart.{MemberPart}
use Rattle.ms_program.specs.Laws.{HasFirstItems}
use Rattle.ms_program.specs.Programs.{Class, Program, body_in, if_known, initialiser_in, initialiser_method, initialiser_place, method_in, state_of}
use Rattle.ms_program.specs.Views.{Numbered, View, bare, first_item_of, first_of, initialiser_first, initialiser_there, instr_of, member_of, member_part, method_first, numbered_by_name, op_of, reference_of, view, whose}
use Rattle.ms_program.proofs.Picking.{mapped}
use Rattle.ms_program.proofs.Standing.{is_view}

-- what is there still is once it is mapped
still_there : {A B : Type 0} (f : A → B) (found : Option A) → is_some found ≡ true → is_some (option_map f found) ≡ true
still_there f (Some x) is = refl
still_there f None is = absurd (let e = is in cc)

-- INITIALISERS

-- an initialiser that isn't foreign is a method that is known
known_there : (class : Class) (place : Option ℕ) → option_map_or (λ (method : ℕ). state_of (body_in class method)) place Absent ≡ Present → is_some (option_and_then (if_known class) place) ≡ true
known_there class None is = absurd (let e = is in cc)
known_there class (Some method) is = by_body (body_in class method) is
  where
    by_body : (body : Option Body) → state_of body ≡ Present → is_some (option_map (λ (b : Body). method) body) ≡ true
    by_body (Some body) e = refl
    by_body None e = absurd (let f = e in cc)

-- so its first instruction is
initialiser_known : (class : Option (Option Numbered)) → option_map initialiser_there class ≡ Some Present → is_some (option_and_then initialiser_first class) ≡ true
initialiser_known None is = absurd (let e = is in cc)
initialiser_known (Some None) is = absurd (let e = is in cc)
initialiser_known (Some (Some known)) is =
    let present : initialiser_in known.1 ≡ Present = let e = is in cc in
    still_there (first_of known.0) (initialiser_method known.1) (known_there known.1 (initialiser_place known.1) present)

-- METHODS

-- a method that is there and called is known
called_known : (reference : Reference) (class : Option Numbered) → (member_part 184 reference class).member_present ≡ true → is_some (method_first 184 reference class) ≡ true
called_known reference None is = absurd (let e = is in cc)
called_known reference (Some known) is = still_there (first_of known.0) (method_in known.1 reference.name reference.desc) is

-- so its first instruction is
callee_known : (P : Program) (item : Item) (instr : Instr) (part : MemberPart) → option_map bare (instr_of P item) ≡ Some instr → instr.op ≡ 184 → member_of P item ≡ Some part → part.member_present ≡ true → is_some (first_item_of P item) ≡ true
callee_known P Entry instr part is called names present = absurd (let e = is in cc)
callee_known P (At number method offset) instr part is called names present =
    let item : Item = At number method offset in
    let whole = mapped bare (instr_of P item) instr is in
    let op : op_of P item ≡ Some 184 = ap (option_map (λ (i : Instr). i.op)) whole.1 ∙ ap (λ (n : ℕ). Some n) (ap (λ (i : Instr). i.op) whole.2 ∙ called) in
    let named : option_map (λ (reference : Reference). member_part 184 reference (numbered_by_name P reference.class)) (reference_of P item) ≡ Some part =
    sym (ap (option_and_then (λ (n : ℕ). option_map (λ (reference : Reference). member_part n reference (numbered_by_name P reference.class)) (reference_of P item))) op) ∙ names in
    let reference = mapped (λ (reference : Reference). member_part 184 reference (numbered_by_name P reference.class)) (reference_of P item) part named in
    ap (λ (n : Option ℕ). is_some (option_and_then (λ (n : ℕ). option_and_then (λ (reference : Reference). method_first n reference (numbered_by_name P reference.class)) (reference_of P item)) n)) op
    ∙ ap (λ (r : Option Reference). is_some (option_and_then (λ (reference : Reference). method_first 184 reference (numbered_by_name P reference.class)) r)) reference.1
    ∙ called_known reference.0 (numbered_by_name P reference.0.class) (ap (λ (m : MemberPart). m.member_present) reference.2 ∙ present)

-- THE LAW

-- the view of each item has them
pub first_items : (P : Program) (item : Item) (v : View) → view P item ≡ Some v → HasFirstItems v
first_items P item v is = subst HasFirstItems (is_view P item v is).1 (record { callee = callee_known P item; initialiser = initialiser_known (whose P item) })
