-- Where methods begin that are called, and initialisers.
use Rattle.std.proofs.Common.{◌≡◌, ◌<◌, ℕ, Bool, true, false, ◌==◌, cond, List, [], ◌∷◌, length, get_or, slice_get, Option, Some, None, refl, sym, ap, subst, ◌∙◌, arith}
use Rattle.std.specs.Prelude.{codes, is_some, option_and_then, option_map}
use Rattle.std.proofs.lemmas.Bool.{eqb-true}
use Rattle.std.proofs.lemmas.List.FromFn.{length-map-range_with_len}
use Rattle.std.proofs.lemmas.List.Quantifiers.{position-Some}
use Rattle.std.proofs.lemmas.Option.{slice_get-get_or}
use Rattle.ms_words.specs.declared.item.Item.{Item}
use Rattle.ms_words.specs.declared.item.Item.TheVariants.{Entry, At}
use Rattle.ms_words.specs.Descriptors.{Signature, signature_of}
use Rattle.ms_pool.specs.ByNumber.{Reference, member}
use Rattle.ms_code.specs.declared.decoded.Step.{Step}
use Rattle.ms_code.specs.declared.instruction.Instr.{Instr}
use Rattle.ms_code.specs.declared.instruction.Operand.{Operand}
use Rattle.ms_code.specs.Codes.{step_at}
use Rattle.ms_program.specs.declared.body.Body.{Body}
use Rattle.ms_program.specs.declared.method.MethodId.{MethodId}
use Rattle.ms_program.specs.Laws.{IsInstruction}
use Rattle.ms_program.specs.Names.{Key, is_named, place_named, same_key}
use Rattle.ms_program.specs.Programs.{Class, Program, body_in, body_of, if_known, initialiser_method, key_of, method_id, method_in}
use Rattle.ms_program.specs.Views.{Name, Member, Numbered, first_of, initialiser_first, is_static_member_op, method_first, name_of_member, named_by, named_in, numbered, numbered_by_name, pool_index, reference_in, reference_of, view_at, whose}
use Rattle.ms_program.proofs.Picking.{joined, mapped}
use Rattle.ms_program.proofs.Standing.{Stands, named_seen}
use Rattle.ms_typing.specs.Typed.{Begins}
use Rattle.ms_typing.specs.Verifier.{Cell}
use Rattle.ms_verify.specs.Methods.{line_of, method_with}
use Rattle.ms_verify.proofs.Seeing.{makes_method}
use Rattle.ms_verify.proofs.Solved.{IsKnown, leads_there, solves, typings}

-- METHODS OF A CLASS

-- what stands where a name and a descriptor are found first
place_is : (name desc : List ℕ) (keys : List Key) (place : ℕ) → place_named name desc keys ≡ Some place → (key : Key) × (slice_get keys place ≡ Some key) × (desc ≡ key.1)
place_is name desc keys place is =
    let at = position-Some (is_named name desc) keys place ([], []) is in
    let key = get_or keys place ([], []) in
    (key, slice_get-get_or keys place ([], []) at.0, (same_key name desc key at.1).1)

-- an instruction at the start of a body
some_steps : (P : Program) (class number : ℕ) (body : Body) → body_of P (method_id class number) ≡ Some body → IsInstruction P (At class number 0) → 0 < length body.code.steps
some_steps P class number body is first = by_steps body.code.steps (subst (λ o. is_some (option_and_then (λ (b : Body). step_at b.code.steps 0) o) ≡ true) is first)
  where
    by_steps : (steps : List (Option Step)) → is_some (step_at steps 0) ≡ true → 0 < length steps
    by_steps [] some = absurd (let e = some in cc)
    by_steps (step ∷ steps) some = omega arith

-- the class of this number
numbered_is : (P : Program) (number : ℕ) (known : Numbered) → numbered P number ≡ Some known → slice_get P.classes known.0 ≡ Some known.1
numbered_is P number known is =
    let class = mapped (λ (class : Class). (number, class)) (slice_get P.classes number) known is in
    subst (λ (k : Numbered). slice_get P.classes k.0 ≡ Some k.1) class.2 class.1

named_is : (P : Program) (name : List ℕ) (known : Numbered) → numbered_by_name P name ≡ Some known → slice_get P.classes known.0 ≡ Some known.1
named_is P name known is = let number = joined (numbered P) _ known is in numbered_is P number.0 known number.2

module _ (P : Program) (cells : ℕ → ℕ → List Cell) (known : IsKnown P cells) where
  -- a method that has a first instruction begins there
  pub method_begins : (class number : ℕ) (key : Key) (body : Body) (signature : Signature) → key_of P (method_id class number) ≡ Some key → body_of P (method_id class number) ≡ Some body → signature_of key.1 ≡ Some signature
      → IsInstruction P (At class number 0) → Begins (typings P cells) (Some (At class number 0)) signature.parameters signature.result
  method_begins class number key body signature key_is body_is signature_is first =
      let is = makes_method P class number key body signature key_is body_is signature_is in
      let code = length-map-range_with_len (line_of P class number) 0 (length body.code.steps) in
      let solution = solves P cells known class number (method_with P class number body signature) is (omega (arith, code, some_steps P class number body body_is first)) in
      record { count = body.max_locals; leads = leads_there P cells class number 0 (method_with P class number body signature) _ _ is refl solution.entry }

  -- so does one that a name and a descriptor name in a class
  named_begins : (class : Numbered) (name desc : List ℕ) (number : ℕ) (signature : Signature) → slice_get P.classes class.0 ≡ Some class.1 → method_in class.1 name desc ≡ Some number → signature_of desc ≡ Some signature
      → IsInstruction P (At class.0 number 0) → Begins (typings P cells) (Some (At class.0 number 0)) signature.parameters signature.result
  named_begins class name desc number signature there is signature_is first =
      let place = joined (if_known class.1) (place_named name desc class.1.methods) number is in
      let body = mapped (λ (body : Body). place.0) (body_in class.1 place.0) number place.2 in
      let key = place_is name desc class.1.methods place.0 place.1 in
      method_begins class.0 number key.0 body.0 signature
      (ap (option_and_then (λ (c : Class). slice_get c.methods number)) there ∙ subst (λ n. slice_get class.1.methods n ≡ Some key.0) body.2 key.1)
      (ap (option_and_then (λ (c : Class). body_in c number)) there ∙ subst (λ n. body_in class.1 n ≡ Some body.0) body.2 body.1)
      (subst (λ d. signature_of d ≡ Some signature) key.2 signature_is) first

  -- INITIALISERS

  first_begins : (class : Option Numbered) (to : Item) → ((numbered : Numbered) → class ≡ Some numbered → slice_get P.classes numbered.0 ≡ Some numbered.1) → initialiser_first class ≡ Some to → IsInstruction P to → Begins (typings P cells) (Some to) [] None
  first_begins class to there is first =
      let whose = joined (λ (numbered : Numbered). option_map (first_of numbered.0) (initialiser_method numbered.1)) class to is in
      let number = mapped (first_of whose.0.0) (initialiser_method whose.0.1) to whose.2 in
      subst (λ (item : Item). Begins (typings P cells) (Some item) [] None) number.2
      (named_begins whose.0 (codes "<clinit>") (codes "()V") number.0 (record { parameters = []; result = None }) (there whose.0 whose.1) number.1 refl (subst (IsInstruction P) (sym number.2) first))

  -- the class whose initialiser counts is one of the program
  whose_is : (item : Item) (class : Numbered) → whose P item ≡ Some (Some class) → slice_get P.classes class.0 ≡ Some class.1
  whose_is Entry class is = let id = mapped (λ (id : MethodId). numbered P id.class) P.entry (Some class) is in numbered_is P id.0.class class id.2
  whose_is (At number method offset) class is =
      let reference = mapped (λ (reference : Reference). numbered_by_name P reference.class) (reference_of P (At number method offset)) (Some class) is in
      named_is P reference.0.class class reference.2

  -- an initialiser of which a view has the first instruction begins there
  pub initialiser_begins : (item to : Item) → (view_at P item).initialiser_item ≡ Some to → IsInstruction P to → Begins (typings P cells) (Some to) [] None
  initialiser_begins item to is first =
      let class = joined initialiser_first (whose P item) to is in
      first_begins class.0 to (λ numbered e. whose_is item numbered (class.1 ∙ ap (λ c. Some c) e)) class.2 first

  -- METHODS THAT ARE CALLED

  -- behind `invokestatic` the member that is named is the one that is called
  reference_named : (class : Class) (operand : Operand) (reference : Reference) → option_and_then (member class.pool) (pool_index operand) ≡ Some reference → option_and_then (named_by class.pool 184) (pool_index operand) ≡ Some (name_of_member reference)
  reference_named class operand reference is =
      let index = joined (member class.pool) (pool_index operand) reference is in
      ap (option_and_then (named_by class.pool 184)) index.1 ∙ ap (option_map name_of_member) index.2

  called_named : (class : Class) (instr : Instr) (reference : Reference) → instr.op ≡ 184 → reference_in class instr ≡ Some reference → named_in class instr ≡ Some (name_of_member reference)
  called_named class instr reference is found =
      ap (λ n. option_and_then (named_by class.pool n) (pool_index instr.operand)) is
      ∙ reference_named class instr.operand reference (subst (λ n. cond (is_static_member_op n) (option_and_then (member class.pool) (pool_index instr.operand)) None ≡ Some reference) is found)

  same_descriptor : (class name desc : List ℕ) (reference : Reference) → ◌≡◌ {A = Option Name} (Some (Member class name desc)) (Some (name_of_member reference)) → desc ≡ reference.desc
  same_descriptor class name desc reference is = cc

  -- a method that an instruction calls, and of which its view has the first instruction, begins there
  pub callee_begins : (class number offset : ℕ) (to : Item) (other name desc : List ℕ) (signature : Signature) → Stands P class number offset → (view_at P (At class number offset)).first_item ≡ Some to
      → (view_at P (At class number offset)).named ≡ Some (Member other name desc) → signature_of desc ≡ Some signature → IsInstruction P to → Begins (typings P cells) (Some to) signature.parameters signature.result
  callee_begins class number offset to other name desc signature at is named signature_is first =
      let reference = joined (λ (reference : Reference). method_first at.step.instr.op reference (numbered_by_name P reference.class)) (reference_in at.class at.step.instr) to (sym first_seen ∙ is) in
      by_test (at.step.instr.op == 184) refl reference.0 reference.1 reference.2
    where
      first_seen : (view_at P (At class number offset)).first_item ≡ option_and_then (λ (reference : Reference). method_first at.step.instr.op reference (numbered_by_name P reference.class)) (reference_in at.class at.step.instr)
      first_seen = rw (at.class_there, at.body_there, at.step_there) refl

      by_test : (b : Bool) → (at.step.instr.op == 184) ≡ b → (reference : Reference) → reference_in at.class at.step.instr ≡ Some reference
          → cond b (option_and_then (λ (known : Numbered). option_map (first_of known.0) (method_in known.1 reference.name reference.desc)) (numbered_by_name P reference.class)) None ≡ Some to → Begins (typings P cells) (Some to) signature.parameters signature.result
      by_test false op reference found e = absurd (let f = e in cc)
      by_test true op reference found e =
          let its_class = joined (λ (numbered : Numbered). option_map (first_of numbered.0) (method_in numbered.1 reference.name reference.desc)) (numbered_by_name P reference.class) to e in
          let place = mapped (first_of its_class.0.0) (method_in its_class.0.1 reference.name reference.desc) to its_class.2 in
          let is_op : at.step.instr.op ≡ 184 = eqb-true at.step.instr.op 184 op in
          let called : named_in at.class at.step.instr ≡ Some (name_of_member reference) = called_named at.class at.step.instr reference is_op found in
          let same : desc ≡ reference.desc = same_descriptor other name desc reference (sym named ∙ named_seen P class number offset at ∙ called) in
          subst (λ (item : Item). Begins (typings P cells) (Some item) signature.parameters signature.result) place.2
          (named_begins its_class.0 reference.name reference.desc place.0 signature (named_is P reference.class its_class.0 its_class.1) place.1 (subst (λ d. signature_of d ≡ Some signature) same signature_is) (subst (IsInstruction P) (sym place.2) first))
