-- The instruction of a view is one of the subset.
use Rattle.std.proofs.Common.{◌≡◌, ℕ, suc, ◌≤◌, ◌<◌, ◌^◌, List, [], ◌∷◌, length, map, slice_get, Bool, true, false, Option, Some, None, ℤ, refl, sym, ap, subst, ◌∙◌, arith, inl, inr}
use Rattle.std.specs.Prelude.{◌&&◌, ◌||◌, ◌==◌, not, is_some, option_map, option_and_then, int_lt, codes}
use Rattle.std.proofs.lemmas.Bool.{ne_eqb}
use Rattle.std.proofs.lemmas.List.{length-append, length-map}
use Rattle.ms_words.specs.declared.item.Item.{Item}
use Rattle.ms_words.specs.declared.item.Item.TheVariants.{At}
use Rattle.ms_words.specs.Descriptors.{field_type_of, signature_of}
use Rattle.ms_words.specs.Throwables.{thrown_named}
use Rattle.std.specs.Str.{bytes_eq}
use Rattle.ms_pool.specs.ByNumber.{Reference, class_name, integer, member, string_text}
use Rattle.ms_pool.specs.Pools.{has_tag}
use Rattle.ms_code.specs.declared.form.Form.{Form}
use Rattle.ms_code.specs.declared.form.Form.TheVariants.{Plain, SignedByte, SignedShort, ConstantByte, ConstantShort, LocalIndex, LocalAndByte, BranchShort, TableCases, LookupCases, FieldIndex, ConstructorIndex, MethodIndex, ClassIndex, ArrayType, Widened, BranchInt}
use Rattle.ms_code.specs.declared.instruction.Case.{Case}
use Rattle.ms_code.specs.declared.instruction.Instr.{Instr}
use Rattle.ms_code.specs.declared.instruction.Operand.{Operand}
use Rattle.ms_code.specs.declared.instruction.Operand.TheVariants as operands
use Rattle.ms_code.specs.declared.decoded.Step.{Step}
use Rattle.ms_code.specs.Codes.{case_targets, step_at, targets_of}
use Rattle.ms_code.specs.Instructions.{holds_of, is_constant, is_constructor, is_field, is_message, is_method, is_throwable}
use Rattle.ms_code.specs.Keys.{SwitchCases, ascend_above, keys_ascend}
use Rattle.ms_code.specs.Laws.{Slots, has_form, has_keys_in_order, is_cases, is_increment, is_local, is_nothing, is_number, is_of_form, is_target, is_widened, is_word}
use Rattle.ms_code.specs.Opcodes.{form_of}
use Rattle.ms_program.specs.declared.body.Body.{Body}
use Rattle.ms_program.specs.Laws.{HasCases, HasForm, IsConstant, IsOfSubset, NamesConstructor, NamesField, NamesMethod, NamesStatic}
use Rattle.ms_program.specs.Programs.{Class, Program}
use Rattle.ms_program.specs.Views.{Text, Throwable, View, bare, bare_case, bare_operand, constant_named, initialiser_there, is_static_member_op, member_part, name_of_member, named_by, numbered_by_name, pool_index, reference_in, view, view_at}
use Rattle.ms_program.proofs.WholeCodes.{HasWholeCode, NamesConstants}
use Rattle.ms_program.proofs.Opcodes.{IsBounded, field_op, form_bounded, names_static}
use Rattle.ms_program.proofs.Picking.{both_true, there}
use Rattle.ms_program.proofs.Standing.{Stands, initialiser_seen, instr_seen, is_view, member_seen, named_seen, stands, targets_seen}

-- OPERANDS

-- what was found, for which the test holds
holds : {X : Type 0} (test : X → Bool) (found : Option X) → holds_of test found ≡ true → (x : X) × (found ≡ Some x) × (test x ≡ true)
holds test (Some x) is = (x, refl, is)
holds test None is = absurd (let e = is in cc)

-- an operand of a form without its number of the pool and its targets, and what of it these tell
nothing_is : (operand : Operand) → is_nothing operand ≡ true → bare_operand operand ≡ operands.Nothing
nothing_is operands.Nothing is = refl
nothing_is other is = absurd (let e = is in cc)

word_is : (operand : Operand) → is_word operand ≡ true → (word : ℤ) × (bare_operand operand ≡ operands.Word word)
word_is (operands.Word word) is = (word, refl)
word_is other is = absurd (let e = is in cc)

local_is : (operand : Operand) → is_local operand ≡ true → (index : ℕ) × (bare_operand operand ≡ operands.Local index)
local_is (operands.Local index) is = (index, refl)
local_is other is = absurd (let e = is in cc)

increment_is : (operand : Operand) → is_increment operand ≡ true → (index : ℕ) × (by : ℤ) × (bare_operand operand ≡ operands.Increment index by)
increment_is (operands.Increment index by) is = (index, by, refl)
increment_is other is = absurd (let e = is in cc)

number_is : (test : ℕ → Bool) (operand : Operand) → is_number test operand ≡ true → (i : ℕ) × (pool_index operand ≡ Some i) × (test i ≡ true)
number_is test (operands.Pool i) is = (i, refl, is)
number_is test other is = absurd (let e = is in cc)

target_is : (operand : Operand) → is_target operand ≡ true → (target : ℕ) × (targets_of operand ≡ target ∷ [])
target_is (operands.Target target) is = (target, refl)
target_is other is = absurd (let e = is in cc)

cases_is : (operand : Operand) → is_cases operand ≡ true → (switch : SwitchCases) × (operand ≡ operands.Cases switch)
cases_is (operands.Cases switch) is = (switch, refl)
cases_is other is = absurd (let e = is in cc)

-- keys are in the same order without the targets
bare_above : (key : ℤ) (cases : List Case) → ascend_above key (map bare_case cases) ≡ ascend_above key cases
bare_above key [] = refl
bare_above key (case ∷ cases) = ap (λ (b : Bool). int_lt key case.key && b) (bare_above case.key cases)

-- and so are all of a switch
bare_keys : (cases : List Case) → keys_ascend (map bare_case cases) ≡ keys_ascend cases
bare_keys [] = refl
bare_keys (case ∷ cases) = bare_above case.key cases

-- NAMES

-- what is named where the number's entry is an Integer or a String
constant_is : (pool : Slots) → NamesConstants pool → (i : ℕ) → is_constant pool i ≡ true → IsConstant (constant_named pool i (integer pool i))
constant_is pool names i is = by_word (integer pool i) refl
  where
    by_text : (text : Option (List ℕ)) → is_some text ≡ true → IsConstant (option_map Text text)
    by_text (Some text) some = inr (text, refl)
    by_text None some = absurd (let e = some in cc)

    or_other : (a b : Bool) → a ≡ false → (a || b) ≡ true → b ≡ true
    or_other false b none either = either
    or_other true b none either = absurd (let e = none in cc)

    by_word : (word : Option ℤ) → integer pool i ≡ word → IsConstant (constant_named pool i word)
    by_word (Some word) found = inl (word, refl)
    by_word None found =
        let no_word : has_tag pool i 3 ≡ false = sym (names.integer i) ∙ ap is_some found in
        by_text (string_text pool i) (names.text i ∙ or_other (has_tag pool i 3) (has_tag pool i 8) no_word is)

-- what is named by an opcode of members
member_named : (pool : Slots) (op i : ℕ) → 178 ≤ op → op ≤ 184 → named_by pool op i ≡ option_map name_of_member (member pool i)
member_named pool op i least greatest =
    let no_byte : (op == 18) ≡ false = ne_eqb op 18 (λ same. absurd (omega (arith, least, same))) in
    let no_short : (op == 19) ≡ false = ne_eqb op 19 (λ same. absurd (omega (arith, least, same))) in
    let no_class : (op == 187) ≡ false = ne_eqb op 187 (λ same. absurd (omega (arith, greatest, same))) in
    rw (no_byte, no_short, no_class) refl

-- what is said of `wide` holds where it stands
wide_so : (wide test : Bool) → (not wide || test) ≡ true → wide ≡ true → test ≡ true
wide_so true test either is = either
wide_so false test either is = absurd (let e = is in cc)

-- AN INSTRUCTION

module _ (P : Program) (number method offset : ℕ) (at : Stands P number method offset) (code : HasWholeCode at.class at.body) where
  -- the view of the instruction
  abbrev seen : View
  seen = view_at P (At number method offset)

  -- the pool of its class
  abbrev pool : Slots
  pool = at.class.pool

  -- its opcode
  abbrev op : ℕ
  op = at.step.instr.op

  -- its operand, with its number of the pool and its targets
  abbrev operand : Operand
  operand = at.step.instr.operand

  -- what its number names
  named_at : (i : ℕ) → pool_index operand ≡ Some i → seen.named ≡ named_by pool op i
  named_at i index = named_seen P number method offset at ∙ ap (option_and_then (named_by pool op)) index

  -- an int or a text
  constant_at : (i : ℕ) → pool_index operand ≡ Some i → named_by pool op i ≡ constant_named pool i (integer pool i) → is_constant pool i ≡ true → IsConstant seen.named
  constant_at i index by_op test = subst IsConstant (sym (named_at i index ∙ by_op)) (constant_is pool code.constants i test)

  -- a static member
  static_at : (i : ℕ) (reference : Reference) → pool_index operand ≡ Some i → member pool i ≡ Some reference → 178 ≤ op → op ≤ 184 → is_static_member_op op ≡ true → NamesStatic seen reference.desc
  static_at i reference index found least greatest static =
      let named : reference_in at.class at.step.instr ≡ Some reference = rw (static, index, found) refl in
      record {
        class = reference.class;
        name = reference.name;
        named = named_at i index ∙ member_named pool op i least greatest ∙ ap (option_map name_of_member) found;
        part = member_part op reference (numbered_by_name P reference.class);
        member = member_seen P number method offset at ∙ ap (option_map (λ (r : Reference). member_part op r (numbered_by_name P r.class))) named;
        state = initialiser_there (numbered_by_name P reference.class);
        initialiser = initialiser_seen P number method offset at ∙ ap (λ (r : Option Reference). option_map initialiser_there (option_map (λ (reference : Reference). numbered_by_name P reference.class) r)) named;
      }

  -- a static field
  field_at : IsBounded op FieldIndex → is_number (is_field pool) operand ≡ true → NamesField seen
  field_at bounded is =
      let number = number_is (is_field pool) operand is in
      let reference = holds _ (member pool number.0) number.2 in
      let known = both_true (reference.0.tag == 9) (is_some (field_type_of reference.0.desc)) reference.2 in
      let field_type = there (field_type_of reference.0.desc) known.1 in
      record {
        desc = reference.0.desc;
        names = static_at number.0 reference.0 number.1 reference.1 bounded.least (omega (arith, bounded.greatest)) (names_static op (field_op op bounded));
        field_type = field_type.0;
        type_is = field_type.1;
      }

  -- a static method
  method_at : IsBounded op MethodIndex → is_number (is_method pool) operand ≡ true → NamesMethod seen
  method_at bounded is =
      let number = number_is (is_method pool) operand is in
      let reference = holds _ (member pool number.0) number.2 in
      let known = both_true (reference.0.tag == 10) (is_some (signature_of reference.0.desc)) reference.2 in
      let signature = there (signature_of reference.0.desc) known.1 in
      record {
        desc = reference.0.desc;
        names = static_at number.0 reference.0 number.1 reference.1 (omega (arith, bounded.least)) bounded.greatest (names_static op (inr (inr (omega (arith, bounded.least, bounded.greatest)))));
        signature = signature.0;
        signature_is = signature.1;
      }

  -- a constructor
  constructor_at : IsBounded op ConstructorIndex → is_number (is_constructor pool) operand ≡ true → NamesConstructor seen
  constructor_at bounded is =
      let number = number_is (is_constructor pool) operand is in
      let reference = holds _ (member pool number.0) number.2 in
      let class = both_true (is_some (thrown_named reference.0.class)) (bytes_eq reference.0.name (codes "<init>") && is_message reference.0.desc) (both_true (reference.0.tag == 10) _ reference.2).1 in
      let thrown = there (thrown_named reference.0.class) class.0 in
      record {
        class = reference.0.class;
        name = reference.0.name;
        desc = reference.0.desc;
        named = named_at number.0 number.1 ∙ member_named pool op number.0 (omega (arith, bounded.least)) (omega (arith, bounded.greatest)) ∙ ap (option_map name_of_member) reference.1;
        thrown = thrown.0;
        thrown_is = thrown.1;
        message = (both_true (bytes_eq reference.0.name (codes "<init>")) (is_message reference.0.desc) class.1).1;
      }

  -- a throwable
  throwable_at : IsBounded op ClassIndex → is_number (is_throwable pool) operand ≡ true → (thrown : _) × (seen.named ≡ Some (Throwable thrown))
  throwable_at bounded is =
      let number = number_is (is_throwable pool) operand is in
      let name = holds (λ (n : List ℕ). is_some (thrown_named n)) (class_name pool number.0) number.2 in
      let thrown = there (thrown_named name.0) name.2 in
      let is_new : op ≡ 187 = omega (arith, bounded.least, bounded.greatest) in
      (thrown.0, named_at number.0 number.1 ∙ ap (λ (n : ℕ). named_by pool n number.0) is_new ∙ ap (λ (n : Option (List ℕ)). option_map Throwable (option_and_then thrown_named n)) name.1 ∙ ap (option_map Throwable) thrown.1)

  -- a switch
  cases_at : is_cases operand ≡ true → HasCases seen (bare_operand operand)
  cases_at is =
      let switch = cases_is operand is in
      let here : option_map (λ (step : Step). step.instr) (step_at at.body.code.steps offset) ≡ Some at.step.instr = rw at.step_there refl in
      let keys : keys_ascend switch.0.cases ≡ true = sym (ap has_keys_in_order switch.1) ∙ code.whole.keys offset at.step.instr here in
      let few : length (targets_of operand) < 2 ^ 16 = omega (arith, code.whole.few offset at.step.instr here, code.short) in
      let seen_many : length seen.targets ≡ length (targets_of operand) = ap (λ (items : List Item). length items) (targets_seen P number method offset at) ∙ length-map (targets_of operand) (At number method) in
      let many : length (targets_of operand) ≡ suc (length switch.0.cases) = ap (λ (o : Operand). length (targets_of o)) switch.1 ∙ omega (arith, length-append (case_targets switch.0.cases) (switch.0.otherwise ∷ []), length-map switch.0.cases (λ (case : Case). case.target)) in
      record {
        switch = record { cases = map bare_case switch.0.cases; otherwise = 0 };
        operand_is = ap bare_operand switch.1;
        ascending = bare_keys switch.0.cases ∙ keys;
        targets = seen_many ∙ many ∙ ap (λ (n : ℕ). suc n) (sym (length-map switch.0.cases bare_case));
        few = omega (arith, seen_many, few);
      }

  -- a branch
  branch_at : is_target operand ≡ true → (item : Item) × (seen.targets ≡ item ∷ [])
  branch_at is =
      let target = target_is operand is in
      (At number method target.0, targets_seen P number method offset at ∙ ap (map (At number method)) target.1)

  -- its view is that of an instruction of its form
  form_at : (form : Form) → IsBounded op form → has_form pool form operand ≡ true → HasForm form seen (bare_operand operand)
  form_at Plain bounded is = nothing_is operand is
  form_at SignedByte bounded is = word_is operand is
  form_at SignedShort bounded is = word_is operand is
  form_at ConstantByte bounded is =
      let number = number_is (is_constant pool) operand is in
      let is_byte : op ≡ 18 = omega (arith, bounded.least, bounded.greatest) in
      constant_at number.0 number.1 (ap (λ (n : ℕ). named_by pool n number.0) is_byte) number.2
  form_at ConstantShort bounded is =
      let number = number_is (is_constant pool) operand is in
      let is_short : op ≡ 19 = omega (arith, bounded.least, bounded.greatest) in
      constant_at number.0 number.1 (ap (λ (n : ℕ). named_by pool n number.0) is_short) number.2
  form_at LocalIndex bounded is = local_is operand is
  form_at LocalAndByte bounded is = increment_is operand is
  form_at BranchShort bounded is = branch_at is
  form_at TableCases bounded is = cases_at is
  form_at LookupCases bounded is = cases_at is
  form_at FieldIndex bounded is = field_at bounded is
  form_at ConstructorIndex bounded is = constructor_at bounded is
  form_at MethodIndex bounded is = method_at bounded is
  form_at ClassIndex bounded is = throwable_at bounded is
  form_at ArrayType bounded is = nothing_is operand is
  form_at Widened bounded is = absurd (let e = is in cc)
  form_at BranchInt bounded is = branch_at is

  -- so it is one of the subset
  of_subset_at : IsOfSubset seen (bare at.step.instr)
  of_subset_at =
      let here : option_map (λ (step : Step). step.instr) (step_at at.body.code.steps offset) ≡ Some at.step.instr = rw at.step_there refl in
      let form = holds (is_of_form pool at.step.instr) (form_of op) (code.whole.fits offset at.step.instr here) in
      let parts = both_true (has_form pool form.0 operand) (not at.step.instr.wide || is_widened form.0) form.2 in
      record {
        form = form.0;
        form_is = form.1;
        widens = wide_so at.step.instr.wide (is_widened form.0) parts.1;
        has = form_at form.0 (form_bounded op form.0 form.1) parts.0;
      }

-- THE LAW

-- the instruction of each view of an instruction is one of the subset
pub of_subset : (P : Program) → ((number method : ℕ) (class : Class) (body : Body) → slice_get P.classes number ≡ Some class → slice_get class.bodies method ≡ Some (Some body) → HasWholeCode class body)
    → (number method offset : ℕ) (v : View) → view P (At number method offset) ≡ Some v → (instr : Instr) × (v.instr ≡ Some instr) × IsOfSubset v instr
of_subset P whole number method offset v is =
    let one = is_view P (At number method offset) v is in
    let at = stands P number method offset one.0 in
    let code = whole number method at.class at.body at.class_there at.body_there in
    subst (λ (w : View). (instr : Instr) × (w.instr ≡ Some instr) × IsOfSubset w instr) one.1 (bare at.step.instr, instr_seen P number method offset at, of_subset_at P number method offset at code)
