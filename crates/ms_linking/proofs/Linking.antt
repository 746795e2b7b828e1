-- What the machine sees of a program's views.
use Rattle.std.proofs.Common.{◌≡◌, inl, inr, ◌<◌, Bool, true, false, ◌&&◌, ℤ, pos, negsuc, List, [], ◌∷◌, length, map, IsTrue, Option, Some, None, refl, sym, ap, subst, ◌∙◌, arith}
use Rattle.std.specs.Prelude.{int_lt, not, option_and_then, option_map}
use Rattle.std.specs.List.{list_all}
use Rattle.std.proofs.lemmas.Bool.{eqb-true}
use Rattle.std.proofs.lemmas.Int.{ints}
use Rattle.std.proofs.lemmas.List.{length-map}
use Rattle.ms_words.specs.declared.item.Item.{Item}
use Rattle.ms_words.specs.Relations.{int_eq}
use Rattle.ms_code.specs.declared.form.Form.{Form}
use Rattle.ms_code.specs.declared.form.Form.TheVariants.{Plain, SignedByte, SignedShort, ConstantByte, ConstantShort, LocalIndex, LocalAndByte, BranchShort, TableCases, LookupCases, FieldIndex, ConstructorIndex, MethodIndex, ClassIndex, ArrayType, Widened, BranchInt}
use Rattle.ms_code.specs.declared.instruction.Case.{Case}
use Rattle.ms_code.specs.declared.instruction.Instr as code
use Rattle.ms_code.specs.declared.instruction.Operand.{Operand}
use Rattle.ms_code.specs.Keys.{ascend_above, keys_ascend}
use Rattle.ms_program.specs.Laws.{HasCases, HasForm, IsConstant, IsOfSubset}
use Rattle.ms_program.specs.Programs.{Program, class_named}
use Rattle.ms_program.specs.Views as views
use Rattle.ms_program.specs.Views.{view}
use Rattle.ms_machine.specs.Instructions.{Instr, Switch}
use Rattle.ms_machine.specs.Laws.{keys_differ, keys_of}
use Rattle.ms_linking.specs.Groups.{Group, Fixed, OfWord, OfConstant, OfLoad, OfStore, OfIncrement, OfSwitch, OfGetStatic, OfPutStatic, OfInvoke, OfConstruct, OfNew, group_of}
use Rattle.ms_linking.specs.Laws.{fits, go_together, is_without_keys}
use Rattle.ms_linking.specs.Linked.{Numbers, instr_in, linked, linked_instr, views_of, with_instr}
use Rattle.ms_linking.proofs.Opcodes.{opcodes_have_groups}

-- KEYS

-- keys that differ and are fewer than 65,535
abbrev pub AreKeys : List ℤ → Type 0
AreKeys keys = IsTrue (keys_differ keys) × (length keys < 65535)

key_of : Case → ℤ
key_of case = case.key

int_same : (a b : ℤ) → int_eq a b ≡ true → a ≡ b
int_same (pos a) (pos b) is = ap pos (eqb-true a b is)
int_same (negsuc a) (negsuc b) is = ap negsuc (eqb-true a b is)
int_same (pos a) (negsuc b) is = absurd (let e = is in cc)
int_same (negsuc a) (pos b) is = absurd (let e = is in cc)

less_differs : (a b : ℤ) → int_lt a b ≡ true → not (int_eq a b) ≡ true
less_differs a b less = by_test (int_eq a b) refl
  where
    by_test : (t : Bool) → int_eq a b ≡ t → not t ≡ true
    by_test false is = refl
    by_test true is = let same : a ≡ b = int_same a b is in absurd (omega (arith, ints, subst (λ z. int_lt a z ≡ true) (sym same) less))

less_through : (a b c : ℤ) → int_lt a b ≡ true → int_lt b c ≡ true → int_lt a c ≡ true
less_through a b c less more = by_test (int_lt a c) refl
  where
    by_test : (t : Bool) → int_lt a c ≡ t → t ≡ true
    by_test true is = refl
    by_test false is = absurd (omega (arith, ints, less, more, is))

both : (a b : Bool) → (a && b) ≡ true → (a ≡ true) × (b ≡ true)
both true b is = (refl, is)
both false b is = absurd (let e = is in cc)

-- a key below the first is none of those that ascend from there
none_of_them : (low : ℤ) (cases : List Case) → ascend_above low cases ≡ true → list_all (λ other. not (int_eq low other)) (map (λ (case : Case). case.key) cases) ≡ true
none_of_them low [] ascend = refl
none_of_them low (case ∷ cases) ascend =
    let parts = both (int_lt low case.key) (ascend_above case.key cases) ascend in
    rw (less_differs low case.key parts.0) (none_of_them low cases (from_lower low case.key cases parts.0 parts.1))
  where
    from_lower : (low high : ℤ) (cases : List Case) → int_lt low high ≡ true → ascend_above high cases ≡ true → ascend_above low cases ≡ true
    from_lower low high [] less ascend = refl
    from_lower low high (case ∷ cases) less ascend =
        let parts = both (int_lt high case.key) (ascend_above case.key cases) ascend in
        rw (less_through low high case.key less parts.0) parts.1

above_differ : (low : ℤ) (cases : List Case) → ascend_above low cases ≡ true → keys_differ (map (λ (case : Case). case.key) cases) ≡ true
above_differ low [] ascend = refl
above_differ low (case ∷ cases) ascend =
    let parts = both (int_lt low case.key) (ascend_above case.key cases) ascend in
    rw (none_of_them case.key cases parts.1) (above_differ case.key cases parts.1)

ascending_differ : (cases : List Case) → keys_ascend cases ≡ true → keys_differ (map (λ (case : Case). case.key) cases) ≡ true
ascending_differ [] ascend = refl
ascending_differ (case ∷ cases) ascend = rw (none_of_them case.key cases ascend) (above_differ case.key cases ascend)

-- INSTRUCTIONS

-- an instruction is seen, and its keys are in order
record Sees (seen : Option Instr) : Type 0 where
  instr : Instr
  is : seen ≡ Some instr
  keys : AreKeys (keys_of instr)

without : (keys : List ℤ) → is_without_keys keys ≡ true → AreKeys keys
without [] is = (refl, omega arith)
without (key ∷ keys) is = absurd (let e = is in cc)

sees : {seen : Option Instr} (instr : Instr) → seen ≡ Some instr → is_without_keys (keys_of instr) ≡ true → Sees seen
sees instr is none = record { instr = instr; is = is; keys = without (keys_of instr) none }

module _ (numbers : Numbers) (v : views.View) (operand : Operand) where
  constant_seen : IsConstant v.named → Sees (instr_in numbers v operand OfConstant)
  constant_seen (inl word) = rw word.1 (sees _ refl refl)
  constant_seen (inr text) = rw text.1 (sees _ refl refl)

  switch_seen : HasCases v operand → Sees (instr_in numbers v operand OfSwitch)
  switch_seen has =
      let cases = has.switch.cases in
      rw has.operand_is (record {
        instr = Switch (map (λ (case : Case). case.key) cases);
        is = refl;
        keys = (ascending_differ cases has.ascending, omega (arith, length-map cases (λ (case : Case). case.key), has.targets, has.few));
      })

  known : (group : Group) (form : Form) → fits group form ≡ true → HasForm form v operand → Sees (instr_in numbers v operand group)
  known (Fixed instr) Plain fit has = sees instr refl fit
  known (Fixed instr) ArrayType fit has = sees instr refl fit
  known (Fixed instr) BranchShort fit has = sees instr refl fit
  known (Fixed instr) BranchInt fit has = sees instr refl fit
  known OfWord SignedByte fit has = rw has.1 (sees _ refl refl)
  known OfWord SignedShort fit has = rw has.1 (sees _ refl refl)
  known OfConstant ConstantByte fit has = constant_seen has
  known OfConstant ConstantShort fit has = constant_seen has
  known (OfLoad sort) LocalIndex fit has = rw has.1 (sees _ refl refl)
  known (OfStore sort) LocalIndex fit has = rw has.1 (sees _ refl refl)
  known OfIncrement LocalAndByte fit has = rw has.2 (sees _ refl refl)
  known OfSwitch TableCases fit has = switch_seen has
  known OfSwitch LookupCases fit has = switch_seen has
  known OfGetStatic FieldIndex fit has = rw (has.names.named, has.names.member, has.names.initialiser, has.type_is) (sees _ refl refl)
  known OfPutStatic FieldIndex fit has = rw (has.names.named, has.names.member, has.names.initialiser, has.type_is) (sees _ refl refl)
  known OfInvoke MethodIndex fit has = rw (has.names.named, has.names.member, has.names.initialiser, has.signature_is) (sees _ refl refl)
  known OfConstruct ConstructorIndex fit has = rw (has.named, has.thrown_is) (sees _ refl refl)
  known OfNew ClassIndex fit has = rw has.1 (sees _ refl refl)
  known group form fit has = absurd (let e = fit in cc)

-- VIEWS

-- what the machine sees of this view at an item, with keys in order
pub record IsLinked (P : Program) (item : Item) (v : views.View) : Type 0 where
  pub instr : Instr
  pub is : views_of P item ≡ Some (with_instr v instr)
  pub keys : AreKeys (keys_of instr)

-- each group that goes with a form is known
by_group : (numbers : Numbers) (v : views.View) (operand : Operand) (form : Form) (group : Option Group) → go_together (Some form) group ≡ true → HasForm form v operand → Sees (option_and_then (instr_in numbers v operand) group)
by_group numbers v operand form (Some group) together has = known numbers v operand group form (with_group form together) has
  where
    with_group : (form : Form) → go_together (Some form) (Some group) ≡ true → fits group form ≡ true
    with_group form is = is
by_group numbers v operand Widened None together has = absurd has
by_group numbers v operand form None together has = absurd (let e = together in cc)

pub instruction_linked : (P : Program) (item : Item) (v : views.View) (instr : code.Instr) → view P item ≡ Some v → v.instr ≡ Some instr → IsOfSubset v instr → IsLinked P item v
instruction_linked P item v instr is_view is_instr of =
    let numbers = class_named P in
    let together : go_together (Some of.form) (group_of instr.op) ≡ true = subst (λ form. go_together form (group_of instr.op) ≡ true) of.form_is (opcodes_have_groups instr.op) in
    let seen : Sees (linked_instr numbers v instr) = by_group numbers v instr.operand of.form (group_of instr.op) together of.has in
    record {
      instr = seen.instr;
      is = ap (option_and_then (linked numbers)) is_view ∙ ap (λ o. option_map (with_instr v) (option_and_then (linked_instr numbers v) o)) is_instr ∙ ap (option_map (with_instr v)) seen.is;
      keys = seen.keys;
    }
