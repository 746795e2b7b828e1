-- What the table of opcodes says of the instructions that the machine sees.
use Rattle.std.proofs.Common.{◌≡◌, ◌≤◌, ℕ, Bool, true, false, ◌&&◌, ◌==◌, nat_le, cond, List, [], ◌∷◌, length, IsTrue, Option, Some, None, refl, ap, subst, subst₂, inl, inr, arith}
use Rattle.std.specs.Prelude.{codes, find, is_none, map, not}
use Rattle.std.specs.List.{list_all}
use Rattle.std.specs.Str.{bytes_eq}
use Rattle.std.proofs.lemmas.Bool.{eqb-true, leb-true}
use Rattle.std.proofs.lemmas.List.{length-map}
use Rattle.ms_words.specs.Descriptors.{Signature, signature_of}
use Rattle.ms_code.specs.declared.form.Form.{Form}
use Rattle.ms_code.specs.declared.form.Form.TheVariants.{Plain, SignedByte, SignedShort, ConstantByte, ConstantShort, LocalIndex, LocalAndByte, BranchShort, TableCases, LookupCases, FieldIndex, ConstructorIndex, MethodIndex, ClassIndex, ArrayType, BranchInt}
use Rattle.ms_code.specs.declared.instruction.Case.{Case}
use Rattle.ms_code.specs.declared.instruction.Instr as code
use Rattle.ms_code.specs.declared.instruction.Operand.{Operand}
use Rattle.ms_code.specs.Opcodes.{form_of}
use Rattle.ms_program.specs.declared.view.Initialiser as state
use Rattle.ms_program.specs.declared.view.MemberPart.{MemberPart}
use Rattle.ms_program.specs.Laws.{HasCases, HasForm, IsConstant, IsOfSubset, NamesStatic}
use Rattle.ms_program.specs.Views as views
use Rattle.ms_program.proofs.Picking.{both_true, joined, mapped, some_is}
use Rattle.ms_machine.specs.Instructions.{Member, Instr, Push, PushText, Load, Store, Increment, Switch, GetStatic, PutStatic, Invoke, New, Construct}
use Rattle.ms_linking.specs.Groups.{Group, Row, Fixed, OfWord, OfConstant, OfLoad, OfStore, OfIncrement, OfSwitch, OfGetStatic, OfPutStatic, OfInvoke, OfConstruct, OfNew, group_of, groups, has}
use Rattle.ms_linking.specs.Laws.{fits, go_together}
use Rattle.ms_linking.specs.Linked as link
use Rattle.ms_linking.specs.Linked.{Numbers, instr_in, linked_instr}
use Rattle.ms_typing.specs.Typed.{HasFieldType, member_of, moves_its_own, targets_of}

-- ROWS

-- how many targets a view has at least, where the form names one and no switch
abbrev targets_behind : Option Form → ℕ
targets_behind (Some BranchShort) = 1
targets_behind (Some BranchInt) = 1
targets_behind form = 0

-- whether a row is one by which the rules can hold
abbrev is_sound : ℕ → Option Form → Group → Bool
is_sound op form (Fixed instr) = nat_le (targets_of instr) (targets_behind form) && (moves_its_own instr && is_none (member_of instr))
is_sound op form OfInvoke = op == 184
is_sound op form other = true

-- each row is
rows_sound : list_all (λ (row : Row). is_sound row.0 (form_of row.0) row.1) groups ≡ true
unfolding form_of
rows_sound = refl

-- what was found passes the test, and whatever each passes
found_passes : {A : Type 0} (test each : A → Bool) (rows : List A) (row : A) → find test rows ≡ Some row → list_all each rows ≡ true → (test row ≡ true) × (each row ≡ true)
found_passes test each [] row is all = absurd (let e = is in cc)
found_passes test each (first ∷ rows) row is all = by_test (test first) refl is (found_passes test each rows row)
  where
    by_test : (b : Bool) → test first ≡ b → cond b (Some first) (find test rows) ≡ Some row → (find test rows ≡ Some row → list_all each rows ≡ true → (test row ≡ true) × (each row ≡ true)) → (test row ≡ true) × (each row ≡ true)
    by_test true passes e rest = subst (λ r. (test r ≡ true) × (each r ≡ true)) (some_is first row e) (passes, (both_true (each first) (list_all each rows) all).0)
    by_test false passes e rest = rest e (both_true (each first) (list_all each rows) all).1

-- and so is what the table has for an opcode
group_sound : (op : ℕ) (group : Group) → group_of op ≡ Some group → is_sound op (form_of op) group ≡ true
unfolding group_of
group_sound op group is =
    let row = mapped (λ (row : Row). row.1) (find (has op) groups) group is in
    let passes = found_passes (has op) (λ (row : Row). is_sound row.0 (form_of row.0) row.1) groups row.0 row.1 rows_sound in
    subst (λ g. is_sound op (form_of op) g ≡ true) row.2 (subst (λ n. is_sound n (form_of n) row.0.1 ≡ true) (eqb-true row.0.0 op passes.0) passes.1)

-- INSTRUCTIONS

-- a member is the one that the view names, with what is known of it
pub record Names (numbers : Numbers) (v : views.View) (member : Member) : Type 0 where
  pub class : List ℕ
  pub name : List ℕ
  pub descriptor : List ℕ
  pub part : MemberPart
  pub state : state.Initialiser
  pub named : v.named ≡ Some (views.Member class name descriptor)
  pub known : v.member ≡ Some part
  pub initialiser : v.initialiser ≡ Some state
  pub is : link.member_of numbers class name descriptor part state ≡ member

-- an instruction that is seen in a view, behind this opcode, is one by which the rules can hold
pub record Suits (numbers : Numbers) (v : views.View) (op : ℕ) (instr : Instr) : Type 0 where
  pub targets : targets_of instr ≤ length v.targets
  pub own : moves_its_own instr ≡ true
  pub field : HasFieldType instr
  pub names : (member : Member) → member_of instr ≡ Some member → Names numbers v member
  pub invokes : (member : Member) (signature : Signature) → instr ≡ Invoke member signature → (op ≡ 184) × (signature_of member.descriptor ≡ Some signature)

no_field : (instr : Instr) → member_of instr ≡ None → HasFieldType instr
no_field (GetStatic member type initial) none = absurd (let e = none in cc)
no_field (PutStatic member type) none = absurd (let e = none in cc)
no_field other none = tt

none_there : {A : Type 0} (o : Option A) → is_none o ≡ true → o ≡ None
none_there None is = refl
none_there (Some x) is = absurd (let e = is in cc)

module _ (numbers : Numbers) (v : views.View) (op : ℕ) (instr : Instr) where
  -- one that names no member
  plain_suits : (found : Instr) → targets_of found ≤ length v.targets → moves_its_own found ≡ true → member_of found ≡ None → found ≡ instr → Suits numbers v op instr
  plain_suits found enough own none is = subst (Suits numbers v op) is (record {
    targets = enough;
    own = own;
    field = no_field found none;
    names = λ member e. absurd (let f = none in cc);
    invokes = λ member signature e. absurd (let f = none in let g = ap member_of e in cc);
  })

  simple_suits : (found : Instr) → targets_of found ≡ 0 → moves_its_own found ≡ true → member_of found ≡ None → ◌≡◌ {A = Option Instr} (Some found) (Some instr) → Suits numbers v op instr
  simple_suits found few own none is = plain_suits found (omega (arith, few)) own none (some_is found instr is)

  fixed_suits : (found : Instr) (form : Option Form) → targets_behind form ≤ length v.targets → is_sound op form (Fixed found) ≡ true → ◌≡◌ {A = Option Instr} (Some found) (Some instr) → Suits numbers v op instr
  fixed_suits found form enough sound is =
      let parts = both_true (nat_le (targets_of found) (targets_behind form)) (moves_its_own found && is_none (member_of found)) sound in
      let others = both_true (moves_its_own found) (is_none (member_of found)) parts.1 in
      plain_suits found (omega (arith, leb-true (targets_of found) (targets_behind form) parts.0, enough)) others.0 (none_there (member_of found) others.1) (some_is found instr is)

  branch_suits : (found : Instr) (form : Option Form) (targets : (item : _) × (v.targets ≡ item ∷ [])) → targets_behind form ≤ 1 → is_sound op form (Fixed found) ≡ true → ◌≡◌ {A = Option Instr} (Some found) (Some instr) → Suits numbers v op instr
  branch_suits found form targets one sound is = fixed_suits found form (omega (arith, one, ap length targets.1)) sound is

module _ (numbers : Numbers) (v : views.View) (op : ℕ) (instr : Instr) (operand : Operand) where
  constant_suits : IsConstant v.named → instr_in numbers v operand OfConstant ≡ Some instr → Suits numbers v op instr
  constant_suits (inl word) is = simple_suits numbers v op instr (Push word.0) refl refl refl (rw word.1 at is)
  constant_suits (inr text) is = simple_suits numbers v op instr (PushText text.0) refl refl refl (rw text.1 at is)

  switch_suits : HasCases v operand → instr_in numbers v operand OfSwitch ≡ Some instr → Suits numbers v op instr
  switch_suits has is =
      let cases = has.switch.cases in
      plain_suits numbers v op instr (Switch (map (λ (case : Case). case.key) cases))
      (omega (arith, length-map cases (λ (case : Case). case.key), has.targets)) refl refl (some_is _ instr (rw has.operand_is at is))

  -- the member of a static one
  module _ (descriptor : List ℕ) (static : NamesStatic v descriptor) where
    abbrev named_member : Member
    named_member = link.member_of numbers static.class static.name descriptor static.part static.state

    invoked : (signature : Signature) → signature_of descriptor ≡ Some signature → (member : Member) (other : Signature) → Invoke named_member signature ≡ Invoke member other → signature_of member.descriptor ≡ Some other
    invoked signature is member other e =
        let one : named_member ≡ member = cc in
        let two : signature ≡ other = cc in
        subst₂ (λ (m : Member) (s : Signature). signature_of m.descriptor ≡ Some s) one two is

    names_it : (member : Member) → ◌≡◌ {A = Option Member} (Some named_member) (Some member) → Names numbers v member
    names_it member e = record {
      class = static.class;
      name = static.name;
      descriptor = descriptor;
      part = static.part;
      state = static.state;
      named = static.named;
      known = static.member;
      initialiser = static.initialiser;
      is = some_is named_member member e;
    }

  suits : (group : Group) (form : Form) → fits group form ≡ true → is_sound op (Some form) group ≡ true → HasForm form v operand → instr_in numbers v operand group ≡ Some instr → Suits numbers v op instr
  suits (Fixed found) Plain fit sound has is = fixed_suits numbers v op instr found (Some Plain) (omega arith) sound is
  suits (Fixed found) ArrayType fit sound has is = fixed_suits numbers v op instr found (Some ArrayType) (omega arith) sound is
  suits (Fixed found) BranchShort fit sound has is = branch_suits numbers v op instr found (Some BranchShort) has (omega arith) sound is
  suits (Fixed found) BranchInt fit sound has is = branch_suits numbers v op instr found (Some BranchInt) has (omega arith) sound is
  suits OfWord SignedByte fit sound has is = simple_suits numbers v op instr (Push has.0) refl refl refl (rw has.1 at is)
  suits OfWord SignedShort fit sound has is = simple_suits numbers v op instr (Push has.0) refl refl refl (rw has.1 at is)
  suits OfConstant ConstantByte fit sound has is = constant_suits has is
  suits OfConstant ConstantShort fit sound has is = constant_suits has is
  suits (OfLoad sort) LocalIndex fit sound has is = simple_suits numbers v op instr (Load sort has.0) refl refl refl (rw has.1 at is)
  suits (OfStore sort) LocalIndex fit sound has is = simple_suits numbers v op instr (Store sort has.0) refl refl refl (rw has.1 at is)
  suits OfIncrement LocalAndByte fit sound has is = simple_suits numbers v op instr (Increment has.0 has.1) refl refl refl (rw has.2 at is)
  suits OfSwitch TableCases fit sound has is = switch_suits has is
  suits OfSwitch LookupCases fit sound has is = switch_suits has is
  suits OfGetStatic FieldIndex fit sound has is =
      subst (Suits numbers v op) (some_is _ instr (rw (has.names.named, has.names.member, has.names.initialiser, has.type_is) at is)) (record {
        targets = omega arith;
        own = refl;
        field = has.type_is;
        names = names_it has.desc has.names;
        invokes = λ member signature e. absurd (let f = e in cc);
      })
  suits OfPutStatic FieldIndex fit sound has is =
      subst (Suits numbers v op) (some_is _ instr (rw (has.names.named, has.names.member, has.names.initialiser, has.type_is) at is)) (record {
        targets = omega arith;
        own = refl;
        field = has.type_is;
        names = names_it has.desc has.names;
        invokes = λ member signature e. absurd (let f = e in cc);
      })
  suits OfInvoke MethodIndex fit sound has is =
      subst (Suits numbers v op) (some_is _ instr (rw (has.names.named, has.names.member, has.names.initialiser, has.signature_is) at is)) (record {
        targets = omega arith;
        own = refl;
        field = tt;
        names = names_it has.desc has.names;
        invokes = λ member signature e. (eqb-true op 184 sound, invoked has.desc has.names has.signature has.signature_is member signature e);
      })
  suits OfConstruct ConstructorIndex fit sound has is = simple_suits numbers v op instr (Construct (not (bytes_eq has.desc (codes "()V"))) has.thrown) refl refl refl (rw (has.named, has.thrown_is) at is)
  suits OfNew ClassIndex fit sound has is = simple_suits numbers v op instr (New has.0) refl refl refl (rw has.1 at is)
  suits group form fit sound has is = absurd (let e = fit in cc)

-- what is seen of an instruction of the subset
pub instruction_suits : (numbers : Numbers) (v : views.View) (written : code.Instr) (instr : Instr) → IsTrue (go_together (form_of written.op) (group_of written.op)) → IsOfSubset v written → linked_instr numbers v written ≡ Some instr → Suits numbers v written.op instr
instruction_suits numbers v written instr together of is =
    let group = joined (instr_in numbers v written.operand) (group_of written.op) instr is in
    let fit : go_together (Some of.form) (Some group.0) ≡ true = subst (λ g. go_together (Some of.form) g ≡ true) group.1 (subst (λ form. go_together form (group_of written.op) ≡ true) of.form_is together) in
    let sound : is_sound written.op (Some of.form) group.0 ≡ true = subst (λ form. is_sound written.op form group.0 ≡ true) of.form_is (group_sound written.op group.0 group.1) in
    suits numbers v written.op instr written.operand group.0 of.form (they_fit group.0 of.form fit) sound of.has group.2
  where
    they_fit : (group : Group) (form : Form) → go_together (Some form) (Some group) ≡ true → fits group form ≡ true
    they_fit group form is = is
