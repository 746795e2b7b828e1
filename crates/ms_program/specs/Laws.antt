-- What is said of each view of a program: the items in it are instructions, and its own instruction is one of the subset.
use Rattle.std.specs.Prelude.{◌≡◌, ◌⊎◌, ℕ, suc, ◌^◌, ◌<◌, List, [], ◌∷◌, length, true, Option, Some, IfSome, IsSome, is_some, IsTrue, All, ℤ}
use Rattle.std.specs.List.{list_all}
use Rattle.ms_words.specs.declared.descriptor.FieldType.{FieldType}
use Rattle.ms_words.specs.declared.item.Item.{Item}
use Rattle.ms_words.specs.declared.thrown.Thrown.{Thrown}
use Rattle.ms_words.specs.Descriptors.{Signature, field_type_of, signature_of}
use Rattle.ms_words.specs.Throwables.{thrown_named}
use Rattle.ms_code.specs.declared.form.Form.{Form}
use Rattle.ms_code.specs.declared.form.Form.TheVariants.{Plain, SignedByte, SignedShort, ConstantByte, ConstantShort, LocalIndex, LocalAndByte, BranchShort, TableCases, LookupCases, FieldIndex, ConstructorIndex, MethodIndex, ClassIndex, ArrayType, Widened, BranchInt}
use Rattle.ms_code.specs.declared.instruction.Instr.{Instr}
use Rattle.ms_code.specs.declared.instruction.Operand.{Operand}
use Rattle.ms_code.specs.declared.instruction.Operand.TheVariants as operands
use Rattle.ms_code.specs.Codes.{instr_at, is_start, next_of, targets_of}
use Rattle.ms_code.specs.Instructions.{is_message}
use Rattle.ms_code.specs.Keys.{SwitchCases, keys_ascend}
use Rattle.ms_code.specs.Laws.{is_widened}
use Rattle.ms_code.specs.Opcodes.{form_of}
use Rattle.ms_program.specs.declared.body.Body.{Body}
use Rattle.ms_program.specs.declared.view.Initialiser.{Initialiser}
use Rattle.ms_program.specs.declared.view.Initialiser.TheVariants.{Present}
use Rattle.ms_program.specs.declared.view.MemberPart.{MemberPart}
use Rattle.ms_program.specs.Programs.{Program}
use Rattle.ms_program.specs.Views.{Name, Word, Text, Throwable, Member, View, step_of}

-- WHERE VIEWS LEAD

-- an instruction starts at the item
abbrev pub IsInstruction : Program → Item → Type 0
IsInstruction P item = IsTrue (is_some (step_of P item))

-- each item that stands in a view is an instruction, and so has a view itself
pub record LeadsToViews (P : Program) (v : View) : Type 0 where
  -- the instruction behind it
  pub successor : IfSome v.successor (IsInstruction P)
  -- each of its targets
  pub targets : All (IsInstruction P) v.targets
  -- the first instruction of each handler that covers it
  pub handlers : All (λ part. IsInstruction P part.handler) v.handlers
  -- the first instruction of the method that it calls, or of the entry
  pub first_item : IfSome v.first_item (IsInstruction P)
  -- the first instruction of the initialiser
  pub initialiser_item : IfSome v.initialiser_item (IsInstruction P)

-- the first instruction is known of each method that is called and there, and of each initialiser that isn't foreign
pub record HasFirstItems (v : View) : Type 0 where
  -- 184 is `invokestatic`
  pub callee : (instr : Instr) (part : MemberPart) → v.instr ≡ Some instr → instr.op ≡ 184 → v.member ≡ Some part → part.member_present ≡ true → IsSome v.first_item
  pub initialiser : v.initialiser ≡ Some Present → IsSome v.initialiser_item

-- CODES

-- The code of a method has 1 to 65,535 bytes, and an instruction starts at offset 0, behind each that isn't the last, at each
-- target and where each handler begins.
pub record IsWholeBody (body : Body) : Type 0 where
  pub some : 0 < length body.code.steps
  pub short : length body.code.steps < 2 ^ 16
  pub first : IsTrue (is_start body.code.steps 0)
  pub next : (offset behind : ℕ) → next_of body.code offset ≡ Some behind → IsTrue (is_start body.code.steps behind)
  pub targets : (offset : ℕ) (instr : Instr) → instr_at body.code offset ≡ Some instr → IsTrue (list_all (is_start body.code.steps) (targets_of instr.operand))
  pub handlers : IsTrue (list_all (λ handler. is_start body.code.steps handler.target) body.code.handlers)

-- WHAT INSTRUCTIONS ARE

-- an int or a text
abbrev pub IsConstant : Option Name → Type 0
IsConstant named = ((word : ℤ) × (named ≡ Some (Word word))) ⊎ ((text : List ℕ) × (named ≡ Some (Text text)))

-- a switch: its keys ascend strictly, and it has a target for each case and one for the default, fewer than 65,536
pub record HasCases (v : View) (operand : Operand) : Type 0 where
  pub switch : SwitchCases
  pub operand_is : operand ≡ operands.Cases switch
  pub ascending : IsTrue (keys_ascend switch.cases)
  pub targets : length v.targets ≡ suc (length switch.cases)
  pub few : length v.targets < 2 ^ 16

-- it names a static member of this descriptor, and what is known of that member and of its class's initialiser
pub record NamesStatic (v : View) (desc : List ℕ) : Type 0 where
  pub class : List ℕ
  pub name : List ℕ
  pub named : v.named ≡ Some (Member class name desc)
  pub part : MemberPart
  pub member : v.member ≡ Some part
  pub state : Initialiser
  pub initialiser : v.initialiser ≡ Some state

-- it names a static field of a known type
pub record NamesField (v : View) : Type 0 where
  pub desc : List ℕ
  pub names : NamesStatic v desc
  pub field_type : FieldType
  pub type_is : field_type_of desc ≡ Some field_type

-- it names a static method whose parameters and result are of known types
pub record NamesMethod (v : View) : Type 0 where
  pub desc : List ℕ
  pub names : NamesStatic v desc
  pub signature : Signature
  pub signature_is : signature_of desc ≡ Some signature

-- it names a constructor of a known throwable, which takes nothing or a message
pub record NamesConstructor (v : View) : Type 0 where
  pub class : List ℕ
  pub name : List ℕ
  pub desc : List ℕ
  pub named : v.named ≡ Some (Member class name desc)
  pub thrown : Thrown
  pub thrown_is : thrown_named class ≡ Some thrown
  pub message : IsTrue (is_message desc)

-- the view is that of an instruction of this form with this operand, as it is written
abbrev pub HasForm : Form → View → Operand → Type 0
HasForm Plain v operand = operand ≡ operands.Nothing
HasForm SignedByte v operand = (word : ℤ) × (operand ≡ operands.Word word)
HasForm SignedShort v operand = (word : ℤ) × (operand ≡ operands.Word word)
HasForm ConstantByte v operand = IsConstant v.named
HasForm ConstantShort v operand = IsConstant v.named
HasForm LocalIndex v operand = (index : ℕ) × (operand ≡ operands.Local index)
HasForm LocalAndByte v operand = (index : ℕ) × (by : ℤ) × (operand ≡ operands.Increment index by)
HasForm BranchShort v operand = (item : Item) × (v.targets ≡ item ∷ [])
HasForm TableCases v operand = HasCases v operand
HasForm LookupCases v operand = HasCases v operand
HasForm FieldIndex v operand = NamesField v
HasForm ConstructorIndex v operand = NamesConstructor v
HasForm MethodIndex v operand = NamesMethod v
HasForm ClassIndex v operand = (thrown : Thrown) × (v.named ≡ Some (Throwable thrown))
HasForm ArrayType v operand = operand ≡ operands.Nothing
HasForm Widened v operand = ⊥
HasForm BranchInt v operand = (item : Item) × (v.targets ≡ item ∷ [])

-- the view's instruction is one of the subset: its opcode has a form, the view is that of an instruction of that form, and
-- `wide` stands in front only where the form is that of a local
pub record IsOfSubset (v : View) (instr : Instr) : Type 0 where
  pub form : Form
  pub form_is : form_of instr.op ≡ Some form
  pub widens : instr.wide ≡ true → IsTrue (is_widened form)
  pub has : HasForm form v instr.operand
