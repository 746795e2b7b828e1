-- The program of one thin method, as the machine reads it (JVMS SE 8, sections 2.6 and 6.5).
use Rattle.std.specs.Prelude.{ℕ, zero, suc, ◌+◌, ◌-◌, cond, ◌==◌, ◌&&◌, nat_le, List, [], ◌∷◌, Option, Some, None}
use Rattle.ms_words.specs.declared.item.Item.{Item}
use Rattle.ms_words.specs.declared.item.Item.TheVariants.{Entry, At}
use Rattle.ms_words.specs.declared.operator.Bin.TheVariants.{Add, Sub}
use Rattle.ms_classfile.specs.declared.instruction.Condition.{Condition}
use Rattle.ms_classfile.specs.declared.instruction.Condition.TheVariants.{Eq, Ne, Lt, Ge, Gt, Le}
use Rattle.ms_classfile.specs.declared.instruction.Instruction.{Instruction}
use Rattle.ms_classfile.specs.declared.instruction.Instruction.TheVariants.{IloadN, Iload, Iconst, Bipush, Iadd, Isub, If, IfIcmp, Ireturn}
use Rattle.ms_classfile.specs.Instructions.{size_of}
use Rattle.ms_classfile.specs.ThinFile.{Method}
use Rattle.ms_machine.specs.Instructions.{Comparison, Equal, NotEqual, Less, AtLeast, Greater, AtMost, Absent, OfInt, Instr, Push, Load, Combine, Compare, CompareZero, ReturnValue}
use Rattle.ms_machine.specs.Control.{Program, View, Views}

-- WHAT AN INSTRUCTION DOES

-- the comparison of a branch
abbrev pub comparison_of : Condition → Comparison
comparison_of Eq = Equal
comparison_of Ne = NotEqual
comparison_of Lt = Less
comparison_of Ge = AtLeast
comparison_of Gt = Greater
comparison_of Le = AtMost

-- an instruction of the machine for one of a file
abbrev pub instr_of : Instruction → Instr
instr_of (IloadN local) = Load OfInt local
instr_of (Iload local) = Load OfInt local
instr_of (Iconst word) = Push word
instr_of (Bipush word) = Push word
instr_of Iadd = Combine Add
instr_of Isub = Combine Sub
instr_of (If condition far) = CompareZero (comparison_of condition)
instr_of (IfIcmp condition far) = Compare (comparison_of condition)
instr_of Ireturn = ReturnValue OfInt

-- WHERE IT STANDS

-- the instruction at this offset of the one method of the one class
abbrev pub at : ℕ → Item
at offset = At 0 0 offset

-- the code from this offset on, or nothing where no instruction starts there
abbrev pub code_from : ℕ → List Instruction → List Instruction
code_from offset [] = []
code_from zero (instruction ∷ code) = instruction ∷ code
code_from (suc offset) (instruction ∷ code) = cond (nat_le (size_of instruction) (suc offset)) (code_from (suc offset - size_of instruction) code) []

-- how far a branch leads, in bytes from its own first byte
abbrev pub distance_of : Instruction → Option ℕ
distance_of (IloadN local) = None
distance_of (Iload local) = None
distance_of (Iconst word) = None
distance_of (Bipush word) = None
distance_of Iadd = None
distance_of Isub = None
distance_of (If condition far) = Some far
distance_of (IfIcmp condition far) = Some far
distance_of Ireturn = None

-- the target of an instruction at this offset that leads so far
abbrev pub targets_of : ℕ → Option ℕ → List Item
targets_of offset None = []
targets_of offset (Some far) = at (offset + far) ∷ []

-- the instruction that code begins with, if it has one
abbrev pub first_item : ℕ → List Instruction → Option Item
first_item offset [] = None
first_item offset (instruction ∷ code) = Some (at offset)

-- what a step may read of the first instruction of this code, which stands at this offset
abbrev pub first_view : ℕ → List Instruction → Option View
first_view offset [] = None
first_view offset (instruction ∷ code) = Some (record {
  instr = instr_of instruction;
  next = first_item (offset + size_of instruction) code;
  targets = targets_of offset (distance_of instruction);
  handlers = [];
  callee = None;
  initialiser_first = None;
})

-- what the machine sees at an item: the instruction there, where one begins
abbrev pub views_of : List Instruction → Views
views_of code Entry = None
views_of code (At class method offset) = cond ((class == 0) && (method == 0)) (first_view offset (code_from offset code)) None

-- The program whose entry is the thin method: one class without an initialiser, and one method. The name of the class is of
-- no account, since no run misses anything.
abbrev pub program_of : Method → Program
program_of method = record {
  entry = record { kinds = method.kinds; result = Some method.result; first = at 0; class = 0; class_name = []; initialiser = Absent; initialiser_first = None };
  view = views_of method.instructions;
}
