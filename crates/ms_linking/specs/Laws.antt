-- What is said of the table of opcodes, and of the program that the machine runs.
use Rattle.std.specs.Prelude.{Bool, true, false, List, [], ◌∷◌, ℤ, Option, Some, None}
use Rattle.ms_code.specs.declared.form.Form.{Form}
use Rattle.ms_code.specs.declared.form.Form.TheVariants.{Plain, SignedByte, SignedShort, ConstantByte, ConstantShort, LocalIndex, LocalAndByte, BranchShort, TableCases, LookupCases, FieldIndex, ConstructorIndex, MethodIndex, ClassIndex, ArrayType, Widened, BranchInt}
use Rattle.ms_machine.specs.Control.{Program}
use Rattle.ms_machine.specs.Laws.{IsClosed, KeysAreFew, KeysDiffer, keys_of}
use Rattle.ms_linking.specs.Groups.{Group, Fixed, OfWord, OfConstant, OfLoad, OfStore, OfIncrement, OfSwitch, OfGetStatic, OfPutStatic, OfInvoke, OfConstruct, OfNew}

-- THE TABLE OF OPCODES

-- whether there are no keys
abbrev pub is_without_keys : List ℤ → Bool
is_without_keys [] = true
is_without_keys (key ∷ keys) = false

-- whether what stands behind an opcode of this form is what it takes to say what the machine does
abbrev pub fits : Group → Form → Bool
fits (Fixed instr) Plain = is_without_keys (keys_of instr)
fits (Fixed instr) ArrayType = is_without_keys (keys_of instr)
fits (Fixed instr) BranchShort = is_without_keys (keys_of instr)
fits (Fixed instr) BranchInt = is_without_keys (keys_of instr)
fits OfWord SignedByte = true
fits OfWord SignedShort = true
fits OfConstant ConstantByte = true
fits OfConstant ConstantShort = true
fits (OfLoad sort) LocalIndex = true
fits (OfStore sort) LocalIndex = true
fits OfIncrement LocalAndByte = true
fits OfSwitch TableCases = true
fits OfSwitch LookupCases = true
fits OfGetStatic FieldIndex = true
fits OfPutStatic FieldIndex = true
fits OfInvoke MethodIndex = true
fits OfConstruct ConstructorIndex = true
fits OfNew ClassIndex = true
fits group form = false

-- Whether the form of an opcode and what the machine does for it go together: it has both or neither, but for `wide`, which
-- stands in front of another opcode.
abbrev pub go_together : Option Form → Option Group → Bool
go_together None None = true
go_together None (Some group) = false
go_together (Some Widened) None = true
go_together (Some form) None = false
go_together (Some form) (Some group) = fits group form

-- THE PROGRAM THAT THE MACHINE RUNS

-- What the machine's laws ask of a program: each item of it has a view, the keys of each switch differ, and they are fewer
-- than 65,535.
pub record IsInOrder (P : Program) : Type 0 where
  pub closed : IsClosed P
  pub differ : KeysDiffer P
  pub few : KeysAreFew P
