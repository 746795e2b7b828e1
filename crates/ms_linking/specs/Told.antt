-- Instructions as the code has them, and what each is to the machine.
use Rattle.std.specs.Prelude.{map, Option, Some, None}
use Rattle.ms_code.specs.declared.instruction.Case.{Case}
use Rattle.ms_machine.specs.Instructions as machine
use Rattle.ms_machine.specs.Instructions.{Instr, OfInt, OfReference}
use Rattle.ms_linking.specs.declared.instruction.Comparison.{Comparison}
use Rattle.ms_linking.specs.declared.instruction.Comparison.TheVariants.{Equal, NotEqual, Less, AtLeast, Greater, AtMost}
use Rattle.ms_linking.specs.declared.instruction.Instruction.{Instruction}
use Rattle.ms_linking.specs.declared.instruction.Instruction.TheVariants.{Skip, Push, PushNull, PushText, Load, Store, Shuffle, Change, Combine, Divide, Increment, Compare, CompareZero, CompareReferences, CompareNull, Goto, Switch, ReturnValue, ReturnVoid, GetStatic, PutStatic, Invoke, New, Construct, Throw, NewArray, ArrayLength, ArrayLoad, ArrayStore}
use Rattle.ms_linking.specs.declared.instruction.Member.{Member}
use Rattle.ms_linking.specs.declared.instruction.Sort.{Sort}
use Rattle.ms_linking.specs.declared.instruction.Sort.TheVariants.{Int, Reference}
use Rattle.ms_linking.specs.Groups.{Group, Fixed}
use Rattle.ms_linking.specs.Linked.{initialiser_of}

-- of ints or of references
abbrev pub sort_of : Sort → machine.Sort
sort_of Int = OfInt
sort_of Reference = OfReference

-- what a branch compares by
abbrev pub comparison_of : Comparison → machine.Comparison
comparison_of Equal = machine.Equal
comparison_of NotEqual = machine.NotEqual
comparison_of Less = machine.Less
comparison_of AtLeast = machine.AtLeast
comparison_of Greater = machine.Greater
comparison_of AtMost = machine.AtMost

-- a member, without where its names lie in memory
abbrev pub member_told : Member → machine.Member
member_told member = record {
  class_name = member.class_name.now;
  name = member.name.now;
  descriptor = member.descriptor.now;
  class = member.class;
  is_there = member.is_there;
  initialiser = initialiser_of member.initialiser;
}

-- what an instruction is to the machine
abbrev pub told : Instruction → Instr
told Skip = machine.Skip
told (Push word) = machine.Push word
told PushNull = machine.PushNull
told (PushText bytes) = machine.PushText bytes.now
told (Load sort local) = machine.Load (sort_of sort) local
told (Store sort local) = machine.Store (sort_of sort) local
told (Shuffle count places) = machine.Shuffle count places.now
told (Change op) = machine.Change op
told (Combine op) = machine.Combine op
told (Divide op) = machine.Divide op
told (Increment local by) = machine.Increment local by
told (Compare comparison) = machine.Compare (comparison_of comparison)
told (CompareZero comparison) = machine.CompareZero (comparison_of comparison)
told (CompareReferences same) = machine.CompareReferences same
told (CompareNull null) = machine.CompareNull null
told Goto = machine.Goto
told (Switch switch) = machine.Switch (map (λ (case : Case). case.key) switch.now.cases)
told (ReturnValue sort) = machine.ReturnValue (sort_of sort)
told ReturnVoid = machine.ReturnVoid
told (GetStatic member type initial) = machine.GetStatic (member_told member) type initial
told (PutStatic member type) = machine.PutStatic (member_told member) type
told (Invoke member signature) = machine.Invoke (member_told member) signature
told (New class) = machine.New class
told (Construct with_message class) = machine.Construct with_message class
told Throw = machine.Throw
told NewArray = machine.NewArray
told ArrayLength = machine.ArrayLength
told ArrayLoad = machine.ArrayLoad
told ArrayStore = machine.ArrayStore

-- for private functions: an instruction that the opcode says whole
abbrev pub fixed_in : Group → Option Instr
fixed_in (Fixed instr) = Some instr
fixed_in group = None
