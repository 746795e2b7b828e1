-- Why a program isn't verified; and, for private functions, what is said of its methods, one after the other.
use Rattle.std.specs.Prelude.{◌≡◌, ℕ, ◌<◌, Option, Some, MatchOption}
use Rattle.ms_program.specs.Programs.{Program}
use Rattle.ms_typing.specs.Solutions.{IsAccepted}
use Rattle.ms_typing.specs.Verifier as typing
use Rattle.ms_typing.specs.Verifier.{Method, Verifies}
use Rattle.ms_verify.specs.declared.line.Fault.{Fault}
use Rattle.ms_verify.specs.declared.verified.VerifyWhy.{VerifyWhy}
use Rattle.ms_verify.specs.declared.verified.VerifyWhy.TheVariants as whys
use Rattle.ms_verify.specs.Methods.{AllAccepted, HasFirstFault, method_of}

-- a method is accepted, if it isn't foreign
abbrev pub Passes : Program → (class number : ℕ) → Type 0
Passes P class number = (method : Method) → method_of P class number ≡ Some method → IsAccepted method

-- a method has this first fault
abbrev pub HasFault : Program → (class number : ℕ) → Fault → Type 0
HasFault P class number fault = (method : Method) × (method_of P class number ≡ Some method) × Verifies method (typing.Fault fault.offset fault.kind)

-- of a method: it has this first fault, or none
abbrev pub IsChecked : Program → (class number : ℕ) → Option Fault → Type 0
IsChecked P class number found = MatchOption found (Passes P class number) (HasFault P class number)

-- in a class this method has this fault, and those before it are accepted
abbrev pub IsFirstIn : Program → (class : ℕ) → ℕ × Fault → Type 0
IsFirstIn P class found = HasFault P class found.0 found.1 × ((number : ℕ) → number < found.0 → Passes P class number)

-- of a class: the first method of it that has a fault, or none
abbrev pub IsCheckedClass : Program → (class : ℕ) → Option (ℕ × Fault) → Type 0
IsCheckedClass P class found = MatchOption found ((number : ℕ) → Passes P class number) (IsFirstIn P class)

-- of a program: the first method of it that has a fault, or none
abbrev pub IsFirst : Program → ℕ × ℕ × Fault → Type 0
IsFirst P found = HasFirstFault P found.0 found.1 found.2.offset found.2.kind

abbrev pub IsCheckedProgram : Program → Option (ℕ × ℕ × Fault) → Type 0
IsCheckedProgram P found = MatchOption found (AllAccepted P) (IsFirst P)

-- why a program isn't verified: its first fault; or want of memory, which says nothing of it
abbrev pub IsWhy : Program → VerifyWhy → Type 0
IsWhy P (whys.Fault class method offset kind) = HasFirstFault P class method offset kind
IsWhy P whys.NoMemory = Unit {0}
