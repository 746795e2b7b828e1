-- The first fault of a program, as a function of it: the methods are taken in order, each for as many turns as it can have. The
-- law `first_faults_are_found` says that this is the fault of `HasFirstFault`, and none exactly where all methods are accepted.
use Rattle.std.specs.Prelude.{ℕ, zero, suc, ◌+◌, ◌*◌, List, [], ◌∷◌, length, Option, Some, None, option_map, option_and_then, slice_get}
use Rattle.std.specs.List.{range_with_len}
use Rattle.std.specs.Option.{option_map_or}
use Rattle.ms_program.specs.Programs.{Class, Program}
use Rattle.ms_typing.specs.declared.kind.VerifyKind.{VerifyKind}
use Rattle.ms_typing.specs.Verifier.{Cell, Fails, Leaves, Method, Turn, lowest, start, turn}
use Rattle.ms_verify.specs.Methods.{method_of}

-- OF A METHOD

-- an offset, and what is wrong there
abbrev pub Place : Type 0
Place = ℕ × VerifyKind

-- the fault of a turn, or else that of what it leaves
abbrev pub fault_after : (List Cell → Option Place) → Turn → Option Place
fault_after go (Fails offset kind) = Some (offset, kind)
fault_after go (Leaves next) = go next

-- the first fault that comes of these offsets, within so many turns
abbrev pub fault_within : (turns : ℕ) → Method → List Cell → Option Place
fault_within zero method cells = None
fault_within (suc turns) method cells = option_and_then (λ waiting. fault_after (fault_within turns method) (turn method cells waiting)) (lowest cells)

-- More turns than a method can have. An offset is taken again only once the kind of one of its places has grown wider; a
-- place does so at most seven times; and a handler is passed one place even where the method has none.
abbrev pub most_turns : Method → ℕ
most_turns method = length method.lines * (14 * (method.profile.max_locals + method.profile.max_stack + 1) + 2)

-- the first fault of a method
unfoldable pub fault_of_method : Method → Option Place
fault_of_method method = fault_within (most_turns method) method (start method)

-- OF A PROGRAM

-- with a number, what is found there, or else what is found later
abbrev pub or_later : {A : Type 0} → ℕ → Option A → Option (ℕ × A) → Option (ℕ × A)
or_later number (Some found) later = Some (number, found)
or_later number None later = later

-- the first of these numbers where something is found, and what
abbrev pub first_found : {A : Type 0} → (ℕ → Option A) → List ℕ → Option (ℕ × A)
first_found look [] = None
first_found look (number ∷ numbers) = or_later number (look number) (first_found look numbers)

-- the first fault of a method of a program, where it isn't foreign
abbrev pub fault_in : Program → (class number : ℕ) → Option Place
fault_in P class number = option_and_then fault_of_method (method_of P class number)

-- how many methods a class has
abbrev pub methods_in : Program → (class : ℕ) → ℕ
methods_in P class = option_map_or (λ (c : Class). length c.methods) (slice_get P.classes class) 0

-- the first method of a class that has a fault, and that fault
abbrev pub fault_in_class : Program → (class : ℕ) → Option (ℕ × Place)
fault_in_class P class = first_found (fault_in P class) (range_with_len 0 (methods_in P class))

-- what is wrong with a program, and where
pub record ProgramFault : Type 0 where
  pub class : ℕ
  pub method : ℕ
  pub offset : ℕ
  pub kind : VerifyKind

abbrev pub fault_there : ℕ × (ℕ × Place) → ProgramFault
fault_there found = record { class = found.0; method = found.1.0; offset = found.1.1.0; kind = found.1.1.1 }

-- the first fault of a program
unfoldable pub fault_of : Program → Option ProgramFault
fault_of P = option_map fault_there (first_found (fault_in_class P) (range_with_len 0 (length P.classes)))
