-- The tests that instructions ask.
use Rattle.std.specs.Prelude.{◌≡◌, ℤ, pos, map, Option, option_map}
use Rattle.ms_code.specs.declared.instruction.Case.{Case}
use Rattle.ms_machine.specs.Ints.{Ints}
use Rattle.ms_machine.specs.Instructions.{Instr}
use Rattle.ms_machine.specs.Effects.{Test, Compares, Divides, Selects, Indexes, effect}
use Rattle.ms_linking.specs.Told.{comparison_of}
use Rattle.ms_interpreter.specs.declared.asked.Asked.{Asked}
use Rattle.ms_interpreter.specs.declared.asked.Asked.TheVariants as asked
use Rattle.ms_interpreter.specs.Doing.{planned_here, test_of}
use Rattle.ms_interpreter.specs.Frames.{Frame, Shared}
use Rattle.ms_interpreter.specs.Plans.{Given, Planned, plans}
use Rattle.ms_interpreter.specs.Seen.{Texts}

-- a test, by what its ints are
abbrev pub asked_of : {I V : Type 0} → Ints V → (I → V) → Asked I → Test V
asked_of J f (asked.Compares comparison a b) = Compares (comparison_of comparison) (f a) (f b)
asked_of J f (asked.ComparesZero comparison a) = Compares (comparison_of comparison) (f a) (J.constant (pos 0))
asked_of J f (asked.Divides b) = Divides (f b)
asked_of J f (asked.Selects a switch) = Selects (f a) (map (λ (case : Case). case.key) switch.now.cases)
asked_of J f (asked.Indexes a len) = Indexes (f a) len

-- an instruction asks this test of what it finds, or none
abbrev pub Asks : {I : Type 0} → Instr → Frame I → Shared I → Option (Asked I) → Type 0
Asks instr frame shared found =
    (texts : Texts) (known : Planned _ → Option ℤ) → test_of (effect (plans known) instr (planned_here texts frame shared)) ≡ option_map (asked_of (plans known) Given) found
