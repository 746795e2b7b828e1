-- What the interpreter keeps and what an instruction leads to, as the machine with marks has it. These
-- words are for private functions.
use Rattle.std.specs.Prelude.{◌≡◌, ℕ, ◌<◌, Bool, true, false, cond, ◌&&◌, List, [], ◌∷◌, ◌++◌, length, map, Option, Some, None}
use Rattle.ms_words.specs.Relations.{related}
use Rattle.ms_words.specs.Inputs.{Words}
use Rattle.ms_classfile.specs.declared.instruction.Instruction.{Instruction}
use Rattle.ms_classfile.specs.declared.instruction.Instruction.TheVariants.{IloadN, Iload, Iconst, Bipush, Iadd, Isub, If, IfIcmp, Ireturn}
use Rattle.ms_machine.specs.Ints.{Marked}
use Rattle.ms_machine.specs.Instructions.{Comparison, relation}
use Rattle.ms_machine.specs.Values.{Value, Int}
use Rattle.ms_machine.specs.Effects.{Here, Effect, Does, Asks, Moves, Returns, Next, Target, Compares, by_arm}
use Rattle.ms_machine.specs.Control.{memory_at_start}
use Rattle.ms_machine.specs.Runs.{given}
use Rattle.ms_machine.specs.Laws.{mark_of}
use Rattle.ms_classfile.specs.Instructions.{is_return}
use Rattle.ms_jvm.specs.Programs.{comparison_of, distance_of}
use Rattle.ms_jvm.specs.declared.turn.Turn.{Turn}
use Rattle.ms_jvm.specs.declared.turn.Turn.TheVariants as turns

-- the parameters of an input, each with its mark
abbrev pub marked : Words → List Marked
marked x = map mark_of (given x)

-- the locals at the start: the parameters
abbrev pub locals_of : {V : Type 0} → List V → List (Option (Value V))
locals_of parameters = map (λ a. Some (Int a)) parameters

-- what an instruction of a thin method works on: the parameters, a stack of ints, and the memory of the start
abbrev pub here_with : {V : Type 0} → List V → List V → Here V
here_with parameters stack = record { locals = locals_of parameters; stack = map (λ a. Int a) stack; memory = memory_at_start 0 }

-- what an instruction does that leads to this turn and leaves this
abbrev pub effect_of : Turn → Here Marked → Effect Marked
effect_of turns.Next here = Does (Moves Next here)
effect_of (turns.Branch condition left right far) here =
    Asks (Compares (comparison_of condition) left right) (by_arm (Moves Next here) (Moves (Target 0) here))
effect_of (turns.Return a) here = Does (Returns (Some (Int a)) here.memory)

-- the instruction finds its operands on a stack of so many ints, and its local among so many
abbrev pub IsReady : ℕ → ℕ → Instruction → Type 0
IsReady locals depth (IloadN local) = local < locals
IsReady locals depth (Iload local) = local < locals
IsReady locals depth (Iconst word) = Unit {0}
IsReady locals depth (Bipush word) = Unit {0}
IsReady locals depth Iadd = 1 < depth
IsReady locals depth Isub = 1 < depth
IsReady locals depth (If condition far) = 0 < depth
IsReady locals depth (IfIcmp condition far) = 1 < depth
IsReady locals depth Ireturn = 0 < depth

-- the instruction leads to such a turn
abbrev pub Leads : Instruction → Turn → Type 0
Leads instruction turns.Next = is_return instruction ≡ false
Leads instruction (turns.Branch condition left right far) = distance_of instruction ≡ Some far
Leads instruction (turns.Return a) = is_return instruction ≡ true

-- the choices behind a test whose ints are plain, or one that is a choice
abbrev pub Made : Bool → Bool → ℕ → List ℕ → List ℕ → Type 0
Made true taken depth old new = new ≡ old
Made false taken depth old new = (length old < depth) × (new ≡ old ++ cond taken 1 0 ∷ [])

-- whether the branch is taken, and the choices behind it; or that one more is due than the depth allows
abbrev pub Chosen : Comparison → Marked → Marked → ℕ → List ℕ → List ℕ → Option Bool → Type 0
Chosen comparison a b depth old new None = ((a.plain && b.plain) ≡ false) × (length old ≡ depth) × (new ≡ old)
Chosen comparison a b depth old new (Some taken) = (taken ≡ related (relation comparison) a.word b.word) × Made (a.plain && b.plain) taken depth old new
