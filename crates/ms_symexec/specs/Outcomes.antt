-- What a segment gives: how it came out, and what it executed.
use Rattle.std.specs.Prelude.{◌≡◌, ◌≤◌, ◌≢◌, ℕ, Bool, List, ◌∷◌, if◌then◌else◌, Option, Some}
use Rattle.ms_words.specs.declared.end.Ended.{Ended}
use Rattle.ms_words.specs.declared.end.Ended.TheVariants as ended
use Rattle.ms_words.specs.declared.item.Item.TheVariants.{Entry}
use Rattle.ms_words.specs.Items.{firsts}
use Rattle.ms_program.specs.Programs as programs
use Rattle.ms_linking.specs.Linked.{program_of}
use Rattle.ms_terms.specs.declared.term.Term.{Term as Node}
use Rattle.ms_terms.specs.declared.term.TermId.{TermId}
use Rattle.ms_terms.specs.Terms.{Term}
use Rattle.ms_machine.specs.Control as control
use Rattle.ms_machine.specs.Control.{Program, Views, step}
use Rattle.ms_machine.specs.Ints.{shadows}
use Rattle.ms_machine.specs.Laws.{shadow_started}
use Rattle.ms_machine.specs.Maps.{map_end}
use Rattle.ms_machine.specs.Runs.{after_arms}
use Rattle.ms_machine.specs.Segments.{After, Choice, Over, Segment as Machine}
use Rattle.ms_machine.specs.Tests.{arms_of}
use Rattle.ms_machine.specs.Values.{End, Returned, ReturnedVoid, Threw, InitFailed, Missing, Runaway, Deep, SymLength, HeapFull, Stuck}
use Rattle.ms_typing.specs.Typed.{ArePossible}
use Rattle.ms_interpreter.specs.declared.starting.Beginning.{Beginning}
use Rattle.ms_interpreter.specs.declared.state.State as interpreter
use Rattle.ms_interpreter.specs.Symbols.{symbol}
use Rattle.ms_interpreter.specs.Turns.{choice_of}
use Rattle.ms_interpreter.specs.declared.finish.Finish.TheVariants as finishes
use Rattle.ms_symexec.specs.declared.arriving.Arrived.{Arrived}
use Rattle.ms_symexec.specs.declared.arriving.Arrived.TheVariants as arrived
use Rattle.ms_symexec.specs.declared.outcome.Segment.{Segment}
use Rattle.ms_symexec.specs.declared.outcome.SegmentNext.{SegmentNext}
use Rattle.ms_symexec.specs.declared.outcome.SegmentNext.TheVariants as next
use Rattle.ms_symexec.specs.declared.outcome.SymEnd.{SymEnd}
use Rattle.ms_symexec.specs.declared.outcome.SymEnd.TheVariants as sym_end
use Rattle.ms_symexec.specs.declared.state.State.{State}
use Rattle.ms_symexec.specs.Segments.{IsAtChoice}
use Rattle.ms_symexec.specs.Standing.{IsAt, StandsFor}

-- THE STATES THAT ARE REACHED

-- a state that stands for a string of possible choices of the program's entry, as starts and arms leave it
pub record Reached (nodes : List Node) (V : programs.Program) (state : State) : Type 0 where
  pub machine : Program
  pub is : program_of V ≡ Some machine
  pub arms : List ℕ
  pub possible : ArePossible shadows machine.view (shadow_started machine machine.entry.kinds) arms
  pub stands : StandsFor nodes machine.view state.run (after_arms shadows machine.view (shadow_started machine machine.entry.kinds) arms)

-- ENDS

-- an end that isn't that a word was returned
abbrev pub ended_as : {V : Type 0} → Ended → End V
ended_as (ended.Returned word) = Stuck
ended_as ended.ReturnedVoid = ReturnedVoid
ended_as (ended.Threw class) = Threw class
ended_as (ended.InitFailed class) = InitFailed class
ended_as (ended.Missing name) = Missing name
ended_as ended.Runaway = Runaway
ended_as ended.Deep = Deep
ended_as ended.SymLength = SymLength
ended_as ended.HeapFull = HeapFull

-- the end of a symbolic run: what it returned is the number of a term
abbrev pub ends_as : List Node → SymEnd → End (Option Term)
ends_as nodes (sym_end.Returned id) = Returned (symbol nodes id)
ends_as nodes (sym_end.Other end) = ended_as end

-- SEGMENTS

-- so many arms does the choice have that comes
abbrev pub HasArms : ℕ → After Term → Type 0
HasArms arms (Choice test does) = arms ≡ arms_of test
HasArms arms (Over end) = ⊥

-- it has at most 65,535
abbrev pub HasFew : After Term → Type 0
HasFew (Choice test does) = arms_of test ≤ 65535
HasFew (Over end) = Unit {0}

-- what comes after a segment is this: a choice of so many arms, at which the run stands, or the end
abbrev pub ComesNext : List Node → Views → SegmentNext → Beginning TermId → After Term → Type 0
ComesNext nodes P (next.Choice arms) run after = HasArms arms after × IsAt nodes P run after
ComesNext nodes P (next.End end) run after = (its : End Term) × (after ≡ Over its) × (ends_as nodes end ≡ map_end (λ term. Some term) its)

-- a segment, by what comes then and the items that it executes, each once, in order of first execution
pub record IsSegment (nodes : List Node) (P : Views) (is_first : Bool) (segment : Segment) (state : State) (machine : Machine Term) : Type 0 where
  pub footprint : segment.footprint ≡ firsts (if is_first then Entry ∷ machine.trace else machine.trace)
  pub next : ComesNext nodes P segment.next state.run machine.after

-- for private functions: a state stands at a choice of at most 65,535 arms
pub record AtSmallChoice (P : Views) (state : interpreter.State TermId) : Type 0 where
  pub nodes : List Node
  pub seen : control.State Term
  pub is : IsAtChoice nodes P state seen
  pub few : HasFew (choice_of (step shadows P seen))

-- for private functions: where a segment led is no end without a rule, and no choice of more than 65,535 arms
abbrev pub IsInOrder : Views → Arrived → Type 0
IsInOrder P (arrived.AtChoice state) = AtSmallChoice P state
IsInOrder P (arrived.Over finish) = finish ≢ finishes.Stuck
IsInOrder P arrived.Runaway = Unit {0}
