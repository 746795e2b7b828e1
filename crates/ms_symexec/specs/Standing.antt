-- What a state of the interpreter stands for: a state of the machine whose ints are terms.
use Rattle.std.specs.Prelude.{◌≡◌, List, map, Option, None, Some}
use Rattle.ms_terms.specs.declared.term.Term.{Term as Node}
use Rattle.ms_terms.specs.declared.term.TermId.{TermId}
use Rattle.ms_terms.specs.Terms.{Term}
use Rattle.ms_machine.specs.Control as control
use Rattle.ms_machine.specs.Control.{Done, Goes, Views, step}
use Rattle.ms_machine.specs.Ints.{shadows}
use Rattle.ms_machine.specs.Segments.{After}
use Rattle.ms_machine.specs.Values.{Value, Int}
use Rattle.ms_machine.specs.Maps.{map_done, map_state}
use Rattle.ms_interpreter.specs.declared.starting.Beginning.{Beginning}
use Rattle.ms_interpreter.specs.declared.state.State.{State}
use Rattle.ms_interpreter.specs.Begun.{begins}
use Rattle.ms_interpreter.specs.Leads.{state_of}
use Rattle.ms_interpreter.specs.Seen.{texts_of}
use Rattle.ms_interpreter.specs.Symbols.{symbol}
use Rattle.ms_interpreter.specs.Turns.{choice_of, settled}

-- each int of a state is the number of a term of the table, and these are they
abbrev pub Stands : List Node → Views → State TermId → control.State Term → Type 0
Stands nodes P state seen = state_of (symbol nodes) (texts_of P) state ≡ map_state (λ term. Some term) seen

-- the same of a run that has ended, or goes on
abbrev pub StandsFor : List Node → Views → Beginning TermId → Done Term → Type 0
StandsFor nodes P run done = begins (symbol nodes) (texts_of P) run ≡ map_done (λ term. Some term) done

-- a run stands at a choice: this comes there
pub record IsAt (nodes : List Node) (P : Views) (run : Beginning TermId) (after : After Term) : Type 0 where
  pub seen : control.State Term
  pub stands : StandsFor nodes P run (Goes seen)
  pub chooses : settled shadows (step shadows P seen) ≡ None
  pub after_is : after ≡ choice_of (step shadows P seen)

-- locals that hold these
abbrev pub held : {V : Type 0} → List V → List (Option (Value V))
held parameters = map (λ a. Some (Int a)) parameters
