-- How a segment of the interpreter comes out, as the machine whose ints are terms has it. These words are for private functions.
use Rattle.std.specs.Prelude.{◌≡◌, List, ◌++◌, None, Some}
use Rattle.ms_words.specs.declared.item.Item.{Item}
use Rattle.ms_terms.specs.declared.term.Term.{Term as Node}
use Rattle.ms_terms.specs.declared.term.TermId.{TermId}
use Rattle.ms_terms.specs.Terms.{Term}
use Rattle.ms_machine.specs.Ints.{shadows}
use Rattle.ms_machine.specs.Values.{End, Runaway}
use Rattle.ms_machine.specs.Control as control
use Rattle.ms_machine.specs.Control.{Goes, Views, step}
use Rattle.ms_machine.specs.Maps.{map_end}
use Rattle.ms_machine.specs.Segments.{Over, Segment}
use Rattle.ms_interpreter.specs.declared.state.State.{State}
use Rattle.ms_interpreter.specs.Leads.{finish_of}
use Rattle.ms_interpreter.specs.Symbols.{symbol}
use Rattle.ms_interpreter.specs.Turns.{choice_of, settled}
use Rattle.ms_symexec.specs.declared.arriving.Arrived.{Arrived}
use Rattle.ms_symexec.specs.declared.arriving.Arrived.TheVariants as arrived
use Rattle.ms_symexec.specs.declared.segments.Came.{Came}
use Rattle.ms_symexec.specs.declared.segments.Came.TheVariants as came
use Rattle.ms_symexec.specs.Standing.{Stands}

-- items that were executed before a segment, and it
abbrev pub onto : List Item → Segment Term → Segment Term
onto items segment = record { trace = items ++ segment.trace; after = segment.after }

-- a state is at a choice: this is what it stands for
pub record IsAtChoice (nodes : List Node) (P : Views) (state : State TermId) (seen : control.State Term) : Type 0 where
  pub stands : Stands nodes P state seen
  pub chooses : settled shadows (step shadows P seen) ≡ None

-- what came is what comes after the segment of these items
pub record Choice (nodes : List Node) (P : Views) (trace : List Item) (state : State TermId) (segment : Segment Term) : Type 0 where
  pub seen : control.State Term
  pub is : IsAtChoice nodes P state seen
  pub segment_is : segment ≡ record { trace = trace; after = choice_of (step shadows P seen) }

pub record Ended (nodes : List Node) (trace : List Item) (finish_is : End _) (segment : Segment Term) : Type 0 where
  pub end : End Term
  pub is : finish_is ≡ map_end (λ (term : Term). Some term) end
  pub segment_is : segment ≡ record { trace = trace; after = Over end }

abbrev pub Comes : List Node → Views → List Item → Came → State TermId → Segment Term → Type 0
Comes nodes P trace came.AtChoice state segment = Choice nodes P trace state segment
Comes nodes P trace (came.Over finish) state segment = Ended nodes trace (finish_of (symbol nodes) finish) segment
Comes nodes P trace came.Runaway state segment = segment ≡ record { trace = trace; after = Over Runaway }

-- a segment led there, by what comes after it
abbrev pub Arrives : List Node → Views → List Item → Arrived → Segment Term → Type 0
Arrives nodes P trace (arrived.AtChoice state) segment = Choice nodes P trace state segment
Arrives nodes P trace (arrived.Over finish) segment = Ended nodes trace (finish_of (symbol nodes) finish) segment
Arrives nodes P trace arrived.Runaway segment = segment ≡ record { trace = trace; after = Over Runaway }
