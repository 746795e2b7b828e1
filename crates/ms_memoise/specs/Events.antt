-- Events: lines with the shelf's answers to the file names in them, and what a session does for them.
use Rattle.std.specs.Prelude.{◌≡◌, ℕ, List, [], ◌∷◌, ◌++◌, map, Bool, true, false, if◌then◌else◌, Result, Ok, Err}
use Rattle.std.specs.List.{list_any}
use Rattle.std.specs.Str.Lines.{lines}
use Rattle.ms_outside.specs.Shelves.{Answer, File, answer_of}
use Rattle.ms_command.specs.declared.command.Command.{Command}
use Rattle.ms_command.specs.declared.command.Command.TheVariants as commands
use Rattle.ms_command.specs.declared.reply.Reply.{Reply}
use Rattle.ms_command.specs.Commands.{command_of}
use Rattle.ms_session.specs.Outside.{AreAnswers, ShelfPasses, ShelfSide}
use Rattle.ms_session.specs.States.{State, new_state}
use Rattle.ms_session.specs.Steps.{Next, names_in, next, replied}

-- a line, and the shelf's answers to the names of files in it, in their order
pub record Event : Type 0 where
  pub line : List ℕ
  pub answers : List Answer

-- the names of files that are asked for, in order; a line that is no command asks for none
abbrev pub names_of : Result Command Reply → List (List ℕ)
names_of (Err reply) = []
names_of (Ok command) = names_in command

-- the names of files that a line asks for
abbrev pub asked : List ℕ → List (List ℕ)
asked line = names_of (command_of line)

-- what is written, and the state then: a line that is no command gets its refusal, and changes nothing
abbrev pub next_for : State → Result Command Reply → List Answer → Next
next_for state (Err reply) answers = replied state reply
next_for state (Ok command) answers = next state command answers

-- the same for an event
abbrev pub next_of : State → Event → Next
next_of state event = next_for state (command_of event.line) event.answers

-- what is written for events, one after another, from a state on
abbrev pub text_after : State → List Event → List ℕ
text_after state [] = []
text_after state (event ∷ events) = (next_of state event).text ++ text_after (next_of state event).state events

-- the state after them
abbrev pub state_after : State → List Event → State
state_after state [] = state
state_after state (event ∷ events) = state_after (next_of state event).state events

-- the lines of events
abbrev pub lines_of : List Event → List (List ℕ)
lines_of events = map (λ event. event.line) events

-- the event of a line, where the shelf has these files
abbrev pub event_of : List File → List ℕ → Event
event_of files line = record { line = line; answers = map (answer_of files) (asked line) }

-- whether it is the command `quit`
abbrev pub quits : Result Command Reply → Bool
quits (Err reply) = false
quits (Ok commands.Nothing) = false
quits (Ok (commands.Once file name desc words)) = false
quits (Ok (commands.Class file)) = false
quits (Ok (commands.Entry class name desc)) = false
quits (Ok (commands.Depth depth)) = false
quits (Ok (commands.Explore n)) = false
quits (Ok commands.Report) = false
quits (Ok commands.Quit) = true

-- whether a line is the command `quit`
abbrev pub is_quit : List ℕ → Bool
is_quit line = quits (command_of line)

-- whether one of the lines is
abbrev pub has_quit : List (List ℕ) → Bool
has_quit lines = list_any is_quit lines

-- the lines up to the first quit, itself included
abbrev pub up_to_quit : List (List ℕ) → List (List ℕ)
up_to_quit [] = []
up_to_quit (line ∷ lines) = line ∷ (if is_quit line then [] else up_to_quit lines)

-- What is written for an input where the shelf has these files: the replies to its lines up to the first
-- quit, in a session that is new.
abbrev pub replies : List File → List ℕ → List ℕ
replies files input = text_after new_state (map (event_of files) (up_to_quit (lines input)))

-- The answers of an event came from the shelf between the two moments. Where its line names no file, the
-- shelf is as it was.
pub record IsAnswered (before now : ShelfSide) (event : Event) : Type 0 where
  pub given : AreAnswers before now (asked event.line) event.answers
  pub passes : ShelfPasses before now
  pub unchanged : asked event.line ≡ [] → now ≡ before

-- an event has its answers from this moment on, and then the rest follows
pub record Then (rest : ShelfSide → Type 0) (before : ShelfSide) (event : Event) : Type 0 where
  pub between : ShelfSide
  pub answered : IsAnswered before between event
  pub others : rest between

-- The events have their answers one after another, each between two moments of its own, from the first moment
-- to the last.
abbrev pub AreAnswered : ShelfSide → ShelfSide → List Event → Type 0
AreAnswered before now [] = now ≡ before
AreAnswered before now (event ∷ events) = Then (λ between. AreAnswered between now events) before event
