-- For private functions: what a session keeps, and what it is about to write.
use Rattle.std.specs.Prelude.{◌≡◌, ℕ, ◌≤◌, List, [], ◌∷◌, ◌++◌, length, Bool, true, false, IsTrue, Option, Some, None, is_some}
use Rattle.std.specs.List.{list_all}
use Rattle.std.specs.Global.{Vec}
use Rattle.ms_outside.specs.Counts.{Rose}
use Rattle.ms_outside.specs.Shelves as shelves
use Rattle.ms_outside.specs.Shelves.{Answer}
use Rattle.ms_command.specs.declared.reply.Reply.{Reply}
use Rattle.ms_command.specs.Texts.{reply_text}
use Rattle.ms_classfile.specs.ThinFile.{Method}
use Rattle.ms_classfile.specs.Reading.{thin_method}
use Rattle.ms_session.specs.declared.fetching.Fetched.{Fetched}
use Rattle.ms_session.specs.declared.fetching.Fetched.TheVariants as fetches
use Rattle.ms_session.specs.declared.stop.Stop.{Stop}
use Rattle.ms_session.specs.declared.stop.Stop.TheVariants as stops
use Rattle.ms_session.specs.Commands.{NamesFile}
use Rattle.ms_session.specs.Outside.{AreAnswers, FetchesSome, ShelfPasses, ShelfSide}
use Rattle.ms_session.specs.declared.output.Output.{Output}
use Rattle.ms_session.specs.declared.output.Output.TheVariants as outputs
use Rattle.ms_session.specs.Known.{Known, nothing_known}
use Rattle.ms_session.specs.States.{State, is_boolean}
use Rattle.ms_command.specs.declared.command.Command.{Command}
use Rattle.ms_session.specs.Steps.{Next, names_in, next, reported}

-- the one method of a list
abbrev pub listed : Option Method → List Method
listed None = []
listed (Some method) = method ∷ []

-- the class in a file, if there is one
abbrev pub class_in : Option (Vec ℕ) → Option Method
class_in None = None
class_in (Some bytes) = thin_method bytes.items

-- the class of a file, as a list
abbrev pub classes_in : Option (Vec ℕ) → List Method
classes_in file = listed (class_in file)

-- the entry: the method of the file, where it is set
abbrev pub entry_in : Bool → Option (Vec ℕ) → Option Method
entry_in false file = None
entry_in true file = class_in file

-- the bytes are a thin file, where there are any
abbrev pub IsFile : Option (Vec ℕ) → Type 0
IsFile None = Unit {0}
IsFile (Some bytes) = IsTrue (is_some (thin_method bytes.items))

-- there is a method, and its parameters are booleans
abbrev pub IsBoolean : Option Method → Type 0
IsBoolean None = ⊥
IsBoolean (Some method) = IsTrue (list_all is_boolean method.kinds)

-- where the entry is set, it can be one
abbrev pub IsEntry : Bool → Option (Vec ℕ) → Type 0
IsEntry false file = Unit {0}
IsEntry true file = IsBoolean (class_in file)

-- without an entry nothing is known
abbrev pub IsKnownOf : Bool → Known → Type 0
IsKnownOf false known = known ≡ nothing_known
IsKnownOf true known = Unit {0}

-- the file is a thin one, the entry's parameters are boolean, the depth is at most 256, and without an entry
-- nothing is known
pub record IsSession (has_entry : Bool) (file : Option (Vec ℕ)) (depth : ℕ) (known : Known) : Type 0 where
  pub read : IsFile file
  pub entry : IsEntry has_entry file
  pub within : depth ≤ 256
  pub forgotten : IsKnownOf has_entry known

-- the text of what is to be written
abbrev pub output_text : Output → List ℕ
output_text outputs.Nothing = []
output_text (outputs.Reply reply) = reply_text reply
output_text (outputs.Report names rows) = reported names.items rows.items

-- a report has no more rows than can be counted
abbrev pub IsShort : Output → Type 0
IsShort outputs.Nothing = Unit {0}
IsShort (outputs.Reply reply) = Unit {0}
IsShort (outputs.Report names rows) = length rows.items ≤ 4_294_967_295

-- the reply is the text of what comes next, and the state is its state
pub record Says (next : Next) (reply : Reply) (state : State) : Type 0 where
  pub text : next.text ≡ reply_text reply
  pub state_is : next.state ≡ state

-- what is to be written is the text of what comes next, and the state is its state
pub record Leads (next : Next) (output : Output) (state : State) : Type 0 where
  pub text : next.text ≡ output_text output
  pub state_is : next.state ≡ state

-- ---- FETCHING

-- the answer that a fetch brought
abbrev pub answer_in : Fetched → Answer
answer_in fetches.Absent = shelves.Absent
answer_in fetches.TooLong = shelves.TooLong
answer_in (fetches.Bytes bytes) = shelves.Found bytes.items

-- it is the shelf's answer to this name
pub record IsGiven (file : List ℕ) (answer : Answer) (before now : ShelfSide) : Type 0 where
  pub given : AreAnswers before now (file ∷ []) (answer ∷ [])
  pub passes : ShelfPasses before now
  pub calm : now.counts.faults ≡ before.counts.faults

-- why there is none
abbrev pub FetchCause : Stop → ShelfSide → ShelfSide → Type 0
FetchCause stops.ShelfFault before now = Rose before.counts.faults now.counts.faults
FetchCause stops.WriteFault before now = ⊥
FetchCause stops.NoMemory before now = now.counts.faults ≡ before.counts.faults

-- a fetch, or want of memory behind it, stopped the command
pub record FetchStops (stop : Stop) (before now : ShelfSide) : Type 0 where
  pub cause : FetchCause stop before now
  pub passes : ShelfPasses before now

-- a fetch of this name, which brought no answer, stopped it
pub record Unanswered (stop : Stop) (file : List ℕ) (before now : ShelfSide) : Type 0 where
  pub fetch : FetchStops stop before now
  pub asked : now.asked ≡ before.asked ++ (file, None) ∷ []

-- ---- COMMANDS

-- why nothing is to be written
pub record PrepareStops (stop : Stop) (command : Command) (before now : ShelfSide) : Type 0 where
  pub fetch : FetchStops stop before now
  pub names : NamesFile stop command
  pub fetches : FetchesSome before now (names_in command)
  pub unchanged : names_in command ≡ [] → now ≡ before

-- what a command is about to write, and the state, by the shelf's answers
pub record Prepared (command : Command) (state state_now : State) (output : Output) (before now : ShelfSide) : Type 0 where
  pub answers : List Answer
  pub given : AreAnswers before now (names_in command) answers
  pub leads : Leads (next state command answers) output state_now
  pub short : IsShort output
  pub unchanged : names_in command ≡ [] → now ≡ before
  pub passes : ShelfPasses before now
  pub calm : now.counts.faults ≡ before.counts.faults
