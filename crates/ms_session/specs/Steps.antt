-- What a command does to a session: its reply, the state then, and how often it asks. It is a function of
-- the state, the command, and the shelf's answers to the names of files in it.
use Rattle.std.specs.Prelude.{ℕ, List, [], ◌∷◌, ◌++◌, length, Bool, ◌&&◌, not, if◌then◌else◌, Option, Some, None, is_some, codes}
use Rattle.std.specs.List.{list_all}
use Rattle.std.specs.Str.{bytes_eq}
use Rattle.ms_outside.specs.Shelves as shelves
use Rattle.ms_outside.specs.Shelves.{Answer}
use Rattle.ms_command.specs.declared.command.Command.{Command}
use Rattle.ms_command.specs.declared.command.Command.TheVariants as commands
use Rattle.ms_command.specs.declared.reply.Reply.{Reply}
use Rattle.ms_command.specs.declared.reply.Reply.TheVariants as replies
use Rattle.ms_command.specs.Texts.{reply_text}
use Rattle.ms_trie.specs.declared.row.PathRow.{PathRow}
use Rattle.ms_report.specs.Rows.{rows_text}
use Rattle.ms_report.specs.Stops.{totals_of}
use Rattle.ms_classfile.specs.ThinFile.{Method}
use Rattle.ms_classfile.specs.Reading.{thin_method}
use Rattle.ms_program.specs.declared.file.FileFault.{FileFault}
use Rattle.ms_program.specs.Reading.{first_fault}
use Rattle.ms_machine.specs.Control.{Program}
use Rattle.ms_jvm.specs.Programs.{program_of}
use Rattle.ms_session.specs.Faults.{fault_reply}
use Rattle.ms_session.specs.Once.{once_reply}
use Rattle.ms_session.specs.Paths.{report}
use Rattle.ms_session.specs.Known.{Explored, Known, explore, first_needing, nothing_known}
use Rattle.ms_session.specs.States.{State, class_named, entry_name, is_boolean}

-- what is written, the state then, and the number of asks
pub record Next : Type 0 where
  pub text : List ℕ
  pub state : State
  pub asks : ℕ

-- a reply, with the state then
abbrev pub replied : State → Reply → Next
replied state reply = record { text = reply_text reply; state = state; asks = 0 }

-- the names of the classes by their numbers, in the program of one method: that of its class
abbrev pub names_with : Method → List (List ℕ)
names_with method = method.class ∷ []

-- ---- class FILE

-- adds a class where none is present; a class of the same name is known, and a second class isn't built
abbrev pub class_among : State → Method → List Method → Next
class_among state class [] =
    replied (record state { classes = class ∷ [] }) (replies.ClassAdded class.class (length state.known.verdicts) (length state.known.segments))
class_among state class (present ∷ others) = replied state (if bytes_eq present.class class.class then replies.Known class.class else replies.NotBuilt)

-- adds the class of a thin file
abbrev pub class_read : State → Option Method → Next
class_read state None = replied state replies.NotBuilt
class_read state (Some class) = class_among state class state.classes

-- the reply to the first fault of a file, or, where it has none, what `class_read` does
abbrev pub file_next : State → Option FileFault → Option Method → Next
file_next state (Some fault) class = replied state (fault_reply fault)
file_next state None class = class_read state class

-- `class FILE`, by the shelf's answer to FILE
abbrev pub class_next : State → List ℕ → Answer → Next
class_next state file shelves.Absent = replied state (replies.Absent file)
class_next state file shelves.TooLong = replied state (replies.TooLong file)
class_next state file (shelves.Found bytes) = file_next state (first_fault bytes) (thin_method bytes)

-- ---- entry CLASS NAME DESC

-- whether the method has this name and descriptor, and is no initialiser
abbrev pub is_entry : Method → List ℕ → List ℕ → Bool
is_entry method name desc = bytes_eq method.name name && bytes_eq method.descriptor desc && not (bytes_eq name (codes "<clinit>"))

-- sets the entry, and forgets what is known
abbrev pub entry_set : State → Method → Next
entry_set state method =
    if list_all is_boolean method.kinds
    then replied (record state { entry = Some method; known = nothing_known }) (replies.EntrySet (entry_name method))
    else replied state replies.NotBuilt

-- `entry CLASS NAME DESC`, by the class of that name
abbrev pub entry_next : State → List ℕ → List ℕ → List ℕ → Option Method → Next
entry_next state class name desc None = replied state (replies.Unknown class)
entry_next state class name desc (Some method) = if is_entry method name desc then entry_set state method else replied state replies.EntryMissing

-- ---- explore N

-- whether a string still needs settling
abbrev pub is_unfinished : Program → ℕ → Known → Bool
is_unfinished P depth known = is_some (first_needing P depth known)

-- how far the exploration has come
abbrev pub how_far : Program → ℕ → Known → List ℕ
how_far P depth known = if is_unfinished P depth known then codes "unfinished" else codes "finished"

-- the reply to an exploration, and the state then
abbrev pub explored_next : State → Program → Explored → Next
explored_next state P e = record {
  text = reply_text (replies.Explored e.settled e.asks (how_far P state.depth e.known));
  state = record state { known = e.known };
  asks = e.asks;
}

-- `explore N`, by the entry
abbrev pub explore_next : State → ℕ → Option Method → Next
explore_next state n None = replied state replies.NoEntry
explore_next state n (Some method) = explored_next state (program_of method) (explore (program_of method) state.depth n state.known)

-- ---- report

-- the lines of a report, by the names of the classes, and its end
abbrev pub reported : List (List ℕ) → List PathRow → List ℕ
reported names rows = rows_text names rows ++ reply_text (replies.Reported (totals_of rows).paths (totals_of rows).undecided)

-- the report of a program with these names of classes, where no string needs settling
abbrev pub report_of : State → List (List ℕ) → Program → Next
report_of state names P =
    if is_unfinished P state.depth state.known
    then replied state replies.Unfinished
    else record { text = reported names (report P state.depth); state = state; asks = 0 }

-- `report`, by the entry
abbrev pub report_next : State → Option Method → Next
report_next state None = replied state replies.NoEntry
report_next state (Some method) = report_of state (names_with method) (program_of method)

-- ---- ALL COMMANDS

-- with the one answer to a command that names a file
abbrev pub with_answer : State → List Answer → (Answer → Next) → Next
with_answer state [] go = record { text = []; state = state; asks = 0 }
with_answer state (answer ∷ answers) go = go answer

-- a command, by the answers to its names
abbrev pub next : State → Command → List Answer → Next
next state commands.Nothing answers = record { text = []; state = state; asks = 0 }
next state (commands.Once file name desc words) answers = with_answer state answers (λ answer. replied state (once_reply file name desc words answer))
next state (commands.Class file) answers = with_answer state answers (class_next state file)
next state (commands.Entry class name desc) answers = entry_next state class name desc (class_named state.classes class)
next state (commands.Depth depth) answers = replied (record state { depth = depth }) (replies.DepthSet depth)
next state (commands.Explore n) answers = explore_next state n state.entry
next state commands.Report answers = report_next state state.entry
next state commands.Quit answers = replied state replies.Quitting

-- the names of files that a command asks the shelf for, in order
abbrev pub names_in : Command → List (List ℕ)
names_in commands.Nothing = []
names_in (commands.Once file name desc words) = file ∷ []
names_in (commands.Class file) = file ∷ []
names_in (commands.Entry class name desc) = []
names_in (commands.Depth depth) = []
names_in (commands.Explore n) = []
names_in commands.Report = []
names_in commands.Quit = []
