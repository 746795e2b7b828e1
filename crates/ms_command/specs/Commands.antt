-- Which command a line is, or else the refusal that is the reply to it.
use Rattle.std.specs.Prelude.{◌≡◌, ◌≢◌, ℕ, ◌≤◌, List, [], ◌∷◌, ◌&&◌, nat_le, Option, Some, None, Result, Ok, Err, ℤ, codes, if◌then◌else◌}
use Rattle.std.specs.List.{list_all}
use Rattle.std.specs.Str.{bytes_eq}
use Rattle.ms_words.specs.Inputs.{is_of}
use Rattle.ms_words.specs.declared.kind.Kind.TheVariants.{I}
use Rattle.ms_command.specs.declared.command.Command.{Command}
use Rattle.ms_command.specs.declared.command.Command.TheVariants.{Nothing, Once, Class, Entry, Depth, Explore, Report, Quit}
use Rattle.ms_command.specs.declared.command.CommandRefusal.{CommandRefusal}
use Rattle.ms_command.specs.declared.command.CommandRefusal.TheVariants as refusals
use Rattle.ms_command.specs.declared.reply.Reply.{Reply}
use Rattle.ms_command.specs.declared.reply.Reply.TheVariants.{NoLine, NoCommand, Range}
use Rattle.ms_command.specs.Lines.{is_plain, tokens}
use Rattle.ms_command.specs.Numerals.{numeral_value, number_values}

-- the command that these numbers make, where each is a word of 32 bits; no form fits where a token is no number, and else
-- a number is out of range
abbrev pub in_range : (List ℤ → Command) → Option (List ℤ) → Result Command Reply
in_range make None = Err NoCommand
in_range make (Some numbers) = if list_all (is_of I) numbers then Ok (make numbers) else Err Range

-- `once FILE NAME DESC WORD..`, behind its first word
abbrev pub once_of : List (List ℕ) → Result Command Reply
once_of [] = Err NoCommand
once_of (file ∷ []) = Err NoCommand
once_of (file ∷ name ∷ []) = Err NoCommand
once_of (file ∷ name ∷ desc ∷ words) = in_range (Once file name desc) (number_values words)

-- the command that this number makes, where it is one from `lowest` to `highest`
abbrev pub ranged : (lowest highest : ℕ) → (ℕ → Command) → Option ℕ → Result Command Reply
ranged lowest highest make None = Err NoCommand
ranged lowest highest make (Some number) = if nat_le lowest number && nat_le number highest then Ok (make number) else Err Range

-- `class FILE`, behind its first word
abbrev pub class_of : List (List ℕ) → Result Command Reply
class_of [] = Err NoCommand
class_of (file ∷ []) = Ok (Class file)
class_of (file ∷ extra ∷ more) = Err NoCommand

-- `entry CLASS NAME DESC`, behind its first word
abbrev pub entry_of : List (List ℕ) → Result Command Reply
entry_of [] = Err NoCommand
entry_of (class ∷ []) = Err NoCommand
entry_of (class ∷ name ∷ []) = Err NoCommand
entry_of (class ∷ name ∷ desc ∷ []) = Ok (Entry class name desc)
entry_of (class ∷ name ∷ desc ∷ extra ∷ more) = Err NoCommand

-- `depth N`, behind its first word
abbrev pub depth_of : List (List ℕ) → Result Command Reply
depth_of [] = Err NoCommand
depth_of (depth ∷ []) = ranged 0 256 Depth (numeral_value depth)
depth_of (depth ∷ extra ∷ more) = Err NoCommand

-- `explore N`, behind its first word
abbrev pub explore_of : List (List ℕ) → Result Command Reply
explore_of [] = Err NoCommand
explore_of (most ∷ []) = ranged 1 1000000 Explore (numeral_value most)
explore_of (most ∷ extra ∷ more) = Err NoCommand

-- `report` and `quit`, behind their only word
abbrev pub alone : Command → List (List ℕ) → Result Command Reply
alone command [] = Ok command
alone command (extra ∷ more) = Err NoCommand

-- the command that tokens are, or else why they are none
abbrev pub command_of_tokens : List (List ℕ) → Result Command Reply
command_of_tokens [] = Ok Nothing
command_of_tokens (word ∷ arguments) =
    if bytes_eq word (codes "once") then once_of arguments
    else (if bytes_eq word (codes "class") then class_of arguments
    else (if bytes_eq word (codes "entry") then entry_of arguments
    else (if bytes_eq word (codes "depth") then depth_of arguments
    else (if bytes_eq word (codes "explore") then explore_of arguments
    else (if bytes_eq word (codes "report") then alone Report arguments
    else (if bytes_eq word (codes "quit") then alone Quit arguments
    else Err NoCommand))))))

-- the command that a line is, or else why it is none
abbrev pub command_of : List ℕ → Result Command Reply
command_of line = if is_plain line then command_of_tokens (tokens line) else Err NoLine

-- why a line is refused: as the reply to it says, NoLine (1), NoCommand (2) or Range (13); want of memory may come for any
-- line but one that is refused as NoLine
abbrev pub Refuses : CommandRefusal → Result Command Reply → Type 0
Refuses refusals.Line found = found ≡ Err NoLine
Refuses refusals.Command found = found ≡ Err NoCommand
Refuses refusals.Range found = found ≡ Err Range
Refuses refusals.NoMemory found = found ≢ Err NoLine

-- the number of a command is within its range
abbrev pub IsInRange : Command → Type 0
IsInRange Nothing = Unit {0}
IsInRange (Once file name desc words) = Unit {0}
IsInRange (Class file) = Unit {0}
IsInRange (Entry class name desc) = Unit {0}
IsInRange (Depth depth) = depth ≤ 256
IsInRange (Explore most) = (1 ≤ most) × (most ≤ 1000000)
IsInRange Report = Unit {0}
IsInRange Quit = Unit {0}
