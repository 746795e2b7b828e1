-- How a program of several methods is written down, line by line, for the examples.
use Rattle.std.proofs.Common.{ℕ, ◌==◌, ◌&&◌, true, false, List, [], ◌∷◌, replicate, ℤ, pos, Option, Some, None, cond, codes, map}
use Rattle.std.specs.Option.{option_and_then, option_map}
use Rattle.ms_words.specs.declared.descriptor.FieldType.TheVariants as types
use Rattle.ms_words.specs.declared.item.Item.{Item}
use Rattle.ms_words.specs.declared.item.Item.TheVariants.{Entry, At}
use Rattle.ms_words.specs.declared.kind.Kind.{Kind}
use Rattle.ms_words.specs.declared.kind.Kind.TheVariants.{I}
use Rattle.ms_words.specs.declared.thrown.Thrown.{Thrown}
use Rattle.ms_words.specs.Descriptors.{Signature}
use Rattle.ms_words.specs.Inputs.{Words}
use Rattle.ms_terms.specs.Terms.{Constant, Param}
use Rattle.ms_machine.specs.Ints.{Int}
use Rattle.ms_machine.specs.Instructions.{Absent, Initialiser, Instr, Member, GetStatic, PutStatic}
use Rattle.ms_machine.specs.Control.{EntryView, Program, View, Views}

-- LINES

-- a handler that covers a line: the offset where it begins, and the class that it catches
pub record Cover : Type 0 where
  pub begins : ℕ
  pub catches : Thrown

-- A line of a method: the offset of an instruction, the instruction, the offset behind it, the offsets of its targets, the
-- handlers that cover it; and for a member the first items of its method and of its class's initialiser.
pub record Line : Type 0 where
  pub offset : ℕ
  pub instr : Instr
  pub after : ℕ
  pub targets : List ℕ
  pub handlers : List Cover
  pub callee : Option Item
  pub initialiser_first : Option Item

-- a line that no handler covers, and whose instruction names no member
abbrev pub line : ℕ → Instr → ℕ → List ℕ → Line
line offset instr after targets =
    record { offset = offset; instr = instr; after = after; targets = targets; handlers = []; callee = None; initialiser_first = None }

-- the line, covered by a handler that begins there and catches the class, and by those that cover it already
abbrev pub covered : ℕ → Thrown → Line → Line
covered begins catches line = record line { handlers = record { begins = begins; catches = catches } ∷ line.handlers }

-- the line, with the first item of the method that it calls
abbrev pub calling : Item → Line → Line
calling callee line = record line { callee = Some callee }

-- the line, with the first item of the initialiser of the class that it names
abbrev pub starting : Item → Line → Line
starting initialiser line = record line { initialiser_first = Some initialiser }

-- METHODS

-- a method: the number of its class, its own number there, and its lines
pub record Method : Type 0 where
  pub class : ℕ
  pub number : ℕ
  pub lines : List Line

-- the method of these numbers with these lines
abbrev pub method : (class number : ℕ) → List Line → Method
method class number lines = record { class = class; number = number; lines = lines }

-- the line of an offset, where one is there
abbrev line_at : List Line → ℕ → Option Line
line_at [] offset = None
line_at (line ∷ lines) offset = cond (line.offset == offset) (Some line) (line_at lines offset)

-- the item of an offset, where a line is there
abbrev item_at : Method → ℕ → Option Item
item_at method offset = option_map (λ (line : Line). At method.class method.number line.offset) (line_at method.lines offset)

-- the view of a line
abbrev view_of : Method → Line → View
view_of method line = record {
  instr = line.instr;
  next = item_at method line.after;
  targets = map (At method.class method.number) line.targets;
  handlers = map (λ (cover : Cover). record { begins = At method.class method.number cover.begins; catches = cover.catches }) line.handlers;
  callee = line.callee;
  initialiser_first = line.initialiser_first;
}

-- the method of these numbers, where it is there
abbrev method_at : List Method → (class number : ℕ) → Option Method
method_at [] class number = None
method_at (method ∷ methods) class number =
    cond (method.class == class && method.number == number) (Some method) (method_at methods class number)

-- the views of the lines of methods
abbrev pub views : List Method → Views
views methods Entry = None
views methods (At class number offset) =
    option_and_then (λ method. option_map (view_of method) (line_at method.lines offset)) (method_at methods class number)

-- PROGRAMS

-- The entry with parameters and a result of these kinds: the first method of the class of this number and name; and
-- whether that class has an initialiser, with its first item.
abbrev pub entry : List Kind → Option Kind → (class : ℕ) (class_name : List ℕ) → Initialiser → Option Item → EntryView
entry kinds result class class_name initialiser initialiser_first = record {
  kinds = kinds;
  result = result;
  first = At class 0 0;
  class = class;
  class_name = class_name;
  initialiser = initialiser;
  initialiser_first = initialiser_first;
}

-- the entry of class 0, which is named A and has no initialiser, with a result of kind int
abbrev pub plain_entry : List Kind → EntryView
plain_entry kinds = entry kinds (Some I) 0 (codes "A") Absent None

-- the program of an entry and methods
abbrev pub program : EntryView → List Method → Program
program entry methods = record { entry = entry; view = views methods }

-- the program of one method, which is the plain entry
abbrev pub alone : List Kind → List Line → Program
alone kinds lines = program (plain_entry kinds) (method 0 0 lines ∷ [])

-- an item of the first method of class 0
abbrev pub at : ℕ → Item
at offset = At 0 0 offset

-- MEMBERS

-- a static member that is there and not foreign: the names of its class and its own, its descriptor, the number of its class,
-- and whether that has an initialiser
abbrev pub member : (class_name name descriptor : List ℕ) (class : ℕ) → Initialiser → Member
member class_name name descriptor class initialiser =
    record { class_name = class_name; name = name; descriptor = descriptor; class = Some class; is_there = true; initialiser = initialiser }

-- the member, absent or foreign
abbrev pub absent : Member → Member
absent member = record member { is_there = false }

-- the member, with its class absent
abbrev pub without_class : Member → Member
without_class member = record member { class = None; is_there = false; initialiser = Absent }

-- Classes 0, 1 and 2 are named A, B and C, and each has a static int k.

abbrev pub field_of_A : Initialiser → Member
field_of_A initialiser = member (codes "A") (codes "k") (codes "I") 0 initialiser

abbrev pub field_of_B : Initialiser → Member
field_of_B initialiser = member (codes "B") (codes "k") (codes "I") 1 initialiser

abbrev pub field_of_C : Initialiser → Member
field_of_C initialiser = member (codes "C") (codes "k") (codes "I") 2 initialiser

-- items of the first methods of B and of C
abbrev pub in_B : ℕ → Item
in_B offset = At 1 0 offset

abbrev pub in_C : ℕ → Item
in_C offset = At 2 0 offset

-- getstatic and putstatic of an int that is 0 at first
abbrev pub get : Member → Instr
get field = GetStatic field (types.Int I) (pos 0)

abbrev pub put : Member → Instr
put field = PutStatic field (types.Int I)

-- the signature of a method that takes so many ints and returns one
abbrev pub takes_ints : ℕ → Signature
takes_ints count = record { parameters = replicate count (types.Int I); result = Some (types.Int I) }

-- that of a method without parameters that returns nothing
abbrev pub nothing : Signature
nothing = record { parameters = []; result = None }

-- INPUTS AND INTS

-- the input of no parameter, of one int, and of two
abbrev pub no_input : Words
no_input = record { kinds = []; words = [] }

abbrev pub one_int : ℤ → Words
one_int a = record { kinds = I ∷ []; words = a ∷ [] }

abbrev pub two_ints : ℤ → ℤ → Words
two_ints a b = record { kinds = I ∷ I ∷ []; words = a ∷ b ∷ [] }

-- a word that no parameter entered
abbrev pub constant : ℤ → Int
constant word = record { word = word; shadow = Constant word }

-- the word of the parameter of this number, which is of kind int
abbrev pub parameter : ℕ → ℤ → Int
parameter index word = record { word = word; shadow = Param index I }
