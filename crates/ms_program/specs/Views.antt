-- What one step of a run may read of a program: the view of an item.
use Rattle.std.specs.Prelude.{◌≡◌, ℕ, List, [], ◌∷◌, map, filter, Bool, true, false, ◌&&◌, ◌||◌, ◌==◌, nat_lt, nat_le, if◌then◌else◌, Option, Some, None, IfSome, is_some, option_map, option_and_then, slice_get, codes, ℤ}
use Rattle.std.specs.Str.{bytes_eq}
use Rattle.std.proofs.Common.{Bor}
use Rattle.ms_words.specs.declared.descriptor.EntryPart.{EntryPart}
use Rattle.ms_words.specs.declared.item.Item.{Item}
use Rattle.ms_words.specs.declared.item.Item.TheVariants.{Entry, At}
use Rattle.ms_words.specs.declared.thrown.Thrown.{Thrown}
use Rattle.ms_words.specs.Descriptors.{entry_part_of}
use Rattle.ms_words.specs.Throwables.{thrown_named}
use Rattle.ms_pool.specs.Pools.{Placed}
use Rattle.ms_pool.specs.ByNumber.{Reference, class_name, integer, member, string_text}
use Rattle.ms_code.specs.declared.decoded.Handler.{Handler}
use Rattle.ms_code.specs.declared.decoded.Step.{Step}
use Rattle.ms_code.specs.declared.instruction.Case.{Case}
use Rattle.ms_code.specs.declared.instruction.Instr.{Instr}
use Rattle.ms_code.specs.declared.instruction.Operand.{Operand}
use Rattle.ms_code.specs.declared.instruction.Operand.TheVariants as operands
use Rattle.ms_code.specs.Codes.{next_of, step_at, targets_of}
use Rattle.ms_program.specs.declared.body.Body.{Body}
use Rattle.ms_program.specs.declared.method.MethodId.{MethodId}
use Rattle.ms_program.specs.declared.view.Initialiser.{Initialiser}
use Rattle.ms_program.specs.declared.view.Initialiser.TheVariants as initialisers
use Rattle.ms_program.specs.declared.view.CatchPart.{CatchPart}
use Rattle.ms_program.specs.declared.view.Named as declared
use Rattle.ms_program.specs.declared.view.Named.TheVariants as named
use Rattle.ms_program.specs.declared.view.MemberPart.{MemberPart}
use Rattle.ms_program.specs.Programs.{Class, Program, body_of, class_named, static_in, initialiser_in, initialiser_method, key_of, method_id, method_in}

-- what a number of the pool names: an int, a text, a throwable, or a member of a class
pub data Name : Type 0 where
  Word : ℤ → Name
  Text : List ℕ → Name
  Throwable : Thrown → Name
  Member : (class name desc : List ℕ) → Name

-- what a number names, without where it lies in memory
abbrev pub name_of : declared.Named → Name
name_of (named.Word word) = Word word
name_of (named.Text text) = Text text.now
name_of (named.Throwable thrown) = Throwable thrown
name_of (named.Member class name desc) = Member class.now name.now desc.now

-- the view of an item; what it doesn't have is None, or empty
pub record View : Type 0 where
  -- what the entry takes and returns
  pub entry_part : Option EntryPart
  -- the instruction as it is written, without its number of the pool and its targets
  pub instr : Option Instr
  -- what its number of the pool names
  pub named : Option Name
  -- the instruction behind it in the code, whatever the opcode
  pub successor : Option Item
  -- its targets, in the order of the table, the default of a switch last
  pub targets : List Item
  -- the handlers that cover it, in the order of the table
  pub handlers : List CatchPart
  -- what is known of the static member that it names: whether its class is there, whether the member is there and not
  -- foreign, and the int that a field has at first
  pub member : Option MemberPart
  -- whether the class of the member, or of the entry, has an initialiser
  pub initialiser : Option Initialiser
  -- the first instruction of the method, or of the entry
  pub first_item : Option Item
  -- the first instruction of that initialiser
  pub initialiser_item : Option Item

-- THE INSTRUCTION

-- what starts at an item
abbrev pub step_of : Program → Item → Option Step
step_of P Entry = None
step_of P (At class method offset) = option_and_then (λ (body : Body). step_at body.code.steps offset) (body_of P (method_id class method))

-- the instruction of an item
abbrev pub instr_of : Program → Item → Option Instr
instr_of P item = option_map (λ (step : Step). step.instr) (step_of P item)

-- a case without its target
abbrev pub bare_case : Case → Case
bare_case case = record { key = case.key; target = 0 }

-- operands without a number of the pool and without targets
abbrev pub bare_operand : Operand → Operand
bare_operand (operands.Pool i) = operands.Pool 0
bare_operand (operands.Target target) = operands.Target 0
bare_operand (operands.Cases switch) = operands.Cases (record { cases = map bare_case switch.cases; otherwise = 0 })
bare_operand other = other

-- an instruction as it is written, without these
abbrev pub bare : Instr → Instr
bare instr = record { op = instr.op; wide = instr.wide; operand = bare_operand instr.operand }

-- WHAT IT NAMES

-- the class of an item
abbrev pub class_at : Program → Item → Option Class
class_at P Entry = None
class_at P (At class method offset) = slice_get P.classes class

-- the number of the pool that an operand has
abbrev pub pool_index : Operand → Option ℕ
pool_index (operands.Pool i) = Some i
pool_index other = None

-- the member of a reference
abbrev pub name_of_member : Reference → Name
name_of_member reference = Member reference.class reference.name reference.desc

-- an int, or else a text
abbrev pub constant_named : List (Option Placed) → ℕ → Option ℤ → Option Name
constant_named pool i (Some word) = Some (Word word)
constant_named pool i None = option_map Text (string_text pool i)

-- what a number of the pool names behind this opcode: `ldc` and `ldc_w` name an int or a text, `new` a throwable, and the
-- others a member
abbrev pub named_by : List (Option Placed) → (op i : ℕ) → Option Name
named_by pool op i =
    if op == 18 || op == 19 then constant_named pool i (integer pool i)
    else (if op == 187 then option_map Throwable (option_and_then thrown_named (class_name pool i))
    else option_map name_of_member (member pool i))

-- what an instruction of a class names
abbrev pub named_in : Class → Instr → Option Name
named_in class instr = option_and_then (named_by class.pool instr.op) (pool_index instr.operand)

-- WHERE IT GOES

-- the instruction behind an item
abbrev pub successor_of : Program → Item → Option Item
successor_of P Entry = None
successor_of P (At class method offset) = option_map (At class method) (option_and_then (λ (body : Body). next_of body.code offset) (body_of P (method_id class method)))

-- the targets of an item's instruction
abbrev pub targets_at : Item → Instr → List Item
targets_at Entry instr = []
targets_at (At class method offset) instr = map (At class method) (targets_of instr.operand)

-- whether a handler covers an offset
abbrev pub covers : ℕ → Handler → Bool
covers offset handler = nat_le handler.start offset && nat_lt offset handler.«end»

-- a handler, seen from its method
abbrev pub catch_part : (class method : ℕ) → Handler → CatchPart
catch_part class method handler = record { handler = At class method handler.target; catches = handler.catches }

-- the handlers that cover an item
abbrev pub handlers_at : Item → Body → List CatchPart
handlers_at Entry body = []
handlers_at (At class method offset) body = map (catch_part class method) (filter (covers offset) body.code.handlers)

-- MEMBERS

-- whether an instruction names a static member: `getstatic`, `putstatic` and `invokestatic`
abbrev pub is_static_member_op : ℕ → Bool
is_static_member_op op = op == 178 || (op == 179 || op == 184)

-- the static member that an instruction of a class names
abbrev pub reference_in : Class → Instr → Option Reference
reference_in class instr = if is_static_member_op instr.op then option_and_then (member class.pool) (pool_index instr.operand) else None

-- the first instruction of a method
abbrev pub first_of : (class method : ℕ) → Item
first_of class method = At class method 0

-- a class with its number
abbrev pub Numbered : Type 0
Numbered = ℕ × Class

-- for private functions: a class that is lent with its number
abbrev pub seen : ℕ × Bor Class → Numbered
seen there = (there.0, there.1.now)

-- the class of this number
abbrev pub numbered : Program → ℕ → Option Numbered
numbered P number = option_map (λ (class : Class). (number, class)) (slice_get P.classes number)

-- the class of this name
abbrev pub numbered_by_name : Program → List ℕ → Option Numbered
numbered_by_name P name = option_and_then (numbered P) (class_named P name)

-- the static member that an item names
abbrev pub reference_of : Program → Item → Option Reference
reference_of P item = option_and_then (λ class. option_and_then (reference_in class) (instr_of P item)) (class_at P item)

-- what a field of this descriptor has at first: an array of ints has null
abbrev pub int_initial : List ℕ → Option ℤ → Option ℤ
int_initial desc initial = if bytes_eq desc (codes "[I") then None else initial

-- a member of a class that is there
abbrev pub member_there : Class → (op : ℕ) → Reference → MemberPart
member_there class op reference =
    if op == 184 then record { class_present = true; member_present = is_some (method_in class reference.name reference.desc); initial = None }
    else record { class_present = true; member_present = is_some (static_in class reference.name reference.desc); initial = int_initial reference.desc (static_in class reference.name reference.desc) }

-- a member, by its class, if that is there
abbrev pub member_part : (op : ℕ) → Reference → Option Numbered → MemberPart
member_part op reference None = record { class_present = false; member_present = false; initial = None }
member_part op reference (Some there) = member_there there.1 op reference

-- the opcode of an item
abbrev pub op_of : Program → Item → Option ℕ
op_of P item = option_map (λ (instr : Instr). instr.op) (instr_of P item)

-- what is known of the static member that an item names
abbrev pub member_of : Program → Item → Option MemberPart
member_of P item = option_and_then (λ op. option_map (λ (reference : Reference). member_part op reference (numbered_by_name P reference.class)) (reference_of P item)) (op_of P item)

-- The class whose initialiser counts, that of the entry or of the static member: none where the item speaks of no class,
-- and no class where it names one that is absent.
abbrev pub whose : Program → Item → Option (Option Numbered)
whose P Entry = option_map (λ (id : MethodId). numbered P id.class) P.entry
whose P (At class method offset) = option_map (λ (reference : Reference). numbered_by_name P reference.class) (reference_of P (At class method offset))

-- the state of its initialiser: that of an absent class is `Absent`
abbrev pub initialiser_there : Option Numbered → Initialiser
initialiser_there None = initialisers.Absent
initialiser_there (Some there) = initialiser_in there.1

-- the first instruction of its initialiser
abbrev pub initialiser_first : Option Numbered → Option Item
initialiser_first there = option_and_then (λ (known : Numbered). option_map (first_of known.0) (initialiser_method known.1)) there

-- the first instruction of a method that is named
abbrev pub method_first : (op : ℕ) → Reference → Option Numbered → Option Item
method_first op reference there = if op == 184 then option_and_then (λ (known : Numbered). option_map (first_of known.0) (method_in known.1 reference.name reference.desc)) there else None

-- the first instruction of the entry, or of the method that an item names
abbrev pub first_item_of : Program → Item → Option Item
first_item_of P Entry = option_map (λ (id : MethodId). first_of id.class id.method) P.entry
first_item_of P (At class method offset) =
    option_and_then (λ op. option_and_then (λ (reference : Reference). method_first op reference (numbered_by_name P reference.class)) (reference_of P (At class method offset))) (op_of P (At class method offset))

-- THE VIEW

-- what the entry takes and returns
abbrev pub entry_part_at : Program → Item → Option EntryPart
entry_part_at P Entry = option_and_then (λ (key : List ℕ × List ℕ). entry_part_of key.1) (option_and_then (key_of P) P.entry)
entry_part_at P (At class method offset) = None

-- what a method of an item does
abbrev pub body_at : Program → Item → Option Body
body_at P Entry = None
body_at P (At class method offset) = body_of P (method_id class method)

-- a list, or none
abbrev pub or_empty : {X : Type 0} → Option (List X) → List X
or_empty None = []
or_empty (Some xs) = xs

-- the parts of a view
abbrev pub view_at : Program → Item → View
view_at P item = record {
  entry_part = entry_part_at P item;
  instr = option_map bare (instr_of P item);
  named = option_and_then (λ class. option_and_then (named_in class) (instr_of P item)) (class_at P item);
  successor = successor_of P item;
  targets = or_empty (option_map (targets_at item) (instr_of P item));
  handlers = or_empty (option_map (handlers_at item) (body_at P item));
  member = member_of P item;
  initialiser = option_map initialiser_there (whose P item);
  first_item = first_item_of P item;
  initialiser_item = option_and_then initialiser_first (whose P item);
}

-- whether an item has a view: it is an instruction of a method that isn't foreign, or the entry, if one is set
abbrev pub has_view : Program → Item → Bool
has_view P Entry = is_some P.entry
has_view P (At class method offset) = is_some (step_of P (At class method offset))

-- the view of an item
abbrev pub view : Program → Item → Option View
view P item = if has_view P item then Some (view_at P item) else None

-- AGREEMENT

-- a partial map of items
abbrev pub ItemMap : Type 0
ItemMap = Item → Option Item

-- an item and one that stands in its place: its image, where it is in the map's domain
abbrev pub AgreeItem : ItemMap → Item → Item → Type 0
AgreeItem images item other = IfSome (images item) (λ image. other ≡ image)

-- both are there, or neither is
abbrev pub AgreeIfAny : ItemMap → Option Item → Option Item → Type 0
AgreeIfAny images None None = Unit {0}
AgreeIfAny images (Some item) (Some other) = AgreeItem images item other
AgreeIfAny images item other = ⊥

-- item by item
abbrev pub AgreeItems : ItemMap → List Item → List Item → Type 0
AgreeItems images [] [] = Unit {0}
AgreeItems images (item ∷ items) (other ∷ others) = AgreeItem images item other × AgreeItems images items others
AgreeItems images items others = ⊥

-- handler by handler: they catch the same
abbrev pub AgreeHandlers : ItemMap → List CatchPart → List CatchPart → Type 0
AgreeHandlers images [] [] = Unit {0}
AgreeHandlers images (part ∷ parts) (other ∷ others) = ((part.catches ≡ other.catches) × AgreeItem images part.handler other.handler) × AgreeHandlers images parts others
AgreeHandlers images parts others = ⊥

-- Two views agree under a partial map of items: all that isn't an item is equal, and each item of the first that is in the
-- map's domain stands in the second as its image.
pub record Agree (images : ItemMap) (first second : View) : Type 0 where
  pub entry_part : first.entry_part ≡ second.entry_part
  pub instr : first.instr ≡ second.instr
  pub named : first.named ≡ second.named
  pub member : first.member ≡ second.member
  pub initialiser : first.initialiser ≡ second.initialiser
  pub successor : AgreeIfAny images first.successor second.successor
  pub targets : AgreeItems images first.targets second.targets
  pub handlers : AgreeHandlers images first.handlers second.handlers
  pub first_item : AgreeIfAny images first.first_item second.first_item
  pub initialiser_item : AgreeIfAny images first.initialiser_item second.initialiser_item
