-- How the methods of the examples are written down, instruction by instruction, and how what comes of one is computed.
use Rattle.std.proofs.Common.{◌≡◌, ℕ, zero, suc, ◌+◌, ◌-◌, ◌&&◌, Bool, true, false, pos, List, [], ◌∷◌, ◌++◌, length, map, filter, is_some, replicate, nat_le, nat_lt, slice_set, Option, Some, None, codes, subst, refl}
use Rattle.ms_words.specs.declared.descriptor.FieldType.{FieldType}
use Rattle.ms_words.specs.declared.descriptor.FieldType.TheVariants as types
use Rattle.ms_words.specs.declared.kind.Kind.TheVariants.{I}
use Rattle.ms_words.specs.declared.operator.Bin.TheVariants.{Add}
use Rattle.ms_words.specs.declared.thrown.Thrown.{Thrown}
use Rattle.ms_machine.specs.Instructions.{Absent, Instr, Member, OfInt, OfReference, Equal, Skip, Push, PushNull, PushText, Load, Store, Shuffle, Combine, Increment, CompareZero, CompareReferences, CompareNull, Goto, Switch, ReturnValue, ReturnVoid, Construct, Throw, NewArray, ArrayLength}
use Rattle.ms_machine.specs.Instructions as instructions
use Rattle.ms_typing.specs.declared.kind.PlaceKind.{PlaceKind}
use Rattle.ms_typing.specs.declared.kind.VerifyKind.{VerifyKind}
use Rattle.ms_typing.specs.Kinds.{Shape}
use Rattle.ms_typing.specs.Rules.{Profile}
use Rattle.ms_typing.specs.Verifier.{Accepted, Cell, Ends, Fails, Fault, Leaves, Line, Method, Outcome, Rests, Settled, Stops, Turn, Turns, Unreached, Verifies, lowest, start, turn}
use Rattle.ms_typing.proofs.Classes.{some_is}

-- INSTRUCTIONS AS THEY ARE WRITTEN

-- what an instruction does, how many bytes it has, and its targets; the offsets come of the sizes
pub record Written : Type 0 where
  pub instr : Instr
  pub size : ℕ
  pub targets : List ℕ

-- one of so many bytes without targets, and a branch
abbrev pub sized : ℕ → Instr → Written
sized size instr = record { instr = instr; size = size; targets = [] }

abbrev pub to : Instr → ℕ → Written
to instr target = record { instr = instr; size = 3; targets = target ∷ [] }

-- constants
abbrev pub nop : Written
nop = sized 1 Skip

abbrev pub aconst_null : Written
aconst_null = sized 1 PushNull

abbrev pub iconst : ℕ → Written
iconst n = sized 1 (Push (pos n))

-- ldc of a string
abbrev pub ldc : Written
ldc = sized 2 (PushText (codes "no"))

-- loads and stores of a local, and iinc by 1
abbrev pub iload : ℕ → Written
iload local = sized 1 (Load OfInt local)

abbrev pub aload : ℕ → Written
aload local = sized 1 (Load OfReference local)

abbrev pub istore : ℕ → Written
istore local = sized 1 (Store OfInt local)

abbrev pub astore : ℕ → Written
astore local = sized 1 (Store OfReference local)

abbrev pub iinc : ℕ → Written
iinc local = sized 3 (Increment local (pos 1))

-- the stack, and arithmetic
abbrev pub pop : Written
pop = sized 1 (Shuffle 1 [])

abbrev pub dup : Written
dup = sized 1 (Shuffle 1 (0 ∷ 0 ∷ []))

abbrev pub swap : Written
swap = sized 1 (Shuffle 2 (1 ∷ 0 ∷ []))

abbrev pub iadd : Written
iadd = sized 1 (Combine Add)

-- branches
abbrev pub ifeq : ℕ → Written
ifeq target = to (CompareZero Equal) target

abbrev pub ifnull : ℕ → Written
ifnull target = to (CompareNull true) target

abbrev pub if_acmpeq : ℕ → Written
if_acmpeq target = to (CompareReferences true) target

abbrev pub goto : ℕ → Written
goto target = to Goto target

-- lookupswitch with two keys, their targets and the default, at offset 1, or 5, 9, 13: the offset decides how many bytes fill the gap
abbrev pub lookupswitch : (first second default : ℕ) → Written
lookupswitch first second default = record { instr = Switch (pos 3 ∷ pos 7 ∷ []); size = 27; targets = first ∷ second ∷ default ∷ [] }

-- returns
abbrev pub ireturn : Written
ireturn = sized 1 (ReturnValue OfInt)

abbrev pub areturn : Written
areturn = sized 1 (ReturnValue OfReference)

abbrev pub returns : Written
returns = sized 1 ReturnVoid

-- throwables
abbrev pub new : Thrown → Written
new class = sized 3 (instructions.New class)

abbrev pub invokespecial : Thrown → Written
invokespecial class = sized 3 (Construct false class)

-- the same with a message
abbrev pub with_message : Thrown → Written
with_message class = sized 3 (Construct true class)

abbrev pub athrow : Written
athrow = sized 1 Throw

-- arrays
abbrev pub newarray : Written
newarray = sized 2 NewArray

abbrev pub arraylength : Written
arraylength = sized 1 ArrayLength

-- METHODS

-- an entry of the exception table: it covers from an offset to one that isn't covered; where the handler begins, what it catches
pub record Range : Type 0 where
  pub first : ℕ
  pub behind : ℕ
  pub begins : ℕ
  pub catches : Thrown

abbrev pub covers : (first behind begins : ℕ) → Thrown → Range
covers first behind begins catches = record { first = first; behind = behind; begins = begins; catches = catches }

-- the handlers that cover an offset
abbrev handlers_at : List Range → ℕ → List (ℕ × Thrown)
handlers_at table offset =
    map (λ (range : Range). (range.begins, range.catches)) (filter (λ (range : Range). nat_le range.first offset && nat_lt offset range.behind) table)

-- the offset behind an instruction, if others follow
abbrev next_of : ℕ → List Written → Option ℕ
next_of behind [] = None
next_of behind (written ∷ others) = Some behind

-- the lines of a code, from an offset on
abbrev lines : List Range → ℕ → List Written → List (Option Line)
lines table offset [] = []
lines table offset (written ∷ others) =
    Some (record { instr = written.instr; next = next_of (offset + written.size) others; targets = written.targets; handlers = handlers_at table offset })
    ∷ replicate (written.size - 1) None ++ lines table (offset + written.size) others

abbrev pub method : Profile → List Range → List Written → Method
method profile table code = record { profile = profile; lines = lines table 0 code }

abbrev pub profile : (max_stack max_locals : ℕ) → List FieldType → Option FieldType → Profile
profile max_stack max_locals parameters result = record { max_stack = max_stack; max_locals = max_locals; parameters = parameters; result = result }

-- the type I, and the type [I
abbrev pub int : FieldType
int = types.Int I

abbrev pub ints : FieldType
ints = types.IntArray

-- at most two places on the stack, two locals, one parameter and an int as result
abbrev pub small : Profile
small = profile 2 2 (int ∷ []) (Some int)

-- at most three places on the stack, two locals, one parameter and nothing as result
abbrev pub procedure : Profile
procedure = profile 3 2 (int ∷ []) None

-- a static member that is there; what it is called counts for nothing here
abbrev pub member : Member
member = record { class_name = codes "T"; name = codes "m"; descriptor = codes "I"; class = Some 0; is_there = true; initialiser = Absent }

-- WHAT COMES OF A METHOD

-- locals, and a stack with the top first
abbrev pub shape : List PlaceKind → List PlaceKind → Shape
shape locals stack = record { locals = locals; stack = stack }

-- an offset that is reached, with its last locals and stack
abbrev pub at : ℕ → List PlaceKind → List PlaceKind → ℕ × Shape
at offset locals stack = (offset, shape locals stack)

-- so many offsets, of which these are reached and settled
abbrev settled : ℕ → List (ℕ × Shape) → List Cell
settled size [] = replicate size Unreached
settled size (reached ∷ others) = slice_set (settled size others) reached.0 (Settled reached.1)

-- the method is accepted: these offsets are reached, with these last shapes, and no others
abbrev pub Accepts : Method → List (ℕ × Shape) → Type 0
Accepts method reached = Verifies method (Accepted (settled (length method.lines) reached))

-- the method has this first fault
abbrev pub Refuses : Method → ℕ → VerifyKind → Type 0
Refuses method offset kind = Verifies method (Fault offset kind)

-- COMPUTING IT

-- what comes of offsets of which this one waits, if one does
abbrev rested : List Cell → Option (ℕ × Shape) → (ℕ × Shape → Option Outcome) → Option Outcome
rested cells None go = Some (Accepted cells)
rested cells (Some waiting) go = go waiting

-- what comes of a turn, where `go` says what comes of the offsets that it leaves
abbrev turned : (List Cell → Option Outcome) → Turn → Option Outcome
turned go (Leaves cells) = go cells
turned go (Fails offset kind) = Some (Fault offset kind)

-- what comes of these offsets in so many turns, or None where there are more
abbrev outcome_within : ℕ → Method → List Cell → Option Outcome
outcome_within zero method cells = rested cells (lowest cells) (λ waiting. None)
outcome_within (suc turns) method cells = rested cells (lowest cells) (λ waiting. turned (outcome_within turns method) (turn method cells waiting))

-- whether a method takes no more turns than so many
abbrev pub is_over : ℕ → Method → Bool
is_over turns method = is_some (outcome_within turns method (start method))

-- what is computed so is what comes of them
ends_within : (turns : ℕ) (method : Method) (cells : List Cell) (outcome : Outcome) → outcome_within turns method cells ≡ Some outcome → Ends method cells outcome
ends_within zero method cells outcome e = at_lowest (lowest cells) refl e
  where
    at_lowest : (found : Option (ℕ × Shape)) → lowest cells ≡ found → rested cells found (λ waiting. None) ≡ Some outcome → Ends method cells outcome
    at_lowest None l h = subst (λ end. Ends method cells end) (some_is (Accepted cells) outcome h) (Rests cells l)
    at_lowest (Some waiting) l h = cc
ends_within (suc turns) method cells outcome e = at_lowest (lowest cells) refl e (ends_within turns method)
  where
    Computes : Type 0
    Computes = (next : List Cell) (end : Outcome) → outcome_within turns method next ≡ Some end → Ends method next end

    at_turn : (waiting : ℕ × Shape) → lowest cells ≡ Some waiting → (t : Turn) → turn method cells waiting ≡ t → turned (outcome_within turns method) t ≡ Some outcome → Computes → Ends method cells outcome
    at_turn waiting l (Leaves next) t h go = Turns cells waiting next outcome l t (go next outcome h)
    at_turn waiting l (Fails offset kind) t h go = subst (λ end. Ends method cells end) (some_is (Fault offset kind) outcome h) (Stops cells waiting offset kind l t)

    at_lowest : (found : Option (ℕ × Shape)) → lowest cells ≡ found → rested cells found (λ waiting. turned (outcome_within turns method) (turn method cells waiting)) ≡ Some outcome → Computes → Ends method cells outcome
    at_lowest None l h go = subst (λ end. Ends method cells end) (some_is (Accepted cells) outcome h) (Rests cells l)
    at_lowest (Some waiting) l h go = at_turn waiting l (turn method cells waiting) refl h go

-- so it is of a method, in so many turns or fewer
pub by_turns : (turns : ℕ) (method : Method) (outcome : Outcome) → outcome_within turns method (start method) ≡ Some outcome → Verifies method outcome
by_turns turns method outcome e = ends_within turns method (start method) outcome e
