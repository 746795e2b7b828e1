-- States of the machine whose values are of the kinds that a verified program says, and steps that are not stuck.
use Rattle.std.specs.Prelude.{◌≡◌, ℕ, suc, ◌<◌, Bool, true, List, [], ◌∷◌, ◌++◌, length, map, nat_lt, Option, Some, None, is_none, option_map, slice_get}
use Rattle.std.specs.List.{list_all}
use Rattle.ms_words.specs.declared.descriptor.FieldType.{FieldType}
use Rattle.ms_words.specs.declared.descriptor.FieldType.TheVariants as types
use Rattle.ms_words.specs.declared.item.Item.{Item}
use Rattle.ms_words.specs.Descriptors.{Signature, field_type_of}
use Rattle.ms_words.specs.Inputs.{Words}
use Rattle.ms_terms.specs.Terms.{Term}
use Rattle.ms_machine.specs.Ints.{Int, Ints, Marked, ints, marks, shadows}
use Rattle.ms_machine.specs.Instructions.{Member, Present, Instr, Shuffle, Compare, CompareZero, CompareReferences, CompareNull, Goto, Switch, GetStatic, PutStatic, Invoke}
use Rattle.ms_machine.specs.Values as values
use Rattle.ms_machine.specs.Values.{Value, Throwable, Static, Stuck}
use Rattle.ms_machine.specs.Control.{Frame, Handler, Program, State, Done, Goes, Ends, Step, Then, Chooses, View, Views, step}
use Rattle.ms_machine.specs.Tests.{arms_of}
use Rattle.ms_machine.specs.Segments.{After, Choice, Over, done_within, segment_from}
use Rattle.ms_machine.specs.Runs.{IsInputOf, after_arms, done_after, started}
use Rattle.ms_machine.specs.Laws.{HasArm, marked_start, shadow_started}
use Rattle.ms_typing.specs.declared.kind.PlaceKind.{PlaceKind}
use Rattle.ms_typing.specs.declared.kind.PlaceKind.TheVariants.{Unset}
use Rattle.ms_typing.specs.declared.kind.PlaceKind.TheVariants as kinds
use Rattle.ms_typing.specs.Kinds.{Shape, Tag, IsInt, IsNull, IsArray, IsText, IsThrown, IsNew, Within, holds}
use Rattle.ms_typing.specs.Rules.{Profile, after, fault, goes_on, kind_of, result_kinds}
use Rattle.ms_typing.specs.Verifier.{filled}

-- WHAT IS SAID OF THE ITEMS OF A PROGRAM

-- of an item that is reached: the shape before it, and the result of its method
pub record Typing : Type 0 where
  pub shape : Shape
  pub result : Option FieldType

abbrev pub Typings : Type 0
Typings = Item → Option Typing

-- an item, in a method of this result, takes this shape
pub record Leads (T : Typings) (result : Option FieldType) (to : Option Item) (shape : Shape) : Type 0 where
  pub item : Item
  pub is : to ≡ Some item
  pub wider : Shape
  pub at : T item ≡ Some (record { shape = wider; result = result })
  pub within : Within shape wider

-- each handler takes these locals and the throwable that it catches
abbrev pub AllLead : Typings → Option FieldType → List Handler → List PlaceKind → Type 0
AllLead T result [] locals = Unit {0}
AllLead T result (handler ∷ handlers) locals =
    Leads T result (Some handler.begins) (record { locals = locals; stack = kinds.Thrown handler.catches ∷ [] }) × AllLead T result handlers locals

-- a method of these parameters and this result begins there
pub record Begins (T : Typings) (to : Option Item) (parameters : List FieldType) (result : Option FieldType) : Type 0 where
  -- the locals of the method
  pub count : ℕ
  pub leads : Leads T result to (record { locals = filled count (map kind_of parameters); stack = [] })

-- how many targets an instruction has at least
abbrev pub targets_of : Instr → ℕ
targets_of (Compare comparison) = 1
targets_of (CompareZero comparison) = 1
targets_of (CompareReferences same) = 1
targets_of (CompareNull null) = 1
targets_of Goto = 1
targets_of (Switch keys) = suc (length keys)
targets_of other = 0

-- whether an instruction moves only values that it takes
abbrev pub moves_its_own : Instr → Bool
moves_its_own (Shuffle count places) = list_all (λ place. nat_lt place count) places
moves_its_own other = true

-- the type of the static field that it names is that of the field's descriptor
abbrev pub HasFieldType : Instr → Type 0
HasFieldType (GetStatic member type initial) = field_type_of member.descriptor ≡ Some type
HasFieldType (PutStatic member type) = field_type_of member.descriptor ≡ Some type
HasFieldType other = Unit {0}

-- the member that it names
abbrev pub member_of : Instr → Option Member
member_of (GetStatic member type initial) = Some member
member_of (PutStatic member type) = Some member
member_of (Invoke member signature) = Some member
member_of other = None

-- the member is one that a run may come to: its class is there, and it is
pub record IsReachable (member : Member) : Type 0 where
  pub number : ℕ
  pub class : member.class ≡ Some number
  pub is_there : member.is_there ≡ true

-- The rules hold of an item that is reached: its instruction has no fault, and all that it may lead to takes what it is
-- passed. The last four speak of the program and not of kinds.
pub record IsFine (P : Views) (T : Typings) (item : Item) (typing : Typing) : Type 0 where
  pub view : View
  pub is : P item ≡ Some view
  pub profile : Profile
  pub offset : ℕ
  pub fine : fault profile offset view.instr (is_none view.next) typing.shape ≡ None
  pub result : profile.result ≡ typing.result
  pub next : goes_on view.instr ≡ true → Leads T typing.result view.next (after offset view.instr typing.shape)
  pub targets : (k : ℕ) → k < targets_of view.instr → Leads T typing.result (slice_get view.targets k) (after offset view.instr typing.shape)
  pub handlers : AllLead T typing.result view.handlers typing.shape.locals
  pub own : moves_its_own view.instr ≡ true
  pub field : HasFieldType view.instr
  pub callee : (member : Member) (signature : Signature) → view.instr ≡ Invoke member signature → IsReachable member → Begins T view.callee signature.parameters signature.result
  pub initialiser : (member : Member) → member_of view.instr ≡ Some member → IsReachable member → member.initialiser ≡ Present → Begins T view.initialiser_first [] None

-- so it is of each item that is reached
abbrev pub AreFine : Views → Typings → Type 0
AreFine P T = (item : Item) (typing : Typing) → T item ≡ Some typing → IsFine P T item typing

-- of a program: the entry takes ints, and returns an int or nothing, and begins where its parameters are taken; so does the
-- initialiser of its class
pub record IsVerified (P : Program) (T : Typings) : Type 0 where
  pub items : AreFine P.view T
  pub entry : Begins T (Some P.entry.first) (map (λ kind. types.Int kind) P.entry.kinds) (option_map (λ kind. types.Int kind) P.entry.result)
  pub initialiser : P.entry.initialiser ≡ Present → Begins T P.entry.initialiser_first [] None

-- VALUES, where so many arrays were made

-- what a value is; a throwable may be both new, made at any offset, and initialised
abbrev pub Is : {V : Type 0} → ℕ → Tag → Value V → Type 0
Is arrays IsInt (values.Int a) = Unit {0}
Is arrays IsNull values.Null = Unit {0}
Is arrays IsArray (values.Array number) = number < arrays
Is arrays IsText (values.Text bytes) = Unit {0}
Is arrays (IsThrown class) (Throwable number other) = class ≡ other
Is arrays (IsNew offset class) (Throwable number other) = class ≡ other
Is arrays tag v = ⊥

-- a place of the kind may hold the value
pub record HasKind {V : Type 0} (arrays : ℕ) (kind : PlaceKind) (v : Value V) : Type 0 where
  pub tag : Tag
  pub is : Is arrays tag v
  pub held : holds kind tag ≡ true

-- value by value
abbrev pub HaveKinds : {V : Type 0} → ℕ → List PlaceKind → List (Value V) → Type 0
HaveKinds arrays [] [] = Unit {0}
HaveKinds arrays (kind ∷ kinds) (v ∷ vs) = HasKind arrays kind v × HaveKinds arrays kinds vs
HaveKinds arrays kinds vs = ⊥

-- a local that was never stored is unset
abbrev pub HasLocal : {V : Type 0} → ℕ → PlaceKind → Option (Value V) → Type 0
HasLocal arrays kind None = kind ≡ Unset
HasLocal arrays kind (Some v) = HasKind arrays kind v

-- local by local
abbrev pub HaveLocals : {V : Type 0} → ℕ → List PlaceKind → List (Option (Value V)) → Type 0
HaveLocals arrays [] locals = Unit {0}
HaveLocals {V = V} arrays (kind ∷ kinds) [] = (kind ≡ Unset) × HaveLocals {V = V} arrays kinds []
HaveLocals arrays (kind ∷ kinds) (held ∷ locals) = HasLocal arrays kind held × HaveLocals arrays kinds locals

-- each field has the type of its descriptor
abbrev pub HaveTypes : {V : Type 0} → ℕ → List (Static V) → Type 0
HaveTypes arrays [] = Unit {0}
HaveTypes arrays (static ∷ statics) = ((type : FieldType) → field_type_of static.descriptor ≡ Some type → HasKind arrays (kind_of type) static.value) × HaveTypes arrays statics

-- FRAMES

-- a frame that executes its instruction, now or again
pub record Runs {V : Type 0} (T : Typings) (arrays : ℕ) (frame : Frame V) : Type 0 where
  pub typing : Typing
  pub at : T frame.at ≡ Some typing
  pub locals : HaveLocals arrays typing.shape.locals frame.locals
  pub stack : HaveKinds arrays typing.shape.stack frame.stack

-- a frame that waits for the result of a call
pub record Waits {V : Type 0} (P : Views) (T : Typings) (arrays : ℕ) (awaited : Option FieldType) (frame : Frame V) : Type 0 where
  pub view : View
  pub is : P frame.at ≡ Some view
  pub shape : Shape
  pub result : Option FieldType
  pub locals : HaveLocals arrays shape.locals frame.locals
  pub stack : HaveKinds arrays shape.stack frame.stack
  pub next : Leads T result view.next (record { locals = shape.locals; stack = result_kinds awaited ++ shape.stack })
  pub handlers : AllLead T result view.handlers shape.locals

-- an entry returns no array
abbrev pub ReturnsNoArray : Option FieldType → Type 0
ReturnsNoArray None = Unit {0}
ReturnsNoArray (Some (types.Int kind)) = Unit {0}
ReturnsNoArray (Some types.IntArray) = ⊥

-- the frames below one that has this result, and runs an initialiser or not
abbrev pub AreBelow : {V : Type 0} → Views → Typings → ℕ → (initialises : Option ℕ) → (result : Option FieldType) → List (Frame V) → Type 0
AreBelow P T arrays None result [] = ReturnsNoArray result
AreBelow P T arrays (Some class) result [] = ⊥
AreBelow P T arrays None result (frame ∷ below) = (w : Waits P T arrays result frame) × AreBelow P T arrays frame.initialises w.result below
AreBelow P T arrays (Some class) result (frame ∷ below) = (r : Runs T arrays frame) × AreBelow P T arrays frame.initialises r.typing.result below

-- all values of a state are of the kinds that the program says
pub record IsTyped {V : Type 0} (P : Views) (T : Typings) (state : State V) : Type 0 where
  pub top : Runs T (length state.memory.arrays) state.top
  pub below : AreBelow P T (length state.memory.arrays) state.top.initialises top.typing.result state.below
  pub statics : HaveTypes (length state.memory.arrays) state.memory.statics

-- NEVER STUCK

-- a run goes on in such a state, or has ended by a rule
abbrev pub IsSafe : {V : Type 0} → Views → Typings → Done V → Type 0
IsSafe P T (Goes state) = IsTyped P T state
IsSafe P T (Ends Stuck) = ⊥
IsSafe P T (Ends end) = Unit {0}

-- a step leads to such a run, whatever its arm
abbrev pub IsSafeStep : {V : Type 0} → Views → Typings → Step V → Type 0
IsSafeStep P T (Then done) = IsSafe P T done
IsSafeStep P T (Chooses test arms) = (arm : ℕ) → arm < arms_of test → IsSafe P T (arms arm)

-- a segment ends at a choice all arms of which do, or at an end by a rule
abbrev pub IsSafeAfter : {V : Type 0} → Views → Typings → After V → Type 0
IsSafeAfter P T (Choice test arms) = (arm : ℕ) → arm < arms_of test → IsSafe P T (arms arm)
IsSafeAfter P T (Over Stuck) = ⊥
IsSafeAfter P T (Over end) = Unit {0}

-- RUNS

-- each of these arms is one of the choice that comes then
abbrev pub ArePossible : {V : Type 0} → Ints V → Views → Done V → List ℕ → Type 0
ArePossible I P done [] = Unit {0}
ArePossible I P done (arm ∷ arms) = HasArm (segment_from I P done).after arm × ArePossible I P (done_after (segment_from I P done).after arm) arms

-- after any such arms a run is safe, after any number of instructions then, and so is what comes after the segment
pub record StaysSafe {V : Type 0} (I : Ints V) (P : Views) (T : Typings) (from : Done V) (arms : List ℕ) : Type 0 where
  pub done : IsSafe P T (after_arms I P from arms)
  pub within : (n : ℕ) → IsSafe P T (done_within I P n (after_arms I P from arms))
  pub after : IsSafeAfter P T (segment_from I P (after_arms I P from arms)).after

-- A program is never stuck: from the start with the parameters as terms, or with an input, whose words have shadows or
-- marks; and each step from a state of values of their kinds is safe.
pub record IsNeverStuck (P : Program) (T : Typings) : Type 0 where
  pub terms : (arms : List ℕ) → ArePossible shadows P.view (shadow_started P P.entry.kinds) arms → StaysSafe shadows P.view T (shadow_started P P.entry.kinds) arms
  pub inputs : (x : Words) → IsInputOf P x → (arms : List ℕ) → ArePossible ints P.view (started P x) arms → StaysSafe ints P.view T (started P x) arms
  pub marked : (x : Words) → IsInputOf P x → (arms : List ℕ) → ArePossible marks P.view (marked_start P x) arms → StaysSafe marks P.view T (marked_start P x) arms
  pub term_steps : (state : State Term) → IsTyped P.view T state → IsSafeStep P.view T (step shadows P.view state)
  pub int_steps : (state : State Int) → IsTyped P.view T state → IsSafeStep P.view T (step ints P.view state)
  pub mark_steps : (state : State Marked) → IsTyped P.view T state → IsSafeStep P.view T (step marks P.view state)
