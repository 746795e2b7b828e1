-- Where a doing leads: frames, calls, throws and initialisers (JVMS SE 8, sections 2.6, 2.10, 5.5, 6.5).
-- Of the program only views are read.
use Rattle.std.specs.Prelude.{ℕ, suc, cond, nat_le, List, [], ◌∷◌, length, map, Option, Some, None, slice_get}
use Rattle.ms_words.specs.Throwables.{is_a}
use Rattle.ms_words.specs.declared.thrown.Thrown.{Thrown}
use Rattle.ms_words.specs.declared.item.Item.{Item}
use Rattle.ms_words.specs.declared.kind.Kind.{Kind}
use Rattle.ms_machine.specs.Ints.{Ints}
use Rattle.ms_machine.specs.Instructions.{Initialiser, Instr}
use Rattle.ms_machine.specs.Values.{Value, Int, Throwable, Memory, End, Returned, ReturnedVoid, Threw, InitFailed, Missing, Deep, Stuck}
use Rattle.ms_machine.specs.Effects.{Here, Where, Next, Target, Doing, Moves, Calls, Initialises, Returns, Raises, Stops, Test, Effect, Does, Asks, by_initialiser, effect, initialiser_name}

-- WHAT A STEP MAY READ OF THE PROGRAM

-- a handler that covers an instruction: where it begins, and the class that it catches
pub record Handler : Type 0 where
  pub begins : Item
  pub catches : Thrown

-- Of an instruction: what it is, the next instruction, its targets and the handlers that cover it,
-- in table order, and for a member the first instructions of its method and of its class's initialiser.
pub record View : Type 0 where
  pub instr : Instr
  pub next : Option Item
  pub targets : List Item
  pub handlers : List Handler
  pub callee : Option Item
  pub initialiser_first : Option Item

-- Of the entry: the kinds of its parameters and of its result, its first instruction; the number and the name of its
-- class, whether that has an initialiser, and the first instruction of this.
pub record EntryView : Type 0 where
  pub kinds : List Kind
  pub result : Option Kind
  pub first : Item
  pub class : ℕ
  pub class_name : List ℕ
  pub initialiser : Initialiser
  pub initialiser_first : Option Item

-- all that a step may read
abbrev pub Views : Type 0
Views = Item → Option View

-- a program: what the machine sees of its entry, and at each item
pub record Program : Type 0 where
  pub entry : EntryView
  pub view : Views

-- STATES

-- a frame: where it is, its locals and operand stack, and the class whose initialiser it runs, if it was pushed for one
pub record Frame (V : Type 0) : Type 0 where
  pub at : Item
  pub locals : List (Option (Value V))
  pub stack : List (Value V)
  pub initialises : Option ℕ

-- a state: the frame that runs, those that wait below it, and the memory
pub record State (V : Type 0) : Type 0 where
  pub top : Frame V
  pub below : List (Frame V)
  pub memory : Memory V

-- a run goes on, or has ended
pub data Done (V : Type 0) : Type 0 where
  Goes : State V → Done V
  Ends : End V → Done V

-- what the running frame has before it
abbrev pub here_of : {V : Type 0} → State V → Here V
here_of state = record { locals = state.top.locals; stack = state.top.stack; memory = state.memory }

-- WHERE A DOING LEADS

-- what comes of a view, where there is one
abbrev pub viewed : {A : Type 0} → Option View → A → (View → A) → A
viewed None none go = none
viewed (Some view) none go = go view

-- a frame goes on at an item
abbrev pub goes_on : {V : Type 0} → Option Item → Frame V → List (Frame V) → Memory V → Done V
goes_on None frame below memory = Ends Stuck
goes_on (Some item) frame below memory = Goes (record { top = record frame { at = item }; below = below; memory = memory })

-- the item of a place that an effect names
abbrev pub place : View → Where → Option Item
place view Next = view.next
place view (Target k) = slice_get view.targets k

-- a frame with the locals and the stack that an instruction left
abbrev pub left_with : {V : Type 0} → Frame V → Here V → Frame V
left_with frame here = record frame { locals = here.locals; stack = here.stack }

-- the first handler that catches the class
abbrev pub catching : List Handler → Thrown → Option Item
catching [] class = None
catching (handler ∷ handlers) class = cond (is_a class handler.catches) (Some handler.begins) (catching handlers class)

-- goes on at the handler with the throwable alone on the stack, or does the other thing
abbrev pub caught : {V : Type 0} → Option Item → Value V → Frame V → List (Frame V) → Memory V → Done V → Done V
caught None throwable frame below memory otherwise = otherwise
caught (Some item) throwable frame below memory otherwise =
    Goes (record { top = record frame { at = item; stack = throwable ∷ [] }; below = below; memory = memory })

-- a throwable that leaves the frame of an initialiser ends the run
abbrev pub leaving : {V : Type 0} → Option ℕ → Done V → Done V
leaving None otherwise = otherwise
leaving (Some class) otherwise = Ends (InitFailed class)

-- A throwable looks for a handler in the frame where it was thrown, and then in each frame below (JVMS
-- SE 8, section 2.10). Where it leaves the frame of an initialiser, or the lowest frame, the run ends.
abbrev pub throws : {V : Type 0} → Views → ℕ → Thrown → Memory V → Frame V → List (Frame V) → Done V
throws P number class memory frame [] = viewed (P frame.at) (Ends Stuck) (λ view.
    caught (catching view.handlers class) (Throwable number class) frame [] memory (leaving frame.initialises (Ends (Threw class))))
throws P number class memory frame (caller ∷ below) = viewed (P frame.at) (Ends Stuck) (λ view.
    caught (catching view.handlers class) (Throwable number class) frame (caller ∷ below) memory
    (leaving frame.initialises (throws P number class memory caller below)))

-- an entry returns an int or nothing
abbrev pub returned_with : {V : Type 0} → Option (Value V) → End V
returned_with None = ReturnedVoid
returned_with (Some (Int a)) = Returned a
returned_with (Some other) = Stuck

-- a value on a stack, where there is one
abbrev pub onto : {V : Type 0} → Option (Value V) → List (Value V) → List (Value V)
onto None stack = stack
onto (Some v) stack = v ∷ stack

-- The caller goes on after its call. After an initialiser the instruction that needed it is executed
-- again, and counts again. A return from the lowest frame ends the run.
abbrev pub returns : {V : Type 0} → Views → Option (Value V) → Memory V → Option ℕ → List (Frame V) → Done V
returns P result memory None [] = Ends (returned_with result)
returns P result memory (Some class) [] = Ends Stuck
returns P result memory (Some class) (caller ∷ below) = Goes (record { top = caller; below = below; memory = memory })
returns P result memory None (caller ∷ below) = viewed (P caller.at) (Ends Stuck) (λ view.
    goes_on view.next (record caller { stack = onto result caller.stack }) below memory)

-- the most frames that stand at a time: a bound of this project, not of the standard
unfoldable pub most_frames : ℕ
most_frames = 256

-- a new frame stands above, unless as many as may stand already
abbrev pub enters : {V : Type 0} → Option Item → List (Option (Value V)) → Option ℕ → Frame V → List (Frame V) → Memory V → Done V
enters None locals initialises caller below memory = Ends Stuck
enters (Some item) locals initialises caller below memory =
    cond (nat_le most_frames (suc (length below))) (Ends Deep)
    (Goes (record { top = record { at = item; locals = locals; stack = []; initialises = initialises }; below = caller ∷ below; memory = memory }))

-- where a doing of the top frame leads
abbrev pub perform : {V : Type 0} → Views → State V → Doing V → Done V
perform P state (Moves where_to here) = viewed (P state.top.at) (Ends Stuck) (λ view.
    goes_on (place view where_to) (left_with state.top here) state.below here.memory)
perform P state (Calls arguments here) = viewed (P state.top.at) (Ends Stuck) (λ view.
    enters view.callee (map (λ v. Some v) arguments) None (left_with state.top here) state.below here.memory)
perform P state (Initialises class here) = viewed (P state.top.at) (Ends Stuck) (λ view.
    enters view.initialiser_first [] (Some class) (left_with state.top here) state.below here.memory)
perform P state (Returns result memory) = returns P result memory state.top.initialises state.below
perform P state (Raises number class memory) = throws P number class memory state.top state.below
perform P state (Stops end) = Ends end

-- STEPS

-- a step is done, or asks a test and is done for each arm
pub data Step (V : Type 0) : Type 0 where
  Then : Done V → Step V
  Chooses : Test V → (ℕ → Done V) → Step V

-- what a step is: a doing performed, or a test with what each arm performs
abbrev pub performed : {V : Type 0} → Views → State V → Effect V → Step V
performed P state (Does doing) = Then (perform P state doing)
performed P state (Asks test arms) = Chooses test (λ arm. perform P state (arms arm))

-- the instruction where the top frame stands is executed
abbrev pub step : {V : Type 0} → Ints V → Views → State V → Step V
step I P state = viewed (P state.top.at) (Then (Ends Stuck)) (λ view. performed P state (effect I view.instr (here_of state)))

-- THE START

-- the memory in which this class alone is started
abbrev pub memory_at_start : {V : Type 0} → ℕ → Memory V
memory_at_start class = record { statics = []; started = class ∷ []; arrays = []; throwables = 0 }

-- the frame of the entry, with these parameters
abbrev pub entry_frame : {V : Type 0} → Item → List V → Frame V
entry_frame item parameters = record { at = item; locals = map (λ a. Some (Int a)) parameters; stack = []; initialises = None }

-- One frame at the entry with the parameters; its class is started, and the initialiser of that runs first (JVMS SE 8,
-- section 5.5).
abbrev pub start : {V : Type 0} → Program → List V → Done V
start P parameters =
    let frame = entry_frame P.entry.first parameters in
    let memory = memory_at_start P.entry.class in
    by_initialiser P.entry.initialiser (Goes (record { top = frame; below = []; memory = memory }))
    (enters P.entry.initialiser_first [] (Some P.entry.class) frame [] memory) (Ends (Missing (initialiser_name P.entry.class_name)))
