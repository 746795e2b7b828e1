-- How the run of an entry starts, by what a program says of its class.
use Rattle.std.proofs.Common.{◌≡◌, ℕ, List, [], ◌∷◌, map, reverse, slice_get, Option, Some, None, refl, sym, ap, ◌∙◌}
use Rattle.std.specs.Prelude.{IsSome, option_and_then, option_map}
use Rattle.ms_words.specs.declared.descriptor.EntryPart.{EntryPart}
use Rattle.ms_words.specs.declared.item.Item.{Item}
use Rattle.ms_words.specs.declared.item.Item.TheVariants.{Entry}
use Rattle.ms_program.specs.declared.method.MethodId.{MethodId}
use Rattle.ms_program.specs.declared.view.Initialiser.{Initialiser}
use Rattle.ms_program.specs.declared.view.Initialiser.TheVariants.{Absent, Present}
use Rattle.ms_program.specs.Programs.{Class, Program}
use Rattle.ms_program.specs.Views.{entry_part_at, first_of, initialiser_first, initialiser_there, numbered, view_at}
use Rattle.ms_machine.specs.Values.{Value, Int, Missing}
use Rattle.ms_machine.specs.Effects.{by_initialiser, initialiser_name}
use Rattle.ms_machine.specs.Control as machine
use Rattle.ms_machine.specs.Control.{Done, Goes, Ends, enters, entry_frame, memory_at_start, start}
use Rattle.ms_linking.specs.Linked.{entry_with, initialiser_of, program_of, views_of}
use Rattle.ms_interpreter.specs.declared.slot.Slot.{Slot}
use Rattle.ms_interpreter.specs.declared.starting.Beginning.{Beginning}
use Rattle.ms_interpreter.specs.declared.state.State.{State}
use Rattle.ms_interpreter.specs.Begun.{begins}
use Rattle.ms_interpreter.specs.Frames.{Frame, Shared}
use Rattle.ms_interpreter.specs.Leads.{state_of}
use Rattle.ms_interpreter.specs.Seen.{Texts, frame_of, locals_of, memory_of}

-- the program with this entry
abbrev pub with_entry : Program → MethodId → Program
with_entry P id = record P { entry = Some id }

-- the state of an entry alone
abbrev pub alone : {V : Type 0} → MethodId → List V → machine.State V
alone id parameters = record { top = entry_frame (first_of id.class id.method) parameters; below = []; memory = memory_at_start id.class }

-- the initialiser of a class runs above a state
abbrev pub above : {V : Type 0} → Option Item → (class : ℕ) → machine.State V → Done V
above item class state = enters item [] (Some class) state.top state.below state.memory

-- how a run starts in this state, of a class of this name and with such an initialiser
abbrev pub started_by : {V : Type 0} → Initialiser → Option Item → (name : List ℕ) → (class : ℕ) → machine.State V → Done V
started_by initialiser item name class state = by_initialiser (initialiser_of initialiser) (Goes state) (above item class state) (Ends (Missing (initialiser_name name)))

-- so does the run of an entry, which has a class
starts : {V : Type 0} (P : Program) (id : MethodId) (parameters : List V) → IsSome (program_of (with_entry P id)) → (class : Class) × (slice_get P.classes id.class ≡ Some class)
    × (option_map (λ M. start M parameters) (program_of (with_entry P id)) ≡ Some (started_by (initialiser_there (numbered P id.class)) (initialiser_first (numbered P id.class)) class.name id.class (alone id parameters)))
starts P id parameters there = go (slice_get P.classes id.class) (entry_part_at (with_entry P id) Entry) there
  where
    entry_by : Class → EntryPart → machine.EntryView
    entry_by class part = entry_with id.class class (view_at (with_entry P id) Entry) part (first_of id.class id.method) (initialiser_there (numbered P id.class))

    machine_by : Option Class → Option EntryPart → Option machine.Program
    machine_by found part = option_map (λ entry. record { entry = entry; view = views_of (with_entry P id) }) (option_and_then (λ (class : Class). option_and_then (λ (p : EntryPart). Some (entry_by class p)) part) found)

    go : (found : Option Class) (part : Option EntryPart) → IsSome (machine_by found part) → (class : Class) × (found ≡ Some class)
        × (option_map (λ M. start M parameters) (machine_by found part) ≡ Some (started_by (initialiser_there (numbered P id.class)) (initialiser_first (numbered P id.class)) class.name id.class (alone id parameters)))
    go None part there = absurd (let e = there in cc)
    go (Some class) None there = absurd (let e = there in cc)
    go (Some class) (Some p) there = (class, refl, refl)

-- the frame of an entry and the memory, as the code makes them
pub record IsAlone {I : Type 0} (state : State I) (id : MethodId) (locals : List (Option (Slot I))) : Type 0 where
  pub top : state.top ≡ record { at = first_of id.class id.method; locals = locals; stack = []; initialises = None }
  pub below : state.below.items ≡ []
  pub memory : state.memory ≡ record { statics = []; started = id.class ∷ []; arrays = []; throwables = 0 }

module _ {I V : Type 0} (f : I → V) (texts : Texts) where
  -- what the machine sees of them
  alone_seen : (state : State I) (id : MethodId) (locals : List (Option (Slot I))) (parameters : List V) → IsAlone state id locals → locals_of f texts locals ≡ map (λ a. Some (Int a)) parameters → alone id parameters ≡ state_of f texts state
  alone_seen state id locals parameters is are =
      sym (ap (λ (frame : machine.Frame V). record { top = frame; below = map (frame_of f texts) (reverse state.below.items); memory = memory_of f texts state.memory }) (ap (frame_of f texts) is.top)
      ∙ ap (λ (frames : List (Frame I)). record { top = frame_of f texts (record { at = first_of id.class id.method; locals = locals; stack = []; initialises = None }); below = map (frame_of f texts) (reverse frames); memory = memory_of f texts state.memory }) is.below
      ∙ ap (λ (shared : Shared I). record { top = frame_of f texts (record { at = first_of id.class id.method; locals = locals; stack = []; initialises = None }); below = []; memory = memory_of f texts shared }) is.memory
      ∙ ap (λ (seen : List (Option (Value V))). record { top = record { at = first_of id.class id.method; locals = seen; stack = []; initialises = None }; below = []; memory = memory_at_start id.class }) are)

  -- how the run starts, by the state of the initialiser
  started_as : (P : Program) (id : MethodId) (state : State I) (locals : List (Option (Slot I))) (parameters : List V) (initialiser : Initialiser) → IsSome (program_of (with_entry P id)) → IsAlone state id locals
      → initialiser ≡ initialiser_there (numbered P id.class) → locals_of f texts locals ≡ map (λ a. Some (Int a)) parameters
      → (class : Class) × (slice_get P.classes id.class ≡ Some class)
      × (option_map (λ M. start M parameters) (program_of (with_entry P id)) ≡ Some (started_by initialiser (initialiser_first (numbered P id.class)) class.name id.class (state_of f texts state)))
  started_as P id state locals parameters initialiser there is same are =
      let began = starts P id parameters there in (
        began.0,
        began.1,
        began.2
            ∙ ap (λ (seen : machine.State V). Some (started_by (initialiser_there (numbered P id.class)) (initialiser_first (numbered P id.class)) began.0.name id.class seen)) (alone_seen state id locals parameters is are)
            ∙ ap (λ (s : Initialiser). Some (started_by s (initialiser_first (numbered P id.class)) began.0.name id.class (state_of f texts state))) (sym same),
      )

  pub starts_absent : (P : Program) (id : MethodId) (state : State I) (locals : List (Option (Slot I))) (parameters : List V) → IsSome (program_of (with_entry P id)) → IsAlone state id locals
      → Absent ≡ initialiser_there (numbered P id.class) → locals_of f texts locals ≡ map (λ a. Some (Int a)) parameters
      → option_map (λ M. start M parameters) (program_of (with_entry P id)) ≡ Some (Goes (state_of f texts state))
  starts_absent P id state locals parameters there is same are = (started_as P id state locals parameters Absent there is same are).2

  pub starts_above : (P : Program) (id : MethodId) (state : State I) (locals : List (Option (Slot I))) (parameters : List V) (item : Option Item) (began : Beginning I) → IsSome (program_of (with_entry P id)) → IsAlone state id locals
      → Present ≡ initialiser_there (numbered P id.class) → item ≡ initialiser_first (numbered P id.class) → above item id.class (state_of f texts state) ≡ begins f texts began → locals_of f texts locals ≡ map (λ a. Some (Int a)) parameters
      → option_map (λ M. start M parameters) (program_of (with_entry P id)) ≡ Some (begins f texts began)
  starts_above P id state locals parameters item began there is same first goes are =
      (started_as P id state locals parameters Present there is same are).2
      ∙ ap (λ (o : Option Item). Some (above o id.class (state_of f texts state))) (sym first) ∙ ap (λ (done : Done V). Some done) goes
