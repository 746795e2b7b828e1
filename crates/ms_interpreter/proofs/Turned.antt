-- A step of the machine, from what was planned, settled and led.
use Rattle.std.proofs.Common.{◌≡◌, ℕ, ℤ, List, [], ◌∷◌, map, Option, Some, None, refl, sym, ap, subst, ◌∙◌}
use Rattle.std.specs.Prelude.{reverse}
use Rattle.ms_words.specs.declared.item.Item.{Item}
use Rattle.ms_words.specs.declared.thrown.Thrown.{Thrown}
use Rattle.ms_machine.specs.Ints.{Ints}
use Rattle.ms_machine.specs.Instructions.{Instr}
use Rattle.ms_machine.specs.Values as machine
use Rattle.ms_machine.specs.Values.{Value}
use Rattle.ms_machine.specs.Effects.{Asks, Does, Effect, Here, effect}
use Rattle.ms_machine.specs.Control as control
use Rattle.ms_machine.specs.Control.{Done, Ends, View, Views, catching, caught, leaving, perform, throws, viewed}
use Rattle.ms_machine.specs.Maps.{Respects, map_doing, map_effect}
use Rattle.ms_machine.proofs.EffectMap.{effect_map}
use Rattle.ms_interpreter.specs.declared.did.Did.{Did}
use Rattle.ms_interpreter.specs.declared.did.Did.TheVariants as did
use Rattle.ms_interpreter.specs.declared.lead.Lead.{Lead}
use Rattle.ms_interpreter.specs.declared.lead.Lead.TheVariants as lead
use Rattle.ms_interpreter.specs.declared.finish.Finish.{Finish}
use Rattle.ms_interpreter.specs.declared.state.State.{State}
use Rattle.ms_interpreter.specs.Doing.{Acts, LocalsStay, Stays, for_arm, planned_here}
use Rattle.ms_interpreter.specs.Frames.{Frame, Shared}
use Rattle.ms_interpreter.specs.Leads.{Keeps, Leads, LocalsStayFor, Settles, lead_of, state_of}
use Rattle.ms_interpreter.specs.Plans.{Planned, computed, plans}
use Rattle.ms_interpreter.specs.Seen.{Texts, texts_of, frame_of, here_of, locals_of, memory_of, values_of}
use Rattle.ms_interpreter.specs.Turns.{Executes}
use Rattle.ms_interpreter.proofs.Settled.{given_here}

for_arm_map : {V W : Type 0} (f : V → W) (arm : ℕ) (e : Effect V) → for_arm arm (map_effect f e) ≡ map_doing f (for_arm arm e)
for_arm_map f arm (Does doing) = refl
for_arm_map f arm (Asks test arms) = refl

-- PLANNED INTS ARE THOSE THAT THEY COME TO

module _ {I V : Type 0} (J : Ints V) (f : I → V) where
  abbrev pub known : Planned I → Option ℤ
  known plan = J.known (computed J f plan)

  respects : Respects (plans known) J (computed J f)
  respects = record { constant = λ word. refl; unary = λ op a. refl; binary = λ op a b. refl; known = λ a. refl }

  pub effect_seen : (texts : Texts) (instr : Instr) (frame : Frame I) (shared : Shared I)
      → effect J instr (here_of f texts frame shared) ≡ map_effect (computed J f) (effect (plans known) instr (planned_here texts frame shared))
  effect_seen texts instr frame shared =
      ap (effect J instr) (sym (given_here J f texts frame shared)) ∙ effect_map (computed J f) (plans known) J respects instr (planned_here texts frame shared)

  -- WHAT AN INSTRUCTION DID LEADS SO

  pub effect_led : (texts : Texts) (instr : Instr) (arm : ℕ) (done : Did I) (led : Lead I) (first second third : Frame I) (before between after : Shared I)
      → Acts texts instr arm first before done second between → Settles J f texts done second between led third after
      → for_arm arm (effect J instr (here_of f texts first before)) ≡ lead_of f texts led (here_of f texts third after)
  effect_led texts instr arm done led first second third before between after acts settles =
      ap (for_arm arm) (effect_seen texts instr first before)
      ∙ for_arm_map (computed J f) arm (effect (plans known) instr (planned_here texts first before))
      ∙ ap (map_doing (computed J f)) (acts known) ∙ settles

  -- THE LOCALS STAY WHERE A THROWABLE IS THROWN

  locals_stay : (texts : Texts) (done : Did I) (number : ℕ) (class : Thrown) (first second third : Frame I) (between after : Shared I)
      → Settles J f texts done second between (lead.Raises number class) third after → LocalsStay done first second → second.locals ≡ first.locals
  locals_stay texts did.Next number class first second third between after settles stay = absurd (let e = settles in cc)
  locals_stay texts (did.Jumps target) number class first second third between after settles stay = absurd (let e = settles in cc)
  locals_stay texts (did.Pushes plan) number class first second third between after settles stay = absurd (let e = settles in cc)
  locals_stay texts (did.Puts local plan) number class first second third between after settles stay = absurd (let e = settles in cc)
  locals_stay texts (did.Makes size) number class first second third between after settles stay = stay
  locals_stay texts (did.Calls parameters) number class first second third between after settles stay = absurd (let e = settles in cc)
  locals_stay texts (did.Initialises class') number class first second third between after settles stay = absurd (let e = settles in cc)
  locals_stay texts (did.Returns slot) number class first second third between after settles stay = absurd (let e = settles in cc)
  locals_stay texts (did.Raises number' class') number class first second third between after settles stay = stay
  locals_stay texts (did.Stops stop) number class first second third between after settles stay = absurd (let e = settles in cc)

  pub keeps_all : (texts : Texts) (done : Did I) (led : Lead I) (first second third : Frame I) (between after : Shared I)
      → Settles J f texts done second between led third after → Stays done first second → Keeps led second third → Keeps led first third
  keeps_all texts done led first second third between after settles stays keeps =
      record { at = keeps.at ∙ stays.at; initialises = keeps.initialises ∙ stays.initialises; locals = by_lead led settles keeps.locals }
    where
      by_lead : (led : Lead I) → Settles J f texts done second between led third after → LocalsStayFor led second third → LocalsStayFor led first third
      by_lead lead.Next s k = k
      by_lead (lead.Jumps target) s k = k
      by_lead (lead.Calls parameters) s k = k
      by_lead (lead.Initialises class) s k = k
      by_lead (lead.Returns slot) s k = k
      by_lead (lead.Raises number class) s k = k ∙ locals_stay texts done number class first second third between after s stays.locals
      by_lead (lead.Stops stop) s k = k

-- WHERE A DOING LEADS

viewed_alike : {A : Type 0} (o : Option View) (none : A) (go go' : View → A) → ((view : View) → go view ≡ go' view) → viewed o none go ≡ viewed o none go'
viewed_alike None none go go' same = refl
viewed_alike (Some view) none go go' same = same view

module _ {I V : Type 0} (f : I → V) (texts : Texts) (P : Views) (below : List (control.Frame V)) (at : Item) (initialises : Option ℕ) where
  -- a frame that is there, and was pushed so
  abbrev standing : List (Option (Value V)) → List (Value V) → control.Frame V
  standing locals stack = record { at = at; locals = locals; stack = stack; initialises = initialises }

  caught_alike : (handler : Option Item) (v : Value V) (memory : machine.Memory V) (locals : List (Option (Value V))) (stack stack' : List (Value V)) (below : List (control.Frame V)) (otherwise : Done V)
      → caught handler v (standing locals stack) below memory otherwise ≡ caught handler v (standing locals stack') below memory otherwise
  caught_alike None v memory locals stack stack' below otherwise = refl
  caught_alike (Some item) v memory locals stack stack' below otherwise = refl

  -- a throw doesn't look at the stack
  throws_alike : (number : ℕ) (class : Thrown) (memory : machine.Memory V) (locals : List (Option (Value V))) (stack stack' : List (Value V)) (below : List (control.Frame V))
      → throws P number class memory (standing locals stack) below ≡ throws P number class memory (standing locals stack') below
  throws_alike number class memory locals stack stack' [] =
      viewed_alike (P at) (Ends machine.Stuck) _ _ (λ view. caught_alike (catching view.handlers class) (machine.Throwable number class) memory locals stack stack' [] (leaving initialises (Ends (machine.Threw class))))
  throws_alike number class memory locals stack stack' (caller ∷ below) =
      viewed_alike (P at) (Ends machine.Stuck) _ _ (λ view. caught_alike (catching view.handlers class) (machine.Throwable number class) memory locals stack stack' (caller ∷ below) (leaving initialises (throws P number class memory caller below)))

  -- the locals stay, where they are looked at
  abbrev SameLocals : Lead I → List (Option (Value V)) → List (Option (Value V)) → Type 0
  SameLocals (lead.Raises number class) locals locals' = locals' ≡ locals
  SameLocals other locals locals' = Unit {0}

  -- where something leads doesn't hang on the stack, nor on the locals but for a throw, nor on the memory that stood before
  standing_alike : (led : Lead I) (locals locals' : List (Option (Value V))) (stack stack' : List (Value V)) (memory memory' : machine.Memory V) (here : Here V) → SameLocals led locals locals'
      → perform P (record { top = standing locals stack; below = below; memory = memory }) (lead_of f texts led here)
      ≡ perform P (record { top = standing locals' stack'; below = below; memory = memory' }) (lead_of f texts led here)
  standing_alike lead.Next locals locals' stack stack' memory memory' here same = refl
  standing_alike (lead.Jumps target) locals locals' stack stack' memory memory' here same = refl
  standing_alike (lead.Calls parameters) locals locals' stack stack' memory memory' here same = refl
  standing_alike (lead.Initialises class) locals locals' stack stack' memory memory' here same = refl
  standing_alike (lead.Returns slot) locals locals' stack stack' memory memory' here same = refl
  standing_alike (lead.Raises number class) locals locals' stack stack' memory memory' here same =
      subst (λ (list : List (Option (Value V))). throws P number class here.memory (standing locals stack) below ≡ throws P number class here.memory (standing list stack') below) (sym same)
      (throws_alike number class here.memory locals stack stack' below)
  standing_alike (lead.Stops stop) locals locals' stack stack' memory memory' here same = refl

same_locals : {I V : Type 0} (f : I → V) (texts : Texts) (P : Views) (below : List (control.Frame V)) (at : Item) (initialises : Option ℕ) (led : Lead I) (top top' : Frame I) → LocalsStayFor led top top'
    → SameLocals f texts P below at initialises led (locals_of f texts top.locals) (locals_of f texts top'.locals)
same_locals f texts P below at initialises lead.Next top top' stay = tt
same_locals f texts P below at initialises (lead.Jumps target) top top' stay = tt
same_locals f texts P below at initialises (lead.Calls parameters) top top' stay = tt
same_locals f texts P below at initialises (lead.Initialises class) top top' stay = tt
same_locals f texts P below at initialises (lead.Returns slot) top top' stay = tt
same_locals f texts P below at initialises (lead.Raises number class) top top' stay = ap (locals_of f texts) stay
same_locals f texts P below at initialises (lead.Stops stop) top top' stay = tt

pub leads_alike : {I V : Type 0} (f : I → V) (texts : Texts) (P : Views) (led : Lead I) (top top' : Frame I) (below : List (control.Frame V)) (shared shared' : Shared I) (here : Here V) → Keeps led top top'
    → perform P (record { top = frame_of f texts top; below = below; memory = memory_of f texts shared }) (lead_of f texts led here)
    ≡ perform P (record { top = frame_of f texts top'; below = below; memory = memory_of f texts shared' }) (lead_of f texts led here)
leads_alike f texts P led top top' below shared shared' here keeps =
    let was = perform P (record { top = frame_of f texts top; below = below; memory = memory_of f texts shared }) (lead_of f texts led here) in
    subst (λ (at : Item). was ≡ perform P (record { top = record (frame_of f texts top') { at = at }; below = below; memory = memory_of f texts shared' }) (lead_of f texts led here)) (sym keeps.at)
    (subst (λ (initialises : Option ℕ). was ≡ perform P (record { top = record (frame_of f texts top') { at = top.at; initialises = initialises }; below = below; memory = memory_of f texts shared' }) (lead_of f texts led here)) (sym keeps.initialises)
    (standing_alike f texts P below top.at top.initialises led (locals_of f texts top.locals) (locals_of f texts top'.locals) (values_of f texts top.stack) (values_of f texts top'.stack) (memory_of f texts shared) (memory_of f texts shared') here
    (same_locals f texts P below top.at top.initialises led top top' keeps.locals)))

-- AN INSTRUCTION IS EXECUTED

pub executed : {I V : Type 0} (J : Ints V) (f : I → V) (P : Views) (instr : Instr) (arm : ℕ) (state : State I) (done : Did I) (second third : Frame I) (between after : Shared I) (led : Lead I) (finish : Option (Finish I)) (state' : State I)
    → Acts (texts_of P) instr arm state.top state.memory done second between → Stays done state.top second
    → Settles J f (texts_of P) done second between led third after → Keeps led second third
    → Leads f (texts_of P) P led (record state { top = third; memory = after }) finish state'
    → Executes J f P instr arm state finish state'
executed J f P instr arm state done second third between after led finish state' acts stays settles keeps leads =
    let here = here_of f (texts_of P) third after in
    ap (perform P (state_of f (texts_of P) state)) (effect_led J f (texts_of P) instr arm done led state.top second third state.memory between after acts settles)
    ∙ leads_alike f (texts_of P) P led state.top third (map (frame_of f (texts_of P)) (reverse state.below.items)) state.memory after here (keeps_all J f (texts_of P) done led state.top second third between after settles stays keeps)
    ∙ leads
