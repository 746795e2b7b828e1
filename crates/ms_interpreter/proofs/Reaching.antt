-- What instructions did that reach for a member.
use Rattle.std.proofs.Common.{◌≡◌, ℕ, ℤ, ◌<◌, ◌≤◌, List, ◌∷◌, length, Option, Some, None, sym, ap, subst, ◌∙◌}
use Rattle.std.proofs.lemmas.List.{length-map}
use Rattle.ms_words.specs.declared.descriptor.FieldType.{FieldType}
use Rattle.ms_words.specs.Descriptors.{Signature}
use Rattle.ms_machine.specs.Instructions.{GetStatic, Invoke, Member, PutStatic}
use Rattle.ms_machine.specs.Values.{Static, Value}
use Rattle.ms_machine.specs.Effects.{Does, Moves, Next, first_value, field_name, get_static, invoke, method_name, next, put_static}
use Rattle.ms_interpreter.specs.declared.acting.accessing.Accessed.TheVariants as accessed
use Rattle.ms_interpreter.specs.declared.did.Did.{Did}
use Rattle.ms_interpreter.specs.declared.did.Did.TheVariants as did
use Rattle.ms_interpreter.specs.declared.did.Stop.TheVariants as stops
use Rattle.ms_interpreter.specs.declared.slot.Slot.{Slot}
use Rattle.ms_interpreter.specs.Accessing.{Accesses, Invokes, Reads, Writes}
use Rattle.ms_interpreter.specs.Doing.{ActsAnyhow, for_arm, planned_here}
use Rattle.ms_interpreter.specs.Fields.{found_in, with_field}
use Rattle.ms_interpreter.specs.Frames.{Frame, Shared}
use Rattle.ms_interpreter.specs.Plans.{Given, Planned, plans}
use Rattle.ms_interpreter.specs.Seen.{Texts, value_of, values_of}
use Rattle.ms_interpreter.proofs.StaticsOf.{or_first, value_seen, with_seen}
use Rattle.ms_interpreter.proofs.Taking.{taken, too_many}

module _ {I : Type 0} (frame : Frame I) (shared : Shared I) where
  -- CALLS

  pub too_few_arguments : (parameters class : ℕ) → length frame.stack < parameters → Invokes parameters class frame shared (did.Stops stops.Stuck)
  too_few_arguments parameters class few texts known =
      too_many parameters (values_of Given texts frame.stack) _ (subst (λ (n : ℕ). n < parameters) (sym (length-map frame.stack (value_of Given texts))) few)

  pub enough_arguments : (parameters class : ℕ) → parameters ≤ length frame.stack → Invokes parameters class frame shared (did.Calls parameters)
  enough_arguments parameters class enough texts known =
      taken parameters (values_of Given texts frame.stack) _ (subst (λ (n : ℕ). parameters ≤ n) (sym (length-map frame.stack (value_of Given texts))) enough)

module _ {I : Type 0} (member : Member) (frame : Frame I) (shared shared' : Shared I) where
  -- ACCESS

  module _ (done : Did I) where
    pub invoke_did : (signature : Signature) → Accesses member (method_name member) shared (accessed.Did done) shared' → ActsAnyhow (Invoke member signature) frame shared done frame shared'
    invoke_did signature accesses texts arm known = ap (for_arm arm) (accesses texts known frame (invoke (length signature.parameters)))

    pub get_did : (type : FieldType) (initial : ℤ) → Accesses member (field_name member) shared (accessed.Did done) shared' → ActsAnyhow (GetStatic member type initial) frame shared done frame shared'
    get_did type initial accesses texts arm known = ap (for_arm arm) (accesses texts known frame (get_static (plans known) member type initial))

    pub put_did : (type : FieldType) → Accesses member (field_name member) shared (accessed.Did done) shared' → ActsAnyhow (PutStatic member type) frame shared done frame shared'
    put_did type accesses texts arm known = ap (for_arm arm) (accesses texts known frame (put_static member))

  pub invoke_class : (signature : Signature) (class : ℕ) (done : Did I) → Accesses member (method_name member) shared (accessed.Class class) shared' → Invokes (length signature.parameters) class frame shared' done
      → ActsAnyhow (Invoke member signature) frame shared done frame shared'
  invoke_class signature class done accesses invokes texts arm known = ap (for_arm arm) (accesses texts known frame (invoke (length signature.parameters)) ∙ invokes texts known)

  pub get_class : (type : FieldType) (initial : ℤ) (class : ℕ) (done : Did I) (frame' : Frame I) → Accesses member (field_name member) shared (accessed.Class class) shared' → Reads member class type initial frame shared' done frame'
      → ActsAnyhow (GetStatic member type initial) frame shared done frame' shared'
  get_class type initial class done frame' accesses reads texts arm known = ap (for_arm arm) (accesses texts known frame (get_static (plans known) member type initial) ∙ reads texts known)

  pub put_class : (type : FieldType) (class : ℕ) (done : Did I) (frame' : Frame I) (last : Shared I) → Accesses member (field_name member) shared (accessed.Class class) shared' → Writes member class frame shared' done frame' last
      → ActsAnyhow (PutStatic member type) frame shared done frame' last
  put_class type class done frame' last accesses writes texts arm known = ap (for_arm arm) (accesses texts known frame (put_static member) ∙ writes texts known)

-- FIELDS

module _ {I : Type 0} (member : Member) (frame : Frame I) (shared : Shared I) where
  pub reads_stored : (class : ℕ) (type : FieldType) (initial : ℤ) (slot : Slot I) (frame' : Frame I) → Some slot ≡ found_in shared.statics class member.name member.descriptor
      → frame' ≡ record frame { stack = slot ∷ frame.stack } → Reads member class type initial frame shared did.Next frame'
  reads_stored class type initial slot frame' found left texts known =
      let here = planned_here texts frame shared in
      let first = first_value (plans known) type initial in
      rw left (ap (λ (v : Value (Planned _)). Does (next here (v ∷ here.stack)))
      (value_seen Given texts shared.statics class member.name member.descriptor first ∙ ap (λ (o : Option (Slot _)). or_first Given texts o first) (sym found)))

  pub reads_first : (class : ℕ) (type : FieldType) (initial : ℤ) (texts : Texts) (known : Planned I → Option ℤ) → None ≡ found_in shared.statics class member.name member.descriptor
      → get_static (plans known) member type initial class (planned_here texts frame shared) ≡ Does (next (planned_here texts frame shared) (first_value (plans known) type initial ∷ values_of Given texts frame.stack))
  reads_first class type initial texts known found =
      let here = planned_here texts frame shared in
      let first = first_value (plans known) type initial in
      ap (λ (v : Value (Planned _)). Does (next here (v ∷ here.stack)))
      (value_seen Given texts shared.statics class member.name member.descriptor first ∙ ap (λ (o : Option (Slot _)). or_first Given texts o first) (sym found))

  pub writes_field : (class : ℕ) (slot : Slot I) (below : List (Slot I)) (frame' : Frame I) (shared' : Shared I) → frame.stack ≡ slot ∷ below → frame' ≡ record frame { stack = below }
      → shared' ≡ record shared { statics = with_field shared.statics class member.name member.descriptor slot } → Writes member class frame shared did.Next frame' shared'
  writes_field class slot below frame' shared' is left stored texts known =
      let here = planned_here texts frame shared in
      rw (is, left, stored) (ap (λ (statics : List (Static (Planned _))). Does (Moves Next (record here { stack = values_of Given texts below; memory = record here.memory { statics = statics } })))
      (with_seen Given texts shared.statics class member.name member.descriptor slot))
