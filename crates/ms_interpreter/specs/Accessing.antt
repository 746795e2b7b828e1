-- What comes of an access to a member.
use Rattle.std.specs.Prelude.{◌≡◌, ℕ, ℤ, List, Option}
use Rattle.ms_words.specs.declared.descriptor.FieldType.{FieldType}
use Rattle.ms_machine.specs.Instructions.{Member}
use Rattle.ms_machine.specs.Effects.{Effect, Does, Here, access, field_name, get_static, invoke, method_name, put_static}
use Rattle.ms_interpreter.specs.declared.acting.accessing.Accessed.{Accessed}
use Rattle.ms_interpreter.specs.declared.acting.accessing.Accessed.TheVariants as accessed
use Rattle.ms_interpreter.specs.declared.acting.accessing.Sought.{Sought}
use Rattle.ms_interpreter.specs.declared.acting.accessing.Sought.TheVariants as sought
use Rattle.ms_interpreter.specs.declared.did.Did.{Did}
use Rattle.ms_interpreter.specs.Doing.{doing_of, planned_here}
use Rattle.ms_interpreter.specs.Frames.{Frame, Shared}
use Rattle.ms_interpreter.specs.Plans.{Planned, plans}
use Rattle.ms_interpreter.specs.Seen.{Texts}

-- the name of a member that is missing
abbrev pub missing_name : Sought → Member → List ℕ
missing_name sought.Field member = field_name member
missing_name sought.Method member = method_name member

-- what an effect is that goes on so once the class is started
abbrev pub gone_on : {I : Type 0} → (Planned I → Option ℤ) → Texts → Accessed I → Here (Planned I) → (ℕ → Here (Planned I) → Effect (Planned I)) → Effect (Planned I)
gone_on known texts (accessed.Class class) here go = go class here
gone_on known texts (accessed.Did did) here go = Does (doing_of known texts did here)

-- an access came to this
abbrev pub Accesses : {I : Type 0} → Member → (missing : List ℕ) → Shared I → Accessed I → Shared I → Type 0
Accesses member missing shared accessed shared' =
    (texts : Texts) (known : Planned _ → Option ℤ) (frame : Frame _) (go : ℕ → Here (Planned _) → Effect (Planned _))
    → access member missing (planned_here texts frame shared) go ≡ gone_on known texts accessed (planned_here texts frame shared') go

-- the value of a field of a started class was put on the stack
abbrev pub Reads : {I : Type 0} → Member → (class : ℕ) → FieldType → ℤ → Frame I → Shared I → Did I → Frame I → Type 0
Reads member class type initial frame shared did frame' =
    (texts : Texts) (known : Planned _ → Option ℤ) → get_static (plans known) member type initial class (planned_here texts frame shared) ≡ Does (doing_of known texts did (planned_here texts frame' shared))

-- a value was taken into a field of a started class
abbrev pub Writes : {I : Type 0} → Member → (class : ℕ) → Frame I → Shared I → Did I → Frame I → Shared I → Type 0
Writes member class frame shared did frame' shared' =
    (texts : Texts) (known : Planned _ → Option ℤ) → put_static member class (planned_here texts frame shared) ≡ Does (doing_of known texts did (planned_here texts frame' shared'))

-- a method of a started class was called with so many arguments
abbrev pub Invokes : {I : Type 0} → ℕ → (class : ℕ) → Frame I → Shared I → Did I → Type 0
Invokes parameters class frame shared did =
    (texts : Texts) (known : Planned _ → Option ℤ) → invoke parameters class (planned_here texts frame shared) ≡ Does (doing_of known texts did (planned_here texts frame shared))
