use Rattle.std.proofs.Common.{◌≡◌, IfSome, sym, subst}
use Rattle.std.specs.Prelude.{Option, option_map}
use Rattle.ms_machine.specs.Ints.{Marked, marks}
use Rattle.ms_machine.specs.Effects.{Test}
use Rattle.ms_machine.specs.Laws.{mark_arm}
use Rattle.ms_interpreter.specs.Asking.{asked_of}
use Rattle.ms_interpreter.specs.declared.asked.Asked.{Asked}
use Rattle.ms_jvm.proofs.choices.arm_at.Goals as goal

pub returns-in-Ok-Some : goal.returns-in-Ok-Some
returns-in-Ok-Some c =
    subst (λ (o : Option (Test Marked)). IfSome o (λ test. c.arm_of.result ≡ mark_arm test)) (c.in-Ok-Some.ensures (λ a. a))
    (subst (λ (found : Option (Asked _)). IfSome (option_map (asked_of marks (λ a. a)) found) (λ test. c.arm_of.result ≡ mark_arm test)) (sym c.in-Ok-Some.field-0-is) c.arm_of.ensures)

pub returns-in-Ok-None : goal.returns-in-Ok-None
returns-in-Ok-None c =
    subst (λ (o : Option (Test Marked)). IfSome o (λ test. 0 ≡ mark_arm test)) (c.in-Ok-None.ensures (λ a. a))
    (subst (λ (found : Option (Asked _)). IfSome (option_map (asked_of marks (λ a. a)) found) (λ test. 0 ≡ mark_arm test)) (sym c.in-Ok-None.field-0-is) tt)
