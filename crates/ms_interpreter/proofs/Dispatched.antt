-- An instruction did what was done for it.
use Rattle.std.proofs.Common.{◌≡◌, ℕ, List, Ok, Err, sym, subst, ◌∙◌}
use Rattle.std.specs.Prelude.{IfOk, Result}
use Rattle.ms_machine.specs.Instructions.{Instr, PushText}
use Rattle.ms_interpreter.specs.declared.did.Did.{Did}
use Rattle.ms_interpreter.specs.Doing.{Acts, ActsAnyhow, HasText}
use Rattle.ms_interpreter.specs.Frames.{Frame, Shared}
use Rattle.ms_interpreter.specs.Seen.{Texts}

pub if_ok : {A E : Type 0} {P Q : A → Type 0} (r : Result A E) → ((a : A) → P a → Q a) → IfOk r P → IfOk r Q
if_ok (Ok a) go holds = go a holds
if_ok (Err e) go holds = holds

module _ {I : Type 0} (texts : Texts) (arm : ℕ) (frame frame' : Frame I) (shared shared' : Shared I) {instr told : Instr} (is : told ≡ instr) where
  pub anyhow : (done : Did I) → ActsAnyhow instr frame shared done frame' shared' → Acts texts told arm frame shared done frame' shared'
  anyhow done acts = subst (λ (i : Instr). Acts texts i arm frame shared done frame' shared') (sym is) (acts texts arm)

  pub anyhow_ok : {E : Type 0} (r : Result (Did I) E) → IfOk r (λ done. ActsAnyhow instr frame shared done frame' shared') → IfOk r (λ done. Acts texts told arm frame shared done frame' shared')
  anyhow_ok r acts = if_ok r anyhow acts

  pub so_ok : {E : Type 0} (r : Result (Did I) E) → IfOk r (λ done. (arm : ℕ) → Acts texts instr arm frame shared done frame' shared') → IfOk r (λ done. Acts texts told arm frame shared done frame' shared')
  so_ok r acts = if_ok r (λ done a. subst (λ (i : Instr). Acts texts i arm frame shared done frame' shared') (sym is) (a arm)) acts

  -- a text is put on the stack
  pub text_ok : {E : Type 0} (bytes : List ℕ) → instr ≡ PushText bytes → HasText texts frame.at told → (r : Result (Did I) E)
      → IfOk r (λ done. (texts : Texts) (arm : ℕ) → Acts texts (PushText (texts frame.at)) arm frame shared done frame' shared') → IfOk r (λ done. Acts texts told arm frame shared done frame' shared')
  text_ok bytes text has r acts =
      let same : texts frame.at ≡ bytes = subst (HasText texts frame.at) (is ∙ text) has in
      if_ok r (λ done a. subst (λ (i : Instr). Acts texts i arm frame shared done frame' shared') (sym (is ∙ text)) (subst (λ (b : List ℕ). Acts texts (PushText b) arm frame shared done frame' shared') same (a texts arm))) acts
