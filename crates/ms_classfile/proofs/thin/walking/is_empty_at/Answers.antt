use Rattle.std.proofs.Common.{sym, ap, ◌∙◌, drop, ℕ, length-drop, arith}
use Rattle.ms_classfile.specs.Instructions.{is_empty_at}
use Rattle.ms_classfile.proofs.Walking.{is_here}
use Rattle.ms_classfile.proofs.thin.walking.is_empty_at.Goals as goal

pub returns-then-left-eq0 : goal.returns-then-left-eq0
returns-then-left-eq0 c =
    let code = drop c.loop-instruction.instruction-index c.args.code.now in
    sym (is_here c.loop-instruction.depth code (omega (arith, length-drop c.loop-instruction.instruction-index c.args.code.now, c.loop-instruction-test.true)))
    ∙ ap (λ (far : ℕ). is_empty_at c.loop-instruction.depth far code) (sym c.if-left-eq0.true)
    ∙ c.loop-instruction.invariant.walks
