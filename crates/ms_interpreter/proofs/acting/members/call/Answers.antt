use Rattle.std.proofs.Common.{arith}
use Rattle.ms_interpreter.proofs.Reaching.{enough_arguments, too_few_arguments}
use Rattle.ms_interpreter.proofs.acting.members.call.Goals as goal

pub returns-then-depth-parameters : goal.returns-then-depth-parameters
returns-then-depth-parameters g c = too_few_arguments c.args.frame.now c.args.memory.now c.args.parameters c.args.class (omega (arith, c.depth.ensures, c.if-depth-parameters.true))

pub returns : goal.returns
returns g c = enough_arguments c.args.frame.now c.args.memory.now c.args.parameters c.args.class (omega (arith, c.depth.ensures, c.if-depth-parameters.false))
