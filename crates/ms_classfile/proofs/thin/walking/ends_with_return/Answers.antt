use Rattle.std.proofs.Common.{◌∙◌}
use Rattle.ms_classfile.proofs.Walking.{last_returns, none_returns}
use Rattle.ms_classfile.proofs.thin.walking.ends_with_return.Goals as goal

pub returns-in-Some : goal.returns-in-Some
returns-in-Some c = c.is_return.ensures ∙ last_returns c.args.code.now c.in-Some.last.now c.in-Some.ensures.value

pub returns-in-None : goal.returns-in-None
returns-in-None c = none_returns c.args.code.now c.in-None.ensures.value
