use Rattle.std.proofs.Common.{FitsSigned, w32, rules}
use Rattle.std.proofs.lemmas.Int.{to_z-of_z}
use Rattle.ms_jvm.proofs.Parameters.{parameter_is}
use Rattle.ms_jvm.proofs.execute.parameter.Goals as goal

pub returns : goal.returns
returns c =
    let fits : FitsSigned w32 c.get.result = search rules in
    rw (to_z-of_z w32 c.get.result fits) (parameter_is 0 c.args.x.now.kinds c.args.x.now.words c.args.local c.get.result c.requires c.get.ensures.word)
