use Rattle.std.proofs.Common.{drop}
use Rattle.ms_classfile.proofs.Signatures.{IsListing}
use Rattle.ms_classfile.proofs.thin.method.parameters.Given as goal

abbrev pub invariant-loop-at : goal.invariant-loop-at
invariant-loop-at l = IsListing l.text l.kinds (drop l.at l.text)
