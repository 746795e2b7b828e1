use Rattle.std.proofs.Common.{◌≡◌, fold, take}
use Rattle.ms_classwrite.specs.Layout.{with_method}
use Rattle.ms_classwrite.proofs.pool.add_methods.Given as goal

abbrev pub invariant-loop-method : goal.invariant-loop-method
invariant-loop-method l = l.lines ≡ fold with_method l.fn.lines (take l.method-index l.methods)
