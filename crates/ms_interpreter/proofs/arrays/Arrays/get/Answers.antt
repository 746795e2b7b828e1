use Rattle.std.proofs.Common.{List, length, ap, arith}
use Rattle.std.specs.Global.{Vec}
use Rattle.ms_machine.specs.Values.{cells_of}
use Rattle.ms_interpreter.specs.Frames.{lists_in}
use Rattle.ms_interpreter.proofs.ArraysOf.{fewer}
use Rattle.ms_interpreter.proofs.arrays.Arrays.get.Goals as goal

pub returns-clause-few : goal.returns-clause-few
returns-clause-few g c =
    let lookup = c.in_ok-cells.ensures.lookup in
    let among = fewer c.deref.result.now c.from.result c.in_ok-cells.cells.now lookup.3.0 lookup.1 in
    let all = c.deref.ensures.value in
    let long = ap (λ (cells : List _). length cells) c.as_slice.ensures.value in
    let kept = ap (λ (arrays : List (Vec _)). cells_of (lists_in arrays)) all in
    omega (arith, among, long, kept, c.self.invariant.0, c.self.invariant.1)
