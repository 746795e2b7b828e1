use Rattle.std.proofs.Common.{◌≡◌, ◌++◌, ◌∷◌, [], map}
use Rattle.std.proofs.lemmas.Result.{err_from_is_err_and}
use Rattle.std.proofs.lemmas.List.{map_push}
use Rattle.ms_classfile.specs.Reading.{entry_at, repeated}
use Rattle.ms_classfile.specs.Found.{entry_view}
use Rattle.ms_classfile.proofs.Repeated.{goes_on, ends, is_done}
use Rattle.ms_classfile.proofs.thin.pool.entries.Goals as goal

pub returns-in_err-found : goal.returns-in_err-found
returns-in_err-found c =
    let p = err_from_is_err_and c.from_residual.result c.from_residual.ensures.1 in
    rw (p.1, p.2) (ends entry_at (map entry_view c.loop.entries.items) c.args.count c.loop.counter c.loop.cursor (repeated entry_at c.args.count c.args.cursor.now) c.loop-test.true c.in_err-found.ensures c.loop.invariant)

pub loop-preserved : goal.loop-preserved
loop-preserved c =
    let found = entry_view c.in_ok-found.found in
    let pushed : map entry_view c.push.new.self.items ≡ map entry_view c.loop.entries.items ++ found ∷ [] = rw c.in_ok-push.ensures.items (map_push _ c.loop.entries.items c.in_ok-found.found) in
    rw pushed (goes_on entry_at (map entry_view c.loop.entries.items) c.args.count c.loop.counter c.loop.cursor found c.entry.new.cursor (repeated entry_at c.args.count c.args.cursor.now) c.loop-test.true c.in_ok-found.ensures c.loop.invariant)

pub returns : goal.returns
returns c = is_done entry_at (map entry_view c.loop.entries.items) c.args.count c.loop.counter c.loop.cursor (repeated entry_at c.args.count c.args.cursor.now) c.loop-test.false c.loop.invariant
