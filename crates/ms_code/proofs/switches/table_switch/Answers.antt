use Rattle.std.proofs.Common.{◌≡◌, true, ◌+◌, ◌-ℤ◌, ℤ, to_z, of_z, []}
use Rattle.std.specs.Int.{w32}
use Rattle.std.specs.Prelude.{unsigned_abs}
use Rattle.ms_code.specs.Keys.{keys_ascend}
use Rattle.ms_code.proofs.Keys.{are_from_ascend, table_keys}
use Rattle.ms_code.proofs.switches.table_switch.Goals as goal

pub new-requires : goal.new-requires
new-requires c =
    let low : ℤ = to_z w32 (of_z w32 c.in_ok-low.low) in
    let high : ℤ = to_z w32 (of_z w32 c.in_ok-high.high) in
    let keys : keys_ascend c.in_ok-cases.cases.items ≡ true =
    are_from_ascend low c.in_ok-cases.cases.items (table_keys (unsigned_abs (high -ℤ low) + 1) c.args.spot.place c.args.spot.offset low [] c.s4-3.new.cursor (c.in_ok-cases.cases.items, c.table_cases.new.cursor) tt c.in_ok-cases.ensures) in
    keys
