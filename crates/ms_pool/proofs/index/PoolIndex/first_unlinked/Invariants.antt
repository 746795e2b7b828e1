use Rattle.std.proofs.Common.{◌≡◌, drop, option_map}
use Rattle.ms_pool.specs.Pools.{Placed, first_unlinked, unlinked}
use Rattle.ms_pool.specs.ByNumber.{entries_in}
use Rattle.ms_pool.proofs.index.PoolIndex.first_unlinked.Given as goal

abbrev pub invariant-loop-at : goal.invariant-loop-at
invariant-loop-at l = option_map (λ (p : Placed). p.at) (first_unlinked (entries_in l.bytes l.self) (entries_in l.bytes (drop l.at-index l.at-items))) ≡ option_map (λ (p : Placed). p.at) (unlinked (entries_in l.bytes l.self))
