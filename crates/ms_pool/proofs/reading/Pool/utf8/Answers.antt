use Rattle.std.proofs.Common.{◌≡◌, ℕ, List, Bor, is_some, subst}
use Rattle.ms_pool.specs.ByNumber.{entries_in, utf8}
use Rattle.ms_pool.specs.Pools.{has_tag}
use Rattle.ms_pool.proofs.Linked.{utf8_where, of_pool, returned}
use Rattle.ms_pool.proofs.reading.Pool.utf8.Goals as goal

pub returns-clause-there : goal.returns-clause-there
returns-clause-there c =
    let slots = entries_in c.self.inside.bytes.now c.self.inside.index in
    subst (λ s. is_some c.utf8-2.result ≡ has_tag s c.args.i 1) c.self.view_is
    (returned (λ (text : Bor (List ℕ)). text.now) c.utf8-2.result (utf8 slots c.args.i) (has_tag slots c.args.i 1) c.utf8-2.ensures (utf8_where slots (of_pool slots c.self.invariant.1) c.args.i))
