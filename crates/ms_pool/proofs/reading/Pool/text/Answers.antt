use Rattle.std.proofs.Common.{◌≡◌, ℕ, List, Bor, is_some, subst}
use Rattle.ms_pool.specs.ByNumber.{entries_in, string_text}
use Rattle.ms_pool.specs.Pools.{has_tag}
use Rattle.ms_pool.proofs.Linked.{string_where, of_pool, returned}
use Rattle.ms_pool.proofs.reading.Pool.text.Goals as goal

pub returns-clause-there : goal.returns-clause-there
returns-clause-there c =
    let slots = entries_in c.self.inside.bytes.now c.self.inside.index in
    subst (λ s. is_some c.text.result ≡ has_tag s c.args.i 8) c.self.view_is
    (returned (λ (text : Bor (List ℕ)). text.now) c.text.result (string_text slots c.args.i) (has_tag slots c.args.i 8) c.text.ensures (string_where slots (of_pool slots c.self.invariant.1) c.args.i))
