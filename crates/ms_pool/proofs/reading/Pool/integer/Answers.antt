use Rattle.std.proofs.Common.{◌≡◌, ℤ, is_some, subst, ◌∙◌}
use Rattle.ms_pool.specs.ByNumber.{entries_in, integer}
use Rattle.ms_pool.specs.Pools.{has_tag}
use Rattle.ms_pool.proofs.Linked.{integer_where, of_pool, option_same, returned}
use Rattle.ms_pool.proofs.reading.Pool.integer.Goals as goal

pub returns-clause-there : goal.returns-clause-there
returns-clause-there c =
    let slots = entries_in c.self.inside.bytes.now c.self.inside.index in
    subst (λ s. is_some c.integer.result ≡ has_tag s c.args.i 3) c.self.view_is
    (returned (λ (int : ℤ). int) c.integer.result (integer slots c.args.i) (has_tag slots c.args.i 3) (option_same c.integer.result ∙ c.integer.ensures) (integer_where slots (of_pool slots c.self.invariant.1) c.args.i))
