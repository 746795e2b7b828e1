use Rattle.std.proofs.Common.{◌≡◌, is_some, subst}
use Rattle.ms_pool.specs.ByNumber.{entries_in, is_member, member}
use Rattle.ms_pool.specs.Found.{member_view}
use Rattle.ms_pool.proofs.Linked.{member_where, of_pool, returned}
use Rattle.ms_pool.proofs.reading.Pool.member.Goals as goal

pub returns-clause-there : goal.returns-clause-there
returns-clause-there c =
    let slots = entries_in c.self.inside.bytes.now c.self.inside.index in
    subst (λ s. is_some c.member.result ≡ is_member s c.args.i) c.self.view_is
    (returned member_view c.member.result (member slots c.args.i) (is_member slots c.args.i) c.member.ensures (member_where slots (of_pool slots c.self.invariant.1) c.args.i))
