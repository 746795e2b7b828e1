use Rattle.std.proofs.Common.{sym, ap, ◌∙◌}
use Rattle.ms_pool.specs.Places.{part_at}
use Rattle.ms_pool.proofs.Parts.{part_is}
use Rattle.ms_pool.proofs.cursor.Cursor.part.Goals as goal

pub returns : goal.returns
returns c = sym (ap (part_at c.args.n) c.self.view_is) ∙ part_is c.self.inside.bytes.now c.self.inside.at c.args.n c.if-self-at.false
