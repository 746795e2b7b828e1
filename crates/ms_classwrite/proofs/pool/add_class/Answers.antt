use Rattle.ms_classwrite.proofs.More.{class_above, class_is}
use Rattle.ms_classwrite.proofs.pool.add_class.Goals as goal

pub returns-then-place-ge-MAX_ENTRIES-clause-many :
    goal.returns-then-place-ge-MAX_ENTRIES-clause-many
returns-then-place-ge-MAX_ENTRIES-clause-many c = λ many. class_above c.args.lines.now c.args.name.now c.in_ok-place.place c.in_ok-place.ensures.place c.if-place-ge-MAX_ENTRIES.true

pub returns-clause-ok : goal.returns-clause-ok
returns-clause-ok c = class_is c.args.lines.now c.add.new.self c.add-2.new.self c.args.name.now c.in_ok-place.place c.in_ok-place.ensures.place c.in_ok-place.ensures.added c.in_ok-add.ensures.added
