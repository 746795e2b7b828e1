use Rattle.std.proofs.Common.{map, sym, ap, ◌∙◌}
use Rattle.ms_words.specs.declared.item.Item.TheVariants.{Entry}
use Rattle.ms_symexec.specs.Keys.{key}
use Rattle.ms_symexec.proofs.Firsts.{is_none_there, with_item, without_item}
use Rattle.ms_symexec.proofs.footprints.footprint_of.Goals as goal
use Rattle.ms_symexec.proofs.footprints.footprint_of.Goals.{then-is_new+in_ok-add, else-is_new}

pub add-requires : goal.add-requires
add-requires c = is_none_there c.args.trace.now c.loop-place.footprint c.loop-place.place c.loop-place.seen.keys c.key_of.result Entry c.loop-place-test.true c.loop-place.invariant.footprint c.loop-place.invariant.keys c.key_of.ensures (sym c.in-Ok.ensures.added ∙ c.if-is_new.true)

pub loop-place-preserved : goal.loop-place-preserved
loop-place-preserved c = elim c.if-is_new.branch [
  | then-is_new+in_ok-add w ↦
      let with = with_item c.args.trace.now c.loop-place.footprint c.loop-place.place c.loop-place.seen.keys c.key_of.result Entry c.loop-place-test.true c.loop-place.invariant.footprint c.loop-place.invariant.keys c.key_of.ensures (sym c.in-Ok.ensures.added ∙ w.if-is_new.true) c.insert.new.self.keys c.in-Ok.ensures.keys in
      let is = w.footprint-is ∙ w.in_ok-add.ensures.ok in
      record { footprint = is ∙ with.items; keys = with.kept_keys ∙ ap (map key) (sym is) }
  | else-is_new w ↦
      let without = without_item c.args.trace.now c.loop-place.footprint c.loop-place.place c.loop-place.seen.keys c.key_of.result Entry c.loop-place-test.true c.loop-place.invariant.footprint c.loop-place.invariant.keys c.key_of.ensures (sym c.in-Ok.ensures.added ∙ w.if-is_new.false) c.insert.new.self.keys c.in-Ok.ensures.keys in
      record { footprint = w.footprint-is ∙ without.items; keys = without.kept_keys ∙ ap (map key) (sym w.footprint-is) }
]
