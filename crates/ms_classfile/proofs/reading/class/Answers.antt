use Rattle.std.proofs.Common.{◌≡◌, Ok, map, subst, arith}
use Rattle.ms_pool.specs.Places.{Place}
use Rattle.ms_classfile.specs.ClassFile.{header}
use Rattle.ms_classfile.specs.ClassViews.{field_view, method_view}
use Rattle.ms_classfile.proofs.Exact.{class_is, header_fits}
use Rattle.ms_classfile.proofs.reading.class.Goals as goal

pub pool-requires : goal.pool-requires
pool-requires c =
    let start = subst (λ (p : Place). header.read p ≡ Ok (c.in_ok-major.major, c.header.new.cursor)) c.new-cursor.ensures c.in_ok-major.ensures in
    header_fits c.args.bytes.now c.in_ok-major.major c.header.new.cursor (λ i. omega (arith, c.type_inv.bytes i)) start

pub returns : goal.returns
returns c =
    let start = subst (λ (p : Place). header.read p ≡ Ok (c.in_ok-major.major, c.header.new.cursor)) c.new-cursor.ensures c.in_ok-major.ensures in
    (c.end.new.cursor, class_is c.args.bytes.now _ _ _ _ _ _ _ c.end.new.cursor c.in_ok-major.major c.in_ok-pool.pool (c.in_ok-this.this.index, c.in_ok-this.this.text.now) (map field_view c.in_ok-fields.fields) (map method_view c.in_ok-methods.methods) start c.in_ok-pool.ensures c.in_ok-this.ensures c.in_ok-interfaces.ensures c.in_ok-fields.ensures c.in_ok-methods.ensures c.in_ok-attributes.ensures c.in_ok-end.ensures)
