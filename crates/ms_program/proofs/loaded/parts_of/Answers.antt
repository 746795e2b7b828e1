use Rattle.std.proofs.Common.{◌<◌, All, List, arith, subst}
use Rattle.std.proofs.lemmas.Simd.{map-map}
use Rattle.ms_pool.specs.Numbers.{all_from_bytes}
use Rattle.ms_classfile.specs.ClassFile.{field_key, method_key}
use Rattle.ms_classfile.specs.ClassLaws.{AreDistinct}
use Rattle.ms_classfile.specs.ClassViews.{class_view, field_view, method_view}
use Rattle.ms_program.specs.FileViews.{file_view}
use Rattle.ms_program.specs.Names.{Key}
use Rattle.ms_program.proofs.Loading.{is_class}
use Rattle.ms_program.proofs.loaded.parts_of.Goals as goal

pub members_of-requires-clause-fields : goal.members_of-requires-clause-fields
members_of-requires-clause-fields c =
    let class = c.in_ok-class.field-0.class in
    let all : All (λ byte. byte < 256) c.args.bytes.now = all_from_bytes c.args.bytes.now (λ i. omega (arith, c.type_inv.bytes i)) in
    subst (λ (keys : List Key). AreDistinct keys) (map-map field_key field_view class.fields) (c.members_are_distinct.ensures.fields c.args.bytes.now (class_view class) all c.in_ok-class.ensures.file.0)

pub members_of-requires-clause-methods : goal.members_of-requires-clause-methods
members_of-requires-clause-methods c =
    let class = c.in_ok-class.field-0.class in
    let all : All (λ byte. byte < 256) c.args.bytes.now = all_from_bytes c.args.bytes.now (λ i. omega (arith, c.type_inv.bytes i)) in
    subst (λ (keys : List Key). AreDistinct keys) (map-map method_key method_view class.methods) (c.members_are_distinct.ensures.methods c.args.bytes.now (class_view class) all c.in_ok-class.ensures.file.0)

pub returns-clause-parts : goal.returns-clause-parts
returns-clause-parts c =
    let file = c.in_ok-class.field-0 in
    let members = c.in_ok-members.members in
    let all : All (λ byte. byte < 256) c.args.bytes.now = all_from_bytes c.args.bytes.now (λ i. omega (arith, c.type_inv.bytes i)) in
    is_class c.args.bytes.now c.into_index.result (file_view file) members.name.items members.fields members.statics.items members.methods all c.in_ok-class.ensures.file c.in_ok-members.ensures
    c.into_index.ensures (c.pools_lie_in_their_file.ensures c.args.bytes.now (class_view file.class) all c.in_ok-class.ensures.file.0)
    (c.members_are_distinct.ensures.few c.args.bytes.now (class_view file.class) all c.in_ok-class.ensures.file.0)
