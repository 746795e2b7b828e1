use Rattle.std.proofs.Common.{◌≡◌, ◌+◌, false, List, [], ◌∷◌, ◌++◌, ap, subst, sym, ◌∙◌}
use Rattle.ms_classfile.specs.ClassFile.{is_there}
use Rattle.ms_program.specs.Names.{Key}
use Rattle.ms_program.proofs.Members.{AreSoFar, all_so_far, key_is, next_is_new, none_so_far, one_more}
use Rattle.ms_program.proofs.names.names_of.Goals as goal

pub loop-member-init : goal.loop-member-init
loop-member-init g c = subst (λ (names : List Key). AreSoFar g.M.Member.key c.args.members.now 0 names) (sym c.new-names.ensures) (none_so_far g.M.Member.key c.args.members.now c.requires)

pub add-requires : goal.add-requires
add-requires g c =
    let fresh = next_is_new g.M.Member.key c.args.members.now c.loop-member.member-index c.member-item.result c.loop-member.names c.loop-member-test.true c.loop-member.invariant in
    let is = key_is c.name.result.now c.desc.result.now (g.M.Member.key c.member-item.result) c.name.ensures c.desc.ensures ∙ ap g.M.Member.key c.member-item.is in
    subst (λ (key : Key). is_there key.0 key.1 c.loop-member.names ≡ false) (sym is) fresh

pub loop-member-preserved : goal.loop-member-preserved
loop-member-preserved g c =
    let more = one_more g.M.Member.key c.args.members.now c.loop-member.member-index c.member-item.result c.loop-member.names c.loop-member-test.true c.loop-member.invariant in
    let is = key_is c.name.result.now c.desc.result.now (g.M.Member.key c.member-item.result) c.name.ensures c.desc.ensures ∙ ap g.M.Member.key c.member-item.is in
    subst (λ (names : List Key). AreSoFar g.M.Member.key c.args.members.now (c.loop-member.member-index + 1) names) (sym (c.in_ok-add.ensures ∙ ap (λ (key : Key). c.loop-member.names ++ key ∷ []) is)) more

pub returns : goal.returns
returns g c = all_so_far g.M.Member.key c.args.members.now c.loop-member.member-index c.loop-member.names c.loop-member-test.false c.loop-member.invariant
