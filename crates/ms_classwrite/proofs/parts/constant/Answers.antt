use Rattle.std.proofs.Common.{◌≡◌, ◌++◌, OnOk, Option, ℤ, sym, subst, rules, FitsSigned, w32}
use Rattle.std.specs.Prelude.{codes}
use Rattle.std.proofs.lemmas.Int.{to_z-of_z}
use Rattle.ms_pool.specs.Pools.{u2, u4}
use Rattle.ms_classwrite.specs.declared.plan.PoolLine.TheVariants.{Integer}
use Rattle.ms_classwrite.specs.Layout.{spelled_constant, text_number}
use Rattle.ms_classwrite.specs.Plans.{number_in}
use Rattle.ms_classwrite.proofs.parts.constant.Goals as goal

pub returns-in-Some : goal.returns-in-Some
unfolding spelled_constant
returns-in-Some c =
    let lines = c.args.lines.now in
    let out = c.args.out.now in
    let fits : FitsSigned w32 c.in-Some.int = search rules in
    subst (λ (constant : Option ℤ). OnOk c.constant_value.result (c.constant_value.new.out ≡ out ++ spelled_constant lines constant)) (sym c.in-Some.is)
    (subst (λ (int : ℤ). OnOk c.constant_value.result (c.constant_value.new.out ≡ out ++ (u2 1 ++ u2 (text_number lines (codes "ConstantValue")) ++ u4 2 ++ u2 (number_in lines (Integer int))))) (to_z-of_z w32 c.in-Some.int fits) c.constant_value.ensures)
