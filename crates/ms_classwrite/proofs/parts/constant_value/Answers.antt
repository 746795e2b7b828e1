use Rattle.std.proofs.Common.{ℕ, ◌++◌, OnOk, ◌≡◌, ap, subst, ◌∙◌}
use Rattle.std.specs.Prelude.{codes}
use Rattle.ms_pool.specs.Pools.{u2, u4}
use Rattle.ms_classwrite.specs.Layout.{text_number}
use Rattle.ms_classwrite.specs.Lines.{line_view}
use Rattle.ms_classwrite.specs.Plans.{number_in}
use Rattle.ms_classwrite.proofs.Written.{four_written}
use Rattle.ms_classwrite.proofs.parts.constant_value.Goals as goal

pub returns : goal.returns
returns c =
    let lines = c.args.lines.now in
    four_written c.u2-3.result c.args.out.now c.u2.new.self c.u2-2.new.self c.u4.new.self c.u2-3.new.self
    (u2 1) (u2 (text_number lines (codes "ConstantValue"))) (u4 2) (u2 (number_in lines (line_view c.args.int)))
    c.in_ok-u2.ensures.ok
    (c.in_ok-u2-2.ensures.ok ∙ ap (λ (n : ℕ). c.u2.new.self ++ u2 n) c.text_number.ensures)
    c.in_ok-u4.ensures.ok
    (subst (λ (n : ℕ). OnOk c.u2-3.result (c.u2-3.new.self ≡ c.u4.new.self ++ u2 n)) c.number.ensures c.u2-3.ensures.ok)
