use Rattle.std.proofs.Common.{◌+◌, ◌++◌, length, refl}
use Rattle.std.specs.Prelude.{codes}
use Rattle.ms_pool.specs.Pools.{u2, u4}
use Rattle.ms_classwrite.specs.Layout.{spelled_code, text_number}
use Rattle.ms_classwrite.proofs.Written.{written}
use Rattle.ms_classwrite.proofs.parts.code.Goals as goal

pub returns : goal.returns
unfolding spelled_code
returns c =
    let method = c.args.method.now in
    written c.code_bytes.result c.args.out.now c.code_head.new.out c.code_bytes.new.out
    (u2 (text_number c.args.lines.now (codes "Code")) ++ u4 (length method.code + 12) ++ u2 method.max_stack ++ u2 method.max_locals)
    (u4 (length method.code) ++ method.code ++ u2 0 ++ u2 0) (spelled_code c.args.lines.now method)
    c.code_bytes.ensures c.in_ok-code_head.ensures refl
