use Rattle.std.proofs.Common.{sym, ap, ◌∙◌, map, reverse, arith}
use Rattle.std.proofs.lemmas.List.{take_all}
use Rattle.ms_typing.specs.Rules.{want_of}
use Rattle.ms_machine.proofs.ValueMap.{reverse_map}
use Rattle.ms_verify.specs.Told.{want_told}
use Rattle.ms_verify.proofs.rules.arguments.Goals as goal

pub returns : goal.returns
returns c =
    ap (map want_told) c.reverse.ensures.items ∙ sym (reverse_map want_told c.loop-parameter.wants.items) ∙ ap reverse (c.loop-parameter.invariant ∙ ap (map want_of) (take_all c.loop-parameter.parameter-index c.args.parameters.now (omega arith)))
