use Rattle.std.proofs.Common.{map, ap, ◌∙◌}
use Rattle.std.proofs.lemmas.List.{take_all}
use Rattle.ms_words.specs.Inputs.{Words}
use Rattle.ms_classfile.specs.Found.{view}
use Rattle.ms_jvm.specs.Programs.{program_of}
use Rattle.ms_session.specs.Growing.{run_of}
use Rattle.ms_session.specs.Paths.{inputs_of}
use Rattle.ms_session.proofs.Inputs.{map_twice}
use Rattle.ms_session.proofs.runs.all_runs.Goals as goal

pub returns : goal.returns
returns c =
    let P = program_of (view c.args.method.now) in
    c.loop-input.invariant
    ∙ ap (map (λ (input : Words). run_of P c.args.depth input.words)) (take_all _ _ c.loop-input-test.false ∙ c.as_slice-input-items.ensures.value ∙ c.in_ok-inputs.ensures.inputs)
    ∙ map_twice (λ (input : Words). run_of P c.args.depth input.words) (λ words. record { kinds = c.args.method.now.kinds; words = words }) (inputs_of c.args.method.now.kinds)
