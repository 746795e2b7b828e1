use Rattle.std.proofs.Common.{◌≡◌, map, take}
use Rattle.ms_classfile.specs.Found.{view}
use Rattle.ms_jvm.specs.Programs.{program_of}
use Rattle.ms_session.specs.Growing.{run_of}
use Rattle.ms_session.proofs.runs.all_runs.Given as goal

abbrev pub invariant-loop-input : goal.invariant-loop-input
invariant-loop-input l = l.runs.items ≡ map (λ input. run_of (program_of (view l.method)) l.depth input.words) (take l.input-index l.input-items)
