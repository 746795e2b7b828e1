use Rattle.std.proofs.Common.{◌≡◌, ◌++◌, List, drop}
use Rattle.std.specs.Prelude.{option_map}
use Rattle.ms_code.specs.declared.decoded.Handler.{Handler}
use Rattle.ms_code.specs.Codes.{handlers_of}
use Rattle.ms_code.proofs.checking.handlers_of.Given as goal

abbrev pub invariant-loop-row : goal.invariant-loop-row
invariant-loop-row l = option_map (λ (rest : List Handler). l.handlers.items ++ rest) (handlers_of l.pool (drop l.row-index l.rows)) ≡ handlers_of l.pool l.rows
