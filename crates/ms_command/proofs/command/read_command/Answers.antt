use Rattle.std.proofs.Common.{map}
use Rattle.ms_command.specs.Commands.{command_of_tokens}
use Rattle.ms_command.proofs.Ranges.{result_fits, tokens_fit}
use Rattle.ms_command.proofs.command.read_command.Goals as goal

pub returns-clause-range : goal.returns-clause-range
returns-clause-range c = result_fits c.command_from.result (command_of_tokens (map (λ token. token.now) c.as_slice.result.now)) _ (tokens_fit (map (λ token. token.now) c.as_slice.result.now)) c.command_from.ensures
