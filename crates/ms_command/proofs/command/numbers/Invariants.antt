use Rattle.std.proofs.Common.{◌≡◌, drop, map, ◌++◌}
use Rattle.std.specs.Option.{option_map}
use Rattle.ms_command.specs.Numerals.{number_values}
use Rattle.ms_command.proofs.command.numbers.Given as goal

-- the numbers so far, and those of what is left, are those of all
abbrev pub invariant-loop-token : goal.invariant-loop-token
invariant-loop-token l =
    option_map (λ more. l.numbers.items ++ more) (number_values (map (λ token. token.now) (drop l.token-index l.tokens)))
    ≡ number_values (map (λ token. token.now) l.tokens)
