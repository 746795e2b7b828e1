use Rattle.std.proofs.Common.{◌≡◌, take, true}
use Rattle.std.specs.List.{list_all}
use Rattle.ms_words.specs.Inputs.{is_of}
use Rattle.ms_words.specs.declared.kind.Kind.TheVariants.{I}
use Rattle.ms_command.proofs.command.words_of.Given as goal

-- the numbers so far are words, and these are the words so far
abbrev pub invariant-loop-number : goal.invariant-loop-number
invariant-loop-number l = record {
  in_range : list_all (is_of I) (take l.number-index l.numbers) ≡ true;
  same : l.words ≡ take l.number-index l.numbers;
}
