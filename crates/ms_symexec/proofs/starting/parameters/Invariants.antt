use Rattle.std.proofs.Common.{◌≡◌, ◌≤◌, ◌+◌, Some, length, take}
use Rattle.std.specs.Prelude.{IsSome}
use Rattle.ms_machine.specs.Laws.{parameters_from}
use Rattle.ms_machine.specs.Maps.{map_locals}
use Rattle.ms_interpreter.specs.Seen.{Texts, locals_of}
use Rattle.ms_interpreter.specs.Staying.{Stay}
use Rattle.ms_interpreter.specs.Symbols.{symbol}
use Rattle.ms_symexec.specs.Standing.{held}
use Rattle.ms_symexec.proofs.starting.parameters.Given as goal

abbrev pub invariant-loop-place : goal.invariant-loop-place
invariant-loop-place l = record {
  stay : Stay (λ v. IsSome v) (symbol l.fn.terms) (symbol l.terms);
  few : length l.terms ≤ length l.fn.terms + l.place;
  locals : (texts : Texts) → locals_of (symbol l.terms) texts l.locals.items ≡ map_locals (λ term. Some term) (held (take l.place (parameters_from 0 l.kinds)));
}
