use Rattle.std.proofs.Common.{◌≡◌, map, drop}
use Rattle.ms_linking.specs.Linked.{handler_of}
use Rattle.ms_machine.specs.Control.{catching}
use Rattle.ms_interpreter.proofs.leading.handler_in.Given as goal

-- the handlers before this one don't catch it
abbrev pub invariant-loop-i : goal.invariant-loop-i
invariant-loop-i l = catching (map handler_of l.view.handlers) l.class ≡ catching (map handler_of (drop l.i l.view.handlers)) l.class
