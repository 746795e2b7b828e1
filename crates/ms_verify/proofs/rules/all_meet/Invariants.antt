use Rattle.std.proofs.Common.{◌≡◌, map}
use Rattle.ms_typing.specs.Rules.{all_meet}
use Rattle.ms_verify.specs.Told.{want_told}
use Rattle.ms_verify.proofs.Taking.{all_left}
use Rattle.ms_verify.proofs.rules.all_meet.Given as goal

-- all is as those say that are left
abbrev pub invariant-loop-i : goal.invariant-loop-i
invariant-loop-i l = all_meet (map want_told l.wants) l.kinds ≡ all_left l.i l.wants l.kinds
