use Rattle.std.proofs.Common.{◌≡◌, ◌++◌, map, take}
use Rattle.ms_outside.proofs.sure_sink.SureSinkSink.write.Given as goal

abbrev pub invariant-loop-byte : goal.invariant-loop-byte
invariant-loop-byte l = map (λ entry. entry.0) l.self-inside.log.items ≡ map (λ entry. entry.0) l.initial.self-inside.log.items ++ take l.byte-index l.piece
