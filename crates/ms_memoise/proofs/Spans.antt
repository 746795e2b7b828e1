-- What holds between two moments holds between an earlier and a later one.
use Rattle.std.proofs.Common.{ℕ, ◌≤◌, refl, ◌∙◌, arith}
use Rattle.ms_outside.specs.Counts.{CountsGrow, ShelfCounts, Rose}
use Rattle.ms_session.specs.Outside.{Passes, ShelfPasses, ShelfSide, SinkSide}

pub counts_same : (c : ShelfCounts) → CountsGrow c c
counts_same c = record { faults = omega arith; misses = omega arith; overlong = omega arith }

pub counts_later : (a b c : ShelfCounts) → CountsGrow a b → CountsGrow b c → CountsGrow a c
counts_later a b c p q =
    record { faults = omega (arith, p.faults, q.faults); misses = omega (arith, p.misses, q.misses); overlong = omega (arith, p.overlong, q.overlong) }

pub shelf_same : (a : ShelfSide) → ShelfPasses a a
shelf_same a = record { files = refl; fetches = counts_same a.counts }

pub shelf_later : (a b c : ShelfSide) → ShelfPasses a b → ShelfPasses b c → ShelfPasses a c
shelf_later a b c p q = record { files = q.files ∙ p.files; fetches = counts_later _ _ _ p.fetches q.fetches }

pub passes_later : (a b c : ShelfSide) (s t u : SinkSide) → Passes a b s t → Passes b c t u → Passes a c s u
passes_later a b c s t u p q = record { on_shelf = shelf_later a b c p.on_shelf q.on_shelf; writes = omega (arith, p.writes, q.writes) }

pub rose_wider : (a b c d : ℕ) → a ≤ b → c ≤ d → Rose b c → Rose a d
rose_wider a b c d p q rose = omega arith
