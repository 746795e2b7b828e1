-- The parameters of an input as locals, place by place.
use Rattle.std.proofs.Common.{◌≡◌, ℕ, zero, suc, ◌<◌, false, List, [], ◌∷◌, length, map, ℤ, Some, slice_get, ap, arith}
use Rattle.ms_words.specs.declared.kind.Kind.{Kind}
use Rattle.ms_machine.specs.Ints.{Marked}
use Rattle.ms_machine.specs.Values.{Int}
use Rattle.ms_machine.specs.Runs.{given_from}
use Rattle.ms_machine.specs.Laws.{mark_of}
use Rattle.ms_jvm.specs.Turns.{locals_of}

-- an int that a parameter entered
abbrev pub entered : ℤ → Marked
entered word = record { word = word; plain = false }

pub parameter_is : (index : ℕ) (kinds : List Kind) (words : List ℤ) (i : ℕ) (word : ℤ) → i < length kinds → slice_get words i ≡ Some word
    → slice_get (locals_of (map mark_of (given_from index kinds words))) i ≡ Some (Some (Int (entered word)))
parameter_is index [] words i word there found = absurd (omega arith)
parameter_is index (kind ∷ kinds) [] i word there found = absurd cc
parameter_is index (kind ∷ kinds) (first ∷ words) zero word there found = let same : first ≡ word = cc in ap (λ (w : ℤ). Some (Some (Int (entered w)))) same
parameter_is index (kind ∷ kinds) (first ∷ words) (suc i) word there found = parameter_is (suc index) kinds words i word (omega arith) found
