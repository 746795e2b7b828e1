-- What a write does to the bytes that a sink has taken, where it tells them.
use Rattle.std.specs.Prelude.{ℕ, List, Option, Result, MatchResult, take}
use Rattle.std.specs.Io.KnownBytes.{Appends}

-- it took some first bytes of the piece, perhaps none, and nothing else
abbrev pub TakesPart : Option (List ℕ) → Option (List ℕ) → List ℕ → Type 0
TakesPart before now piece = (n : ℕ) × Appends before now (take n piece)

-- at `Ok` the first bytes of the number that is given, at `Err` some first bytes
abbrev pub WriteTakes : {E : Type 0} → Option (List ℕ) → Option (List ℕ) → Result ℕ E → List ℕ → Type 0
WriteTakes before now result piece =
    MatchResult result (λ n. Appends before now (take n piece)) (λ _. TakesPart before now piece)
