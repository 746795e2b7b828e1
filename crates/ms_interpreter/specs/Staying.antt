-- What ints are, as an arithmetic grows.
use Rattle.std.specs.Prelude.{◌≡◌}

-- what ints are stays where an arithmetic has that
abbrev pub Stay : {I V : Type 0} → (V → Type 0) → (before after : I → V) → Type 0
Stay Has before after = (a : _) → Has (before a) → after a ≡ before a
