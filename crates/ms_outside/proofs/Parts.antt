-- What a write that fails has taken.
use Rattle.std.proofs.Common.{ℕ, ◌+◌, ◌-◌, List, Option, length, take, drop, []}
use Rattle.std.proofs.Math.Seq.{take-add}
use Rattle.std.proofs.lemmas.List.{take_rest}
use Rattle.std.specs.Io.KnownBytes.{Appends, Keeps}
use Rattle.std.proofs.KnownBytes.{Appends-kept, Appends-nil, Appends-trans}
use Rattle.ms_outside.specs.Sinks.{TakesPart}

-- known bytes that grew by some first bytes of a piece, and then stayed as they were
pub taken_part : (a b c : Option (List ℕ)) (n : ℕ) (piece : List ℕ) → Appends a b (take n piece) → Keeps b c → TakesPart a c piece
taken_part a b c n piece grown kept = (n, Appends-kept a b c (take n piece) grown kept)

-- known bytes that stayed as they were
pub taken_none : (a b : Option (List ℕ)) (piece : List ℕ) → Keeps a b → TakesPart a b piece
taken_none a b piece kept = (0, Appends-kept a a b [] (Appends-nil a) kept)

-- bytes that grew by the first bytes of a text, and then by some first bytes of the rest, grew by first bytes of the text
pub written_more : (a b c : Option (List ℕ)) (at n : ℕ) (bytes : List ℕ) → Appends a b (take at bytes) → Appends b c (take n (take (length bytes - at) (drop at bytes))) → Appends a c (take (at + n) bytes)
written_more a b c at n bytes first more =
    let rest = rw take_rest at more in
    rw take-add (Appends-trans a b c (take at bytes) (take n (drop at bytes)) first rest)

-- the same where it isn't said how many came last
pub part_more : (a b c : Option (List ℕ)) (at : ℕ) (bytes : List ℕ) → Appends a b (take at bytes) → TakesPart b c (take (length bytes - at) (drop at bytes)) → TakesPart a c bytes
part_more a b c at bytes first more = (at + more.0, written_more a b c at more.0 bytes first more.1)
