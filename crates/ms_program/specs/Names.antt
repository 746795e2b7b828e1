-- Names with their descriptors.
use Rattle.std.specs.Prelude.{◌≡◌, ℕ, List, Bool, true, false, ◌&&◌, IsTrue, Option, position}
use Rattle.std.proofs.Common.{refl}
use Rattle.std.specs.Str.{bytes_eq}
use Rattle.std.specs.Cmp.Lexicographic.{bytes_decides}

-- a name and a descriptor
abbrev pub Key : Type 0
Key = List ℕ × List ℕ

-- whether they are these
abbrev pub is_named : (name desc : List ℕ) → Key → Bool
is_named name desc key = bytes_eq name key.0 && bytes_eq desc key.1

-- where they stand first
abbrev pub place_named : (name desc : List ℕ) → List Key → Option ℕ
place_named name desc keys = position (is_named name desc) keys

both : (a b : Bool) → IsTrue (a && b) → IsTrue a × IsTrue b
both true b is = (refl, is)
both false b is = absurd (let e = is in cc)

-- a name and a descriptor that are these are equal to them
pub same_key : (name desc : List ℕ) (key : Key) → IsTrue (is_named name desc key) → (name ≡ key.0) × (desc ≡ key.1)
same_key name desc key is =
    let parts = both (bytes_eq name key.0) (bytes_eq desc key.1) is in
    ((bytes_decides name key.0).0 parts.0, (bytes_decides desc key.1).0 parts.1)
