-- The next bytes of a list of bytes as a place of their own.
use Rattle.std.proofs.Common.{◌≡◌, ℕ, ◌+◌, ◌-◌, ◌≤◌, List, length, take, drop, ltb, false, Ok, refl, arith}
use Rattle.std.proofs.lemmas.Bool.{le-ltb}
use Rattle.std.proofs.lemmas.List.{drop-drop, drop-take, length-drop}
use Rattle.ms_pool.specs.Places.{part_at, place_in}

pub part_is : (bytes : List ℕ) (at n : ℕ) → n ≤ length bytes - at → part_at n (place_in bytes at) ≡ Ok (place_in (take (at + n) bytes) at, place_in bytes (at + n))
part_is bytes at n enough =
    let test : ltb (length (drop at bytes)) n ≡ false = le-ltb _ _ (omega (arith, enough, length-drop at bytes)) in
    rw (test, drop-take at n bytes, drop-drop n at bytes) refl
