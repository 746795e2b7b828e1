-- What a copy to the front of a buffer leaves.
use Rattle.std.proofs.Common.{◌≡◌, ℕ, ◌≤◌, List, ◌++◌, length, take, drop, sym}
use Rattle.std.proofs.lemmas.List.{take-append-drop, length-take-le}
use Rattle.std.proofs.Math.Seq.{take-append_seam}

-- the first n bytes of a buffer that begins with the first n bytes of a list are those
pub take_copied : (n : ℕ) (left rest : List ℕ) → n ≤ length left → take n (take n left ++ rest) ≡ take n left
take_copied n left rest fits =
    let long : length (take n left) ≡ n = length-take-le n left fits in
    let seam : take (length (take n left)) (take n left ++ rest) ≡ take n left = take-append_seam (take n left) rest in
    rw long at seam

-- those bytes and what comes after them are the list
pub split_copied : (n : ℕ) (left rest : List ℕ) → n ≤ length left → left ≡ take n (take n left ++ rest) ++ drop n left
split_copied n left rest fits = rw (take_copied n left rest fits) (sym (take-append-drop n left))
