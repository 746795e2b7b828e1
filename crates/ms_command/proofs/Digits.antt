-- Digits read one after another.
use Rattle.std.proofs.Common.{◌≡◌, ℕ, ◌+◌, ◌-◌, ◌*◌, ◌^◌, ◌<◌, List, length, take, get_or, true, ◌∙◌, arith}
use Rattle.std.specs.Char.{is_ascii_digit, digit_value}
use Rattle.std.specs.Str.Parse.{digits_value}
use Rattle.std.specs.List.{list_all}
use Rattle.std.proofs.lemmas.Int.Digits.{digits_value_more}
use Rattle.std.proofs.lemmas.List.Folds.{list_all_more}
use Rattle.std.proofs.lemmas.Grind.{pow_more}
use Rattle.std.proofs.lemmas.Str.{digit_value_digit}
use Rattle.std.proofs.lemmas.Str.Parse.{digit_from_value}

-- what a byte adds to the bytes before it, where all are digits
pub record Grows (text : List ℕ) (i so_far digit : ℕ) : Type 0 where
  pub read : list_all is_ascii_digit (take (i + 1) text) ≡ true
  pub value : so_far * 10 + digit ≡ digits_value 10 (take (i + 1) text)
  pub small : so_far * 10 + digit < 10 ^ (i + 1)

pub grows : (text : List ℕ) (i value digit : ℕ) → i < length text → list_all is_ascii_digit (take i text) ≡ true → is_ascii_digit (get_or text i 0) ≡ true
    → digit_value (get_or text i 0) < 10 → digit ≡ get_or text i 0 - 48 → value ≡ digits_value 10 (take i text) → value < 10 ^ i → Grows text i value digit
grows text i value digit within read is_digit bound digit_is value_is small =
    let at_digit : digit_value (get_or text i 0) + 48 ≡ get_or text i 0 = digit_value_digit _ (digit_from_value _ bound) in
    let same : digit_value (get_or text i 0) ≡ digit = omega arith in
    record {
      read = list_all_more is_ascii_digit text i 0 within ∙ rw (read, is_digit);
      value = rw (digits_value_more 10 text i within, same, ← value_is);
      small = let power : 10 ^ (i + 1) ≡ 10 ^ i * 10 = pow_more 10 i in omega arith;
    }
