-- Numbers in commands.
use Rattle.std.specs.Prelude.{ℕ, List, [], ◌∷◌, length, Bool, ◌&&◌, ◌==◌, nat_lt, nat_le, if◌then◌else◌, Option, Some, None, ℤ, pos, neg_ℤ}
use Rattle.std.specs.Option.{option_map, option_and_then}
use Rattle.std.specs.Char.{is_ascii_digit}
use Rattle.std.specs.List.{list_all}
use Rattle.std.specs.Str.Parse.{digits_value}

-- one to ten decimal digits
abbrev pub is_numeral : List ℕ → Bool
is_numeral text = nat_lt 0 (length text) && nat_le (length text) 10 && list_all is_ascii_digit text

-- the number that one to ten digits stand for; leading zeros are allowed
abbrev pub numeral_value : List ℕ → Option ℕ
numeral_value text = if is_numeral text then Some (digits_value 10 text) else None

-- the whole number that a token stands for: a numeral, perhaps behind a minus sign
abbrev pub number_value : List ℕ → Option ℤ
number_value [] = None
number_value (first ∷ rest) =
    if first == 45 then option_map (λ n. neg_ℤ (pos n)) (numeral_value rest)
    else option_map pos (numeral_value (first ∷ rest))

-- the numbers that tokens stand for, where each stands for one
abbrev pub number_values : List (List ℕ) → Option (List ℤ)
number_values [] = Some []
number_values (token ∷ tokens) = option_and_then (λ number. option_map (λ numbers. number ∷ numbers) (number_values tokens)) (number_value token)
