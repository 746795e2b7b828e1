-- Strings of arms, their order, and sets of them.
use Rattle.std.specs.Prelude.{ℕ, List, [], ◌∷◌, map, Bool}
use Rattle.std.specs.List.{list_any, range_with_len}
use Rattle.std.specs.Str.{bytes_eq}
use Rattle.std.specs.BTreeSet.{insert_key}
use Rattle.std.specs.BTreeMap.{is_at}
use Rattle.ms_trie.specs.Choices.{choice_order}

-- whether two strings are one
abbrev pub same : List ℕ → List ℕ → Bool
same p q = bytes_eq p q

-- the numbers below n
abbrev pub below : ℕ → List ℕ
below n = range_with_len 0 n

-- the strings that begin it, but for itself, the empty one first
abbrev pub proper_prefixes : List ℕ → List (List ℕ)
proper_prefixes [] = []
proper_prefixes (arm ∷ arms) = [] ∷ map (λ q. arm ∷ q) (proper_prefixes arms)

-- a set of strings, in choice order: arm by arm, a prefix before what it begins
abbrev pub holds : List (List ℕ) → List ℕ → Bool
holds strings p = list_any (is_at (choice_order p)) strings

-- a set of strings with one more
abbrev pub with_string : List (List ℕ) → List ℕ → List (List ℕ)
with_string strings p = insert_key choice_order strings p
