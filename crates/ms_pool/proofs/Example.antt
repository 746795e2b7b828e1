-- The definitions of a pool computed on small ones.
use Rattle.std.proofs.Common.{◌≡◌, ℕ, List, [], ◌∷◌, ◌++◌, Some, None, refl, arith}
use Rattle.ms_pool.specs.declared.pool.PoolFault.TheVariants.{Short, Pool}
use Rattle.ms_pool.specs.Places.{beginning}
use Rattle.ms_pool.specs.Pools.{Entry, Utf8, Wide, One, IsPool, fault_of_entry, numbered, placed_at, spelled_pool, unlinked}

-- a text, a class of that name, a Long, which takes two numbers, and a string of that text
abbrev small : List Entry
small = Utf8 (84 ∷ []) ∷ One 7 1 ∷ Wide 5 (0 ∷ 0 ∷ 0 ∷ 0 ∷ 0 ∷ 0 ∷ 0 ∷ 9 ∷ []) ∷ One 8 1 ∷ []

abbrev small_bytes : List ℕ
small_bytes = 0 ∷ 6 ∷ 1 ∷ 0 ∷ 1 ∷ 84 ∷ 7 ∷ 0 ∷ 1 ∷ 5 ∷ 0 ∷ 0 ∷ 0 ∷ 0 ∷ 0 ∷ 0 ∷ 0 ∷ 9 ∷ 8 ∷ 0 ∷ 1 ∷ []

is_spelled : spelled_pool small ≡ small_bytes
is_spelled = refl

is_pool : IsPool (beginning (small_bytes ++ 99 ∷ [])) small (record { at = 21; left = 99 ∷ [] })
is_pool = record {
  count = omega arith;
  spelled = record { fit = (omega arith, ((refl, omega arith), ((refl, refl), ((refl, omega arith), tt)))); bytes = refl };
  moved = refl;
  linked = refl;
}

-- the entry of number 5 has its tag at 18, and no entry has the number 4
fifth : placed_at (numbered 0 small) 5 ≡ Some (record { at = 18; entry = One 8 1 })
fifth = refl

fourth : placed_at (numbered 0 small) 4 ≡ None
fourth = refl

-- a class that names itself
selfish : unlinked (numbered 0 (One 7 1 ∷ [])) ≡ Some (record { at = 2; entry = One 7 1 })
selfish = refl

-- faults of single entries, at 2 in the file
unknown : fault_of_entry 1 (record { at = 2; left = 2 ∷ 0 ∷ 0 ∷ [] }) ≡ Some (Pool 2)
unknown = refl

last_long : fault_of_entry 1 (record { at = 2; left = 5 ∷ [] }) ≡ Some (Pool 2)
last_long = refl

short_long : fault_of_entry 2 (record { at = 2; left = 5 ∷ 0 ∷ [] }) ≡ Some (Short 3)
short_long = refl

short_text : fault_of_entry 1 (record { at = 2; left = 1 ∷ 0 ∷ 2 ∷ 65 ∷ [] }) ≡ Some (Short 5)
short_text = refl

short_second : fault_of_entry 1 (record { at = 2; left = 10 ∷ 0 ∷ 1 ∷ 0 ∷ [] }) ≡ Some (Short 5)
short_second = refl
