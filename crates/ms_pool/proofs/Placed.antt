-- The first fault of a pool has a place: it is no want of memory.
use Rattle.byteorder.specs.Endian.{big_number}
use Rattle.std.proofs.Common.{◌≡◌, ℕ, ◌+◌, ◌-◌, List, [], ◌∷◌, length, Bool, true, false, cond, Option, Some, None, sym, subst, inl, inr}
use Rattle.std.specs.Prelude.{◌==◌, nat_lt}
use Rattle.std.specs.List.{flat_map}
use Rattle.ms_pool.specs.declared.pool.PoolFault.{PoolFault}
use Rattle.ms_pool.specs.declared.pool.PoolFault.TheVariants.{Short, Pool, Index, NoMemory}
use Rattle.ms_pool.specs.Places.{Place, behind}
use Rattle.ms_pool.specs.Pools.{IsFirstFault, fault_behind, fault_of_entry, fault_of_text, is_one_tag, is_two_tag, is_wide_tag, is_word_tag, short_in, spelled_entry, width}

-- the fault has a place
abbrev pub IsPlaced : PoolFault → Type 0
IsPlaced (Short at) = Unit {0}
IsPlaced (Pool at) = Unit {0}
IsPlaced (Index at) = Unit {0}
IsPlaced NoMemory = ⊥

-- so has it, if there is one
abbrev IsPlacedIfAny : Option PoolFault → Type 0
IsPlacedIfAny None = Unit {0}
IsPlacedIfAny (Some fault) = IsPlaced fault

of_two : (test : Bool) (first second : Option PoolFault) → IsPlacedIfAny first → IsPlacedIfAny second → IsPlacedIfAny (cond test first second)
of_two true first second p q = p
of_two false first second p q = q

parts_placed : (sizes : List ℕ) (place : Place) → IsPlacedIfAny (short_in sizes place)
parts_placed [] place = tt
parts_placed (size ∷ sizes) place = of_two (nat_lt (length place.left) size) (Some (Short place.at)) (short_in sizes (behind place size)) tt (parts_placed sizes (behind place size))

by_tag : (text word wide last one two handle : Bool) (at : ℕ) (a b c d e f : Option PoolFault) → IsPlacedIfAny a → IsPlacedIfAny b → IsPlacedIfAny c → IsPlacedIfAny d → IsPlacedIfAny e → IsPlacedIfAny f
    → IsPlacedIfAny (cond text a (cond word b (cond wide (cond last (Some (Pool at)) c) (cond one d (cond two e (cond handle f (Some (Pool at))))))))
by_tag true word wide last one two handle at a b c d e f p q r s t u = p
by_tag false true wide last one two handle at a b c d e f p q r s t u = q
by_tag false false true true one two handle at a b c d e f p q r s t u = tt
by_tag false false true false one two handle at a b c d e f p q r s t u = r
by_tag false false false last true two handle at a b c d e f p q r s t u = s
by_tag false false false last false true handle at a b c d e f p q r s t u = t
by_tag false false false last false false true at a b c d e f p q r s t u = u
by_tag false false false last false false false at a b c d e f p q r s t u = tt

behind_placed : (tag at left : ℕ) (place : Place) → IsPlacedIfAny (fault_behind tag at left place)
behind_placed tag at left place =
    by_tag (tag == 1) (is_word_tag tag) (is_wide_tag tag) (left == 1) (is_one_tag tag) (is_two_tag tag) (tag == 15) at (fault_of_text place) (short_in (4 ∷ []) place) (short_in (8 ∷ []) place) (short_in (2 ∷ []) place)
    (short_in (2 ∷ 2 ∷ []) place) (short_in (1 ∷ 2 ∷ []) place) (parts_placed (2 ∷ big_number 2 place.left ∷ []) place) (parts_placed (4 ∷ []) place) (parts_placed (8 ∷ []) place) (parts_placed (2 ∷ []) place)
    (parts_placed (2 ∷ 2 ∷ []) place) (parts_placed (1 ∷ 2 ∷ []) place)

entry_placed : (left : ℕ) (place : Place) → IsPlacedIfAny (fault_of_entry left place)
entry_placed left place =
    of_two (nat_lt (length place.left) 1) (Some (Short place.at)) (fault_behind (big_number 1 place.left) place.at left (behind place 1)) tt (behind_placed (big_number 1 place.left) place.at left (behind place 1))

is_placed : (fault named : PoolFault) → fault ≡ named → IsPlaced named → IsPlaced fault
is_placed fault named is p = subst IsPlaced (sym is) p

pub fault_placed : (place : Place) (fault : PoolFault) → IsFirstFault place fault → IsPlaced fault
fault_placed place fault (inl short) = is_placed fault (Short place.at) short.1 tt
fault_placed place fault (inr (inl none)) = is_placed fault (Pool place.at) none.2 tt
fault_placed place fault (inr (inr (inl entry))) =
    subst IsPlacedIfAny entry.fault_is (entry_placed (entry.count - 1 - width entry.before) (record { at = place.at + 2 + length (flat_map spelled_entry entry.before); left = entry.rest }))
fault_placed place fault (inr (inr (inr link))) = is_placed fault (Index link.placed.at) link.fault_is tt
