-- The fault of an entry that is read is that of the definition.
use Rattle.std.proofs.Common.{◌≡◌, ℕ, Bool, true, false, cond, ltb, List, [], ◌∷◌, length, take, Option, Some, None, Result, Ok, Err, refl}
use Rattle.std.specs.Prelude.{◌==◌}
use Rattle.byteorder.specs.Endian.{big_number}
use Rattle.ms_pool.specs.declared.pool.PoolFault.{PoolFault}
use Rattle.ms_pool.specs.declared.pool.PoolFault.TheVariants.{Short, Pool}
use Rattle.ms_pool.specs.Places.{Place, behind, number_at, run_at}
use Rattle.ms_pool.specs.Pools.{fault_behind, fault_of_entry, fault_of_text, is_word_tag, is_wide_tag, is_one_tag, is_two_tag, short_in}
use Rattle.ms_pool.specs.PoolReading.{◌>>=◌, of_short, text_at, word_at, wide_at, one_at, two_at, handle_at, behind_tag, entry_at}

abbrev pub fault_in : {X : Type 0} → Result X PoolFault → Option PoolFault
fault_in (Ok x) = None
fault_in (Err fault) = Some fault

-- one part, and what is read behind it
pub part : {X Y : Type 0} (short : Bool) (at : ℕ) (x : X) (next : X → Result Y PoolFault) (fault : Option PoolFault) → fault_in (next x) ≡ fault
    → fault_in (of_short (cond short (Err (record { at = at })) (Ok x)) >>= next) ≡ cond short (Some (Short at)) fault
part true at x next fault is = refl
part false at x next fault is = is

number_part : {Y : Type 0} (n : ℕ) (parts : List ℕ) (place : Place) (next : ℕ × Place → Result Y PoolFault) → fault_in (next (big_number n place.left, behind place n)) ≡ short_in parts (behind place n)
    → fault_in (of_short (number_at n place) >>= next) ≡ short_in (n ∷ parts) place
number_part n parts place next is = part (ltb (length place.left) n) place.at (big_number n place.left, behind place n) next (short_in parts (behind place n)) is

run_part : {Y : Type 0} (n : ℕ) (parts : List ℕ) (place : Place) (next : List ℕ × Place → Result Y PoolFault) → fault_in (next (take n place.left, behind place n)) ≡ short_in parts (behind place n)
    → fault_in (of_short (run_at n place) >>= next) ≡ short_in (n ∷ parts) place
run_part n parts place next is = part (ltb (length place.left) n) place.at (take n place.left, behind place n) next (short_in parts (behind place n)) is

text_fault : (place : Place) → fault_in (text_at place) ≡ fault_of_text place
unfolding text_at
text_fault place = number_part 2 (big_number 2 place.left ∷ []) place _ (run_part (big_number 2 place.left) [] (behind place 2) _ refl)

word_fault : (tag : ℕ) (place : Place) → fault_in (word_at tag place) ≡ short_in (4 ∷ []) place
unfolding word_at
word_fault tag place = number_part 4 [] place _ refl

wide_fault : (tag : ℕ) (place : Place) → fault_in (wide_at tag place) ≡ short_in (8 ∷ []) place
unfolding wide_at
wide_fault tag place = run_part 8 [] place _ refl

one_fault : (tag : ℕ) (place : Place) → fault_in (one_at tag place) ≡ short_in (2 ∷ []) place
unfolding one_at
one_fault tag place = number_part 2 [] place _ refl

two_fault : (tag : ℕ) (place : Place) → fault_in (two_at tag place) ≡ short_in (2 ∷ 2 ∷ []) place
unfolding two_at
two_fault tag place = number_part 2 (2 ∷ []) place _ (number_part 2 [] (behind place 2) _ refl)

handle_fault : (place : Place) → fault_in (handle_at place) ≡ short_in (1 ∷ 2 ∷ []) place
unfolding handle_at
handle_fault place = number_part 1 (2 ∷ []) place _ (number_part 2 [] (behind place 1) _ refl)

-- where both ways of a test have the fault of the definition, so has the test
both : {X : Type 0} (test : Bool) (x y : Result X PoolFault) (f g : Option PoolFault) → fault_in x ≡ f → fault_in y ≡ g → fault_in (cond test x y) ≡ cond test f g
both true x y f g p q = p
both false x y f g p q = q

behind_fault : (tag at left : ℕ) (place : Place) → fault_in (behind_tag tag at left place) ≡ fault_behind tag at left place
unfolding behind_tag
behind_fault tag at left place =
    both (tag == 1) _ _ _ _ (text_fault place)
    (both (is_word_tag tag) _ _ _ _ (word_fault tag place)
    (both (is_wide_tag tag) _ _ _ _ (both (left == 1) (Err (Pool at)) _ _ _ refl (wide_fault tag place))
    (both (is_one_tag tag) _ _ _ _ (one_fault tag place)
    (both (is_two_tag tag) _ _ _ _ (two_fault tag place)
    (both (tag == 15) _ _ _ _ (handle_fault place) refl)))))

pub entry_fault : (left : ℕ) (place : Place) → fault_in (entry_at left place) ≡ fault_of_entry left place
unfolding entry_at
entry_fault left place =
    part (ltb (length place.left) 1) place.at (big_number 1 place.left, behind place 1) (λ tag. behind_tag tag.0 place.at left tag.1) _ (behind_fault (big_number 1 place.left) place.at left (behind place 1))
