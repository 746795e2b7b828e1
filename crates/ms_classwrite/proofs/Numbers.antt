-- The number of a line among lines, as they grow.
use Rattle.std.proofs.Common.{◌≡◌, ℕ, ◌+◌, ◌≤◌, ◌<◌, Bool, true, false, cond, not, List, [], ◌∷◌, ◌++◌, length, take, get_or, refl, sym, ap, ◌∙◌, arith, length-append}
use Rattle.std.specs.Prelude.{◌||◌}
use Rattle.std.proofs.lemmas.Bool.{false_from_ne_true}
use Rattle.std.specs.List.{list_any, position_or_len}
use Rattle.std.proofs.lemmas.List.{get_or-take, get_or_default, length-take, take_more}
use Rattle.std.proofs.lemmas.List.Folds.{list_any_none}
use Rattle.ms_classwrite.specs.declared.plan.PoolLine.{PoolLine}
use Rattle.ms_classwrite.specs.Layout.{with_line}
use Rattle.ms_classwrite.specs.Plans.{AreDifferent, number_in, same_line}
use Rattle.ms_classwrite.proofs.Equal.{same_is, same_self}

module _ {X : Type 0} (p : X → Bool) where
  -- where one passes, the first that does has a place
  pub place_there : (xs : List X) → list_any p xs ≡ true → position_or_len p xs < length xs
  place_there [] is = absurd cc
  place_there (x ∷ xs) is = by_test (p x) is (λ rest. place_there xs rest)
    where
      by_test : (b : Bool) → (b || list_any p xs) ≡ true → (list_any p xs ≡ true → position_or_len p xs < length xs) → cond (not b) (1 + position_or_len p xs) 0 < length (x ∷ xs)
      by_test true is more = omega arith
      by_test false is more = omega (arith, more is)

  -- and keeps it
  pub place_kept : (xs ys : List X) → list_any p xs ≡ true → position_or_len p (xs ++ ys) ≡ position_or_len p xs
  place_kept [] ys is = absurd cc
  place_kept (x ∷ xs) ys is = by_test (p x) is (λ rest. place_kept xs ys rest)
    where
      by_test : (b : Bool) → (b || list_any p xs) ≡ true → (list_any p xs ≡ true → position_or_len p (xs ++ ys) ≡ position_or_len p xs) → cond (not b) (1 + position_or_len p (xs ++ ys)) 0 ≡ cond (not b) (1 + position_or_len p xs) 0
      by_test true is more = refl
      by_test false is more = ap (λ (n : ℕ). 1 + n) (more is)

  -- where none does, one that is put at the end is the first
  pub place_new : (xs : List X) (x : X) → list_any p xs ≡ false → p x ≡ true → (position_or_len p (xs ++ x ∷ []) ≡ length xs) × (position_or_len p xs ≡ length xs)
  place_new [] x none is = (rw is refl, refl)
  place_new (y ∷ xs) x none is = by_test (p y) none (λ rest. place_new xs x rest is)
    where
      by_test : (b : Bool) → (b || list_any p xs) ≡ false → (list_any p xs ≡ false → (position_or_len p (xs ++ x ∷ []) ≡ length xs) × (position_or_len p xs ≡ length xs))
          → (cond (not b) (1 + position_or_len p (xs ++ x ∷ [])) 0 ≡ length (y ∷ xs)) × (cond (not b) (1 + position_or_len p xs) 0 ≡ length (y ∷ xs))
      by_test true none more = absurd cc
      by_test false none more = (omega (arith, (more none).0), omega (arith, (more none).1))

-- a line that is added has the number that it had, or would get, and that is one of the pool's numbers
pub record IsNumbered (lines : List PoolLine) (line : PoolLine) : Type 0 where
  pub kept : number_in (with_line lines line) line ≡ number_in lines line
  pub within : number_in lines line ≤ length (with_line lines line)
  pub there : list_any (same_line line) (with_line lines line) ≡ true

pub numbered : (lines : List PoolLine) (line : PoolLine) → IsNumbered lines line
numbered lines line = by_test (list_any (same_line line) lines) refl
  where
    any_last : (xs : List PoolLine) → list_any (same_line line) (xs ++ line ∷ []) ≡ true
    any_last [] = rw (same_self line) refl
    any_last (x ∷ xs) = by_one (same_line line x) (any_last xs)
      where
        by_one : (b : Bool) → list_any (same_line line) (xs ++ line ∷ []) ≡ true → (b || list_any (same_line line) (xs ++ line ∷ [])) ≡ true
        by_one true rest = refl
        by_one false rest = rest

    by_test : (b : Bool) → list_any (same_line line) lines ≡ b → IsNumbered lines line
    by_test true is =
        let same : with_line lines line ≡ lines = rw is refl in
        record {
          kept = ap (λ (l : List PoolLine). number_in l line) same;
          within = omega (arith, place_there (same_line line) lines is, ap length same);
          there = ap (list_any (same_line line)) same ∙ is;
        }
    by_test false is =
        let added : with_line lines line ≡ lines ++ line ∷ [] = rw is refl in
        let new = place_new (same_line line) lines line is (same_self line) in
        record {
          kept = ap (λ (l : List PoolLine). number_in l line) added ∙ omega (arith, new.0, new.1);
          within = omega (arith, new.1, ap length added, length-append lines (line ∷ []));
          there = ap (list_any (same_line line)) added ∙ any_last lines;
        }

-- THE PLAN'S OWN LINES

-- each of different lines is new behind those before it
pub goes_on : (own lines : List PoolLine) (i : ℕ) (d : PoolLine) → AreDifferent own → i < length own → lines ≡ take i own → with_line lines (get_or own i d) ≡ take (i + 1) own
goes_on own lines i d different below is =
    let line = get_or own i d in
    let none : list_any (same_line line) (take i own) ≡ false = list_any_none (same_line line) (take i own) (λ k e before. other line (take i own) k e (length_below k before) before) in
    let one : with_line (take i own) line ≡ take i own ++ line ∷ [] = rw none refl in
    ap (λ (l : List PoolLine). with_line l line) is ∙ one ∙ sym (take_more own i d below)
  where
    length_below : (k : ℕ) → k < length (take i own) → k < i
    length_below k before = omega (arith, before, length-take i own)

    other : (line : PoolLine) (front : List PoolLine) (k : ℕ) (e : PoolLine) → k < i → k < length (take i own) → same_line (get_or own i d) (get_or (take i own) k e) ≡ false
    other line front k e before here = false_from_ne_true _ (λ same.
        different k i d before below
        (get_or_default own k d e (omega arith) ∙ sym (get_or-take i own k e before) ∙ sym (same_is (get_or own i d) (get_or (take i own) k e) same)))
