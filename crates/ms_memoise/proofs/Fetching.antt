-- What the shelf was asked for since the lines that were done.
use Rattle.std.proofs.Common.{◌≡◌, ℕ, zero, suc, ◌+◌, List, [], ◌∷◌, ◌++◌, length, Option, Some, None, slice_get, refl, sym, ap, ◌∙◌, subst, arith, append-nil, suc-add}
use Rattle.std.specs.Prelude.{zip}
use Rattle.ms_outside.specs.Shelves.{Asking}
use Rattle.ms_session.specs.Outside.{FetchesSome, ShelfSide}
use Rattle.ms_memoise.specs.Conversations.{FetchesNext, names_of_next}

-- what is at a place of a list is there whatever follows
pub get_before : (xs ys : List (List ℕ)) (n : ℕ) (line : List ℕ) → slice_get xs n ≡ Some line → slice_get (xs ++ ys) n ≡ Some line
get_before [] ys n line is = cc
get_before (x ∷ xs) ys zero line is = is
get_before (x ∷ xs) ys (suc n) line is = get_before xs ys n line is

pub get_behind : (xs ys : List (List ℕ)) (n : ℕ) → slice_get (xs ++ ys) (length xs + n) ≡ slice_get ys n
get_behind [] ys n = ap (slice_get ys) (omega arith)
get_behind (x ∷ xs) ys n = rw suc-add (get_behind xs ys n)

no_answers : (names : List (List ℕ)) → ◌≡◌ {A = List Asking} (zip names []) []
no_answers [] = refl
no_answers (name ∷ names) = refl

-- it was asked for nothing
pub fetches_none : (a b : ShelfSide) (names : List (List ℕ)) → b.asked ≡ a.asked → FetchesSome a b names
fetches_none a b names is = record { answers = []; asked = is ∙ sym (append-nil a.asked) ∙ ap (λ l. a.asked ++ l) (sym (no_answers names)) }

-- whatever lines follow
pub fetches_before : (a b : ShelfSide) (xs ys : List (List ℕ)) (n : ℕ) → FetchesNext a b xs n → FetchesNext a b (xs ++ ys) n
fetches_before a b xs ys n p = by_line (slice_get xs n) refl p
  where
    by_line : (line : Option (List ℕ)) → slice_get xs n ≡ line → FetchesSome a b (names_of_next line) → FetchesNext a b (xs ++ ys) n
    by_line None is p = fetches_none a b (names_of_next (slice_get (xs ++ ys) n)) (p.asked ∙ append-nil a.asked)
    by_line (Some line) is p = subst (λ l. FetchesSome a b (names_of_next l)) (sym (get_before xs ys n line is)) p

-- behind other lines
pub fetches_behind : (a b : ShelfSide) (xs ys : List (List ℕ)) (n m : ℕ) → m ≡ length xs + n → FetchesNext a b ys n → FetchesNext a b (xs ++ ys) m
fetches_behind a b xs ys n m is p = subst (λ l. FetchesSome a b (names_of_next l)) (sym (ap (slice_get (xs ++ ys)) is ∙ get_behind xs ys n)) p
