-- Lines up to the first quit, where more lines follow.
use Rattle.std.proofs.Common.{◌≡◌, ℕ, List, [], ◌∷◌, ◌++◌, Bool, true, false, cond, ◌||◌, refl, ap, ◌∙◌, append-nil, length, ◌==◌}
use Rattle.std.proofs.lemmas.List.Folds.{list_any-append}
use Rattle.ms_memoise.specs.Events.{has_quit, is_quit, up_to_quit}
use Rattle.ms_memoise.specs.Turns.{last_lines}

up_at : (b q : Bool) (line : List ℕ) (whole front rest : List (List ℕ)) → whole ≡ front ++ cond q [] rest → line ∷ cond b [] whole ≡ (line ∷ cond b [] front) ++ cond (b || q) [] rest
up_at true q line whole front rest p = refl
up_at false q line whole front rest p = ap (λ l. line ∷ l) p

-- the lines up to the first quit of both, or of the first ones alone
pub up_append : (xs ys : List (List ℕ)) → up_to_quit (xs ++ ys) ≡ up_to_quit xs ++ cond (has_quit xs) [] (up_to_quit ys)
up_append [] ys = refl
up_append (x ∷ xs) ys = up_at (is_quit x) (has_quit xs) x _ _ _ (up_append xs ys)

none_at : (b q : Bool) (line : List ℕ) (up whole : List (List ℕ)) → (b || q) ≡ false → (q ≡ false → up ≡ whole) → line ∷ cond b [] up ≡ line ∷ whole
none_at true q line up whole none p = absurd (cc)
none_at false q line up whole none p = ap (λ l. line ∷ l) (p none)

-- where there is no quit, all lines
pub up_none : (xs : List (List ℕ)) → has_quit xs ≡ false → up_to_quit xs ≡ xs
up_none [] none = refl
up_none (x ∷ xs) none = none_at (is_quit x) (has_quit xs) x _ _ none (up_none xs)

pub up_first : (xs ys : List (List ℕ)) → has_quit xs ≡ true → up_to_quit (xs ++ ys) ≡ up_to_quit xs
up_first xs ys some = up_append xs ys ∙ ap (λ b. up_to_quit xs ++ cond b [] (up_to_quit ys)) some ∙ append-nil (up_to_quit xs)

pub up_both : (xs ys : List (List ℕ)) → has_quit xs ≡ false → up_to_quit (xs ++ ys) ≡ up_to_quit xs ++ up_to_quit ys
up_both xs ys none = up_append xs ys ∙ ap (λ b. up_to_quit xs ++ cond b [] (up_to_quit ys)) none

pub has_first : (xs ys : List (List ℕ)) → has_quit xs ≡ true → has_quit (xs ++ ys) ≡ true
has_first xs ys some = list_any-append is_quit xs ys ∙ ap (λ b. b || has_quit ys) some

pub has_rest : (xs ys : List (List ℕ)) → has_quit xs ≡ false → has_quit (xs ++ ys) ≡ has_quit ys
has_rest xs ys none = list_any-append is_quit xs ys ∙ ap (λ b. b || has_quit ys) none

abbrev up_after : Bool → List (List ℕ)
up_after b = cond b [] []

one_at : (b : Bool) → up_after b ≡ []
one_at true = refl
one_at false = refl

pub up_one : (line : List ℕ) → up_to_quit (line ∷ []) ≡ line ∷ []
up_one line = ap (λ l. line ∷ l) (one_at (is_quit line))

or_at : (b : Bool) → (b || false) ≡ b
or_at true = refl
or_at false = refl

pub has_one : (line : List ℕ) → has_quit (line ∷ []) ≡ is_quit line
has_one line = or_at (is_quit line)

last_at : (b : Bool) (line : List ℕ) → up_to_quit (cond b [] (line ∷ [])) ≡ cond b [] (line ∷ [])
last_at true line = refl
last_at false line = up_one line

pub up_last : (kept : List ℕ) → up_to_quit (last_lines kept) ≡ last_lines kept
up_last kept = last_at (length kept == 0) kept
