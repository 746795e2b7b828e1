-- The top of a stack that is kept the other way round.
use Rattle.std.proofs.Common.{◌≡◌, ℕ, ◌+◌, ◌≤◌, min, List, ◌++◌, length, reverse, take, drop, sym, ap, ◌∙◌, arith}
use Rattle.std.proofs.lemmas.List.{drop_at, drop_min, length-drop, length-reverse, reverse-append, reverse-reverse, take-append-drop, take_at, take_min}

module _ {A : Type 0} (slots : List A) (taken first : ℕ) (few : taken ≤ length slots) (is : first + taken ≡ length slots) where
  split : reverse slots ≡ reverse (drop first slots) ++ reverse (take first slots)
  split = ap reverse (sym (take-append-drop first slots)) ∙ reverse-append (take first slots) (drop first slots)

  as_many : length (reverse (drop first slots)) ≡ taken
  as_many = omega (arith, length-reverse (drop first slots), length-drop first slots, is)

  top_taken : reverse (take taken (reverse slots)) ≡ drop first slots
  top_taken =
      ap (λ (stack : List A). reverse (take taken stack)) split ∙ ap reverse (take_at (reverse (drop first slots)) (reverse (take first slots)) taken as_many)
      ∙ reverse-reverse (drop first slots)

  rest_left : drop taken (reverse slots) ≡ reverse (take first slots)
  rest_left = ap (λ (stack : List A). drop taken stack) split ∙ drop_at (reverse (drop first slots)) (reverse (take first slots)) taken as_many

module _ {A : Type 0} (slots : List A) (count taken first : ℕ) (least : taken ≡ min count (length slots)) (is : first + taken ≡ length slots) where
  -- what is taken
  pub arguments : reverse (take count (reverse slots)) ≡ drop first slots
  arguments =
      ap reverse (sym (take_min count (reverse slots)) ∙ ap (λ (n : ℕ). take n (reverse slots)) (ap (λ (n : ℕ). min count n) (length-reverse slots) ∙ sym least))
      ∙ top_taken slots taken first (omega (arith, is)) is

  -- and what is left
  pub left : drop count (reverse slots) ≡ reverse (take first slots)
  left =
      sym (drop_min count (reverse slots)) ∙ ap (λ (n : ℕ). drop n (reverse slots)) (ap (λ (n : ℕ). min count n) (length-reverse slots) ∙ sym least)
      ∙ rest_left slots taken first (omega (arith, is)) is
