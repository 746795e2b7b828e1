-- The handlers that cover an offset, counted one after another.
use Rattle.std.proofs.Common.{◌≡◌, ◌≢◌, ℕ, zero, suc, ◌+◌, ◌-◌, ◌<◌, ◌≤◌, List, ◌∷◌, length, drop, drop_of_length-le, filter, get_or, slice_get, true, false, Some, None, refl, ap, ◌∙◌, arith}
use Rattle.std.proofs.lemmas.List.{drop_more}
use Rattle.ms_code.specs.declared.decoded.Handler.{Handler}
use Rattle.ms_program.specs.Views.{covers}

-- the one that is looked for is this one among those that are left
abbrev pub IsLeft : ℕ → List Handler → ℕ → ℕ → ℕ → Type 0
IsLeft offset handlers i at left = slice_get (filter (covers offset) handlers) i ≡ slice_get (filter (covers offset) (drop at handlers)) left

module _ (offset : ℕ) (handlers : List Handler) (i at left : ℕ) (handler : Handler) (within : at < length handlers) (is : IsLeft offset handlers i at left) where
  next_is : slice_get (filter (covers offset) handlers) i ≡ slice_get (filter (covers offset) (get_or handlers at handler ∷ drop (at + 1) handlers)) left
  next_is = is ∙ ap (λ (l : List Handler). slice_get (filter (covers offset) l) left) (drop_more handlers at handler within)

  -- it is the next one
  pub found : covers offset (get_or handlers at handler) ≡ true → left ≡ 0 → slice_get (filter (covers offset) handlers) i ≡ Some (get_or handlers at handler)
  found covered none = next_is ∙ (rw (covered, none) refl)

  -- the next one covers the offset, and it is another
  pub passed : covers offset (get_or handlers at handler) ≡ true → left ≢ 0 → IsLeft offset handlers i (at + 1) (left - 1)
  passed covered some = next_is ∙ (rw covered (one_less (get_or handlers at handler) (filter (covers offset) (drop (at + 1) handlers)) left some))
    where
      one_less : (first : Handler) (rest : List Handler) (n : ℕ) → n ≢ 0 → slice_get (first ∷ rest) n ≡ slice_get rest (n - 1)
      one_less first rest zero some = absurd (some refl)
      one_less first rest (suc n) some = ap (λ (k : ℕ). slice_get rest k) (omega arith)

  -- the next one doesn't
  pub skipped : covers offset (get_or handlers at handler) ≡ false → IsLeft offset handlers i (at + 1) left
  skipped uncovered = next_is ∙ (rw uncovered refl)

-- none is left
pub none_left : (offset : ℕ) (handlers : List Handler) (i at left : ℕ) → length handlers ≤ at → IsLeft offset handlers i at left → slice_get (filter (covers offset) handlers) i ≡ None
none_left offset handlers i at left past is = is ∙ ap (λ (l : List Handler). slice_get (filter (covers offset) l) left) (drop_of_length-le handlers past)
