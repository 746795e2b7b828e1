-- A loop that passes what handlers get, of which some cover an offset.
use Rattle.std.proofs.Common.{◌≡◌, ℕ, zero, suc, ◌+◌, ◌<◌, Bool, true, false, cond, List, [], ◌∷◌, ◌++◌, length, map, take, drop, get_or, refl, sym, ap, ◌∙◌, subst, arith, add-one}
use Rattle.std.specs.List.{filter}
use Rattle.ms_code.specs.declared.decoded.Handler.{Handler}
use Rattle.ms_program.specs.Views.{covers}
use Rattle.ms_typing.specs.declared.kind.VerifyKind.TheVariants.{Merge}
use Rattle.ms_typing.specs.Kinds.{Shape}
use Rattle.ms_typing.specs.Verifier.{Cell, Fails, Leaves, pass_all, to_handler}
use Rattle.ms_verify.specs.Told.{handler_told, handlers_at}
use Rattle.ms_verify.proofs.Receiving.{passed_more, refused_more}

-- what those of these handlers get that cover an offset with this shape
abbrev pub to_handlers : Shape → ℕ → List Handler → List (ℕ × Shape)
to_handlers shape at handlers = map (to_handler shape) (handlers_at handlers at)

-- one that covers the offset gets something, and another one nothing
one_covers : (handler : Handler) (at : ℕ) (shape : Shape) → covers at handler ≡ true → to_handlers shape at (handler ∷ []) ≡ to_handler shape (handler_told handler) ∷ []
one_covers handler at shape e = rw e refl

one_skips : (handler : Handler) (at : ℕ) (shape : Shape) → covers at handler ≡ false → to_handlers shape at (handler ∷ []) ≡ []
one_skips handler at shape e = rw e refl

-- the handlers to one, and it
handlers_next : (handlers : List Handler) (n at : ℕ) (shape : Shape) (d : Handler) → n < length handlers
    → to_handlers shape at (take (suc n) handlers) ≡ to_handlers shape at (take n handlers) ++ to_handlers shape at (get_or handlers n d ∷ [])
handlers_next [] n at shape d l = absurd (omega arith)
handlers_next (handler ∷ handlers) zero at shape d l = refl
handlers_next (handler ∷ handlers) (suc n) at shape d l = go (covers at handler) (handlers_next handlers n at shape d (omega arith))
  where
    go : (b : Bool) → to_handlers shape at (take (suc n) handlers) ≡ to_handlers shape at (take n handlers) ++ to_handlers shape at (get_or handlers n d ∷ [])
        → map (to_handler shape) (map handler_told (cond b (handler ∷ filter (covers at) (take (suc n) handlers)) (filter (covers at) (take (suc n) handlers))))
        ≡ map (to_handler shape) (map handler_told (cond b (handler ∷ filter (covers at) (take n handlers)) (filter (covers at) (take n handlers)))) ++ to_handlers shape at (get_or handlers n d ∷ [])
    go true ih = ap (λ x. to_handler shape (handler_told handler) ∷ x) ih
    go false ih = ih

-- all of them, split at one
handlers_split : (handlers : List Handler) (n at : ℕ) (shape : Shape) (d : Handler) → n < length handlers
    → to_handlers shape at handlers ≡ (to_handlers shape at (take n handlers) ++ to_handlers shape at (get_or handlers n d ∷ [])) ++ to_handlers shape at (drop (suc n) handlers)
handlers_split [] n at shape d l = absurd (omega arith)
handlers_split (handler ∷ handlers) zero at shape d l = go (covers at handler)
  where
    go : (b : Bool) → map (to_handler shape) (map handler_told (cond b (handler ∷ filter (covers at) handlers) (filter (covers at) handlers)))
        ≡ map (to_handler shape) (map handler_told (cond b (handler ∷ []) [])) ++ to_handlers shape at handlers
    go true = refl
    go false = refl
handlers_split (handler ∷ handlers) (suc n) at shape d l = go (covers at handler) (handlers_split handlers n at shape d (omega arith))
  where
    go : (b : Bool) → to_handlers shape at handlers ≡ (to_handlers shape at (take n handlers) ++ to_handlers shape at (get_or handlers n d ∷ [])) ++ to_handlers shape at (drop (suc n) handlers)
        → map (to_handler shape) (map handler_told (cond b (handler ∷ filter (covers at) handlers) (filter (covers at) handlers)))
        ≡ (map (to_handler shape) (map handler_told (cond b (handler ∷ filter (covers at) (take n handlers)) (filter (covers at) (take n handlers)))) ++ to_handlers shape at (get_or handlers n d ∷ [])) ++ to_handlers shape at (drop (suc n) handlers)
    go true ih = ap (λ x. to_handler shape (handler_told handler) ∷ x) ih
    go false ih = ih

-- the next one covers the offset, and is passed something
pub handler_passed : (handlers : List Handler) (n at : ℕ) (shape : Shape) (cells now next : List Cell) (handler d : Handler) (caught : Shape) → n < length handlers → handler ≡ get_or handlers n d
    → covers at handler ≡ true → caught ≡ (to_handler shape (handler_told handler)).1
    → pass_all cells (to_handlers shape at (take n handlers)) ≡ Leaves now → pass_all now ((handler.target, caught) ∷ []) ≡ Leaves next → pass_all cells (to_handlers shape at (take (n + 1) handlers)) ≡ Leaves next
handler_passed handlers n at shape cells now next handler d caught l e h k f g = ap (λ x. pass_all cells (to_handlers shape at (take x handlers))) (add-one n)
    ∙ (ap (pass_all cells) (handlers_next handlers n at shape d l) ∙ (passed_more _ _ cells now f ∙ (ap (λ x. pass_all now (to_handlers shape at (x ∷ []))) (sym e) ∙ (ap (pass_all now) (one_covers handler at shape h) ∙ subst (λ x. pass_all now ((handler.target, x) ∷ []) ≡ Leaves next) k g))))

-- or refuses it
pub handler_refused : (handlers : List Handler) (n at : ℕ) (shape : Shape) (cells now : List Cell) (handler d : Handler) (caught : Shape) → n < length handlers → handler ≡ get_or handlers n d
    → covers at handler ≡ true → caught ≡ (to_handler shape (handler_told handler)).1
    → pass_all cells (to_handlers shape at (take n handlers)) ≡ Leaves now → pass_all now ((handler.target, caught) ∷ []) ≡ Fails handler.target Merge → pass_all cells (to_handlers shape at handlers) ≡ Fails handler.target Merge
handler_refused handlers n at shape cells now handler d caught l e h k f g = ap (pass_all cells) (handlers_split handlers n at shape d l)
    ∙ refused_more _ _ cells handler.target (passed_more _ _ cells now f ∙ (ap (λ x. pass_all now (to_handlers shape at (x ∷ []))) (sym e) ∙ (ap (pass_all now) (one_covers handler at shape h) ∙ subst (λ x. pass_all now ((handler.target, x) ∷ []) ≡ Fails handler.target Merge) k g)))

-- or doesn't cover it
pub handler_skipped : (handlers : List Handler) (n at : ℕ) (shape : Shape) (cells now : List Cell) (handler d : Handler) → n < length handlers → handler ≡ get_or handlers n d → covers at handler ≡ false
    → pass_all cells (to_handlers shape at (take n handlers)) ≡ Leaves now → pass_all cells (to_handlers shape at (take (n + 1) handlers)) ≡ Leaves now
handler_skipped handlers n at shape cells now handler d l e h f = ap (λ x. pass_all cells (to_handlers shape at (take x handlers))) (add-one n)
    ∙ (ap (pass_all cells) (handlers_next handlers n at shape d l) ∙ (passed_more _ _ cells now f ∙ (ap (λ x. pass_all now (to_handlers shape at (x ∷ []))) (sym e) ∙ ap (pass_all now) (one_skips handler at shape h))))
