-- Lines that bytes end, one piece of bytes after another.
use Rattle.std.proofs.Common.{◌≡◌, ℕ, ◌+◌, ◌<◌, List, [], ◌∷◌, ◌++◌, length, take, drop, map, get_or, true, false, cond, refl, sym, ap, ◌∙◌, subst, take-append-drop, ◌==◌, Bool}
use Rattle.std.proofs.lemmas.List.{take_more, map-append}
use Rattle.std.specs.Str.Lines.{strip_carriage_return}
use Rattle.ms_session.specs.Outside.{ShelfSide, SinkSide}
use Rattle.ms_session.specs.States.{State}
use Rattle.ms_memoise.specs.declared.status.Status.{Status}
use Rattle.ms_memoise.specs.declared.flow.Flow.{Flow}
use Rattle.ms_memoise.specs.declared.flow.Flow.TheVariants.{GoesOn, Quits}
use Rattle.ms_memoise.specs.Events.{has_quit, up_to_quit}
use Rattle.ms_memoise.specs.Feeding.{Broke, Did, Fed, IsFlow, KeepsAt, Responded, ended_lines, fed_kept, fed_lines, kept_more}
use Rattle.ms_memoise.proofs.Handling.{broke_before, did_both, did_broke, did_nothing}
use Rattle.ms_memoise.proofs.UpTo.{has_first, has_one, has_rest, up_append, up_both, up_first, up_one}

lines_at : (b : Bool) (kept : List ℕ) (whole front whole' front' : List (List ℕ)) (rest : List ℕ → List (List ℕ)) (k k' : List ℕ) → whole ≡ front ++ rest k → whole' ≡ front' ++ rest k'
    → cond b (kept ∷ whole) whole' ≡ cond b (kept ∷ front) front' ++ rest (cond b k k')
lines_at true kept whole front whole' front' rest k k' p q = ap (λ l. kept ∷ l) p
lines_at false kept whole front whole' front' rest k k' p q = q

kept_at : (b : Bool) (whole whole' : List ℕ) (rest : List ℕ → List ℕ) (k k' : List ℕ) → whole ≡ rest k → whole' ≡ rest k' → cond b whole whole' ≡ rest (cond b k k')
kept_at true whole whole' rest k k' p q = p
kept_at false whole whole' rest k k' p q = q

pub fed_lines_append : (kept xs ys : List ℕ) → fed_lines kept (xs ++ ys) ≡ fed_lines kept xs ++ fed_lines (fed_kept kept xs) ys
fed_lines_append kept [] ys = refl
fed_lines_append kept (x ∷ xs) ys = lines_at (x == 10) kept _ _ _ _ (λ k. fed_lines k ys) _ _ (fed_lines_append [] xs ys) (fed_lines_append (kept_more kept x) xs ys)

pub fed_kept_append : (kept xs ys : List ℕ) → fed_kept kept (xs ++ ys) ≡ fed_kept (fed_kept kept xs) ys
fed_kept_append kept [] ys = refl
fed_kept_append kept (x ∷ xs) ys = kept_at (x == 10) _ _ (λ k. fed_kept k ys) _ _ (fed_kept_append [] xs ys) (fed_kept_append (kept_more kept x) xs ys)

pub ended_append : (kept xs ys : List ℕ) → ended_lines kept (xs ++ ys) ≡ ended_lines kept xs ++ ended_lines (fed_kept kept xs) ys
ended_append kept xs ys = ap (map strip_carriage_return) (fed_lines_append kept xs ys) ∙ map-append strip_carriage_return (fed_lines kept xs) (fed_lines (fed_kept kept xs) ys)

-- MORE BYTES

-- what was kept of the line that the later bytes go on
ended_on : (first xs kept ys : List ℕ) → kept ≡ fed_kept first xs → ended_lines first (xs ++ ys) ≡ ended_lines first xs ++ ended_lines kept ys
ended_on first xs kept ys is = ended_append first xs ys ∙ ap (λ k. ended_lines first xs ++ ended_lines k ys) (sym is)

kept_on : (first xs kept ys : List ℕ) → kept ≡ fed_kept first xs → fed_kept kept ys ≡ fed_kept first (xs ++ ys)
kept_on first xs kept ys is = ap (λ k. fed_kept k ys) is ∙ sym (fed_kept_append first xs ys)

up_on : (first xs kept ys : List ℕ) → kept ≡ fed_kept first xs → has_quit (ended_lines first xs) ≡ false
    → up_to_quit (ended_lines first xs) ++ up_to_quit (ended_lines kept ys) ≡ up_to_quit (ended_lines first (xs ++ ys))
up_on first xs kept ys is none = sym (up_both (ended_lines first xs) (ended_lines kept ys) none) ∙ ap up_to_quit (sym (ended_on first xs kept ys is))

keeps_at : (flow : Flow) (after k k' : List ℕ) → k ≡ k' → KeepsAt flow after k → KeepsAt flow after k'
keeps_at GoesOn after k k' same h = h ∙ same
keeps_at Quits after k k' same h = tt

pub fed_both : (flow : Flow) (first xs kept ys after : List ℕ) (x y z : State) (a b c : ShelfSide) (s t u : SinkSide) → Fed GoesOn first xs kept x y a b s t → Fed flow kept ys after y z b c t u
    → Fed flow first (xs ++ ys) after x z a c s u
fed_both flow first xs kept ys after x y z a b c s t u p q = record {
  did = subst (λ all. Did all x z a c s u) (up_on first xs kept ys p.keeps p.flows) (did_both _ _ x y z a b c s t u p.did q.did);
  flows = subst (IsFlow flow) (sym (ap has_quit (ended_on first xs kept ys p.keeps) ∙ has_rest (ended_lines first xs) (ended_lines kept ys) p.flows)) q.flows;
  keeps = keeps_at flow after _ _ (kept_on first xs kept ys p.keeps) q.keeps;
}

-- behind a quit nothing more is done
pub fed_quits : (first xs ys after after' : List ℕ) (x y : State) (a b : ShelfSide) (s t : SinkSide) → Fed Quits first xs after x y a b s t → Fed Quits first (xs ++ ys) after' x y a b s t
fed_quits first xs ys after after' x y a b s t p =
    let more = ended_lines (fed_kept first xs) ys in
    record {
      did = subst (λ all. Did all x y a b s t) (sym (ap up_to_quit (ended_append first xs ys) ∙ up_first (ended_lines first xs) more p.flows)) p.did;
      flows = ap has_quit (ended_append first xs ys) ∙ has_first (ended_lines first xs) more p.flows;
      keeps = tt;
    }

pub fed_broke : (status : Status) (first xs kept ys : List ℕ) (x y : State) (a b c : ShelfSide) (s t u : SinkSide) → Fed GoesOn first xs kept x y a b s t → Broke status (up_to_quit (ended_lines kept ys)) y b c t u
    → Broke status (up_to_quit (ended_lines first (xs ++ ys))) x a c s u
fed_broke status first xs kept ys x y a b c s t u p q =
    subst (λ all. Broke status all x a c s u) (up_on first xs kept ys p.keeps p.flows) (did_broke status _ _ x y a b c s t u p.did q)

-- whatever bytes follow
broke_more : (status : Status) (first xs ys : List ℕ) (x : State) (a b : ShelfSide) (s t : SinkSide) → Broke status (up_to_quit (ended_lines first xs)) x a b s t
    → Broke status (up_to_quit (ended_lines first (xs ++ ys))) x a b s t
broke_more status first xs ys x a b s t p =
    subst (λ all. Broke status all x a b s t) (sym (up_append (ended_lines first xs) (ended_lines (fed_kept first xs) ys)) ∙ ap up_to_quit (sym (ended_append first xs ys)))
    (broke_before status _ _ x a b s t p)

-- ONE MORE BYTE

pub fed_nothing : (kept : List ℕ) (x : State) (a : ShelfSide) (s : SinkSide) → Fed GoesOn kept [] kept x x a a s s
fed_nothing kept x a s = record { did = did_nothing x a s; flows = refl; keeps = refl }

-- a byte that ends no line
pub fed_byte : (kept kept_now : List ℕ) (byte : ℕ) (x : State) (a : ShelfSide) (s : SinkSide) → (byte == 10) ≡ false → kept_now ≡ kept_more kept byte → Fed GoesOn kept (byte ∷ []) kept_now x x a a s s
fed_byte kept kept_now byte x a s other is =
    let none : ended_lines kept (byte ∷ []) ≡ [] = ap (λ b. map strip_carriage_return (cond b (kept ∷ []) [])) other in
    record {
      did = subst (λ lines. Did (up_to_quit lines) x x a a s s) (sym none) (did_nothing x a s);
      flows = ap has_quit none;
      keeps = is ∙ ap (λ b. cond b [] (kept_more kept byte)) (sym other);
    }

-- a line feed
pub fed_line : (flow : Flow) (kept kept_now line : List ℕ) (x y : State) (a b : ShelfSide) (s t : SinkSide) → line ≡ strip_carriage_return kept → kept_now ≡ [] → Responded flow line x y a b s t
    → Fed flow kept (10 ∷ []) kept_now x y a b s t
fed_line flow kept kept_now line x y a b s t is none p = record {
  did = subst (λ lines. Did lines x y a b s t) (ap (λ l. l ∷ []) is ∙ sym (up_one (strip_carriage_return kept))) p.did;
  flows = subst (IsFlow flow) (sym (has_one line) ∙ ap (λ l. has_quit (l ∷ [])) is) p.flows;
  keeps = kept_line flow;
}
  where
    kept_line : (flow : Flow) → KeepsAt flow kept_now []
    kept_line GoesOn = none
    kept_line Quits = tt

pub broke_line : (status : Status) (kept line : List ℕ) (byte : ℕ) (x : State) (a b : ShelfSide) (s t : SinkSide) → byte ≡ 10 → line ≡ strip_carriage_return kept → Broke status (line ∷ []) x a b s t
    → Broke status (up_to_quit (ended_lines kept (byte ∷ []))) x a b s t
broke_line status kept line byte x a b s t feed is p =
    subst (λ byte. Broke status (up_to_quit (ended_lines kept (byte ∷ []))) x a b s t) (sym feed)
    (subst (λ lines. Broke status lines x a b s t) (ap (λ l. l ∷ []) is ∙ sym (up_one (strip_carriage_return kept))) p)

pub fed_one_more : (flow : Flow) (first kept after bytes : List ℕ) (i : ℕ) (x y z : State) (a b c : ShelfSide) (s t u : SinkSide) → i < length bytes → Fed GoesOn first (take i bytes) kept x y a b s t
    → Fed flow kept (get_or bytes i 0 ∷ []) after y z b c t u → Fed flow first (take (i + 1) bytes) after x z a c s u
fed_one_more flow first kept after bytes i x y z a b c s t u within p q =
    subst (λ bytes. Fed flow first bytes after x z a c s u) (sym (take_more bytes i 0 within)) (fed_both flow first _ kept _ after x y z a b c s t u p q)

pub quits_one_more : (first kept after after' bytes : List ℕ) (i : ℕ) (x y z : State) (a b c : ShelfSide) (s t u : SinkSide) → i < length bytes → Fed GoesOn first (take i bytes) kept x y a b s t
    → Fed Quits kept (get_or bytes i 0 ∷ []) after y z b c t u → Fed Quits first bytes after' x z a c s u
quits_one_more first kept after after' bytes i x y z a b c s t u within p q =
    subst (λ bytes. Fed Quits first bytes after' x z a c s u) (take-append-drop (i + 1) bytes)
    (fed_quits first (take (i + 1) bytes) (drop (i + 1) bytes) after after' x z a c s u (fed_one_more Quits first kept after bytes i x y z a b c s t u within p q))

pub broke_one_more : (status : Status) (first kept bytes : List ℕ) (i : ℕ) (x y : State) (a b c : ShelfSide) (s t u : SinkSide) → i < length bytes → Fed GoesOn first (take i bytes) kept x y a b s t
    → Broke status (up_to_quit (ended_lines kept (get_or bytes i 0 ∷ []))) y b c t u → Broke status (up_to_quit (ended_lines first bytes)) x a c s u
broke_one_more status first kept bytes i x y a b c s t u within p q =
    let front = subst (λ bytes. Broke status (up_to_quit (ended_lines first bytes)) x a c s u) (sym (take_more bytes i 0 within)) (fed_broke status first _ kept _ x y a b c s t u p q) in
    subst (λ bytes. Broke status (up_to_quit (ended_lines first bytes)) x a c s u) (take-append-drop (i + 1) bytes) (broke_more status first (take (i + 1) bytes) (drop (i + 1) bytes) x a c s u front)
