-- What holds of a decoded code.
use Rattle.std.proofs.Common.{◌≡◌, ◌⊎◌, ℕ, zero, suc, ◌+◌, ◌-◌, ◌<◌, List, [], ◌∷◌, length, Bool, true, false, cond, Option, Some, None, Ok, refl, sym, ap, subst, ◌∙◌, arith, inl, inr}
use Rattle.std.specs.Prelude.{not, ◌&&◌, nat_lt, slice_get, option_map, option_and_then}
use Rattle.std.specs.List.{list_all}
use Rattle.std.proofs.lemmas.Bool.{ltb-true}
use Rattle.ms_words.specs.declared.thrown.Thrown.{Thrown}
use Rattle.ms_pool.specs.declared.code.RawHandler.{RawHandler}
use Rattle.ms_pool.specs.Pools.{Placed}
use Rattle.ms_pool.specs.Places.{Place, beginning}
use Rattle.ms_pool.specs.Numbers.{IsBytes}
use Rattle.ms_pool.specs.Formats.{found}
use Rattle.ms_pool.specs.Exact.{ok_is, then_ok}
use Rattle.ms_code.specs.declared.decoded.Handler.{Handler}
use Rattle.ms_code.specs.declared.decoded.Step.{Step}
use Rattle.ms_code.specs.declared.instruction.Instr.{Instr}
use Rattle.ms_code.specs.declared.trouble.Trouble.{Trouble}
use Rattle.ms_code.specs.declared.trouble.Trouble.TheVariants.{Foreign}
use Rattle.ms_code.specs.Codes.{Code, DecodedCode, IsDecoded, Steps, caught, decoded, first_astray, first_misplaced, handler_of, handlers_of, is_astray, is_entry, is_start, read_unless, step_at, steps, targets_of, within}
use Rattle.ms_code.specs.Laws.{IsWhole, is_handler}
use Rattle.ms_code.proofs.Exact.{decoded_sound, steps_many}
use Rattle.ms_code.proofs.Formed.{IsRight, found_is, instruction_right}
use Rattle.ms_code.proofs.Laid.{are_laid, each_along, first_laid, followed}

-- the parts of a code that was decoded
record HasParts (pool : List (Option Placed)) (code : Code) (result : DecodedCode) : Type 0 where
  pub after : Place
  pub steps_are : (steps pool (length code.code) code.code_at).read (beginning code.code) ≡ Ok (result.steps, after)
  pub targets : first_astray result.steps code.code_at result.steps ≡ None
  pub entries : first_misplaced result.steps (length code.code) code.table_at code.table ≡ None
  pub handlers : handlers_of pool code.table ≡ Some result.handlers

none_read : (astray : Option ℕ) (place : Place) (x : Unit {0} × Place) → read_unless astray place ≡ Ok x → astray ≡ None
none_read None place x is = refl
none_read (Some at) place x is = absurd (let e = is in cc)

parts : (pool : List (Option Placed)) (code : Code) (x : DecodedCode × Place) → (decoded pool code).read (beginning code.code) ≡ Ok x → HasParts pool code x.0
unfolding decoded
parts pool code x is =
    then_ok ((steps pool (length code.code) code.code_at).read (beginning code.code)) _ x is (λ all are_steps rest.
    then_ok (read_unless (first_astray all.0 code.code_at all.0) all.1) _ x rest (λ targets are_targets rest.
    then_ok (read_unless (first_misplaced all.0 (length code.code) code.table_at code.table) targets.1) _ x rest (λ entries are_entries rest.
    then_ok ((found (handlers_of pool code.table) Foreign).read entries.1) _ x rest (λ handlers are_handlers last.
    subst (λ (y : DecodedCode × Place). HasParts pool code y.0) (ok_is {Fault = Trouble} (record { steps = all.0; handlers = handlers.0 }, handlers.1) x last)
    (record {
      after = all.1;
      steps_are = are_steps;
      targets = none_read (first_astray all.0 code.code_at all.0) all.1 targets are_targets;
      entries = none_read (first_misplaced all.0 (length code.code) code.table_at code.table) targets.1 entries are_entries;
      handlers = found_is (handlers_of pool code.table) entries.1 handlers are_handlers;
    })))))

-- AT AN OFFSET

some_is : {A : Type 0} (x y : A) → ◌≡◌ {A = Option A} (Some x) (Some y) → x ≡ y
some_is x y e = cc

both_true : (a b : Bool) → (a && b) ≡ true → (a ≡ true) × (b ≡ true)
both_true true b is = (refl, is)
both_true false b is = absurd (let e = is in cc)

all_get : {X : Type 0} (test : X → Bool) (xs : List X) (i : ℕ) (x : X) → list_all test xs ≡ true → slice_get xs i ≡ Some x → test x ≡ true
all_get test [] i x all is = absurd (let e = is in cc)
all_get {X = X} test (first ∷ xs) zero x all is = subst (λ (y : X). test y ≡ true) (some_is first x is) (both_true (test first) (list_all test xs) all).0
all_get {X = X} test (first ∷ xs) (suc i) x all is = all_get test xs i x (both_true (test first) (list_all test xs) all).1 is

step_is : (all : Steps) (offset : ℕ) (step : Step) → step_at all offset ≡ Some step → slice_get all offset ≡ Some (Some step)
step_is all offset step is = by_slot (slice_get all offset) is
  where
    by_slot : (slot : Option (Option Step)) → option_and_then (λ (s : Option Step). s) slot ≡ Some step → slot ≡ Some (Some step)
    by_slot None e = absurd (let f = e in cc)
    by_slot (Some slot) e = ap (λ (s : Option Step). Some s) e

starts : (all : Steps) (offset : ℕ) (step : Step) → slice_get all offset ≡ Some (Some step) → is_start all offset ≡ true
starts all offset step is = rw is refl

mapped : {A B : Type 0} (f : A → B) (found : Option A) (y : B) → option_map f found ≡ Some y → (x : A) × (found ≡ Some x) × (f x ≡ y)
mapped f (Some x) y is = (x, refl, some_is (f x) y is)
mapped f None y is = absurd (let e = is in cc)

joined : {A B : Type 0} (next : A → Option B) (found : Option A) (y : B) → option_and_then next found ≡ Some y → (x : A) × (found ≡ Some x) × (next x ≡ Some y)
joined next (Some x) y is = (x, refl, is)
joined next None y is = absurd (let e = is in cc)

within_is : (size offset behind : ℕ) → within size offset ≡ Some behind → (offset < size) × (offset ≡ behind)
within_is size offset behind is = by_test (nat_lt offset size) refl is
  where
    by_test : (b : Bool) → nat_lt offset size ≡ b → cond b (Some offset) None ≡ Some behind → (offset < size) × (offset ≡ behind)
    by_test true below e = (ltb-true _ _ below, let f = e in cc)
    by_test false above e = absurd (let f = e in cc)

-- TARGETS

none_astray : (all : Steps) (place : ℕ) (left : Steps) → first_astray all place left ≡ None → list_all (λ step. not (is_astray all step)) left ≡ true
none_astray all place [] none = refl
none_astray all place (step ∷ left) none = by_test (is_astray all step) refl none (λ rest. none_astray all (place + 1) left rest)
  where
    by_test : (b : Bool) → is_astray all step ≡ b → cond b (Some place) (first_astray all (place + 1) left) ≡ None → (first_astray all (place + 1) left ≡ None → list_all (λ s. not (is_astray all s)) left ≡ true) → (not (is_astray all step) && list_all (λ s. not (is_astray all s)) left) ≡ true
    by_test true is e others = absurd (let f = e in cc)
    by_test false is e others = rw is (others e)

not_not : (b : Bool) → not (not b) ≡ true → b ≡ true
not_not true is = refl
not_not false is = absurd (let e = is in cc)

-- HANDLERS

handler_is : (pool : List (Option Placed)) (all : Steps) (size : ℕ) (row : RawHandler) (handler : Handler) → handler_of pool row ≡ Some handler → is_entry all size row ≡ true → is_handler all size handler ≡ true
handler_is pool all size row handler is entry =
    let p = mapped (λ (thrown : Thrown). record { start = row.start; «end» = row.«end»; target = row.handler; catches = thrown }) (caught pool row.catch_type) handler is in
    subst (λ (h : Handler). is_handler all size h ≡ true) p.2 entry

are_handlers : (pool : List (Option Placed)) (all : Steps) (size place : ℕ) (rows : List RawHandler) (handlers : List Handler) → handlers_of pool rows ≡ Some handlers → first_misplaced all size place rows ≡ None → list_all (is_handler all size) handlers ≡ true
are_handlers pool all size place [] handlers found none = subst (λ (hs : List Handler). list_all (is_handler all size) hs ≡ true) (some_is [] handlers found) refl
are_handlers pool all size place (row ∷ rows) handlers found none =
    let p = joined (λ (handler : Handler). option_map (λ (others : List Handler). handler ∷ others) (handlers_of pool rows)) (handler_of pool row) handlers found in
    let q = mapped (λ (others : List Handler). p.0 ∷ others) (handlers_of pool rows) handlers p.2 in
    by_test (is_entry all size row) refl none (λ entry rest. subst (λ (hs : List Handler). list_all (is_handler all size) hs ≡ true) q.2 (rw (handler_is pool all size row p.0 p.1 entry) (are_handlers pool all size (place + 8) rows q.0 q.1 rest)))
  where
    by_test : (b : Bool) → is_entry all size row ≡ b → cond b (first_misplaced all size (place + 8) rows) (Some place) ≡ None → (is_entry all size row ≡ true → first_misplaced all size (place + 8) rows ≡ None → list_all (is_handler all size) handlers ≡ true) → list_all (is_handler all size) handlers ≡ true
    by_test true is e others = others is e
    by_test false is e others = absurd (let f = e in cc)

handlers_many : (pool : List (Option Placed)) (rows : List RawHandler) (handlers : List Handler) → handlers_of pool rows ≡ Some handlers → length handlers ≡ length rows
handlers_many pool [] handlers found = ap (λ (hs : List Handler). length hs) (sym (some_is [] handlers found))
handlers_many pool (row ∷ rows) handlers found =
    let p = joined (λ (handler : Handler). option_map (λ (others : List Handler). handler ∷ others) (handlers_of pool rows)) (handler_of pool row) handlers found in
    let q = mapped (λ (others : List Handler). p.0 ∷ others) (handlers_of pool rows) handlers p.2 in
    ap (λ (hs : List Handler). length hs) (sym q.2) ∙ ap (λ (n : ℕ). suc n) (handlers_many pool rows q.0 q.1)

-- THE LAW

pub is_whole : (pool : List (Option Placed)) (code : Code) (result : DecodedCode) → IsBytes code.code → IsDecoded pool code result → IsWhole pool code result
is_whole pool code result bytes is =
    let p = parts pool code (result, is.after) ((decoded_sound pool code).exact.reads (beginning code.code) result is.after bytes is.is) in
    let size = length code.code in
    let many = steps_many pool code.code_at code.code result.steps p.after p.steps_are in
    let line = are_laid pool code.code_at code.code result.steps p.after p.steps_are in
    record {
      whole = record { steps = line.steps; steps_are = line.are; end_to_end = line.ends };
      first = λ some.
          let f = first_laid line.steps size line.ends some in
          starts result.steps 0 f.0 (ap (λ (l : Steps). slice_get l 0) line.are ∙ f.1);
      next = λ offset behind next.
          let q = joined (λ (step : Step). within (length result.steps) step.next) (step_at result.steps offset) behind next in
          let r = within_is (length result.steps) q.0.next behind q.2 in
          let here = ap (λ (l : Steps). slice_get l offset) (sym line.are) ∙ step_is result.steps offset q.0 q.1 in
          by_end q.0 behind r.1 (omega (arith, r.0, many)) line.are (followed 0 line.steps size offset q.0 line.ends here).by;
      targets = λ offset instr at_offset.
          let q = mapped (λ (step : Step). step.instr) (step_at result.steps offset) instr at_offset in
          let t = all_get (λ step. not (is_astray result.steps step)) result.steps offset (Some q.0) (none_astray result.steps code.code_at result.steps p.targets) (step_is result.steps offset q.0 q.1) in
          subst (λ (i : Instr). list_all (is_start result.steps) (targets_of i.operand) ≡ true) q.2 (not_not _ t);
      fits = λ offset instr at_offset. (right p.after result.steps p.steps_are offset instr at_offset).fits;
      few = λ offset instr at_offset. (right p.after result.steps p.steps_are offset instr at_offset).few;
      keys = λ offset instr at_offset. (right p.after result.steps p.steps_are offset instr at_offset).keys;
      as_many = handlers_many pool code.table result.handlers p.handlers;
      handlers = are_handlers pool result.steps size code.table_at code.table result.handlers p.handlers p.entries;
    }
  where
    right : (after : Place) (all : Steps) → (steps pool (length code.code) code.code_at).read (beginning code.code) ≡ Ok (all, after) → (offset : ℕ) (instr : Instr) → option_map (λ (step : Step). step.instr) (step_at all offset) ≡ Some instr → IsRight pool instr (length code.code)
    right after all are offset instr at_offset =
        let q = mapped (λ (step : Step). step.instr) (step_at all offset) instr at_offset in
        let here = each_along (λ (step : Step). IsRight pool step.instr step.next) pool code.code_at code.code all after (λ place after instr is_instr. instruction_right pool (code.code_at + place.at) place.at place (instr, after) is_instr) are offset q.0 (step_is all offset q.0 q.1) in
        subst (λ (i : Instr). IsRight pool i (length code.code)) q.2 (record { fits = here.0.fits; keys = here.0.keys; few = omega (arith, here.0.few, here.1) })

    by_end : (step : Step) (behind : ℕ) → step.next ≡ behind → step.next < length code.code → {placed : Steps} → result.steps ≡ placed → (step.next ≡ length code.code) ⊎ ((other : Step) × (slice_get placed (step.next - 0) ≡ Some (Some other))) → is_start result.steps behind ≡ true
    by_end step behind same below are (inl all) = absurd (omega (arith, below, all))
    by_end step behind same below {placed = placed} are (inr there) =
        let here : step.next - 0 ≡ behind = omega (arith, same) in
        starts result.steps behind there.0 (ap (λ (l : Steps). slice_get l behind) are ∙ ap (slice_get placed) (sym here) ∙ there.1)
