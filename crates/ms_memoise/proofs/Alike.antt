-- Lines that are the same command. What is kept of a line is the same command as the line.
use Rattle.std.proofs.Common.{◌≡◌, ◌≢◌, ℕ, zero, suc, ◌+◌, ◌-◌, ◌<◌, ◌≤◌, List, [], ◌∷◌, ◌++◌, length, take, map, ◌==◌, refl, sym, ap, ◌∙◌, subst, subst₂, arith, inl, inr, Some, Err, slice_get, slice_index, Bool, true, false, cond, ◌||◌}
use Rattle.std.proofs.lemmas.List.{take_all, length-take}
use Rattle.std.proofs.lemmas.Bool.{cases_lt, cond_both, cond-false, lt-leb, ne_eqb, and_left}
use Rattle.std.specs.Str.Lines.{strip_carriage_return}
use Rattle.std.specs.Io.KnownBytes.{Appends}
use Rattle.ms_command.specs.Commands.{command_of}
use Rattle.ms_command.specs.Lines.{most_line_bytes}
use Rattle.ms_command.specs.declared.reply.Reply.TheVariants.{NoLine}
use Rattle.ms_session.specs.Outside.{AreAnswers, FetchesSome, ShelfSide, SinkSide}
use Rattle.ms_session.specs.States.{State}
use Rattle.ms_memoise.specs.Conversations.{FetchesNext, IsNamedAt}
use Rattle.ms_session.specs.Steps.{Next}
use Rattle.ms_memoise.specs.declared.status.Status.TheVariants.{Done, Usage, ReadFault, WriteFault, NoMemory, ShelfFault, TooMuchInput}
use Rattle.ms_memoise.specs.declared.status.Status.{Status}
use Rattle.ms_memoise.specs.Events.{AreAnswered, Event, IsAnswered, has_quit, is_quit, lines_of, names_of, next_for, next_of, quits, state_after, text_after, up_to_quit}
use Rattle.ms_memoise.specs.Conversations.{Begun}
use Rattle.ms_memoise.specs.Feeding.{Broke, Did, most_kept}
use Rattle.ms_memoise.specs.Turns.{last_lines}
use Rattle.ms_memoise.proofs.Scanning.{cut}

-- a line that is too long is refused as one
too_long : (line : List ℕ) → most_line_bytes < length line → command_of line ≡ Err NoLine
too_long line long = cond-false _ _ _ (and_left _ _ (lt-leb (length line) most_line_bytes long))

-- less a carriage return, a line is at most one byte shorter
length_stripped : (line : List ℕ) → length line ≤ length (strip_carriage_return line) + 1
length_stripped line = cond_both (slice_index line (length line - 1) == 13) (take (length line - 1) line) line (λ l. length line ≤ length l + 1) (λ h. omega (arith, length-take (length line - 1) line)) (λ h. omega arith)

pub stripped_command : (line : List ℕ) → command_of (strip_carriage_return (cut line)) ≡ command_of (strip_carriage_return line)
stripped_command line = elim (cases_lt most_kept (length line)) [
  | inl long ↦
      too_long (strip_carriage_return (cut line)) (omega (arith, length_stripped (cut line), length-take most_kept line))
      ∙ sym (too_long (strip_carriage_return line) (omega (arith, length_stripped line)))
  | inr short ↦ ap (λ l. command_of (strip_carriage_return l)) (take_all most_kept line short)
]

pub cut_command : (line : List ℕ) → command_of (cut line) ≡ command_of line
cut_command line = elim (cases_lt most_kept (length line)) [
  | inl long ↦ too_long (cut line) (omega (arith, length-take most_kept line)) ∙ sym (too_long line (omega arith))
  | inr short ↦ ap command_of (take_all most_kept line short)
]

-- the same commands, line by line
abbrev pub Alike : List (List ℕ) → List (List ℕ) → Type 0
Alike [] [] = Unit {0}
Alike [] (y ∷ ys) = ⊥
Alike (x ∷ xs) [] = ⊥
Alike (x ∷ xs) (y ∷ ys) = (command_of x ≡ command_of y) × Alike xs ys

pub alike_stripped : (lines : List (List ℕ)) → Alike (map strip_carriage_return (map cut lines)) (map strip_carriage_return lines)
alike_stripped [] = tt
alike_stripped (line ∷ lines) = (stripped_command line, alike_stripped lines)

pub alike_append : (xs ys us vs : List (List ℕ)) → Alike xs ys → Alike us vs → Alike (xs ++ us) (ys ++ vs)
alike_append [] [] us vs p q = q
alike_append [] (y ∷ ys) us vs p q = absurd p
alike_append (x ∷ xs) [] us vs p q = absurd p
alike_append (x ∷ xs) (y ∷ ys) us vs p q = (p.0, alike_append xs ys us vs p.1 q)

last_some : (line : List ℕ) → 0 < length line → last_lines line ≡ line ∷ []
last_some line some = cond-false _ _ _ (ne_eqb (length line) 0 (λ h. omega arith))

pub alike_last : (line : List ℕ) → Alike (last_lines (cut line)) (last_lines line)
alike_last [] = tt
alike_last (byte ∷ bytes) =
    let some : Alike (cut (byte ∷ bytes) ∷ []) ((byte ∷ bytes) ∷ []) = (cut_command (byte ∷ bytes), tt) in
    subst₂ Alike (sym (last_some (cut (byte ∷ bytes)) (omega (arith, length-take most_kept (byte ∷ bytes))))) (sym (last_some (byte ∷ bytes) (omega arith))) some

alike_take : (n : ℕ) (xs ys : List (List ℕ)) → Alike xs ys → Alike (take n xs) (take n ys)
alike_take zero xs ys p = tt
alike_take (suc n) [] [] p = tt
alike_take (suc n) [] (y ∷ ys) p = absurd p
alike_take (suc n) (x ∷ xs) [] p = absurd p
alike_take (suc n) (x ∷ xs) (y ∷ ys) p = (p.0, alike_take n xs ys p.1)

-- one of them is a quit where one of the others is
pub alike_quit : (xs ys : List (List ℕ)) → Alike xs ys → has_quit xs ≡ has_quit ys
alike_quit [] [] p = refl
alike_quit [] (y ∷ ys) p = absurd p
alike_quit (x ∷ xs) [] p = absurd p
alike_quit (x ∷ xs) (y ∷ ys) p = ap (λ c. quits c || has_quit xs) p.0 ∙ ap (λ b. is_quit y || b) (alike_quit xs ys p.1)

alike_at_quit : (b c : Bool) (xs ys : List (List ℕ)) → b ≡ c → Alike xs ys → Alike (cond b [] xs) (cond c [] ys)
alike_at_quit true true xs ys same p = tt
alike_at_quit true false xs ys same p = absurd (cc)
alike_at_quit false true xs ys same p = absurd (cc)
alike_at_quit false false xs ys same p = p

pub alike_up : (xs ys : List (List ℕ)) → Alike xs ys → Alike (up_to_quit xs) (up_to_quit ys)
alike_up [] [] p = tt
alike_up [] (y ∷ ys) p = absurd p
alike_up (x ∷ xs) [] p = absurd p
alike_up (x ∷ xs) (y ∷ ys) p = (p.0, alike_at_quit (is_quit x) (is_quit y) _ _ (ap quits p.0) (alike_up xs ys p.1))

-- what stands at a place of the other list
pub record Other (ys : List (List ℕ)) (n : ℕ) (line : List ℕ) : Type 0 where
  pub other : List ℕ
  pub there : slice_get ys n ≡ Some other
  pub same : command_of line ≡ command_of other

alike_at : (xs ys : List (List ℕ)) (n : ℕ) (line : List ℕ) → Alike xs ys → slice_get xs n ≡ Some line → Other ys n line
alike_at [] [] n line p is = absurd (cc)
alike_at [] (y ∷ ys) n line p is = absurd p
alike_at (x ∷ xs) [] n line p is = absurd p
alike_at (x ∷ xs) (y ∷ ys) zero line p is =
    let same : x ≡ line = cc in
    record { other = y; there = refl; same = ap command_of (sym same) ∙ p.0 }
alike_at (x ∷ xs) (y ∷ ys) (suc n) line p is = let found = alike_at xs ys n line p.1 is in record { other = found.other; there = found.there; same = found.same }

-- EVENTS OF THE OTHER LINES

abbrev pub with_line : List ℕ → Event → Event
with_line line event = record { line = line; answers = event.answers }

pub record Relabelled (a b : ShelfSide) (events : List Event) (ys : List (List ℕ)) : Type 0 where
  pub others : List Event
  pub lines : lines_of others ≡ ys
  pub many : length others ≡ length events
  pub texts : (x : State) → text_after x others ≡ text_after x events
  pub states : (x : State) → state_after x others ≡ state_after x events
  pub answered : AreAnswered a b others

answered_so : (a b : ShelfSide) (event : Event) (line : List ℕ) → command_of event.line ≡ command_of line → IsAnswered a b event → IsAnswered a b (with_line line event)
answered_so a b event line same are = record {
  given = subst (λ command. AreAnswers a b (names_of command) event.answers) same are.given;
  passes = are.passes;
  unchanged = subst (λ command. names_of command ≡ [] → b ≡ a) same are.unchanged;
}

-- a line that is the same command does the same
next_so : (event : Event) (line : List ℕ) (x : State) → command_of event.line ≡ command_of line → next_of x (with_line line event) ≡ next_of x event
next_so event line x same = ap (λ command. next_for x command event.answers) (sym same)

pub relabelled : (a b : ShelfSide) (events : List Event) (ys : List (List ℕ)) → Alike (lines_of events) ys → AreAnswered a b events → Relabelled a b events ys
relabelled a b [] [] p are = record { others = []; lines = refl; many = refl; texts = λ x. refl; states = λ x. refl; answered = are }
relabelled a b [] (y ∷ ys) p are = absurd p
relabelled a b (event ∷ events) [] p are = absurd p
relabelled a b (event ∷ events) (y ∷ ys) p are =
    let rest = relabelled are.between b events ys p.1 are.others in
    record {
      others = with_line y event ∷ rest.others;
      lines = ap (λ l. y ∷ l) rest.lines;
      many = ap suc rest.many;
      texts = λ x. ap (λ n. n.text ++ text_after n.state rest.others) (next_so event y x p.0) ∙ ap (λ l. (next_of x event).text ++ l) (rest.texts (next_of x event).state);
      states = λ x. ap (λ n. state_after n.state rest.others) (next_so event y x p.0) ∙ rest.states (next_of x event).state;
      answered = record { between = are.between; answered = answered_so a are.between event y p.0 are.answered; others = rest.answered };
    }

pub did_alike : (xs ys : List (List ℕ)) (x y : State) (a b : ShelfSide) (s t : SinkSide) → Alike xs ys → Did xs x y a b s t → Did ys x y a b s t
did_alike xs ys x y a b s t alike p =
    let found = relabelled a b p.events ys (subst (λ l. Alike l ys) (sym p.lines) alike) p.answered in
    record {
      events = found.others;
      lines = found.lines;
      answered = found.answered;
      wrote = subst (Appends s.taken t.taken) (sym (found.texts x)) p.wrote;
      state_is = p.state_is ∙ sym (found.states x);
      passes = p.passes;
      calm = p.calm;
    }

begun_alike : (xs ys : List (List ℕ)) (x : State) (a b : ShelfSide) (n : ℕ) (part : List ℕ) → Alike xs ys → Begun x a b xs n part → Begun x a b ys n part
begun_alike xs ys x a b n part alike p =
    let found = alike_at xs ys n p.event.line alike p.line in
    record {
      event = with_line found.other p.event;
      line = found.there;
      answered = answered_so a b p.event found.other found.same p.answered;
      some = subst (λ (n : Next). 0 < length n.text) (sym (next_so p.event found.other x found.same)) p.some;
      begins = ap (λ n. take (length part) n.text) (next_so p.event found.other x found.same) ∙ p.begins;
    }

named_alike : (status : Status) (xs ys : List (List ℕ)) (n : ℕ) → Alike xs ys → IsNamedAt status xs n → IsNamedAt status ys n
named_alike Done xs ys n alike p = tt
named_alike Usage xs ys n alike p = tt
named_alike ReadFault xs ys n alike p = tt
named_alike WriteFault xs ys n alike p = tt
named_alike NoMemory xs ys n alike p = tt
named_alike ShelfFault xs ys n alike p = let found = alike_at xs ys n p.line alike p.is in record { line = found.other; is = found.there; names = subst (λ command. names_of command ≢ []) found.same p.names }
named_alike TooMuchInput xs ys n alike p = tt

fetches_alike : (a b : ShelfSide) (xs ys : List (List ℕ)) (n : ℕ) → Alike xs ys → FetchesNext a b xs n → FetchesNext a b ys n
fetches_alike a b [] [] n alike p = p
fetches_alike a b [] (y ∷ ys) n alike p = absurd alike
fetches_alike a b (x ∷ xs) [] n alike p = absurd alike
fetches_alike a b (x ∷ xs) (y ∷ ys) zero alike p = subst (λ command. FetchesSome a b (names_of command)) alike.0 p
fetches_alike a b (x ∷ xs) (y ∷ ys) (suc n) alike p = fetches_alike a b xs ys n alike.1 p

pub broke_alike : (status : Status) (xs ys : List (List ℕ)) (x : State) (a b : ShelfSide) (s t : SinkSide) → Alike xs ys → Broke status xs x a b s t → Broke status ys x a b s t
broke_alike status xs ys x a b s t alike p =
    let n = length p.events in
    let found = relabelled a p.at p.events (take n ys) (subst (λ l. Alike l (take n ys)) (sym p.lines) (alike_take n xs ys alike)) p.answered in
    record {
      events = found.others;
      part = p.part;
      lines = found.lines ∙ ap (λ m. take m ys) (sym found.many);
      at = p.at;
      begun = λ h. subst (λ m. Begun (state_after x found.others) p.at b ys m p.part) (sym found.many)
          (subst (λ y. Begun y p.at b ys n p.part) (sym (found.states x)) (begun_alike xs ys (state_after x p.events) p.at b n p.part alike (p.begun h)));
      named = subst (IsNamedAt status ys) (sym found.many) (named_alike status xs ys n alike p.named);
      fetches = subst (FetchesNext p.at b ys) (sym found.many) (fetches_alike p.at b xs ys n alike p.fetches);
      answered = found.answered;
      rest = p.rest;
      wrote = subst (λ l. Appends s.taken t.taken (l ++ p.part)) (sym (found.texts x)) p.wrote;
      stops = p.stops;
      at_status = p.at_status;
      passes = p.passes;
    }
