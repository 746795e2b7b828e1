-- Lines that are done one after another.
use Rattle.std.proofs.Common.{◌≡◌, ℕ, suc, ◌+◌, ◌<◌, ◌≤◌, List, [], ◌∷◌, ◌++◌, length, take, refl, sym, ap, ◌∙◌, subst, arith, slice_get, append_assoc, length-append}
use Rattle.std.specs.Io.KnownBytes.{Appends}
use Rattle.std.proofs.lemmas.List.{take-append-le, length-take}
use Rattle.std.proofs.Math.Seq.{take-append-add}
use Rattle.std.proofs.KnownBytes.{Appends-nil, Appends-trans}
use Rattle.ms_memoise.specs.Conversations.{IsNamedAt}
use Rattle.ms_memoise.specs.declared.status.Status.{Status}
use Rattle.ms_memoise.specs.declared.status.Status.TheVariants.{Done, Usage, ReadFault, WriteFault, NoMemory, ShelfFault, TooMuchInput}
use Rattle.ms_session.specs.Outside.{Calm, Passes, ShelfSide, SinkSide}
use Rattle.ms_session.specs.States.{State}
use Rattle.ms_memoise.specs.Events.{AreAnswered, Event, lines_of, next_of, state_after, text_after}
use Rattle.ms_memoise.specs.Feeding.{Broke, Did, Stops}
use Rattle.ms_memoise.proofs.Fetching.{fetches_before, fetches_behind, fetches_none, get_before, get_behind}
use Rattle.ms_memoise.proofs.Spans.{passes_later, rose_wider, shelf_same}

pub did_nothing : (x : State) (a : ShelfSide) (s : SinkSide) → Did [] x x a a s s
did_nothing x a s = record {
  events = [];
  lines = refl;
  answered = refl;
  wrote = Appends-nil s.taken;
  state_is = refl;
  passes = record { on_shelf = shelf_same a; writes = omega arith };
  calm = (refl, refl);
}

answered_append : (a b c : ShelfSide) (xs ys : List Event) → AreAnswered a b xs → AreAnswered b c ys → AreAnswered a c (xs ++ ys)
answered_append a b c [] ys p q = subst (λ z. AreAnswered z c ys) p q
answered_append a b c (x ∷ xs) ys p q = record { between = p.between; answered = p.answered; others = answered_append p.between b c xs ys p.others q }

lines_append : (xs ys : List Event) → lines_of (xs ++ ys) ≡ lines_of xs ++ lines_of ys
lines_append [] ys = refl
lines_append (x ∷ xs) ys = ap (λ l. x.line ∷ l) (lines_append xs ys)

text_append : (x : State) (xs ys : List Event) → text_after x (xs ++ ys) ≡ text_after x xs ++ text_after (state_after x xs) ys
text_append x [] ys = refl
text_append x (e ∷ es) ys =
    ap (λ l. (next_of x e).text ++ l) (text_append (next_of x e).state es ys)
    ∙ sym (append_assoc (next_of x e).text (text_after (next_of x e).state es) (text_after (state_after (next_of x e).state es) ys))

state_append : (x : State) (xs ys : List Event) → state_after x (xs ++ ys) ≡ state_after (state_after x xs) ys
state_append x [] ys = refl
state_append x (e ∷ es) ys = state_append (next_of x e).state es ys

-- what is written from the state on that some lines led to
text_from : (x y : State) (xs ys : List Event) → y ≡ state_after x xs → text_after x xs ++ text_after y ys ≡ text_after x (xs ++ ys)
text_from x y xs ys is = ap (λ z. text_after x xs ++ text_after z ys) is ∙ sym (text_append x xs ys)

state_from : (x y : State) (xs ys : List Event) → y ≡ state_after x xs → state_after y ys ≡ state_after x (xs ++ ys)
state_from x y xs ys is = ap (λ z. state_after z ys) is ∙ sym (state_append x xs ys)

pub did_both : (xs ys : List (List ℕ)) (x y z : State) (a b c : ShelfSide) (s t u : SinkSide) → Did xs x y a b s t → Did ys y z b c t u → Did (xs ++ ys) x z a c s u
did_both xs ys x y z a b c s t u p q = record {
  events = p.events ++ q.events;
  lines = lines_append p.events q.events ∙ ap (λ l. l ++ lines_of q.events) p.lines ∙ ap (λ l. xs ++ l) q.lines;
  answered = answered_append a b c p.events q.events p.answered q.answered;
  wrote = subst (Appends s.taken u.taken) (text_from x y p.events q.events p.state_is) (Appends-trans _ _ _ _ _ p.wrote q.wrote);
  state_is = q.state_is ∙ state_from x y p.events q.events p.state_is;
  passes = passes_later a b c s t u p.passes q.passes;
  calm = (q.calm.0 ∙ p.calm.0, q.calm.1 ∙ p.calm.1);
}

pub broke_here : (all : List (List ℕ)) (x : State) (a : ShelfSide) (s : SinkSide) → Broke NoMemory all x a a s s
broke_here all x a s = record {
  events = [];
  part = [];
  lines = refl;
  at = a;
  begun = λ h. absurd (omega arith);
  named = tt;
  fetches = fetches_none a a _ refl;
  answered = refl;
  rest = shelf_same a;
  wrote = Appends-nil s.taken;
  stops = (refl, refl);
  at_status = tt;
  passes = record { on_shelf = shelf_same a; writes = omega arith };
}

pub length_lines : (events : List Event) → length (lines_of events) ≡ length events
length_lines [] = refl
length_lines (event ∷ events) = ap suc (length_lines events)

pub named_before : (status : Status) (xs ys : List (List ℕ)) (n : ℕ) → IsNamedAt status xs n → IsNamedAt status (xs ++ ys) n
named_before Done xs ys n p = tt
named_before Usage xs ys n p = tt
named_before ReadFault xs ys n p = tt
named_before WriteFault xs ys n p = tt
named_before NoMemory xs ys n p = tt
named_before ShelfFault xs ys n p = record { line = p.line; is = get_before xs ys n p.line p.is; names = p.names }
named_before TooMuchInput xs ys n p = tt

named_behind : (status : Status) (xs ys : List (List ℕ)) (n m : ℕ) → m ≡ length xs + n → IsNamedAt status ys n → IsNamedAt status (xs ++ ys) m
named_behind Done xs ys n m is p = tt
named_behind Usage xs ys n m is p = tt
named_behind ReadFault xs ys n m is p = tt
named_behind WriteFault xs ys n m is p = tt
named_behind NoMemory xs ys n m is p = tt
named_behind ShelfFault xs ys n m is p = record { line = p.line; is = ap (slice_get (xs ++ ys)) is ∙ get_behind xs ys n ∙ p.is; names = p.names }
named_behind TooMuchInput xs ys n m is p = tt

pub no_more : (events : List Event) (xs : List (List ℕ)) → lines_of events ≡ take (length events) xs → length events ≤ length xs
no_more events xs lines = omega (arith, length_lines events, ap length lines, length-take (length events) xs)

stops_wider : (status : Status) (a b c : ShelfSide) (s t u : SinkSide) → Passes a b s t → Calm a b s t → Stops status b c t u → Stops status a c s u
stops_wider Done a b c s t u p calm h = h
stops_wider Usage a b c s t u p calm h = h
stops_wider ReadFault a b c s t u p calm h = h
stops_wider WriteFault a b c s t u p calm h = (rose_wider s.faults t.faults u.faults u.faults p.writes (omega arith) h.0, h.1 ∙ calm.0)
stops_wider NoMemory a b c s t u p calm h = (h.0 ∙ calm.0, h.1 ∙ calm.1)
stops_wider ShelfFault a b c s t u p calm h =
    (rose_wider a.counts.faults b.counts.faults c.counts.faults c.counts.faults p.on_shelf.fetches.faults (omega arith) h.0, h.1 ∙ calm.1)
stops_wider TooMuchInput a b c s t u p calm h = h

-- whatever lines follow
pub broke_before : (status : Status) (xs ys : List (List ℕ)) (x : State) (a b : ShelfSide) (s t : SinkSide) → Broke status xs x a b s t → Broke status (xs ++ ys) x a b s t
broke_before status xs ys x a b s t p = record {
  events = p.events;
  part = p.part;
  lines = p.lines ∙ sym (take-append-le (length p.events) xs ys (no_more p.events xs p.lines));
  at = p.at;
  begun = λ h. let begun = p.begun h in record { event = begun.event; line = get_before xs ys _ _ begun.line; answered = begun.answered; some = begun.some; begins = begun.begins };
  named = named_before status xs ys _ p.named;
  fetches = fetches_before p.at b xs ys _ p.fetches;
  answered = p.answered;
  rest = p.rest;
  wrote = p.wrote;
  stops = p.stops;
  at_status = p.at_status;
  passes = p.passes;
}

pub did_broke : (status : Status) (xs ys : List (List ℕ)) (x y : State) (a b c : ShelfSide) (s t u : SinkSide) → Did xs x y a b s t → Broke status ys y b c t u → Broke status (xs ++ ys) x a c s u
did_broke status xs ys x y a b c s t u p q =
    let count : length (p.events ++ q.events) ≡ length xs + length q.events =
    length-append p.events q.events ∙ ap (λ n. n + length q.events) (sym (length_lines p.events) ∙ ap length p.lines) in
    record {
      events = p.events ++ q.events;
      part = q.part;
      lines = lines_append p.events q.events ∙ ap (λ l. l ++ lines_of q.events) p.lines ∙ ap (λ l. xs ++ l) q.lines
          ∙ sym (take-append-add xs ys (length q.events)) ∙ ap (λ n. take n (xs ++ ys)) (sym count);
      at = q.at;
      begun = λ h. let begun = q.begun h in record {
        event = begun.event;
        line = ap (slice_get (xs ++ ys)) count ∙ get_behind xs ys _ ∙ begun.line;
        answered = begun.answered;
        some = subst (λ (z : State). 0 < length (next_of z begun.event).text) (state_from x y p.events q.events p.state_is) begun.some;
        begins = ap (λ z. take (length q.part) (next_of z begun.event).text) (sym (state_from x y p.events q.events p.state_is)) ∙ begun.begins;
      };
      named = named_behind status xs ys (length q.events) _ count q.named;
      fetches = fetches_behind q.at c xs ys (length q.events) _ count q.fetches;
      answered = answered_append a b q.at p.events q.events p.answered q.answered;
      rest = q.rest;
      wrote = subst (Appends s.taken u.taken) (sym (append_assoc (text_after x p.events) (text_after y q.events) q.part) ∙ ap (λ l. l ++ q.part) (text_from x y p.events q.events p.state_is))
          (Appends-trans _ _ _ _ _ p.wrote q.wrote);
      stops = stops_wider status a b c s t u p.passes p.calm q.stops;
      at_status = q.at_status;
      passes = passes_later a b c s t u p.passes q.passes;
    }
