-- How a conversation ends.
use Rattle.std.proofs.Common.{◌≡◌, ℕ, ◌+◌, ◌<◌, ◌≤◌, List, [], ◌++◌, length, take, map, false, true, refl, sym, ap, ◌∙◌, subst, arith, append-nil, length-append, Option, Some, None, IfSome, inl, inr, slice_get}
use Rattle.std.proofs.lemmas.List.{take-append-le}
use Rattle.std.proofs.Math.Seq.{take-append_seam}
use Rattle.std.specs.Str.Lines.{lines, strip_carriage_return}
use Rattle.std.specs.Io.KnownBytes.{Appends, Consumes, IsAtEnd}
use Rattle.std.proofs.KnownBytes.{Consumes-trans}
use Rattle.ms_outside.specs.Counts.{Rose}
use Rattle.ms_session.specs.Outside.{Passes, ShelfSide, SinkSide}
use Rattle.ms_session.specs.States.{State, new_state}
use Rattle.ms_memoise.specs.declared.status.Status.{Status}
use Rattle.ms_memoise.specs.declared.status.Status.TheVariants.{Done, Usage, ReadFault, WriteFault, NoMemory, ShelfFault, TooMuchInput}
use Rattle.ms_memoise.specs.declared.flow.Flow.{Flow}
use Rattle.ms_memoise.specs.declared.flow.Flow.TheVariants as flows
use Rattle.ms_memoise.specs.declared.conversation.Turn.TheVariants as turns
use Rattle.ms_memoise.specs.Lines.{whole_lines}
use Rattle.ms_memoise.specs.Events.{has_quit, lines_of, text_after, up_to_quit}
use Rattle.ms_memoise.specs.Conversations.{FetchesNext, Conversation, Elapses, Exceeds, HasDone, HasCauseOf, IsNamedAt, IsReachedAt, IsRest, Leads, Outside, SourceSide}
use Rattle.ms_memoise.specs.Feeding.{Broke, Did, Fed, ended_lines, fed_kept}
use Rattle.ms_memoise.specs.Turns.{AtLimit, Finishes, TurnBroke, Turned, last_lines}
use Rattle.ms_memoise.proofs.Fetching.{fetches_before, fetches_none, get_before}
use Rattle.ms_memoise.proofs.Handling.{did_both, did_broke, length_lines, named_before, no_more}
use Rattle.ms_memoise.proofs.Spans.{rose_wider}
use Rattle.ms_memoise.proofs.UpTo.{up_append, up_both, up_first, up_last, up_none}
use Rattle.ms_memoise.proofs.Fed.{fed_both, fed_broke}
use Rattle.ms_memoise.proofs.Scanning.{cut, fed_kept_scanned, fed_lines_scanned, lines_append, lines_scanned, scan_lines, scan_rest, whole_lines_scanned}
use Rattle.ms_memoise.proofs.Alike.{Alike, alike_append, alike_last, alike_quit, alike_stripped, alike_up, broke_alike, did_alike}
use Rattle.ms_memoise.proofs.Standing.{Stands}

-- THE LINES OF BYTES

-- what is kept of the lines that bytes end is as those lines
pub alike_whole : (bytes : List ℕ) → Alike (ended_lines [] bytes) (whole_lines bytes)
alike_whole bytes =
    subst (λ xs. Alike xs (whole_lines bytes)) (ap (map strip_carriage_return) (sym (fed_lines_scanned [] bytes)))
    (subst (Alike (map strip_carriage_return (map cut (scan_lines [] bytes)))) (sym (whole_lines_scanned bytes)) (alike_stripped (scan_lines [] bytes)))

-- and with what is kept of the last line
pub alike_all : (kept bytes : List ℕ) → kept ≡ fed_kept [] bytes → Alike (ended_lines [] bytes ++ last_lines kept) (lines bytes)
alike_all kept bytes is =
    subst (Alike (ended_lines [] bytes ++ last_lines kept)) (sym (lines_scanned bytes))
    (alike_append _ _ _ _ (alike_whole bytes)
    (subst (λ k. Alike (last_lines k) (last_lines (scan_rest [] bytes))) (sym (is ∙ fed_kept_scanned [] bytes)) (alike_last (scan_rest [] bytes))))

-- FIRST LINES OF THE INPUT

-- these are first lines of the input, up to a quit
abbrev pub AreFirst : Option (List ℕ) → List (List ℕ) → Type 0
AreFirst input xs = IfSome input (λ input. (more : List (List ℕ)) × (up_to_quit (lines input) ≡ xs ++ more))

pub first_whole : (before now : Option (List ℕ)) (bytes : List ℕ) → Consumes before now bytes → AreFirst before (up_to_quit (whole_lines bytes))
first_whole None now bytes took = tt
first_whole (Some input) None bytes took = absurd took
first_whole (Some input) (Some rest) bytes took = (_, ap (λ l. up_to_quit (lines l)) took ∙ ap up_to_quit (lines_append bytes rest) ∙ up_append (whole_lines bytes) _)

pub first_all : (before now : Option (List ℕ)) (bytes : List ℕ) → Consumes before now bytes → IsAtEnd now → AreFirst before (up_to_quit (lines bytes))
first_all None now bytes took end = tt
first_all (Some input) None bytes took end = absurd took
first_all (Some input) (Some rest) bytes took end =
    ([], ap (λ l. up_to_quit (lines l)) (took ∙ ap (λ l. bytes ++ l) end ∙ append-nil bytes) ∙ sym (append-nil (up_to_quit (lines bytes))))

-- of the bytes themselves
whole_of : (bytes : List ℕ) → AreFirst (Some bytes) (up_to_quit (whole_lines bytes))
whole_of bytes = first_whole (Some bytes) (Some []) bytes (sym (append-nil bytes))

all_of : (bytes : List ℕ) → AreFirst (Some bytes) (up_to_quit (lines bytes))
all_of bytes = first_all (Some bytes) (Some []) bytes (sym (append-nil bytes)) refl

-- LINES THAT WERE DONE

-- a quit is among the lines done where one is among the lines that a line feed ends
pub same_quit : (bytes : List ℕ) → has_quit (ended_lines [] bytes) ≡ has_quit (whole_lines bytes)
same_quit bytes = alike_quit (ended_lines [] bytes) (whole_lines bytes) (alike_whole bytes)

did_whole : (flow : Flow) (bytes kept : List ℕ) (x y : State) (a b : ShelfSide) (s t : SinkSide) → Fed flow [] bytes kept x y a b s t → Did (up_to_quit (whole_lines bytes)) x y a b s t
did_whole flow bytes kept x y a b s t p = did_alike _ _ x y a b s t (alike_up (ended_lines [] bytes) (whole_lines bytes) (alike_whole bytes)) p.did

broke_whole : (status : Status) (bytes : List ℕ) (x : State) (a b : ShelfSide) (s t : SinkSide) → Broke status (up_to_quit (ended_lines [] bytes)) x a b s t
    → Broke status (up_to_quit (whole_lines bytes)) x a b s t
broke_whole status bytes x a b s t p = broke_alike status _ _ x a b s t (alike_up (ended_lines [] bytes) (whole_lines bytes) (alike_whole bytes)) p

-- with the last line
alike_to_end : (bytes kept : List ℕ) (x y : State) (a b : ShelfSide) (s t : SinkSide) → Fed flows.GoesOn [] bytes kept x y a b s t
    → Alike (up_to_quit (ended_lines [] bytes) ++ last_lines kept) (up_to_quit (lines bytes))
alike_to_end bytes kept x y a b s t p =
    subst (λ l. Alike l (up_to_quit (lines bytes)))
    (up_both (ended_lines [] bytes) (last_lines kept) p.flows ∙ ap (λ l. up_to_quit (ended_lines [] bytes) ++ l) (up_last kept))
    (alike_up (ended_lines [] bytes ++ last_lines kept) (lines bytes) (alike_all kept bytes p.keeps))

-- WHAT A CONVERSATION SAYS

if_some : (o : Option (List ℕ)) (P Q : List ℕ → Type 0) → IfSome o P → ((x : List ℕ) → P x → Q x) → IfSome o Q
if_some None P Q p f = tt
if_some (Some x) P Q p f = f x p

elapses : (o q : Outside) → o.source.faults ≤ q.source.faults → Passes o.shelf q.shelf o.sink q.sink → Elapses o q
elapses o q reads passes = record { reads = reads; writes = passes.writes; fetches = passes.on_shelf.fetches; files = passes.on_shelf.files }

-- all of these lines were done
-- a run that ended so wrote all that it began, and no fetch failed
abbrev IsThrough : Status → Type 0
IsThrough status = (IsReachedAt status [] → ⊥) × ((all : List (List ℕ)) (n : ℕ) → IsNamedAt status all n) × ((at : ShelfSide) → IsRest status at at)

through_done : IsThrough Done
through_done = (λ h. omega (arith, h), λ all n. tt, λ at. refl)

through_read : IsThrough ReadFault
through_read = (λ h. omega (arith, h), λ all n. tt, λ at. refl)

through_much : IsThrough TooMuchInput
through_much = (λ h. omega (arith, h), λ all n. tt, λ at. refl)

did_leads : (input : Option (List ℕ)) (status : Status) (all : List (List ℕ)) (y : State) (a b : ShelfSide) (s t : SinkSide) → AreFirst input all → IsThrough status → (p : Did all new_state y a b s t)
    → IfSome input (λ input. Leads status b b p.events [] (up_to_quit (lines input)))
did_leads input status all y a b s t are_first through p =
    let many : length p.events ≡ length all = sym (length_lines p.events) ∙ ap length p.lines in
    if_some input _ _ are_first (λ input f. record {
      first = p.lines ∙ sym (take-append_seam all f.0) ∙ ap (take (length all)) (sym f.1) ∙ ap (λ n. take n (up_to_quit (lines input))) (sym many);
      begun = λ h. absurd (through.0 h);
      named = through.1 _ _;
      fetches = fetches_none b b _ refl;
    })

conversation_did : (limit : ℕ) (status : Status) (bytes : List ℕ) (all : List (List ℕ)) (y : State) (o q : Outside) → Consumes o.source.left q.source.left bytes → AreFirst (Some bytes) all → AreFirst o.source.left all
    → IsThrough status → Did all new_state y o.shelf q.shelf o.sink q.sink → HasDone limit status q.source.left bytes all [] → HasCauseOf limit status o q → o.source.faults ≤ q.source.faults → Conversation limit o q status
conversation_did limit status bytes all y o q took are_first are_told through p done cause reads =
    record {
      bytes = bytes;
      events = p.events;
      at = q.shelf;
      part = [];
      took = took;
      wrote = subst (Appends o.sink.taken q.sink.taken) (sym (append-nil (text_after new_state p.events))) p.wrote;
      answered = p.answered;
      rest = through.2 q.shelf;
      first = did_leads (Some bytes) status all y o.shelf q.shelf o.sink q.sink are_first through p;
      told = did_leads o.source.left status all y o.shelf q.shelf o.sink q.sink are_told through p;
      done = subst (λ l. HasDone limit status q.source.left bytes l []) (sym p.lines) done;
      cause = cause;
      elapses = elapses o q reads p.passes;
    }

-- some first ones of these lines were done, and then it broke off
broke_leads : (input : Option (List ℕ)) (status : Status) (all : List (List ℕ)) (a b : ShelfSide) (s t : SinkSide) → AreFirst input all → (p : Broke status all new_state a b s t)
    → IfSome input (λ input. Leads status p.at b p.events p.part (up_to_quit (lines input)))
broke_leads input status all a b s t are_first p =
    if_some input _ _ are_first (λ input f. record {
      first = p.lines ∙ sym (take-append-le (length p.events) all f.0 (no_more p.events all p.lines)) ∙ ap (take (length p.events)) (sym f.1);
      begun = λ h.
          let begun = p.begun h in
          record { event = begun.event; line = ap (λ l. slice_get l (length p.events)) f.1 ∙ get_before all f.0 _ _ begun.line; answered = begun.answered; some = begun.some; begins = begun.begins };
      named = subst (λ l. IsNamedAt status l (length p.events)) (sym f.1) (named_before status all f.0 _ p.named);
      fetches = subst (λ l. FetchesNext p.at b l (length p.events)) (sym f.1) (fetches_before p.at b all f.0 _ p.fetches);
    })

conversation_broke : (limit : ℕ) (status : Status) (bytes : List ℕ) (all : List (List ℕ)) (o q : Outside) → Consumes o.source.left q.source.left bytes → AreFirst (Some bytes) all → AreFirst o.source.left all
    → (p : Broke status all new_state o.shelf q.shelf o.sink q.sink) → IsRest status p.at q.shelf → HasDone limit status q.source.left bytes (lines_of p.events) p.part → HasCauseOf limit status o q → o.source.faults ≤ q.source.faults
    → Conversation limit o q status
conversation_broke limit status bytes all o q took are_first are_told p rest done cause reads =
    record {
      bytes = bytes;
      events = p.events;
      at = p.at;
      part = p.part;
      took = took;
      wrote = p.wrote;
      answered = p.answered;
      rest = rest;
      first = broke_leads (Some bytes) status all o.shelf q.shelf o.sink q.sink are_first p;
      told = broke_leads o.source.left status all o.shelf q.shelf o.sink q.sink are_told p;
      done = done;
      cause = cause;
      elapses = elapses o q reads p.passes;
    }

conversation_stopped : (limit : ℕ) (status : Status) (bytes : List ℕ) (all : List (List ℕ)) (o q : Outside) → Consumes o.source.left q.source.left bytes → AreFirst (Some bytes) all → AreFirst o.source.left all
    → length bytes ≤ limit → Broke status all new_state o.shelf q.shelf o.sink q.sink → q.source.faults ≡ o.source.faults → Conversation limit o q status
conversation_stopped limit Done bytes all o q took are_first are_told short p reads = absurd p.stops
conversation_stopped limit Usage bytes all o q took are_first are_told short p reads = absurd p.stops
conversation_stopped limit ReadFault bytes all o q took are_first are_told short p reads = absurd p.stops
conversation_stopped limit WriteFault bytes all o q took are_first are_told short p reads =
    conversation_broke limit WriteFault bytes all o q took are_first are_told p p.rest short (p.stops.0, reads, p.stops.1) (omega arith)
conversation_stopped limit NoMemory bytes all o q took are_first are_told short p reads =
    conversation_broke limit NoMemory bytes all o q took are_first are_told p p.rest short (reads, p.stops.0, p.stops.1) (omega arith)
conversation_stopped limit ShelfFault bytes all o q took are_first are_told short p reads =
    conversation_broke limit ShelfFault bytes all o q took are_first are_told p p.rest (short, p.at_status) (p.stops.0, reads, p.stops.1) (omega arith)
conversation_stopped limit TooMuchInput bytes all o q took are_first are_told short p reads = absurd p.stops

-- THE ENDS OF A CONVERSATION

-- Nothing more was done: what was done are the lines that a line feed ends, none of them a quit.
did_no_more : (limit left : ℕ) (kept : List ℕ) (x : State) (o p q : Outside) → (s : Stands limit left kept x o p) → Did [] x x p.shelf q.shelf p.sink q.sink
    → Did (whole_lines s.bytes) new_state x o.shelf q.shelf o.sink q.sink × (has_quit (whole_lines s.bytes) ≡ false)
did_no_more limit left kept x o p q s did =
    let none : has_quit (whole_lines s.bytes) ≡ false = sym (same_quit s.bytes) ∙ s.fed.flows in
    let whole = did_both _ _ _ _ _ _ _ _ _ _ _ (did_whole flows.GoesOn s.bytes kept _ _ _ _ _ _ s.fed) did in
    (subst (λ all. Did all new_state x o.shelf q.shelf o.sink q.sink) (append-nil (up_to_quit (whole_lines s.bytes)) ∙ up_none (whole_lines s.bytes) none) whole, none)

first_no_quit : (before : Option (List ℕ)) (bytes : List ℕ) → has_quit (whole_lines bytes) ≡ false → AreFirst before (up_to_quit (whole_lines bytes)) → AreFirst before (whole_lines bytes)
first_no_quit before bytes none p = subst (AreFirst before) (up_none (whole_lines bytes) none) p

-- a read failed
read_failed : (limit left : ℕ) (kept bytes : List ℕ) (x : State) (o p q : Outside) → Stands limit left kept x o p → Consumes p.source.left q.source.left bytes → bytes ≡ []
    → Rose p.source.faults q.source.faults → p.source.faults ≤ q.source.faults → Did [] x x p.shelf q.shelf p.sink q.sink → Conversation limit o q ReadFault
read_failed limit left kept bytes x o p q s took none rose reads did =
    let took_all : Consumes o.source.left q.source.left s.bytes = subst (Consumes o.source.left q.source.left) (ap (λ l. s.bytes ++ l) none ∙ append-nil s.bytes) (Consumes-trans _ _ _ _ _ s.took took) in
    let done = did_no_more limit left kept x o p q s did in
    conversation_did limit ReadFault s.bytes (whole_lines s.bytes) x o q took_all (first_no_quit (Some s.bytes) s.bytes done.1 (whole_of s.bytes)) (first_no_quit _ s.bytes done.1 (first_whole _ _ _ took_all)) through_read done.0
    (omega (arith, s.many), (refl, done.1), refl)
    (rose_wider o.source.faults p.source.faults q.source.faults q.source.faults (omega (arith, s.reads)) (omega arith) rose, done.0.calm.0, done.0.calm.1) (omega (arith, s.reads, reads))

-- a line of the bytes of a turn broke off
line_broke : (limit left : ℕ) (status : Status) (kept bytes : List ℕ) (x : State) (o p q : Outside) → Stands limit left kept x o p → Consumes p.source.left q.source.left bytes → length bytes ≤ left
    → q.source.faults ≡ p.source.faults → Broke status (up_to_quit (ended_lines kept bytes)) x p.shelf q.shelf p.sink q.sink → Conversation limit o q status
line_broke limit left status kept bytes x o p q s took short reads broke =
    let took_all = Consumes-trans _ _ _ _ _ s.took took in
    let whole = s.bytes ++ bytes in
    let stopped = broke_whole status whole new_state o.shelf q.shelf o.sink q.sink (fed_broke status [] s.bytes kept bytes new_state x _ _ _ _ _ _ s.fed broke) in
    conversation_stopped limit status whole (up_to_quit (whole_lines whole)) o q took_all (whole_of whole) (first_whole _ _ _ took_all) (omega (arith, s.many, length-append s.bytes bytes)) stopped (reads ∙ s.reads)

pub turn_broke : (limit left : ℕ) (status : Status) (kept : List ℕ) (x : State) (o p q : Outside) → Stands limit left kept x o p → TurnBroke status left kept x p q → Conversation limit o q status
turn_broke limit left Done kept x o p q s t = line_broke limit left Done kept t.bytes x o p q s t.took t.within t.stops.0 t.stops.1
turn_broke limit left Usage kept x o p q s t = line_broke limit left Usage kept t.bytes x o p q s t.took t.within t.stops.0 t.stops.1
turn_broke limit left ReadFault kept x o p q s t = read_failed limit left kept t.bytes x o p q s t.took t.stops.0 t.stops.1 t.reads t.stops.2
turn_broke limit left WriteFault kept x o p q s t = line_broke limit left WriteFault kept t.bytes x o p q s t.took t.within t.stops.0 t.stops.1
turn_broke limit left NoMemory kept x o p q s t = line_broke limit left NoMemory kept t.bytes x o p q s t.took t.within t.stops.0 t.stops.1
turn_broke limit left ShelfFault kept x o p q s t = line_broke limit left ShelfFault kept t.bytes x o p q s t.took t.within t.stops.0 t.stops.1
turn_broke limit left TooMuchInput kept x o p q s t = line_broke limit left TooMuchInput kept t.bytes x o p q s t.took t.within t.stops.0 t.stops.1

-- a line of the bytes of a turn was a quit
pub turn_quit : (limit left : ℕ) (kept kept_now : List ℕ) (x y : State) (o p q : Outside) → Stands limit left kept x o p → Turned left kept turns.Quits kept_now x y p q → Conversation limit o q Done
turn_quit limit left kept kept_now x y o p q s t =
    let took_all = Consumes-trans _ _ _ _ _ s.took t.took in
    let whole = s.bytes ++ t.bytes in
    let fed : Fed flows.Quits [] whole kept_now new_state y o.shelf q.shelf o.sink q.sink = fed_both flows.Quits [] s.bytes kept t.bytes kept_now new_state x y _ _ _ _ _ _ s.fed t.fed in
    let some : has_quit (whole_lines whole) ≡ true = sym (same_quit whole) ∙ fed.flows in
    let done = did_whole flows.Quits whole kept_now _ _ _ _ _ _ fed in
    conversation_did limit Done whole (up_to_quit (whole_lines whole)) y o q took_all (whole_of whole) (first_whole _ _ _ took_all) through_done done
    (omega (arith, s.many, t.within, length-append s.bytes t.bytes), sym (ap up_to_quit (lines_scanned whole) ∙ up_first (whole_lines whole) (last_lines (scan_rest [] whole)) some), refl, inr some)
    (t.reads ∙ s.reads, done.calm.0, done.calm.1) (omega (arith, s.reads, t.reads))

-- the source is at its end, and the last line broke off
last_broke : (limit left : ℕ) (status : Status) (kept : List ℕ) (x : State) (o p q : Outside) → Stands limit left kept x o p → q.source ≡ p.source → IsAtEnd p.source.left
    → Broke status (last_lines kept) x p.shelf q.shelf p.sink q.sink → Conversation limit o q status
last_broke limit left status kept x o p q s same end broke =
    let took : Consumes o.source.left q.source.left s.bytes = subst (λ (side : SourceSide). Consumes o.source.left side.left s.bytes) (sym same) s.took in
    let ended : IsAtEnd q.source.left = subst (λ (side : SourceSide). IsAtEnd side.left) (sym same) end in
    let stopped = broke_alike status _ _ new_state o.shelf q.shelf o.sink q.sink (alike_to_end s.bytes kept _ _ _ _ _ _ s.fed) (did_broke status _ _ _ _ _ _ _ _ _ _ s.fed.did broke) in
    conversation_stopped limit status s.bytes (up_to_quit (lines s.bytes)) o q took (all_of s.bytes) (first_all _ _ _ took ended) (omega (arith, s.many)) stopped
    (ap (λ (side : SourceSide). side.faults) same ∙ s.reads)

-- the source is at its end, and the last line was done
last_done : (limit left : ℕ) (kept : List ℕ) (x y : State) (o p q : Outside) → Stands limit left kept x o p → q.source ≡ p.source → IsAtEnd p.source.left
    → Did (last_lines kept) x y p.shelf q.shelf p.sink q.sink → Conversation limit o q Done
last_done limit left kept x y o p q s same end did =
    let took : Consumes o.source.left q.source.left s.bytes = subst (λ (side : SourceSide). Consumes o.source.left side.left s.bytes) (sym same) s.took in
    let ended : IsAtEnd q.source.left = subst (λ (side : SourceSide). IsAtEnd side.left) (sym same) end in
    let done = did_alike _ _ new_state y o.shelf q.shelf o.sink q.sink (alike_to_end s.bytes kept _ _ _ _ _ _ s.fed) (did_both _ _ _ _ _ _ _ _ _ _ _ s.fed.did did) in
    let reads : q.source.faults ≡ o.source.faults = ap (λ (side : SourceSide). side.faults) same ∙ s.reads in
    conversation_did limit Done s.bytes (up_to_quit (lines s.bytes)) y o q took (all_of s.bytes) (first_all _ _ _ took ended) through_done done (omega (arith, s.many), refl, refl, inl ended) (reads, done.calm.0, done.calm.1)
    (omega (arith, reads))

pub finished : (limit left : ℕ) (status : Status) (kept : List ℕ) (x y : State) (o p q : Outside) → Stands limit left kept x o p → q.source ≡ p.source → IsAtEnd p.source.left
    → Finishes status (last_lines kept) x y p.shelf q.shelf p.sink q.sink → Conversation limit o q status
finished limit left Done kept x y o p q s same end f = last_done limit left kept x y o p q s same end f
finished limit left Usage kept x y o p q s same end f = last_broke limit left Usage kept x o p q s same end f
finished limit left ReadFault kept x y o p q s same end f = last_broke limit left ReadFault kept x o p q s same end f
finished limit left WriteFault kept x y o p q s same end f = last_broke limit left WriteFault kept x o p q s same end f
finished limit left NoMemory kept x y o p q s same end f = last_broke limit left NoMemory kept x o p q s same end f
finished limit left ShelfFault kept x y o p q s same end f = last_broke limit left ShelfFault kept x o p q s same end f
finished limit left TooMuchInput kept x y o p q s same end f = last_broke limit left TooMuchInput kept x o p q s same end f

-- the source alone moved, and gave nothing
stands_moved : (limit left : ℕ) (kept bytes : List ℕ) (x : State) (o p : Outside) (side : SourceSide) → Stands limit left kept x o p → Consumes p.source.left side.left bytes → bytes ≡ [] → side.faults ≡ p.source.faults
    → Stands limit left kept x o (record { source = side; shelf = p.shelf; sink = p.sink })
stands_moved limit left kept bytes x o p side s took none reads = record {
  bytes = s.bytes;
  took = subst (Consumes o.source.left side.left) (ap (λ l. s.bytes ++ l) none ∙ append-nil s.bytes) (Consumes-trans _ _ _ _ _ s.took took);
  many = s.many;
  fed = s.fed;
  reads = reads ∙ s.reads;
}

limit_finished : (limit : ℕ) (status : Status) (kept bytes : List ℕ) (x y : State) (o p q : Outside) → Stands limit 0 kept x o p → Consumes p.source.left q.source.left bytes
    → (bytes ≡ []) × (q.source.faults ≡ p.source.faults) × IsAtEnd q.source.left × Finishes status (last_lines kept) x y p.shelf q.shelf p.sink q.sink → Conversation limit o q status
limit_finished limit status kept bytes x y o p q s took c =
    finished limit 0 status kept x y o (record { source = q.source; shelf = p.shelf; sink = p.sink }) q (stands_moved limit 0 kept bytes x o p q.source s took c.0 c.1) refl c.2 c.3

exceeds : (before now : Option (List ℕ)) (front bytes : List ℕ) → Consumes before now (front ++ bytes) → 0 < length bytes → has_quit (whole_lines front) ≡ false → IfSome before (Exceeds (length front))
exceeds None now front bytes took some none = tt
exceeds (Some input) None front bytes took some none = absurd took
exceeds (Some input) (Some rest) front bytes took some none = (
  omega (arith, ap length took, length-append (front ++ bytes) rest, length-append front bytes, some),
  ap (λ l. has_quit (whole_lines (take (length front) l))) took
      ∙ ap (λ l. has_quit (whole_lines l)) (take-append-le (length front) (front ++ bytes) rest (omega (arith, length-append front bytes)) ∙ take-append_seam front bytes) ∙ none,
)

-- one byte more came than may be taken
too_much : (limit : ℕ) (kept bytes : List ℕ) (x : State) (o p q : Outside) → Stands limit 0 kept x o p → Consumes p.source.left q.source.left bytes → length bytes ≡ 1 → q.source.faults ≡ p.source.faults
    → Did [] x x p.shelf q.shelf p.sink q.sink → Conversation limit o q TooMuchInput
too_much limit kept bytes x o p q s took one reads did =
    let took_all = Consumes-trans _ _ _ _ _ s.took took in
    let whole = s.bytes ++ bytes in
    let many : length whole ≡ limit + 1 = omega (arith, s.many, length-append s.bytes bytes) in
    let all_of_it : length s.bytes ≡ limit = omega (arith, s.many) in
    let front : take limit whole ≡ s.bytes = ap (λ n. take n whole) (sym all_of_it) ∙ take-append_seam s.bytes bytes in
    let done = did_no_more limit 0 kept x o p q s did in
    conversation_did limit TooMuchInput whole (whole_lines s.bytes) x o q took_all (first_no_quit (Some whole) s.bytes done.1 (first_whole (Some whole) (Some bytes) s.bytes refl)) (first_no_quit _ s.bytes done.1 (first_whole _ _ _ s.took)) through_much done.0
    (many, (ap whole_lines (sym front), ap (λ l. has_quit (whole_lines l)) front ∙ done.1), refl)
    ((reads ∙ s.reads, done.0.calm.0, done.0.calm.1), subst (λ n. IfSome o.source.left (Exceeds n)) all_of_it (exceeds _ _ s.bytes bytes took_all (omega arith) done.1)) (omega (arith, s.reads, reads))

pub limit_reached : (limit : ℕ) (status : Status) (kept : List ℕ) (x y : State) (o p q : Outside) → Stands limit 0 kept x o p → AtLimit status kept x y p q → Conversation limit o q status
limit_reached limit Done kept x y o p q s a = limit_finished limit Done kept a.bytes x y o p q s a.took a.comes
limit_reached limit Usage kept x y o p q s a = limit_finished limit Usage kept a.bytes x y o p q s a.took a.comes
limit_reached limit ReadFault kept x y o p q s a = read_failed limit 0 kept a.bytes x o p q s a.took a.comes.0 a.comes.1 a.reads a.comes.2
limit_reached limit WriteFault kept x y o p q s a = limit_finished limit WriteFault kept a.bytes x y o p q s a.took a.comes
limit_reached limit NoMemory kept x y o p q s a = limit_finished limit NoMemory kept a.bytes x y o p q s a.took a.comes
limit_reached limit ShelfFault kept x y o p q s a = limit_finished limit ShelfFault kept a.bytes x y o p q s a.took a.comes
limit_reached limit TooMuchInput kept x y o p q s a = too_much limit kept a.bytes x o p q s a.took a.comes.0 a.comes.1 a.comes.2

-- no conversation ends with `Usage`

pub turn_not_usage : (status : Status) (most : ℕ) (kept : List ℕ) (x : State) (p q : Outside) → TurnBroke status most kept x p q → status ≡ Usage → ⊥
turn_not_usage status most kept x p q t is = let u : TurnBroke Usage most kept x p q = subst (λ s. TurnBroke s most kept x p q) is t in u.stops.1.stops

pub finish_not_usage : (status : Status) (all : List (List ℕ)) (x y : State) (a b : ShelfSide) (s t : SinkSide) → Finishes status all x y a b s t → status ≡ Usage → ⊥
finish_not_usage status all x y a b s t f is = let u : Broke Usage all x a b s t = subst (λ status. Finishes status all x y a b s t) is f in u.stops

pub limit_not_usage : (status : Status) (kept : List ℕ) (x y : State) (p q : Outside) → AtLimit status kept x y p q → status ≡ Usage → ⊥
limit_not_usage status kept x y p q a is = let u : AtLimit Usage kept x y p q = subst (λ s. AtLimit s kept x y p q) is a in u.comes.3.stops
