-- What a conversation says where the outside tells what it holds, and where no count rose.
use Rattle.std.proofs.Common.{◌≡◌, ℕ, ◌+◌, ◌-◌, ◌≤◌, ◌⊎◌, List, [], ◌∷◌, ◌++◌, length, map, take, true, refl, sym, ap, ◌∙◌, subst, arith, append-nil, Option, Some, None, IfSome, IsSomeAnd, inl, inr}
use Rattle.std.proofs.Math.Seq.{take-append-add}
use Rattle.std.specs.List.{AllByRecursion}
use Rattle.std.specs.Str.Lines.{lines}
use Rattle.std.specs.Io.KnownBytes.{Appends, Consumes, IsAtEnd}
use Rattle.std.proofs.KnownBytes.{Appends-nil, Consumes-nil}
use Rattle.ms_outside.specs.Shelves.{File, answer_of}
use Rattle.ms_session.specs.Outside.{ShelfSide}
use Rattle.ms_session.specs.States.{new_state}
use Rattle.ms_memoise.specs.declared.status.Status.{Status}
use Rattle.ms_memoise.specs.declared.status.Status.TheVariants.{Done, Usage, ReadFault, WriteFault, NoMemory, ShelfFault, TooMuchInput}
use Rattle.ms_memoise.specs.Lines.{whole_lines}
use Rattle.ms_memoise.specs.Events.{AreAnswered, Event, asked, event_of, has_quit, lines_of, replies, text_after, up_to_quit}
use Rattle.ms_memoise.specs.Conversations.{Conversation, Exceeds, Fits, IsDoneUnlessRisen, IsOver, IsTooMuchUnlessRisen, Leads, Outside}
use Rattle.ms_memoise.proofs.Fetching.{fetches_none}
use Rattle.ms_memoise.proofs.Spans.{counts_same}
use Rattle.ms_memoise.proofs.UpTo.{has_first, up_first}
use Rattle.ms_memoise.proofs.Scanning.{lines_append, lines_scanned, whole_append}

if_some_each : (o : Option (List ℕ)) (Q : List ℕ → Type 0) → ((x : List ℕ) → Q x) → IfSome o Q
if_some_each None Q f = tt
if_some_each (Some x) Q f = f x

nothing_leads : (o : Outside) (input : List ℕ) → Leads Usage o.shelf o.shelf [] [] (up_to_quit (lines input))
nothing_leads o input = record { first = refl; begun = λ h. absurd (omega arith); named = tt; fetches = fetches_none o.shelf o.shelf _ refl }

-- nothing was read, done or written
pub conversation_of_usage : (limit : ℕ) (o : Outside) → Conversation limit o o Usage
conversation_of_usage limit o = record {
  bytes = [];
  events = [];
  at = o.shelf;
  part = [];
  took = Consumes-nil o.source.left;
  wrote = Appends-nil o.sink.taken;
  answered = refl;
  rest = refl;
  first = nothing_leads o [];
  told = if_some_each o.source.left _ (nothing_leads o);
  done = (refl, refl, refl);
  cause = (refl, refl, refl);
  elapses = record { reads = omega arith; writes = omega arith; fetches = counts_same o.shelf.counts; files = refl };
}

-- the answers of an event are these files'
abbrev IsToldBy : List File → Event → Type 0
IsToldBy files event = event.answers ≡ map (answer_of files) (asked event.line)

events_told : (files : List File) (events : List Event) → AllByRecursion (IsToldBy files) events → events ≡ map (event_of files) (lines_of events)
events_told files [] told = refl
events_told files (event ∷ events) told =
    let first : event ≡ event_of files event.line = ap (λ answers. record { line = event.line; answers = answers }) told.0 in
    ap (λ e. e ∷ events) first ∙ ap (λ es. event_of files event.line ∷ es) (events_told files events told.1)

all_told : (files : Option (List File)) (before now : ShelfSide) (events : List Event) → before.files ≡ files → AreAnswered before now events
    → AllByRecursion (λ event. IfSome files (λ files. IsToldBy files event)) events
all_told files before now [] is are = tt
all_told files before now (event ∷ events) is are = (subst (λ files. IfSome files (λ files. IsToldBy files event)) is are.answered.given.told, all_told files are.between now events (are.answered.passes.files ∙ is) are.others)

-- THE LINES DONE

-- the lines of the bytes taken, up to a quit, are those of the input
pub whole_input : (input bytes rest : List ℕ) → input ≡ bytes ++ rest → IsOver (Some rest) bytes → up_to_quit (lines bytes) ≡ up_to_quit (lines input)
whole_input input bytes rest took (inl end) = ap (λ l. up_to_quit (lines l)) (sym (took ∙ ap (λ l. bytes ++ l) end ∙ append-nil bytes))
whole_input input bytes rest took (inr some) =
    ap up_to_quit (lines_scanned bytes) ∙ up_first (whole_lines bytes) _ some ∙ sym (up_first (whole_lines bytes) _ some) ∙ ap up_to_quit (sym (lines_append bytes rest)) ∙ ap (λ l. up_to_quit (lines l)) (sym took)

replied_told : (files : List File) (input bytes rest : List ℕ) (events : List Event) (taken taken_now : Option (List ℕ)) → input ≡ bytes ++ rest → IsOver (Some rest) bytes → lines_of events ≡ up_to_quit (lines bytes)
    → AllByRecursion (IsToldBy files) events → Appends taken taken_now (text_after new_state events) → Appends taken taken_now (replies files input)
replied_told files input bytes rest events taken taken_now took over lines_are told wrote =
    subst (λ es. Appends taken taken_now (text_after new_state es)) (events_told files events told ∙ ap (map (event_of files)) (lines_are ∙ whole_input input bytes rest took over)) wrote

replied_at : (left left_now : Option (List ℕ)) (files : Option (List File)) (bytes : List ℕ) (events : List Event) (taken taken_now : Option (List ℕ)) → Consumes left left_now bytes → IsOver left_now bytes
    → lines_of events ≡ up_to_quit (lines bytes) → AllByRecursion (λ event. IfSome files (λ files. IsToldBy files event)) events → Appends taken taken_now (text_after new_state events)
    → IfSome left (λ input. IfSome files (λ files. Appends taken taken_now (replies files input)))
replied_at None left_now files bytes events taken taken_now took over lines_are told wrote = tt
replied_at (Some input) None files bytes events taken taken_now took over lines_are told wrote = absurd took
replied_at (Some input) (Some rest) None bytes events taken taken_now took over lines_are told wrote = tt
replied_at (Some input) (Some rest) (Some files) bytes events taken taken_now took over lines_are told wrote =
    replied_told files input bytes rest events taken taken_now took over lines_are told wrote

-- where the source and the shelf tell what they hold, the sink took the replies
pub replied : (limit : ℕ) (o q : Outside) → Conversation limit o q Done → IfSome o.source.left (λ input. IfSome o.shelf.files (λ files. Appends o.sink.taken q.sink.taken (replies files input)))
replied limit o q c =
    replied_at o.source.left q.source.left o.shelf.files c.bytes c.events o.sink.taken q.sink.taken c.took c.done.3 c.done.1 (all_told _ o.shelf c.at c.events refl c.answered)
    (subst (Appends o.sink.taken q.sink.taken) (ap (λ l. text_after new_state c.events ++ l) c.done.2 ∙ append-nil (text_after new_state c.events)) c.wrote)

-- a quit among the lines that a line feed ends is one among the lines of the input
quit_of_input : (input bytes rest : List ℕ) → input ≡ bytes ++ rest → has_quit (whole_lines bytes) ≡ true → has_quit (lines input) ≡ true
quit_of_input input bytes rest took some = ap (λ l. has_quit (lines l)) took ∙ ap has_quit (lines_append bytes rest) ∙ has_first (whole_lines bytes) _ some

ended_at : (left left_now : Option (List ℕ)) (bytes : List ℕ) → Consumes left left_now bytes → IsOver left_now bytes → IsAtEnd left_now ⊎ IfSome left (λ input. has_quit (lines input) ≡ true)
ended_at left left_now bytes took (inl end) = inl end
ended_at None left_now bytes took (inr some) = inr tt
ended_at (Some input) None bytes took (inr some) = absurd took
ended_at (Some input) (Some rest) bytes took (inr some) = inr (quit_of_input input bytes rest took some)

-- the source has none left, or a quit is among the lines of the input
pub ended : (limit : ℕ) (o q : Outside) → Conversation limit o q Done → IsAtEnd q.source.left ⊎ IfSome o.source.left (λ input. has_quit (lines input) ≡ true)
ended limit o q c = ended_at o.source.left q.source.left c.bytes c.took c.done.3

-- THE LENGTH OF THE INPUT

-- a quit among the lines that a line feed ends is one of those of the first bytes, however many
quit_within : (limit : ℕ) (bytes rest : List ℕ) → length bytes ≤ limit → has_quit (whole_lines bytes) ≡ true → has_quit (whole_lines (take limit (bytes ++ rest))) ≡ true
quit_within limit bytes rest short some =
    let many : limit ≡ length bytes + (limit - length bytes) = omega (arith, short) in
    let more : List ℕ = take (limit - length bytes) rest in
    ap (λ n. has_quit (whole_lines (take n (bytes ++ rest)))) many ∙ ap (λ l. has_quit (whole_lines l)) (take-append-add bytes rest (limit - length bytes))
    ∙ ap has_quit (whole_append bytes more) ∙ has_first (whole_lines bytes) _ some

fits_at : (limit : ℕ) (left left_now : Option (List ℕ)) (bytes : List ℕ) → Consumes left left_now bytes → IsOver left_now bytes → length bytes ≤ limit → IfSome left (Fits limit)
fits_at limit None left_now bytes took over short = tt
fits_at limit (Some input) None bytes took over short = absurd took
fits_at limit (Some input) (Some rest) bytes took (inl end) short = inl (subst (λ l. length l ≤ limit) (sym (took ∙ ap (λ l. bytes ++ l) end ∙ append-nil bytes)) short)
fits_at limit (Some input) (Some rest) bytes took (inr some) short = inr (ap (λ l. has_quit (whole_lines (take limit l))) took ∙ quit_within limit bytes rest short some)

pub fits : (limit : ℕ) (o q : Outside) → Conversation limit o q Done → IfSome o.source.left (Fits limit)
fits limit o q c = fits_at limit o.source.left q.source.left c.bytes c.took c.done.3 c.done.0

not_both : (limit : ℕ) (input : List ℕ) → Fits limit input → Exceeds limit input → ⊥
not_both limit input (inl short) long = omega (arith, long.0)
not_both limit input (inr some) long = absurd (cc (some, long.1))

too_long : (limit : ℕ) (left : Option (List ℕ)) → IsSomeAnd left (Fits limit) → IfSome left (Exceeds limit) → ⊥
too_long limit None short long = short
too_long limit (Some input) short long = not_both limit input short long

-- a run ends well, or a count rose
pub ends_well : (limit : ℕ) (status : Status) (o q : Outside) → Conversation limit o q status → (status ≡ Usage → ⊥) → IsSomeAnd o.source.left (Fits limit) → IsDoneUnlessRisen status o q
ends_well limit Done o q c words short = inl refl
ends_well limit Usage o q c words short = absurd (words refl)
ends_well limit ReadFault o q c words short = inr (inr (inl c.cause.0))
ends_well limit WriteFault o q c words short = inr (inr (inr (inl c.cause.0)))
ends_well limit NoMemory o q c words short = inr (inl refl)
ends_well limit ShelfFault o q c words short = inr (inr (inr (inr c.cause.0)))
ends_well limit TooMuchInput o q c words short = absurd (too_long limit o.source.left short c.cause.1)

-- more bytes come than may be taken, or a count rose
not_short : (limit : ℕ) (left : Option (List ℕ)) → IsSomeAnd left (Exceeds limit) → IfSome left (Fits limit) → ⊥
not_short limit None long short = long
not_short limit (Some input) long short = not_both limit input short long

pub ends_beyond : (limit : ℕ) (status : Status) (o q : Outside) → Conversation limit o q status → (status ≡ Usage → ⊥) → IsSomeAnd o.source.left (Exceeds limit) → IsTooMuchUnlessRisen status o q
ends_beyond limit Done o q c words long = absurd (not_short limit o.source.left long (fits limit o q c))
ends_beyond limit Usage o q c words long = absurd (words refl)
ends_beyond limit ReadFault o q c words long = inr (inr (inl c.cause.0))
ends_beyond limit WriteFault o q c words long = inr (inr (inr (inl c.cause.0)))
ends_beyond limit NoMemory o q c words long = inr (inl refl)
ends_beyond limit ShelfFault o q c words long = inr (inr (inr (inr c.cause.0)))
ends_beyond limit TooMuchInput o q c words long = inl refl
