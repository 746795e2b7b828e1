-- What a line does: a command is run, and a line that is none is refused.
use Rattle.std.proofs.Common.{◌≡◌, ◌≢◌, ◌<◌, ℕ, zero, suc, List, [], ◌∷◌, ◌++◌, length, take, map, refl, sym, ap, ◌∙◌, subst, arith, append-nil, Option, Some, None, IfSome, Result, Ok, Err, MatchResult}
use Rattle.std.specs.Io.KnownBytes.{Appends}
use Rattle.ms_outside.specs.Shelves.{Answer, File, answer_of}
use Rattle.ms_command.specs.declared.command.Command.{Command}
use Rattle.ms_command.specs.declared.reply.Reply.{Reply}
use Rattle.ms_command.specs.Commands.{command_of}
use Rattle.ms_command.specs.Texts.{reply_text}
use Rattle.ms_session.specs.declared.stop.Stop.{Stop}
use Rattle.ms_session.specs.declared.stop.Stop.TheVariants as stops
use Rattle.ms_session.specs.Commands.{NamesFile, IsPartFor, IsReached, StopsFor}
use Rattle.ms_session.proofs.Writing.{reply_has_text}
use Rattle.ms_memoise.specs.Conversations.{IsNamedAt, IsReachedAt}
use Rattle.ms_session.specs.Outside.{AreAnswers, FetchesSome, ShelfPasses, ShelfSide, SinkSide}
use Rattle.ms_session.specs.Steps.{names_in}
use Rattle.ms_session.specs.States.{State}
use Rattle.ms_memoise.specs.declared.status.Status.{Status}
use Rattle.ms_memoise.specs.declared.status.Status.TheVariants.{Done, Usage, ReadFault, WriteFault, NoMemory, ShelfFault, TooMuchInput}
use Rattle.ms_memoise.specs.declared.flow.Flow.{Flow}
use Rattle.ms_memoise.specs.Events.{IsAnswered, names_of, next_for, quits}
use Rattle.ms_memoise.specs.Feeding.{Broke, Halted, Hushed, Hushes, IsFlow, IsPartAt, Ran, Responded, Said, Stops, status_of}
use Rattle.ms_memoise.proofs.Fetching.{fetches_none}
use Rattle.ms_memoise.proofs.Spans.{shelf_same}

-- A LINE THAT IS A COMMAND

answered_by : (line : List ℕ) (command : Command) (a b : ShelfSide) (answers : List Answer) → command_of line ≡ Ok command → AreAnswers a b (names_in command) answers → ShelfPasses a b → (names_in command ≡ [] → b ≡ a)
    → IsAnswered a b (record { line = line; answers = answers })
answered_by line command a b answers is given passes unchanged = record {
  given = subst (λ c. AreAnswers a b (names_of c) answers) (sym is) given;
  passes = passes;
  unchanged = subst (λ c. names_of c ≡ [] → b ≡ a) (sym is) unchanged;
}

ran : (flow : Flow) (line : List ℕ) (command : Command) (x y : State) (a b : ShelfSide) (s t : SinkSide) → command_of line ≡ Ok command → Ran flow command x y a b s t → Responded flow line x y a b s t
ran flow line command x y a b s t is r =
    let answers = r.done.answers in
    record {
      did = record {
        events = record { line = line; answers = answers } ∷ [];
        lines = refl;
        answered = record { between = b; answered = answered_by line command a b answers is r.done.given r.done.passes.on_shelf r.done.unchanged; others = refl };
        wrote = subst (λ c. Appends s.taken t.taken ((next_for x c answers).text ++ [])) (sym is) (subst (Appends s.taken t.taken) (sym (append-nil _)) r.done.wrote);
        state_is = r.done.state_is ∙ ap (λ c. (next_for x c answers).state) (sym is);
        passes = r.done.passes;
        calm = r.done.calm;
      };
      flows = subst (λ c. IsFlow flow (quits c)) (sym is) r.flows;
    }

halts : (stop : Stop) (a b : ShelfSide) (s t : SinkSide) → StopsFor stop a b s t → Stops (status_of stop) a b s t
halts stops.ShelfFault a b s t h = h
halts stops.WriteFault a b s t h = h
halts stops.NoMemory a b s t h = h

part_at : (stop : Stop) (part : List ℕ) → IsPartFor stop part → IsPartAt (status_of stop) part
part_at stops.ShelfFault part h = h
part_at stops.WriteFault part h = h
part_at stops.NoMemory part h = h

-- there was something to write
reached : (stop : Stop) (part : List ℕ) → IsReachedAt (status_of stop) part → IsReached stop part
reached stops.ShelfFault part h = h
reached stops.WriteFault part h = h
reached stops.NoMemory part h = h

names_at : (stop : Stop) (line : List ℕ) (command : Command) → command_of line ≡ Ok command → NamesFile stop command → IsNamedAt (status_of stop) (line ∷ []) 0
names_at stops.ShelfFault line command is asks = record { line = line; is = refl; names = subst (λ c. names_of c ≢ []) (sym is) asks }
names_at stops.WriteFault line command is asks = tt
names_at stops.NoMemory line command is asks = tt

halted : (status : Status) (line : List ℕ) (command : Command) (x : State) (a b : ShelfSide) (s t : SinkSide) → command_of line ≡ Ok command → Halted status command x a b s t → Broke status (line ∷ []) x a b s t
halted status line command x a b s t is h = record {
  events = [];
  part = h.stopped.part;
  lines = refl;
  at = a;
  begun = λ some. let begins = h.stopped.begun (reached h.stop h.stopped.part (subst (λ status. IsReachedAt status h.stopped.part) h.is some)) in record {
    event = record { line = line; answers = begins.answers };
    line = refl;
    answered = answered_by line command a b begins.answers is begins.given h.stopped.passes.on_shelf h.stopped.unchanged;
    some = subst (λ c. 0 < length (next_for x c begins.answers).text) (sym is) begins.some;
    begins = ap (λ c. take (length h.stopped.part) (next_for x c begins.answers).text) is ∙ begins.first;
  };
  named = subst (λ status. IsNamedAt status (line ∷ []) 0) (sym h.is) (names_at h.stop line command is h.stopped.names);
  fetches = subst (λ c. FetchesSome a b (names_of c)) (sym is) h.stopped.fetches;
  answered = refl;
  rest = h.stopped.passes.on_shelf;
  wrote = h.stopped.wrote;
  stops = subst (λ status. Stops status a b s t) (sym h.is) (halts h.stop a b s t h.stopped.stops);
  at_status = subst (λ status. IsPartAt status h.stopped.part) (sym h.is) (part_at h.stop h.stopped.part h.stopped.at_stop);
  passes = h.stopped.passes;
}

-- it was done, or it broke off
pub ran_or_halted : (result : Result Flow Status) (line : List ℕ) (command : Command) (x y : State) (a b : ShelfSide) (s t : SinkSide) → command_of line ≡ Ok command
    → MatchResult result (λ flow. Ran flow command x y a b s t) (λ status. Halted status command x a b s t)
    → MatchResult result (λ flow. Responded flow line x y a b s t) (λ status. Broke status (line ∷ []) x a b s t)
ran_or_halted (Ok flow) line command x y a b s t is p = ran flow line command x y a b s t is p
ran_or_halted (Err status) line command x y a b s t is p = halted status line command x a b s t is p

-- A LINE THAT IS NONE

told_none : (files : Option (List File)) → IfSome files (λ files. [] ≡ map (answer_of files) [])
told_none None = tt
told_none (Some files) = refl

no_answers : (a : ShelfSide) → AreAnswers a a [] []
no_answers a = record { each = refl; asked = sym (append-nil a.asked); size = tt; causes = tt; told = told_none a.files }

none_of : (line : List ℕ) (reply : Reply) (a : ShelfSide) → command_of line ≡ Err reply → IsAnswered a a (record { line = line; answers = [] })
none_of line reply a is = record {
  given = subst (λ c. AreAnswers a a (names_of c) []) (sym is) (no_answers a);
  passes = shelf_same a;
  unchanged = λ none. refl;
}

said : (flow : Flow) (line : List ℕ) (reply : Reply) (x : State) (a : ShelfSide) (s t : SinkSide) → command_of line ≡ Err reply → Said flow reply s t → Responded flow line x x a a s t
said flow line reply x a s t is r = record {
  did = record {
    events = record { line = line; answers = [] } ∷ [];
    lines = refl;
    answered = record { between = a; answered = none_of line reply a is; others = refl };
    wrote = subst (λ c. Appends s.taken t.taken ((next_for x c []).text ++ [])) (sym is) (subst (Appends s.taken t.taken) (sym (append-nil _)) r.wrote);
    state_is = ap (λ c. (next_for x c []).state) (sym is);
    passes = record { on_shelf = shelf_same a; writes = omega (arith, r.steady) };
    calm = (refl, r.steady);
  };
  flows = subst (λ flow. IsFlow flow (quits (command_of line))) (sym r.on) (ap quits is);
}

take_of_take : (n : ℕ) (xs : List ℕ) → take (length (take n xs)) xs ≡ take n xs
take_of_take zero xs = refl
take_of_take (suc n) [] = refl
take_of_take (suc n) (x ∷ xs) = ap (λ l. x ∷ l) (take_of_take n xs)

hushes : (status : Status) (a : ShelfSide) (s t : SinkSide) (part : List ℕ) → Hushes status s t → Stops status a a s t × IsPartAt status part × ((all : List (List ℕ)) → IsNamedAt status all 0)
hushes Done a s t part h = absurd h
hushes Usage a s t part h = absurd h
hushes ReadFault a s t part h = absurd h
hushes WriteFault a s t part h = ((h, refl), tt, λ all. tt)
hushes NoMemory a s t part h = ((refl, h), tt, λ all. tt)
hushes ShelfFault a s t part h = absurd h
hushes TooMuchInput a s t part h = absurd h

hushed : (status : Status) (line : List ℕ) (reply : Reply) (x : State) (a : ShelfSide) (s t : SinkSide) → command_of line ≡ Err reply → Hushed status reply s t → Broke status (line ∷ []) x a a s t
hushed status line reply x a s t is h =
    let part : List ℕ = take h.many (reply_text reply) in
    record {
      events = [];
      part = part;
      lines = refl;
      at = a;
      begun = λ some. record {
        event = record { line = line; answers = [] };
        line = refl;
        answered = none_of line reply a is;
        some = subst (λ c. 0 < length (next_for x c []).text) (sym is) (reply_has_text reply);
        begins = ap (λ c. take (length part) (next_for x c []).text) is ∙ take_of_take h.many (reply_text reply);
      };
      named = (hushes status a s t part h.why).2 (line ∷ []);
      fetches = fetches_none a a _ refl;
      answered = refl;
      rest = shelf_same a;
      wrote = h.wrote;
      stops = (hushes status a s t part h.why).0;
      at_status = (hushes status a s t part h.why).1;
      passes = record { on_shelf = shelf_same a; writes = h.grows };
    }

-- it was written, or it broke off
pub said_or_hushed : (result : Result Flow Status) (line : List ℕ) (reply : Reply) (x : State) (a : ShelfSide) (s t : SinkSide) → command_of line ≡ Err reply
    → MatchResult result (λ flow. Said flow reply s t) (λ status. Hushed status reply s t)
    → MatchResult result (λ flow. Responded flow line x x a a s t) (λ status. Broke status (line ∷ []) x a a s t)
said_or_hushed (Ok flow) line reply x a s t is p = said flow line reply x a s t is p
said_or_hushed (Err status) line reply x a s t is p = hushed status line reply x a s t is p
