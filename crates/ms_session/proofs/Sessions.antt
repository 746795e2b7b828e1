-- What a session does with its entry.
use Rattle.std.proofs.Common.{◌≡◌, ◌<◌, length, take, ℕ, Bool, true, false, List, [], ◌∷◌, Option, Some, None, refl, sym, ap, subst, ◌∙◌, arith, append-nil}
use Rattle.std.specs.Io.KnownBytes.{Appends}
use Rattle.std.proofs.KnownBytes.{Appends-nil}
use Rattle.ms_command.specs.declared.command.Command.{Command}
use Rattle.ms_session.specs.declared.output.Output.{Output}
use Rattle.ms_session.specs.declared.stop.Stop.{Stop}
use Rattle.ms_session.specs.declared.stop.Stop.TheVariants as stops
use Rattle.std.specs.declared.alloc.AllocError.{AllocError}
use Rattle.ms_outside.specs.Shelves.{Answer, File}
use Rattle.ms_command.specs.declared.reply.Reply as reply
use Rattle.ms_command.specs.declared.command.Command.TheVariants as commands
use Rattle.ms_session.specs.Outside.{AreAnswers, FetchesSome, ShelfPasses, ShelfSide, SinkSide}
use Rattle.ms_session.specs.Commands.{NamesFile, Done, IsPartFor, IsReached, Stopped, StopsFor}
use Rattle.ms_session.specs.Writing.{HasText, WriteCause, WriteStops}
use Rattle.ms_session.proofs.Writing.{short_take, take_of_take}
use Rattle.std.specs.Prelude.{ℤ, cond, codes, map, not, Result, Ok, Err, IfOk, IsOk, IsErr, IsErrAnd, IfSome, MatchResult}
use Rattle.std.specs.Str.{bytes_eq}
use Rattle.std.specs.List.{list_all}
use Rattle.std.specs.Global.{Vec}
use Rattle.ms_command.specs.declared.reply.Reply.TheVariants.{EntryMissing, Explored, NotBuilt, Unfinished, Unknown}
use Rattle.ms_command.specs.Texts.{reply_text}
use Rattle.ms_classfile.specs.ThinFile.{Method}
use Rattle.ms_classfile.specs.Reading.{thin_method}
use Rattle.ms_jvm.specs.Programs.{program_of}
use Rattle.ms_session.specs.declared.output.Output.TheVariants.{Reply, Report}
use Rattle.ms_session.specs.Known.{Known, explore}
use Rattle.ms_trie.specs.declared.row.PathRow.{PathRow}
use Rattle.ms_session.specs.Paths.{report}
use Rattle.ms_session.specs.States.{State, class_named, is_boolean}
use Rattle.ms_session.specs.Once.{once_reply}
use Rattle.ms_session.specs.Steps.{entry_next, explore_next, how_far, is_entry, is_unfinished, names_in, names_with, next, report_next, reported}
use Rattle.ms_session.specs.Sessions.{FetchCause, IsShort, Leads, Prepared, PrepareStops, Says, Unanswered, classes_in, entry_in, listed, output_text}

-- the entry is the method of the file
pub entry_is : (has_entry : Bool) (file : Option (Vec ℕ)) (bytes : Vec ℕ) (method : Method) → has_entry ≡ true → file ≡ Some bytes → thin_method bytes.items ≡ Some method → entry_in has_entry file ≡ Some method
entry_is has_entry file bytes method has is read = rw (has, is) read

pub explored_leads : (state : State) (most settled asks : ℕ) (method : Method) (known : Known) (unfinished : Bool) (how : List ℕ) → state.entry ≡ Some method
    → known ≡ (explore (program_of method) state.depth most state.known).known
    → settled ≡ (explore (program_of method) state.depth most state.known).settled → asks ≡ (explore (program_of method) state.depth most state.known).asks
    → unfinished ≡ is_unfinished (program_of method) state.depth known → how ≡ cond unfinished (codes "unfinished") (codes "finished")
    → Says (explore_next state most state.entry) (Explored settled asks how) (record state { known = known })
explored_leads state most settled asks method known unfinished how entry known_is settled_is asks_is unfinished_is how_is =
    let P = program_of method in
    let e = explore P state.depth most state.known in
    let far : how ≡ how_far P state.depth e.known = how_is ∙ ap (λ b. cond b (codes "unfinished") (codes "finished")) (unfinished_is ∙ ap (is_unfinished P state.depth) known_is) in
    record {
      text =
          ap (λ o. (explore_next state most o).text) entry
          ∙ ap (λ n. reply_text (Explored n e.asks (how_far P state.depth e.known))) (sym settled_is)
          ∙ ap (λ n. reply_text (Explored settled n (how_far P state.depth e.known))) (sym asks_is)
          ∙ ap (λ h. reply_text (Explored settled asks h)) (sym far);
      state_is = ap (λ o. (explore_next state most o).state) entry ∙ ap (λ k. record state { known = k }) (sym known_is);
    }

pub unfinished_leads : (state : State) (method : Method) → state.entry ≡ Some method → is_unfinished (program_of method) state.depth state.known ≡ true → Leads (report_next state state.entry) (Reply Unfinished) state
unfinished_leads state method entry is = record {
  text = ap (λ o. (report_next state o).text) entry ∙ rw is refl;
  state_is = ap (λ o. (report_next state o).state) entry ∙ rw is refl;
}

pub report_leads : (state : State) (method : Method) (names : Vec (List ℕ)) (rows : Vec PathRow) → state.entry ≡ Some method → is_unfinished (program_of method) state.depth state.known ≡ false → names.items ≡ names_with method → rows.items ≡ report (program_of method) state.depth
    → Leads (report_next state state.entry) (Report names rows) state
report_leads state method names rows entry is names_are rows_are = record {
  text = ap (λ o. (report_next state o).text) entry ∙ rw is (ap (reported (names_with method)) (sym rows_are) ∙ ap (λ l. reported l rows.items) (sym names_are));
  state_is = ap (λ o. (report_next state o).state) entry ∙ rw is refl;
}

-- ---- WHAT A COMMAND DID

pub done_all : (command : Command) (state state_now : State) (output : Output) (shelf shelf_now : ShelfSide) (sink sink_now : SinkSide) → Prepared command state state_now output shelf shelf_now
    → Appends sink.taken sink_now.taken (output_text output) → sink_now.faults ≡ sink.faults → Done command state state_now shelf shelf_now sink sink_now
done_all command state state_now output shelf shelf_now sink sink_now p wrote steady = record {
  answers = p.answers;
  given = p.given;
  wrote = subst (Appends sink.taken sink_now.taken) (sym p.leads.text) wrote;
  state_is = sym p.leads.state_is;
  unchanged = p.unchanged;
  passes = record { on_shelf = p.passes; writes = omega (arith, steady) };
  calm = (p.calm, steady);
}

fetch_stops : (stop : Stop) (shelf shelf_now : ShelfSide) (sink : SinkSide) → FetchCause stop shelf shelf_now → StopsFor stop shelf shelf_now sink sink × IsPartFor stop []
fetch_stops stops.ShelfFault shelf shelf_now sink cause = ((cause, refl), refl)
fetch_stops stops.WriteFault shelf shelf_now sink cause = absurd cause
fetch_stops stops.NoMemory shelf shelf_now sink cause = ((cause, refl), tt)

-- where nothing was written and no write failed, there was nothing to write
unreached : {X : Type 0} → (stop : Stop) (shelf shelf_now : ShelfSide) → FetchCause stop shelf shelf_now → IsReached stop [] → X
unreached stops.ShelfFault shelf shelf_now cause h = absurd (omega (arith, h))
unreached stops.WriteFault shelf shelf_now cause h = absurd cause
unreached stops.NoMemory shelf shelf_now cause h = absurd (omega (arith, h))

pub stopped_early : (stop : Stop) (command : Command) (state : State) (shelf shelf_now : ShelfSide) (sink : SinkSide) → PrepareStops stop command shelf shelf_now → Stopped stop command state shelf shelf_now sink sink
stopped_early stop command state shelf shelf_now sink s =
    let both = fetch_stops stop shelf shelf_now sink s.fetch.cause in
    record {
      part = [];
      begun = λ h. unreached stop shelf shelf_now s.fetch.cause h;
      wrote = Appends-nil sink.taken;
      stops = both.0;
      at_stop = both.1;
      names = s.names;
      fetches = s.fetches;
      unchanged = s.unchanged;
      passes = record { on_shelf = s.fetch.passes; writes = omega arith };
    }

write_stops : (stop : Stop) (shelf shelf_now : ShelfSide) (sink sink_now : SinkSide) (part : List ℕ) → shelf_now.counts.faults ≡ shelf.counts.faults → WriteCause stop sink.faults sink_now.faults
    → StopsFor stop shelf shelf_now sink sink_now × IsPartFor stop part
write_stops stops.ShelfFault shelf shelf_now sink sink_now part calm cause = absurd cause
write_stops stops.WriteFault shelf shelf_now sink sink_now part calm cause = ((cause, calm), tt)
write_stops stops.NoMemory shelf shelf_now sink sink_now part calm cause = ((calm, cause), tt)

write_asks : (stop : Stop) (command : Command) (faults faults_now : ℕ) → WriteCause stop faults faults_now → NamesFile stop command
write_asks stops.ShelfFault command faults faults_now cause = absurd cause
write_asks stops.WriteFault command faults faults_now cause = tt
write_asks stops.NoMemory command faults faults_now cause = tt

has_text : (stop : Stop) (n : ℕ) (text : List ℕ) → HasText stop text → IsReached stop (take n text) → 0 < length text
has_text stops.ShelfFault n text some h = omega (arith, h, short_take n text)
has_text stops.WriteFault n text some h = some
has_text stops.NoMemory n text some h = omega (arith, h, short_take n text)

pub stopped_late : (stop : Stop) (command : Command) (state state_now : State) (output : Output) (shelf shelf_now : ShelfSide) (sink sink_now : SinkSide) → Prepared command state state_now output shelf shelf_now
    → WriteStops stop (output_text output) sink.taken sink_now.taken sink.faults sink_now.faults → Stopped stop command state shelf shelf_now sink sink_now
stopped_late stop command state state_now output shelf shelf_now sink sink_now p s =
    let text = output_text output in
    let both = write_stops stop shelf shelf_now sink sink_now (take s.part.0 text) p.calm s.cause in
    record {
      part = take s.part.0 text;
      begun = λ h. record { answers = p.answers; given = p.given; some = subst (λ (l : List ℕ). 0 < length l) (sym p.leads.text) (has_text stop s.part.0 text s.some h); first = ap (take (length (take s.part.0 text))) p.leads.text ∙ take_of_take s.part.0 text };
      wrote = s.part.1;
      stops = both.0;
      at_stop = both.1;
      names = write_asks stop command sink.faults sink_now.faults s.cause;
      fetches = record { answers = map Some p.answers; asked = p.given.asked };
      unchanged = p.unchanged;
      passes = record { on_shelf = p.passes; writes = s.grows };
    }

-- ---- SETTING THE ENTRY

pub so : (b : Bool) → not b ≡ false → b ≡ true
so true is = refl
so false is = absurd cc

pub not_so : (b : Bool) → not b ≡ true → b ≡ false
not_so true is = absurd cc
not_so false is = refl

pub classes_are : (file : Option (Vec ℕ)) (bytes : Vec ℕ) (method : Method) → file ≡ Some bytes → thin_method bytes.items ≡ Some method → classes_in file ≡ method ∷ []
classes_are file bytes method is read = rw is (ap listed read)

pub unknown_says : (state : State) (class name desc : List ℕ) (method : Method) → state.classes ≡ method ∷ [] → bytes_eq method.class class ≡ false
    → Says (entry_next state class name desc (class_named state.classes class)) (Unknown class) state
unknown_says state class name desc method one other =
    let none : class_named state.classes class ≡ None = ap (λ (l : List Method). class_named l class) one ∙ ap (λ b. cond b (Some method) None) other in
    record { text = ap (λ o. (entry_next state class name desc o).text) none; state_is = ap (λ o. (entry_next state class name desc o).state) none }

pub missing_says : (state : State) (class name desc : List ℕ) (method : Method) → state.classes ≡ method ∷ [] → bytes_eq method.class class ≡ true → is_entry method name desc ≡ false
    → Says (entry_next state class name desc (class_named state.classes class)) EntryMissing state
missing_says state class name desc method one same no_entry =
    let some : class_named state.classes class ≡ Some method = ap (λ (l : List Method). class_named l class) one ∙ ap (λ b. cond b (Some method) None) same in
    record { text = ap (λ o. (entry_next state class name desc o).text) some ∙ rw no_entry refl; state_is = ap (λ o. (entry_next state class name desc o).state) some ∙ rw no_entry refl }

pub unbuilt_says : (state : State) (class name desc : List ℕ) (method : Method) → state.classes ≡ method ∷ [] → bytes_eq method.class class ≡ true → is_entry method name desc ≡ true → list_all is_boolean method.kinds ≡ false
    → Says (entry_next state class name desc (class_named state.classes class)) NotBuilt state
unbuilt_says state class name desc method one same entry other =
    let some : class_named state.classes class ≡ Some method = ap (λ (l : List Method). class_named l class) one ∙ ap (λ b. cond b (Some method) None) same in
    record { text = ap (λ o. (entry_next state class name desc o).text) some ∙ rw (entry, other) refl; state_is = ap (λ o. (entry_next state class name desc o).state) some ∙ rw (entry, other) refl }

-- ---- WHAT IS PREPARED

pub none_asked : (at : ShelfSide) → AreAnswers at at [] []
none_asked at = record { each = refl; asked = sym (append-nil at.asked); size = tt; causes = tt; told = none_told at.files }
  where
    none_told : (files : Option (List File)) → IfSome files (λ f. ◌≡◌ {A = List Answer} [] [])
    none_told None = tt
    none_told (Some files) = refl

pub same_shelf : (at : ShelfSide) → ShelfPasses at at
same_shelf at = record { files = refl; fetches = record { faults = omega arith; misses = omega arith; overlong = omega arith } }

-- a fetch of the one name of a command brought no answer
unanswered : (stop : Stop) (command : Command) (file : List ℕ) (before now : ShelfSide) → names_in command ≡ file ∷ [] → Unanswered stop file before now → PrepareStops stop command before now
unanswered stop command file before now one u = record {
  fetch = u.fetch;
  names = asks_at stop;
  fetches = subst (FetchesSome before now) (sym one) (record { answers = None ∷ []; asked = u.asked });
  unchanged = λ none. absurd (let both = sym none ∙ one in cc);
}
  where
    asks_at : (s : Stop) → NamesFile s command
    asks_at stops.ShelfFault = λ none. let both = sym none ∙ one in cc
    asks_at stops.WriteFault = tt
    asks_at stops.NoMemory = tt

-- so the command stopped
pub stopped_unanswered : (stop : Stop) (command : Command) (file : List ℕ) (state state_now : State) (before now : ShelfSide) (result : Result Output Stop) → names_in command ≡ file ∷ [] → Unanswered stop file before now
    → IsErrAnd result (λ s. s ≡ stop) → MatchResult result (λ output. Prepared command state state_now output before now) (λ s. PrepareStops s command before now)
stopped_unanswered stop command file state state_now before now (Ok output) one u is = absurd is
stopped_unanswered stop command file state state_now before now (Err s) one u is = subst (λ z. PrepareStops z command before now) (sym is) (unanswered stop command file before now one u)

-- what becomes of a reply, or of want of memory
abbrev pub Replied : Result reply.Reply AllocError → Result Output Stop → Type 0
Replied answer result = MatchResult result (λ output. IfOk answer (λ r. output ≡ Reply r) × IsOk answer) (λ stop. (stop ≡ stops.NoMemory) × IsErr answer)

pub replied_so : (command : Command) (state state_now : State) (answers : List Answer) (before now : ShelfSide) (answer : Result reply.Reply AllocError) (result : Result Output Stop) → Replied answer result
    → IfOk answer (λ r. Says (next state command answers) r state_now) → AreAnswers before now (names_in command) answers → ShelfPasses before now → now.counts.faults ≡ before.counts.faults → (names_in command ≡ [] → now ≡ before)
    → MatchResult result (λ output. Prepared command state state_now output before now) (λ stop. PrepareStops stop command before now)
replied_so command state state_now answers before now (Ok r) (Ok output) is says given passes calm unchanged = record {
  answers = answers;
  given = given;
  leads = record { text = says.text ∙ ap output_text (sym is.0); state_is = says.state_is };
  short = subst IsShort (sym is.0) tt;
  unchanged = unchanged;
  passes = passes;
  calm = calm;
}
replied_so command state state_now answers before now (Err none) (Ok output) is says given passes calm unchanged = absurd (let none = is.1 in cc)
replied_so command state state_now answers before now answer (Err stop) is says given passes calm unchanged =
    subst (λ s. PrepareStops s command before now) (sym is.0) (record { fetch = record { cause = calm; passes = passes }; names = tt; fetches = record { answers = map Some answers; asked = given.asked }; unchanged = unchanged })

pub once_said : (state : State) (file name desc : List ℕ) (words : List ℤ) (answer : Answer) (result : Result reply.Reply AllocError) → IfOk result (λ r. r ≡ once_reply file name desc words answer)
    → IfOk result (λ r. Says (next state (commands.Once file name desc words) (answer ∷ [])) r state)
once_said state file name desc words answer (Ok r) is = record { text = ap reply_text (sym is); state_is = refl }
once_said state file name desc words answer (Err none) is = tt

-- a command that names no file leaves the shelf as it was
pub prepared_unasked : (command : Command) (state state_now : State) (output : Output) (at : ShelfSide) → names_in command ≡ [] → Leads (next state command []) output state_now → IsShort output → Prepared command state state_now output at at
prepared_unasked command state state_now output at none leads short = record {
  answers = [];
  given = subst (λ names. AreAnswers at at names []) (sym none) (none_asked at);
  leads = leads;
  short = short;
  unchanged = λ none. refl;
  passes = same_shelf at;
  calm = refl;
}

-- what becomes of what is to be written, or of want of memory, where no file is named
pub kept_so : (command : Command) (state state_now : State) (at : ShelfSide) (output : Result Output AllocError) (result : Result Output Stop) → names_in command ≡ []
    → MatchResult result (λ out. output ≡ Ok out) (λ stop. (stop ≡ stops.NoMemory) × IsErr output) → IfOk output (λ out. Leads (next state command []) out state_now) → IfOk output IsShort
    → MatchResult result (λ out. Prepared command state state_now out at at) (λ stop. PrepareStops stop command at at)
kept_so command state state_now at output (Ok out) none is leads short =
    prepared_unasked command state state_now out at none (subst (λ o. IfOk o (λ out. Leads (next state command []) out state_now)) is leads) (subst (λ o. IfOk o IsShort) is short)
kept_so command state state_now at output (Err stop) none is leads short =
    subst (λ s. PrepareStops s command at at) (sym is.0) (record { fetch = record { cause = refl; passes = same_shelf at }; names = tt; fetches = subst (FetchesSome at at) (sym none) (record { answers = []; asked = (none_asked at).asked }); unchanged = λ none. refl })
