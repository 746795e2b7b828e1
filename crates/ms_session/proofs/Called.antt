-- What `once` runs, and on which words.
use Rattle.std.proofs.Common.{◌≡◌, ◌<◌, ℕ, zero, suc, List, [], ◌∷◌, ◌++◌, All, Ok, length, map, take, ℤ, Bool, true, false, cond, not, ◌&&◌, codes, refl, sym, ap, ◌∙◌, subst, Option, Some, None}
use Rattle.std.specs.Prelude.{◌↔◌, option_and_then, option_map, is_some, slice_get}
use Rattle.std.specs.Str.{bytes_eq}
use Rattle.std.proofs.lemmas.Bool.{cond-false, cond-true}
use Rattle.ms_words.specs.declared.descriptor.EntryPart.{EntryPart}
use Rattle.ms_words.specs.declared.end.PathEnd.{PathEnd}
use Rattle.ms_words.specs.declared.kind.Kind.{Kind}
use Rattle.ms_words.specs.declared.item.Item.{Item}
use Rattle.ms_words.specs.declared.item.Item.TheVariants.{Entry}
use Rattle.ms_words.specs.Descriptors.{entry_part_of}
use Rattle.ms_words.specs.Inputs.{IsInput, Words, are_of}
use Rattle.ms_program.specs.declared.method.MethodId.{MethodId}
use Rattle.ms_program.specs.Names.{Key}
use Rattle.ms_program.specs.declared.view.Initialiser as state
use Rattle.ms_program.specs.Files.{File, IsFile}
use Rattle.ms_program.specs.Programs.{Adds, Class, Program, class_of, empty_program, key_of, method_of, with_class}
use Rattle.ms_program.specs.Reading.{file_read}
use Rattle.ms_program.specs.Views.{View, first_of, initialiser_there, numbered, view_at}
use Rattle.ms_program.proofs.Picking.{joined, some_is}
use Rattle.ms_machine.specs.Control.{EntryView, Program as Machine, Views}
use Rattle.ms_machine.specs.Runs.{end_of}
use Rattle.ms_linking.specs.Linked.{entry_in, entry_with, views_of}
use Rattle.ms_jvm.specs.Ends.{path_end_of}
use Rattle.ms_jvm.specs.Entered.{entered}
use Rattle.ms_command.specs.declared.reply.Reply.TheVariants as replies
use Rattle.ms_command.specs.Endings.{end_text}
use Rattle.ms_session.specs.Once.{call_reply, called, once_depth, once_end, program_in, run_reply}

-- THE METHOD

-- what is seen of an entry has the kinds of its view
kinds_seen : (number : ℕ) (view : View) (class : Class) (part : EntryPart) (first : Item) (initialiser : state.Initialiser) → view.entry_part ≡ Some part → view.first_item ≡ Some first → view.initialiser ≡ Some initialiser
    → option_map (λ (entry : EntryView). entry.kinds) (entry_in number view class) ≡ Some part.kinds
kinds_seen number view class part first initialiser parts firsts initialisers =
    ap (λ o. option_map (λ (entry : EntryView). entry.kinds) (option_and_then (λ p. option_and_then (λ f. option_map (entry_with number class view p f) view.initialiser) view.first_item) o)) parts
    ∙ ap (λ o. option_map (λ (entry : EntryView). entry.kinds) (option_and_then (λ f. option_map (entry_with number class view part f) view.initialiser) o)) firsts
    ∙ ap (λ o. option_map (λ (entry : EntryView). entry.kinds) (option_map (entry_with number class view part first) o)) initialisers

-- and so has the program that the machine runs
kinds_kept : (views : Views) (entry : Option EntryView) → option_map (λ (m : Machine). m.entry.kinds) (option_map (λ e. record { entry = e; view = views }) entry) ≡ option_map (λ (e : EntryView). e.kinds) entry
kinds_kept views None = refl
kinds_kept views (Some entry) = refl

-- an entry has the kinds of its descriptor
pub entered_kinds : (P : Program) (id : MethodId) (key : Key) (part : EntryPart) → key_of P id ≡ Some key → entry_part_of key.1 ≡ Some part → option_map (λ (m : Machine). m.entry.kinds) (entered P id) ≡ Some part.kinds
entered_kinds P id key part is reads =
    let P' : Program = record P { entry = Some id } in
    let there = joined (λ (c : Class). slice_get c.methods id.method) (slice_get P.classes id.class) key is in
    let parts : (view_at P' Entry).entry_part ≡ Some part = ap (option_and_then (λ (k : Key). entry_part_of k.1)) is ∙ reads in
    kinds_kept (views_of P') (option_and_then (entry_in id.class (view_at P' Entry)) (slice_get P.classes id.class))
    ∙ ap (λ o. option_map (λ (e : EntryView). e.kinds) (option_and_then (entry_in id.class (view_at P' Entry)) o)) there.1
    ∙ kinds_seen id.class (view_at P' Entry) there.0 part (first_of id.class id.method) (initialiser_there (numbered P' id.class)) parts refl refl

-- a method of another name is called where its descriptor can be an entry's
by_parts : (part : Bool) (clinit : Bool) (machine : Option Machine) → part ≡ true → false ≡ clinit → cond (part && not clinit) machine None ≡ machine
by_parts true false machine p c = refl
by_parts true true machine p c = absurd (let e = c in cc)
by_parts false clinit machine p c = absurd (let e = p in cc)

pub none_called : (P : Program) (name desc : List ℕ) → bytes_eq name (codes "<clinit>") ≡ true → called P name desc ≡ None
none_called P name desc is = go (is_some (entry_part_of desc)) (bytes_eq name (codes "<clinit>")) is
  where
    go : (part clinit : Bool) → clinit ≡ true → cond (part && not clinit) (option_and_then (entered P) (method_of P 0 name desc)) None ≡ None
    go true true e = refl
    go false true e = refl
    go part false e = absurd (let f = e in cc)

-- THE RUN

-- the reply to the run of a method on words of its kinds
pub call_is : (names : List (List ℕ)) (words : List ℤ) (machine : Option Machine) (kinds : List Kind) (input : Words) (end : PathEnd) → option_map (λ (m : Machine). m.entry.kinds) machine ≡ Some kinds
    → input ≡ record { kinds = kinds; words = words } → IsInput input → option_and_then (λ m. path_end_of (end_of m input once_depth)) machine ≡ Some end
    → replies.Ran (end_text names end) ≡ call_reply names words machine
unfolding once_end
call_is names words None kinds input end same input_is kept ends = absurd (let e = same in cc)
call_is names words (Some machine) kinds input end same input_is kept ends =
    let same_kinds : kinds ≡ machine.entry.kinds = sym (some_is machine.entry.kinds kinds same) in
    let whole : input ≡ record { kinds = machine.entry.kinds; words = words } = input_is ∙ ap (λ (k : List Kind). record { kinds = k; words = words }) same_kinds in
    let fit : are_of machine.entry.kinds words ≡ true = subst (λ (x : Words). are_of x.kinds x.words ≡ true) whole kept.of_kinds in
    let ended : once_end machine words ≡ Some end = subst (λ (x : Words). path_end_of (end_of machine x once_depth) ≡ Some end) whole ends in
    sym (cond-true _ _ _ fit ∙ ap (run_reply names) ended)

-- and where the words aren't of them
pub words_refused : (names : List (List ℕ)) (words : List ℤ) (machine : Option Machine) (kinds : List Kind) → option_map (λ (m : Machine). m.entry.kinds) machine ≡ Some kinds → are_of kinds words ≡ false
    → replies.Words ≡ call_reply names words machine
words_refused names words None kinds same none = absurd (let e = same in cc)
words_refused names words (Some machine) kinds same none =
    sym (cond-false _ _ _ (subst (λ k. are_of k words ≡ false) (sym (some_is machine.entry.kinds kinds same)) none))

-- THE PROGRAM

-- the program that a file of one class was added to
pub is_loaded : (bytes : List ℕ) (number : ℕ) (P : Program) → ((bytes : List ℕ) (file : File) → All (λ byte. byte < 256) bytes → IsFile bytes file ↔ (file_read bytes ≡ Ok file)) → Adds empty_program bytes number P
    → (file : File) × (file_read bytes ≡ Ok file) × (P ≡ program_in bytes file)
is_loaded bytes number P reads added =
    let class = added.is.1 in
    let same : added.class.file ≡ bytes = added.is.0 in
    let read : file_read added.class.file ≡ Ok class.says = (reads added.class.file class.says class.bytes).0 class.is in
    (class.says, subst (λ b. file_read b ≡ Ok class.says) same read, added.after_is ∙ ap (with_class empty_program) (class.class_is ∙ ap (λ b. class_of b class.says) same))

-- NAMES

-- a name more
pub one_named : (classes : List Class) (n : ℕ) (name : List ℕ) → option_map (λ (c : Class). c.name) (slice_get classes n) ≡ Some name → take (suc n) (map (λ (c : Class). c.name) classes) ≡ take n (map (λ (c : Class). c.name) classes) ++ name ∷ []
one_named [] n name is = absurd (let e = is in cc)
one_named (class ∷ classes) zero name is = ap (λ (x : List ℕ). x ∷ []) (some_is class.name name is)
one_named (class ∷ classes) (suc n) name is = ap (λ names. class.name ∷ names) (one_named classes n name is)

-- all names
pub all_named : (classes : List Class) → take (length classes) (map (λ (c : Class). c.name) classes) ≡ map (λ (c : Class). c.name) classes
all_named [] = refl
all_named (class ∷ classes) = ap (λ names. class.name ∷ names) (all_named classes)
