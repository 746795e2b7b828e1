-- What a run with marks says of the run of an input, and what stands of a program whatever its entry.
use Rattle.std.proofs.Common.{◌≡◌, ℕ, Bool, true, false, cond, List, [], ◌∷◌, length, map, ℤ, Option, Some, None, refl, sym, ap, ◌∙◌}
use Rattle.std.specs.Prelude.{IsSome, is_some, option_and_then, option_map}
use Rattle.ms_words.specs.declared.end.PathEnd.{PathEnd}
use Rattle.ms_words.specs.declared.item.Item.{Item}
use Rattle.ms_words.specs.declared.item.Item.TheVariants.{Entry, At}
use Rattle.ms_words.specs.declared.kind.Kind.{Kind}
use Rattle.ms_words.specs.Inputs.{IsInput, Words}
use Rattle.ms_program.specs.declared.method.MethodId.{MethodId}
use Rattle.ms_program.specs.Programs.{Program, class_named}
use Rattle.ms_program.specs.Views.{view_at}
use Rattle.ms_program.proofs.Picking.{mapped, some_is}
use Rattle.ms_machine.specs.Ints.{Int, Marked, marks}
use Rattle.ms_machine.specs.Values.{Value, Returned, ReturnedVoid, Threw, InitFailed, Missing, Runaway, Deep, SymLength, HeapFull, Stuck}
use Rattle.ms_machine.specs.Values as values
use Rattle.ms_machine.specs.Control.{Done, EntryView, Program as Machine, Views, start}
use Rattle.ms_machine.specs.Laws.{MarksAreRight, mark_arm, mark_of, marked_start}
use Rattle.ms_machine.specs.Maps.{map_run_end}
use Rattle.ms_machine.specs.Runs.{IsInputOf, RunEnd, Ended, Cut, end_from, end_of, given, given_from, string, string_from}
use Rattle.ms_linking.specs.Linked.{entry_of, linked, views_of}
use Rattle.ms_interpreter.specs.declared.slot.Slot.{Slot}
use Rattle.ms_interpreter.specs.Seen.{Texts, locals_of}
use Rattle.ms_jvm.specs.declared.marked.MarkedInt.{MarkedInt}
use Rattle.ms_jvm.specs.Ends.{path_end_by, path_end_of}
use Rattle.ms_jvm.specs.Entered.{entered}
use Rattle.ms_jvm.specs.Segments.{parameter_of}

-- THE ENTRY IS OF NO ACCOUNT FOR VIEWS

-- the machine sees no instruction at the entry
none_at_entry : (P : Program) → views_of P Entry ≡ None
none_at_entry P = go (is_some P.entry)
  where
    go : (set : Bool) → option_and_then (linked (class_named P)) (cond set (Some (view_at P Entry)) None) ≡ None
    go true = refl
    go false = refl

same_view : (P : Program) (id : MethodId) (item : Item) → views_of (record P { entry = Some id }) item ≡ views_of P item
same_view P id Entry = none_at_entry (record P { entry = Some id }) ∙ sym (none_at_entry P)
same_view P id (At class method offset) = refl

pub same_views : (P : Program) (id : MethodId) → views_of (record P { entry = Some id }) ≡ views_of P
same_views P id = λ i item. same_view P id item i

-- ENDS

-- the end is the same with marks
pub end_marked : (end : RunEnd Int) → path_end_of end ≡ path_end_by (λ (a : Marked). a.word) (map_run_end mark_of end)
end_marked (Ended (Returned a)) = refl
end_marked (Ended ReturnedVoid) = refl
end_marked (Ended (Threw class)) = refl
end_marked (Ended (InitFailed class)) = refl
end_marked (Ended (Missing name)) = refl
end_marked (Ended Runaway) = refl
end_marked (Ended Deep) = refl
end_marked (Ended SymLength) = refl
end_marked (Ended HeapFull) = refl
end_marked (Ended Stuck) = refl
end_marked Cut = refl

-- PARAMETERS

-- the locals hold the parameters
pub parameters_seen : (texts : Texts) (index : ℕ) (kinds : List Kind) (words : List ℤ) → length words ≡ length kinds
    → locals_of (λ (a : Marked). a) texts (map parameter_of words) ≡ map (λ a. Some (values.Int a)) (map mark_of (given_from index kinds words))
parameters_seen texts index [] [] same = refl
parameters_seen texts index [] (word ∷ words) same = absurd (let e = same in cc)
parameters_seen texts index (kind ∷ kinds) [] same = absurd (let e = same in cc)
parameters_seen texts index (kind ∷ kinds) (word ∷ words) same =
    let rest : length words ≡ length kinds = cc in
    ap (λ locals. Some (values.Int (record { word = word; plain = false })) ∷ locals) (parameters_seen texts _ kinds words rest)

-- so the start of an entry on them is that of the machine with marks
pub start_marked : (texts : Texts) (machine : Option Machine) (x : Words) (locals : List (Option (Slot MarkedInt))) (done : Done Marked) → IsInput x → locals ≡ map parameter_of x.words
    → ((parameters : List Marked) → locals_of (λ (a : Marked). a) texts locals ≡ map (λ a. Some (values.Int a)) parameters → option_map (λ P. start P parameters) machine ≡ Some done) → option_map (λ P. marked_start P x) machine ≡ Some done
start_marked texts machine x locals done input are begins =
    begins (map mark_of (given x)) (ap (locals_of (λ (a : Marked). a) texts) are ∙ parameters_seen texts 0 x.kinds x.words input.as_many)

-- THE RUN

-- a run with marks in the program that has this entry, by the run in the program's own views
pub run_marked : {A : Type 0} (P : Program) (id : MethodId) (x : Words) (of : Views → Done Marked → A) (begun : Done Marked) (answer : A) → option_map (λ M. marked_start M x) (entered P id) ≡ Some begun → of (views_of P) begun ≡ answer
    → option_map (λ M. of M.view (marked_start M x)) (entered P id) ≡ Some answer
run_marked P id x of begun answer starts is = go (entry_of (record P { entry = Some id })) starts
  where
    go : (entry : Option EntryView) → option_map (λ M. marked_start M x) (option_map (λ e. record { entry = e; view = views_of (record P { entry = Some id }) }) entry) ≡ Some begun
        → option_map (λ M. of M.view (marked_start M x)) (option_map (λ e. record { entry = e; view = views_of (record P { entry = Some id }) }) entry) ≡ Some answer
    go None e = absurd (let f = e in cc)
    go (Some entry) e =
        let start_is = some_is _ _ e in
        ap (λ done. Some (of (views_of (record P { entry = Some id })) done)) start_is ∙ ap (λ views. Some (of views begun)) (same_views P id) ∙ ap (λ a. Some a) is

-- THE ANSWER

-- the run of an input ends and chooses as the run with marks
pub ends_so : (machine : Option Machine) (x : Words) (depth : ℕ) (end : RunEnd Marked) (answer : PathEnd) → ((P : Machine) → MarksAreRight P x) → option_map (λ P. end_from marks P.view mark_arm depth (marked_start P x)) machine ≡ Some end
    → path_end_by (λ (a : Marked). a.word) end ≡ Some answer → option_and_then (λ P. path_end_of (end_of P x depth)) machine ≡ Some answer
ends_so None x depth end answer right is ends = absurd (let e = is in cc)
ends_so (Some P) x depth end answer right is ends =
    end_marked (end_of P x depth) ∙ ap (path_end_by (λ (a : Marked). a.word)) (sym ((right P).ends depth) ∙ some_is _ _ is) ∙ ends

pub arms_so : (machine : Option Machine) (x : Words) (depth : ℕ) (count : ℕ) → ((P : Machine) → MarksAreRight P x) → option_map (λ P. length (string_from marks P.view mark_arm depth (marked_start P x))) machine ≡ Some count
    → option_map (λ P. length (string P x depth)) machine ≡ Some count
arms_so None x depth count right is = absurd (let e = is in cc)
arms_so (Some P) x depth count right is = ap (λ (arms : List ℕ). Some (length arms)) (sym ((right P).choices depth)) ∙ is

-- there is an end, since the program is accepted
pub never_stuck : (P : Program) (id : MethodId) (x : Words) (depth : ℕ) (end : RunEnd Marked) → ((machine : Machine) → entered P id ≡ Some machine → IsInputOf machine x → IsSome (path_end_of (end_of machine x depth)))
    → ((P : Machine) → MarksAreRight P x) → IsInput x → option_map (λ (M : Machine). M.entry.kinds) (entered P id) ≡ Some x.kinds → option_map (λ M. end_from marks M.view mark_arm depth (marked_start M x)) (entered P id) ≡ Some end
    → path_end_by (λ (a : Marked). a.word) end ≡ None → ⊥
never_stuck P id x depth end law right input kinds is none =
    let found = mapped (λ (M : Machine). M.entry.kinds) (entered P id) x.kinds kinds in
    let machine = found.0 in
    let has = law machine found.1 (record { kinds = sym found.2; words = input.of_kinds }) in
    let ends : end_from marks machine.view mark_arm depth (marked_start machine x) ≡ end = some_is _ _ (sym (ap (option_map (λ (M : Machine). end_from marks M.view mark_arm depth (marked_start M x))) found.1) ∙ is) in
    let stuck : path_end_of (end_of machine x depth) ≡ None = end_marked (end_of machine x depth) ∙ ap (path_end_by (λ (a : Marked). a.word)) (sym ((right machine).ends depth) ∙ ends) ∙ none in
    let e : is_some (path_end_of (end_of machine x depth)) ≡ false = ap is_some stuck in
    absurd cc
