-- Where a segment from a state that is reached leads.
use Rattle.std.proofs.Common.{◌≡◌, ℕ, Bool, true, false, List, [], ◌∷◌, ◌++◌, Option, None, Some, refl, sym, ap, subst, ◌∙◌}
use Rattle.std.specs.Prelude.{if◌then◌else◌, option_map}
use Rattle.ms_words.specs.declared.item.Item.{Item}
use Rattle.ms_words.specs.declared.item.Item.TheVariants.{Entry}
use Rattle.ms_program.specs.Programs as programs
use Rattle.ms_linking.specs.Linked.{entry_of, program_of, views_of}
use Rattle.ms_terms.specs.declared.term.Term.{Term as Node}
use Rattle.ms_terms.specs.Terms.{Term, Constant}
use Rattle.ms_machine.specs.Control.{EntryView, Program, Views}
use Rattle.ms_machine.specs.Ints.{shadows}
use Rattle.ms_machine.specs.Laws.{ChoicesAreSmall, ComesToFewArms, KeysAreFew, shadow_after, shadow_started}
use Rattle.ms_machine.specs.Maps.{map_end}
use Rattle.ms_machine.specs.Segments.{After, Choice, Over, Segment}
use Rattle.ms_machine.specs.Values.{End, Returned, ReturnedVoid, Threw, InitFailed, Missing, Runaway, Deep, SymLength, HeapFull, Stuck}
use Rattle.ms_typing.specs.Typed.{ArePossible, IsNeverStuck, IsSafeAfter, Typings}
use Rattle.ms_interpreter.specs.Leads.{finish_of}
use Rattle.ms_interpreter.specs.Symbols.{symbol}
use Rattle.ms_symexec.specs.declared.arriving.Arrived.{Arrived}
use Rattle.ms_symexec.specs.declared.arriving.Arrived.TheVariants as arrived
use Rattle.ms_symexec.specs.Outcomes.{HasFew, IsInOrder}
use Rattle.ms_symexec.specs.Segments.{Arrives, onto}

abbrev there : Term → Option Term
there term = Some term

-- the views of a program are those that the machine runs
pub views_are : (V : programs.Program) (machine : Program) → program_of V ≡ Some machine → machine.view ≡ views_of V
views_are V machine is = go (entry_of V) is
  where
    go : (entry : Option EntryView) → option_map (λ (e : EntryView). record { entry = e; view = views_of V }) entry ≡ Some machine → machine.view ≡ views_of V
    go None e = absurd (let f = e in cc)
    go (Some entry) e = let same : ◌≡◌ {A = Program} (record { entry = entry; view = views_of V }) machine = (let f = e in cc) in sym (ap (λ (M : Program). M.view) same)

to_few : (after : After Term) → ComesToFewArms Constant after → HasFew after
to_few (Choice test does) small = small.few
to_few (Over end) small = tt

stuck_back : (end : End Term) → Stuck ≡ map_end there end → end ≡ Stuck
stuck_back (Returned a) is = absurd (let e = is in cc)
stuck_back ReturnedVoid is = absurd (let e = is in cc)
stuck_back (Threw class) is = absurd (let e = is in cc)
stuck_back (InitFailed class) is = absurd (let e = is in cc)
stuck_back (Missing name) is = absurd (let e = is in cc)
stuck_back Runaway is = absurd (let e = is in cc)
stuck_back Deep is = absurd (let e = is in cc)
stuck_back SymLength is = absurd (let e = is in cc)
stuck_back HeapFull is = absurd (let e = is in cc)
stuck_back Stuck is = refl

module _ (M : Program) (T : Typings) (never : IsNeverStuck M T) (small : ChoicesAreSmall M) (few : KeysAreFew M) (arms : List ℕ) (possible : ArePossible shadows M.view (shadow_started M M.entry.kinds) arms) (before trace : List Item) (nodes : List Node) where
  abbrev whole : Segment Term
  whole = shadow_after M M.entry.kinds arms

  pub in_order : (came : Arrived) → Arrives nodes M.view trace came (onto before whole) → IsInOrder M.view came
  in_order (arrived.AtChoice state) arrives = record {
    nodes = nodes;
    seen = arrives.seen;
    is = arrives.is;
    few = subst HasFew (ap (λ (s : Segment Term). s.after) arrives.segment_is) (to_few whole.after (small.of_terms few M.entry.kinds arms));
  }
  in_order (arrived.Over finish) arrives = λ stuck.
      let ended : Stuck ≡ map_end there arrives.end = ap (finish_of (symbol nodes)) (sym stuck) ∙ arrives.is in
      let over : whole.after ≡ Over Stuck = ap (λ (s : Segment Term). s.after) arrives.segment_is ∙ ap (λ (end : End Term). Over end) (stuck_back arrives.end ended) in
      subst (IsSafeAfter M.view T) over (never.terms arms possible).after
  in_order arrived.Runaway arrives = tt

-- the items of a segment, as they were gathered
pub trace_is : (P : Views) (nodes : List Node) (trace : List Item) (came : Arrived) (segment : Segment Term) → Arrives nodes P trace came segment → trace ≡ segment.trace
trace_is P nodes trace (arrived.AtChoice state) segment arrives = sym (ap (λ (s : Segment Term). s.trace) arrives.segment_is)
trace_is P nodes trace (arrived.Over finish) segment arrives = sym (ap (λ (s : Segment Term). s.trace) arrives.segment_is)
trace_is P nodes trace arrived.Runaway segment arrives = sym (ap (λ (s : Segment Term). s.trace) arrives)

-- with the entry before them in the first segment
pub with_first : (is_first : Bool) (items : List Item) → (if is_first then Entry ∷ [] else []) ++ items ≡ (if is_first then Entry ∷ items else items)
with_first true items = refl
with_first false items = refl
