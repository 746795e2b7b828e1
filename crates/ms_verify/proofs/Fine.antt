-- The rules hold of each item that is reached.
use Rattle.std.proofs.Common.{◌≡◌, ◌<◌, ℕ, suc, Bool, true, false, ◌&&◌, not, List, [], ◌∷◌, ◌++◌, length, map, slice_get, Option, Some, None, refl, sym, ap, subst, ◌∙◌, arith}
use Rattle.std.specs.Prelude.{is_none, option_map}
use Rattle.std.proofs.lemmas.List.{length-map}
use Rattle.std.proofs.lemmas.Option.{slice_get-map}
use Rattle.ms_words.specs.declared.item.Item.{Item}
use Rattle.ms_words.specs.declared.item.Item.TheVariants.{Entry, At}
use Rattle.ms_words.specs.declared.thrown.Thrown.{Thrown}
use Rattle.ms_words.specs.Descriptors.{Signature, signature_of}
use Rattle.ms_code.specs.declared.instruction.Instr as code
use Rattle.ms_program.specs.declared.view.Initialiser as state
use Rattle.ms_program.specs.declared.view.Initialiser.TheVariants as states
use Rattle.ms_program.specs.Laws.{IsInstruction, IsOfSubset}
use Rattle.ms_program.specs.Programs.{Program, class_named}
use Rattle.ms_program.specs.Views as views
use Rattle.ms_program.specs.Views.{view, view_at}
use Rattle.ms_program.proofs.Picking.{of_some, some_is, there}
use Rattle.ms_program.proofs.Standing.{is_view, stands}
use Rattle.ms_machine.specs.Instructions.{Present, Member, Invoke}
use Rattle.ms_linking.specs.Linked.{initialiser_of, views_of, with_instr}
use Rattle.ms_typing.specs.declared.kind.VerifyKind.TheVariants.{FallOff}
use Rattle.ms_typing.specs.Kinds.{Shape}
use Rattle.ms_typing.specs.Rules.{after, fault, goes_on, tests}
use Rattle.ms_typing.specs.Solutions.{Obeys, Admits, shape_at}
use Rattle.ms_typing.specs.Typed.{AllLead, AreFine, Begins, IsFine, IsReachable, Leads, member_of, targets_of}
use Rattle.ms_typing.specs.Verifier.{Cell, Line, Method, if_any, successors, to_handler}
use Rattle.ms_typing.proofs.Total.{each_test}
use Rattle.ms_verify.specs.Methods.{method_of}
use Rattle.ms_verify.proofs.Among.{IsAmong, among_left, among_mapped, among_right, among_sorted, place_filled}
use Rattle.ms_verify.proofs.Beginning.{callee_begins, initialiser_begins}
use Rattle.ms_verify.proofs.Rows.{Suits, instruction_suits}
use Rattle.ms_verify.proofs.Seeing.{Shows, handler_at, line_known, line_shown, method_made}
use Rattle.ms_verify.proofs.Solved.{IsKnown, leads_there, solves_reached, typing_of, typings}

-- an instruction that goes on has a next one, where it has no fault
goes_to : (line : Line) → not (goes_on line.instr && is_none line.next) ≡ true → goes_on line.instr ≡ true → (next : ℕ) × (line.next ≡ Some next) × IsAmong next (if_any (goes_on line.instr) line.next)
goes_to line fine goes = by_next (goes_on line.instr) line.next fine goes
  where
    by_next : (counts : Bool) (next : Option ℕ) → not (counts && is_none next) ≡ true → counts ≡ true → (to : ℕ) × (next ≡ Some to) × IsAmong to (if_any counts next)
    by_next true (Some to) fine is = (to, refl, (0, refl))
    by_next true None fine is = absurd (let e = fine in cc)
    by_next false next fine is = absurd (let e = is in cc)

none_alike : (class number : ℕ) (next : Option ℕ) (to : Option Item) → to ≡ option_map (At class number) next → is_none next ≡ is_none to
none_alike class number None to is = ap is_none (sym is)
none_alike class number (Some offset) to is = ap is_none (sym is)

present_is : (s : state.Initialiser) → initialiser_of s ≡ Present → s ≡ states.Present
present_is states.Present is = refl
present_is states.Absent is = absurd (let e = is in cc)
present_is states.Foreign is = absurd (let e = is in cc)

module _ (P : Program) (cells : ℕ → ℕ → List Cell) (known : IsKnown P cells) where
  -- the initialiser of a view begins, where there is one that isn't foreign
  pub initialiser_fine : (item : Item) (v : views.View) (s : state.Initialiser) → view P item ≡ Some v → v.initialiser ≡ Some s → initialiser_of s ≡ Present → Begins (typings P cells) v.initialiser_item [] None
  initialiser_fine item v s is state_is present =
      let to = there v.initialiser_item ((known.firsts item v is).initialiser (state_is ∙ ap (λ s. Some s) (present_is s present))) in
      let seen = ap (λ (v : views.View). v.initialiser_item) (is_view P item v is).1 ∙ to.1 in
      let begins = initialiser_begins P cells known item to.0 seen (of_some (IsInstruction P) v.initialiser_item to.0 to.1 (known.leads item v is).initialiser_item) in
      subst (λ o. Begins (typings P cells) o [] None) (sym to.1) begins

  -- an item that is reached: a method's instruction and its shape, of which the rules hold, and what is seen there
  module _ (class number offset : ℕ) (method : Method) (is : method_of P class number ≡ Some method) (shape : Shape) (holds : Obeys method (cells class number) offset shape) (shows : Shows P class number offset holds.line) where
    abbrev line : Line
    line = holds.line

    written_of : (instr : code.Instr) × (shows.v.instr ≡ Some instr) × IsOfSubset shows.v instr
    written_of = known.of_subset class number offset shows.v shows.is

    suiting : Suits (class_named P) shows.v shows.written.op line.instr
    suiting = instruction_suits (class_named P) shows.v shows.written line.instr (known.together shows.written.op)
        (subst (IsOfSubset shows.v) (some_is written_of.0 shows.written (sym written_of.1 ∙ shows.written_is)) written_of.2) shows.linked_is

    -- WHERE IT LEADS

    -- to an offset that takes what it passes on
    to_offset : (to : ℕ) (passed : Shape) (at : Option Item) → at ≡ Some (At class number to) → Admits (cells class number) to passed → Leads (typings P cells) method.profile.result at passed
    to_offset to passed at at_is takes = leads_there P cells class number to method passed at is at_is takes

    to_successor : (to : ℕ) → IsAmong to (if_any (goes_on line.instr) line.next ++ line.targets) → Admits (cells class number) to (after offset line.instr shape)
    to_successor to among =
        let found = among_left _ _ (map (to_handler shape) line.handlers) (among_mapped (λ successor. (successor, after offset line.instr shape)) to (successors line) (among_sorted to _ among)) in
        holds.leads found.0 _ found.1

    to_its_handler : (handler : ℕ × Thrown) → IsAmong handler line.handlers → Admits (cells class number) handler.0 (to_handler shape handler).1
    to_its_handler handler among =
        let found = among_right (to_handler shape handler) (map (λ successor. (successor, after offset line.instr shape)) (successors line)) (map (to_handler shape) line.handlers) (among_mapped (to_handler shape) handler line.handlers among) in
        holds.leads found.0 _ found.1

    all_lead : (handlers : List (ℕ × Thrown)) → ((handler : ℕ × Thrown) → IsAmong handler handlers → Admits (cells class number) handler.0 (to_handler shape handler).1)
        → AllLead (typings P cells) method.profile.result (map (handler_at class number) handlers) shape.locals
    all_lead [] takes = tt
    all_lead (handler ∷ handlers) takes = (to_offset handler.0 _ _ refl (takes handler (0, refl)), all_lead handlers (λ other among. takes other (suc among.0, among.1)))

    next_fine : goes_on line.instr ≡ true → Leads (typings P cells) method.profile.result shows.v.successor (after offset line.instr shape)
    next_fine goes =
        let to = goes_to line (each_test (tests method.profile offset line.instr (is_none line.next) shape) holds.fine 4 (not (goes_on line.instr && is_none line.next), FallOff) refl) goes in
        to_offset to.0 _ _ (shows.next ∙ ap (option_map (At class number)) to.1) (to_successor to.0 (among_left to.0 _ line.targets to.2))

    target_fine : (k : ℕ) → k < targets_of line.instr → Leads (typings P cells) method.profile.result (slice_get shows.v.targets k) (after offset line.instr shape)
    target_fine k below =
        let many = ap length shows.targets ∙ length-map line.targets (At class number) in
        let to = place_filled line.targets k (omega (arith, below, suiting.targets, many)) in
        to_offset to.0 _ _ (ap (λ items. slice_get items k) shows.targets ∙ slice_get-map (At class number) line.targets k ∙ ap (option_map (At class number)) to.1)
        (to_successor to.0 (among_right to.0 (if_any (goes_on line.instr) line.next) line.targets (k, to.1)))

    -- WHAT IT NAMES

    -- what it calls begins
    callee_fine : (member : Member) (signature : Signature) → line.instr ≡ Invoke member signature → IsReachable member → Begins (typings P cells) shows.v.first_item signature.parameters signature.result
    callee_fine member signature invokes reachable =
        let item = At class number offset in
        let called = suiting.invokes member signature invokes in
        let names = suiting.names member (ap member_of invokes) in
        let present : names.part.member_present ≡ true = ap (λ (m : Member). m.is_there) names.is ∙ reachable.is_there in
        let to = there shows.v.first_item ((known.firsts item shows.v shows.is).callee shows.written names.part shows.written_is called.0 names.known present) in
        let here = is_view P item shows.v shows.is in
        let begins = callee_begins P cells known class number offset to.0 names.class names.name names.descriptor signature (stands P class number offset here.0)
        (ap (λ (v : views.View). v.first_item) here.1 ∙ to.1) (ap (λ (v : views.View). v.named) here.1 ∙ names.named) (subst (λ (m : Member). signature_of m.descriptor ≡ Some signature) (sym names.is) called.1)
        (of_some (IsInstruction P) shows.v.first_item to.0 to.1 (known.leads item shows.v shows.is).first_item) in
        subst (λ o. Begins (typings P cells) o signature.parameters signature.result) (sym to.1) begins

    -- and so does the initialiser that it needs
    member_fine : (member : Member) → member_of line.instr ≡ Some member → member.initialiser ≡ Present → Begins (typings P cells) shows.v.initialiser_item [] None
    member_fine member names present =
        let named = suiting.names member names in
        initialiser_fine (At class number offset) shows.v named.state shows.is named.initialiser (ap (λ (m : Member). m.initialiser) named.is ∙ present)

    -- the rules hold of the item
    item_fine : IsFine (views_of P) (typings P cells) (At class number offset) (record { shape = shape; result = method.profile.result })
    item_fine = record {
      view = with_instr shows.v line.instr;
      is = shows.seen;
      profile = method.profile;
      offset = offset;
      fine = subst (λ last. fault method.profile offset line.instr last shape ≡ None) (none_alike class number line.next shows.v.successor shows.next) holds.fine;
      result = refl;
      next = next_fine;
      targets = target_fine;
      handlers = subst (λ handlers. AllLead (typings P cells) method.profile.result handlers shape.locals) (sym shows.handlers) (all_lead line.handlers to_its_handler);
      own = suiting.own;
      field = suiting.field;
      callee = callee_fine;
      initialiser = λ member names reachable present. member_fine member names present;
    }

  reached_fine : (class number offset : ℕ) (method : Method) → method_of P class number ≡ Some method → (shape : Shape) → shape_at (cells class number) offset ≡ Some shape
      → IsFine (views_of P) (typings P cells) (At class number offset) (record { shape = shape; result = method.profile.result })
  reached_fine class number offset method is shape at =
      let holds = (solves_reached P cells known class number method is offset shape at).each offset shape at in
      let shows = line_shown P class number offset holds.line (line_known P class number method (method_made P class number method is) offset holds.line holds.is) in
      item_fine class number offset method is shape holds shows

  -- they hold of each item that is reached
  pub are_fine : AreFine (views_of P) (typings P cells)
  are_fine Entry typing at = absurd (let e = at in cc)
  are_fine (At class number offset) typing at = by_parts (method_of P class number) refl (shape_at (cells class number) offset) refl at
    where
      by_parts : (found : Option Method) → method_of P class number ≡ found → (shape : Option Shape) → shape_at (cells class number) offset ≡ shape → typing_of found shape ≡ Some typing → IsFine (views_of P) (typings P cells) (At class number offset) typing
      by_parts None is shape shape_is e = absurd (let f = e in cc)
      by_parts (Some method) is None shape_is e = absurd (let f = e in cc)
      by_parts (Some method) is (Some shape) shape_is e = subst (IsFine (views_of P) (typings P cells) (At class number offset)) (some_is _ typing e) (reached_fine class number offset method is shape shape_is)
