-- Where all methods are accepted, the program that the machine runs is verified.
use Rattle.std.proofs.Common.{◌≡◌, ℕ, Bool, true, false, cond, nat_le, List, [], ◌∷◌, length, map, slice_get, Option, Some, None, sym, ap, subst, subst₂, ◌∙◌}
use Rattle.std.specs.Prelude.{option_and_then, option_map}
use Rattle.ms_words.specs.declared.descriptor.EntryPart.{EntryPart}
use Rattle.ms_words.specs.declared.descriptor.FieldType.{FieldType}
use Rattle.ms_words.specs.declared.descriptor.FieldType.TheVariants as types
use Rattle.ms_words.specs.declared.item.Item.{Item}
use Rattle.ms_words.specs.declared.item.Item.TheVariants.{Entry}
use Rattle.ms_words.specs.declared.kind.Kind.{Kind}
use Rattle.ms_words.specs.Descriptors.{Signature, at_most_eight, entry_part_of, kinds_in, result_kind, signature_of}
use Rattle.ms_program.specs.declared.body.Body.{Body}
use Rattle.ms_program.specs.declared.method.MethodId.{MethodId}
use Rattle.ms_program.specs.declared.view.Initialiser as state
use Rattle.ms_program.specs.Laws.{IsInstruction}
use Rattle.ms_program.specs.Names.{Key}
use Rattle.ms_program.specs.Programs.{CanEnter, Class, IsProgram, Program, body_of, key_of}
use Rattle.ms_program.specs.Views as views
use Rattle.ms_program.specs.Views.{entry_part_at, first_of, view, view_at}
use Rattle.ms_program.proofs.Picking.{joined, mapped, of_some, some_is, there}
use Rattle.ms_program.proofs.Standing.{is_view}
use Rattle.ms_machine.specs.Instructions.{Present}
use Rattle.ms_machine.specs.Control as machine
use Rattle.ms_machine.specs.Control.{EntryView}
use Rattle.ms_linking.specs.Linked.{entry_in, entry_of, entry_with, initialiser_of, program_of, views_of}
use Rattle.ms_typing.specs.Typed.{Begins, IsVerified}
use Rattle.ms_typing.specs.Verifier.{Cell}
use Rattle.ms_verify.proofs.Beginning.{method_begins}
use Rattle.ms_verify.proofs.Fine.{are_fine, initialiser_fine}
use Rattle.ms_verify.proofs.Solved.{IsKnown, typings}

-- WHAT AN ENTRY TAKES AND RETURNS

-- kinds are those of types, each an int's
kinds_are : (field_types : List FieldType) (kinds : List Kind) → kinds_in field_types ≡ Some kinds → map (λ kind. types.Int kind) kinds ≡ field_types
kinds_are [] kinds is = ap (map (λ kind. types.Int kind)) (sym (some_is [] kinds is))
kinds_are (types.IntArray ∷ others) kinds is = absurd (let e = is in cc)
kinds_are (types.Int kind ∷ others) kinds is =
    let rest = mapped (λ (found : List Kind). kind ∷ found) (kinds_in others) kinds is in
    ap (map (λ kind. types.Int kind)) (sym rest.2) ∙ ap (λ (found : List FieldType). types.Int kind ∷ found) (kinds_are others rest.0 rest.1)

result_is : (result : Option FieldType) (kind : Option Kind) → result_kind result ≡ Some kind → option_map (λ kind. types.Int kind) kind ≡ result
result_is None kind is = ap (option_map (λ kind. types.Int kind)) (sym (some_is None kind is))
result_is (Some types.IntArray) kind is = absurd (let e = is in cc)
result_is (Some (types.Int found)) kind is = ap (option_map (λ kind. types.Int kind)) (sym (some_is (Some found) kind is))

-- the descriptor of an entry spells a signature of its kinds
record Spells (desc : List ℕ) (part : EntryPart) : Type 0 where
  signature : Signature
  is : signature_of desc ≡ Some signature
  parameters : map (λ kind. types.Int kind) part.kinds ≡ signature.parameters
  result : option_map (λ kind. types.Int kind) part.result ≡ signature.result

part_spelled : (desc : List ℕ) (part : EntryPart) → entry_part_of desc ≡ Some part → Spells desc part
part_spelled desc part is =
    let signature = joined (λ signature. option_and_then (λ kinds. option_and_then (at_most_eight kinds) (result_kind signature.result)) (kinds_in signature.parameters)) (signature_of desc) part is in
    let kinds = joined (λ kinds. option_and_then (at_most_eight kinds) (result_kind signature.0.result)) (kinds_in signature.0.parameters) part signature.2 in
    let result = joined (at_most_eight kinds.0) (result_kind signature.0.result) part kinds.2 in
    let made = by_count (nat_le (length kinds.0) 8) kinds.0 result.0 result.2 in
    record {
      signature = signature.0;
      is = signature.1;
      parameters = ap (λ (p : EntryPart). map (λ kind. types.Int kind) p.kinds) (sym made) ∙ kinds_are signature.0.parameters kinds.0 kinds.1;
      result = ap (λ (p : EntryPart). option_map (λ kind. types.Int kind) p.result) (sym made) ∙ result_is signature.0.result result.0 result.1;
    }
  where
    by_count : (few : Bool) (kinds : List Kind) (result : Option Kind) → cond few (Some (record { kinds = kinds; result = result })) None ≡ Some part → record { kinds = kinds; result = result } ≡ part
    by_count true kinds result e = some_is _ part e
    by_count false kinds result e = absurd (let f = e in cc)

-- THE ENTRY

-- what the machine sees of an entry is made of these
record Enters (P : Program) (entry : EntryView) : Type 0 where
  id : MethodId
  is : P.entry ≡ Some id
  v : views.View
  v_is : view P Entry ≡ Some v
  part : EntryPart
  part_is : v.entry_part ≡ Some part
  state : state.Initialiser
  state_is : v.initialiser ≡ Some state
  first : v.first_item ≡ Some entry.first
  kinds : entry.kinds ≡ part.kinds
  result : entry.result ≡ part.result
  initialiser : entry.initialiser ≡ initialiser_of state
  initialiser_first : entry.initialiser_first ≡ v.initialiser_item

entry_made : (P : Program) (id : MethodId) (v : views.View) (class : Class) (entry : EntryView) → P.entry ≡ Some id → view P Entry ≡ Some v → entry_in id.class v class ≡ Some entry → Enters P entry
entry_made P id v class entry is v_is found =
    let part = joined (λ (part : EntryPart). option_and_then (λ first. option_map (entry_with id.class class v part first) v.initialiser) v.first_item) v.entry_part entry found in
    let first = joined (λ first. option_map (entry_with id.class class v part.0 first) v.initialiser) v.first_item entry part.2 in
    let state = mapped (entry_with id.class class v part.0 first.0) v.initialiser entry first.2 in
    record {
      id = id;
      is = is;
      v = v;
      v_is = v_is;
      part = part.0;
      part_is = part.1;
      state = state.0;
      state_is = state.1;
      first = first.1 ∙ ap (λ (e : EntryView). Some e.first) state.2;
      kinds = ap (λ (e : EntryView). e.kinds) (sym state.2);
      result = ap (λ (e : EntryView). e.result) (sym state.2);
      initialiser = ap (λ (e : EntryView). e.initialiser) (sym state.2);
      initialiser_first = ap (λ (e : EntryView). e.initialiser_first) (sym state.2);
    }

entry_seen : (P : Program) (entry : EntryView) → entry_of P ≡ Some entry → Enters P entry
entry_seen P entry is =
    let id = joined (λ (id : MethodId). option_and_then (λ v. option_and_then (entry_in id.class v) (slice_get P.classes id.class)) (view P Entry)) P.entry entry is in
    let v = joined (λ v. option_and_then (entry_in id.0.class v) (slice_get P.classes id.0.class)) (view P Entry) entry id.2 in
    let class = joined (entry_in id.0.class v.0) (slice_get P.classes id.0.class) entry v.2 in
    entry_made P id.0 v.0 class.0 entry id.1 v.1 class.2

module _ (P : Program) (program : IsProgram P) (cells : ℕ → ℕ → List Cell) (known : IsKnown P cells) (entry : EntryView) (enters : Enters P entry) where
  -- the entry's view is made of its method
  here : view_at P Entry ≡ enters.v
  here = (is_view P Entry enters.v enters.v_is).1

  body_there : (body : Body) × (body_of P enters.id ≡ Some body)
  body_there = there (body_of P enters.id) (of_some (λ (id : MethodId). CanEnter (slice_get P.classes id.class) id.method) P.entry enters.id enters.is program.enters).0

  key_there : (key : Key) × (option_and_then (key_of P) P.entry ≡ Some key) × (entry_part_of key.1 ≡ Some enters.part)
  key_there = joined (λ (key : Key). entry_part_of key.1) (option_and_then (key_of P) P.entry) enters.part (ap (λ (v : views.View). v.entry_part) here ∙ enters.part_is)

  first_is : first_of enters.id.class enters.id.method ≡ entry.first
  first_is = some_is _ entry.first (sym (ap (option_map (λ (id : MethodId). first_of id.class id.method)) enters.is) ∙ ap (λ (v : views.View). v.first_item) here ∙ enters.first)

  -- it begins
  entry_begins : Begins (typings P cells) (Some entry.first) (map (λ kind. types.Int kind) entry.kinds) (option_map (λ kind. types.Int kind) entry.result)
  entry_begins =
      let key = key_there in
      let spelled = part_spelled key.0.1 enters.part key.2 in
      let first : IsInstruction P entry.first = of_some (IsInstruction P) enters.v.first_item entry.first enters.first (known.leads Entry enters.v enters.v_is).first_item in
      let begins = method_begins P cells known enters.id.class enters.id.method key.0 body_there.0 spelled.signature (sym (ap (option_and_then (key_of P)) enters.is) ∙ key.1) body_there.1 spelled.is (subst (IsInstruction P) (sym first_is) first) in
      subst₂ (λ parameters result. Begins (typings P cells) (Some entry.first) parameters result)
      (sym (ap (map (λ kind. types.Int kind)) enters.kinds ∙ spelled.parameters)) (sym (ap (option_map (λ kind. types.Int kind)) enters.result ∙ spelled.result))
      (subst (λ (item : Item). Begins (typings P cells) (Some item) spelled.signature.parameters spelled.signature.result) first_is begins)

  -- and so does the initialiser of its class
  entry_initialiser : entry.initialiser ≡ Present → Begins (typings P cells) entry.initialiser_first [] None
  entry_initialiser present =
      subst (λ o. Begins (typings P cells) o [] None) (sym enters.initialiser_first)
      (initialiser_fine P cells known Entry enters.v enters.state enters.v_is enters.state_is (sym enters.initialiser ∙ present))

-- THE LAW

-- a program with such last shapes is verified
pub verified : (P : Program) → IsProgram P → (cells : ℕ → ℕ → List Cell) → IsKnown P cells → (run : machine.Program) → program_of P ≡ Some run → IsVerified run (typings P cells)
verified P program cells known run is =
    let made = mapped (λ (entry : EntryView). record { entry = entry; view = views_of P }) (entry_of P) run is in
    let enters = entry_seen P made.0 made.1 in
    subst (λ (m : machine.Program). IsVerified m (typings P cells)) made.2 (record {
      items = are_fine P cells known;
      entry = entry_begins P program cells known made.0 enters;
      initialiser = entry_initialiser P program cells known made.0 enters;
    })
