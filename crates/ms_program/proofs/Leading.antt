-- The items in a view have views.
use Rattle.std.proofs.Common.{◌≡◌, ℕ, All, List, [], map, filter, slice_get, Bool, true, false, cond, Option, Some, None, refl, sym, ap, subst, ◌∙◌, arith}
use Rattle.std.specs.Prelude.{◌==◌, is_some, option_map, option_and_then, codes}
use Rattle.std.specs.List.{list_all}
use Rattle.std.proofs.lemmas.List.Elements.{All-filter, All-map}
use Rattle.std.proofs.lemmas.List.Sums.{AllPass-from_list_all}
use Rattle.ms_words.specs.declared.item.Item.{Item}
use Rattle.ms_words.specs.declared.item.Item.TheVariants.{Entry, At}
use Rattle.ms_pool.specs.ByNumber.{Reference}
use Rattle.ms_code.specs.declared.decoded.Handler.{Handler}
use Rattle.ms_code.specs.Codes.{is_start, next_of, targets_of}
use Rattle.ms_program.specs.declared.body.Body.{Body}
use Rattle.ms_program.specs.declared.method.MethodId.{MethodId}
use Rattle.ms_program.specs.declared.view.CatchPart.{CatchPart}
use Rattle.ms_program.specs.Laws.{IsInstruction, LeadsToViews}
use Rattle.ms_program.specs.Names.{place_named}
use Rattle.ms_program.specs.Programs.{CanEnter, Class, IsProgram, Program, body_in, body_of, class_named, if_known, method_id, method_in}
use Rattle.ms_program.specs.Views.{Numbered, View, catch_part, covers, first_item_of, first_of, handlers_at, initialiser_first, method_first, numbered, numbered_by_name, op_of, or_empty, reference_of, successor_of, view, view_at, whose}
use Rattle.ms_program.proofs.WholeCodes.{HasWholeCode}
use Rattle.ms_program.proofs.Picking.{both_true, if_some, joined, mapped, of_some, there}
use Rattle.ms_program.proofs.Standing.{Stands, body_known, is_view, slot_is, stands, targets_seen}

-- a class that is there has its number
numbered_is : (P : Program) (number : ℕ) (known : Numbered) → numbered P number ≡ Some known → slice_get P.classes known.0 ≡ Some known.1
numbered_is P number known is =
    let found = mapped (λ (class : Class). (number, class)) (slice_get P.classes number) known is in
    subst (λ (k : Numbered). slice_get P.classes k.0 ≡ Some k.1) found.2 found.1

-- and so has one that is found by its name
named_is : (P : Program) (name : List ℕ) (known : Numbered) → numbered_by_name P name ≡ Some known → slice_get P.classes known.0 ≡ Some known.1
named_is P name known is =
    let found = joined (numbered P) (class_named P name) known is in
    numbered_is P found.0 known found.2

-- where an instruction starts, the item has a view
starts : (P : Program) (number method offset : ℕ) (class : Class) (body : Body) → slice_get P.classes number ≡ Some class → slice_get class.bodies method ≡ Some (Some body) → is_start body.code.steps offset ≡ true → IsInstruction P (At number method offset)
starts P number method offset class body class_there body_there start = rw (class_there, body_there) start

module _ (P : Program) (is : IsProgram P) (whole : (number method : ℕ) (class : Class) (body : Body) → slice_get P.classes number ≡ Some class → slice_get class.bodies method ≡ Some (Some body) → HasWholeCode class body) where
  -- a method that isn't foreign has a first instruction
  first_starts : (number method : ℕ) (class : Class) (body : Body) → slice_get P.classes number ≡ Some class → slice_get class.bodies method ≡ Some (Some body) → IsInstruction P (first_of number method)
  first_starts number method class body class_there body_there =
      let code = whole number method class body class_there body_there in
      starts P number method 0 class body class_there body_there (code.whole.first code.some)

  -- so has a method that is named
  method_starts : (number : ℕ) (class : Class) (name desc : List ℕ) (item : Item) → slice_get P.classes number ≡ Some class → option_map (first_of number) (method_in class name desc) ≡ Some item → IsInstruction P item
  method_starts number class name desc item class_there found =
      let method = mapped (first_of number) (method_in class name desc) item found in
      let place = joined (if_known class) (place_named name desc class.methods) method.0 method.1 in
      let body = mapped (λ (b : Body). place.0) (body_in class place.0) method.0 place.2 in
      subst (IsInstruction P) (ap (first_of number) body.2 ∙ method.2) (first_starts number place.0 class body.0 class_there (slot_is class.bodies place.0 body.0 body.1))

  -- so has a method that is called
  called_starts : (op : ℕ) (reference : Reference) (item : Item) → method_first op reference (numbered_by_name P reference.class) ≡ Some item → IsInstruction P item
  called_starts op reference item found = by_test (op == 184) found
    where
      by_test : (b : Bool) → cond b (option_and_then (λ (known : Numbered). option_map (first_of known.0) (method_in known.1 reference.name reference.desc)) (numbered_by_name P reference.class)) None ≡ Some item → IsInstruction P item
      by_test true e =
          let known = joined (λ (k : Numbered). option_map (first_of k.0) (method_in k.1 reference.name reference.desc)) (numbered_by_name P reference.class) item e in
          method_starts known.0.0 known.0.1 reference.name reference.desc item (named_is P reference.class known.0 known.1) known.2
      by_test false e = absurd (let f = e in cc)

  -- so has an initialiser
  initialiser_starts : (class : Option Numbered) (item : Item) → ((known : Numbered) → class ≡ Some known → slice_get P.classes known.0 ≡ Some known.1) → initialiser_first class ≡ Some item → IsInstruction P item
  initialiser_starts (Some known) item class_there found = method_starts known.0 known.1 (codes "<clinit>") (codes "()V") item (class_there known refl) found
  initialiser_starts None item class_there found = absurd (let e = found in cc)

  -- so has an entry
  entry_starts : (id : MethodId) → CanEnter (slice_get P.classes id.class) id.method → IsInstruction P (first_of id.class id.method)
  entry_starts id enters =
      let body = there (option_and_then (λ (c : Class). body_in c id.method) (slice_get P.classes id.class)) enters.0 in
      let class = joined (λ (c : Class). body_in c id.method) (slice_get P.classes id.class) body.0 body.1 in
      first_starts id.class id.method class.0 body.0 class.1 (slot_is class.0.bodies id.method body.0 class.2)

  -- THE ENTRY

  -- no items have anything
  no_item : (P : Item → Type 0) → All P []
  no_item P k d within = absurd (omega (arith, within))

  -- nor have no handlers
  no_handler : (P : CatchPart → Type 0) → All P []
  no_handler P k d within = absurd (omega (arith, within))

  -- the items in the view of the entry have views
  entry_leads : LeadsToViews P (view_at P Entry)
  entry_leads = record {
    successor = tt;
    targets = no_item (IsInstruction P);
    handlers = no_handler (λ (part : CatchPart). IsInstruction P part.handler);
    first_item = if_some (IsInstruction P) (first_item_of P Entry) (λ item found.
        let id = mapped (λ (id : MethodId). first_of id.class id.method) P.entry item found in
        subst (IsInstruction P) id.2 (entry_starts id.0 (of_some (λ (i : MethodId). CanEnter (slice_get P.classes i.class) i.method) P.entry id.0 id.1 is.enters)));
    initialiser_item = if_some (IsInstruction P) (option_and_then initialiser_first (whose P Entry)) (λ item found.
        let class = joined initialiser_first (whose P Entry) item found in
        let id = mapped (λ (id : MethodId). numbered P id.class) P.entry class.0 class.1 in
        initialiser_starts class.0 item (λ known same. numbered_is P id.0.class known (id.2 ∙ same)) class.2);
  }

  -- AN INSTRUCTION

  module _ (number method offset : ℕ) (at : Stands P number method offset) where
    -- the code that it stands in
    code : HasWholeCode at.class at.body
    code = whole number method at.class at.body at.class_there at.body_there

    -- where another instruction of it starts, that one has a view
    start_has_view : (other : ℕ) → is_start at.body.code.steps other ≡ true → IsInstruction P (At number method other)
    start_has_view other start = starts P number method other at.class at.body at.class_there at.body_there start

    -- the items in the view of an instruction have views
    instruction_leads : LeadsToViews P (view_at P (At number method offset))
    instruction_leads = record {
      successor = if_some (IsInstruction P) (successor_of P (At number method offset)) (λ item found.
          let behind = mapped (At number method) (option_and_then (λ (body : Body). next_of body.code offset) (body_of P (method_id number method))) item found in
          let known : next_of at.body.code offset ≡ Some behind.0 = sym (ap (option_and_then (λ (body : Body). next_of body.code offset)) (body_known P number method offset at)) ∙ behind.1 in
          subst (IsInstruction P) behind.2 (start_has_view behind.0 (code.whole.next offset behind.0 known)));
      targets =
          let all : list_all (is_start at.body.code.steps) (targets_of at.step.instr.operand) ≡ true = code.whole.targets offset at.step.instr (rw at.step_there refl) in
          subst (All (IsInstruction P)) (sym (targets_seen P number method offset at))
          (All-map (IsInstruction P) (At number method) (targets_of at.step.instr.operand) (λ k d within. start_has_view _ (AllPass-from_list_all (is_start at.body.code.steps) (targets_of at.step.instr.operand) all k d within)));
      handlers =
          let seen : or_empty (option_map (handlers_at (At number method offset)) (body_of P (method_id number method))) ≡ map (catch_part number method) (filter (covers offset) at.body.code.handlers) =
          ap (λ (body : Option Body). or_empty (option_map (handlers_at (At number method offset)) body)) (body_known P number method offset at) in
          subst (All (λ (part : CatchPart). IsInstruction P part.handler)) (sym seen)
          (All-map (λ (part : CatchPart). IsInstruction P part.handler) (catch_part number method) (filter (covers offset) at.body.code.handlers)
          (All-filter (covers offset) (λ (handler : Handler). IsInstruction P (At number method handler.target)) at.body.code.handlers (λ k d within.
          let here = AllPass-from_list_all _ at.body.code.handlers code.whole.handlers k d within in
          start_has_view _ (both_true _ _ (both_true _ _ here).1).0)));
      first_item = if_some (IsInstruction P) (first_item_of P (At number method offset)) (λ item found.
          let op = joined _ (op_of P (At number method offset)) item found in
          let reference = joined (λ (reference : Reference). method_first op.0 reference (numbered_by_name P reference.class)) (reference_of P (At number method offset)) item op.2 in
          called_starts op.0 reference.0 item reference.2);
      initialiser_item = if_some (IsInstruction P) (option_and_then initialiser_first (whose P (At number method offset))) (λ item found.
          let class = joined initialiser_first (whose P (At number method offset)) item found in
          let reference = mapped (λ (reference : Reference). numbered_by_name P reference.class) (reference_of P (At number method offset)) class.0 class.1 in
          initialiser_starts class.0 item (λ known same. named_is P reference.0.class known (reference.2 ∙ same)) class.2);
    }

  -- THE LAW

  -- so it is for each item
  leads_at : (item : Item) → is_some (view P item) ≡ true → LeadsToViews P (view_at P item)
  leads_at Entry has = entry_leads
  leads_at (At number method offset) has =
      let v = there (view P (At number method offset)) has in
      instruction_leads number method offset (stands P number method offset (is_view P (At number method offset) v.0 v.1).0)

  -- and for each view
  pub leads : (item : Item) (v : View) → view P item ≡ Some v → LeadsToViews P v
  leads item v seen = subst (LeadsToViews P) (is_view P item v seen).1 (leads_at item (ap is_some seen))
