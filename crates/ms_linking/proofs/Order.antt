-- The program that the machine runs is in order, where it is made of a program of class files.
use Rattle.std.proofs.Common.{◌≡◌, ℕ, suc, Bool, true, false, ◌&&◌, cond, List, [], ◌∷◌, map, Option, Some, None, refl, sym, ap, subst, ◌∙◌, arith}
use Rattle.std.specs.Prelude.{All, IfSome, is_some, option_and_then, option_map, slice_get}
use Rattle.std.specs.List.{AllByRecursion}
use Rattle.ms_words.specs.declared.descriptor.EntryPart.{EntryPart}
use Rattle.ms_words.specs.declared.item.Item.{Item}
use Rattle.ms_words.specs.declared.item.Item.TheVariants.{Entry, At}
use Rattle.ms_words.specs.Descriptors.{entry_part_of}
use Rattle.ms_code.specs.declared.instruction.Instr as code
use Rattle.ms_program.specs.declared.method.MethodId.{MethodId}
use Rattle.ms_program.specs.declared.view.CatchPart.{CatchPart}
use Rattle.ms_program.specs.Laws as seen
use Rattle.ms_program.specs.Laws.{IsInstruction, IsOfSubset}
use Rattle.ms_program.specs.Programs.{CanEnter, Class, IsProgram, Program, can_be_entry, class_named, key_of}
use Rattle.ms_program.specs.Names.{Key}
use Rattle.ms_program.specs.Views as views
use Rattle.ms_program.specs.Views.{first_of, has_view, initialiser_there, numbered, view, view_at, whose}
use Rattle.ms_machine.specs.Instructions.{Instr}
use Rattle.ms_machine.specs.Control as machine
use Rattle.ms_machine.specs.Control.{EntryView, Handler, View}
use Rattle.ms_machine.specs.Laws.{HasView, LeadsToViews, keys_of}
use Rattle.ms_linking.specs.Laws.{IsInOrder}
use Rattle.ms_linking.specs.Linked.{entry_in, entry_of, entry_with, handler_of, linked, linked_instr, program_of, views_of, with_instr}
use Rattle.ms_linking.proofs.Linking.{AreKeys, IsLinked, instruction_linked}

-- WHAT IS THERE

some_is : {A : Type 0} (x y : A) → ◌≡◌ {A = Option A} (Some x) (Some y) → x ≡ y
some_is x y e = cc

mapped : {A B : Type 0} (f : A → B) (found : Option A) (y : B) → option_map f found ≡ Some y → (x : A) × (found ≡ Some x) × (f x ≡ y)
mapped f (Some x) y is = (x, refl, some_is (f x) y is)
mapped f None y is = absurd (let e = is in cc)

joined : {A B : Type 0} (next : A → Option B) (found : Option A) (y : B) → option_and_then next found ≡ Some y → (x : A) × (found ≡ Some x) × (next x ≡ Some y)
joined next (Some x) y is = (x, refl, is)
joined next None y is = absurd (let e = is in cc)

there : {A : Type 0} (o : Option A) → is_some o ≡ true → (x : A) × (o ≡ Some x)
there (Some x) is = (x, refl)
there None is = absurd (let e = is in cc)

some_of : {A : Type 0} {o : Option A} (x : A) → o ≡ Some x → is_some o ≡ true
some_of x is = rw is refl

if_some : {A : Type 0} (Q R : A → Type 0) (o : Option A) → ((x : A) → Q x → R x) → IfSome o Q → IfSome o R
if_some Q R None implies holds = tt
if_some Q R (Some x) implies holds = implies x holds

all_of : {A : Type 0} (Q R : A → Type 0) (xs : List A) → ((x : A) → Q x → R x) → All Q xs → AllByRecursion R xs
all_of Q R [] implies all = tt
all_of Q R (x ∷ xs) implies all = (implies x (all 0 x (omega arith)), all_of Q R xs implies (λ k d within. all (suc k) d (omega (arith, within))))

handlers_of : (Q : CatchPart → Type 0) (R : Handler → Type 0) (parts : List CatchPart) → ((part : CatchPart) → Q part → R (handler_of part)) → All Q parts → AllByRecursion R (map handler_of parts)
handlers_of Q R [] implies all = tt
handlers_of Q R (part ∷ parts) implies all = (implies part (all 0 part (omega arith)), handlers_of Q R parts implies (λ k d within. all (suc k) d (omega (arith, within))))

-- VIEWS

-- an item that has a view has this one
view_is : (P : Program) (item : Item) → has_view P item ≡ true → view P item ≡ Some (view_at P item)
view_is P item has = rw has refl

-- the laws of views, of one program
module _ (P : Program)
    (of_subset : (class method offset : ℕ) (v : views.View) → view P (At class method offset) ≡ Some v → (instr : code.Instr) × (v.instr ≡ Some instr) × IsOfSubset v instr) where
  at_linked : (class method offset : ℕ) (v : views.View) → view P (At class method offset) ≡ Some v → IsLinked P (At class method offset) v
  at_linked class method offset v is =
      let found = of_subset class method offset v is in
      instruction_linked P (At class method offset) v found.0 is found.1 found.2

  -- each instruction is seen
  pub instruction_seen : (item : Item) → IsInstruction P item → HasView (views_of P) item
  instruction_seen Entry is = absurd (let e = is in cc)
  instruction_seen (At class method offset) is =
      let item = At class method offset in
      let linked = at_linked class method offset (view_at P item) (view_is P item is) in
      some_of (with_instr (view_at P item) linked.instr) linked.is

  -- what is seen is that of a view
  view_of : (item : Item) (at : View) → views_of P item ≡ Some at → (v : views.View) × (view P item ≡ Some v) × ((instr : Instr) × (with_instr v instr ≡ at))
  view_of item at is =
      let v = joined (linked (class_named P)) (view P item) at is in
      let instr = mapped (with_instr v.0) (option_and_then (linked_instr (class_named P) v.0) v.0.instr) at v.2 in
      (v.0, v.1, (instr.0, instr.2))

  -- keys of what is seen
  keys_seen : (item : Item) (at : View) → views_of P item ≡ Some at → AreKeys (keys_of at.instr)
  keys_seen Entry at is = absurd (by_view (is_some P.entry) is)
    where
      by_view : (b : Bool) → option_and_then (linked (class_named P)) (cond b (Some (view_at P Entry)) None) ≡ Some at → ⊥
      by_view true e = let f = e in cc
      by_view false e = let f = e in cc
  keys_seen (At class method offset) at is =
      let v = view_of (At class method offset) at is in
      let linked = at_linked class method offset v.0 v.1 in
      subst (λ (o : View). AreKeys (keys_of o.instr)) (some_is (with_instr v.0 linked.instr) at (sym linked.is ∙ is)) linked.keys

  module _ (leads : (item : Item) (v : views.View) → view P item ≡ Some v → seen.LeadsToViews P v) where
    views_lead : (item : Item) (at : View) → views_of P item ≡ Some at → LeadsToViews (views_of P) at
    views_lead item at is =
        let v = view_of item at is in
        let all = leads item v.0 v.1 in
        subst (LeadsToViews (views_of P)) v.2.1 (record {
          next = if_some (IsInstruction P) (HasView (views_of P)) v.0.successor instruction_seen all.successor;
          targets = all_of (IsInstruction P) (HasView (views_of P)) v.0.targets instruction_seen all.targets;
          handlers = handlers_of (λ part. IsInstruction P part.handler) (λ (handler : Handler). HasView (views_of P) handler.begins) v.0.handlers (λ part. instruction_seen part.handler) all.handlers;
          callee = if_some (IsInstruction P) (HasView (views_of P)) v.0.first_item instruction_seen all.first_item;
          initialiser = if_some (IsInstruction P) (HasView (views_of P)) v.0.initialiser_item instruction_seen all.initialiser_item;
        })

    -- THE ENTRY

    -- the entry's items are those of its view
    record HasItems (entry : EntryView) : Type 0 where
      v : views.View
      is : view P Entry ≡ Some v
      first : v.first_item ≡ Some entry.first
      initialiser : entry.initialiser_first ≡ v.initialiser_item

    items_of : (number : ℕ) (v : views.View) (class : Class) (entry : EntryView) → view P Entry ≡ Some v → entry_in number v class ≡ Some entry → HasItems entry
    items_of number v class entry is found =
        let part = joined (λ (part : EntryPart). option_and_then (λ first. option_map (entry_with number class v part first) v.initialiser) v.first_item) v.entry_part entry found in
        let first = joined (λ first. option_map (entry_with number class v part.0 first) v.initialiser) v.first_item entry part.2 in
        let state = mapped (entry_with number class v part.0 first.0) v.initialiser entry first.2 in
        record {
          v = v;
          is = is;
          first = first.1 ∙ ap (λ (e : EntryView). Some e.first) state.2;
          initialiser = sym (ap (λ (e : EntryView). e.initialiser_first) state.2);
        }

    entry_items : (entry : EntryView) → entry_of P ≡ Some entry → HasItems entry
    entry_items entry is =
        let id = joined (λ (id : MethodId). option_and_then (λ v. option_and_then (entry_in id.class v) (slice_get P.classes id.class)) (view P Entry)) P.entry entry is in
        let v = joined (λ v. option_and_then (entry_in id.0.class v) (slice_get P.classes id.0.class)) (view P Entry) entry id.2 in
        let class = joined (entry_in id.0.class v.0) (slice_get P.classes id.0.class) entry v.2 in
        items_of id.0.class v.0 class.0 entry v.1 class.2

    pub in_order : (run : machine.Program) → program_of P ≡ Some run → IsInOrder run
    in_order run is =
        let made = mapped (λ (entry : EntryView). record { entry = entry; view = views_of P }) (entry_of P) run is in
        let items = entry_items made.0 made.1 in
        let all = leads Entry items.v items.is in
        let first : HasView (views_of P) made.0.first = instruction_seen made.0.first (held (IsInstruction P) items.first all.first_item) in
        let initialiser : IfSome made.0.initialiser_first (HasView (views_of P)) = subst (λ o. IfSome o (HasView (views_of P))) (sym items.initialiser) (if_some (IsInstruction P) (HasView (views_of P)) items.v.initialiser_item instruction_seen all.initialiser_item) in
        subst IsInOrder made.2 (record {
          closed = record { first = first; initialiser = initialiser; views = views_lead };
          differ = λ item at seen. (keys_seen item at seen).0;
          few = λ item at seen. (keys_seen item at seen).1;
        })
      where
        held : {A : Type 0} (Q : A → Type 0) {o : Option A} {x : A} → o ≡ Some x → IfSome o Q → Q x
        held Q is holds = subst (λ o. IfSome o Q) is holds

-- WHERE AN ENTRY IS SET

can_enter : (class : Option Class) (method : ℕ) → CanEnter class method → (c : Class) × (class ≡ Some c)
can_enter (Some c) method can = (c, refl)
can_enter None method can = absurd (let e = can.0 in cc)

some_then : {A B : Type 0} (next : A → Option B) (o : Option A) (x : A) → o ≡ Some x → is_some (next x) ≡ true → is_some (option_and_then next o) ≡ true
some_then next o x is some = ap (λ found. is_some (option_and_then next found)) is ∙ some

some_map : {A B : Type 0} (f : A → B) (o : Option A) → is_some o ≡ true → is_some (option_map f o) ≡ true
some_map f (Some x) is = refl
some_map f None is = absurd (let e = is in cc)

both : (a b : Bool) → (a && b) ≡ true → (a ≡ true) × (b ≡ true)
both true b is = (refl, is)
both false b is = absurd (let e = is in cc)

module _ (P : Program) (id : MethodId) (is : P.entry ≡ Some id) (can : CanEnter (slice_get P.classes id.class) id.method) where
  part_there : is_some (view_at P Entry).entry_part ≡ true
  part_there =
      let key = mapped can_be_entry (key_of P id) true can.1 in
      some_then (λ (key : Key). entry_part_of key.1) (option_and_then (key_of P) P.entry) key.0 (ap (option_and_then (key_of P)) is ∙ key.1) (both (is_some (entry_part_of key.0.1)) _ key.2).0

  first_there : is_some (view_at P Entry).first_item ≡ true
  first_there = some_map (λ (id : MethodId). first_of id.class id.method) P.entry (some_of id is)

  state_there : is_some (view_at P Entry).initialiser ≡ true
  state_there = some_map initialiser_there (whose P Entry) (some_map (λ (id : MethodId). numbered P id.class) P.entry (some_of id is))

  entry_there : is_some (entry_of P) ≡ true
  entry_there =
      let v = view_at P Entry in
      let class = can_enter (slice_get P.classes id.class) id.method can in
      let part = there v.entry_part part_there in
      let first = there v.first_item first_there in
      some_then (λ (id : MethodId). option_and_then (λ v. option_and_then (entry_in id.class v) (slice_get P.classes id.class)) (view P Entry)) P.entry id is
      (some_then (λ v. option_and_then (entry_in id.class v) (slice_get P.classes id.class)) (view P Entry) v (view_is P Entry (some_of id is))
      (some_then (entry_in id.class v) (slice_get P.classes id.class) class.0 class.1
      (some_then (λ part. option_and_then (λ first. option_map (entry_with id.class class.0 v part first) v.initialiser) v.first_item) v.entry_part part.0 part.1
      (some_then (λ first. option_map (entry_with id.class class.0 v part.0 first) v.initialiser) v.first_item first.0 first.1
      (some_map (entry_with id.class class.0 v part.0 first.0) v.initialiser state_there)))))

pub entry_seen : (P : Program) → IsProgram P → is_some P.entry ≡ true → is_some (program_of P) ≡ true
entry_seen P program set =
    let id = there P.entry set in
    let can = subst (λ o. IfSome o (λ (id : MethodId). CanEnter (slice_get P.classes id.class) id.method)) id.1 program.enters in
    some_map (λ (entry : EntryView). record { entry = entry; view = views_of P }) (entry_of P) (entry_there P id.0 id.1 can)
