-- What the machine sees of static fields.
use Rattle.std.proofs.Common.{◌≡◌, ℕ, Bool, true, false, cond, ◌&&◌, List, [], ◌∷◌, map, Option, Some, None, refl, sym, ap, ◌∙◌}
use Rattle.std.proofs.lemmas.Cmp.{nat_eq_equiv, nat_list_eq_equiv}
use Rattle.std.specs.Prelude.{◌==◌}
use Rattle.std.specs.Str.{bytes_eq}
use Rattle.ms_machine.specs.Values.{Static, Value, static_value, with_static}
use Rattle.ms_interpreter.specs.declared.slot.Slot.{Slot}
use Rattle.ms_interpreter.specs.Fields.{found_in, is_kept, with_field}
use Rattle.ms_interpreter.specs.Frames.{Field}
use Rattle.ms_interpreter.specs.Seen.{Texts, static_of, value_of}

-- the two tests of a field are the same
is_the_field : (class : ℕ) (name descriptor : List ℕ) (class' : ℕ) (name' descriptor' : List ℕ)
    → (class' == class && (bytes_eq name' name && bytes_eq descriptor' descriptor)) ≡ is_kept class name descriptor class' name' descriptor'
is_the_field class name descriptor class' name' descriptor' =
    ap (λ (b : Bool). b && (bytes_eq name' name && bytes_eq descriptor' descriptor)) (nat_eq_equiv.symm class' class)
    ∙ ap (λ (b : Bool). class == class' && (b && bytes_eq descriptor' descriptor)) (nat_list_eq_equiv.symm name' name)
    ∙ ap (λ (b : Bool). class == class' && (bytes_eq name name' && b)) (nat_list_eq_equiv.symm descriptor' descriptor)

-- what a field holds, or is at first
abbrev pub or_first : {I V : Type 0} → (I → V) → Texts → Option (Slot I) → Value V → Value V
or_first f texts None first = first
or_first f texts (Some slot) first = value_of f texts slot

or_first_cond : {I V : Type 0} (f : I → V) (texts : Texts) (test : Bool) (slot : Slot I) (others : Option (Slot I)) (first : Value V)
    → or_first f texts (cond test (Some slot) others) first ≡ cond test (value_of f texts slot) (or_first f texts others first)
or_first_cond f texts true slot others first = refl
or_first_cond f texts false slot others first = refl

pub value_seen : {I V : Type 0} (f : I → V) (texts : Texts) (fields : List (Field I)) (class : ℕ) (name descriptor : List ℕ) (first : Value V)
    → static_value (map (static_of f texts) fields) class name descriptor first ≡ or_first f texts (found_in fields class name descriptor) first
value_seen f texts [] class name descriptor first = refl
value_seen f texts (field ∷ fields) class name descriptor first =
    ap (λ (b : Bool). cond b (value_of f texts field.slot) (static_value (map (static_of f texts) fields) class name descriptor first)) (is_the_field class name descriptor field.class field.name field.descriptor)
    ∙ ap (λ (v : Value _). cond (is_kept class name descriptor field.class field.name field.descriptor) (value_of f texts field.slot) v) (value_seen f texts fields class name descriptor first)
    ∙ sym (or_first_cond f texts (is_kept class name descriptor field.class field.name field.descriptor) field.slot (found_in fields class name descriptor) first)

map_cond : {A B : Type 0} (g : A → B) (test : Bool) (xs ys : List A) → map g (cond test xs ys) ≡ cond test (map g xs) (map g ys)
map_cond g true xs ys = refl
map_cond g false xs ys = refl

-- and fields with a value in one of them
pub with_seen : {I V : Type 0} (f : I → V) (texts : Texts) (fields : List (Field I)) (class : ℕ) (name descriptor : List ℕ) (slot : Slot I)
    → with_static (map (static_of f texts) fields) class name descriptor (value_of f texts slot) ≡ map (static_of f texts) (with_field fields class name descriptor slot)
with_seen f texts [] class name descriptor slot = refl
with_seen f texts (field ∷ fields) class name descriptor slot =
    let stored = static_of f texts (record field { slot = slot }) ∷ map (static_of f texts) fields in
    ap (λ (b : Bool). cond b stored (static_of f texts field ∷ with_static (map (static_of f texts) fields) class name descriptor (value_of f texts slot))) (is_the_field class name descriptor field.class field.name field.descriptor)
    ∙ ap (λ (others : List (Static _)). cond (is_kept class name descriptor field.class field.name field.descriptor) stored (static_of f texts field ∷ others)) (with_seen f texts fields class name descriptor slot)
    ∙ sym (map_cond (static_of f texts) (is_kept class name descriptor field.class field.name field.descriptor) (record field { slot = slot } ∷ fields) (field ∷ with_field fields class name descriptor slot))
