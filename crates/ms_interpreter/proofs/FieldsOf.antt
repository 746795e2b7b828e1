-- Static fields as they are kept in a map.
use Rattle.std.proofs.Common.{◌≡◌, ℕ, Bool, true, false, cond, List, [], ◌∷◌, map, Option, Some, refl, ap, ◌∙◌}
use Rattle.std.specs.Map.{lookup}
use Rattle.indexmap.specs.IndexMap.{insert_entry}
use Rattle.ms_interpreter.specs.declared.slot.Slot.{Slot}
use Rattle.ms_interpreter.specs.declared.statics.Kept.{Kept}
use Rattle.ms_interpreter.specs.Fields.{found_in, is_kept, with_field}
use Rattle.ms_interpreter.specs.Frames.{Field}

-- an entry of the map as a field
abbrev pub field_of : {I : Type 0} → Kept × Slot I → Field I
field_of entry = record { class = entry.0.class; name = entry.0.name.items; descriptor = entry.0.descriptor.items; slot = entry.1 }

-- whether a key is this field
abbrev pub is_key : ℕ → (name descriptor : List ℕ) → Kept → Bool
is_key class name descriptor kept = is_kept class name descriptor kept.class kept.name.items kept.descriptor.items

cond_ap : {A B : Type 0} (f : A → B) (test : Bool) (a b : A) → f (cond test a b) ≡ cond test (f a) (f b)
cond_ap f true a b = refl
cond_ap f false a b = refl

-- what a look-up finds
pub found : {I : Type 0} (class : ℕ) (name descriptor : List ℕ) (entries : List (Kept × Slot I))
    → lookup (is_key class name descriptor) entries ≡ found_in (map field_of entries) class name descriptor
found class name descriptor [] = refl
found class name descriptor (entry ∷ entries) =
    ap (λ (rest : Option _). cond (is_key class name descriptor entry.0) (Some entry.1) rest) (found class name descriptor entries)

-- what a store leaves
pub stored : {I : Type 0} (key : Kept) (slot : Slot I) (entries : List (Kept × Slot I))
    → map field_of (insert_entry (λ (a b : Kept). is_key a.class a.name.items a.descriptor.items b) entries key slot) ≡ with_field (map field_of entries) key.class key.name.items key.descriptor.items slot
stored key slot [] = refl
stored key slot (entry ∷ entries) =
    let test = is_key key.class key.name.items key.descriptor.items entry.0 in
    let after = insert_entry (λ (a b : Kept). is_key a.class a.name.items a.descriptor.items b) entries key slot in
    cond_ap (map field_of) test ((entry.0, slot) ∷ entries) (entry ∷ after)
    ∙ ap (λ (rest : List (Field _)). cond test (field_of (entry.0, slot) ∷ map field_of entries) (field_of entry ∷ rest)) (stored key slot entries)
