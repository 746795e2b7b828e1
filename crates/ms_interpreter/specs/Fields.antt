-- Static fields that were stored, by the numbers of their classes, their names and their descriptors.
use Rattle.std.specs.Prelude.{◌≡◌, ℕ, cond, ◌==◌, ◌&&◌, Bool, true, false, IsTrue, List, [], ◌∷◌, Option, Some, None}
use Rattle.std.proofs.Common.{refl}
use Rattle.std.specs.Str.{bytes_eq}
use Rattle.std.specs.Cmp.Lexicographic.{bytes_decides}
use Rattle.std.proofs.lemmas.Bool.Decides.{Decides-eqb}
use Rattle.ms_interpreter.specs.declared.slot.Slot.{Slot}
use Rattle.ms_interpreter.specs.Frames.{Field}

-- whether a class, a name and a descriptor are these
abbrev pub is_kept : ℕ → (name descriptor : List ℕ) → ℕ → (name' descriptor' : List ℕ) → Bool
is_kept class name descriptor class' name' descriptor' = class == class' && (bytes_eq name name' && bytes_eq descriptor descriptor')

-- what a field holds, where it was stored
abbrev pub found_in : {I : Type 0} → List (Field I) → ℕ → (name descriptor : List ℕ) → Option (Slot I)
found_in [] class name descriptor = None
found_in (field ∷ fields) class name descriptor =
    cond (is_kept class name descriptor field.class field.name field.descriptor) (Some field.slot) (found_in fields class name descriptor)

-- the fields with something in one of them
abbrev pub with_field : {I : Type 0} → List (Field I) → ℕ → (name descriptor : List ℕ) → Slot I → List (Field I)
with_field [] class name descriptor slot = record { class = class; name = name; descriptor = descriptor; slot = slot } ∷ []
with_field (field ∷ fields) class name descriptor slot =
    cond (is_kept class name descriptor field.class field.name field.descriptor) (record field { slot = slot } ∷ fields) (field ∷ with_field fields class name descriptor slot)

both : (a b : Bool) → IsTrue (a && b) → IsTrue a × IsTrue b
both true b is = (refl, is)
both false b is = absurd (let e = is in cc)

-- a class, a name and a descriptor that are these are equal to them
pub same_field : (class : ℕ) (name descriptor : List ℕ) (class' : ℕ) (name' descriptor' : List ℕ) → IsTrue (is_kept class name descriptor class' name' descriptor')
    → (class ≡ class') × (name ≡ name') × (descriptor ≡ descriptor')
same_field class name descriptor class' name' descriptor' is =
    let first = both (class == class') (bytes_eq name name' && bytes_eq descriptor descriptor') is in
    let rest = both (bytes_eq name name') (bytes_eq descriptor descriptor') first.1 in
    ((Decides-eqb class class').0 first.0, (bytes_decides name name').0 rest.0, (bytes_decides descriptor descriptor').0 rest.1)
