-- The attributes that are read are spelled there, and those that are spelled are read.
use Rattle.std.proofs.Common.{◌≡◌, ℕ, List, [], ◌∷◌, ◌++◌, length, Some, refl, subst, append_assoc}
use Rattle.std.specs.Prelude.{IsTrue, is_some}
use Rattle.std.specs.List.{list_all, flat_map, AllByRecursion}
use Rattle.std.proofs.lemmas.Bool.{and_parts, and_from}
use Rattle.ms_pool.specs.Places.{Place}
use Rattle.ms_pool.specs.Numbers.{IsBytes, width2, width4}
use Rattle.ms_classfile.specs.ThinFile.{Entry, Attribute, u2, u4, utf8, has_name, spelled_attribute, spelled_attributes, AttributeFits, AttributesFit}
use Rattle.ms_classfile.specs.Reading.{u2_at, u4_at, bytes_at, attribute_at, attributes_at}
use Rattle.ms_classfile.proofs.Steps.{then_some, provided_some, some_is}
use Rattle.ms_classfile.proofs.Spelling.{Takes, Takes-is, Reaches, number_takes, number_reaches, run_takes, run_reaches, repeated_takes, repeated_reaches}

-- an attribute that has a spelling, and a text for its name
pub record IsHeld (pool : List Entry) (attribute : Attribute) : Type 0 where
  pub fits : AttributeFits attribute
  pub named : IsTrue (has_name pool attribute)

-- one whose content is bytes
pub record IsFound (pool : List Entry) (attribute : Attribute) : Type 0 where
  pub held : IsHeld pool attribute
  pub bytes : IsBytes attribute.content

attribute_takes : (pool : List Entry) (start front : List ℕ) (place : Place) (x : Attribute × Place) → Takes start front place.left → attribute_at pool place ≡ Some x → Takes start (front ++ spelled_attribute x.0) x.1.left × IsFound pool x.0
unfolding attribute_at
attribute_takes pool start front place x takes found =
    then_some (u2_at place) _ x found (λ name at_name more.
    then_some (u4_at name.1) _ x more (λ size at_size more.
    then_some (bytes_at size.0 size.1) _ x more (λ content at_content last.
    let made : Attribute × Place = (record { name = name.0; content = content.0 }, content.1) in
    let known = provided_some (is_some (utf8 pool name.0)) (Some made) x last in
    let one = number_takes 2 width2 start front place name takes at_name in
    let two = number_takes 4 width4 start (front ++ u2 name.0) name.1 size one.0 at_size in
    let three = run_takes size.0 start (front ++ u2 name.0 ++ u4 size.0) size.1 content two.0 at_content in
    let regrouped : front ++ u2 name.0 ++ u4 size.0 ++ content.0 ≡ front ++ spelled_attribute made.0 = rw three.1.0 (simp append_assoc) in
    subst (λ (y : Attribute × Place). Takes start (front ++ spelled_attribute y.0) y.1.left × IsFound pool y.0) (some_is made x known.1)
    (Takes-is start _ _ _ regrouped three.0, record { held = record { fits = record { name = one.1; content = rw three.1.0 two.1 }; named = known.0 }; bytes = three.1.1 }))))

attribute_reaches : (pool : List Entry) (x : Attribute) (place : Place) (rest : List ℕ) → IsHeld pool x → place.left ≡ spelled_attribute x ++ rest → Reaches (attribute_at pool place) x rest
unfolding attribute_at
attribute_reaches pool x place rest held spelled =
    let name = number_reaches 2 x.name place (u4 (length x.content) ++ (x.content ++ rest)) held.fits.name spelled in
    let size = number_reaches 4 (length x.content) name.after (x.content ++ rest) held.fits.content name.left in
    let run = run_reaches x.content size.after rest size.left in
    record { after = run.after; found = rw (name.found, size.found, run.found, held.named) refl; left = run.left }

-- attributes that have a spelling, and texts for their names
pub record AreHeld (pool : List Entry) (attributes : List Attribute) : Type 0 where
  pub fit : AttributesFit attributes
  pub named : IsTrue (list_all (has_name pool) attributes)

found_held : (pool : List Entry) (attributes : List Attribute) → AllByRecursion (IsFound pool) attributes → AllByRecursion AttributeFits attributes × IsTrue (list_all (has_name pool) attributes)
found_held pool [] each = (tt, refl)
found_held pool (x ∷ xs) each =
    let rest = found_held pool xs each.1 in
    ((each.0.held.fits, rest.0), and_from (has_name pool x) (list_all (has_name pool) xs) each.0.held.named rest.1)

each_held : (pool : List Entry) (attributes : List Attribute) → AllByRecursion AttributeFits attributes → IsTrue (list_all (has_name pool) attributes) → AllByRecursion (IsHeld pool) attributes
each_held pool [] fit named = tt
each_held pool (x ∷ xs) fit named =
    let both = and_parts (has_name pool x) (list_all (has_name pool) xs) named in
    (record { fits = fit.0; named = both.0 }, each_held pool xs fit.1 both.1)

pub attributes_takes : (pool : List Entry) (start front : List ℕ) (place : Place) (x : List Attribute × Place) → Takes start front place.left → attributes_at pool place ≡ Some x
    → Takes start (front ++ spelled_attributes x.0) x.1.left × (AreHeld pool x.0 × AllByRecursion (IsFound pool) x.0)
unfolding attributes_at
attributes_takes pool start front place x takes found =
    then_some (u2_at place) _ x found (λ count at_count more.
    let one = number_takes 2 width2 start front place count takes at_count in
    let all = repeated_takes (attribute_at pool) spelled_attribute (IsFound pool) (attribute_takes pool) count.0 start (front ++ u2 count.0) count.1 x one.0 more in
    let regrouped : front ++ u2 count.0 ++ flat_map spelled_attribute x.0 ≡ front ++ spelled_attributes x.0 = rw all.1.0 (append_assoc front (u2 count.0) (flat_map spelled_attribute x.0)) in
    let both = found_held pool x.0 all.1.1 in
    (Takes-is start _ _ _ regrouped all.0, (record { fit = record { number = rw all.1.0 one.1; each = both.0 }; named = both.1 }, all.1.1)))

pub attributes_reaches : (pool : List Entry) (attributes : List Attribute) (place : Place) (rest : List ℕ) → AreHeld pool attributes → place.left ≡ spelled_attributes attributes ++ rest → Reaches (attributes_at pool place) attributes rest
unfolding attributes_at
attributes_reaches pool attributes place rest held spelled =
    let count = number_reaches 2 (length attributes) place (flat_map spelled_attribute attributes ++ rest) held.fit.number spelled in
    let all = repeated_reaches (attribute_at pool) spelled_attribute (IsHeld pool) (attribute_reaches pool) attributes count.after rest (each_held pool attributes held.fit.each held.named) count.left in
    record { after = all.after; found = rw (count.found, all.found) refl; left = all.left }
