-- Names with their descriptors, kept and looked for.
use Rattle.std.proofs.Common.{◌≡◌, ℕ, ◌+◌, ◌<◌, ◌≤◌, List, [], ◌∷◌, ◌++◌, append_assoc, append-nil, length, map, drop, drop_of_length-le, get_or, slice_get, Bool, false, cond, nat_lt, not, Some, None, refl, sym, ap, subst, ◌∙◌}
use Rattle.std.specs.Prelude.{◌||◌, if◌then◌else◌, position}
use Rattle.std.specs.List.{list_any, position_or_len, prefix_len}
use Rattle.std.proofs.lemmas.Option.{slice_get-get_or}
use Rattle.std.proofs.lemmas.List.Quantifiers.{position-Some}
use Rattle.std.proofs.lemmas.List.{drop_more, length-map, map-append}
use Rattle.ms_classfile.specs.ClassFile.{is_there}
use Rattle.ms_classfile.specs.ClassLaws.{AreDistinct, AreNew}
use Rattle.ms_program.specs.declared.names.Kept.{Kept}
use Rattle.ms_program.specs.Names.{Key, is_named, place_named, same_key}

-- a key that is kept
abbrev pub key_of : Kept → Key
key_of kept = (kept.name.items, kept.desc.items)

prefix_of_keys : (p : Key → Bool) (all : List Kept) → prefix_len (λ (k : Kept). p (key_of k)) all ≡ prefix_len p (map key_of all)
prefix_of_keys p [] = refl
prefix_of_keys p (kept ∷ all) = ap (λ (n : ℕ). cond (p (key_of kept)) (1 + n) 0) (prefix_of_keys p all)

-- where a key is kept
pub place_of_key : (name desc : List ℕ) (all : List Kept) → position (λ (k : Kept). is_named name desc (key_of k)) all ≡ place_named name desc (map key_of all)
place_of_key name desc all =
    let places = prefix_of_keys (λ (key : Key). not (is_named name desc key)) all in
    ap (λ (n : ℕ). cond (nat_lt n (length all)) (Some n) None) places ∙ ap (λ (m : ℕ). cond (nat_lt (position_or_len (is_named name desc) (map key_of all)) m) (Some (position_or_len (is_named name desc) (map key_of all))) None) (sym (length-map all key_of))

-- whether a key is kept
pub is_kept : (name desc : List ℕ) (all : List Kept) → list_any (λ (k : Kept). is_named name desc (key_of k)) all ≡ is_there name desc (map key_of all)
is_kept name desc [] = refl
is_kept name desc (kept ∷ all) = ap (λ (b : Bool). is_named name desc (key_of kept) || b) (is_kept name desc all)

-- one more key is kept
pub one_kept : (kept : Kept) (old new : List Kept) → is_there kept.name.items kept.desc.items (map key_of old) ≡ false
    → new ≡ (if list_any (λ (k : Kept). is_named kept.name.items kept.desc.items (key_of k)) old then old else old ++ kept ∷ []) → map key_of new ≡ map key_of old ++ key_of kept ∷ []
one_kept kept old new fresh is =
    let absent : list_any (λ (k : Kept). is_named kept.name.items kept.desc.items (key_of k)) old ≡ false = is_kept kept.name.items kept.desc.items old ∙ fresh in
    ap (map key_of) (is ∙ ap (λ (b : Bool). if b then old else old ++ kept ∷ []) absent) ∙ map-append key_of old (kept ∷ [])

-- SEVERAL MEMBERS

-- these are the names of the members up to this place, and those of the members behind it are new
pub record AreSoFar {X : Type 0} (key : X → Key) (members : List X) (at : ℕ) (names : List Key) : Type 0 where
  pub are : names ++ map key (drop at members) ≡ map key members
  pub new : AreNew names (map key (drop at members))

module _ {X : Type 0} (key : X → Key) (members : List X) where
  pub none_so_far : AreDistinct (map key members) → AreSoFar key members 0 []
  none_so_far distinct = record { are = refl; new = distinct }

  module _ (at : ℕ) (member : X) (names : List Key) (within : at < length members) (so_far : AreSoFar key members at names) where
    next : drop at members ≡ get_or members at member ∷ drop (at + 1) members
    next = drop_more members at member within

    new_next : AreNew names (key (get_or members at member) ∷ map key (drop (at + 1) members))
    new_next = subst (λ (left : List X). AreNew names (map key left)) next so_far.new

    -- the next one is new
    pub next_is_new : is_there (key (get_or members at member)).0 (key (get_or members at member)).1 names ≡ false
    next_is_new = new_next.0

    -- one more
    pub one_more : AreSoFar key members (at + 1) (names ++ key (get_or members at member) ∷ [])
    one_more = record {
      are = append_assoc names (key (get_or members at member) ∷ []) (map key (drop (at + 1) members)) ∙ ap (λ (left : List X). names ++ map key left) (sym next) ∙ so_far.are;
      new = new_next.1;
    }

  -- they are all
  pub all_so_far : (at : ℕ) (names : List Key) → length members ≤ at → AreSoFar key members at names → names ≡ map key members
  all_so_far at names past so_far = sym (append-nil names) ∙ ap (λ (left : List X). names ++ map key left) (sym (drop_of_length-le members past)) ∙ so_far.are

-- a name and a descriptor are those of a key
pub key_is : (name desc : List ℕ) (key : Key) → name ≡ key.0 → desc ≡ key.1 → (name, desc) ≡ key
key_is name desc key first second = ap (λ (n : List ℕ). (n, desc)) first ∙ ap (λ (d : List ℕ). (key.0, d)) second

-- where a name and a descriptor are found, they stand
pub named_there : (name desc : List ℕ) (keys : List Key) (i : ℕ) → place_named name desc keys ≡ Some i → slice_get keys i ≡ Some (name, desc)
named_there name desc keys i found =
    let at = position-Some (is_named name desc) keys i (name, desc) found in
    let named = same_key name desc (get_or keys i (name, desc)) at.1 in
    slice_get-get_or keys i (name, desc) at.0 ∙ ap (λ (key : Key). Some key) (sym (key_is name desc (get_or keys i (name, desc)) named.0 named.1))
