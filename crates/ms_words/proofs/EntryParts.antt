-- What an entry takes and returns is read of its descriptor letter by letter.
use Rattle.std.proofs.Common.{◌≡◌, ℕ, ◌-◌, ◌≤◌, length, take, drop, get_or, List, [], ◌∷◌, ◌++◌, Bool, true, false, cond, Option, Some, None, refl, sym, ap, ◌∙◌, append_assoc, append-nil, arith}
use Rattle.std.specs.Prelude.{◌==◌, nat_le, option_map, option_and_then}
use Rattle.std.proofs.lemmas.List.{length-append, take_all}
use Rattle.std.proofs.lemmas.Bool.{le-leb, lt-leb}
use Rattle.ms_words.specs.declared.kind.Kind.{Kind}
use Rattle.ms_words.specs.declared.kind.Kind.TheVariants.{Z, B, C, S, I}
use Rattle.ms_words.specs.declared.descriptor.EntryPart.{EntryPart}
use Rattle.ms_words.specs.declared.descriptor.FieldType.{FieldType}
use Rattle.ms_words.specs.declared.descriptor.FieldType.TheVariants.{Int, IntArray}
use Rattle.ms_words.specs.Descriptors.{Signature, at_most_eight, entry_part_of, few, ints_in, kind_of, kinds_in, letter, part, result_kind, result_of, types_in, with_type}
use Rattle.ms_words.proofs.Descriptors.{letter_is}

-- THE PARAMETERS

abbrev Found : Type 0
Found = Option (List FieldType × List ℕ)

abbrev Ints : Type 0
Ints = List Kind × List ℕ

-- with a kind in front
abbrev front : Kind → Ints → Ints
front kind ints = (kind ∷ ints.0, ints.1)

-- with these kinds in front
abbrev pub behind : List Kind → Ints → Ints
behind kinds ints = (kinds ++ ints.0, ints.1)

-- the parameters of a text are these kinds and those that are left
abbrev pub AreRead : List ℕ → List Kind → List ℕ → Type 0
AreRead text kinds left = ints_in (types_in false text) ≡ option_map (behind kinds) (ints_in (types_in false left))

abbrev some : {A : Type 0} → A → Option A
some x = Some x

-- nothing was read yet
pub none_read : (text : List ℕ) → AreRead text [] text
none_read text = by_found (ints_in (types_in false text))
  where
    by_found : (found : Option Ints) → found ≡ option_map (behind []) found
    by_found None = refl
    by_found (Some x) = refl

-- an int in front
int_in : (kind : Kind) (found : Found) → ints_in (with_type (Int kind) found) ≡ option_map (front kind) (ints_in found)
int_in kind None = refl
int_in kind (Some x) = by_kinds (kinds_in x.0)
  where
    by_kinds : (kinds : Option (List Kind)) → option_map (λ (kinds : List Kind). (kinds, x.1)) (option_map (λ (kinds : List Kind). kind ∷ kinds) kinds) ≡ option_map (front kind) (option_map (λ (kinds : List Kind). (kinds, x.1)) kinds)
    by_kinds None = refl
    by_kinds (Some kinds) = refl

array_in : (found : Found) → ints_in (with_type IntArray found) ≡ None
array_in None = refl
array_in (Some x) = refl

kind_read : (byte : ℕ) (kind : Kind) (left : List ℕ) → kind_of byte ≡ Some kind → types_in false (byte ∷ left) ≡ with_type (Int kind) (types_in false left)
kind_read byte kind left is = ap (λ (b : ℕ). types_in false (b ∷ left)) (letter_is byte kind is) ∙ by_kind kind
  where
    by_kind : (k : Kind) → types_in false (letter k ∷ left) ≡ with_type (Int k) (types_in false left)
    by_kind Z = refl
    by_kind B = refl
    by_kind C = refl
    by_kind S = refl
    by_kind I = refl

joined : (kinds : List Kind) (kind : Kind) (found : Option Ints) → option_map (behind kinds) (option_map (front kind) found) ≡ option_map (behind (kinds ++ kind ∷ [])) found
joined kinds kind None = refl
joined kinds kind (Some x) = ap (λ (l : List Kind). some (l, x.1)) (sym (append_assoc kinds (kind ∷ []) x.0))

left_behind : (byte : ℕ) (kind : Kind) (left : List ℕ) → kind_of byte ≡ Some kind → ints_in (types_in false (byte ∷ left)) ≡ option_map (front kind) (ints_in (types_in false left))
left_behind byte kind left is = ap ints_in (kind_read byte kind left is) ∙ int_in kind (types_in false left)

-- one more was read
pub one_read : (text : List ℕ) (kinds : List Kind) (byte : ℕ) (kind : Kind) (left : List ℕ) → AreRead text kinds (byte ∷ left) → kind_of byte ≡ Some kind → AreRead text (kinds ++ kind ∷ []) left
one_read text kinds byte kind left read is = read ∙ ap (option_map (behind kinds)) (left_behind byte kind left is) ∙ joined kinds kind (ints_in (types_in false left))

-- a ninth one
pub too_many : (text : List ℕ) (kinds : List Kind) (byte : ℕ) (kind : Kind) (left : List ℕ) → AreRead text kinds (byte ∷ left) → kind_of byte ≡ Some kind → 8 ≤ length kinds → few (ints_in (types_in false text)) ≡ None
too_many text kinds byte kind left read is full = ap few (read ∙ ap (option_map (behind kinds)) (left_behind byte kind left is)) ∙ by_found (ints_in (types_in false left))
  where
    by_found : (found : Option Ints) → few (option_map (behind kinds) (option_map (front kind) found)) ≡ None
    by_found None = refl
    by_found (Some x) =
        let over : nat_le (length (kinds ++ kind ∷ x.0)) 8 ≡ false = lt-leb (length (kinds ++ kind ∷ x.0)) 8 (omega (arith, full, length-append kinds (kind ∷ x.0))) in
        rw over refl

-- something else than an int
pub no_int : (byte : ℕ) (left : List ℕ) → (byte == 41) ≡ false → kind_of byte ≡ None → ints_in (types_in false (byte ∷ left)) ≡ None
no_int byte left not_closed is = rw (not_closed, is) (by_array (byte == 91))
  where
    in_array : (bytes : List ℕ) → ints_in (types_in true bytes) ≡ None
    in_array [] = refl
    in_array (first ∷ more) = by_int (first == 73)
      where
        by_int : (t : Bool) → ints_in (cond t (with_type IntArray (types_in false more)) None) ≡ None
        by_int true = array_in (types_in false more)
        by_int false = refl

    by_array : (t : Bool) → ints_in (cond t (types_in true left) None) ≡ None
    by_array true = in_array left
    by_array false = refl

-- the parenthesis that closes them
pub closed : (text : List ℕ) (kinds : List Kind) (byte : ℕ) (left : List ℕ) → AreRead text kinds (byte ∷ left) → (byte == 41) ≡ true → length kinds ≤ 8 → few (ints_in (types_in false text)) ≡ Some (kinds, left)
closed text kinds byte left read is small = ap few (read ∙ ap (option_map (behind kinds)) here) ∙ kept
  where
    here : ints_in (types_in false (byte ∷ left)) ≡ Some ([], left)
    here = rw is refl

    kept : few (some (kinds ++ [], left)) ≡ Some (kinds, left)
    kept =
        let all : kinds ++ [] ≡ kinds = append-nil kinds in
        let fits : nat_le (length kinds) 8 ≡ true = le-leb (length kinds) 8 small in
        rw (all, fits) refl

-- and no parenthesis
pub unclosed : (text : List ℕ) (kinds : List Kind) → AreRead text kinds [] → few (ints_in (types_in false text)) ≡ None
unclosed text kinds read = ap few read

-- THE RESULT

-- the kind of the result that these bytes name
abbrev pub kind_behind : List ℕ → Option (Option Kind)
kind_behind bytes = option_and_then result_kind (result_of bytes)

-- the kinds, with that of a result
abbrev with_kind : Option Ints → Option (Option Kind) → Option EntryPart
with_kind found result = option_and_then (λ (ints : Ints). option_map (part ints.0) result) found

abbrev signature : List FieldType → Option FieldType → Signature
signature types result = record { parameters = types; result = result }

-- the part that a signature gives
abbrev part_in : Signature → Option EntryPart
part_in s = option_and_then (λ (kinds : List Kind). option_and_then (at_most_eight kinds) (result_kind s.result)) (kinds_in s.parameters)

abbrev ints : List ℕ → List Kind → Ints
ints rest kinds = (kinds, rest)

-- what an entry takes is read first, and what it returns behind it
abbrev pub part_read : List ℕ → Option EntryPart
part_read [] = None
part_read (byte ∷ bytes) = cond (byte == 40) (option_and_then (λ (found : Ints). option_map (part found.0) (kind_behind found.1)) (few (ints_in (types_in false bytes)))) None

pub part_is : (desc : List ℕ) → entry_part_of desc ≡ part_read desc
part_is [] = refl
part_is (byte ∷ bytes) = by_open (byte == 40)
  where
    by_few : (kinds : List Kind) (rest : List ℕ) (result : Option (Option Kind)) (t : Bool) → option_and_then (λ (r : Option Kind). cond t (some (part kinds r)) None) result ≡ with_kind (cond t (some (kinds, rest)) None) result
    by_few kinds rest None true = refl
    by_few kinds rest None false = refl
    by_few kinds rest (Some r) true = refl
    by_few kinds rest (Some r) false = refl

    by_kinds : (rest : List ℕ) (result : Option FieldType) (kinds : Option (List Kind)) → option_and_then (λ (kinds : List Kind). option_and_then (at_most_eight kinds) (result_kind result)) kinds ≡ with_kind (few (option_map (ints rest) kinds)) (result_kind result)
    by_kinds rest result None = refl
    by_kinds rest result (Some kinds) = by_few kinds rest (result_kind result) (nat_le (length kinds) 8)

    by_none : (rest : List ℕ) (kinds : Option (List Kind)) → with_kind (few (option_map (ints rest) kinds)) None ≡ None
    by_none rest None = refl
    by_none rest (Some kinds) = sym (by_few kinds rest None (nat_le (length kinds) 8))

    by_result : (types : List FieldType) (rest : List ℕ) (result : Option (Option FieldType)) → option_and_then part_in (option_map (signature types) result) ≡ with_kind (few (option_map (ints rest) (kinds_in types))) (option_and_then result_kind result)
    by_result types rest None = sym (by_none rest (kinds_in types))
    by_result types rest (Some result) = by_kinds rest result (kinds_in types)

    outside : (types : List FieldType) (rest : List ℕ) (t : Option (List Kind)) → with_kind (few (option_map (ints rest) t)) (kind_behind rest) ≡ option_and_then (λ (found : Ints). option_map (part found.0) (kind_behind found.1)) (few (option_map (ints rest) t))
    outside types rest None = refl
    outside types rest (Some kinds) = by_test (nat_le (length kinds) 8)
      where
        by_test : (t : Bool) → with_kind (cond t (some (kinds, rest)) None) (kind_behind rest) ≡ option_and_then (λ (found : Ints). option_map (part found.0) (kind_behind found.1)) (cond t (some (kinds, rest)) None)
        by_test true = refl
        by_test false = refl

    by_types : (found : Found) → option_and_then part_in (option_and_then (λ (found : List FieldType × List ℕ). option_map (signature found.0) (result_of found.1)) found) ≡ option_and_then (λ (found : Ints). option_map (part found.0) (kind_behind found.1)) (few (ints_in found))
    by_types None = refl
    by_types (Some x) = by_result x.0 x.1 (result_of x.1) ∙ outside x.0 x.1 (kinds_in x.0)

    by_open : (t : Bool) → option_and_then part_in (cond t (option_and_then (λ (found : List FieldType × List ℕ). option_map (signature found.0) (result_of found.1)) (types_in false bytes)) None) ≡ cond t (option_and_then (λ (found : Ints). option_map (part found.0) (kind_behind found.1)) (few (ints_in (types_in false bytes)))) None
    by_open true = by_types (types_in false bytes)
    by_open false = refl

-- the part of a descriptor that begins with an open parenthesis
pub opened : (desc : List ℕ) → 1 ≤ length desc → get_or desc 0 0 ≡ 40 → entry_part_of desc ≡ option_and_then (λ (found : Ints). option_map (part found.0) (kind_behind found.1)) (few (ints_in (types_in false (take (length desc - 1) (drop 1 desc)))))
opened [] long first = refl
opened (byte ∷ bytes) long first =
    let all : take (length (byte ∷ bytes) - 1) bytes ≡ bytes = take_all (length (byte ∷ bytes) - 1) bytes (omega arith) in
    part_is (byte ∷ bytes) ∙ rw (first, all) refl
