-- What is read of a descriptor is what it spells.
use Rattle.std.proofs.Common.{◌≡◌, ℕ, ◌+◌, List, [], ◌∷◌, ◌++◌, Bool, true, false, cond, Option, Some, None, refl, sym, ap, subst, ◌∙◌, append_assoc, arith}
use Rattle.std.specs.Prelude.{◌==◌, ◌&&◌, option_map, option_and_then}
use Rattle.std.specs.List.{flat_map}
use Rattle.std.proofs.lemmas.Bool.{eqb-true}
use Rattle.ms_words.specs.declared.kind.Kind.{Kind}
use Rattle.ms_words.specs.declared.kind.Kind.TheVariants.{Z, B, C, S, I}
use Rattle.ms_words.specs.declared.descriptor.FieldType.{FieldType}
use Rattle.ms_words.specs.declared.descriptor.FieldType.TheVariants.{Int, IntArray}
use Rattle.ms_words.specs.Descriptors.{Signature, counted, field_type_of, kind_of, letter, result_of, signature_of, spelled_result, spelled_signature, spelled_type, types_in, with_type}

abbrev some : {A : Type 0} → A → Option A
some x = Some x

some_is : {A : Type 0} (x y : A) → some x ≡ some y → x ≡ y
some_is x y e = cc

-- LETTERS

pub letter_again : (kind : Kind) → kind_of (letter kind) ≡ Some kind
letter_again Z = refl
letter_again B = refl
letter_again C = refl
letter_again S = refl
letter_again I = refl

pub letter_is : (byte : ℕ) (kind : Kind) → kind_of byte ≡ Some kind → byte ≡ letter kind
letter_is byte kind found = by_z (90 == byte) refl
  where
    named : (k : Kind) → (letter k == byte) ≡ true → kind_of byte ≡ Some k → byte ≡ letter kind
    named k same is = sym (eqb-true (letter k) byte same) ∙ ap letter (some_is k kind (sym is ∙ found))

    by_i : (t : Bool) → (73 == byte) ≡ t → (90 == byte) ≡ false → (66 == byte) ≡ false → (67 == byte) ≡ false → (83 == byte) ≡ false → byte ≡ letter kind
    by_i true is z b c s = named I is (rw (z, b, c, s, is) refl)
    by_i false is z b c s = let none : kind_of byte ≡ None = rw (z, b, c, s, is) refl in absurd (let e = sym none ∙ found in cc)

    by_s : (t : Bool) → (83 == byte) ≡ t → (90 == byte) ≡ false → (66 == byte) ≡ false → (67 == byte) ≡ false → byte ≡ letter kind
    by_s true is z b c = named S is (rw (z, b, c, is) refl)
    by_s false is z b c = by_i (73 == byte) refl z b c is

    by_c : (t : Bool) → (67 == byte) ≡ t → (90 == byte) ≡ false → (66 == byte) ≡ false → byte ≡ letter kind
    by_c true is z b = named C is (rw (z, b, is) refl)
    by_c false is z b = by_s (83 == byte) refl z b is

    by_b : (t : Bool) → (66 == byte) ≡ t → (90 == byte) ≡ false → byte ≡ letter kind
    by_b true is z = named B is (rw (z, is) refl)
    by_b false is z = by_c (67 == byte) refl z is

    by_z : (t : Bool) → (90 == byte) ≡ t → byte ≡ letter kind
    by_z true is = named Z is (rw is refl)
    by_z false is = by_b (66 == byte) refl is

-- TYPES

mapped_some : {A B : Type 0} (f : A → B) (found : Option A) (y : B) → option_map f found ≡ Some y → (x : A) × (found ≡ Some x) × (f x ≡ y)
mapped_some f (Some x) y is = (x, refl, some_is (f x) y is)
mapped_some f None y is = absurd cc

then_some : {A B : Type 0} (next : A → Option B) (found : Option A) (y : B) → option_and_then next found ≡ Some y → (x : A) × (found ≡ Some x) × (next x ≡ Some y)
then_some next (Some x) y is = (x, refl, is)
then_some next None y is = absurd cc

if_some : {A : Type 0} (test : Bool) (x : Option A) (y : A) → cond test x None ≡ Some y → (test ≡ true) × (x ≡ Some y)
if_some true x y is = (refl, is)
if_some false x y is = absurd cc

both_true : (a b : Bool) → (a && b) ≡ true → (a ≡ true) × (b ≡ true)
both_true true b is = (refl, is)
both_true false b is = absurd cc

pub type_is : (desc : List ℕ) (field_type : FieldType) → field_type_of desc ≡ Some field_type → desc ≡ spelled_type field_type
type_is [] field_type found = absurd cc
type_is (byte ∷ []) field_type found =
    let p = mapped_some Int (kind_of byte) field_type found in
    rw (← p.2) (ap (λ (b : ℕ). b ∷ []) (letter_is byte p.0 p.1))
type_is (first ∷ second ∷ []) field_type found =
    let p = if_some (first == 91 && second == 73) (Some IntArray) field_type found in
    let both = both_true (first == 91) (second == 73) p.0 in
    rw (← some_is IntArray field_type p.1, eqb-true first 91 both.0, eqb-true second 73 both.1) refl
type_is (first ∷ second ∷ third ∷ more) field_type found = absurd cc

pub type_again : (field_type : FieldType) → field_type_of (spelled_type field_type) ≡ Some field_type
type_again (Int kind) = ap (option_map Int) (letter_again kind)
type_again IntArray = refl

-- the bytes that were read, with the bracket that was
abbrev opened : Bool → List ℕ → List ℕ
opened in_array bytes = cond in_array (91 ∷ bytes) bytes

types_are : (in_array : Bool) (bytes : List ℕ) (found : List FieldType × List ℕ) → types_in in_array bytes ≡ Some found → opened in_array bytes ≡ flat_map spelled_type found.0 ++ 41 ∷ found.1
types_are in_array [] found is = absurd cc
types_are true (byte ∷ bytes) found is =
    let p = if_some (byte == 73) (with_type IntArray (types_in false bytes)) found is in
    let q = mapped_some (λ (rest : List FieldType × List ℕ). (IntArray ∷ rest.0, rest.1)) (types_in false bytes) found p.1 in
    subst (λ (x : List FieldType × List ℕ). 91 ∷ byte ∷ bytes ≡ flat_map spelled_type x.0 ++ 41 ∷ x.1) q.2
    (ap (λ (b : ℕ). 91 ∷ b ∷ bytes) (eqb-true byte 73 p.0) ∙ ap (λ (l : List ℕ). 91 ∷ 73 ∷ l) (types_are false bytes q.0 q.1))
types_are false (byte ∷ bytes) found is = by_close (λ x more. types_are true bytes x more) (λ x more. types_are false bytes x more) (byte == 41) refl is
  where
    by_open : ((x : List FieldType × List ℕ) → types_in true bytes ≡ Some x → 91 ∷ bytes ≡ flat_map spelled_type x.0 ++ 41 ∷ x.1) → ((x : List FieldType × List ℕ) → types_in false bytes ≡ Some x → bytes ≡ flat_map spelled_type x.0 ++ 41 ∷ x.1)
        → (t : Bool) → (byte == 91) ≡ t → cond t (types_in true bytes) (option_and_then (λ kind. with_type (Int kind) (types_in false bytes)) (kind_of byte)) ≡ Some found → byte ∷ bytes ≡ flat_map spelled_type found.0 ++ 41 ∷ found.1
    by_open in_array outside true same more = ap (λ (b : ℕ). b ∷ bytes) (eqb-true byte 91 same) ∙ in_array found more
    by_open in_array outside false same more =
        let p = then_some (λ kind. with_type (Int kind) (types_in false bytes)) (kind_of byte) found more in
        let q = mapped_some (λ (rest : List FieldType × List ℕ). (Int p.0 ∷ rest.0, rest.1)) (types_in false bytes) found p.2 in
        subst (λ (x : List FieldType × List ℕ). byte ∷ bytes ≡ flat_map spelled_type x.0 ++ 41 ∷ x.1) q.2
        (ap (λ (b : ℕ). b ∷ bytes) (letter_is byte p.0 p.1) ∙ ap (λ (l : List ℕ). letter p.0 ∷ l) (outside q.0 q.1))

    by_close : ((x : List FieldType × List ℕ) → types_in true bytes ≡ Some x → 91 ∷ bytes ≡ flat_map spelled_type x.0 ++ 41 ∷ x.1) → ((x : List FieldType × List ℕ) → types_in false bytes ≡ Some x → bytes ≡ flat_map spelled_type x.0 ++ 41 ∷ x.1)
        → (t : Bool) → (byte == 41) ≡ t → cond t (Some ([], bytes)) (cond (byte == 91) (types_in true bytes) (option_and_then (λ kind. with_type (Int kind) (types_in false bytes)) (kind_of byte))) ≡ Some found → byte ∷ bytes ≡ flat_map spelled_type found.0 ++ 41 ∷ found.1
    by_close in_array outside true same more = subst (λ (x : List FieldType × List ℕ). byte ∷ bytes ≡ flat_map spelled_type x.0 ++ 41 ∷ x.1) (some_is ([], bytes) found more) (ap (λ (b : ℕ). b ∷ bytes) (eqb-true byte 41 same))
    by_close in_array outside false same more = by_open in_array outside (byte == 91) refl more

types_again : (types : List FieldType) (rest : List ℕ) → types_in false (flat_map spelled_type types ++ 41 ∷ rest) ≡ Some (types, rest)
types_again [] rest = refl
types_again (Int Z ∷ types) rest = ap (with_type (Int Z)) (types_again types rest)
types_again (Int B ∷ types) rest = ap (with_type (Int B)) (types_again types rest)
types_again (Int C ∷ types) rest = ap (with_type (Int C)) (types_again types rest)
types_again (Int S ∷ types) rest = ap (with_type (Int S)) (types_again types rest)
types_again (Int I ∷ types) rest = ap (with_type (Int I)) (types_again types rest)
types_again (IntArray ∷ types) rest = ap (with_type IntArray) (types_again types rest)

-- RESULTS AND SIGNATURES

result_is : (bytes : List ℕ) (result : Option FieldType) → result_of bytes ≡ Some result → bytes ≡ spelled_result result
result_is [] result found = absurd cc
result_is (byte ∷ []) result found = by_void (byte == 86) refl found
  where
    by_void : (t : Bool) → (byte == 86) ≡ t → cond t (Some None) (option_map (λ (field_type : FieldType). Some field_type) (field_type_of (byte ∷ []))) ≡ Some result → byte ∷ [] ≡ spelled_result result
    by_void true same is = rw (← some_is None result is, eqb-true byte 86 same) refl
    by_void false same is =
        let p = mapped_some (λ (field_type : FieldType). some field_type) (field_type_of (byte ∷ [])) result is in
        rw (← p.2) (type_is (byte ∷ []) p.0 p.1)
result_is (first ∷ second ∷ more) result found =
    let p = mapped_some (λ (field_type : FieldType). some field_type) (field_type_of (first ∷ second ∷ more)) result found in
    rw (← p.2) (type_is (first ∷ second ∷ more) p.0 p.1)

result_again : (result : Option FieldType) → result_of (spelled_result result) ≡ Some result
result_again None = refl
result_again (Some (Int Z)) = refl
result_again (Some (Int B)) = refl
result_again (Some (Int C)) = refl
result_again (Some (Int S)) = refl
result_again (Some (Int I)) = refl
result_again (Some IntArray) = refl

pub signature_is : (desc : List ℕ) (signature : Signature) → signature_of desc ≡ Some signature → desc ≡ spelled_signature signature
signature_is [] signature found = absurd cc
signature_is (byte ∷ bytes) signature found =
    let p = if_some (byte == 40) _ signature found in
    let q = then_some (λ (found : List FieldType × List ℕ). option_map (λ (result : Option FieldType). record { parameters = found.0; result = result }) (result_of found.1)) (types_in false bytes) signature p.1 in
    let r = mapped_some (λ (result : Option FieldType). record { parameters = q.0.0; result = result }) (result_of q.0.1) signature q.2 in
    subst (λ (s : Signature). byte ∷ bytes ≡ spelled_signature s) r.2
    (ap (λ (b : ℕ). b ∷ bytes) (eqb-true byte 40 p.0) ∙ ap (λ (l : List ℕ). 40 ∷ l) (types_are false bytes q.0 q.1 ∙ ap (λ (l : List ℕ). flat_map spelled_type q.0.0 ++ 41 ∷ l) (result_is q.0.1 r.0 r.1) ∙ sym (append_assoc (flat_map spelled_type q.0.0) (41 ∷ []) (spelled_result r.0))))

pub signature_again : (signature : Signature) → signature_of (spelled_signature signature) ≡ Some signature
signature_again signature =
    let types = signature.parameters in
    let joined : flat_map spelled_type types ++ (41 ∷ []) ++ spelled_result signature.result ≡ flat_map spelled_type types ++ 41 ∷ spelled_result signature.result = append_assoc (flat_map spelled_type types) (41 ∷ []) (spelled_result signature.result) in
    rw (joined, types_again types (spelled_result signature.result), result_again signature.result) refl

-- THE LOOP

-- the types and what stands behind them, so many more
abbrev more : ℕ → ℕ × List ℕ → ℕ × List ℕ
more count found = (count + found.0, found.1)

-- The parameters are those that were counted and those that are left, and what stands behind them is what stands behind
-- those.
abbrev pub IsCounted : List ℕ → ℕ → Bool → List ℕ → Type 0
IsCounted text count in_array left = option_map counted (types_in false text) ≡ option_map (more count) (option_map counted (types_in in_array left))

-- one more was read
pub one_more : (count : ℕ) (field_type : FieldType) (found : Option (List FieldType × List ℕ)) → option_map (more count) (option_map counted (with_type field_type found)) ≡ option_map (more (count + 1)) (option_map counted found)
one_more count field_type None = refl
one_more count field_type (Some x) = ap (λ (n : ℕ). some (n, x.1)) (omega arith)

-- nothing was read yet
pub none_counted : (found : Option (List FieldType × List ℕ)) → option_map counted found ≡ option_map (more 0) (option_map counted found)
none_counted None = refl
none_counted (Some x) = ap (λ (n : ℕ). some (n, x.1)) (omega arith)

-- THE TYPES

-- with these types in front
abbrev before : List FieldType → List FieldType × List ℕ → List FieldType × List ℕ
before types found = (types ++ found.0, found.1)

-- The parameters are these types and those that are left.
abbrev pub AreTypes : List ℕ → List FieldType → Bool → List ℕ → Type 0
AreTypes text types in_array left = types_in false text ≡ option_map (before types) (types_in in_array left)

-- one more was read
pub type_read : (types : List FieldType) (field_type : FieldType) (found : Option (List FieldType × List ℕ)) → option_map (before types) (with_type field_type found) ≡ option_map (before (types ++ field_type ∷ [])) found
type_read types field_type None = refl
type_read types field_type (Some x) = ap (λ (l : List FieldType). some (l, x.1)) (sym (append_assoc types (field_type ∷ []) x.0))

-- nothing was read yet
pub no_type_read : (found : Option (List FieldType × List ℕ)) → found ≡ option_map (before []) found
no_type_read None = refl
no_type_read (Some x) = refl
