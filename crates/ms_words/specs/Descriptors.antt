-- Descriptors of fields and methods (JVMS SE 8, section 4.3), of the types that the machine knows.
use Rattle.std.specs.Prelude.{ℕ, List, [], ◌∷◌, ◌++◌, length, Bool, true, false, ◌&&◌, ◌==◌, nat_le, if◌then◌else◌, Option, Some, None, codes, find, option_map, option_and_then}
use Rattle.std.specs.List.{flat_map}
use Rattle.ms_words.specs.declared.kind.Kind.{Kind}
use Rattle.ms_words.specs.declared.kind.Kind.TheVariants.{Z, B, C, S, I}
use Rattle.ms_words.specs.declared.descriptor.EntryPart.{EntryPart}
use Rattle.ms_words.specs.declared.descriptor.FieldType.{FieldType}
use Rattle.ms_words.specs.declared.descriptor.FieldType.TheVariants.{Int, IntArray}

-- what a method takes and returns: the types of its parameters, and that of its result, where it isn't void
pub record Signature : Type 0 where
  pub parameters : List FieldType
  pub result : Option FieldType

-- HOW THEY ARE SPELLED

-- the letter of a kind (table 4.3-A)
abbrev pub letter : Kind → ℕ
letter Z = 90
letter B = 66
letter C = 67
letter S = 83
letter I = 73

-- a type: the letter of its kind, or an array of ints
abbrev pub spelled_type : FieldType → List ℕ
spelled_type (Int kind) = letter kind ∷ []
spelled_type IntArray = codes "[I"

-- a result: its type, or void
abbrev pub spelled_result : Option FieldType → List ℕ
spelled_result None = codes "V"
spelled_result (Some field_type) = spelled_type field_type

-- a method descriptor: the parameters' types between parentheses, and the result (section 4.3.3)
abbrev pub spelled_signature : Signature → List ℕ
spelled_signature signature = codes "(" ++ flat_map spelled_type signature.parameters ++ codes ")" ++ spelled_result signature.result

-- HOW THEY ARE READ

-- the kind of a letter
abbrev pub kind_of : ℕ → Option Kind
kind_of byte = find (λ kind. letter kind == byte) (Z ∷ B ∷ C ∷ S ∷ I ∷ [])

-- the type that a field descriptor names, where it is a known one
abbrev pub field_type_of : List ℕ → Option FieldType
field_type_of [] = None
field_type_of (byte ∷ []) = option_map Int (kind_of byte)
field_type_of (first ∷ second ∷ []) = if first == 91 && second == 73 then Some IntArray else None
field_type_of (first ∷ second ∷ third ∷ more) = None

-- types, and what stands behind them, with this one in front
abbrev pub with_type : FieldType → Option (List FieldType × List ℕ) → Option (List FieldType × List ℕ)
with_type field_type found = option_map (λ (rest : List FieldType × List ℕ). (field_type ∷ rest.0, rest.1)) found

-- The types up to a closing parenthesis, and what stands behind it; `in_array` says that a bracket was just read.
abbrev pub types_in : Bool → List ℕ → Option (List FieldType × List ℕ)
types_in in_array [] = None
types_in true (byte ∷ bytes) = if byte == 73 then with_type IntArray (types_in false bytes) else None
types_in false (byte ∷ bytes) =
    if byte == 41 then Some ([], bytes)
    else (if byte == 91 then types_in true bytes
    else option_and_then (λ kind. with_type (Int kind) (types_in false bytes)) (kind_of byte))

-- how many types there are, and what stands behind them
abbrev pub counted : List FieldType × List ℕ → ℕ × List ℕ
counted found = (length found.0, found.1)

-- the result that these bytes name, where it is void or a known type
abbrev pub result_of : List ℕ → Option (Option FieldType)
result_of [] = None
result_of (byte ∷ []) = if byte == 86 then Some None else option_map (λ field_type. Some field_type) (field_type_of (byte ∷ []))
result_of (first ∷ second ∷ more) = option_map (λ field_type. Some field_type) (field_type_of (first ∷ second ∷ more))

-- what a method with this descriptor takes and returns, where all its types are known
abbrev pub signature_of : List ℕ → Option Signature
signature_of [] = None
signature_of (byte ∷ bytes) =
    if byte == 40 then option_and_then (λ found. option_map (λ result. record { parameters = found.0; result = result }) (result_of found.1)) (types_in false bytes)
    else None

-- THE ENTRY'S

-- the kind of a type, where it is an int's
abbrev pub kind_in : FieldType → Option Kind
kind_in (Int kind) = Some kind
kind_in IntArray = None

-- the kinds of types, where each is an int's
abbrev pub kinds_in : List FieldType → Option (List Kind)
kinds_in [] = Some []
kinds_in (field_type ∷ types) = option_and_then (λ kind. option_map (λ (kinds : List Kind). kind ∷ kinds) (kinds_in types)) (kind_in field_type)

-- the kind of a result, where it is an int's or void
abbrev pub result_kind : Option FieldType → Option (Option Kind)
result_kind None = Some None
result_kind (Some field_type) = option_map (λ kind. Some kind) (kind_in field_type)

-- these parameters and this result
abbrev pub part : List Kind → Option Kind → EntryPart
part kinds result = record { kinds = kinds; result = result }

-- the same, where there are at most eight parameters
abbrev pub at_most_eight : List Kind → Option Kind → Option EntryPart
at_most_eight kinds result = if nat_le (length kinds) 8 then Some (part kinds result) else None

-- what an entry with this descriptor takes and returns, where it has at most eight parameters, each an int, and the
-- result is an int or void
abbrev pub entry_part_of : List ℕ → Option EntryPart
entry_part_of desc =
    option_and_then (λ signature.
    option_and_then (λ kinds.
    option_and_then (at_most_eight kinds) (result_kind signature.result)) (kinds_in signature.parameters)) (signature_of desc)

-- for private functions: the kinds of the types that were found, and what stands behind them, where each is an int's
abbrev pub ints_in : Option (List FieldType × List ℕ) → Option (List Kind × List ℕ)
ints_in found = option_and_then (λ (types : List FieldType × List ℕ). option_map (λ (kinds : List Kind). (kinds, types.1)) (kinds_in types.0)) found

-- for private functions: the same, where there are at most eight
abbrev pub few : Option (List Kind × List ℕ) → Option (List Kind × List ℕ)
few found = option_and_then (λ (ints : List Kind × List ℕ). if nat_le (length ints.0) 8 then Some ints else None) found
