-- For private functions: names and descriptors by numbers of their texts.
use Rattle.std.specs.Prelude.{◌≡◌, ℕ, List, [], ◌∷◌, Bool, ◌==◌, ◌&&◌, Option, Some, position, slice_index, unwrap_or, ℤ, pos}
use Rattle.std.proofs.Common.{Bor}
use Rattle.std.specs.List.{list_any}
use Rattle.std.specs.Str.{bytes_eq}
use Rattle.ms_pool.specs.Pools.{Placed}
use Rattle.ms_classfile.specs.declared.reading.names as names
use Rattle.ms_classfile.specs.ClassFile.{Code, Field, Head, Method}
use Rattle.ms_pool.specs.ByNumber.{utf8}

-- equal texts have one number, and others have others
abbrev pub AreNumbers : List (Option Placed) → List ℕ → Type 0
AreNumbers pool numbers = (i j : ℕ) (s t : List ℕ) → utf8 pool i ≡ Some s → utf8 pool j ≡ Some t → (slice_index numbers i == slice_index numbers j) ≡ bytes_eq s t

-- where a text stands first
abbrev pub place_of : List ℕ → List (Bor (List ℕ)) → Option ℕ
place_of s keys = position (λ (key : Bor (List ℕ)). bytes_eq s key.now) keys

-- texts have the places that they had, and the text of this number of the pool has this place
pub record IsPlaced (pool : List (Option Placed)) (i : ℕ) (old new : List (Bor (List ℕ))) (number : ℕ) : Type 0 where
  pub kept : (s : List ℕ) (n : ℕ) → place_of s old ≡ Some n → place_of s new ≡ Some n
  pub here : (s : List ℕ) → utf8 pool i ≡ Some s → place_of s new ≡ Some number

-- whether one of the keys is this one
abbrev pub has_key : ℕ × ℕ → List (ℕ × ℕ) → Bool
has_key key keys = list_any (λ (other : ℕ × ℕ). key.0 == other.0 && key.1 == other.1) keys

-- a key is that of a name and a descriptor
pub record IsKeyOf (pool : List (Option Placed)) (numbers : List ℕ) (key : ℕ × ℕ) (pair : List ℕ × List ℕ) : Type 0 where
  pub i : ℕ
  pub j : ℕ
  pub name : utf8 pool i ≡ Some pair.0
  pub desc : utf8 pool j ≡ Some pair.1
  pub key_is : key ≡ (slice_index numbers i, slice_index numbers j)

-- these are the keys of these names and descriptors, in order
abbrev pub AreKeysOf : List (Option Placed) → List ℕ → List (ℕ × ℕ) → List (List ℕ × List ℕ) → Type 0
AreKeysOf pool numbers [] [] = Unit {0}
AreKeysOf pool numbers (key ∷ keys) (pair ∷ pairs) = IsKeyOf pool numbers key pair × AreKeysOf pool numbers keys pairs
AreKeysOf pool numbers keys pairs = ⊥

-- with what a field or a method begins, without where its names lie in memory
abbrev pub head_view : names.Head.Head → Head
head_view head = record { at = head.at; access = head.access; name = head.name.text.now; name_index = head.name.index; desc = head.desc.text.now; desc_index = head.desc.index }

-- the field with such a beginning
abbrev pub field_of : Head → Option ℤ → Field
field_of head initial = record { access = head.access; name = head.name; name_index = head.name_index; desc = head.desc; desc_index = head.desc_index; initial = unwrap_or initial (pos 0) }

-- the method with such a beginning
abbrev pub method_of : Head → Option Code → Method
method_of head code = record { access = head.access; name = head.name; name_index = head.name_index; desc = head.desc; desc_index = head.desc_index; code = code; at = head.at }
