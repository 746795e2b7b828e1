-- What is done with values and memory commutes with a map of ints.
use Rattle.std.proofs.Common.{◌≡◌, ℕ, zero, suc, ◌+◌, Bool, true, false, cond, List, [], ◌∷◌, map, replicate, reverse, Option, Some, None, refl, sym, ap, ◌∙◌, slice_get, slice_set}
use Rattle.std.specs.Option.{option_map}
use Rattle.std.proofs.lemmas.List.{length-map, map-set}
use Rattle.std.proofs.lemmas.Option.{slice_get-map}
use mathlib.Core.List.{reverse_aux}
use Rattle.ms_machine.specs.Values.{Value, Int, Null, Array, Text, Throwable, Static, Memory, are_same, cells_of, is_field, is_null, made_in, static_value, with_local, with_static}
use Rattle.ms_machine.specs.Effects.{values_at, with_value}
use Rattle.ms_machine.specs.Maps.{map_locals, map_memory, map_static, map_value, map_values}

-- LISTS

pub cond_map : {A B : Type 0} (h : A → B) (b : Bool) (x y : A) → cond b (h x) (h y) ≡ h (cond b x y)
cond_map h true x y = refl
cond_map h false x y = refl

reverse_aux_map : {A B : Type 0} (f : A → B) (xs behind : List A) → reverse_aux (map f xs) (map f behind) ≡ map f (reverse_aux xs behind)
reverse_aux_map f [] behind = refl
reverse_aux_map f (x ∷ xs) behind = reverse_aux_map f xs (x ∷ behind)

pub reverse_map : {A B : Type 0} (f : A → B) (xs : List A) → reverse (map f xs) ≡ map f (reverse xs)
reverse_map f xs = reverse_aux_map f xs []

pub replicate_map : {A B : Type 0} (f : A → B) (n : ℕ) (x : A) → replicate n (f x) ≡ map f (replicate n x)
replicate_map f zero x = refl
replicate_map f (suc n) x = ap (λ xs. f x ∷ xs) (replicate_map f n x)

pub slice_set_map : {A B : Type 0} (f : A → B) (xs : List A) (i : ℕ) (x : A) → slice_set (map f xs) i (f x) ≡ map f (slice_set xs i x)
slice_set_map f xs i x = sym (map-set f xs i x)

module _ {V W : Type 0} (f : V → W) where
  -- VALUES

  pub same_map : (a b : Value V) → are_same (map_value f a) (map_value f b) ≡ are_same a b
  same_map (Int a) b = refl
  same_map Null (Int b) = refl
  same_map Null Null = refl
  same_map Null (Array b) = refl
  same_map Null (Text b) = refl
  same_map Null (Throwable b class) = refl
  same_map (Array a) (Int b) = refl
  same_map (Array a) Null = refl
  same_map (Array a) (Array b) = refl
  same_map (Array a) (Text b) = refl
  same_map (Array a) (Throwable b class) = refl
  same_map (Text a) (Int b) = refl
  same_map (Text a) Null = refl
  same_map (Text a) (Array b) = refl
  same_map (Text a) (Text b) = refl
  same_map (Text a) (Throwable b class) = refl
  same_map (Throwable a class) (Int b) = refl
  same_map (Throwable a class) Null = refl
  same_map (Throwable a class) (Array b) = refl
  same_map (Throwable a class) (Text b) = refl
  same_map (Throwable a class) (Throwable b other) = refl

  pub null_map : (v : Value V) → is_null (map_value f v) ≡ is_null v
  null_map (Int a) = refl
  null_map Null = refl
  null_map (Array a) = refl
  null_map (Text a) = refl
  null_map (Throwable a class) = refl

  with_value_map : (o : Option (Value V)) (rest : Option (List (Value V))) → with_value (option_map (map_value f) o) (option_map (map_values f) rest) ≡ option_map (map_values f) (with_value o rest)
  with_value_map None rest = refl
  with_value_map (Some v) None = refl
  with_value_map (Some v) (Some rest) = refl

  pub values_at_map : (values : List (Value V)) (places : List ℕ) → values_at (map_values f values) places ≡ option_map (map_values f) (values_at values places)
  values_at_map values [] = refl
  values_at_map values (place ∷ places) =
      (λ i. with_value (slice_get-map (map_value f) values place i) (values_at_map values places i)) ∙ with_value_map (slice_get values place) (values_at values places)

  -- LOCALS

  pub local_map : (locals : List (Option (Value V))) (local : ℕ) (v : Value V) → with_local (map_locals f locals) local (map_value f v) ≡ map_locals f (with_local locals local v)
  local_map [] zero v = refl
  local_map [] (suc local) v = ap (λ locals. None ∷ locals) (local_map [] local v)
  local_map (held ∷ locals) zero v = refl
  local_map (held ∷ locals) (suc local) v = ap (λ others. option_map (map_value f) held ∷ others) (local_map locals local v)

  -- STATIC FIELDS

  pub static_value_map : (statics : List (Static V)) (class : ℕ) (name descriptor : List ℕ) (initial : Value V)
      → static_value (map (map_static f) statics) class name descriptor (map_value f initial) ≡ map_value f (static_value statics class name descriptor initial)
  static_value_map [] class name descriptor initial = refl
  static_value_map (static ∷ statics) class name descriptor initial =
      ap (cond (is_field class name descriptor static) (map_value f static.value)) (static_value_map statics class name descriptor initial)
      ∙ cond_map (map_value f) (is_field class name descriptor static) static.value (static_value statics class name descriptor initial)

  pub static_map : (statics : List (Static V)) (class : ℕ) (name descriptor : List ℕ) (v : Value V)
      → with_static (map (map_static f) statics) class name descriptor (map_value f v) ≡ map (map_static f) (with_static statics class name descriptor v)
  static_map [] class name descriptor v = refl
  static_map (static ∷ statics) class name descriptor v =
      ap (λ others. cond (is_field class name descriptor static) (map_static f (record static { value = v }) ∷ map (map_static f) statics) (map_static f static ∷ others)) (static_map statics class name descriptor v)
      ∙ cond_map (map (map_static f)) (is_field class name descriptor static) (record static { value = v } ∷ statics) (static ∷ with_static statics class name descriptor v)

  -- MEMORY

  pub cells_map : (arrays : List (List V)) → cells_of (map (map f) arrays) ≡ cells_of arrays
  cells_map [] = refl
  cells_map (cells ∷ arrays) = λ i. length-map cells f i + cells_map arrays i

  pub made_map : (memory : Memory V) → made_in (map_memory f memory) ≡ made_in memory
  made_map memory = ap (λ n. n + memory.throwables) (length-map memory.arrays (map f))
