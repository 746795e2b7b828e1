-- Names and descriptors that were read before are found by the numbers of their texts.
use Rattle.std.proofs.Common.{◌≡◌, ℕ, Bool, true, false, cond, not, List, [], ◌∷◌, ◌++◌, Option, Some, refl, sym, ap, subst, ◌∙◌}
use Rattle.std.specs.Prelude.{◌==◌, slice_index}
use Rattle.std.specs.Str.{bytes_eq}
use Rattle.ms_pool.specs.Pools.{Placed}
use Rattle.ms_pool.specs.ByNumber.{utf8}
use Rattle.ms_classfile.specs.ClassFile.{is_there}
use Rattle.ms_classfile.specs.Seen.{AreKeysOf, AreNumbers, IsKeyOf, has_key}

pub is_known : (pool : List (Option Placed)) (numbers : List ℕ) (i j : ℕ) (name desc : List ℕ) (keys : List (ℕ × ℕ)) (pairs : List (List ℕ × List ℕ)) → AreNumbers pool numbers → AreKeysOf pool numbers keys pairs → utf8 pool i ≡ Some name → utf8 pool j ≡ Some desc
    → has_key (slice_index numbers i, slice_index numbers j) keys ≡ is_there name desc pairs
is_known pool numbers i j name desc [] [] are of_pairs is_name is_desc = refl
is_known pool numbers i j name desc (key ∷ keys) (pair ∷ pairs) are of_pairs is_name is_desc =
    let key_is = of_pairs.0.key_is in
    let one : (slice_index numbers i == key.0) ≡ bytes_eq name pair.0 = ap (λ (k : ℕ × ℕ). slice_index numbers i == k.0) key_is ∙ are i of_pairs.0.i name pair.0 is_name of_pairs.0.name in
    let two : (slice_index numbers j == key.1) ≡ bytes_eq desc pair.1 = ap (λ (k : ℕ × ℕ). slice_index numbers j == k.1) key_is ∙ are j of_pairs.0.j desc pair.1 is_desc of_pairs.0.desc in
    let rest = is_known pool numbers i j name desc keys pairs are of_pairs.1 is_name is_desc in
    rw (one, two, rest) refl
is_known pool numbers i j name desc [] (pair ∷ pairs) are of_pairs is_name is_desc = absurd of_pairs
is_known pool numbers i j name desc (key ∷ keys) [] are of_pairs is_name is_desc = absurd of_pairs

pub with_key : (pool : List (Option Placed)) (numbers : List ℕ) (key : ℕ × ℕ) (pair : List ℕ × List ℕ) (keys : List (ℕ × ℕ)) (pairs : List (List ℕ × List ℕ)) → AreKeysOf pool numbers keys pairs → IsKeyOf pool numbers key pair → AreKeysOf pool numbers (keys ++ key ∷ []) (pairs ++ pair ∷ [])
with_key pool numbers key pair [] [] of_pairs is = (is, tt)
with_key pool numbers key pair (first ∷ keys) (other ∷ pairs) of_pairs is = (of_pairs.0, with_key pool numbers key pair keys pairs of_pairs.1 is)
with_key pool numbers key pair [] (other ∷ pairs) of_pairs is = absurd of_pairs
with_key pool numbers key pair (first ∷ keys) [] of_pairs is = absurd of_pairs

double_not : (b : Bool) → not (not b) ≡ b
double_not true = refl
double_not false = refl

-- whether a name and a descriptor are there, by the answer that their key was new
pub is_there_by : (pool : List (Option Placed)) (numbers : List ℕ) (i j : ℕ) (name desc : List ℕ) (keys : List (ℕ × ℕ)) (pairs : List (List ℕ × List ℕ)) (key : ℕ × ℕ) (new : Bool) → AreNumbers pool numbers → AreKeysOf pool numbers keys pairs → utf8 pool i ≡ Some name → utf8 pool j ≡ Some desc
    → key ≡ (slice_index numbers i, slice_index numbers j) → new ≡ not (has_key key keys) → is_there name desc pairs ≡ not new
is_there_by pool numbers i j name desc keys pairs key new are of_pairs is_name is_desc key_is new_is =
    sym (is_known pool numbers i j name desc keys pairs are of_pairs is_name is_desc) ∙ ap (λ (k : ℕ × ℕ). has_key k keys) (sym key_is) ∙ sym (double_not (has_key key keys)) ∙ ap not (sym new_is)

added_key : (b : Bool) (key : ℕ × ℕ) (keys after : List (ℕ × ℕ)) → true ≡ not b → after ≡ cond b keys (keys ++ key ∷ []) → after ≡ keys ++ key ∷ []
added_key true key keys after new is = absurd cc
added_key false key keys after new is = is

-- the keys after a new one was added are those of the names and descriptors with the new ones
pub keys_after : (pool : List (Option Placed)) (numbers : List ℕ) (i j : ℕ) (name desc : List ℕ) (keys after : List (ℕ × ℕ)) (pairs : List (List ℕ × List ℕ)) (key : ℕ × ℕ) → AreKeysOf pool numbers keys pairs → utf8 pool i ≡ Some name → utf8 pool j ≡ Some desc → key ≡ (slice_index numbers i, slice_index numbers j)
    → true ≡ not (has_key key keys) → after ≡ cond (has_key key keys) keys (keys ++ key ∷ []) → AreKeysOf pool numbers after (pairs ++ (name, desc) ∷ [])
keys_after pool numbers i j name desc keys after pairs key of_pairs is_name is_desc key_is new is =
    subst (λ (l : List (ℕ × ℕ)). AreKeysOf pool numbers l (pairs ++ (name, desc) ∷ [])) (sym (added_key (has_key key keys) key keys after new is))
    (with_key pool numbers key (name, desc) keys pairs of_pairs (record { i = i; j = j; name = is_name; desc = is_desc; key_is = key_is }))
