-- A method that isn't foreign has a name and a descriptor.
use Rattle.std.proofs.Common.{◌≡◌, ℕ, suc, ◌<◌, List, [], ◌∷◌, length, slice_get, Option, Some, None, refl, sym, ap, subst, ◌∙◌, arith}
use Rattle.std.specs.Prelude.{IsSome, is_some, option_and_then}
use Rattle.std.proofs.lemmas.List.{length-map}
use Rattle.std.proofs.lemmas.Option.{get_or_from_slice_get, slice_get-get_or, slice_get_within}
use Rattle.ms_pool.specs.Pools.{Placed}
use Rattle.ms_classfile.specs.ClassFile.{Method, method_key}
use Rattle.ms_program.specs.declared.body.Body.{Body}
use Rattle.ms_program.specs.declared.method.MethodId.{MethodId}
use Rattle.ms_program.specs.Files.{AreBodies}
use Rattle.ms_program.specs.Programs.{Class, IsClass, IsProgram, Program, body_in, body_of, key_of}

-- there are as many bodies as methods
as_many : (pool : List (Option Placed)) (methods : List Method) (bodies : List (Option Body)) → AreBodies pool methods bodies → length bodies ≡ length methods
as_many pool [] [] are = refl
as_many pool [] (body ∷ bodies) are = absurd are
as_many pool (method ∷ methods) [] are = absurd are
as_many pool (method ∷ methods) (body ∷ bodies) are = ap (λ (n : ℕ). suc n) (as_many pool methods bodies are.1)

class_has : (class : Class) → IsClass class → length class.bodies ≡ length class.methods
class_has class is =
    ap (λ (c : Class). length c.bodies) is.class_is ∙ as_many is.says.class.pool is.says.class.methods is.says.bodies is.is.1 ∙ sym (length-map is.says.class.methods method_key) ∙ ap (λ (c : Class). length c.methods) (sym is.class_is)

in_class : (class : Class) → IsClass class → (method : ℕ) (body : Option (Option Body)) → slice_get class.bodies method ≡ body → IsSome (option_and_then (λ (b : Option Body). b) body) → IsSome (slice_get class.methods method)
in_class class is method None there some = absurd (let e = some in cc)
in_class class is method (Some body) there some =
    let within : method < length class.methods = omega (arith, slice_get_within class.bodies method body there, class_has class is) in
    ap is_some (slice_get-get_or class.methods method ([], []) within)

pub key_there : (P : Program) → IsProgram P → (id : MethodId) → IsSome (body_of P id) → IsSome (key_of P id)
key_there P is id known = by_class (slice_get P.classes id.class) refl known
  where
    by_class : (class : Option Class) → slice_get P.classes id.class ≡ class → IsSome (option_and_then (λ (c : Class). body_in c id.method) class) → IsSome (option_and_then (λ (c : Class). slice_get c.methods id.method) class)
    by_class None there some = absurd (let e = some in cc)
    by_class (Some class) there some =
        let within : id.class < length P.classes = slice_get_within P.classes id.class class there in
        let one : IsClass class = subst IsClass (get_or_from_slice_get P.classes id.class class class there) (is.each id.class class within) in
        in_class class one id.method (slice_get class.bodies id.method) refl some
