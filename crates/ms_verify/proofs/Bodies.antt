-- A method that isn't foreign has a signature of known types, and so the rules see it.
use Rattle.std.proofs.Common.{◌≡◌, ◌<◌, arith, ℕ, zero, suc, List, [], ◌∷◌, length, slice_get, Bool, true, false, cond, Option, Some, None, refl, sym, ap, subst, ◌∙◌}
use Rattle.std.specs.Prelude.{IsSome, option_map, option_and_then}
use Rattle.std.proofs.lemmas.List.FromFn.{length-map-range_with_len}
use Rattle.std.proofs.lemmas.Option.{get_or_from_slice_get, slice_get_within, slice_get-map}
use Rattle.ms_words.specs.Descriptors.{Signature, signature_of}
use Rattle.ms_classfile.specs.ClassFile as files
use Rattle.ms_classfile.specs.ClassFile.{Method, method_key}
use Rattle.ms_code.specs.Laws.{Slots}
use Rattle.ms_program.specs.declared.body.Body.{Body}
use Rattle.ms_program.specs.declared.method.MethodId.{MethodId}
use Rattle.ms_program.specs.Laws.{IsWholeBody}
use Rattle.ms_program.specs.Files.{AreBodies, IsBody, SaysIfAny, decodable, is_plain, parameters_of, roomy}
use Rattle.ms_program.specs.Programs.{Class, IsClass, IsProgram, Program, body_in, body_of, key_of, method_id}
use Rattle.ms_program.proofs.Picking.{joined, mapped}
use Rattle.ms_program.proofs.Standing.{slot_is}
use Rattle.ms_typing.specs.Verifier as typing
use Rattle.ms_verify.specs.Methods.{line_of, method_of, method_with}
use Rattle.ms_verify.proofs.Seeing.{makes_method, method_made}

-- what the file says of a method with this body
body_said : (slots : Slots) (methods : List Method) (bodies : List (Option Body)) (i : ℕ) (body : Option Body) → AreBodies slots methods bodies → slice_get bodies i ≡ Some body → (method : Method) × (slice_get methods i ≡ Some method) × IsBody slots method body
body_said slots [] [] i body are is = absurd (let e = is in cc)
body_said slots [] (first ∷ bodies) i body are is = absurd are
body_said slots (method ∷ methods) [] i body are is = absurd are
body_said slots (method ∷ methods) (first ∷ bodies) zero body are is = (method, refl, subst (λ (b : Option Body). IsBody slots method b) (let e = is in cc) are.0)
body_said slots (method ∷ methods) (first ∷ bodies) (suc i) body are is = body_said slots methods bodies i body are.1 is

-- a decodable method has parameters of known types
counted : (method : Method) (code : files.Code) → decodable method ≡ Some code → (n : ℕ) × (parameters_of method.desc ≡ Some n)
counted method code is = by_all (is_plain method.access) method.code (parameters_of method.desc) refl is
  where
    by_all : (plain : Bool) (has : Option files.Code) (parameters : Option ℕ) → parameters_of method.desc ≡ parameters → cond plain (option_and_then (λ c. option_and_then (roomy c) parameters) has) None ≡ Some code → (n : ℕ) × (parameters_of method.desc ≡ Some n)
    by_all false has parameters same is = absurd (let e = is in cc)
    by_all true None parameters same is = absurd (let e = is in cc)
    by_all true (Some c) None same is = absurd (let e = is in cc)
    by_all true (Some c) (Some n) same is = (n, same)

-- a method with a body has a signature
signed : (slots : Slots) (method : Method) (body : Body) → IsBody slots method (Some body) → (signature : Signature) × (signature_of method.desc ≡ Some signature)
signed slots method body says = by_code (decodable method) refl says
  where
    by_code : (code : Option files.Code) → decodable method ≡ code → SaysIfAny slots code (Some body) → (signature : Signature) × (signature_of method.desc ≡ Some signature)
    by_code None same says = absurd (let e = says in cc)
    by_code (Some code) same says =
        let n = counted method code same in
        let signature = mapped (λ (signature : Signature). length signature.parameters) (signature_of method.desc) n.0 n.1 in
        (signature.0, signature.1)

-- THE LAW

-- the rules see each method that has a body
pub seen : (P : Program) (number method : ℕ) (body : Body) → IsProgram P → body_of P (method_id number method) ≡ Some body → IsSome (method_of P number method)
seen P number method body is known_body =
    let class = joined (λ (c : Class). body_in c method) (slice_get P.classes number) body known_body in
    let one : IsClass class.0 = subst IsClass (get_or_from_slice_get P.classes number class.0 class.0 class.1) (is.each number class.0 (slice_get_within P.classes number class.0 class.1)) in
    let there : slice_get one.says.bodies method ≡ Some (Some body) = ap (λ (c : Class). slice_get c.bodies method) (sym one.class_is) ∙ slot_is class.0.bodies method body class.2 in
    let said = body_said one.says.class.pool one.says.class.methods one.says.bodies method (Some body) one.is.1 there in
    let signature = signed one.says.class.pool said.0 body said.2 in
    let keyed : slice_get class.0.methods method ≡ Some (method_key said.0) =
    ap (λ (c : Class). slice_get c.methods method) one.class_is ∙ slice_get-map method_key one.says.class.methods method ∙ ap (option_map method_key) said.1 in
    let key : key_of P (method_id number method) ≡ Some (method_key said.0) = ap (option_and_then (λ (c : Class). slice_get c.methods method)) class.1 ∙ keyed in
    let made : method_of P number method ≡ Some (method_with P number method body signature.0) = makes_method P number method (method_key said.0) body signature.0 key known_body signature.1 in
    rw made refl

-- and each method that they see has a code
pub coded : (P : Program) (class number : ℕ) (method : typing.Method) → ((id : MethodId) (body : Body) → IsProgram P → body_of P id ≡ Some body → IsWholeBody body) → IsProgram P → method_of P class number ≡ Some method → 0 < length method.lines
coded P class number method whole program is =
    let made = method_made P class number method is in
    let some = (whole (method_id class number) made.body program made.body_is).some in
    subst (λ (m : typing.Method). 0 < length m.lines) made.is (omega (arith, some, length-map-range_with_len (line_of P class number) 0 (length made.body.code.steps)))
