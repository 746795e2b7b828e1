-- What is read of a file is what it says, or its first fault.
use Rattle.std.proofs.Common.{◌≡◌, ℕ, zero, suc, ◌<◌, All, List, [], ◌∷◌, length, Bool, true, false, cond, Option, Some, None, Result, Ok, Err, inl, inr, refl, sym, ap, subst, ◌∙◌, arith}
use Rattle.std.specs.Prelude.{◌↔◌, IfSome, option_and_then}
use Rattle.ms_pool.specs.declared.code.ClassKind.{ClassKind}
use Rattle.ms_pool.specs.Pools.{Placed}
use Rattle.ms_pool.specs.Places.{Place, beginning}
use Rattle.ms_pool.specs.Formats.{and_then}
use Rattle.ms_pool.specs.Exact.{err_is, ok_is, then_ok}
use Rattle.ms_classfile.specs.ClassFile.{Class, Code, IsClassFile, IsFirstFaultOf, Method, class_file}
use Rattle.ms_classfile.specs.ClassLaws.{HasCodeWithin, LiesWithin}
use Rattle.ms_classfile.specs.declared.fault.ClassFault.{ClassFault}
use Rattle.ms_classfile.specs.declared.fault.ClassFault.TheVariants as faults
use Rattle.ms_code.specs.Codes as codes
use Rattle.ms_code.specs.Codes.{DecodedCode, HasFault, IsDecoded, IsForeign, decoded}
use Rattle.ms_code.specs.Laws.{AreBytes}
use Rattle.ms_code.specs.declared.trouble.Trouble.{Trouble}
use Rattle.ms_code.specs.declared.trouble.Trouble.TheVariants as troubles
use Rattle.ms_program.specs.declared.body.Body.{Body}
use Rattle.ms_program.specs.Files.{AreBodies, File, HasCodeAtFault, HasMethodAtFault, IsBody, IsFile, IsFirstFault, Says, SaysIfAny, decodable, has_room, instructions_of, is_plain, parameters_of, roomy}
use Rattle.ms_program.specs.Reading.{bodies_read, body_read, code_read, file_read, with_bodies}

abbrev Slots : Type 0
Slots = List (Option Placed)

-- a decodable code is the method's
pub decodable_is : (method : Method) (code : Code) → decodable method ≡ Some code → method.code ≡ Some code
decodable_is method code is = by_all (is_plain method.access) method.code (parameters_of method.desc) is
  where
    by_room : (c : Code) (b : Bool) → ◌≡◌ {A = Option Code} (cond b (Some c) None) (Some code) → ◌≡◌ {A = Option Code} (Some c) (Some code)
    by_room c true is = is
    by_room c false is = absurd (let e = is in cc)

    by_all : (plain : Bool) (has : Option Code) (parameters : Option ℕ) → cond plain (option_and_then (λ c. option_and_then (roomy c) parameters) has) None ≡ Some code → has ≡ Some code
    by_all false has parameters is = absurd (let e = is in cc)
    by_all true None parameters is = absurd (let e = is in cc)
    by_all true (Some c) None is = absurd (let e = is in cc)
    by_all true (Some c) (Some n) is = by_room c (has_room n c) is

-- its numbers are bytes
code_bytes : (size : ℕ) (method : Method) (code : Code) → HasCodeWithin size method → decodable method ≡ Some code → AreBytes (instructions_of code)
code_bytes size method code lies is = (subst (λ (o : Option Code). IfSome o (LiesWithin size)) (decodable_is method code is) lies).bytes

-- a fault of two steps is one of the first or of the second
then_err : {A B Fault P : Type 0} (read : Result A Fault) (next : A → Result B Fault) (fault : Fault) → and_then read next ≡ Err fault → (read ≡ Err fault → P) → ((x : A) → read ≡ Ok x → next x ≡ Err fault → P) → P
then_err (Ok x) next fault found first later = later x refl found
then_err {B = B} {Fault = Fault} (Err f) next fault found first later = first (ap (λ (g : Fault). Err g) (err_is {A = B} f fault found))

-- CODES

module _
    (code_is : (pool : Slots) (code : codes.Code) (result : DecodedCode) → AreBytes code → IsDecoded pool code result ↔ ((after : Place) × ((decoded pool code).read (beginning code.code) ≡ Ok (result, after))))
    (code_foreign : (pool : Slots) (code : codes.Code) → AreBytes code → IsForeign pool code ↔ ((decoded pool code).read (beginning code.code) ≡ Err troubles.Foreign))
    (code_fault : (pool : Slots) (code : codes.Code) (kind : ClassKind) (at : ℕ) → AreBytes code → HasFault pool code kind at ↔ ((decoded pool code).read (beginning code.code) ≡ Err (troubles.At kind at)))
  where
    said : (pool : Slots) (code : Code) (body : Option Body) → AreBytes (instructions_of code) → Says pool code body → body_read pool (Some code) ≡ Ok body
    said pool code None bytes says = ap (code_read code) ((code_foreign pool (instructions_of code) bytes).0 says)
    said pool code (Some body) bytes says =
        ap (code_read code) ((code_is pool (instructions_of code) body.code bytes).0 says.1.1).1
        ∙ ap (λ (n : ℕ). Ok (Some (record { max_stack = n; max_locals = code.max_locals; code = body.code }))) (sym says.0)
        ∙ ap (λ (n : ℕ). Ok (Some (record { max_stack = body.max_stack; max_locals = n; code = body.code }))) (sym says.1.0)

    says : (pool : Slots) (code : Code) (body : Option Body) → AreBytes (instructions_of code) → body_read pool (Some code) ≡ Ok body → Says pool code body
    says pool code body bytes found = by_read ((decoded pool (instructions_of code)).read (beginning code.code)) refl found
      where
        by_read : (read : Result (DecodedCode × Place) Trouble) → (decoded pool (instructions_of code)).read (beginning code.code) ≡ read → code_read code read ≡ Ok body → Says pool code body
        by_read (Ok x) is e = subst (λ (b : Option Body). Says pool code b) (ok_is {Fault = ClassFault} (Some (record { max_stack = code.max_stack; max_locals = code.max_locals; code = x.0 })) body e) (refl, (refl, (code_is pool (instructions_of code) x.0 bytes).1 (x.1, is)))
        by_read (Err troubles.Foreign) is e = subst (λ (b : Option Body). Says pool code b) (ok_is {Fault = ClassFault} None body e) ((code_foreign pool (instructions_of code) bytes).1 is)
        by_read (Err (troubles.At kind at)) is e = absurd (let f = e in cc)
        by_read (Err troubles.NoMemory) is e = absurd (let f = e in cc)

    at_fault : (pool : Slots) (code : Code) (kind : ClassKind) (at : ℕ) → AreBytes (instructions_of code) → body_read pool (Some code) ≡ Err (faults.At kind at) → HasFault pool (instructions_of code) kind at
    at_fault pool code kind at bytes found = by_read ((decoded pool (instructions_of code)).read (beginning code.code)) refl found
      where
        by_read : (read : Result (DecodedCode × Place) Trouble) → (decoded pool (instructions_of code)).read (beginning code.code) ≡ read → code_read code read ≡ Err (faults.At kind at) → HasFault pool (instructions_of code) kind at
        by_read (Ok x) is e = absurd (let f = e in cc)
        by_read (Err troubles.Foreign) is e = absurd (let f = e in cc)
        by_read (Err (troubles.At k a)) is e = (code_fault pool (instructions_of code) kind at bytes).1 (let f = e in let i = is in cc)
        by_read (Err troubles.NoMemory) is e = absurd (let f = e in cc)

    -- METHODS

    body_is : (pool : Slots) (size : ℕ) (method : Method) (body : Option Body) → HasCodeWithin size method → IsBody pool method body ↔ (body_read pool (decodable method) ≡ Ok body)
    body_is pool size method body lies = by_code (decodable method) refl
      where
        by_code : (has : Option Code) → decodable method ≡ has → SaysIfAny pool has body ↔ (body_read pool has ≡ Ok body)
        by_code None is = (λ none. ap (λ (b : Option Body). Ok b) (sym none), λ e. sym (ok_is {Fault = ClassFault} None body e))
        by_code (Some code) is = (said pool code body (code_bytes size method code lies is), says pool code body (code_bytes size method code lies is))

    method_fault : (pool : Slots) (size : ℕ) (method : Method) (kind : ClassKind) (at : ℕ) → HasCodeWithin size method → HasMethodAtFault pool method kind at ↔ (body_read pool (decodable method) ≡ Err (faults.At kind at))
    method_fault pool size method kind at lies = (λ has. ap (body_read pool) has.decodable ∙ ap (code_read has.code) ((code_fault pool (instructions_of has.code) kind at (code_bytes size method has.code lies has.decodable)).0 has.fault), λ found. by_code (decodable method) refl found)
      where
        by_code : (has : Option Code) → decodable method ≡ has → body_read pool has ≡ Err (faults.At kind at) → HasMethodAtFault pool method kind at
        by_code None is e = absurd (let f = e in cc)
        by_code (Some code) is e = record { code = code; decodable = is; fault = at_fault pool code kind at (code_bytes size method code lies is) e }

    first_lies : (size : ℕ) (method : Method) (methods : List Method) → All (HasCodeWithin size) (method ∷ methods) → HasCodeWithin size method
    first_lies size method methods all = all zero method (omega arith)

    others_lie : (size : ℕ) (method : Method) (methods : List Method) → All (HasCodeWithin size) (method ∷ methods) → All (HasCodeWithin size) methods
    others_lie size method methods all k d within = all (suc k) d (omega (arith, within))

    bodies_said : (pool : Slots) (size : ℕ) (methods : List Method) (bodies : List (Option Body)) → All (HasCodeWithin size) methods → AreBodies pool methods bodies → bodies_read pool methods ≡ Ok bodies
    bodies_said pool size [] [] all are = refl
    bodies_said pool size [] (body ∷ bodies) all are = absurd are
    bodies_said pool size (method ∷ methods) [] all are = absurd are
    bodies_said pool size (method ∷ methods) (body ∷ bodies) all are =
        ap (λ (r : Result (Option Body) ClassFault). and_then r (λ b. and_then (bodies_read pool methods) (λ bs. Ok (b ∷ bs)))) ((body_is pool size method body (first_lies size method methods all)).0 are.0)
        ∙ ap (λ (r : Result (List (Option Body)) ClassFault). and_then r (λ bs. Ok (body ∷ bs))) (bodies_said pool size methods bodies (others_lie size method methods all) are.1)

    are_bodies : (pool : Slots) (size : ℕ) (methods : List Method) (bodies : List (Option Body)) → All (HasCodeWithin size) methods → bodies_read pool methods ≡ Ok bodies → AreBodies pool methods bodies
    are_bodies pool size [] bodies all found = subst (λ (bs : List (Option Body)). AreBodies pool [] bs) (ok_is {Fault = ClassFault} [] bodies found) tt
    are_bodies pool size (method ∷ methods) bodies all found =
        then_ok (body_read pool (decodable method)) _ bodies found (λ body is_body rest.
        then_ok (bodies_read pool methods) _ bodies rest (λ more is_more last.
        subst (λ (bs : List (Option Body)). AreBodies pool (method ∷ methods) bs) (ok_is {Fault = ClassFault} (body ∷ more) bodies last) ((body_is pool size method body (first_lies size method methods all)).1 is_body, are_bodies pool size methods more (others_lie size method methods all) is_more)))

    fault_said : (pool : Slots) (size : ℕ) (methods : List Method) (kind : ClassKind) (at : ℕ) → All (HasCodeWithin size) methods → HasCodeAtFault pool methods kind at → bodies_read pool methods ≡ Err (faults.At kind at)
    fault_said pool size [] kind at all has = absurd has
    fault_said pool size (method ∷ methods) kind at all (inl has) = ap (λ (r : Result (Option Body) ClassFault). and_then r (λ b. and_then (bodies_read pool methods) (λ bs. Ok (b ∷ bs)))) ((method_fault pool size method kind at (first_lies size method methods all)).0 has)
    fault_said pool size (method ∷ methods) kind at all (inr has) =
        ap (λ (r : Result (Option Body) ClassFault). and_then r (λ b. and_then (bodies_read pool methods) (λ bs. Ok (b ∷ bs)))) ((body_is pool size method has.0 (first_lies size method methods all)).0 has.1.0)
        ∙ ap (λ (r : Result (List (Option Body)) ClassFault). and_then r (λ bs. Ok (has.0 ∷ bs))) (fault_said pool size methods kind at (others_lie size method methods all) has.1.1)

    is_fault : (pool : Slots) (size : ℕ) (methods : List Method) (kind : ClassKind) (at : ℕ) → All (HasCodeWithin size) methods → bodies_read pool methods ≡ Err (faults.At kind at) → HasCodeAtFault pool methods kind at
    is_fault pool size [] kind at all found = absurd (let e = found in cc)
    is_fault pool size (method ∷ methods) kind at all found =
        then_err (body_read pool (decodable method)) _ (faults.At kind at) found (λ broken. inl ((method_fault pool size method kind at (first_lies size method methods all)).1 broken)) (λ body is_body rest.
        then_err (bodies_read pool methods) _ (faults.At kind at) rest (λ broken. inr (body, ((body_is pool size method body (first_lies size method methods all)).1 is_body, is_fault pool size methods kind at (others_lie size method methods all) broken))) (λ more is_more last. absurd (let e = last in cc)))

    -- FILES

    module _
        (class_is : (bytes : List ℕ) (class : Class) → All (λ byte. byte < 256) bytes → IsClassFile bytes class ↔ ((after : Place) × (class_file.read (beginning bytes) ≡ Ok (class, after))))
        (class_fault : (bytes : List ℕ) (fault : ClassFault) → All (λ byte. byte < 256) bytes → IsFirstFaultOf bytes fault ↔ (class_file.read (beginning bytes) ≡ Err fault))
        (lie : (bytes : List ℕ) (class : Class) → All (λ byte. byte < 256) bytes → IsClassFile bytes class → All (HasCodeWithin (length bytes)) class.methods)
      where
        abbrev File_of : Class → List (Option Body) → File
        File_of class bodies = record { class = class; bodies = bodies }

        pub file_is : (bytes : List ℕ) (file : File) → All (λ byte. byte < 256) bytes → IsFile bytes file ↔ (file_read bytes ≡ Ok file)
        unfolding file_read
        file_is bytes file all = (
          λ is.
              ap (λ (r : Result (Class × Place) ClassFault). and_then r (λ x. with_bodies x.0)) ((class_is bytes file.class all).0 is.0).1
              ∙ ap (λ (r : Result (List (Option Body)) ClassFault). and_then r (λ bodies. Ok (File_of file.class bodies))) (bodies_said file.class.pool (length bytes) file.class.methods file.bodies (lie bytes file.class all is.0) is.1),
          λ found.
              then_ok (class_file.read (beginning bytes)) _ file found (λ x is_class rest.
              let there : IsClassFile bytes x.0 = (class_is bytes x.0 all).1 (x.1, is_class) in
              then_ok (bodies_read x.0.pool x.0.methods) _ file rest (λ bodies are last.
              subst (λ (f : File). IsFile bytes f) (ok_is {Fault = ClassFault} (File_of x.0 bodies) file last) (there, are_bodies x.0.pool (length bytes) x.0.methods bodies (lie bytes x.0 all there) are))),
        )

        pub fault_is : (bytes : List ℕ) (kind : ClassKind) (at : ℕ) → All (λ byte. byte < 256) bytes → IsFirstFault bytes kind at ↔ (file_read bytes ≡ Err (faults.At kind at))
        unfolding file_read
        fault_is bytes kind at all = (
          said_so,
          λ found.
              then_err (class_file.read (beginning bytes)) _ (faults.At kind at) found (λ broken. inl ((class_fault bytes (faults.At kind at) all).1 broken)) (λ x is_class rest.
              let there : IsClassFile bytes x.0 = (class_is bytes x.0 all).1 (x.1, is_class) in
              then_err (bodies_read x.0.pool x.0.methods) _ (faults.At kind at) rest (λ broken. inr (record { class = x.0; is = there; code = is_fault x.0.pool (length bytes) x.0.methods kind at (lie bytes x.0 all there) broken })) (λ bodies are last. absurd (let e = last in cc))),
        )
          where
            said_so : IsFirstFault bytes kind at → file_read bytes ≡ Err (faults.At kind at)
            said_so (inl broken) = ap (λ (r : Result (Class × Place) ClassFault). and_then r (λ x. with_bodies x.0)) ((class_fault bytes (faults.At kind at) all).0 broken)
            said_so (inr has) =
                ap (λ (r : Result (Class × Place) ClassFault). and_then r (λ x. with_bodies x.0)) ((class_is bytes has.class all).0 has.is).1
                ∙ ap (λ (r : Result (List (Option Body)) ClassFault). and_then r (λ bodies. Ok (File_of has.class bodies))) (fault_said has.class.pool (length bytes) has.class.methods kind at (lie bytes has.class all has.is) has.code)
