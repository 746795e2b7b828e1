-- What is known of a method that isn't foreign: its code is whole, and its class's pool names ints and texts where it should.
use Rattle.std.proofs.Common.{◌≡◌, ℕ, zero, suc, ◌<◌, ◌^◌, All, List, [], ◌∷◌, length, slice_get, Option, Some, None, refl, sym, ap, subst, ◌∙◌}
use Rattle.std.specs.Prelude.{is_some}
use Rattle.std.proofs.lemmas.Option.{get_or_from_slice_get, slice_get_within}
use Rattle.ms_pool.specs.ByNumber.{integer, string_text}
use Rattle.ms_pool.specs.Places.{Place}
use Rattle.ms_pool.specs.Pools.{Entry, IsPool, IsPoolOf, has_tag, numbered}
use Rattle.ms_classfile.specs.ClassFile as files
use Rattle.ms_classfile.specs.ClassFile.{IsClassFile, Method, class_file, pool}
use Rattle.ms_classfile.specs.ClassLaws.{HasCodeWithin, LiesWithin}
use Rattle.ms_code.specs.Codes.{Code, DecodedCode, IsDecoded}
use Rattle.ms_code.specs.Laws.{AreBytes, IsWhole, Slots}
use Rattle.ms_program.specs.declared.body.Body.{Body}
use Rattle.ms_program.specs.Files.{AreBodies, IsBody, SaysIfAny, decodable, instructions_of}
use Rattle.ms_program.specs.Programs.{Class, IsClass, IsProgram, Program, class_of}
use Rattle.ms_program.proofs.Picking.{of_some}
use Rattle.ms_program.proofs.Reading.{decodable_is}

-- THE POOL

-- where a number's entry is an Integer or a String, the number names an int or a text
pub record NamesConstants (pool : Slots) : Type 0 where
  pub integer : (i : ℕ) → is_some (integer pool i) ≡ has_tag pool i 3
  pub text : (i : ℕ) → is_some (string_text pool i) ≡ has_tag pool i 8

-- the pool of a class file is one that bytes spell
record HasPool (slots : Slots) : Type 0 where
  pub place : Place
  pub after : Place
  pub is : IsPoolOf place slots after

-- the pool of this class file
pool_of : (bytes : List ℕ) (class : files.Class) → IsClassFile bytes class → HasPool class.pool
unfolding class_file pool
pool_of bytes class is =
    let behind_header = is.is.is_rest in
    let behind_fields = behind_header.is_rest.is_rest.is_rest.is_rest in
    let last = behind_fields.is_rest.is_rest.is_rest in
    record {
      place = is.is.between;
      after = behind_header.between;
      is = subst (λ (slots : Slots). IsPoolOf is.is.between slots behind_header.between) (ap (λ (c : files.Class). c.pool) (sym last.0)) behind_header.is_first;
    }

-- THE BODIES

-- the body of a method, where it has one, is what its file says
body_said : (slots : Slots) (methods : List Method) (bodies : List (Option Body)) (i : ℕ) (body : Option Body) → AreBodies slots methods bodies → slice_get bodies i ≡ Some body → (method : Method) × (slice_get methods i ≡ Some method) × IsBody slots method body
body_said slots [] [] i body are is = absurd (let e = is in cc)
body_said slots [] (first ∷ bodies) i body are is = absurd are
body_said slots (method ∷ methods) [] i body are is = absurd are
body_said slots (method ∷ methods) (first ∷ bodies) zero body are is = (method, refl, subst (λ (b : Option Body). IsBody slots method b) (let e = is in cc) are.0)
body_said slots (method ∷ methods) (first ∷ bodies) (suc i) body are is = body_said slots methods bodies i body are.1 is

-- a class whose pool names ints and texts, and a method of it whose code is whole, with 1 to 65,535 bytes
pub record HasWholeCode (class : Class) (body : Body) : Type 0 where
  pub constants : NamesConstants class.pool
  pub code : Code
  pub whole : IsWhole class.pool code body.code
  pub some : 0 < length code.code
  pub short : length code.code < 2 ^ 16

module _
    (codes_are_whole : (slots : Slots) (code : Code) (decoded : DecodedCode) → AreBytes code → IsDecoded slots code decoded → IsWhole slots code decoded)
    (codes_lie : (bytes : List ℕ) (class : files.Class) → All (λ byte. byte < 256) bytes → IsClassFile bytes class → All (HasCodeWithin (length bytes)) class.methods)
    (integer_there : (place after : Place) (entries : List Entry) → IsPool place entries after → (i : ℕ) → is_some (integer (numbered place.at entries) i) ≡ has_tag (numbered place.at entries) i 3)
    (text_there : (place after : Place) (entries : List Entry) → IsPool place entries after → (i : ℕ) → is_some (string_text (numbered place.at entries) i) ≡ has_tag (numbered place.at entries) i 8)
  where
    -- its numbers name ints and texts where they should
    names_constants : (slots : Slots) → HasPool slots → NamesConstants slots
    names_constants slots has = record {
      integer = λ i. subst (λ (s : Slots). is_some (integer s i) ≡ has_tag s i 3) (sym has.is.slots_are) (integer_there has.place has.after has.is.entries has.is.is i);
      text = λ i. subst (λ (s : Slots). is_some (string_text s i) ≡ has_tag s i 8) (sym has.is.slots_are) (text_there has.place has.after has.is.entries has.is.is i);
    }

    -- a method of a class has a whole code, if it isn't foreign
    in_class : (class : Class) → IsClass class → (method : ℕ) (body : Body) → slice_get class.bodies method ≡ Some (Some body) → HasWholeCode class body
    in_class class is method body known =
        let known_there : slice_get is.says.bodies method ≡ Some (Some body) = ap (λ (c : Class). slice_get c.bodies method) (sym is.class_is) ∙ known in
        let said = body_said is.says.class.pool is.says.class.methods is.says.bodies method (Some body) is.is.1 known_there in
        let lies : HasCodeWithin (length class.file) said.0 = subst (HasCodeWithin (length class.file)) (get_or_from_slice_get is.says.class.methods method said.0 said.0 said.1) (codes_lie class.file is.says.class is.bytes is.is.0 method said.0 (slice_get_within is.says.class.methods method said.0 said.1)) in
        subst (λ (c : Class). HasWholeCode c body) (sym is.class_is) (by_code said.0 lies (decodable said.0) refl said.2)
      where
        by_code : (m : Method) → HasCodeWithin (length class.file) m → (code : Option files.Code) → decodable m ≡ code → SaysIfAny is.says.class.pool code (Some body) → HasWholeCode (class_of class.file is.says) body
        by_code m lies None same says = absurd (let e = says in cc)
        by_code m lies (Some code) same says =
            let within : LiesWithin (length class.file) code = of_some (LiesWithin (length class.file)) m.code code (decodable_is m code same) lies in
            record {
              constants = names_constants is.says.class.pool (pool_of class.file is.says.class is.is.0);
              code = instructions_of code;
              whole = codes_are_whole is.says.class.pool (instructions_of code) body.code within.bytes says.1.1;
              some = within.some;
              short = within.short;
            }

    -- each method of a program's class has a whole code, if it isn't foreign
    pub body_is_whole : (P : Program) → IsProgram P → (number method : ℕ) (class : Class) (body : Body) → slice_get P.classes number ≡ Some class → slice_get class.bodies method ≡ Some (Some body) → HasWholeCode class body
    body_is_whole P is number method class body class_there known =
        let one : IsClass class = subst IsClass (get_or_from_slice_get P.classes number class class class_there) (is.each number class (slice_get_within P.classes number class class_there)) in
        in_class class one method body known
