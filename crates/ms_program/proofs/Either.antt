-- Bytes are a file or have a first fault.
use Rattle.std.proofs.Common.{◌≡◌, ◌⊎◌, ℕ, zero, suc, ◌<◌, All, List, [], ◌∷◌, length, Option, Some, None, inl, inr, refl, subst, arith}
use Rattle.std.specs.Prelude.{IfSome}
use Rattle.ms_pool.specs.declared.code.ClassKind.{ClassKind}
use Rattle.ms_pool.specs.Pools.{Placed}
use Rattle.ms_classfile.specs.ClassFile.{Class, Code, IsClassFile, IsFirstFaultOf, Method}
use Rattle.ms_classfile.specs.ClassLaws.{HasCodeWithin, IsPlaced, LiesWithin}
use Rattle.ms_classfile.specs.declared.fault.ClassFault.{ClassFault}
use Rattle.ms_classfile.specs.declared.fault.ClassFault.TheVariants.{At, NoMemory}
use Rattle.ms_code.specs.Codes as codes
use Rattle.ms_code.specs.Codes.{IsForeign}
use Rattle.ms_code.specs.Laws.{AreBytes, IsAtFault, SaysSomething}
use Rattle.ms_program.specs.declared.body.Body.{Body}
use Rattle.ms_program.specs.Files.{AreBodies, File, HasCodeAtFault, HasMethodAtFault, IsBody, IsFile, IsFirstFault, SaysIfAny, decodable, instructions_of}
use Rattle.ms_program.proofs.Reading.{decodable_is}

abbrev Slots : Type 0
Slots = List (Option Placed)

-- each code is one of the three
abbrev OneOfThree : Type 0
OneOfThree = (pool : Slots) (code : codes.Code) → AreBytes code → SaysSomething pool code ⊎ IsForeign pool code ⊎ IsAtFault pool code

-- there is such a thing, or a first fault
abbrev OrFault : Type 0 → (ClassKind → ℕ → Type 0) → Type 0
OrFault Whole Faulty = Whole ⊎ ((kind : ClassKind) × (at : ℕ) × Faulty kind at)

method_or_fault : OneOfThree → (pool : Slots) (size : ℕ) (method : Method) → HasCodeWithin size method → OrFault ((body : Option Body) × IsBody pool method body) (HasMethodAtFault pool method)
method_or_fault three pool size method lies = by_code (decodable method) refl
  where
    by_one : (code : Code) → decodable method ≡ Some code → SaysSomething pool (instructions_of code) ⊎ IsForeign pool (instructions_of code) ⊎ IsAtFault pool (instructions_of code)
        → OrFault ((body : Option Body) × SaysIfAny pool (Some code) body) (HasMethodAtFault pool method)
    by_one code is (inl says) = inl (Some (record { max_stack = code.max_stack; max_locals = code.max_locals; code = says.0 }), (refl, (refl, says.1)))
    by_one code is (inr (inl foreign)) = inl (None, foreign)
    by_one code is (inr (inr fault)) = inr (fault.0, fault.1, record { code = code; decodable = is; fault = fault.2 })

    by_code : (has : Option Code) → decodable method ≡ has → OrFault ((body : Option Body) × SaysIfAny pool has body) (HasMethodAtFault pool method)
    by_code None is = inl (None, refl)
    by_code (Some code) is = by_one code is (three pool (instructions_of code) (subst (λ (o : Option Code). IfSome o (LiesWithin size)) (decodable_is method code is) lies).bytes)

bodies_or_fault : OneOfThree → (pool : Slots) (size : ℕ) (methods : List Method) → All (HasCodeWithin size) methods → OrFault ((bodies : List (Option Body)) × AreBodies pool methods bodies) (HasCodeAtFault pool methods)
bodies_or_fault three pool size [] all = inl ([], tt)
bodies_or_fault three pool size (method ∷ methods) all =
    by_first (method_or_fault three pool size method (all zero method (omega arith))) (bodies_or_fault three pool size methods (λ k d within. all (suc k) d (omega (arith, within))))
  where
    by_first : OrFault ((body : Option Body) × IsBody pool method body) (HasMethodAtFault pool method) → OrFault ((bodies : List (Option Body)) × AreBodies pool methods bodies) (HasCodeAtFault pool methods)
        → OrFault ((bodies : List (Option Body)) × AreBodies pool (method ∷ methods) bodies) (HasCodeAtFault pool (method ∷ methods))
    by_first (inr fault) others = inr (fault.0, fault.1, inl fault.2)
    by_first (inl body) (inl others) = inl (body.0 ∷ others.0, (body.1, others.1))
    by_first (inl body) (inr fault) = inr (fault.0, fault.1, inr (body.0, (body.1, fault.2)))

pub file_or_fault :
    ((bytes : List ℕ) → All (λ byte. byte < 256) bytes → ((class : Class) × IsClassFile bytes class) ⊎ ((fault : ClassFault) × IsFirstFaultOf bytes fault))
    → ((bytes : List ℕ) (fault : ClassFault) → IsFirstFaultOf bytes fault → IsPlaced fault)
    → ((bytes : List ℕ) (class : Class) → All (λ byte. byte < 256) bytes → IsClassFile bytes class → All (HasCodeWithin (length bytes)) class.methods)
    → OneOfThree
    → (bytes : List ℕ) → All (λ byte. byte < 256) bytes → OrFault ((file : File) × IsFile bytes file) (IsFirstFault bytes)
file_or_fault either placed lie three bytes all = by_class (either bytes all)
  where
    by_fault : (fault : ClassFault) → IsFirstFaultOf bytes fault → IsPlaced fault → OrFault ((file : File) × IsFile bytes file) (IsFirstFault bytes)
    by_fault (At kind at) broken p = inr (kind, at, inl broken)
    by_fault NoMemory broken p = absurd p

    by_bodies : (class : Class) → IsClassFile bytes class → OrFault ((bodies : List (Option Body)) × AreBodies class.pool class.methods bodies) (HasCodeAtFault class.pool class.methods) → OrFault ((file : File) × IsFile bytes file) (IsFirstFault bytes)
    by_bodies class is (inl bodies) = inl (record { class = class; bodies = bodies.0 }, (is, bodies.1))
    by_bodies class is (inr fault) = inr (fault.0, fault.1, inr (record { class = class; is = is; code = fault.2 }))

    by_class : ((class : Class) × IsClassFile bytes class) ⊎ ((fault : ClassFault) × IsFirstFaultOf bytes fault) → OrFault ((file : File) × IsFile bytes file) (IsFirstFault bytes)
    by_class (inl whole) = by_bodies whole.0 whole.1 (bodies_or_fault three whole.0.pool (length bytes) whole.0.methods (lie bytes whole.0 all whole.1))
    by_class (inr fault) = by_fault fault.0 fault.1 (placed bytes fault.0 fault.1)
