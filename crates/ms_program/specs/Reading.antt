-- What is read of a class file, as a function of its bytes. The law `files_are_read` says that it is what a file says, or
-- its first fault.
use Rattle.std.specs.Prelude.{ℕ, List, [], ◌∷◌, Option, Some, None, Result, Ok, Err}
use Rattle.ms_pool.specs.Pools.{Placed}
use Rattle.ms_pool.specs.Places.{Place, beginning}
use Rattle.ms_pool.specs.Formats.{and_then}
use Rattle.ms_classfile.specs.ClassFile.{Class, Code, Method, class_file}
use Rattle.ms_classfile.specs.declared.fault.ClassFault.{ClassFault}
use Rattle.ms_classfile.specs.declared.fault.ClassFault.TheVariants as faults
use Rattle.ms_code.specs.Codes.{DecodedCode, decoded}
use Rattle.ms_code.specs.declared.trouble.Trouble.{Trouble}
use Rattle.ms_code.specs.declared.trouble.Trouble.TheVariants as troubles
use Rattle.ms_program.specs.declared.body.Body.{Body}
use Rattle.ms_program.specs.declared.file.FileFault.{FileFault}
use Rattle.ms_program.specs.Files.{File, decodable, instructions_of}

-- the body of a code that is decoded, none of a foreign one, or the fault
abbrev pub code_read : Code → Result (DecodedCode × Place) Trouble → Result (Option Body) ClassFault
code_read code (Ok x) = Ok (Some (record { max_stack = code.max_stack; max_locals = code.max_locals; code = x.0 }))
code_read code (Err troubles.Foreign) = Ok None
code_read code (Err (troubles.At kind at)) = Err (faults.At kind at)
code_read code (Err troubles.NoMemory) = Err faults.NoMemory

-- what a method does, by its code where that is decodable
abbrev pub body_read : List (Option Placed) → Option Code → Result (Option Body) ClassFault
body_read pool None = Ok None
body_read pool (Some code) = code_read code ((decoded pool (instructions_of code)).read (beginning code.code))

-- what these methods do, or the fault of the first whose code has one
abbrev pub bodies_read : List (Option Placed) → List Method → Result (List (Option Body)) ClassFault
bodies_read pool [] = Ok []
bodies_read pool (method ∷ methods) = and_then (body_read pool (decodable method)) (λ body. and_then (bodies_read pool methods) (λ bodies. Ok (body ∷ bodies)))

-- a class, with what its methods do
abbrev pub with_bodies : Class → Result File ClassFault
with_bodies class = and_then (bodies_read class.pool class.methods) (λ bodies. Ok (record { class = class; bodies = bodies }))

-- a class file, or its first fault
unfoldable pub file_read : List ℕ → Result File ClassFault
file_read bytes = and_then (class_file.read (beginning bytes)) (λ x. with_bodies x.0)

-- the fault that was read, if one was
abbrev pub fault_in : Result File ClassFault → Option FileFault
fault_in (Ok file) = None
fault_in (Err (faults.At kind at)) = Some (record { kind = kind; at = at })
fault_in (Err faults.NoMemory) = None

-- the first fault of these bytes, if they have one
unfoldable pub first_fault : List ℕ → Option FileFault
first_fault bytes = fault_in (file_read bytes)
