-- Why a class isn't added or replaced.
use Rattle.std.specs.Prelude.{◌≡◌, ℕ, List, length, None, IsSome}
use Rattle.ms_program.specs.declared.program.AddFault.{AddFault}
use Rattle.ms_program.specs.declared.program.AddFault.TheVariants as faults
use Rattle.ms_program.specs.Files.{IsFirstFault}
use Rattle.ms_program.specs.Programs.{Class, IsClassOf, Program, class_named}

-- these bytes are the file of a class whose name is there
pub record IsKnown (P : Program) (bytes : List ℕ) : Type 0 where
  pub class : Class
  pub is : IsClassOf bytes class
  pub there : IsSome (class_named P class.name)

-- these bytes are the file of a class whose name isn't there
pub record IsUnknown (P : Program) (bytes : List ℕ) : Type 0 where
  pub class : Class
  pub is : IsClassOf bytes class
  pub absent : class_named P class.name ≡ None

-- why a class isn't added: its file has this first fault, its name is there, or 64 classes are
abbrev pub AddFails : Program → List ℕ → AddFault → Type 0
AddFails P bytes (faults.Class kind at) = IsFirstFault bytes kind at
AddFails P bytes faults.Known = IsKnown P bytes
AddFails P bytes faults.Unknown = ⊥
AddFails P bytes faults.Classes = IsUnknown P bytes × (length P.classes ≡ 64)
AddFails P bytes faults.NoMemory = Unit {0}

-- why a class isn't replaced: its file has this first fault, or its name isn't there
abbrev pub ReplaceFails : Program → List ℕ → AddFault → Type 0
ReplaceFails P bytes (faults.Class kind at) = IsFirstFault bytes kind at
ReplaceFails P bytes faults.Known = ⊥
ReplaceFails P bytes faults.Unknown = IsUnknown P bytes
ReplaceFails P bytes faults.Classes = ⊥
ReplaceFails P bytes faults.NoMemory = Unit {0}

-- for private functions: the file has this first fault, unless memory ran out
abbrev pub IsLoadFault : List ℕ → AddFault → Type 0
IsLoadFault bytes (faults.Class kind at) = IsFirstFault bytes kind at
IsLoadFault bytes faults.NoMemory = Unit {0}
IsLoadFault bytes other = ⊥

-- for private functions: a class of this name isn't added, since the name is there, or 64 classes are
abbrev pub RefusesName : Program → List ℕ → AddFault → Type 0
RefusesName P name faults.Known = IsSome (class_named P name)
RefusesName P name faults.Classes = (class_named P name ≡ None) × (length P.classes ≡ 64)
RefusesName P name other = ⊥
