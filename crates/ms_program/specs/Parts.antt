-- For private functions: the parts of a class that is being loaded.
use Rattle.std.specs.Prelude.{◌≡◌, ℕ, List}
use Rattle.ms_pool.specs.ByNumber.{entries_in}
use Rattle.ms_program.specs.declared.loaded.Parts.{Parts}
use Rattle.ms_program.specs.Programs.{Class, IsClass, IsClassOf, class_with}

-- the class of these parts, with the file of these bytes
abbrev pub class_in : List ℕ → Parts → Class
class_in bytes parts = class_with bytes (entries_in bytes parts.pool) parts.members.name.items parts.members.fields parts.members.statics.items parts.members.methods parts.bodies

-- these bytes are the file of the class of these parts
abbrev pub AreParts : List ℕ → Parts → Type 0
AreParts bytes parts = IsClass (class_in bytes parts)

-- these bytes are the file of a class
abbrev pub HasClass : List ℕ → Type 0
HasClass bytes = (class : Class) × IsClassOf bytes class

-- each class of which these bytes are the file is this one
abbrev pub IsOnlyClassOf : List ℕ → Class → Type 0
IsOnlyClassOf bytes class = (other : Class) → IsClassOf bytes other → class ≡ other
