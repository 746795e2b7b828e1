-- The state of a session.
use Rattle.std.specs.Prelude.{ℕ, List, [], ◌∷◌, ◌++◌, Bool, true, false, if◌then◌else◌, Option, Some, None, codes}
use Rattle.std.specs.Str.{bytes_eq}
use Rattle.ms_words.specs.declared.kind.Kind.{Kind}
use Rattle.ms_words.specs.declared.kind.Kind.TheVariants.{Z, B, C, S, I}
use Rattle.ms_classfile.specs.ThinFile.{Method}
use Rattle.ms_session.specs.Known.{Known, nothing_known}

-- the classes in order of arrival, each of one method; the entry, if one is set; the depth; what is known
pub record State : Type 0 where
  pub classes : List Method
  pub entry : Option Method
  pub depth : ℕ
  pub known : Known

-- the depth of a new session
abbrev pub first_depth : ℕ
first_depth = 16

-- the state of a new session
abbrev pub new_state : State
new_state = record { classes = []; entry = None; depth = first_depth; known = nothing_known }

-- the class of this name
abbrev pub class_named : List Method → List ℕ → Option Method
class_named [] name = None
class_named (class ∷ classes) name = if bytes_eq class.class name then Some class else class_named classes name

-- whether a kind is boolean; a method can be the entry so far where each of its parameters is
abbrev pub is_boolean : Kind → Bool
is_boolean Z = true
is_boolean B = false
is_boolean C = false
is_boolean S = false
is_boolean I = false

-- CLASS.NAMEDESC
abbrev pub entry_name : Method → List ℕ
entry_name method = method.class ++ codes "." ++ method.name ++ method.descriptor
