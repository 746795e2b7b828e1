-- For private functions: the tree of strings, grown from the runs of all inputs.
use Rattle.std.specs.Prelude.{◌≡◌, ℕ, zero, suc, ◌==◌, List, [], ◌∷◌, ◌++◌, length, filter, ℤ, pos, slice_set, Bool, false, Option, Some, None, slice_get, unwrap_or}
use Rattle.std.specs.Option.{option_map}
use Rattle.std.specs.List.{list_any}
use Rattle.ms_words.specs.declared.end.PathEnd.TheVariants as path_end
use Rattle.ms_words.specs.declared.kind.Kind.TheVariants.{Z}
use Rattle.ms_words.specs.Inputs.{Words}
use Rattle.ms_machine.specs.Control.{Program}
use Rattle.ms_machine.specs.Runs.{end_of, string}
use Rattle.ms_jvm.specs.Ends.{path_end_of}
use Rattle.ms_session.specs.declared.runs.Run.{Run}
use Rattle.ms_session.specs.declared.tree.Node as nodes
use Rattle.ms_session.specs.Paths.{first_of, input_with, is_inherited, is_path, least_of}

-- the run of an input to a depth, by its words
abbrev pub run_of : Program → ℕ → List ℤ → Run
run_of P depth words = record {
  input = input_with P words;
  path = record { choices = string P (input_with P words) depth; end = unwrap_or (path_end_of (end_of P (input_with P words) depth)) path_end.Cut };
}

-- a string of the tree, with the run of its least input, and whether it is inherited and is a path
pub record Node : Type 0 where
  pub string : List ℕ
  pub least : Option Run
  pub inherited : Bool
  pub path : Bool

-- a node, without where its run lies in memory
abbrev pub node_view : nodes.Node → Node
node_view node = record { string = node.string; least = option_map (λ run. run.now) node.least; inherited = node.inherited; path = node.is_path }

-- the node that a string is
abbrev pub node_of : Program → ℕ → List ℕ → Node
node_of P depth p = record { string = p; least = option_map (run_of P depth) (least_of P p); inherited = is_inherited P p; path = is_path P depth p }

-- whether it is this arm
abbrev pub is_arm : ℕ → Option ℕ → Bool
is_arm arm None = false
is_arm arm (Some taken) = taken == arm

-- whether the choice at this place takes this arm
abbrev pub takes_at : ℕ → ℕ → Run → Bool
takes_at place arm run = is_arm arm (slice_get run.path.choices place)

-- the runs whose choice at this place takes this arm
abbrev pub taking : ℕ → ℕ → List Run → List Run
taking place arm runs = filter (takes_at place arm) runs

-- whether one of the runs has so many choices
abbrev pub any_ends : ℕ → List Run → Bool
any_ends place runs = list_any (λ run. length run.path.choices == place) runs

-- the choice at this place of the first run
abbrev pub choice_at : ℕ → Option Run → Option ℕ
choice_at place None = None
choice_at place (Some run) = slice_get run.path.choices place

-- the node of a string with these runs
abbrev pub node_with : List ℕ → Bool → List Run → Node
node_with p inherited runs = record { string = p; least = first_of runs; inherited = inherited; path = any_ends (length p) runs }

-- the nodes below one, by its choice
abbrev pub grown_below : (Bool → ℕ → List Node) → Option ℕ → List Node
grown_below child None = []
grown_below child (Some arm) = child (arm == 0) 0 ++ child (arm == 1) 1

-- the tree from a string on, with these runs that take it
unfoldable pub grown_from : ℕ → List ℕ → Bool → List Run → List Node
grown_from zero p inherited runs = node_with p inherited runs ∷ []
grown_from (suc left) p inherited runs =
    node_with p inherited runs
    ∷ grown_below (λ child_inherited arm. grown_from left (p ++ arm ∷ []) child_inherited (taking (length p) arm runs)) (choice_at (length p) (first_of runs))

-- the input with 1 in this place
abbrev pub with_one : ℕ → Words → Words
with_one place input = record { kinds = input.kinds; words = slice_set input.words place (pos 1) }

-- the parameter in this place is boolean
abbrev pub IsBooleanAt : ℕ → Words → Type 0
IsBooleanAt place input = slice_get input.kinds place ≡ Some Z
