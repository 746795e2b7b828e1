-- Laws of the machine over whole runs, and the runs that they compare.
use Rattle.std.specs.Prelude.{◌≡◌, ◌⊎◌, Bool, true, false, not, ◌&&◌, IsTrue, ℕ, suc, ◌<◌, ◌≤◌, ◌↔◌, ℤ, List, [], ◌∷◌, ◌++◌, length, map, Some, IsSome, IfSome}
use Rattle.std.specs.List.{AllByRecursion, list_all}
use Rattle.ms_words.specs.declared.item.Item.{Item}
use Rattle.ms_words.specs.declared.item.Item.TheVariants.{Entry}
use Rattle.ms_words.specs.declared.kind.Kind.{Kind}
use Rattle.ms_words.specs.Inputs.{Words, comes_before}
use Rattle.ms_words.specs.Relations.{int_eq}
use Rattle.ms_terms.specs.Terms.{Term, Constant, Param, is_constant, value}
use Rattle.ms_machine.specs.Ints.{Int, Marked, ints, marks, shadows}
use Rattle.ms_machine.specs.Effects.{Test}
use Rattle.ms_machine.specs.Instructions.{Instr, Switch}
use Rattle.ms_machine.specs.Control.{Program, View, Views, Handler, Done, start}
use Rattle.ms_machine.specs.Tests.{Literal, arm_of, arms_of, literals, map_literal, map_test}
use Rattle.ms_machine.specs.Segments.{After, Choice, Over, Segment, done_within, segment_from}
use Rattle.ms_machine.specs.Runs.{IsInputOf, IsLeast, IsMet, Takes, after_arms, end_from, end_of, footprint, given, segment_after, started, string, string_from, way}
use Rattle.ms_machine.specs.Maps.{map_done, map_run_end, map_segment}

-- there is one word for each kind, as in each input of an entry
abbrev pub IsWhole : Words → Type 0
IsWhole x = length x.words ≡ length x.kinds

-- THE MACHINE WITHOUT AN INPUT

-- the parameters as terms
abbrev pub parameters_from : ℕ → List Kind → List Term
parameters_from index [] = []
parameters_from index (kind ∷ kinds) = Param index kind ∷ parameters_from (suc index) kinds

-- the start with a term for each parameter
abbrev pub shadow_started : Program → List Kind → Done Term
shadow_started P kinds = start P (parameters_from 0 kinds)

-- the segment after p, of terms alone; of the entry where these are its kinds
abbrev pub shadow_after : Program → List Kind → List ℕ → Segment Term
shadow_after P kinds p = segment_from shadows P.view (after_arms shadows P.view (shadow_started P kinds) p)

-- the int of a term, where the parameters are these words
abbrev pub int_of : List ℤ → Term → Int
int_of words term = record { word = value words term; shadow = term }

-- The word of every int is the value of its shadow on the input: the run of x is that of terms, each
-- with its value, after any arms, after any number of instructions then, and in the segment that comes.
pub record WordsAreValues (P : Program) (x : Words) : Type 0 where
  pub run : (p : List ℕ) → after_arms ints P.view (started P x) p ≡ map_done (int_of x.words) (after_arms shadows P.view (shadow_started P x.kinds) p)
  pub steps : (p : List ℕ) (n : ℕ) → done_within ints P.view n (after_arms ints P.view (started P x) p)
      ≡ map_done (int_of x.words) (done_within shadows P.view n (after_arms shadows P.view (shadow_started P x.kinds) p))
  pub segments : (p : List ℕ) → segment_after P x p ≡ map_segment (int_of x.words) (shadow_after P x.kinds p)

-- THE MACHINE WITH MARKS

-- an int with the mark that says whether no parameter entered it
abbrev pub mark_of : Int → Marked
mark_of a = record { word = a.word; plain = is_constant a.shadow }

-- the arm that a test takes by its words
abbrev pub mark_arm : Test Marked → ℕ
mark_arm test = arm_of (map_test (λ a. a.word) test)

-- the start with a mark at each word
abbrev pub marked_start : Program → Words → Done Marked
marked_start P x = start P (map mark_of (given x))

-- The machine with marks runs as the one with shadows: it has the same choices, takes the same arms,
-- executes the same items, and ends alike.
pub record MarksAreRight (P : Program) (x : Words) : Type 0 where
  pub choices : (depth : ℕ) → string_from marks P.view mark_arm depth (marked_start P x) ≡ string P x depth
  pub ends : (depth : ℕ) → end_from marks P.view mark_arm depth (marked_start P x) ≡ map_run_end mark_of (end_of P x depth)
  pub segments : (p : List ℕ) → segment_from marks P.view (after_arms marks P.view (marked_start P x) p) ≡ map_segment mark_of (segment_after P x p)

-- WITH AND WITHOUT AN INPUT

-- the shadow of a word with its shadow
abbrev pub shadow_of : Int → Term
shadow_of a = a.shadow

-- the literals on the way through p, over the parameters
abbrev pub condition : Program → List Kind → List ℕ → List (Literal Term)
condition P kinds p = way shadows P.view (shadow_started P kinds) p

-- The run of x, with the words left out, is that of the machine whose ints are terms, which has no input:
-- after any arms and any number of instructions then, in the segment that comes, and in the literals on
-- the way. The arms need not be those that x takes.
pub record NeedsNoInput (P : Program) (x : Words) : Type 0 where
  pub steps : (p : List ℕ) (n : ℕ) → map_done shadow_of (done_within ints P.view n (after_arms ints P.view (started P x) p))
      ≡ done_within shadows P.view n (after_arms shadows P.view (shadow_started P x.kinds) p)
  pub segments : (p : List ℕ) → map_segment shadow_of (segment_after P x p) ≡ shadow_after P x.kinds p
  pub conditions : (p : List ℕ) → map (map_literal shadow_of) (way ints P.view (started P x) p) ≡ condition P x.kinds p

-- Two inputs have the same shadows and the same control flow after the same arms, step by step, and the
-- same footprint.
pub record SharesShadows (P : Program) (x y : Words) : Type 0 where
  pub steps : (p : List ℕ) (n : ℕ) → map_done shadow_of (done_within ints P.view n (after_arms ints P.view (started P x) p))
      ≡ map_done shadow_of (done_within ints P.view n (after_arms ints P.view (started P y) p))
  pub segments : (p : List ℕ) → map_segment shadow_of (segment_after P x p) ≡ map_segment shadow_of (segment_after P y p)
  pub footprints : (p : List ℕ) → footprint P x p ≡ footprint P y p

-- THE SWITCHES OF A PROGRAM

-- the keys of an instruction, where it is a switch
abbrev pub keys_of : Instr → List ℤ
keys_of (Switch keys) = keys
keys_of other = []

-- whether no key stands twice
abbrev pub keys_differ : List ℤ → Bool
keys_differ [] = true
keys_differ (key ∷ keys) = list_all (λ other. not (int_eq key other)) keys && keys_differ keys

-- the keys of each instruction have this property
abbrev pub AllKeys : (List ℤ → Type 0) → Views → Type 0
AllKeys Q P = (item : Item) (view : View) → P item ≡ Some view → Q (keys_of view.instr)

-- the keys of each switch differ
abbrev pub KeysDiffer : Program → Type 0
KeysDiffer P = AllKeys (λ keys. IsTrue (keys_differ keys)) P.view

-- each switch has fewer than 65,535 keys
abbrev pub KeysAreFew : Program → Type 0
KeysAreFew P = AllKeys (λ keys. length keys < 65535) P.view

-- WHICH INPUTS TAKE A STRING

-- a choice comes, and has this arm
abbrev pub HasArm : {V : Type 0} → After V → ℕ → Type 0
HasArm (Choice test arms) arm = arm < arms_of test
HasArm (Over end) arm = ⊥

-- Where the keys of each switch differ: where some words take p, and arm is one of the choice after it, x takes p with that
-- arm exactly where
-- it makes true all literals on the way through p and those of the arm. The way is that of each input that
-- takes p, over the parameters.
abbrev pub LawOfTheString : Program → Type 0
LawOfTheString P = KeysDiffer P → (x y : Words) → IsWhole x → IsWhole y → x.kinds ≡ y.kinds → (p : List ℕ) (arm : ℕ) → Takes P y p → HasArm (shadow_after P x.kinds p).after arm
    → Takes P x (p ++ arm ∷ []) ↔ AllByRecursion (IsMet x) (condition P x.kinds (p ++ arm ∷ []))

-- Where the keys of each switch differ and some words take p, x takes p exactly where it makes true all literals
-- on the way through p.
abbrev pub TakesWhereMet : Program → Type 0
TakesWhereMet P = KeysDiffer P → (x y : Words) → IsWhole x → IsWhole y → x.kinds ≡ y.kinds → (p : List ℕ) → Takes P y p → Takes P x p ↔ AllByRecursion (IsMet x) (condition P x.kinds p)

-- HOW MANY ARMS AND LITERALS

-- a test has an arm, and at most 65,535; and each arm has at most 65,535 literals
pub record HasFewArms {V : Type 0} (constant : ℤ → V) (test : Test V) : Type 0 where
  pub some : 0 < arms_of test
  pub few : arms_of test ≤ 65535
  pub literals : (arm : ℕ) → length (literals constant test arm) ≤ 65535

-- what comes after a segment is such a choice, or the end
abbrev pub ComesToFewArms : {V : Type 0} → (ℤ → V) → After V → Type 0
ComesToFewArms constant (Choice test arms) = HasFewArms constant test
ComesToFewArms constant (Over end) = Unit {0}

-- Each segment of a program whose switches have fewer than 65,535 keys comes to such a choice, or to the end: that of an
-- input, and that of terms, where the arms need not be those of any input.
pub record ChoicesAreSmall (P : Program) : Type 0 where
  pub of_inputs : KeysAreFew P → (x : Words) (p : List ℕ) → ComesToFewArms ints.constant (segment_after P x p).after
  pub of_terms : KeysAreFew P → (kinds : List Kind) (p : List ℕ) → ComesToFewArms Constant (shadow_after P kinds p).after

-- WHERE FOOTPRINTS LIE

-- there is a view of the item
abbrev pub HasView : Views → Item → Type 0
HasView P item = IsSome (P item)

-- each item of a view has a view
pub record LeadsToViews (P : Views) (view : View) : Type 0 where
  pub next : IfSome view.next (HasView P)
  pub targets : AllByRecursion (HasView P) view.targets
  pub handlers : AllByRecursion (λ (handler : Handler). HasView P handler.begins) view.handlers
  pub callee : IfSome view.callee (HasView P)
  pub initialiser : IfSome view.initialiser_first (HasView P)

-- each item of a program has a view: those of its entry, and those of its views
pub record IsClosed (P : Program) : Type 0 where
  pub first : HasView P.view P.entry.first
  pub initialiser : IfSome P.entry.initialiser_first (HasView P.view)
  pub views : (item : Item) (view : View) → P.view item ≡ Some view → LeadsToViews P.view view

-- an item of a footprint is the entry, or has a view; and there are at most 20,001
pub record IsSmallAndThere (P : Program) (footprint : List Item) : Type 0 where
  pub there : AllByRecursion (λ item. (item ≡ Entry) ⊎ HasView P.view item) footprint
  pub few : length footprint ≤ 20001

-- LEAST INPUTS

-- An input that takes p, and that the least one is not before, is the least one. So there is one at most.
abbrev pub LeastIsFirst : Program → Type 0
LeastIsFirst P = (p : List ℕ) (x y : Words) → IsLeast P p x → IsInputOf P y → Takes P y p → comes_before P.entry.kinds x.words y.words ≡ false → x ≡ y

-- a string has at most one least input
abbrev pub LeastIsUnique : Program → Type 0
LeastIsUnique P = (p : List ℕ) (x y : Words) → IsLeast P p x → IsLeast P p y → x ≡ y

-- a string has a least input
pub record HasLeast (P : Program) (p : List ℕ) : Type 0 where
  pub x : Words
  pub is : IsLeast P p x

-- a string that some input takes has a least input
abbrev pub LeastExists : Program → Type 0
LeastExists P = (p : List ℕ) (y : Words) → IsInputOf P y → Takes P y p → HasLeast P p
