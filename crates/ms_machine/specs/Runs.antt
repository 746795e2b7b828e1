-- Runs of inputs: strings of arms, ends, footprints, and which inputs take a string.
use Rattle.std.specs.Prelude.{◌≡◌, ℕ, zero, suc, ℤ, IsTrue, List, [], ◌∷◌, ◌++◌, length}
use Rattle.ms_words.specs.declared.item.Item.{Item}
use Rattle.ms_words.specs.declared.item.Item.TheVariants.{Entry}
use Rattle.ms_words.specs.declared.kind.Kind.{Kind}
use Rattle.ms_words.specs.Inputs.{Words, are_of, comes_before}
use Rattle.ms_words.specs.Items.{firsts}
use Rattle.ms_words.specs.Relations.{related}
use Rattle.ms_terms.specs.Terms.{Term, Param, value}
use Rattle.ms_machine.specs.Ints.{Ints, Int, ints}
use Rattle.ms_machine.specs.Values.{End}
use Rattle.ms_machine.specs.Effects.{Test}
use Rattle.ms_machine.specs.Control.{Program, Views, Done, Ends, start}
use Rattle.ms_machine.specs.Tests.{Literal, arm_of, literals, map_test}
use Rattle.ms_machine.specs.Segments.{After, Choice, Over, Segment, segment_from}

-- STRINGS, FOR ANY INTS

-- what is done after an arm
abbrev pub done_after : {V : Type 0} → After V → ℕ → Done V
done_after (Choice test arms) arm = arms arm
done_after (Over end) arm = Ends end

-- where the segment after these arms begins
abbrev pub after_arms : {V : Type 0} → Ints V → Views → Done V → List ℕ → Done V
after_arms I P done [] = done
after_arms I P done (arm ∷ arms) = after_arms I P (done_after (segment_from I P done).after arm) arms

-- the arm of a choice, by `decide`, and those after it
abbrev pub arms_at : {V : Type 0} → (Test V → ℕ) → (Done V → List ℕ) → After V → List ℕ
arms_at decide go (Choice test arms) = decide test ∷ go (arms (decide test))
arms_at decide go (Over end) = []

-- the arms of the first choices, at most so many, where each choice takes the arm that `decide` says
abbrev pub string_from : {V : Type 0} → Ints V → Views → (Test V → ℕ) → ℕ → Done V → List ℕ
string_from I P decide zero done = []
string_from I P decide (suc depth) done = arms_at decide (string_from I P decide depth) (segment_from I P done).after

-- how a run to a depth ends: by itself, or cut where one choice more is due
pub data RunEnd (V : Type 0) : Type 0 where
  Ended : End V → RunEnd V
  Cut : RunEnd V

-- the end of a run, where no choice comes
abbrev pub end_at : {V : Type 0} → After V → RunEnd V
end_at (Choice test arms) = Cut
end_at (Over end) = Ended end

-- the end of the run to a depth, where each choice takes the arm that `decide` says
abbrev pub end_from : {V : Type 0} → Ints V → Views → (Test V → ℕ) → ℕ → Done V → RunEnd V
end_from I P decide depth done = end_at (segment_from I P (after_arms I P done (string_from I P decide depth done))).after

-- RUNS OF ONE INPUT

-- the ints of the parameters: each with its word, and the parameter as its shadow
abbrev pub given_from : ℕ → List Kind → List ℤ → List Int
given_from index [] words = []
given_from index (kind ∷ kinds) [] = []
given_from index (kind ∷ kinds) (word ∷ words) = record { word = word; shadow = Param index kind } ∷ given_from (suc index) kinds words

-- the words of an input, each with its parameter as its shadow
abbrev pub given : Words → List Int
given x = given_from 0 x.kinds x.words

-- the start of an input
abbrev pub started : Program → Words → Done Int
started P x = start P (given x)

-- the arm that a test takes by its words
abbrev pub word_arm : Test Int → ℕ
word_arm test = arm_of (map_test (λ a. a.word) test)

-- the arms of the first `depth` choices of x
abbrev pub string : Program → Words → ℕ → List ℕ
string P x depth = string_from ints P.view word_arm depth (started P x)

-- x takes p
abbrev pub Takes : Program → Words → List ℕ → Type 0
Takes P x p = string P x (length p) ≡ p

-- the segment of x after p, where x takes p
abbrev pub segment_after : Program → Words → List ℕ → Segment Int
segment_after P x p = segment_from ints P.view (after_arms ints P.view (started P x) p)

-- the end of the run of x to a depth
abbrev pub end_of : Program → Words → ℕ → RunEnd Int
end_of P x depth = end_from ints P.view word_arm depth (started P x)

-- FOOTPRINTS

-- the first segment begins with the entry
abbrev pub with_entry : List ℕ → List Item → List Item
with_entry [] items = Entry ∷ items
with_entry (arm ∷ arms) items = items

-- the items that the segment of x after p executes, each once, in order of first execution, where x
-- takes p
abbrev pub footprint : Program → Words → List ℕ → List Item
footprint P x p = firsts (with_entry p (segment_after P x p).trace)

-- LEAST INPUTS

-- x is an input of the entry
pub record IsInputOf (P : Program) (x : Words) : Type 0 where
  pub kinds : x.kinds ≡ P.entry.kinds
  pub words : IsTrue (are_of x.kinds x.words)

-- x is the first input that takes p
pub record IsLeast (P : Program) (p : List ℕ) (x : Words) : Type 0 where
  pub input : IsInputOf P x
  pub takes : Takes P x p
  pub first : (y : Words) → IsInputOf P y → Takes P y p → IsTrue (comes_before P.entry.kinds y.words x.words) → ⊥

-- THE WAY OF A STRING

-- the literals of an arm of what comes after a segment
abbrev pub next_literals : {V : Type 0} → Ints V → After V → ℕ → List (Literal V)
next_literals I (Choice test arms) arm = literals I.constant test arm
next_literals I (Over end) arm = []

-- the literals of the arms on the way through p
abbrev pub way : {V : Type 0} → Ints V → Views → Done V → List ℕ → List (Literal V)
way I P done [] = []
way I P done (arm ∷ arms) =
    let after = (segment_from I P done).after in
    next_literals I after arm ++ way I P (done_after after arm) arms

-- the input makes the literal true
abbrev pub IsMet : Words → Literal Term → Type 0
IsMet x literal = IsTrue (related literal.rel (value x.words literal.a) (value x.words literal.b))
