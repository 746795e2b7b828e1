-- Segments: the run between two choices, with the items that it executes.
use Rattle.std.specs.Prelude.{ℕ, zero, suc, ℤ, List, [], ◌∷◌, Option, Some, None}
use Rattle.ms_words.specs.declared.item.Item.{Item}
use Rattle.ms_machine.specs.Ints.{Ints}
use Rattle.ms_machine.specs.Values.{End, Runaway}
use Rattle.ms_machine.specs.Effects.{Test}
use Rattle.ms_machine.specs.Control.{Views, Done, Goes, Ends, Step, Then, Chooses, step}
use Rattle.ms_machine.specs.Tests.{arm_of, known_test}

-- what comes after a segment: a choice, with what is done for each arm, or the end
pub data After (V : Type 0) : Type 0 where
  Choice : Test V → (ℕ → Done V) → After V
  Over : End V → After V

-- the items that were executed, in order, and what comes then
pub record Segment (V : Type 0) : Type 0 where
  pub trace : List Item
  pub after : After V

-- a segment of no instruction
abbrev pub nothing_then : {V : Type 0} → After V → Segment V
nothing_then after = record { trace = []; after = after }

-- a segment with one instruction before it
abbrev pub item_then : {V : Type 0} → Item → Segment V → Segment V
item_then item segment = record { trace = item ∷ segment.trace; after = segment.after }

-- a test whose ints are known takes its arm; else it is a choice
abbrev pub forked : {V : Type 0} → Test V → (ℕ → Done V) → (Done V → Segment V) → Option (Test ℤ) → Segment V
forked test arms go None = nothing_then (Choice test arms)
forked test arms go (Some words) = go (arms (arm_of words))

-- a step, followed in the segment
abbrev pub followed : {V : Type 0} → Ints V → (Done V → Segment V) → Step V → Segment V
followed I go (Then done) = go done
followed I go (Chooses test arms) = forked test arms go (known_test I test)

-- The run up to the next choice or the end. One that has executed n instructions and comes to neither
-- with the n-th is a runaway. A test that is no choice counts as its instruction does, once.
abbrev pub segment_within : {V : Type 0} → Ints V → Views → ℕ → Done V → Segment V
segment_within I P n (Ends end) = nothing_then (Over end)
segment_within I P zero (Goes state) = nothing_then (Over Runaway)
segment_within I P (suc n) (Goes state) = item_then state.top.at (followed I (segment_within I P n) (step I P state))

-- the most instructions that a segment executes: a bound of this project, not of the standard
unfoldable pub most_instructions : ℕ
most_instructions = 20000

-- the segment with that bound
abbrev pub segment_from : {V : Type 0} → Ints V → Views → Done V → Segment V
segment_from I P done = segment_within I P most_instructions done

-- STEPS WITHIN A SEGMENT

-- These steps have no bound: they go on where a segment is a runaway.

-- a test whose ints are known takes its arm; at a choice the run stands
abbrev pub past : {V : Type 0} → Done V → (ℕ → Done V) → (Done V → Done V) → Option (Test ℤ) → Done V
past here arms go None = here
past here arms go (Some words) = go (arms (arm_of words))

-- a step, where the run goes on unless it stands at a choice
abbrev pub advanced : {V : Type 0} → Ints V → Done V → (Done V → Done V) → Step V → Done V
advanced I here go (Then done) = go done
advanced I here go (Chooses test arms) = past here arms go (known_test I test)

-- where the run is after n instructions, or at the choice or the end that comes before
abbrev pub done_within : {V : Type 0} → Ints V → Views → ℕ → Done V → Done V
done_within I P zero done = done
done_within I P (suc n) (Ends end) = Ends end
done_within I P (suc n) (Goes state) = advanced I (Goes state) (done_within I P n) (step I P state)
