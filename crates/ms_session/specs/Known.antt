-- What is known of a program's strings, what needs settling, and how it is settled.
use Rattle.std.specs.Prelude.{ℕ, zero, suc, ◌+◌, List, [], length, Bool, not, ◌&&◌, ◌||◌, ◌==◌, if◌then◌else◌, Option, Some, None, find}
use Rattle.std.specs.List.{list_all}
use Rattle.ms_machine.specs.Control.{Program}
use Rattle.ms_session.specs.Strings.{holds, proper_prefixes, with_string}
use Rattle.ms_session.specs.Paths.{is_inherited, is_sat, tree}

-- the nonempty strings whose verdict is known, and the strings whose segment is known
pub record Known : Type 0 where
  pub verdicts : List (List ℕ)
  pub segments : List (List ℕ)

-- nothing
abbrev pub nothing_known : Known
nothing_known = record { verdicts = []; segments = [] }

-- whether a string is empty
abbrev pub is_empty : List ℕ → Bool
is_empty p = length p == 0

-- whether the verdict of a nonempty string is to be found
abbrev pub lacks_verdict : Known → List ℕ → Bool
lacks_verdict known p = not (is_empty p) && not (holds known.verdicts p)

-- whether its verdict is to be found, or, where some input takes it, its segment
abbrev pub is_unsettled : Program → Known → List ℕ → Bool
is_unsettled P known p = lacks_verdict known p || (is_sat P p && not (holds known.segments p))

-- Whether a string of the tree needs settling: the segments of its proper prefixes are known, which some
-- input takes, and it is not settled itself.
abbrev pub needs_settling : Program → Known → List ℕ → Bool
needs_settling P known p = list_all (holds known.segments) (proper_prefixes p) && is_unsettled P known p

-- the first string in choice order, of at most `depth` arms, that needs settling
abbrev pub first_needing : Program → ℕ → Known → Option (List ℕ)
first_needing P depth known = find (needs_settling P known) (tree P depth)

-- what is known when a string is settled: its verdict, where it isn't empty, and its segment, where some
-- input takes it
abbrev pub settled : Program → Known → List ℕ → Known
settled P known p = record {
  verdicts = if is_empty p then known.verdicts else with_string known.verdicts p;
  segments = if is_sat P p then with_string known.segments p else known.segments;
}

-- whether settling it asks once: its verdict is to be found, and is not inherited
abbrev pub asks_for : Program → Known → List ℕ → ℕ
asks_for P known p = if lacks_verdict known p && not (is_inherited P p) then 1 else 0

-- what is known after exploring, how many strings were settled, and how many asks that took
pub record Explored : Type 0 where
  pub known : Known
  pub settled : ℕ
  pub asks : ℕ

-- one more string was settled, with so many asks
abbrev pub one_more : ℕ → Explored → Explored
one_more asks explored = record { known = explored.known; settled = explored.settled + 1; asks = explored.asks + asks }

-- settles this string, where there is one, and goes on
abbrev pub explore_from : Program → (Known → Explored) → Known → Option (List ℕ) → Explored
explore_from P more known None = record { known = known; settled = 0; asks = 0 }
explore_from P more known (Some p) = one_more (asks_for P known p) (more (settled P known p))

-- settles the first string that needs it, up to so many times
unfoldable pub explore : Program → ℕ → ℕ → Known → Explored
explore P depth zero known = record { known = known; settled = 0; asks = 0 }
explore P depth (suc n) known = explore_from P (explore P depth n) known (first_needing P depth known)
