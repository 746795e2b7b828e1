-- How runs end, in the words of the code; how those of thin methods do, and what choices they come to.
use Rattle.std.specs.Prelude.{◌≡◌, Option, Some, None, ℤ}
use Rattle.ms_words.specs.declared.end.Ended.TheVariants as ended
use Rattle.ms_words.specs.declared.end.PathEnd.{PathEnd}
use Rattle.ms_words.specs.declared.end.PathEnd.TheVariants as path_end
use Rattle.ms_machine.specs.Ints.{Int}
use Rattle.ms_machine.specs.Values.{End, Returned, ReturnedVoid, Threw, InitFailed, Missing, Runaway, Deep, SymLength, HeapFull, Stuck}
use Rattle.ms_machine.specs.Tests.{arms_of}
use Rattle.ms_machine.specs.Segments.{After, Choice, Over}
use Rattle.ms_machine.specs.Runs.{RunEnd, Ended, Cut}

-- The end of a run, in the words of the code, where this is the word of an int. A run that no rule covers has none.
abbrev pub path_end_by : {V : Type 0} → (V → ℤ) → RunEnd V → Option PathEnd
path_end_by word (Ended (Returned a)) = Some (path_end.Ended (ended.Returned (word a)))
path_end_by word (Ended ReturnedVoid) = Some (path_end.Ended ended.ReturnedVoid)
path_end_by word (Ended (Threw class)) = Some (path_end.Ended (ended.Threw class))
path_end_by word (Ended (InitFailed class)) = Some (path_end.Ended (ended.InitFailed class))
path_end_by word (Ended (Missing name)) = Some (path_end.Ended (ended.Missing name))
path_end_by word (Ended Runaway) = Some (path_end.Ended ended.Runaway)
path_end_by word (Ended Deep) = Some (path_end.Ended ended.Deep)
path_end_by word (Ended SymLength) = Some (path_end.Ended ended.SymLength)
path_end_by word (Ended HeapFull) = Some (path_end.Ended ended.HeapFull)
path_end_by word (Ended Stuck) = None
path_end_by word Cut = Some path_end.Cut

-- the end of a run on an input
abbrev pub path_end_of : RunEnd Int → Option PathEnd
path_end_of end = path_end_by (λ (a : Int). a.word) end

-- a run that ended so returned a word
abbrev pub ReturnsWord : {V : Type 0} → End V → Type 0
ReturnsWord (Returned a) = Unit {0}
ReturnsWord ReturnedVoid = ⊥
ReturnsWord (Threw class) = ⊥
ReturnsWord (InitFailed class) = ⊥
ReturnsWord (Missing name) = ⊥
ReturnsWord Runaway = ⊥
ReturnsWord Deep = ⊥
ReturnsWord SymLength = ⊥
ReturnsWord HeapFull = ⊥
ReturnsWord Stuck = ⊥

-- a run that ended so returned a word or was cut
abbrev pub ReturnsOrIsCut : {V : Type 0} → RunEnd V → Type 0
ReturnsOrIsCut (Ended end) = ReturnsWord end
ReturnsOrIsCut Cut = Unit {0}

-- a choice that comes then has two arms
abbrev pub HasTwoArms : {V : Type 0} → After V → Type 0
HasTwoArms (Choice test arms) = arms_of test ≡ 2
HasTwoArms (Over end) = Unit {0}
