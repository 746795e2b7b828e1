-- What the marks say of the run itself.
use Rattle.std.proofs.Common.{◌≡◌, ℕ, List, Some, refl, sym, ap, ◌∙◌}
use Rattle.ms_words.specs.declared.end.Ended.TheVariants as ended
use Rattle.ms_words.specs.declared.end.PathEnd.TheVariants as path_end
use Rattle.ms_words.specs.Inputs.{Words}
use Rattle.ms_classfile.specs.ThinFile.{Method}
use Rattle.ms_machine.specs.Ints.{Int, Marked}
use Rattle.ms_machine.specs.Values.{Returned, ReturnedVoid, Threw, InitFailed, Missing, Runaway, Deep, SymLength, HeapFull, Stuck}
use Rattle.ms_machine.specs.Runs.{RunEnd, Ended, Cut, end_of, string}
use Rattle.ms_machine.specs.Maps.{map_run_end}
use Rattle.ms_machine.specs.Laws.{MarksAreRight, mark_of}
use Rattle.ms_jvm.specs.Ends.{path_end_of}
use Rattle.ms_jvm.specs.Programs.{program_of}
use Rattle.ms_jvm.proofs.Following.{IsRun}

-- the choices of the marked run are those of the run
pub same_choices : (method : Method) (x : Words) (depth : ℕ) (choices : List ℕ) (end : RunEnd Marked) → MarksAreRight (program_of method) x → IsRun method x depth choices end → string (program_of method) x depth ≡ choices
same_choices method x depth choices end right run = sym (right.choices depth) ∙ run.string

-- what the end of a run is that looks so with marks
returned_so : (end : RunEnd Int) (a : Marked) → map_run_end mark_of end ≡ Ended (Returned a) → path_end_of end ≡ Some (path_end.Ended (ended.Returned a.word))
returned_so (Ended (Returned b)) a same = let one : mark_of b ≡ a = cc in ap (λ (m : Marked). Some (path_end.Ended (ended.Returned m.word))) one
returned_so (Ended ReturnedVoid) a same = absurd cc
returned_so (Ended (Threw class)) a same = absurd cc
returned_so (Ended (InitFailed class)) a same = absurd cc
returned_so (Ended (Missing name)) a same = absurd cc
returned_so (Ended Runaway) a same = absurd cc
returned_so (Ended Deep) a same = absurd cc
returned_so (Ended SymLength) a same = absurd cc
returned_so (Ended HeapFull) a same = absurd cc
returned_so (Ended Stuck) a same = absurd cc
returned_so Cut a same = absurd cc

cut_so : (end : RunEnd Int) → map_run_end mark_of end ≡ Cut → path_end_of end ≡ Some path_end.Cut
cut_so (Ended end) same = absurd cc
cut_so Cut same = refl

pub returned_end : (method : Method) (x : Words) (depth : ℕ) (choices : List ℕ) (a : Marked) → MarksAreRight (program_of method) x → IsRun method x depth choices (Ended (Returned a))
    → path_end_of (end_of (program_of method) x depth) ≡ Some (path_end.Ended (ended.Returned a.word))
returned_end method x depth choices a right run = returned_so (end_of (program_of method) x depth) a (sym (right.ends depth) ∙ run.end_is)

pub cut_end : (method : Method) (x : Words) (depth : ℕ) (choices : List ℕ) → MarksAreRight (program_of method) x → IsRun method x depth choices Cut → path_end_of (end_of (program_of method) x depth) ≡ Some path_end.Cut
cut_end method x depth choices right run = cut_so (end_of (program_of method) x depth) (sym (right.ends depth) ∙ run.end_is)
