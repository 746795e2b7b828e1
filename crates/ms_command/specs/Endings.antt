-- How the ends of runs and paths are printed.
use Rattle.std.specs.Prelude.{ℕ, ℤ, List, [], ◌++◌, codes, slice_get, unwrap_or}
use Rattle.std.specs.Fmt.{signed_decimal}
use Rattle.ms_words.specs.Throwables.{class_name}
use Rattle.ms_words.specs.declared.end.Ended.{Ended}
use Rattle.ms_words.specs.declared.end.Ended.TheVariants.{Returned, ReturnedVoid, Threw, InitFailed, Missing, Runaway, Deep, SymLength, HeapFull}
use Rattle.ms_words.specs.declared.end.PathEnd.{PathEnd}
use Rattle.ms_words.specs.declared.end.PathEnd.TheVariants as paths
use Rattle.ms_command.specs.Names.{printed_name}

-- the name of the class of this number, by the names of a program's classes; empty where no class has the number
abbrev pub name_of : List (List ℕ) → ℕ → List ℕ
name_of names class = unwrap_or (slice_get names class) []

-- a word that is returned
abbrev pub returned_text : ℤ → List ℕ
returned_text word = codes "returns " ++ signed_decimal word

-- how a run ended by itself
abbrev pub ended_text : List (List ℕ) → Ended → List ℕ
ended_text names (Returned word) = returned_text word
ended_text names ReturnedVoid = codes "returns void"
ended_text names (Threw class) = codes "throws " ++ printed_name (class_name class)
ended_text names (InitFailed class) = codes "initfailed " ++ printed_name (name_of names class)
ended_text names (Missing name) = codes "missing " ++ printed_name name
ended_text names Runaway = codes "runaway"
ended_text names Deep = codes "deep"
ended_text names SymLength = codes "symlength"
ended_text names HeapFull = codes "heapfull"

-- how the end of a path is printed, by the names of the program's classes
abbrev pub end_text : List (List ℕ) → PathEnd → List ℕ
end_text names (paths.Ended end) = ended_text names end
end_text names paths.Cut = codes "cut"
