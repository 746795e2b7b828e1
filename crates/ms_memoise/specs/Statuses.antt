-- The numbers of statuses.
use Rattle.std.specs.Prelude.{ℕ}
use Rattle.ms_memoise.specs.declared.status.Status.{Status}
use Rattle.ms_memoise.specs.declared.status.Status.TheVariants.{Done, Usage, ReadFault, WriteFault, NoMemory, ShelfFault, TooMuchInput}

-- the number of a status
abbrev pub code_of : Status → ℕ
code_of Done = 0
code_of Usage = 2
code_of ReadFault = 4
code_of WriteFault = 5
code_of NoMemory = 7
code_of ShelfFault = 8
code_of TooMuchInput = 9
