-- What `decode` is given and what it gives, seen as the definitions have it.
use Rattle.std.specs.Prelude.{ℕ, List, Option}
use Rattle.ms_pool.specs.declared.code.CodeRow.{CodeRow}
use Rattle.ms_pool.specs.declared.code.RawHandler.{RawHandler}
use Rattle.ms_pool.specs.Pools.{Placed}
use Rattle.ms_code.specs.declared.coded.Coded as coded
use Rattle.ms_code.specs.declared.coded.Coded.TheVariants as variants
use Rattle.ms_code.specs.declared.coded.CodeFault as faults
use Rattle.ms_code.specs.declared.coded.CodeFault.TheVariants as fault_variants
use Rattle.ms_code.specs.declared.trouble.Trouble.{Trouble}
use Rattle.ms_code.specs.declared.trouble.Trouble.TheVariants.{Foreign, At, NoMemory}
use Rattle.ms_code.specs.Codes.{Code, HasFault, IsDecoded, IsForeign}

-- a code of these bytes with this table, at these places
abbrev pub code_with : (bytes : List ℕ) (code_at : ℕ) (table : List RawHandler) (table_at : ℕ) → Code
code_with bytes code_at table table_at = record { code = bytes; code_at = code_at; table = table; table_at = table_at }

-- the code of a row, without where its bytes lie in memory
abbrev pub code_of : CodeRow → Code
code_of row = code_with row.code.now row.code_at row.table row.table_at

-- the code has this trouble, unless memory ran out; for private functions
abbrev pub HasTrouble : List (Option Placed) → Code → Trouble → Type 0
HasTrouble pool code Foreign = IsForeign pool code
HasTrouble pool code (At kind at) = HasFault pool code kind at
HasTrouble pool code NoMemory = Unit {0}

-- the code is what was found: decoded, or foreign
abbrev pub IsCoded : List (Option Placed) → Code → coded.Coded → Type 0
IsCoded pool code (variants.Decoded decoded) = IsDecoded pool code decoded
IsCoded pool code variants.Foreign = IsForeign pool code

-- the code has this first fault, unless memory ran out
abbrev pub IsFaulty : List (Option Placed) → Code → faults.CodeFault → Type 0
IsFaulty pool code (fault_variants.At kind at) = HasFault pool code kind at
IsFaulty pool code fault_variants.NoMemory = Unit {0}
