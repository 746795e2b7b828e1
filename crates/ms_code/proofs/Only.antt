-- A code is one of three things, and one thing of its kind.
use Rattle.std.proofs.Common.{◌≡◌, ◌⊎◌, true, ℕ, List, Option, inl, inr}
use Rattle.ms_pool.specs.declared.code.ClassKind.{ClassKind}
use Rattle.ms_pool.specs.Pools.{Placed}
use Rattle.ms_pool.specs.Places.{Place, beginning}
use Rattle.ms_pool.specs.Numbers.{IsBytes}
use Rattle.ms_pool.specs.Exact.{breaks_one, not_both, spells_one, spells_or_breaks}
use Rattle.ms_code.specs.declared.trouble.Trouble.{Trouble}
use Rattle.ms_code.specs.declared.trouble.Trouble.TheVariants.{Foreign, At, NoMemory}
use Rattle.ms_code.specs.Codes.{Code, DecodedCode, HasFault, IsDecoded, IsForeign, decoded}
use Rattle.ms_code.specs.Laws.{is_code_fault}
use Rattle.ms_code.proofs.Exact.{decoded_sound}

pub one_of_three : (pool : List (Option Placed)) (code : Code) → IsBytes code.code → ((result : DecodedCode) × IsDecoded pool code result) ⊎ IsForeign pool code ⊎ ((kind : ClassKind) × (at : ℕ) × HasFault pool code kind at)
one_of_three pool code bytes = by_law (spells_or_breaks (decoded pool code) (decoded_sound pool code).exact (beginning code.code) bytes)
  where
    by_trouble : (trouble : Trouble) → (decoded pool code).Breaks (beginning code.code) trouble → ((result : DecodedCode) × IsDecoded pool code result) ⊎ IsForeign pool code ⊎ ((kind : ClassKind) × (at : ℕ) × HasFault pool code kind at)
    by_trouble Foreign broken = inr (inl broken)
    by_trouble (At kind at) broken = inr (inr (kind, at, broken))
    by_trouble NoMemory broken = absurd ((decoded_sound pool code).told (beginning code.code) NoMemory ((decoded_sound pool code).exact.faults (beginning code.code) NoMemory bytes broken))

    by_law : ((x : DecodedCode) × (after : Place) × (decoded pool code).Spells (beginning code.code) x after) ⊎ ((trouble : Trouble) × (decoded pool code).Breaks (beginning code.code) trouble) → ((result : DecodedCode) × IsDecoded pool code result) ⊎ IsForeign pool code ⊎ ((kind : ClassKind) × (at : ℕ) × HasFault pool code kind at)
    by_law (inl spelled) = inl (spelled.0, record { after = spelled.1; is = spelled.2 })
    by_law (inr broken) = by_trouble broken.0 broken.1

pub no_trouble : (pool : List (Option Placed)) (code : Code) (result : DecodedCode) (trouble : Trouble) → IsBytes code.code → IsDecoded pool code result → (decoded pool code).Breaks (beginning code.code) trouble → ⊥
no_trouble pool code result trouble bytes is broken = not_both (decoded pool code) (decoded_sound pool code).exact (beginning code.code) is.after result trouble bytes is.is broken

pub one_trouble : (pool : List (Option Placed)) (code : Code) (first second : Trouble) → IsBytes code.code → (decoded pool code).Breaks (beginning code.code) first → (decoded pool code).Breaks (beginning code.code) second → first ≡ second
one_trouble pool code first second bytes p q = breaks_one (decoded pool code) (decoded_sound pool code).exact (beginning code.code) first second bytes p q

pub one_code : (pool : List (Option Placed)) (code : Code) (first second : DecodedCode) → IsBytes code.code → IsDecoded pool code first → IsDecoded pool code second → first ≡ second
one_code pool code first second bytes p q = (spells_one (decoded pool code) (decoded_sound pool code).exact (beginning code.code) p.after q.after first second bytes p.is q.is).0

pub kind_of_code : (pool : List (Option Placed)) (code : Code) (kind : ClassKind) (at : ℕ) → IsBytes code.code → HasFault pool code kind at → is_code_fault kind ≡ true
kind_of_code pool code kind at bytes broken = (decoded_sound pool code).told (beginning code.code) (At kind at) ((decoded_sound pool code).exact.faults (beginning code.code) (At kind at) bytes broken)
