-- A loop over parts that may fail for want of memory.
use Rattle.std.proofs.Common.{◌≡◌, ℕ, ◌-◌, ◌<◌, List, [], ◌∷◌, ◌++◌, Result, Ok, Err, ap}
use Rattle.ms_pool.specs.Places.{Place}
use Rattle.ms_pool.specs.Formats.{Format, added, and_then}
use Rattle.ms_pool.specs.Loops.{IsReading, ends}
use Rattle.ms_classfile.specs.declared.fault.ClassFault.{ClassFault}
use Rattle.ms_classfile.specs.declared.fault.ClassFault.TheVariants.{At, NoMemory}
use Rattle.ms_classfile.specs.ClassFinds.{Fails}

pub added_ends : {X : Type 0} (part : List X → Format ClassFault X) (before : List X) (count i : ℕ) (place : Place) (fault : ClassFault) (total : Result (List X × Place) ClassFault) → i < count → Fails fault ((part before).read place) → IsReading (added part) before (count - i) place total → Fails fault total
added_ends {X = X} part before count i place (At kind at) total below fails so_far =
    ends (added part) before count i place (At kind at) total below (ap (λ (r : Result (X × Place) ClassFault). and_then r (λ (y : X × Place). Ok (before ++ y.0 ∷ [], y.1))) fails) so_far
added_ends part before count i place NoMemory total below fails so_far = tt

pub is_fault : {Y : Type 0} (fault : ClassFault) (read : Result Y ClassFault) → read ≡ Err fault → Fails fault read
is_fault (At kind at) read is = is
is_fault NoMemory read is = tt

pub fails_ends : {X : Type 0} (part : X → Format ClassFault X) (known : X) (count i : ℕ) (place : Place) (fault : ClassFault) (total : Result (X × Place) ClassFault) → i < count → Fails fault ((part known).read place) → IsReading part known (count - i) place total → Fails fault total
fails_ends part known count i place (At kind at) total below fails so_far = ends part known count i place (At kind at) total below fails so_far
fails_ends part known count i place NoMemory total below fails so_far = tt
