-- Formats of bytes, by their parts from left to right. A format says what the first bytes from a place on spell, and for
-- bytes that begin with nothing of the kind what their first fault is. Of a format that is exact, each list of bytes
-- below 256 has one of the two and only one: that is the law of formats, in `Exact`.
use Rattle.std.specs.Prelude.{◌≡◌, ◌⊎◌, ℕ, zero, suc, ◌+◌, ◌^◌, ◌<◌, ◌≤◌, List, [], ◌∷◌, ◌++◌, length, Bool, true, false, Option, Some, None, Result, Ok, Err, if◌then◌else◌}
use Rattle.ms_pool.specs.declared.cursor.Short.{Short}
use Rattle.ms_pool.specs.Places.{Place, behind, first_of, number_at, number_bytes, part_at, run_at}

-- a format of what X are, with faults
pub record Format (Fault X : Type 0) : Type 1 where
  -- from one place to the other the bytes spell this
  pub Spells : Place → X → Place → Type 0
  -- from the place on the bytes spell nothing, and this is their first fault
  pub Breaks : Place → Fault → Type 0
  -- how it is read: what is spelled there and the place behind it, or the first fault
  pub read : Place → Result (X × Place) Fault

-- what is read, and what is read behind it
abbrev pub and_then : {Fault A B : Type 0} → Result A Fault → (A → Result B Fault) → Result B Fault
and_then (Ok x) next = next x
and_then (Err fault) next = Err fault

-- ONE PART

-- a number of n bytes, the highest first; where fewer are left, a fault with the place where it would begin
pub record IsNumber (n : ℕ) (place : Place) (number : ℕ) (after : Place) : Type 0 where
  pub fits : number < 256 ^ n
  pub bytes : place.left ≡ number_bytes n number ++ after.left
  pub moved : after.at ≡ place.at + n

-- fewer than n bytes are left
abbrev pub IsShort : {Fault : Type 0} → (ℕ → Fault) → ℕ → Place → Fault → Type 0
IsShort short n place fault = (length place.left < n) × (fault ≡ short place.at)

-- what was read, or the fault of a part that does not fit
abbrev pub or_short : {Fault X : Type 0} → (ℕ → Fault) → Result X Short → Result X Fault
or_short short (Ok x) = Ok x
or_short short (Err none) = Err (short none.at)

-- the format of a number of n bytes
abbrev pub number : {Fault : Type 0} → (ℕ → Fault) → ℕ → Format Fault ℕ
number short n = record {
  Spells = IsNumber n;
  Breaks = IsShort short n;
  read = λ place. or_short short (number_at n place);
}

-- a run of n bytes
pub record IsRun (n : ℕ) (place : Place) (bytes : List ℕ) (after : Place) : Type 0 where
  pub many : length bytes ≡ n
  pub bytes_are : place.left ≡ bytes ++ after.left
  pub moved : after.at ≡ place.at + n

-- the format of a run of n bytes
abbrev pub run : {Fault : Type 0} → (ℕ → Fault) → ℕ → Format Fault (List ℕ)
run short n = record {
  Spells = IsRun n;
  Breaks = IsShort short n;
  read = λ place. or_short short (run_at n place);
}

-- NO PART

-- no bytes, and this
abbrev pub done : {Fault X : Type 0} → X → Format Fault X
done x = record {
  Spells = λ place y after. (y ≡ x) × (after ≡ place);
  Breaks = λ place fault. ⊥;
  read = λ place. Ok (x, place);
}

-- the place itself: how many bytes come before it
abbrev pub here : {Fault : Type 0} → Format Fault ℕ
here = record {
  Spells = λ place at after. (at ≡ place.at) × (after ≡ place);
  Breaks = λ place fault. ⊥;
  read = λ place. Ok (place.at, place);
}

-- what was found, read from no bytes
abbrev pub found_or : {Fault X : Type 0} → Option X → Fault → Place → Result (X × Place) Fault
found_or (Some x) fault place = Ok (x, place)
found_or None fault place = Err fault

-- what was found, or a fault where nothing was
abbrev pub found : {Fault X : Type 0} → Option X → Fault → Format Fault X
found option fault = record {
  Spells = λ place x after. (option ≡ Some x) × (after ≡ place);
  Breaks = λ place broken. (option ≡ None) × (broken ≡ fault);
  read = found_or option fault;
}

-- nothing, where the test holds, and else a fault
abbrev pub check : {Fault : Type 0} → Bool → Fault → Format Fault (Unit {0})
check test fault = record {
  Spells = λ place x after. (test ≡ true) × (after ≡ place);
  Breaks = λ place broken. (test ≡ false) × (broken ≡ fault);
  read = λ place. if test then Ok (tt, place) else Err fault;
}

-- nothing, where no byte is left
abbrev pub if_none_left : {Fault : Type 0} → (ℕ → Fault) → ℕ → List ℕ → Place → Result (Unit {0} × Place) Fault
if_none_left trailing at [] place = Ok (tt, place)
if_none_left trailing at (byte ∷ bytes) place = Err (trailing at)

-- the end of the bytes, or a fault with the place of the first byte that is left
abbrev pub end : {Fault : Type 0} → (ℕ → Fault) → Format Fault (Unit {0})
end trailing = record {
  Spells = λ place x after. (place.left ≡ []) × (after ≡ place);
  Breaks = λ place fault. (0 < length place.left) × (fault ≡ trailing place.at);
  read = λ place. if_none_left trailing place.at place.left place;
}

-- PARTS

-- one part, and behind it what that part says
pub record AreBoth {Fault X Y : Type 0} (first : Format Fault X) (rest : X → Format Fault Y) (place : Place) (y : Y) (after : Place) : Type 0 where
  pub x : X
  pub between : Place
  pub is_first : first.Spells place x between
  pub is_rest : (rest x).Spells between y after

-- the first part is whole, and behind it is the fault
pub record BreaksLater {Fault X Y : Type 0} (first : Format Fault X) (rest : X → Format Fault Y) (place : Place) (fault : Fault) : Type 0 where
  pub x : X
  pub between : Place
  pub is_first : first.Spells place x between
  pub broken : (rest x).Breaks between fault

-- one part, and then the one that its value leads to
infixl 10 ◌>>=◌
abbrev pub ◌>>=◌ : {Fault X Y : Type 0} → Format Fault X → (X → Format Fault Y) → Format Fault Y
first >>= rest = record {
  Spells = AreBoth first rest;
  Breaks = λ place fault. first.Breaks place fault ⊎ BreaksLater first rest place fault;
  read = λ place. and_then (first.read place) (λ found. (rest found.0).read found.1);
}

-- one of two formats, by a test
abbrev pub either : {Fault X : Type 0} → Bool → Format Fault X → Format Fault X → Format Fault X
either true first second = first
either false first second = second

-- n parts, one behind the other; each takes what is known before it and gives what is known behind it
abbrev pub repeated : {Fault X : Type 0} → ℕ → (X → Format Fault X) → X → Format Fault X
repeated zero part known = done known
repeated (suc n) part known = part known >>= repeated n part

-- a part, and what was known before with it at the end
abbrev pub added : {Fault X : Type 0} → (List X → Format Fault X) → List X → Format Fault (List X)
added part before = part before >>= λ x. done (before ++ x ∷ [])

-- this, and then the end of the bytes
abbrev pub filled : {Fault X : Type 0} → (ℕ → Fault) → Format Fault X → Format Fault X
filled trailing content = content >>= λ x. end trailing >>= λ ended. done x

-- in the first n bytes from a place on stands this
pub record IsWithin {Fault X : Type 0} (n : ℕ) (content : Format Fault X) (place : Place) (x : X) (after : Place) : Type 0 where
  pub enough : n ≤ length place.left
  pub last : Place
  pub is : content.Spells (first_of place n) x last
  pub after_is : after ≡ behind place n

-- there are n bytes, and they have the fault
pub record BreaksWithin {Fault X : Type 0} (n : ℕ) (content : Format Fault X) (place : Place) (fault : Fault) : Type 0 where
  pub enough : n ≤ length place.left
  pub broken : content.Breaks (first_of place n) fault

-- a run of n bytes that the content fills
abbrev pub within : {Fault X : Type 0} → (short trailing : ℕ → Fault) → ℕ → Format Fault X → Format Fault X
within short trailing n content = record {
  Spells = IsWithin n (filled trailing content);
  Breaks = λ place fault. IsShort short n place fault ⊎ BreaksWithin n (filled trailing content) place fault;
  read = λ place. and_then (or_short short (part_at n place)) (λ parts. and_then ((filled trailing content).read parts.0) (λ found. Ok (found.0, parts.1)));
}
