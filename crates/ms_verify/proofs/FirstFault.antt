-- The first fault of a program as a function of it is the one that it has.
use Rattle.std.proofs.Common.{◌≡◌, ℕ, zero, suc, ◌+◌, ◌*◌, ◌<◌, ◌≤◌, List, [], length, replicate, slice_get, Option, Some, None, refl, sym, ap, ◌∙◌, subst, inl, inr, arith}
use Rattle.std.specs.Prelude.{option_and_then, option_map, ◌↔◌}
use Rattle.std.specs.List.{range_with_len}
use Rattle.std.specs.Option.{option_map_or}
use Rattle.std.proofs.lemmas.Bool.{cases_lt, cases_order}
use Rattle.std.proofs.lemmas.Option.{slice_get_within}
use Rattle.ms_program.specs.Programs.{Class, Program}
use Rattle.ms_program.proofs.Picking.{joined, some_is}
use Rattle.ms_typing.specs.declared.kind.VerifyKind.{VerifyKind}
use Rattle.ms_typing.specs.Kinds.{Shape}
use Rattle.ms_typing.specs.Solutions.{HasOneOutcome, IsAccepted, shape_at}
use Rattle.ms_typing.specs.Verifier.{Accepted, Cell, Ends, Fails, Fault, Leaves, Method, Outcome, Rests, Stops, Turn, Turns, Unreached, Verifies, Waiting, entered, lowest, start, turn}
use Rattle.ms_typing.proofs.Joins.{heights_most}
use Rattle.ms_typing.proofs.Sound.{Sofar, start_holds, turn_keeps, with_code}
use Rattle.ms_typing.proofs.Total.{most, turn_lowers, weight, weights}
use Rattle.ms_verify.specs.Checking.{Passes}
use Rattle.ms_verify.specs.Faults.{Place, ProgramFault, fault_after, fault_in, fault_in_class, fault_of, fault_of_method, fault_there, fault_within, first_found, methods_in, most_turns, or_later}
use Rattle.ms_verify.specs.Methods.{AllAccepted, HasFirstFault, StandsBefore, method_of}
use Rattle.ms_verify.proofs.Seeing.{method_made}

-- OF A METHOD

-- it is accepted, or has this fault
abbrev outcome_with : Option Place → List Cell → Outcome
outcome_with None cells = Accepted cells
outcome_with (Some place) cells = Fault place.0 place.1

-- what comes of light cells within enough turns
ends_within : (method : Method) (turns : ℕ) (cells : List Cell) → weights (most method.profile) cells < turns → Sofar method cells
    → (last : List Cell) × Ends method cells (outcome_with (fault_within turns method cells) last)
ends_within method zero cells l i = absurd (omega arith)
ends_within method (suc turns) cells l i = go (lowest cells) refl (λ next m j. ends_within method turns next m j)
  where
    by_turn : (waiting : ℕ × Shape) → lowest cells ≡ Some waiting → (t : Turn) → turn method cells waiting ≡ t
        → ((next : List Cell) → weights (most method.profile) next < turns → Sofar method next → (last : List Cell) × Ends method next (outcome_with (fault_within turns method next) last))
        → (last : List Cell) × Ends method cells (outcome_with (fault_after (fault_within turns method) t) last)
    by_turn waiting e (Fails offset why) f ih = ([], Stops cells waiting offset why e f)
    by_turn waiting e (Leaves next) f ih =
        let x = ih next (omega (arith, turn_lowers method cells next waiting i e f)) (turn_keeps method cells next waiting i e f) in
        (x.0, Turns cells waiting next (outcome_with (fault_within turns method next) x.0) e f x.1)

    go : (o : Option (ℕ × Shape)) → lowest cells ≡ o
        → ((next : List Cell) → weights (most method.profile) next < turns → Sofar method next → (last : List Cell) × Ends method next (outcome_with (fault_within turns method next) last))
        → (last : List Cell) × Ends method cells (outcome_with (option_and_then (λ waiting. fault_after (fault_within turns method) (turn method cells waiting)) o) last)
    go None e ih = (cells, Rests cells e)
    go (Some waiting) e ih = by_turn waiting e (turn method cells waiting) refl ih

-- offsets that aren't reached weigh so much
unreached_weigh : (n count : ℕ) → weights n (replicate count Unreached) ≡ count * n
unreached_weigh n zero = omega arith
unreached_weigh n (suc count) = grind (arith, unreached_weigh n count)

-- so the start is light
first_light : (n count first : ℕ) → first < n → first + weights n (replicate count Unreached) < suc count * n
first_light n count first l = grind (arith, unreached_weigh n count)

start_light : (method : Method) → 0 < length method.lines → weights (most method.profile) (start method) < most_turns method
start_light method l =
    let long : length (entered method.profile).locals ≡ method.profile.max_locals = (start_holds method l).sized 0 (entered method.profile) (with_code method (λ cells. shape_at cells 0 ≡ Some (entered method.profile)) l (λ count e. refl)) in
    with_code method (λ cells. weights (most method.profile) cells < most_turns method) l (λ count e. rw e (first_light (most method.profile) count (weight (most method.profile) (Waiting (entered method.profile)))
    (omega (arith, heights_most (entered method.profile).locals, long))))

-- the outcome of a method is that fault, or none
fault_is : (method : Method) → 0 < length method.lines → (last : List Cell) × Verifies method (outcome_with (fault_of_method method) last)
unfolding fault_of_method
fault_is method l = ends_within method (most_turns method) (start method) (start_light method l) (start_holds method l)

-- OF A METHOD OF A PROGRAM

-- a method has a fault, or is accepted if it isn't foreign
abbrev IsAt : Program → (class number : ℕ) → Option Place → Type 0
IsAt P class number None = Passes P class number
IsAt P class number (Some place) = (method : Method) × (method_of P class number ≡ Some method) × Verifies method (Fault place.0 place.1)

-- each method has a code
abbrev pub AllCoded : Program → Type 0
AllCoded P = (class number : ℕ) (method : Method) → method_of P class number ≡ Some method → 0 < length method.lines

is_at : (P : Program) → AllCoded P → (class number : ℕ) → IsAt P class number (fault_in P class number)
is_at P coded class number = go (method_of P class number) refl
  where
    by_fault : (method : Method) → method_of P class number ≡ Some method → (o : Option Place) → (last : List Cell) × Verifies method (outcome_with o last) → IsAt P class number o
    by_fault method e None h = λ other f. subst IsAccepted (some_is method other (sym e ∙ f)) h
    by_fault method e (Some place) h = (method, e, h.1)

    go : (o : Option Method) → method_of P class number ≡ o → IsAt P class number (option_and_then fault_of_method o)
    go None e = λ method f. absurd (let g = sym e ∙ f in cc)
    go (Some method) e = by_fault method e (fault_of_method method) (fault_is method (coded class number method e))

-- THE FIRST OF SOME NUMBERS

-- of these numbers none has anything, or this is the first that has
abbrev IsFirstOf : {A : Type 0} → (ℕ → Option A) → (from count : ℕ) → Option (ℕ × A) → Type 0
IsFirstOf look from count None = (n : ℕ) → from ≤ n → n < from + count → look n ≡ None
IsFirstOf look from count (Some found) = (found.0 < from + count) × (look found.0 ≡ Some found.1) × ((n : ℕ) → from ≤ n → n < found.0 → look n ≡ None)

-- what holds from the next number on, and of this one, holds from this one on
one_more : (P : ℕ → Type 0) (from : ℕ) → P from → ((n : ℕ) → from + 1 ≤ n → P n) → (n : ℕ) → from ≤ n → P n
one_more P from here later n l = elim (cases_lt from n) [
  | inl m ↦ later n (omega arith)
  | inr m ↦ let e : from ≡ n = omega arith in subst P e here
]

is_first : {A : Type 0} (look : ℕ → Option A) (from count : ℕ) → IsFirstOf look from count (first_found look (range_with_len from count))
is_first look from zero = λ n l m. absurd (omega arith)
is_first {A = A} look from (suc count) = step (look from) refl (first_found look (range_with_len (from + 1) count)) (is_first look (from + 1) count)
  where
    step : (o : Option A) → look from ≡ o → (later : Option (ℕ × A)) → IsFirstOf look (from + 1) count later → IsFirstOf look from (suc count) (or_later from o later)
    step (Some x) e later h = (omega arith, e, λ n l m. absurd (omega arith))
    step None e None h = one_more (λ n. n < from + suc count → look n ≡ None) from (λ m. e) (λ n l m. h n l (omega arith))
    step None e (Some found) h = (omega (arith, h.0), h.1, one_more (λ n. n < found.0 → look n ≡ None) from (λ m. e) h.2)

-- OF A PROGRAM

-- a method is one of those of its class, and that is one of those of the program
within : (P : Program) (class number : ℕ) (method : Method) → method_of P class number ≡ Some method → (class < length P.classes) × (number < methods_in P class)
within P class number method is =
    let made = method_made P class number method is in
    let there = joined (λ (c : Class). slice_get c.methods number) (slice_get P.classes class) made.key made.key_is in (
      slice_get_within P.classes class there.0 there.1,
      subst (λ o. number < option_map_or (λ (c : Class). length c.methods) o 0) (sym there.1) (slice_get_within there.0.methods number made.key there.2),
    )

-- a class has a first fault, or its methods are accepted
abbrev IsIn : Program → (class : ℕ) → Option (ℕ × Place) → Type 0
IsIn P class None = (number : ℕ) → Passes P class number
IsIn P class (Some found) = IsAt P class found.0 (Some found.1) × ((number : ℕ) → number < found.0 → Passes P class number)

is_in : (P : Program) → AllCoded P → (class : ℕ) → IsIn P class (fault_in_class P class)
is_in P coded class = go (fault_in_class P class) (is_first (fault_in P class) 0 (methods_in P class))
  where
    passes : (number : ℕ) → fault_in P class number ≡ None → Passes P class number
    passes number e = subst (IsAt P class number) e (is_at P coded class number)

    go : (o : Option (ℕ × Place)) → IsFirstOf (fault_in P class) 0 (methods_in P class) o → IsIn P class o
    go None h = λ number method is. passes number (h number (omega arith) (omega (arith, (within P class number method is).1))) method is
    go (Some found) h = (subst (IsAt P class found.0) h.1 (is_at P coded class found.0), λ number l. passes number (h.2 number (omega arith) l))

-- a program has a first fault, or its methods are accepted
abbrev IsOf : Program → Option (ℕ × (ℕ × Place)) → Type 0
IsOf P None = AllAccepted P
IsOf P (Some found) = HasFirstFault P found.0 found.1.0 found.1.1.0 found.1.1.1

is_of : (P : Program) → AllCoded P → IsOf P (first_found (fault_in_class P) (range_with_len 0 (length P.classes)))
is_of P coded = go (first_found (fault_in_class P) (range_with_len 0 (length P.classes))) (is_first (fault_in_class P) 0 (length P.classes))
  where
    passes : (class : ℕ) → fault_in_class P class ≡ None → (number : ℕ) → Passes P class number
    passes class e = subst (IsIn P class) e (is_in P coded class)

    go : (o : Option (ℕ × (ℕ × Place))) → IsFirstOf (fault_in_class P) 0 (length P.classes) o → IsOf P o
    go None h = λ class number method is. passes class (h class (omega arith) (omega (arith, (within P class number method is).0))) number method is
    go (Some found) h =
        let there = subst (IsIn P found.0) h.1 (is_in P coded found.0) in
        record {
          method = there.0.0;
          is = there.0.1;
          fault = there.0.2;
          before = λ other_class other earlier is stands. elim stands [
            | inl l ↦ passes other_class (h.2 other_class (omega arith) l) other earlier is
            | inr s ↦ there.1 other s.1 earlier (subst (λ c. method_of P c other ≡ Some earlier) s.0 is)
          ];
        }

-- THE LAW

-- each method has one outcome
abbrev pub AllHaveOne : Program → Type 0
AllHaveOne P = (class number : ℕ) (method : Method) → method_of P class number ≡ Some method → HasOneOutcome method

-- no method before the first fault has one
not_before : (P : Program) → AllHaveOne P → (first second : ProgramFault) → HasFirstFault P first.class first.method first.offset first.kind → HasFirstFault P second.class second.method second.offset second.kind
    → StandsBefore first.class first.method second.class second.method → ⊥
not_before P one first second a b stands =
    let outcome = one first.class first.method a.method a.is in
    let accepted = b.before first.class first.method a.method a.is stands in
    let same : Accepted accepted.0 ≡ Fault first.offset first.kind = outcome.only (Accepted accepted.0) accepted.1 ∙ sym (outcome.only (Fault first.offset first.kind) a.fault) in
    cc

fault_parts : (offset other : ℕ) (why other_why : VerifyKind) → Fault offset why ≡ Fault other other_why → (offset ≡ other) × (why ≡ other_why)
fault_parts offset other why other_why e = (cc, cc)

made_same : (class other_class method other_method offset other_offset : ℕ) (why other_why : VerifyKind) → class ≡ other_class → method ≡ other_method → offset ≡ other_offset → why ≡ other_why
    → ◌≡◌ {A = ProgramFault} (record { class = class; method = method; offset = offset; kind = why }) (record { class = other_class; method = other_method; offset = other_offset; kind = other_why })
made_same class other_class method other_method offset other_offset why other_why c m o k = rw (c, m, o, k) refl

together : (first second : ProgramFault) → first.class ≡ second.class → first.method ≡ second.method → (first.offset ≡ second.offset) × (first.kind ≡ second.kind) → first ≡ second
together first second classes methods parts =
    made_same first.class second.class first.method second.method first.offset second.offset first.kind second.kind classes methods parts.0 parts.1

same_fault : (P : Program) → AllHaveOne P → (first second : ProgramFault) → HasFirstFault P first.class first.method first.offset first.kind → HasFirstFault P second.class second.method second.offset second.kind
    → first.class ≡ second.class → first.method ≡ second.method → first ≡ second
same_fault P one first second a b classes methods =
    let method : a.method ≡ b.method = some_is a.method b.method (sym a.is ∙ subst (λ c. method_of P c first.method ≡ method_of P second.class second.method) (sym classes) (ap (method_of P second.class) methods) ∙ b.is) in
    let outcome = one second.class second.method b.method b.is in
    let same : Fault first.offset first.kind ≡ Fault second.offset second.kind =
    outcome.only (Fault first.offset first.kind) (subst (λ m. Verifies m (Fault first.offset first.kind)) method a.fault) ∙ sym (outcome.only (Fault second.offset second.kind) b.fault) in
    together first second classes methods (fault_parts first.offset second.offset first.kind second.kind same)

only_one : (P : Program) → AllHaveOne P → (first second : ProgramFault) → HasFirstFault P first.class first.method first.offset first.kind → HasFirstFault P second.class second.method second.offset second.kind → first ≡ second
only_one P one first second a b = elim (cases_order first.class second.class) [
  | inl c ↦ elim (cases_order first.method second.method) [
    | inl m ↦ same_fault P one first second a b c m
    | inr n ↦ elim n [
      | inl l ↦ absurd (not_before P one first second a b (inr (c, l)))
      | inr l ↦ absurd (not_before P one second first b a (inr (sym c, l)))
    ]
  ]
  | inr n ↦ elim n [
    | inl l ↦ absurd (not_before P one first second a b (inl l))
    | inr l ↦ absurd (not_before P one second first b a (inl l))
  ]
]

-- a program that is accepted has no fault
abbrev HasNone : Program → Type 0
HasNone P = (class number offset : ℕ) (kind : VerifyKind) → HasFirstFault P class number offset kind → ⊥

pub found_is : (P : Program) → AllCoded P → AllHaveOne P → (AllAccepted P → HasNone P) → (fault : ProgramFault) → HasFirstFault P fault.class fault.method fault.offset fault.kind ↔ (fault_of P ≡ Some fault)
unfolding fault_of
found_is P coded one none fault = go (first_found (fault_in_class P) (range_with_len 0 (length P.classes))) (is_of P coded)
  where
    go : (o : Option (ℕ × (ℕ × Place))) → IsOf P o → HasFirstFault P fault.class fault.method fault.offset fault.kind ↔ (option_map fault_there o ≡ Some fault)
    go None all = (λ h. absurd (none all fault.class fault.method fault.offset fault.kind h), λ e. absurd (let f = e in cc))
    go (Some found) first = (
      λ h. ap Some (only_one P one (fault_there found) fault first h),
      λ e. subst (λ (x : ProgramFault). HasFirstFault P x.class x.method x.offset x.kind) (some_is (fault_there found) fault e) first,
    )

pub none_is : (P : Program) → AllCoded P → (AllAccepted P → HasNone P) → AllAccepted P ↔ (fault_of P ≡ None)
unfolding fault_of
none_is P coded none = go (first_found (fault_in_class P) (range_with_len 0 (length P.classes))) (is_of P coded)
  where
    go : (o : Option (ℕ × (ℕ × Place))) → IsOf P o → AllAccepted P ↔ (option_map fault_there o ≡ None)
    go None all = (λ h. refl, λ e. all)
    go (Some found) first = (λ all. absurd (none all found.0 found.1.0 found.1.1.0 found.1.1.1 first), λ e. absurd (let f = e in cc))
