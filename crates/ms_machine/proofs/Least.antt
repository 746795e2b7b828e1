-- A string that some input takes has a least input.
use Rattle.std.proofs.Common.{◌≡◌, ℕ, zero, suc, ◌-◌, ◌<◌, ◌≤◌, ◌^◌, ℤ, pos, negsuc, Bool, false, ◌&&◌, ◌==◌, cond, nat_lt, IsTrue, if◌then◌else◌, List, [], ◌∷◌, length, refl, sym, ap, subst, ◌∙◌, arith, ◌⊎◌, inl, inr}
use Rattle.std.proofs.lemmas.Bool.{and_from, and_parts, cases_lt}
use Rattle.std.proofs.lemmas.Bool.Decides.{nat_tests}
use Rattle.ms_words.specs.declared.kind.Kind.{Kind}
use Rattle.ms_words.specs.declared.kind.Kind.TheVariants.{Z, B, C, S, I}
use Rattle.ms_words.specs.Inputs.{Words, are_of, bits_of, comes_before, is_of, unsigned_of}
use Rattle.ms_machine.specs.Control.{Program}
use Rattle.ms_machine.specs.Runs.{IsInputOf, Takes, string}
use Rattle.ms_machine.specs.Laws.{HasLeast, LeastExists}
use Rattle.ms_machine.proofs.Order.{same_word}

-- THE WORD OF A NUMBER

abbrev signed : ℕ → ℕ → ℕ → ℤ
signed half whole n = cond (nat_lt n half) (pos n) (negsuc (whole - suc n))

abbrev word_at : Kind → ℕ → ℤ
word_at Z n = pos n
word_at B n = signed 128 256 n
word_at C n = pos n
word_at S n = signed 32768 65536 n
word_at I n = signed 2147483648 4294967296 n

below : (n m : ℕ) → n < m → IsTrue (nat_lt n m)
below n m h = grind (arith, nat_tests)

not_below : (n m : ℕ) → m ≤ n → nat_lt n m ≡ false
not_below n m h = grind (arith, nat_tests)

record IsAt (kind : Kind) (n : ℕ) (word : ℤ) : Type 0 where
  is : IsTrue (is_of kind word)
  number : unsigned_of kind word ≡ n

at_word : (kind : Kind) (n : ℕ) → n < 2 ^ bits_of kind → IsAt kind n (word_at kind n)
at_word Z n h = record { is = below n 2 h; number = omega arith }
at_word C n h = record { is = below n 65536 h; number = omega arith }
at_word B n h = elim (cases_lt n 128) [
  | inl low ↦ subst (IsAt B n) (sym (ap (λ b. cond b (pos n) (negsuc (256 - suc n))) (below n 128 low))) (record { is = below n 128 low; number = omega arith })
  | inr high ↦ subst (IsAt B n) (sym (ap (λ b. cond b (pos n) (negsuc (256 - suc n))) (not_below n 128 high))) (record { is = below (256 - suc n) 128 (omega arith); number = omega arith })
]
at_word S n h = elim (cases_lt n 32768) [
  | inl low ↦ subst (IsAt S n) (sym (ap (λ b. cond b (pos n) (negsuc (65536 - suc n))) (below n 32768 low))) (record { is = below n 32768 low; number = omega arith })
  | inr high ↦ subst (IsAt S n) (sym (ap (λ b. cond b (pos n) (negsuc (65536 - suc n))) (not_below n 32768 high))) (record { is = below (65536 - suc n) 32768 (omega arith); number = omega arith })
]
at_word I n h = elim (cases_lt n 2147483648) [
  | inl low ↦ subst (IsAt I n) (sym (ap (λ b. cond b (pos n) (negsuc (4294967296 - suc n))) (below n 2147483648 low))) (record { is = below n 2147483648 low; number = omega arith })
  | inr high ↦ subst (IsAt I n) (sym (ap (λ b. cond b (pos n) (negsuc (4294967296 - suc n))) (not_below n 2147483648 high))) (record { is = below (4294967296 - suc n) 2147483648 (omega arith); number = omega arith })
]

number_below : (kind : Kind) (word : ℤ) → unsigned_of kind word < 2 ^ bits_of kind
number_below Z word = omega arith
number_below B word = omega arith
number_below C word = omega arith
number_below S word = omega arith
number_below I word = omega arith

-- THE FIRST OF ALL WORDS

-- what may hold of words
abbrev Holds : Type 1
Holds = List ℤ → Type 0

abbrev Decides : Holds → Type 0
Decides T = (xs : List ℤ) → T xs ⊎ (T xs → ⊥)

record IsFirst (kinds : List Kind) (T : Holds) (xs : List ℤ) : Type 0 where
  are : IsTrue (are_of kinds xs)
  holds : T xs
  first : (ys : List ℤ) → IsTrue (are_of kinds ys) → T ys → IsTrue (comes_before kinds ys xs) → ⊥

abbrev HasNone : List Kind → Holds → Type 0
HasNone kinds T = (ys : List ℤ) → IsTrue (are_of kinds ys) → T ys → ⊥

-- a first one, or none
data Search (kinds : List Kind) (T : Holds) : Type 0 where
  Found : (xs : List ℤ) → IsFirst kinds T xs → Search kinds T
  Nothing : HasNone kinds T → Search kinds T

-- among the first words that are numbered below m: the first one that words may follow, or none
data Scan (kind : Kind) (kinds : List Kind) (T : Holds) (m : ℕ) : Type 0 where
  Stops : (n : ℕ) → n < m → (xs : List ℤ) → IsFirst kinds (λ ys. T (word_at kind n ∷ ys)) xs → ((k : ℕ) → k < n → HasNone kinds (λ ys. T (word_at kind k ∷ ys))) → Scan kind kinds T m
  Passes : ((k : ℕ) → k < m → HasNone kinds (λ ys. T (word_at kind k ∷ ys))) → Scan kind kinds T m

none_more : (kind : Kind) (kinds : List Kind) (T : Holds) (m : ℕ) → ((k : ℕ) → k < m → HasNone kinds (λ ys. T (word_at kind k ∷ ys))) → HasNone kinds (λ ys. T (word_at kind m ∷ ys))
    → (k : ℕ) → k < suc m → HasNone kinds (λ ys. T (word_at kind k ∷ ys))
none_more kind kinds T m none here k less = elim (cases_lt k m) [
  | inl lower ↦ none k lower
  | inr higher ↦ let same : m ≡ k = omega arith in subst (λ n. HasNone kinds (λ ys. T (word_at kind n ∷ ys))) same here
]

scanned : (kind : Kind) (kinds : List Kind) (T : Holds) (m : ℕ) → ((k : ℕ) → k < m → HasNone kinds (λ ys. T (word_at kind k ∷ ys))) → Search kinds (λ ys. T (word_at kind m ∷ ys)) → Scan kind kinds T (suc m)
scanned kind kinds T m none (Found xs is) = Stops m (omega arith) xs is none
scanned kind kinds T m none (Nothing here) = Passes (none_more kind kinds T m none here)

goes_on : (kind : Kind) (kinds : List Kind) (T : Holds) (m : ℕ) → Search kinds (λ ys. T (word_at kind m ∷ ys)) → Scan kind kinds T m → Scan kind kinds T (suc m)
goes_on kind kinds T m here (Stops n less xs is none) = Stops n (omega arith) xs is none
goes_on kind kinds T m here (Passes none) = scanned kind kinds T m none here

scan : (kind : Kind) (kinds : List Kind) (T : Holds) → ((n : ℕ) → Search kinds (λ ys. T (word_at kind n ∷ ys))) → (m : ℕ) → Scan kind kinds T m
scan kind kinds T search_rest zero = Passes (λ k less. absurd (omega arith))
scan kind kinds T search_rest (suc m) = goes_on kind kinds T m (search_rest m) (scan kind kinds T search_rest m)

-- a word of the kind is the word of its number
numbered : (kind : Kind) (word : ℤ) → IsTrue (is_of kind word) → word_at kind (unsigned_of kind word) ≡ word
numbered kind word is =
    let at = at_word kind (unsigned_of kind word) (number_below kind word) in
    same_word kind (word_at kind (unsigned_of kind word)) word at.is is at.number

-- where one comes before: its number is lower, or the same and what follows comes before
lower_or_later : (n m : ℕ) (later : Bool) → IsTrue (if n == m then later else nat_lt n m) → (n < m) ⊎ ((n ≡ m) × IsTrue later)
lower_or_later n m later h = elim (cases_lt n m) [
  | inl lower ↦ inl lower
  | inr higher ↦ inr (grind (arith, nat_tests), grind (arith, nat_tests))
]

by_scan : (kind : Kind) (kinds : List Kind) (T : Holds) → Scan kind kinds T (2 ^ bits_of kind) → Search (kind ∷ kinds) T
by_scan kind kinds T (Passes none) = Nothing (nothing_holds)
  where
    nothing_holds : HasNone (kind ∷ kinds) T
    nothing_holds [] is holds = absurd (cc)
    nothing_holds (y ∷ ys) is holds =
        let both = and_parts _ _ is in
        none (unsigned_of kind y) (number_below kind y) ys both.1 (subst (λ w. T (w ∷ ys)) (sym (numbered kind y both.0)) holds)
by_scan kind kinds T (Stops n less xs is none) = Found (word_at kind n ∷ xs) (record { are = both_are; holds = is.holds; first = first_one })
  where
    at : IsAt kind n (word_at kind n)
    at = at_word kind n less

    both_are : IsTrue (is_of kind (word_at kind n) && are_of kinds xs)
    both_are = and_from _ _ at.is is.are

    first_one : (ys : List ℤ) → IsTrue (are_of (kind ∷ kinds) ys) → T ys → IsTrue (comes_before (kind ∷ kinds) ys (word_at kind n ∷ xs)) → ⊥
    first_one [] are holds before = absurd (cc)
    first_one (y ∷ ys) are holds before =
        let both = and_parts _ _ are in
        let there : T (word_at kind (unsigned_of kind y) ∷ ys) = subst (λ w. T (w ∷ ys)) (sym (numbered kind y both.0)) holds in
        elim (lower_or_later (unsigned_of kind y) (unsigned_of kind (word_at kind n)) _ before) [
          | inl lower ↦ none (unsigned_of kind y) (subst (λ m. unsigned_of kind y < m) at.number lower) ys both.1 there
          | inr same ↦ is.first ys both.1 (subst (λ m. T (word_at kind m ∷ ys)) (same.0 ∙ at.number) there) same.1
        ]

search_words : (kinds : List Kind) (T : Holds) → Decides T → Search kinds T
search_words [] T decides = by_decision (decides [])
  where
    none_else : (T [] → ⊥) → HasNone [] T
    none_else never [] is holds = never holds
    none_else never (y ∷ ys) is holds = absurd (cc)

    by_decision : T [] ⊎ (T [] → ⊥) → Search [] T
    by_decision (inl holds) = Found [] (record { are = refl; holds = holds; first = λ ys is here before. absurd (cc) })
    by_decision (inr never) = Nothing (none_else never)
search_words (kind ∷ kinds) T decides = by_scan kind kinds T (scan kind kinds T (λ n. search_words kinds (λ ys. T (word_at kind n ∷ ys)) (λ ys. decides (word_at kind n ∷ ys))) (2 ^ bits_of kind))

-- WHAT AN INPUT TAKES CAN BE DECIDED

same_number : (m n : ℕ) → (m ≡ n) ⊎ (m ≡ n → ⊥)
same_number m n = elim (cases_lt m n) [
  | inl lower ↦ inr (λ e. omega arith)
  | inr higher ↦ elim (cases_lt n m) [
    | inl lower ↦ inr (λ e. omega arith)
    | inr both ↦ inl (omega arith)
  ]
]

first_of : List ℕ → ℕ
first_of [] = 0
first_of (n ∷ ns) = n

others_of : List ℕ → List ℕ
others_of [] = []
others_of (n ∷ ns) = ns

both_same : (m n : ℕ) (ms ns : List ℕ) → (m ≡ n) ⊎ (m ≡ n → ⊥) → (ms ≡ ns) ⊎ (ms ≡ ns → ⊥) → (m ∷ ms ≡ n ∷ ns) ⊎ (m ∷ ms ≡ n ∷ ns → ⊥)
unfolding first_of others_of
both_same m n ms ns (inr never) others = inr (λ e. never (ap first_of e))
both_same m n ms ns (inl e) (inr never) = inr (λ e. never (ap others_of e))
both_same m n ms ns (inl first) (inl others) = inl (λ i. first i ∷ others i)

same_list : (ms ns : List ℕ) → (ms ≡ ns) ⊎ (ms ≡ ns → ⊥)
same_list [] [] = inl refl
same_list [] (n ∷ ns) = inr (λ e. cc)
same_list (m ∷ ms) [] = inr (λ e. cc)
same_list (m ∷ ms) (n ∷ ns) = both_same m n ms ns (same_number m n) (same_list ms ns)

-- LEAST INPUTS

abbrev input_of : Program → List ℤ → Words
input_of P words = record { kinds = P.entry.kinds; words = words }

abbrev TakesWords : Program → List ℕ → Holds
TakesWords P p words = Takes P (input_of P words) p

is_input_of : (P : Program) (y : Words) → IsInputOf P y → y ≡ input_of P y.words
is_input_of P y input = λ i. record { kinds = input.kinds i; words = y.words }

least_of : (P : Program) (p : List ℕ) (y : Words) → IsInputOf P y → Takes P y p → Search P.entry.kinds (TakesWords P p) → HasLeast P p
least_of P p y input takes (Nothing none) =
    absurd (none y.words (subst (λ ks. IsTrue (are_of ks y.words)) input.kinds input.words) (subst (λ (z : Words). Takes P z p) (is_input_of P y input) takes))
least_of P p y input takes (Found words is) = record {
  x = input_of P words;
  is = record {
    input = record { kinds = refl; words = is.are };
    takes = is.holds;
    first = λ z other also before. is.first z.words (subst (λ ks. IsTrue (are_of ks z.words)) other.kinds other.words) (subst (λ (w : Words). Takes P w p) (is_input_of P z other) also) before;
  };
}

pub least_exists : (P : Program) → LeastExists P
least_exists P p y input takes =
    least_of P p y input takes (search_words P.entry.kinds (TakesWords P p) (λ words. same_list (string P (input_of P words) (length p)) p))
