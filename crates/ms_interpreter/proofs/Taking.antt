-- Several values from the top of the stack.
use Rattle.std.proofs.Common.{◌≡◌, ℕ, zero, suc, ◌<◌, ◌≤◌, List, [], ◌∷◌, ◌++◌, length, take, drop, refl, ap, subst, arith}
use Rattle.ms_machine.specs.Values.{Value}
use Rattle.ms_machine.specs.Effects.{Effect, stuck, taking}

-- as many as there are, or fewer, are taken
pub taken : {V : Type 0} (count : ℕ) (stack : List (Value V)) (go : List (Value V) → List (Value V) → Effect V) → count ≤ length stack → taking count stack go ≡ go (take count stack) (drop count stack)
taken zero stack go few = refl
taken (suc count) [] go few = absurd (omega (arith, few))
taken (suc count) (top ∷ stack) go few = taken count stack (λ values below. go (top ∷ values) below) (omega (arith, few))

-- more than there are aren't
pub too_many : {V : Type 0} (count : ℕ) (stack : List (Value V)) (go : List (Value V) → List (Value V) → Effect V) → length stack < count → taking count stack go ≡ stuck
too_many zero stack go many = absurd (omega (arith, many))
too_many (suc count) [] go many = refl
too_many (suc count) (top ∷ stack) go many = too_many count stack (λ values below. go (top ∷ values) below) (omega (arith, many))

-- so many are taken, and one more
pub record TookMore {A : Type 0} (stack : List A) (n m : ℕ) (top : A) (below : List A) : Type 0 where
  pub within : m ≤ length stack
  pub taken : take m stack ≡ take n stack ++ top ∷ []
  pub left : drop m stack ≡ below

one_more : {A : Type 0} (stack : List A) (n : ℕ) (top : A) (below : List A) → drop n stack ≡ top ∷ below → TookMore stack n (suc n) top below
one_more [] zero top below is = absurd (let e = is in cc)
one_more [] (suc n) top below is = absurd (let e = is in cc)
one_more (first ∷ stack) zero top below is =
    let one : first ≡ top = cc in let rest : stack ≡ below = cc in record { within = omega arith; taken = ap (λ (v : _). v ∷ []) one; left = rest }
one_more (first ∷ stack) (suc n) top below is =
    let more = one_more stack n top below is in record { within = omega (arith, more.within); taken = ap (λ (list : List _). first ∷ list) more.taken; left = more.left }

pub took_more : {A : Type 0} (stack : List A) (n m : ℕ) (top : A) (below : List A) → suc n ≡ m → drop n stack ≡ top ∷ below → TookMore stack n m top below
took_more stack n m top below next is = subst (λ (k : ℕ). TookMore stack n k top below) next (one_more stack n top below is)

-- where nothing is left
pub put_all : {A : Type 0} (left stack : List A) → length left ≡ zero → stack ≡ left ++ stack
put_all [] stack none = refl
put_all (first ∷ left) stack none = absurd (omega (arith, none))
