-- Picking literals.
use Rattle.std.proofs.Common.{◌≡◌, ◌≢◌, ◌<◌, ◌≤◌, ◌+◌, ℕ, zero, suc, true, false, List, [], ◌∷◌, ◌++◌, length, map, take, get_or, slice_get, Some, refl, sym, ap, subst, ◌∙◌, arith}
use Rattle.std.specs.Prelude.{fold}
use Rattle.std.specs.Int.Bits.{bit_and, bit_or}
use Rattle.std.specs.List.{All, AllByRecursion, Contains}
use Rattle.std.proofs.lemmas.List.{length-map}
use Rattle.std.proofs.lemmas.Option.{slice_get_within, slice_get-get_or}
use Rattle.ms_pathcond.specs.declared.literal.Literal.{Literal}
use Rattle.ms_terms.specs.declared.term.Term.{Term as Node}
use Rattle.ms_pathcond.specs.Literals.{relation_of, support_of, supports}
use Rattle.ms_pathcond.specs.Slices.{Belongs, Ends, IsSlice, Last, Leaves, Picks, Shares, Slice, Takes}
use Rattle.ms_pathcond.specs.Gathered.{ArePicked, IsClosed, IsSound, is_met}
use Rattle.ms_pathcond.proofs.Rounds.{met_last, met_shares, shares_with_all}

-- LISTS

take_more : {X : Type 0} (xs : List X) (n : ℕ) (x : X) → slice_get xs n ≡ Some x → take (suc n) xs ≡ take n xs ++ x ∷ []
take_more [] n x at = absurd (let e = at in cc)
take_more (y ∷ xs) zero x at = ap (λ z. z ∷ []) (let e = at in cc)
take_more (y ∷ xs) (suc n) x at = ap (λ ys. y ∷ ys) (take_more xs n x at)

length_take : {X : Type 0} (xs : List X) (n : ℕ) → n ≤ length xs → length (take n xs) ≡ n
length_take xs zero within = refl
length_take [] (suc n) within = absurd (omega (arith, within))
length_take (x ∷ xs) (suc n) within = ap suc (length_take xs n (omega (arith, within)))

pub take_all : {X : Type 0} (xs : List X) → take (length xs) xs ≡ xs
take_all [] = refl
take_all (x ∷ xs) = ap (λ ys. x ∷ ys) (take_all xs)

get_mapped : {X : Type 0} (f : X → ℕ) (xs : List X) (n : ℕ) (x : X) → slice_get xs n ≡ Some x → get_or (map f xs) n 0 ≡ f x
get_mapped f [] n x at = absurd (let e = at in cc)
get_mapped f (y ∷ xs) zero x at = ap f (let e = at in cc)
get_mapped f (y ∷ xs) (suc n) x at = get_mapped f xs n x at

params_more : (f : Literal → ℕ) (literals : List Literal) (literal : Literal) (all : ℕ) → fold bit_or all (map f (literals ++ literal ∷ [])) ≡ bit_or (fold bit_or all (map f literals)) (f literal)
params_more f [] literal all = refl
params_more f (l ∷ literals) literal all = params_more f literals literal (bit_or all (f l))

-- ONE MORE PLACE

module _ {X : Type 0} (IsIn : ℕ → Type 0) (x : X) where
  pub takes_last : (place : ℕ) (xs picked : List X) → Picks IsIn place xs picked → IsIn (place + length xs) → Picks IsIn place (xs ++ x ∷ []) (picked ++ x ∷ [])
  takes_last place [] [] (Ends _) is = Takes place x [] [] (subst IsIn (let e : place + length {A = X} [] ≡ place = omega arith in e) is) (Ends (suc place))
  takes_last place [] (_ ∷ picked) none is = elim none [ ]
  takes_last place (y ∷ xs) (_ ∷ picked) (Takes _ _ _ _ here rest) is =
      Takes place y (xs ++ x ∷ []) (picked ++ x ∷ []) here (takes_last (suc place) xs picked rest (subst IsIn (let e : place + suc (length xs) ≡ suc place + length xs = omega arith in e) is))
  takes_last place (y ∷ xs) picked (Leaves _ _ _ _ out rest) is =
      Leaves place y (xs ++ x ∷ []) (picked ++ x ∷ []) out (takes_last (suc place) xs picked rest (subst IsIn (let e : place + suc (length xs) ≡ suc place + length xs = omega arith in e) is))

  pub leaves_last : (place : ℕ) (xs picked : List X) → Picks IsIn place xs picked → (IsIn (place + length xs) → ⊥) → Picks IsIn place (xs ++ x ∷ []) picked
  leaves_last place [] [] (Ends _) is_not = Leaves place x [] [] (λ is. is_not (subst IsIn (let e : place ≡ place + length {A = X} [] = omega arith in e) is)) (Ends (suc place))
  leaves_last place [] (_ ∷ picked) none is_not = elim none [ ]
  leaves_last place (y ∷ xs) (_ ∷ picked) (Takes _ _ _ _ here rest) is_not =
      Takes place y (xs ++ x ∷ []) picked here (leaves_last (suc place) xs picked rest (λ is. is_not (subst IsIn (let e : suc place + length xs ≡ place + suc (length xs) = omega arith in e) is)))
  leaves_last place (y ∷ xs) picked (Leaves _ _ _ _ out rest) is_not =
      Leaves place y (xs ++ x ∷ []) picked out (leaves_last (suc place) xs picked rest (λ is. is_not (subst IsIn (let e : suc place + length xs ≡ place + suc (length xs) = omega arith in e) is)))

-- THE SAME PLACES

pub picks_same : {X : Type 0} (A B : ℕ → Type 0) (place : ℕ) (xs picked : List X) → ((n : ℕ) → n < place + length xs → A n → B n) → ((n : ℕ) → n < place + length xs → B n → A n) → Picks A place xs picked → Picks B place xs picked
picks_same A B place [] [] there back (Ends _) = Ends place
picks_same A B place [] (_ ∷ picked) there back none = elim none [ ]
picks_same A B place (x ∷ xs) (_ ∷ picked) there back (Takes _ _ _ _ here rest) =
    Takes place x xs picked (there place (omega arith) here) (picks_same A B (suc place) xs picked (λ n less. there n (omega (arith, less))) (λ n less. back n (omega (arith, less))) rest)
picks_same A B place (x ∷ xs) picked there back (Leaves _ _ _ _ out rest) =
    Leaves place x xs picked (λ is. out (back place (omega arith) is)) (picks_same A B (suc place) xs picked (λ n less. there n (omega (arith, less))) (λ n less. back n (omega (arith, less))) rest)

-- WHAT BELONGS IS MET

pub belongs_is_met : (supports : List ℕ) (first gathered place : ℕ) → IsClosed supports first gathered (length supports) → Belongs supports first place → (support : ℕ) → slice_get supports place ≡ Some support → is_met place support first gathered ≡ true
belongs_is_met supports first gathered place closed (Last _ last) support at = met_last place support first gathered last
belongs_is_met supports first gathered place closed (Shares other _ it its belongs at_other at_place shares) support at =
    let met : is_met other its first gathered ≡ true = belongs_is_met supports first gathered other closed belongs its at_other in
    let within : bit_or gathered its ≡ gathered = closed other its (slice_get_within supports other its at_other) at_other met in
    let same : it ≡ support = (let e = sym at_place ∙ at in cc) in
    met_shares place support first gathered (shares_with_all support gathered its within (subst (λ s. bit_and s its ≢ 0) same shares))

-- PICKING

behind : {X : Type 0} (x : X) (xs : List X) (y : X) → Contains xs y → Contains (x ∷ xs) y
behind x xs y there = (suc there.0, omega (arith, there.1), there.2)

pub none_picked : (supports : List ℕ) (first gathered : ℕ) (all : List Literal) → ArePicked supports first gathered all 0 (record { literals = []; params = 0 })
none_picked supports first gathered all = record { literals = Ends 0; params = λ support are. refl }

module _ (supports : List ℕ) (first gathered : ℕ) (all : List Literal) (n : ℕ) (literal : Literal) (slice : Slice) (at : slice_get all n ≡ Some literal) (so_far : ArePicked supports first gathered all n slice) where
  IsIn : ℕ → Type 0
  IsIn place = is_met place (get_or supports place 0) first gathered ≡ true

  here : 0 + length (take n all) ≡ n
  here = omega (arith, length_take all n (omega (arith, slice_get_within all n literal at)))

  more : take n all ++ literal ∷ [] ≡ take (n + 1) all
  more = sym (take_more all n literal at) ∙ ap (λ k. take k all) (let e : suc n ≡ n + 1 = omega arith in e)

  pub one_picked : is_met n (get_or supports n 0) first gathered ≡ true → ArePicked supports first gathered all (n + 1) (record { literals = slice.literals ++ literal ∷ []; params = bit_or slice.params (get_or supports n 0) })
  one_picked met = record {
    literals = subst (λ xs. Picks (λ place. is_met place (get_or supports place 0) first gathered ≡ true) 0 xs (slice.literals ++ literal ∷ [])) more
        (takes_last (λ place. is_met place (get_or supports place 0) first gathered ≡ true) literal 0 (take n all) slice.literals so_far.literals
        (subst (λ place. is_met place (get_or supports place 0) first gathered ≡ true) (sym here) met));
    params = λ support are.
        let its : get_or supports n 0 ≡ support literal = ap (λ ss. get_or ss n 0) are ∙ get_mapped support all n literal at in
        (λ j. bit_or (so_far.params support are j) (its j)) ∙ sym (params_more support slice.literals literal 0);
  }

  pub one_left : is_met n (get_or supports n 0) first gathered ≡ false → ArePicked supports first gathered all (n + 1) slice
  one_left unmet = record {
    literals = subst (λ xs. Picks (λ place. is_met place (get_or supports place 0) first gathered ≡ true) 0 xs slice.literals) more
        (leaves_last (λ place. is_met place (get_or supports place 0) first gathered ≡ true) literal 0 (take n all) slice.literals so_far.literals
        (λ is. let e : is_met n (get_or supports n 0) first gathered ≡ true = subst (λ place. is_met place (get_or supports place 0) first gathered ≡ true) here is in absurd (let f = unmet in cc)));
    params = so_far.params;
  }

-- THE SLICE

pub is_slice : (nodes : List Node) (all : List Literal) (first gathered : ℕ) (its : List ℕ) (slice : Slice) → its ≡ supports nodes all → IsSound its first gathered → IsClosed its first gathered (length its) → ArePicked its first gathered all (length all) slice → IsSlice nodes all first slice
is_slice nodes all first gathered its slice are sound closed picked = record {
  literals = subst (λ ss. Picks (Belongs ss first) 0 all slice.literals) are
      (picks_same (λ place. is_met place (get_or its place 0) first gathered ≡ true) (Belongs its first) 0 all slice.literals there back
      (subst (λ xs. Picks (λ place. is_met place (get_or its place 0) first gathered ≡ true) 0 xs slice.literals) (take_all all) picked.literals));
  params = picked.params (λ literal. support_of (relation_of nodes literal)) are;
}
  where
    many : length its ≡ length all
    many = ap length are ∙ length-map all (λ literal. support_of (relation_of nodes literal))

    there : (n : ℕ) → n < 0 + length all → is_met n (get_or its n 0) first gathered ≡ true → Belongs its first n
    there n less met = sound n (get_or its n 0) (slice_get-get_or its n 0 (omega (arith, less, many))) met

    back : (n : ℕ) → n < 0 + length all → Belongs its first n → is_met n (get_or its n 0) first gathered ≡ true
    back n less belongs = belongs_is_met its first gathered n closed belongs (get_or its n 0) (slice_get-get_or its n 0 (omega (arith, less, many)))

-- what holds of all holds of those that are picked
pub all_picked : {X : Type 0} (Q : X → Type 0) (IsIn : ℕ → Type 0) (place : ℕ) (xs picked : List X) → AllByRecursion Q xs → Picks IsIn place xs picked → AllByRecursion Q picked
all_picked Q IsIn place [] [] all (Ends _) = tt
all_picked Q IsIn place [] (_ ∷ picked) all none = elim none [ ]
all_picked Q IsIn place (x ∷ xs) (_ ∷ picked) all (Takes _ _ _ _ here rest) = (all.0, all_picked Q IsIn (suc place) xs picked all.1 rest)
all_picked Q IsIn place (x ∷ xs) picked all (Leaves _ _ _ _ out rest) = all_picked Q IsIn (suc place) xs picked all.1 rest

-- what is picked is among these
pub picked_among : {X : Type 0} (IsIn : ℕ → Type 0) (place : ℕ) (xs picked : List X) → Picks IsIn place xs picked → All (Contains xs) picked
picked_among IsIn place [] [] (Ends _) k d less = absurd (omega (arith, less))
picked_among IsIn place [] (_ ∷ picked) none k d less = elim none [ ]
picked_among IsIn place (x ∷ xs) (_ ∷ picked) (Takes _ _ _ _ here rest) zero d less = (0, omega arith, refl)
picked_among IsIn place (x ∷ xs) (_ ∷ picked) (Takes _ _ _ _ here rest) (suc k) d less = behind x xs _ (picked_among IsIn (suc place) xs picked rest k d (omega (arith, less)))
picked_among IsIn place (x ∷ xs) picked (Leaves _ _ _ _ out rest) k d less = behind x xs _ (picked_among IsIn (suc place) xs picked rest k d less)
