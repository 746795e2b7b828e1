-- What a slice says of the inputs that make it true.
use Rattle.std.proofs.Common.{◌≡◌, ◌⊎◌, ◌↔◌, inl, inr, ◌<◌, ◌+◌, ◌==◌, nat_le, ℕ, zero, suc, Bool, true, false, IsTrue, List, [], ◌∷◌, ◌++◌, length, map, take, slice_get, Some, refl, sym, ap, subst, ◌∙◌, arith}
use Rattle.std.specs.Int.{bit_at}
use Rattle.std.specs.List.{AllByRecursion}
use Rattle.std.proofs.lemmas.Bool.{eqb-true, leb-false, leb-true}
use Rattle.std.proofs.lemmas.Nat.Bits.{bit_at-zero}
use Rattle.std.proofs.lemmas.Option.{slice_get_within}
use Rattle.ms_words.specs.Inputs.{Words, are_of, comes_before}
use Rattle.ms_words.specs.declared.kind.Kind.{Kind}
use Rattle.ms_terms.specs.declared.term.Term.{Term as Node}
use Rattle.ms_terms.specs.Terms.{Term}
use Rattle.ms_machine.specs.Ints.{shadows}
use Rattle.ms_machine.specs.Control.{Done, Program, Views}
use Rattle.ms_machine.specs.Segments.{segment_from}
use Rattle.ms_machine.specs.Runs.{IsInputOf, IsLeast, IsMet, Takes, done_after, next_literals, way}
use Rattle.ms_machine.specs.Tests.{Literal as Relation}
use Rattle.ms_machine.specs.Laws.{HasArm, IsWhole, KeysDiffer, LawOfTheString, TakesWhereMet, condition, shadow_after, shadow_started}
use Rattle.ms_pathcond.specs.declared.literal.Literal.{Literal}
use Rattle.ms_pathcond.specs.Literals.{relation_of, support_of, supports}
use Rattle.ms_pathcond.specs.Slices.{Belongs, Ends, IsSlice, Last, Leaves, Picks, Shares, Slice, Takes as Picked, params_of}
use Rattle.ms_pathcond.specs.Mixing.{IsLeastMet, LawOfSlices, LeastOfSlices, TakersMeetSlices, has, mixed, relations}
use Rattle.ms_pathcond.proofs.Bits.{has_both, has_one, has_some, met_same}
use Rattle.ms_pathcond.proofs.Mixed.{as_many, before_mixed, mixed_are_of, mixed_first, mixed_second}

-- PICKED AND LEFT

map_picks : {X Y : Type 0} (f : X → Y) (IsIn : ℕ → Type 0) (place : ℕ) (xs picked : List X) → Picks IsIn place xs picked → Picks IsIn place (map f xs) (map f picked)
map_picks f IsIn place [] [] (Ends _) = Ends place
map_picks f IsIn place [] (_ ∷ picked) none = elim none [ ]
map_picks f IsIn place (x ∷ xs) (_ ∷ picked) (Picked _ _ _ _ here rest) = Picked place (f x) (map f xs) (map f picked) here (map_picks f IsIn (suc place) xs picked rest)
map_picks f IsIn place (x ∷ xs) picked (Leaves _ _ _ _ out rest) = Leaves place (f x) (map f xs) (map f picked) out (map_picks f IsIn (suc place) xs picked rest)

-- each place is picked or left
decided : {X : Type 0} (IsIn : ℕ → Type 0) (place : ℕ) (xs picked : List X) → Picks IsIn place xs picked → (n : ℕ) → n < length xs → IsIn (place + n) ⊎ (IsIn (place + n) → ⊥)
decided IsIn place [] picked picks n less = absurd (omega (arith, less))
decided IsIn place (x ∷ xs) (_ ∷ picked) (Picked _ _ _ _ here rest) zero less = inl (subst IsIn (let e : place ≡ place + 0 = omega arith in e) here)
decided IsIn place (x ∷ xs) picked (Leaves _ _ _ _ out rest) zero less = inr (λ is. out (subst IsIn (let e : place + 0 ≡ place = omega arith in e) is))
decided IsIn place (x ∷ xs) (_ ∷ picked) (Picked _ _ _ _ here rest) (suc n) less =
    let same : suc place + n ≡ place + suc n = omega arith in
    subst (λ k. IsIn k ⊎ (IsIn k → ⊥)) same (decided IsIn (suc place) xs picked rest n (omega (arith, less)))
decided IsIn place (x ∷ xs) picked (Leaves _ _ _ _ out rest) (suc n) less =
    let same : suc place + n ≡ place + suc n = omega arith in
    subst (λ k. IsIn k ⊎ (IsIn k → ⊥)) same (decided IsIn (suc place) xs picked rest n (omega (arith, less)))

-- what is picked stands among all, at a place of the set
record From {X : Type 0} (IsIn : ℕ → Type 0) (place : ℕ) (xs : List X) (x : X) : Type 0 where
  n : ℕ
  at : slice_get xs n ≡ Some x
  is_in : IsIn (place + n)

picked_from : {X : Type 0} (IsIn : ℕ → Type 0) (place : ℕ) (xs picked : List X) → Picks IsIn place xs picked → (k : ℕ) (x : X) → slice_get picked k ≡ Some x → From IsIn place xs x
picked_from IsIn place xs [] picks k x at = absurd (let e = at in cc)
picked_from IsIn place [] (_ ∷ picked) none k x at = elim none [ ]
picked_from IsIn place (y ∷ xs) (_ ∷ picked) (Picked _ _ _ _ here rest) zero x at = record { n = 0; at = at; is_in = subst IsIn (let e : place ≡ place + 0 = omega arith in e) here }
picked_from IsIn place (y ∷ xs) (_ ∷ picked) (Picked _ _ _ _ here rest) (suc k) x at =
    let f = picked_from IsIn (suc place) xs picked rest k x at in
    record { n = suc f.n; at = f.at; is_in = subst IsIn (let e : suc place + f.n ≡ place + suc f.n = omega arith in e) f.is_in }
picked_from IsIn place (y ∷ xs) (p ∷ picked) (Leaves _ _ _ _ out rest) k x at =
    let f = picked_from IsIn (suc place) xs (p ∷ picked) rest k x at in
    record { n = suc f.n; at = f.at; is_in = subst IsIn (let e : suc place + f.n ≡ place + suc f.n = omega arith in e) f.is_in }

-- what is at a place of the set is picked
record Among {X : Type 0} (picked : List X) (x : X) : Type 0 where
  k : ℕ
  at : slice_get picked k ≡ Some x

is_picked : {X : Type 0} (IsIn : ℕ → Type 0) (place : ℕ) (xs picked : List X) → Picks IsIn place xs picked → (n : ℕ) (x : X) → slice_get xs n ≡ Some x → IsIn (place + n) → Among picked x
is_picked IsIn place [] picked picks n x at is_in = absurd (let e = at in cc)
is_picked IsIn place (y ∷ xs) (_ ∷ picked) (Picked _ _ _ _ here rest) zero x at is_in = record { k = 0; at = at }
is_picked IsIn place (y ∷ xs) picked (Leaves _ _ _ _ out rest) zero x at is_in = absurd (out (subst IsIn (let e : place + 0 ≡ place = omega arith in e) is_in))
is_picked IsIn place (y ∷ xs) (_ ∷ picked) (Picked _ _ _ _ here rest) (suc n) x at is_in =
    let a = is_picked IsIn (suc place) xs picked rest n x at (subst IsIn (let e : place + suc n ≡ suc place + n = omega arith in e) is_in) in
    record { k = suc a.k; at = a.at }
is_picked IsIn place (y ∷ xs) picked (Leaves _ _ _ _ out rest) (suc n) x at is_in =
    is_picked IsIn (suc place) xs picked rest n x at (subst IsIn (let e : place + suc n ≡ suc place + n = omega arith in e) is_in)

-- ALL OF A LIST

all_at : {X : Type 0} (Q : X → Type 0) (xs : List X) → AllByRecursion Q xs → (n : ℕ) (x : X) → slice_get xs n ≡ Some x → Q x
all_at Q [] all n x at = absurd (let e = at in cc)
all_at Q (y ∷ xs) all zero x at = subst Q (let e = at in cc) all.0
all_at Q (y ∷ xs) all (suc n) x at = all_at Q xs all.1 n x at

all_from : {X : Type 0} (Q : X → Type 0) (xs : List X) → ((n : ℕ) (x : X) → slice_get xs n ≡ Some x → Q x) → AllByRecursion Q xs
all_from Q [] each = tt
all_from Q (x ∷ xs) each = (each 0 x refl, all_from Q xs (λ n y at. each (suc n) y at))

taken_at : {X : Type 0} (xs : List X) (first n : ℕ) (x : X) → slice_get xs n ≡ Some x → n < first → slice_get (take first xs) n ≡ Some x
taken_at [] first n x at less = absurd (let e = at in cc)
taken_at (y ∷ xs) zero n x at less = absurd (omega (arith, less))
taken_at (y ∷ xs) (suc first) zero x at less = at
taken_at (y ∷ xs) (suc first) (suc n) x at less = taken_at xs first n x at (omega (arith, less))

at_taken : {X : Type 0} (xs : List X) (first n : ℕ) (x : X) → slice_get (take first xs) n ≡ Some x → slice_get xs n ≡ Some x
at_taken xs zero n x at = absurd (let e = at in cc)
at_taken [] (suc first) n x at = absurd (let e = at in cc)
at_taken (y ∷ xs) (suc first) zero x at = at
at_taken (y ∷ xs) (suc first) (suc n) x at = at_taken xs first n x at

map_at : {X Y : Type 0} (f : X → Y) (xs : List X) (n : ℕ) (x : X) → slice_get xs n ≡ Some x → slice_get (map f xs) n ≡ Some (f x)
map_at f [] n x at = absurd (let e = at in cc)
map_at f (y ∷ xs) zero x at = let e = at in cc
map_at f (y ∷ xs) (suc n) x at = map_at f xs n x at

record Mapped {X Y : Type 0} (f : X → Y) (xs : List X) (n : ℕ) (y : Y) : Type 0 where
  x : X
  at : slice_get xs n ≡ Some x
  is : y ≡ f x

at_mapped : {X Y : Type 0} (f : X → Y) (xs : List X) (n : ℕ) (y : Y) → slice_get (map f xs) n ≡ Some y → Mapped f xs n y
at_mapped f [] n y at = absurd (let e = at in cc)
at_mapped f (x ∷ xs) zero y at = record { x = x; at = refl; is = let e = at in cc }
at_mapped f (x ∷ xs) (suc n) y at = let m = at_mapped f xs n y at in record { x = m.x; at = m.at; is = m.is }

-- A SLICE OF RELATIONS

module _ (all slice : List (Relation Term)) (first : ℕ) (is_slice : Picks (Belongs (map support_of all) first) 0 all slice) where
  abbrev its : List ℕ
  its = map support_of all

  abbrev params : ℕ
  params = params_of (map support_of slice)

  -- the parameters of a relation that belongs are those of the slice
  within : (n : ℕ) (relation : Relation Term) → slice_get all n ≡ Some relation → Belongs its first n → (i : ℕ) → has (support_of relation) i ≡ true → has params i ≡ true
  within n relation at belongs i set =
      let a = is_picked (Belongs its first) 0 all slice is_slice n relation at (subst (Belongs its first) (let e : n ≡ 0 + n = omega arith in e) belongs) in
      has_one 0 (map support_of slice) a.k (support_of relation) i (map_at support_of slice a.k relation a.at) set

  -- and one that doesn't belong has none of them
  apart : (n : ℕ) (relation : Relation Term) → slice_get all n ≡ Some relation → (Belongs its first n → ⊥) → (i : ℕ) → has (support_of relation) i ≡ true → has params i ≡ false
  apart n relation at out i set = by_test (has params i) refl
    where
      shared : has params i ≡ true → ⊥
      shared in_slice = elim (has_some 0 (map support_of slice) i in_slice) [
        | inl none ↦ absurd (let e : (bit_at 0 i == 1) ≡ true = none in omega (arith, eqb-true (bit_at 0 i) 1 e, bit_at-zero i))
        | inr some ↦
            let m = at_mapped support_of slice some.n some.s some.at in
            let f = picked_from (Belongs its first) 0 all slice is_slice some.n m.x m.at in
            let other : Belongs its first f.n = subst (Belongs its first) (let e : 0 + f.n ≡ f.n = omega arith in e) f.is_in in
            out (Shares f.n n (support_of relation) (support_of m.x) other (map_at support_of all f.n m.x f.at) (map_at support_of all n relation at)
            (has_both (support_of relation) (support_of m.x) i set (subst (λ s. has s i ≡ true) m.is some.set)))
      ]

      by_test : (b : Bool) → has params i ≡ b → has params i ≡ false
      by_test true is = absurd (shared is)
      by_test false is = is

  -- the first input decides for what belongs, and the second for the others
  module _ (x y : Words) (many : length x.words ≡ length y.words) where
    decides : (n : ℕ) (relation : Relation Term) → slice_get all n ≡ Some relation → (Belongs its first n → IsMet x relation) → ((Belongs its first n → ⊥) → IsMet y relation) → IsMet (mixed params x y) relation
    decides n relation at met_x met_y = elim (decided (Belongs its first) 0 all slice is_slice n (slice_get_within all n relation at)) [
      | inl belongs_at ↦
          let belongs : Belongs its first n = subst (Belongs its first) (let e : 0 + n ≡ n = omega arith in e) belongs_at in
          met_same x (mixed params x y) relation (λ i set. sym (mixed_first (has params) 0 x.words y.words i many (subst (λ k. has params k ≡ true) (let e : i ≡ 0 + i = omega arith in e) (within n relation at belongs i set)))) (met_x belongs)
      | inr out_at ↦
          let out : Belongs its first n → ⊥ = (λ is. out_at (subst (Belongs its first) (let e : n ≡ 0 + n = omega arith in e) is)) in
          met_same y (mixed params x y) relation (λ i set. sym (mixed_second (has params) 0 x.words y.words i many (subst (λ k. has params k ≡ false) (let e : i ≡ 0 + i = omega arith in e) (apart n relation at out i set)))) (met_y out)
    ]

    -- where the first makes the slice true, and the second what stands before the last ones
    all_met : AllByRecursion (IsMet x) slice → AllByRecursion (IsMet y) (take first all) → AllByRecursion (IsMet (mixed params x y)) all
    all_met met_x met_y = all_from (IsMet (mixed params x y)) all (λ n relation at.
        decides n relation at
        (λ belongs. let a = is_picked (Belongs its first) 0 all slice is_slice n relation at (subst (Belongs its first) (let e : n ≡ 0 + n = omega arith in e) belongs) in all_at (IsMet x) slice met_x a.k relation a.at)
        (λ out. all_at (IsMet y) (take first all) met_y n relation (taken_at all first n relation at (before n out))))
      where
        before : (n : ℕ) → (Belongs its first n → ⊥) → n < first
        before n out = by_test (nat_le first n) refl
          where
            by_test : (b : Bool) → nat_le first n ≡ b → n < first
            by_test true is = absurd (out (Last n (leb-true first n is)))
            by_test false is = leb-false first n is

    -- where both make true what stands before the last ones, so does what is put together
    front_met : AllByRecursion (IsMet x) (take first all) → AllByRecursion (IsMet y) (take first all) → AllByRecursion (IsMet (mixed params x y)) (take first all)
    front_met met_x met_y = all_from (IsMet (mixed params x y)) (take first all) (λ n relation at.
        decides n relation (at_taken all first n relation at)
        (λ belongs. all_at (IsMet x) (take first all) met_x n relation at)
        (λ out. all_at (IsMet y) (take first all) met_y n relation at))

    -- where the first makes the slice true, so does what is put together
    slice_met : AllByRecursion (IsMet x) slice → AllByRecursion (IsMet (mixed params x y)) slice
    slice_met met_x = all_from (IsMet (mixed params x y)) slice (λ k relation at.
        let f = picked_from (Belongs its first) 0 all slice is_slice k relation at in
        let belongs : Belongs its first f.n = subst (Belongs its first) (let e : 0 + f.n ≡ f.n = omega arith in e) f.is_in in
        decides f.n relation f.at (λ is. all_at (IsMet x) slice met_x k relation at) (λ out. absurd (out belongs)))

  -- what makes all true makes the slice true
  slice_of_met : (x : Words) → AllByRecursion (IsMet x) all → AllByRecursion (IsMet x) slice
  slice_of_met x met = all_from (IsMet x) slice (λ k relation at. let f = picked_from (Belongs its first) 0 all slice is_slice k relation at in all_at (IsMet x) all met f.n relation f.at)

-- A SLICE OF LITERALS

map_twice : {X Y Z : Type 0} (f : X → Y) (g : Y → Z) (xs : List X) → map g (map f xs) ≡ map (λ x. g (f x)) xs
map_twice f g [] = refl
map_twice f g (x ∷ xs) = ap (λ ys. g (f x) ∷ ys) (map_twice f g xs)

module _ (nodes : List Node) (all : List Literal) (first : ℕ) (slice : Slice) (is : IsSlice nodes all first slice) where
  support_is : Literal → ℕ
  support_is literal = support_of (relation_of nodes literal)

  abbrev relation_supports : (ls : List Literal) → map support_of (relations nodes ls) ≡ supports nodes ls
  relation_supports ls = map_twice (relation_of nodes) support_of ls

  pub of_relations : Picks (Belongs (map support_of (relations nodes all)) first) 0 (relations nodes all) (relations nodes slice.literals)
  of_relations = subst (λ ss. Picks (Belongs ss first) 0 (relations nodes all) (relations nodes slice.literals)) (sym (relation_supports all))
      (map_picks (relation_of nodes) (Belongs (supports nodes all) first) 0 all slice.literals is.literals)

  pub params_are : params_of (map support_of (relations nodes slice.literals)) ≡ slice.params
  params_are = ap params_of (relation_supports slice.literals) ∙ sym is.params

take_map : {X Y : Type 0} (f : X → Y) (n : ℕ) (xs : List X) → map f (take n xs) ≡ take n (map f xs)
take_map f zero xs = refl
take_map f (suc n) [] = refl
take_map f (suc n) (x ∷ xs) = ap (λ ys. f x ∷ ys) (take_map f n xs)

pub law_of_slices : LawOfSlices
law_of_slices nodes all first slice is x y whole_x whole_y kinds met_x met_y =
    let many : length x.words ≡ length y.words = whole_x ∙ ap length kinds ∙ sym whole_y in
    subst (λ params. AllByRecursion (IsMet (mixed params x y)) (relations nodes all)) (params_are nodes all first slice is)
    (all_met (relations nodes all) (relations nodes slice.literals) first (of_relations nodes all first slice is) x y many met_x
    (subst (AllByRecursion (IsMet y)) (take_map (relation_of nodes) first all) met_y))

-- STRINGS

-- the way of a string with an arm begins with that of the string
way_then : (P : Views) (done : Done Term) (p : List ℕ) (arm : ℕ) → take (length (way shadows P done p)) (way shadows P done (p ++ arm ∷ [])) ≡ way shadows P done p
way_then P done [] arm = refl
way_then P done (k ∷ p) arm =
    let after = (segment_from shadows P done).after in
    front (next_literals shadows after k) (way shadows P (done_after after k) p) (way shadows P (done_after after k) (p ++ arm ∷ [])) (way_then P (done_after after k) p arm)
  where
    front : (xs ys zs : List (Relation Term)) → take (length ys) zs ≡ ys → take (length (xs ++ ys)) (xs ++ zs) ≡ xs ++ ys
    front [] ys zs is = is
    front (x ∷ xs) ys zs is = ap (λ rest. x ∷ rest) (front xs ys zs is)

-- an input of a program has a word for each of its kinds
whole_of : (kinds : List Kind) (x : Words) → x.kinds ≡ kinds → IsTrue (are_of kinds x.words) → IsWhole x
whole_of kinds x are words = as_many kinds x.words words ∙ ap length (sym are)

all_front : {X : Type 0} (Q : X → Type 0) (xs : List X) (n : ℕ) → AllByRecursion Q xs → AllByRecursion Q (take n xs)
all_front Q xs zero all = tt
all_front Q [] (suc n) all = tt
all_front Q (x ∷ xs) (suc n) all = (all.0, all_front Q xs n all.1)

module _ (P : Program) (law : LawOfTheString P) (where_met : TakesWhereMet P) (differ : KeysDiffer P) (p : List ℕ) (arm : ℕ) (there : HasArm (shadow_after P P.entry.kinds p).after arm)
    (all slice : List (Relation Term)) (are : all ≡ condition P P.entry.kinds (p ++ arm ∷ []))
    (is : Picks (Belongs (map support_of all) (length (condition P P.entry.kinds p))) 0 all slice)
    (x y : Words) (least_x : IsLeastMet P.entry.kinds slice x) (least_y : IsLeast P p y) where
  abbrev kinds : List Kind
  kinds = P.entry.kinds

  abbrev first : ℕ
  first = length (condition P P.entry.kinds p)

  abbrev chosen : ℕ
  chosen = params_of (map support_of slice)

  abbrev z : Words
  z = mixed chosen x y

  -- what an input of the entry is
  record Good (w : Words) : Type 0 where
    kinds_are : w.kinds ≡ kinds
    words : IsTrue (are_of kinds w.words)
    whole : IsWhole w

  good : (w : Words) → w.kinds ≡ kinds → IsTrue (are_of kinds w.words) → Good w
  good w kinds_are words = record { kinds_are = kinds_are; words = words; whole = whole_of kinds w kinds_are words }

  good_input : (w : Words) → IsInputOf P w → Good w
  good_input w input = good w input.kinds (subst (λ ks. IsTrue (are_of ks w.words)) input.kinds input.words)

  input_of : (w : Words) → Good w → IsInputOf P w
  input_of w g = record { kinds = g.kinds_are; words = subst (λ ks. IsTrue (are_of ks w.words)) (sym g.kinds_are) g.words }

  good_mixed : (v w : Words) → Good v → Good w → Good (mixed chosen v w)
  good_mixed v w gv gw = good (mixed chosen v w) gw.kinds_are (mixed_are_of (has chosen) 0 kinds v.words w.words gv.words gw.words)

  same_many : (v w : Words) → Good v → Good w → length v.words ≡ length w.words
  same_many v w gv gw = as_many kinds v.words gv.words ∙ sym (as_many kinds w.words gw.words)

  good_x : Good x
  good_x = good x least_x.kinds_are least_x.words

  good_y : Good y
  good_y = good_input y least_y.input

  -- what is on the way through p stands in front
  front : take first all ≡ condition P kinds p
  front = ap (take first) are ∙ way_then P.view (shadow_started P kinds) p arm

  -- an input takes p where it makes that true, and p with the arm where it makes all true
  takes_p : (w : Words) → Good w → Takes P w p ↔ AllByRecursion (IsMet w) (take first all)
  takes_p w g =
      let it = where_met differ w y g.whole good_y.whole (g.kinds_are ∙ sym good_y.kinds_are) p least_y.takes in
      let same : condition P w.kinds p ≡ take first all = ap (λ ks. condition P ks p) g.kinds_are ∙ sym front in
      (λ takes. subst (AllByRecursion (IsMet w)) same (it.0 takes), λ met. it.1 (subst (AllByRecursion (IsMet w)) (sym same) met))

  takes_arm : (w : Words) → Good w → Takes P w (p ++ arm ∷ []) ↔ AllByRecursion (IsMet w) all
  takes_arm w g =
      let it = law differ w y g.whole good_y.whole (g.kinds_are ∙ sym good_y.kinds_are) p arm least_y.takes (subst (λ ks. HasArm (shadow_after P ks p).after arm) (sym g.kinds_are) there) in
      let same : condition P w.kinds (p ++ arm ∷ []) ≡ all = ap (λ ks. condition P ks (p ++ arm ∷ [])) g.kinds_are ∙ sym are in
      (λ takes. subst (AllByRecursion (IsMet w)) same (it.0 takes), λ met. it.1 (subst (AllByRecursion (IsMet w)) (sym same) met))

  met_y : AllByRecursion (IsMet y) (take first all)
  met_y = (takes_p y good_y).0 least_y.takes

  takes_z : Takes P z (p ++ arm ∷ [])
  takes_z = (takes_arm z (good_mixed x y good_x good_y)).1 (all_met all slice first is x y (same_many x y good_x good_y) least_x.met met_y)

  none_before : (w : Words) → IsInputOf P w → Takes P w (p ++ arm ∷ []) → IsTrue (comes_before kinds w.words z.words) → ⊥
  none_before w input takes before =
      let g = good_input w input in
      let met : AllByRecursion (IsMet w) all = (takes_arm w g).0 takes in
      elim (before_mixed (has chosen) 0 kinds w.words x.words y.words (as_many kinds w.words g.words) (as_many kinds x.words good_x.words) (as_many kinds y.words good_y.words) before) [
        | inl on_slice ↦
            let gv = good_mixed w x g good_x in
            least_x.first (mixed chosen w x) gv.kinds_are gv.words (slice_met all slice first is w x (same_many w x g good_x) (slice_of_met all slice first is w met)) on_slice
        | inr elsewhere ↦
            let gv = good_mixed y w good_y g in
            least_y.first (mixed chosen y w) (input_of (mixed chosen y w) gv)
            ((takes_p (mixed chosen y w) gv).1 (front_met all slice first is y w (same_many y w good_y g) met_y (all_front (IsMet w) all first met))) elsewhere
      ]

  least : IsLeast P (p ++ arm ∷ []) z
  least = record { input = input_of z (good_mixed x y good_x good_y); takes = takes_z; first = none_before }

pub least_of_slices : (P : Program) → LawOfTheString P → TakesWhereMet P → LeastOfSlices P
least_of_slices P law where_met differ p arm there nodes all slice are is x y least_x least_y =
    let first = length (condition P P.entry.kinds p) in
    subst (λ params. IsLeast P (p ++ arm ∷ []) (mixed params x y)) (params_are nodes all first slice is)
    (least P law where_met differ p arm there (relations nodes all) (relations nodes slice.literals) are (of_relations nodes all first slice is) x y least_x least_y)

pub takers_meet_slices : (P : Program) → LawOfTheString P → TakersMeetSlices P
takers_meet_slices P law differ p arm there nodes all slice are is x y input_x input_y takes_y takes_x =
    let words : (w : Words) → IsInputOf P w → IsWhole w = (λ w input. whole_of w.kinds w refl input.words) in
    let met = (law differ x y (words x input_x) (words y input_y) (input_x.kinds ∙ sym input_y.kinds) p arm takes_y (subst (λ ks. HasArm (shadow_after P ks p).after arm) (sym input_x.kinds) there)).0 takes_x in
    slice_of_met (relations nodes all) (relations nodes slice.literals) (length (condition P P.entry.kinds p)) (of_relations nodes all (length (condition P P.entry.kinds p)) slice is) x
    (subst (AllByRecursion (IsMet x)) (ap (λ ks. condition P ks (p ++ arm ∷ [])) input_x.kinds ∙ sym are) met)
