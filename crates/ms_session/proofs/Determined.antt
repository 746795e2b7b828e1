-- Two lists of the paths to a depth are one.
use Rattle.std.proofs.Common.{◌≡◌, ℕ, zero, suc, List, [], ◌∷◌, Option, Some, inl, inr, Less, refl, sym, ap, ◌∙◌, subst, arith}
use Rattle.std.specs.Ordering.{ordering_reverse}
use Rattle.ms_trie.specs.Choices.{choice_order}
use Rattle.std.specs.List.{AllByRecursion, AllPairs, Contains}
use Rattle.std.proofs.lemmas.List.Elements.{All-contains, recursion_from_All}
use Rattle.std.proofs.lemmas.Cmp.{nat_list_cmp_total}
use Rattle.ms_words.specs.declared.end.PathEnd.{PathEnd}
use Rattle.ms_trie.specs.declared.row.Outcome.TheVariants.{Path}
use Rattle.ms_trie.specs.declared.row.PathRow.{PathRow}
use Rattle.ms_machine.specs.Control.{Program}
use Rattle.ms_machine.specs.Runs.{IsLeast, end_of}
use Rattle.ms_jvm.specs.Ends.{path_end_of}
use Rattle.ms_machine.specs.Laws.{LeastIsUnique}
use Rattle.ms_session.specs.Laws.{PathListIsUnique, IsPathRow, ListsPaths, Precedes, strings_of}
use Rattle.ms_session.proofs.Members.{Contains-from_in, IsIn, IsOrdered, from_map}

same_members : {X : Type 0} (R : X → X → Type 0) → ((x y : X) → R x y → R y x → ⊥) → (xs ys : List X) → IsOrdered R xs → IsOrdered R ys → ((x : X) → IsIn x xs → IsIn x ys) → ((y : X) → IsIn y ys → IsIn y xs) → xs ≡ ys
same_members R never [] [] o o' to from = refl
same_members R never [] (y ∷ ys) o o' to from = absurd (from y (inl refl))
same_members R never (x ∷ xs) [] o o' to from = absurd (to x (inl refl))
same_members {X = X} R never (x ∷ xs) (y ∷ ys) o o' to from =
    let first : x ≡ y = heads (to x (inl refl)) (from y (inl refl)) in
    let others : xs ≡ ys = same_members R never xs ys o.1 o'.1
    (λ z is. tail z y ys (λ e. never x x (subst (R x) (sym e ∙ sym first) (at x xs o.0 z is)) (subst (R x) (sym e ∙ sym first) (at x xs o.0 z is))) (to z (inr is)))
    (λ z is. tail z x xs (λ e. never y y (subst (R y) (sym e ∙ first) (at y ys o'.0 z is)) (subst (R y) (sym e ∙ first) (at y ys o'.0 z is))) (from z (inr is))) in
    λ i. first i ∷ others i
  where
    at : (w : X) (l : List X) → AllByRecursion (R w) l → (z : X) → IsIn z l → R w z
    at w [] all z is = absurd is
    at w (v ∷ l) all z (inl here) = subst (R w) here all.0
    at w (v ∷ l) all z (inr later) = at w l all.1 z later

    tail : (z v : X) (l : List X) → (v ≡ z → ⊥) → IsIn z (v ∷ l) → IsIn z l
    tail z v l not_first (inl here) = absurd (not_first here)
    tail z v l not_first (inr later) = later

    heads : IsIn x (y ∷ ys) → IsIn y (x ∷ xs) → x ≡ y
    heads (inl here) other = sym here
    heads (inr later) (inl here) = here
    heads (inr later) (inr later') = absurd (never x y (at x xs o.0 y later') (at y ys o'.0 x later))

ordered_from_pairs : {X : Type 0} (R : X → X → Type 0) (xs : List X) → AllPairs R xs → IsOrdered R xs
ordered_from_pairs R [] pairs = tt
ordered_from_pairs R (x ∷ xs) pairs = (
  recursion_from_All (R x) xs (λ k d less. pairs 0 (suc k) d (omega arith) (omega arith)),
  ordered_from_pairs R xs (λ i j d less within. pairs (suc i) (suc j) d (omega arith) (omega arith)),
)

ordered_rows : (rows : List PathRow) → IsOrdered Precedes (strings_of rows) → IsOrdered (λ a b. Precedes a.choices b.choices) rows
ordered_rows [] o = tt
ordered_rows (row ∷ rows) o = (each rows o.0, ordered_rows rows o.1)
  where
    each : (l : List PathRow) → AllByRecursion (Precedes row.choices) (strings_of l) → AllByRecursion (λ (b : PathRow). Precedes row.choices b.choices) l
    each [] all = tt
    each (r ∷ l) all = (all.0, each l all.1)

in_from_Contains : {X : Type 0} (x : X) (xs : List X) → Contains xs x → IsIn x xs
in_from_Contains x [] has = absurd (omega (arith, has.1))
in_from_Contains x (y ∷ xs) (zero, less, is) = inl is
in_from_Contains x (y ∷ xs) (suc k, less, is) = inr (in_from_Contains x xs (k, omega arith, is))

one_way : (p q : List ℕ) → Precedes p q → Precedes q p → ⊥
one_way p q less more = let back : choice_order p q ≡ ordering_reverse (choice_order q p) = nat_list_cmp_total.antisymm p q in let bad : Less ≡ ordering_reverse Less = sym less ∙ back ∙ ap ordering_reverse more in cc

row_determined : (P : Program) (depth : ℕ) → LeastIsUnique P → (a b : PathRow) → IsPathRow P depth a → IsPathRow P depth b → a.choices ≡ b.choices → a ≡ b
row_determined P depth unique a b is is' same =
    let least_a : IsLeast P b.choices is.input = subst (λ q. IsLeast P q is.input) same is.least in
    let input : is.input ≡ is'.input = unique b.choices is.input is'.input least_a is'.least in
    let end : is.end ≡ is'.end = some_inj (sym is.ends ∙ ap (λ x. path_end_of (end_of P x depth)) input ∙ is'.ends) in
    let outcome : a.outcome ≡ b.outcome = is.outcome ∙ (λ i. Path (input i) (end i)) ∙ sym is'.outcome in
    λ i. record { choices = same i; outcome = outcome i }
  where
    some_inj : {e f : PathEnd} → ◌≡◌ {A = Option PathEnd} (Some e) (Some f) → e ≡ f
    some_inj h = cc

members : (P : Program) (depth : ℕ) → LeastIsUnique P → (rows rows' : List PathRow) → ListsPaths P depth rows → ListsPaths P depth rows' → (row : PathRow) → IsIn row rows → IsIn row rows'
members P depth unique rows rows' is is' row here =
    let path : IsPathRow P depth row = All-contains (IsPathRow P depth) rows row is.sound (Contains-from_in row rows here) in
    let listed : IsIn row.choices (strings_of rows') = subst (λ q. IsIn q (strings_of rows')) path.choices (in_from_Contains _ (strings_of rows') (is'.complete path.input path.least.input)) in
    let origin = from_map (λ (r : PathRow). r.choices) row.choices rows' listed in
    let path' : IsPathRow P depth origin.x = All-contains (IsPathRow P depth) rows' origin.x is'.sound (Contains-from_in origin.x rows' origin.is) in
    subst (λ r. IsIn r rows') (row_determined P depth unique origin.x row path' path origin.makes) origin.is

pub list_unique : (P : Program) (depth : ℕ) → LeastIsUnique P → PathListIsUnique P depth
list_unique P depth unique rows others is is' =
    same_members (λ a b. Precedes a.choices b.choices) (λ a b. one_way a.choices b.choices) rows others
    (ordered_rows rows (ordered_from_pairs Precedes (strings_of rows) is.ordered)) (ordered_rows others (ordered_from_pairs Precedes (strings_of others) is'.ordered))
    (members P depth unique rows others is is') (members P depth unique others rows is' is)
