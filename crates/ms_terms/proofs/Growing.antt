-- The terms of a table that grows.
use Rattle.std.proofs.Common.{◌≡◌, ◌<◌, ◌+◌, ℕ, zero, suc, pos, List, [], ◌∷◌, ◌++◌, length, slice_get, Some, refl, sym, ap, subst, ◌∙◌, arith}
use Rattle.std.specs.Prelude.{unwrap_or}
use Rattle.std.proofs.lemmas.List.{length-append}
use Rattle.ms_terms.specs.declared.term.Term.{Term as Node}
use Rattle.ms_terms.specs.declared.term.Term.TheVariants as node
use Rattle.ms_terms.specs.Terms.{Term, Constant, Unary, Binary}
use Rattle.ms_terms.specs.Nodes.{IsBelow, over, terms_behind, terms_of}

-- LISTS

-- what stands within a list stays where more comes behind it
pub front_stays : {X : Type 0} (xs ys : List X) (i : ℕ) → i < length xs → slice_get (xs ++ ys) i ≡ slice_get xs i
front_stays [] ys i within = absurd (omega (arith, within))
front_stays (x ∷ xs) ys zero within = refl
front_stays (x ∷ xs) ys (suc i) within = front_stays xs ys i (omega (arith, within))

-- the first that comes behind
pub behind : {X : Type 0} (xs ys : List X) (y : X) → slice_get (xs ++ y ∷ ys) (length xs) ≡ Some y
behind [] ys y = refl
behind (x ∷ xs) ys y = behind xs ys y

-- within a list something stands
pub stands : {X : Type 0} (xs : List X) (i : ℕ) → i < length xs → (x : X) × (slice_get xs i ≡ Some x)
stands [] i within = absurd (omega (arith, within))
stands (x ∷ xs) zero within = (x, refl)
stands (x ∷ xs) (suc i) within = stands xs i (omega (arith, within))

-- TERMS

-- a term more for a node more
pub append : (terms : List Term) (nodes : List Node) (last : Node) → terms_behind terms (nodes ++ last ∷ []) ≡ terms_behind terms nodes ++ over (terms_behind terms nodes) last ∷ []
append terms [] last = refl
append terms (first ∷ nodes) last = append (terms ++ over terms first ∷ []) nodes last

-- as many terms as nodes
pub many : (terms : List Term) (nodes : List Node) → length (terms_behind terms nodes) ≡ length terms + length nodes
many terms [] = omega arith
many terms (first ∷ nodes) = omega (arith, many (terms ++ over terms first ∷ []) nodes, length-append terms (over terms first ∷ []))

-- the terms before stay
pub stays : (terms : List Term) (nodes : List Node) (i : ℕ) → i < length terms → slice_get (terms_behind terms nodes) i ≡ slice_get terms i
stays terms [] i within = refl
stays terms (first ∷ nodes) i within =
    stays (terms ++ over terms first ∷ []) nodes i (omega (arith, within, length-append terms (over terms first ∷ [])))
    ∙ front_stays terms (over terms first ∷ []) i within

-- a node is the same term over lists that agree before its place
pub over_same : (ts us : List Term) (place : ℕ) (n : Node) → IsBelow place n → ((i : ℕ) → i < place → slice_get us i ≡ slice_get ts i) → over us n ≡ over ts n
over_same ts us place (node.Constant word) below same = refl
over_same ts us place (node.Param index kind) below same = refl
over_same ts us place (node.Unary op a) below same = ap (λ o. Unary op (unwrap_or o (Constant (pos 0)))) (same a below)
over_same ts us place (node.Binary op a b) below same = λ j. Binary op (unwrap_or (same a below.0 j) (Constant (pos 0))) (unwrap_or (same b below.1 j) (Constant (pos 0)))

-- at the place of a node stands its term
pub placed : (terms : List Term) (nodes : List Node) (i : ℕ) (n : Node) → slice_get nodes i ≡ Some n → IsBelow (length terms + i) n → slice_get (terms_behind terms nodes) (length terms + i) ≡ Some (over (terms_behind terms nodes) n)
placed terms [] i n at below = absurd (let e = at in cc)
placed terms (first ∷ nodes) zero n at below =
    let is : first ≡ n = let e = at in cc in
    let more = terms ++ over terms first ∷ [] in
    let place : length terms + 0 ≡ length terms = omega arith in
    let within : length terms < length more = omega (arith, length-append terms (over terms first ∷ [])) in
    ap (slice_get (terms_behind more nodes)) place ∙ stays more nodes (length terms) within ∙ behind terms [] (over terms first)
    ∙ ap (λ m. Some (over terms m)) is
    ∙ ap Some (sym (over_same terms (terms_behind more nodes) (length terms) n (subst (λ k. IsBelow k n) place below)
    (λ k less. stays more nodes k (omega (arith, less, within)) ∙ front_stays terms (over terms first ∷ []) k less)))
placed terms (first ∷ nodes) (suc i) n at below =
    let more = terms ++ over terms first ∷ [] in
    let place : length terms + suc i ≡ length more + i = omega (arith, length-append terms (over terms first ∷ [])) in
    ap (slice_get (terms_behind more nodes)) place ∙ placed more nodes i n at (subst (λ k. IsBelow k n) place below)

-- in a table
pub at_place : (nodes : List Node) (i : ℕ) (n : Node) → slice_get nodes i ≡ Some n → IsBelow i n → slice_get (terms_of nodes) i ≡ Some (over (terms_of nodes) n)
at_place nodes i n at below =
    let place : length {A = Term} [] + i ≡ i = omega arith in
    subst (λ k. slice_get (terms_of nodes) k ≡ Some (over (terms_of nodes) n)) place (placed [] nodes i n at (subst (λ k. IsBelow k n) (sym place) below))

pub as_many : (nodes : List Node) → length (terms_of nodes) ≡ length nodes
as_many nodes = omega (arith, many [] nodes)
