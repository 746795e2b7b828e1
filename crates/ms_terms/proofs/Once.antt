-- Where each node stands once, each term does.
use Rattle.std.proofs.Common.{◌≡◌, ◌<◌, ℕ, zero, suc, ℤ, pos, Bool, true, false, List, [], ◌∷◌, length, slice_get, Some, refl, sym, ap, subst, ◌∙◌, arith}
use Rattle.std.specs.Prelude.{unwrap_or}
use Rattle.std.specs.List.{AllByRecursion, IsDistinct}
use Rattle.std.proofs.lemmas.Map.Keys.{IsDistinct-head, IsDistinct-tail}
use Rattle.std.proofs.lemmas.Option.{slice_get_within}
use Rattle.ms_words.specs.declared.kind.Kind.{Kind}
use Rattle.ms_words.specs.declared.operator.Un.{Un}
use Rattle.ms_words.specs.declared.operator.Bin.{Bin}
use Rattle.ms_terms.specs.declared.term.Term.{Term as Node}
use Rattle.ms_terms.specs.declared.term.Term.TheVariants as node
use Rattle.ms_terms.specs.Terms.{Term, Constant, Param, Unary, Binary}
use Rattle.ms_terms.specs.Nodes.{EachOnce, IsBelow, IsTable, over, term_at, terms_of}
use Rattle.ms_terms.proofs.Growing.{as_many, at_place, stands}

-- NODES

-- where all are so, the one at a place is
pub all_at : {X : Type 0} (P : X → Type 0) (xs : List X) (i : ℕ) (x : X) → AllByRecursion P xs → slice_get xs i ≡ Some x → P x
all_at P [] i x all at = absurd (let e = at in cc)
all_at P (y ∷ ys) zero x all at = subst P (let e = at in cc) all.0
all_at P (y ∷ ys) (suc i) x all at = all_at P ys i x all.1 at

-- no two places have keys that are equal
places_differ : {K : Type 0} (eq : K → K → Bool) → ((k : K) → eq k k ≡ true) → (ks : List K) → IsDistinct eq ks → (k : K) (i j : ℕ) → slice_get ks i ≡ Some k → slice_get ks j ≡ Some k → i ≡ j
places_differ eq same [] apart k i j at_i at_j = absurd (let e = at_i in cc)
places_differ eq same (first ∷ ks) apart k zero zero at_i at_j = refl
places_differ eq same (first ∷ ks) apart k zero (suc j) at_i at_j =
    let is : first ≡ k = let e = at_i in cc in
    let differs : eq first k ≡ false = all_at (λ y. eq first y ≡ false) ks j k (IsDistinct-head eq first ks apart) at_j in
    absurd (let e : eq k k ≡ false = subst (λ f. eq f k ≡ false) is differs in let t = same k in cc)
places_differ eq same (first ∷ ks) apart k (suc i) zero at_i at_j =
    let is : first ≡ k = let e = at_j in cc in
    let differs : eq first k ≡ false = all_at (λ y. eq first y ≡ false) ks i k (IsDistinct-head eq first ks apart) at_i in
    absurd (let e : eq k k ≡ false = subst (λ f. eq f k ≡ false) is differs in let t = same k in cc)
places_differ eq same (first ∷ ks) apart k (suc i) (suc j) at_i at_j = ap suc (places_differ eq same ks (IsDistinct-tail eq first ks apart) k i j at_i at_j)

-- TERMS

module _ (nodes : List Node) (table : IsTable nodes) where
  -- the node of a term
  pub record Of (i : ℕ) (term : Term) : Type 0 where
    pub n : Node
    pub at : slice_get nodes i ≡ Some n
    pub below : IsBelow i n
    pub is : over (terms_of nodes) n ≡ term

  pub node_at : (i : ℕ) (term : Term) → slice_get (terms_of nodes) i ≡ Some term → Of i term
  node_at i term at =
      let within : i < length nodes = omega (arith, slice_get_within (terms_of nodes) i term at, as_many nodes) in
      let s = stands nodes i within in
      let p = at_place nodes i s.0 s.1 (table.earlier i s.0 s.1) in
      record { n = s.0; at = s.1; below = table.earlier i s.0 s.1; is = let e = p in let f = at in cc }

  -- an operand stands at its place
  operand : (a i : ℕ) → a < i → (term : Term) → slice_get (terms_of nodes) i ≡ Some term → (t : Term) → term_at (terms_of nodes) a ≡ t → slice_get (terms_of nodes) a ≡ Some t
  operand a i less term at t is =
      let within : a < length (terms_of nodes) = omega (arith, slice_get_within (terms_of nodes) i term at) in
      let s = stands (terms_of nodes) a within in
      s.1 ∙ ap Some (sym (ap (λ o. unwrap_or o (Constant (pos 0))) s.1) ∙ is)

  -- the node of each term
  constant_of : (n : Node) (word : ℤ) → over (terms_of nodes) n ≡ Constant word → n ≡ node.Constant word
  constant_of (node.Constant v) word is = cc
  constant_of (node.Param index kind) word is = absurd cc
  constant_of (node.Unary op a) word is = absurd cc
  constant_of (node.Binary op a b) word is = absurd cc

  param_of : (n : Node) (index : ℕ) (kind : Kind) → over (terms_of nodes) n ≡ Param index kind → n ≡ node.Param index kind
  param_of (node.Constant v) index kind is = absurd cc
  param_of (node.Param i k) index kind is = cc
  param_of (node.Unary op a) index kind is = absurd cc
  param_of (node.Binary op a b) index kind is = absurd cc

  record OfUnary (i : ℕ) (n : Node) (op : Un) (t : Term) : Type 0 where
    a : ℕ
    is : n ≡ node.Unary op a
    before : a < i
    term : term_at (terms_of nodes) a ≡ t

  unary_of : (i : ℕ) (n : Node) (op : Un) (t : Term) → IsBelow i n → over (terms_of nodes) n ≡ Unary op t → OfUnary i n op t
  unary_of i (node.Constant v) op t below is = absurd cc
  unary_of i (node.Param index kind) op t below is = absurd cc
  unary_of i (node.Unary o a) op t below is = record { a = a; is = cc; before = below; term = cc }
  unary_of i (node.Binary o a b) op t below is = absurd cc

  record OfBinary (i : ℕ) (n : Node) (op : Bin) (t s : Term) : Type 0 where
    a : ℕ
    b : ℕ
    is : n ≡ node.Binary op a b
    before_a : a < i
    before_b : b < i
    term_a : term_at (terms_of nodes) a ≡ t
    term_b : term_at (terms_of nodes) b ≡ s

  binary_of : (i : ℕ) (n : Node) (op : Bin) (t s : Term) → IsBelow i n → over (terms_of nodes) n ≡ Binary op t s → OfBinary i n op t s
  binary_of i (node.Constant v) op t s below is = absurd cc
  binary_of i (node.Param index kind) op t s below is = absurd cc
  binary_of i (node.Unary o a) op t s below is = absurd cc
  binary_of i (node.Binary o a b) op t s below is = record { a = a; b = b; is = cc; before_a = below.0; before_b = below.1; term_a = cc; term_b = cc }

  -- nodes of one term are one node, where each term stands once
  module _ (once : EachOnce (terms_of nodes)) where
    one_operand : (a b : ℕ) → a < length nodes → b < length nodes → term_at (terms_of nodes) a ≡ term_at (terms_of nodes) b → a ≡ b
    one_operand a b within_a within_b same =
        let s = stands (terms_of nodes) a (omega (arith, within_a, as_many nodes)) in
        let t = stands (terms_of nodes) b (omega (arith, within_b, as_many nodes)) in
        let is_a = ap (λ o. unwrap_or o (Constant (pos 0))) s.1 in
        let is_b = ap (λ o. unwrap_or o (Constant (pos 0))) t.1 in
        once t.0 a b (s.1 ∙ ap Some (sym is_a ∙ same ∙ is_b)) t.1

    pub same_node_at : (i : ℕ) (m n : Node) → IsBelow i m → i < length nodes → IsBelow (length nodes) n → over (terms_of nodes) m ≡ over (terms_of nodes) n → m ≡ n
    same_node_at i m (node.Constant word) below_m within below_n is = constant_of m word is
    same_node_at i m (node.Param index kind) below_m within below_n is = param_of m index kind is
    same_node_at i m (node.Unary op a) below_m within below_n is =
        let u = unary_of i m op (term_at (terms_of nodes) a) below_m is in
        u.is ∙ ap (node.Unary op) (one_operand u.a a (omega (arith, u.before, within)) below_n u.term)
    same_node_at i m (node.Binary op a b) below_m within below_n is =
        let u = binary_of i m op (term_at (terms_of nodes) a) (term_at (terms_of nodes) b) below_m is in
        let one_a = one_operand u.a a (omega (arith, u.before_a, within)) below_n.0 u.term_a in
        let one_b = one_operand u.b b (omega (arith, u.before_b, within)) below_n.1 u.term_b in
        u.is ∙ (λ j. node.Binary op (one_a j) (one_b j))

  module _ (one : (n : Node) (i j : ℕ) → slice_get nodes i ≡ Some n → slice_get nodes j ≡ Some n → i ≡ j) where
    -- the nodes of one term are one
    same : (i j : ℕ) (term : Term) (m : Of i term) (n : Of j term) → m.n ≡ n.n → i ≡ j
    same i j term m n is = one n.n i j (m.at ∙ ap Some is) n.at

    each_once : (term : Term) (i j : ℕ) → slice_get (terms_of nodes) i ≡ Some term → slice_get (terms_of nodes) j ≡ Some term → i ≡ j
    each_once (Constant word) i j at_i at_j =
        let m = node_at i (Constant word) at_i in
        let n = node_at j (Constant word) at_j in
        same i j (Constant word) m n (constant_of m.n word m.is ∙ sym (constant_of n.n word n.is))
    each_once (Param index kind) i j at_i at_j =
        let m = node_at i (Param index kind) at_i in
        let n = node_at j (Param index kind) at_j in
        same i j (Param index kind) m n (param_of m.n index kind m.is ∙ sym (param_of n.n index kind n.is))
    each_once (Unary op t) i j at_i at_j =
        let m = node_at i (Unary op t) at_i in
        let n = node_at j (Unary op t) at_j in
        let u = unary_of i m.n op t m.below m.is in
        let v = unary_of j n.n op t n.below n.is in
        let a = each_once t u.a v.a (operand u.a i u.before (Unary op t) at_i t u.term) (operand v.a j v.before (Unary op t) at_j t v.term) in
        same i j (Unary op t) m n (u.is ∙ ap (node.Unary op) a ∙ sym v.is)
    each_once (Binary op t s) i j at_i at_j =
        let m = node_at i (Binary op t s) at_i in
        let n = node_at j (Binary op t s) at_j in
        let u = binary_of i m.n op t s m.below m.is in
        let v = binary_of j n.n op t s n.below n.is in
        let a = each_once t u.a v.a (operand u.a i u.before_a (Binary op t s) at_i t u.term_a) (operand v.a j v.before_a (Binary op t s) at_j t v.term_a) in
        let b = each_once s u.b v.b (operand u.b i u.before_b (Binary op t s) at_i s u.term_b) (operand v.b j v.before_b (Binary op t s) at_j s v.term_b) in
        same i j (Binary op t s) m n (u.is ∙ (λ k. node.Binary op (a k) (b k)) ∙ sym v.is)

-- TABLES

-- each term of a table is at one place
pub terms_once : (eq : Node → Node → Bool) → ((n : Node) → eq n n ≡ true) → (nodes : List Node) → IsTable nodes → IsDistinct eq nodes → EachOnce (terms_of nodes)
terms_once eq same nodes table apart = each_once nodes table (places_differ eq same nodes apart)
