-- A node is added to a table, and its term is.
use Rattle.std.proofs.Common.{◌≡◌, ◌⊎◌, inl, inr, ◌<◌, ◌≤◌, ◌+◌, ℕ, zero, suc, Bool, true, false, cond, not, List, [], ◌∷◌, ◌++◌, length, map, slice_get, nat_lt, pos, Option, Some, None, refl, sym, ap, subst, ◌∙◌, arith}
use Rattle.std.specs.Prelude.{unwrap_or}
use Rattle.std.specs.List.{IsDistinct, position_or_len}
use Rattle.std.specs.List.{AllByRecursion}
use Rattle.std.specs.Map.{keys_of, lookup}
use Rattle.std.proofs.lemmas.Map.{none_passes_from_lookup}
use Rattle.std.proofs.lemmas.Bool.{ltb-false, ltb-true}
use Rattle.std.proofs.lemmas.List.{length-append}
use Rattle.std.proofs.lemmas.Option.{slice_get_within}
use Rattle.indexmap.specs.IndexMap.{insert_entry}
use Rattle.ms_terms.specs.declared.term.Term.{Term as Node}
use Rattle.ms_terms.specs.Terms.{Constant, params}
use Rattle.ms_terms.specs.Nodes.{Adds, AreParams, Grows, IsAbsent, IsBelow, IsTable, over, term_of, terms_of}
use Rattle.ms_terms.proofs.Grown.{same_table}
use Rattle.ms_terms.proofs.Once.{all_at, node_at, same_node_at, terms_once}
use Rattle.ms_terms.proofs.Growing.{append, as_many, at_place, behind, front_stays, over_same}

-- ENTRIES

map_push : {X Y : Type 0} (f : X → Y) (xs : List X) (x : X) → map f (xs ++ x ∷ []) ≡ map f xs ++ f x ∷ []
map_push f [] x = refl
map_push f (y ∷ xs) x = ap (λ ys. f y ∷ ys) (map_push f xs x)

map_at : {X Y : Type 0} (f : X → Y) (xs : List X) (i : ℕ) (x : X) → slice_get xs i ≡ Some x → slice_get (map f xs) i ≡ Some (f x)
map_at f [] i x at = absurd (let e = at in cc)
map_at f (y ∷ xs) zero x at = let e = at in cc
map_at f (y ∷ xs) (suc i) x at = map_at f xs i x at

module _ {K X : Type 0} (eq : K → K → Bool) (k : K) (v : X) (is : (other : K) → eq k other ≡ true → k ≡ other) where
  one_more : (m : ℕ) → suc m ≡ 1 + m
  one_more m = omega arith

  -- the key stands where the insertion says
  pub inserted_at : (es : List (K × X)) → slice_get (keys_of (insert_entry eq es k v)) (position_or_len (eq k) (keys_of es)) ≡ Some k
  inserted_at [] = refl
  inserted_at (e ∷ es) = by_test (eq k e.0) refl (inserted_at es)
    where
      by_test : (b : Bool) → eq k e.0 ≡ b → slice_get (keys_of (insert_entry eq es k v)) (position_or_len (eq k) (keys_of es)) ≡ Some k → slice_get (keys_of (cond b ((e.0, v) ∷ es) (e ∷ insert_entry eq es k v))) (cond (not b) (1 + position_or_len (eq k) (keys_of es)) 0) ≡ Some k
      by_test true same rest = ap Some (sym (is e.0 same))
      by_test false other rest = subst (λ m. slice_get (e.0 ∷ keys_of (insert_entry eq es k v)) m ≡ Some k) (one_more (position_or_len (eq k) (keys_of es))) rest

  -- where the key has the value, nothing changes
  pub inserted_again : (es : List (K × X)) → lookup (eq k) es ≡ Some v → insert_entry eq es k v ≡ es
  inserted_again [] there = absurd (let e = there in cc)
  inserted_again (e ∷ es) there = by_test (eq k e.0) refl there (inserted_again es)
    where
      by_test : (b : Bool) → eq k e.0 ≡ b → cond b (Some e.1) (lookup (eq k) es) ≡ Some v → (lookup (eq k) es ≡ Some v → insert_entry eq es k v ≡ es) → cond b ((e.0, v) ∷ es) (e ∷ insert_entry eq es k v) ≡ e ∷ es
      by_test true same found again = ap (λ w. (e.0, w) ∷ es) (let f = found in cc)
      by_test false other found again = ap (λ rest. e ∷ rest) (again found)

  -- a key that isn't there comes behind
  pub inserted_new : (es : List (K × X)) → lookup (eq k) es ≡ None → insert_entry eq es k v ≡ es ++ (k, v) ∷ []
  inserted_new [] none = refl
  inserted_new (e ∷ es) none = by_test (eq k e.0) refl none (inserted_new es)
    where
      by_test : (b : Bool) → eq k e.0 ≡ b → cond b (Some e.1) (lookup (eq k) es) ≡ None → (lookup (eq k) es ≡ None → insert_entry eq es k v ≡ es ++ (k, v) ∷ []) → cond b ((e.0, v) ∷ es) (e ∷ insert_entry eq es k v) ≡ e ∷ es ++ (k, v) ∷ []
      by_test true same found new = absurd (let f = found in cc)
      by_test false other found new = ap (λ rest. e ∷ rest) (new found)

  -- the place of a value that is found
  record Found (es : List (K × X)) (w : X) : Type 0 where
    i : ℕ
    at : slice_get es i ≡ Some (k, w)

  found : (es : List (K × X)) (w : X) → lookup (eq k) es ≡ Some w → Found es w
  found [] w there = absurd (let e = there in cc)
  found (e ∷ es) w there = by_test (eq k e.0) refl there (found es w)
    where
      by_test : (b : Bool) → eq k e.0 ≡ b → cond b (Some e.1) (lookup (eq k) es) ≡ Some w → (lookup (eq k) es ≡ Some w → Found es w) → Found (e ∷ es) w
      by_test true same is_w later = record { i = 0; at = let same_key = is e.0 same in let f : e.1 ≡ w = (let g = is_w in cc) in λ j. Some (sym same_key j, f j) }
      by_test false other is_w later = let f = later is_w in record { i = suc f.i; at = f.at }

-- TABLES

-- what comes of an insertion into the entries of a table
pub record Comes (old : List (Node × ℕ)) (n : Node) (place : ℕ) (new : List (Node × ℕ)) : Type 0 where
  pub table : IsTable (keys_of new)
  pub params : AreParams new
  pub is : slice_get (terms_of (keys_of new)) place ≡ Some (over (terms_of (keys_of old)) n)
  pub added : (keys_of new ≡ keys_of old) ⊎ (terms_of (keys_of new) ≡ terms_of (keys_of old) ++ over (terms_of (keys_of old)) n ∷ [])
  pub grows : Grows (keys_of old) (keys_of new)
  pub grown : length (keys_of old) ≤ length (keys_of new)

module _ (eq : Node → Node → Bool) (is : (n m : Node) → eq n m ≡ true → n ≡ m)
    (old : List (Node × ℕ)) (table : IsTable (keys_of old)) (right : AreParams old)
    (n : Node) (mask : ℕ) (below : IsBelow (length (keys_of old)) n) (mask_is : mask ≡ params (over (terms_of (keys_of old)) n))
    (room : length (keys_of old) < 4294967295) where
  abbrev nodes : List Node
  nodes = keys_of old

  -- the nodes with one more
  earlier : (place : ℕ) (m : Node) → slice_get (nodes ++ n ∷ []) place ≡ Some m → IsBelow place m
  earlier place m at = by_place (nat_lt place (length nodes)) refl
    where
      by_place : (b : Bool) → nat_lt place (length nodes) ≡ b → IsBelow place m
      by_place true less = table.earlier place m (sym (front_stays nodes (n ∷ []) place (ltb-true place (length nodes) less)) ∙ at)
      by_place false not_less =
          let end : place ≡ length nodes = omega (arith, ltb-false place (length nodes) not_less, slice_get_within (nodes ++ n ∷ []) place m at, length-append nodes (n ∷ [])) in
          let it : n ≡ m = (let e = sym (behind nodes [] n) ∙ ap (slice_get (nodes ++ n ∷ [])) (sym end) ∙ at in cc) in
          subst (λ k. IsBelow k m) (sym end) (subst (IsBelow (length nodes)) it below)

  more : IsTable (nodes ++ n ∷ [])
  more = record { earlier = earlier; few = omega (arith, length-append nodes (n ∷ []), room) }

  pub comes : (r : Option ℕ) → lookup (eq n) old ≡ r → Comes old n (position_or_len (eq n) nodes) (insert_entry eq old n mask)
  comes (Some w) there =
      let f = found eq n mask (is n) old w there in
      let at_key = map_at (λ e. e.0) old f.i (n, w) f.at in
      let term = at_place nodes f.i n at_key (table.earlier f.i n at_key) in
      let value : w ≡ mask = (let e = sym (map_at (λ e. e.1) old f.i (n, w) f.at) ∙ ap (λ ms. slice_get ms f.i) right ∙ map_at params (terms_of nodes) f.i (over (terms_of nodes) n) term in let g = mask_is in cc) in
      let again = inserted_again eq n mask (is n) old (there ∙ ap Some value) in
      let here : slice_get nodes (position_or_len (eq n) nodes) ≡ Some n = subst (λ es. slice_get (keys_of es) (position_or_len (eq n) nodes) ≡ Some n) again (inserted_at eq n mask (is n) old) in
      subst (Comes old n (position_or_len (eq n) nodes)) (sym again) (record {
        table = table;
        params = right;
        is = at_place nodes (position_or_len (eq n) nodes) n here (table.earlier (position_or_len (eq n) nodes) n here);
        added = inl refl;
        grows = same_table (keys_of old);
        grown = omega arith;
      })
  comes None none =
      let new = inserted_new eq n mask (is n) old none in
      let keys : keys_of (insert_entry eq old n mask) ≡ nodes ++ n ∷ [] = ap keys_of new ∙ map_push (λ e. e.0) old (n, mask) in
      let terms : terms_of (nodes ++ n ∷ []) ≡ terms_of nodes ++ over (terms_of nodes) n ∷ [] = append [] nodes n in
      let here : slice_get (nodes ++ n ∷ []) (position_or_len (eq n) nodes) ≡ Some n = subst (λ ks. slice_get ks (position_or_len (eq n) nodes) ≡ Some n) keys (inserted_at eq n mask (is n) old) in
      let stay : (i : ℕ) → i < length nodes → slice_get (terms_of (nodes ++ n ∷ [])) i ≡ slice_get (terms_of nodes) i =
      (λ i less. ap (λ ts. slice_get ts i) terms ∙ front_stays (terms_of nodes) (over (terms_of nodes) n ∷ []) i (omega (arith, less, as_many nodes))) in
      let place = position_or_len (eq n) nodes in
      record {
        table = subst IsTable (sym keys) more;
        params = ap (λ es. map (λ e. e.1) es) new ∙ map_push (λ e. e.1) old (n, mask) ∙ (λ j. right j ++ mask_is j ∷ []) ∙ sym (map_push params (terms_of nodes) (over (terms_of nodes) n)) ∙ ap (map params) (sym terms) ∙ ap (λ ks. map params (terms_of ks)) (sym keys);
        is = subst (λ ks. slice_get (terms_of ks) place ≡ Some (over (terms_of nodes) n)) (sym keys)
            (at_place (nodes ++ n ∷ []) place n here (more.earlier place n here)
            ∙ ap Some (over_same (terms_of nodes) (terms_of (nodes ++ n ∷ [])) (length nodes) n below stay));
        added = inr (ap terms_of keys ∙ terms);
        grows = record { more = n ∷ []; is = keys };
        grown = subst (λ ks. length nodes ≤ length ks) (sym keys) (omega (arith, length-append nodes (n ∷ [])));
      }

-- the same of what a call was given and left
pub inserted : (eq : Node → Node → Bool) → ((n m : Node) → eq n m ≡ true → n ≡ m) → (now : List Node) (old new : List (Node × ℕ)) → keys_of old ≡ now → IsTable (keys_of old) → AreParams old
    → (n : Node) (mask : ℕ) → IsBelow (length now) n → mask ≡ params (over (terms_of now) n) → length now < 4294967295 → new ≡ insert_entry eq old n mask → Comes old n (position_or_len (eq n) (keys_of old)) new
inserted eq is now old new seen table right n mask below mask_is room entries =
    subst (Comes old n (position_or_len (eq n) (keys_of old))) (sym entries)
    (comes eq is old table right n mask
    (subst (λ ks. IsBelow (length ks) n) (sym seen) below)
    (subst (λ ks. mask ≡ params (over (terms_of ks) n)) (sym seen) mask_is)
    (subst (λ ks. length ks < 4294967295) (sym seen) room)
    (lookup (eq n) old) refl)

-- as the contract of an addition says it
pub adds : (eq : Node → Node → Bool) → ((n : Node) → eq n n ≡ true) → (now : List Node) (old new : List (Node × ℕ)) → keys_of old ≡ now → (n : Node) (place number : ℕ) → IsDistinct eq (keys_of new) → Comes old n place new → number ≡ place
    → Adds now (over (terms_of now) n) number (keys_of new)
adds eq same now old new seen n place number apart c is =
    subst (λ ks. Adds ks (over (terms_of ks) n) number (keys_of new)) seen (record {
      is = ap (slice_get (terms_of (keys_of new))) is ∙ c.is;
      added = c.added;
      once = terms_once eq same (keys_of new) c.table apart;
    })

-- where the node isn't there, neither is its term
pub absent : (eq : Node → Node → Bool) → ((n : Node) → eq n n ≡ true) → (now : List Node) (old new : List (Node × ℕ)) → keys_of old ≡ now → IsTable (keys_of old) → IsDistinct eq (keys_of new) → new ≡ old
    → (n : Node) → IsBelow (length now) n → lookup (eq n) old ≡ None → IsAbsent now (over (terms_of now) n)
absent eq same now old new seen table apart unchanged n below none place at =
    let once = terms_once eq same (keys_of old) table (subst (λ es. IsDistinct eq (keys_of es)) unchanged apart) in
    let there = subst (λ ks. slice_get (terms_of ks) place ≡ Some (over (terms_of ks) n)) (sym seen) at in
    let m = node_at (keys_of old) table place (over (terms_of (keys_of old)) n) there in
    let is : m.n ≡ n = same_node_at (keys_of old) table once place m.n n m.below (omega (arith, slice_get_within (keys_of old) place m.n m.at)) (subst (λ ks. IsBelow (length ks) n) (sym seen) below) m.is in
    let differs = all_keys old (none_passes_from_lookup (eq n) old none) in
    let e : eq n n ≡ false = all_at (λ k. eq n k ≡ false) (keys_of old) place n differs (m.at ∙ ap Some is) in
    absurd (let t = same n in let f = e in cc)
  where
    all_keys : (es : List (Node × ℕ)) → AllByRecursion (λ (e : Node × ℕ). eq n e.0 ≡ false) es → AllByRecursion (λ k. eq n k ≡ false) (keys_of es)
    all_keys [] all = tt
    all_keys (e ∷ es) all = (all.0, all_keys es all.1)

-- LOOKING

-- the key and the value of an entry of a table: its node, and the parameters of its term
pub record Looks (now : List Node) (id : ℕ) (n : Node) (mask : ℕ) : Type 0 where
  pub node : slice_get now id ≡ Some n
  pub term : over (terms_of now) n ≡ term_of now id
  pub operands : IsBelow id n
  pub params : mask ≡ params (term_of now id)

pub looks : (now : List Node) (entries : List (Node × ℕ)) → keys_of entries ≡ now → IsTable (keys_of entries) → AreParams entries → (id : ℕ) (n : Node) (mask : ℕ) → slice_get entries id ≡ Some (n, mask) → Looks now id n mask
looks now entries seen table right id n mask at =
    let at_key = map_at (λ e. e.0) entries id (n, mask) at in
    let below = table.earlier id n at_key in
    let term = at_place (keys_of entries) id n at_key below in
    subst (λ ks. Looks ks id n mask) seen (record {
      node = at_key;
      term = sym (ap (λ o. unwrap_or o (Constant (pos 0))) term);
      operands = below;
      params = (let e : Some mask ≡ Some (params (over (terms_of (keys_of entries)) n)) = sym (map_at (λ e. e.1) entries id (n, mask) at) ∙ ap (λ ms. slice_get ms id) right ∙ map_at params (terms_of (keys_of entries)) id (over (terms_of (keys_of entries)) n) term in let f : mask ≡ params (over (terms_of (keys_of entries)) n) = (let g = e in cc) in f) ∙ sym (ap (λ o. params (unwrap_or o (Constant (pos 0)))) term);
    })
