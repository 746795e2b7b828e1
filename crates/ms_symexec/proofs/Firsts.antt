-- Items, each once, with one more behind them.
use Rattle.std.proofs.Common.{◌≡◌, ℕ, zero, suc, ◌<◌, ◌+◌, ◌==◌, Bool, true, false, ◌||◌, ◌&&◌, cond, not, List, [], ◌∷◌, ◌++◌, length, map, take, refl, sym, ap, ◌∙◌, arith}
use Rattle.std.specs.Prelude.{Contains, if◌then◌else◌, slice_index_or}
use Rattle.std.specs.List.{list_any}
use Rattle.std.proofs.lemmas.Bool.{and_parts, eq-eqb, eqb-true}
use Rattle.std.proofs.lemmas.List.{append-nil, map-append}
use Rattle.ms_words.specs.declared.item.Item.{Item}
use Rattle.ms_words.specs.declared.item.Item.TheVariants.{Entry, At}
use Rattle.ms_words.specs.Items.{firsts, same_item, without}
use Rattle.ms_symexec.specs.declared.footprints.Key.{Key}
use Rattle.ms_symexec.specs.contracts.footprints.KeyPartialEq.TheImpl.{eq-value}
use Rattle.ms_symexec.specs.Keys.{key}

-- whether an item is in a list
abbrev pub has : Item → List Item → Bool
has item items = list_any (same_item item) items

-- EQUAL ITEMS

itself : (x : Item) → same_item x x ≡ true
itself Entry = refl
itself (At class method offset) = (λ j. eq-eqb class class refl j && eq-eqb method method refl j && eq-eqb offset offset refl j)

is_same : (x y : Item) → same_item x y ≡ true → x ≡ y
is_same Entry Entry is = refl
is_same Entry (At class method offset) is = absurd (let e = is in cc)
is_same (At class method offset) Entry is = absurd (let e = is in cc)
is_same (At class method offset) (At class' method' offset') is =
    let outer = and_parts (class == class' && method == method') (offset == offset') is in
    let inner = and_parts (class == class') (method == method') outer.0 in
    let a = eqb-true class class' inner.0 in
    let b = eqb-true method method' inner.1 in
    let c = eqb-true offset offset' outer.1 in
    (λ j. At (a j) (b j) (c j))

differs : (x y : Item) → same_item x y ≡ false → same_item y x ≡ false
differs x y is = by_test (same_item y x) refl
  where
    by_test : (b : Bool) → same_item y x ≡ b → same_item y x ≡ false
    by_test true same = absurd (let e : same_item x x ≡ false = ap (same_item x) (sym (is_same y x same)) ∙ is in let t = itself x in cc)
    by_test false same = same

-- LISTS WITHOUT AN ITEM

without_push : (y : Item) (xs : List Item) (x : Item) → without y (xs ++ x ∷ []) ≡ without y xs ++ without y (x ∷ [])
without_push y [] x = refl
without_push y (first ∷ xs) x = by_test (same_item y first) (without_push y xs x)
  where
    by_test : (b : Bool) → without y (xs ++ x ∷ []) ≡ without y xs ++ without y (x ∷ []) → cond b (without y (xs ++ x ∷ [])) (first ∷ without y (xs ++ x ∷ [])) ≡ cond b (without y xs) (first ∷ without y xs) ++ without y (x ∷ [])
    by_test true rest = rest
    by_test false rest = ap (λ items. first ∷ items) rest

other_stays : (x y : Item) (xs : List Item) → same_item x y ≡ false → has x (without y xs) ≡ has x xs
other_stays x y [] other = refl
other_stays x y (first ∷ xs) other = by_test (same_item y first) refl (other_stays x y xs other)
  where
    by_test : (b : Bool) → same_item y first ≡ b → has x (without y xs) ≡ has x xs → has x (cond b (without y xs) (first ∷ without y xs)) ≡ (same_item x first || has x xs)
    by_test true same rest = rest ∙ sym (ap (λ b. b || has x xs) (ap (same_item x) (sym (is_same y first same)) ∙ other))
    by_test false same rest = ap (λ b. same_item x first || b) rest

-- ONE MORE

pub firsts_more : (xs : List Item) (x : Item) (b : Bool) → has x (firsts xs) ≡ b → firsts (xs ++ x ∷ []) ≡ cond b (firsts xs) (firsts xs ++ x ∷ [])
firsts_more [] x true is = absurd (let e = is in cc)
firsts_more [] x false is = refl
firsts_more (y ∷ xs) x b is = by_same (firsts_more xs x) (same_item x y) refl
  where
    last : (same : Bool) → same_item y x ≡ same → without y (x ∷ []) ≡ cond same [] (x ∷ [])
    last same e = ap (λ c. cond c [] (x ∷ [])) e

    by_same : ((c : Bool) → has x (firsts xs) ≡ c → firsts (xs ++ x ∷ []) ≡ cond c (firsts xs) (firsts xs ++ x ∷ [])) → (same : Bool) → same_item x y ≡ same → y ∷ without y (firsts (xs ++ x ∷ [])) ≡ cond b (y ∷ without y (firsts xs)) (y ∷ (without y (firsts xs) ++ x ∷ []))
    by_same shorter true same =
        let there : b ≡ true = sym is ∙ ap (λ c. c || has x (without y (firsts xs))) same in
        let one : same_item y x ≡ true = ap (same_item y) (is_same x y same) ∙ itself y in
        inner (has x (firsts xs)) refl one ∙ sym (ap (λ c. cond c (y ∷ without y (firsts xs)) (y ∷ (without y (firsts xs) ++ x ∷ []))) there)
      where
        inner : (c : Bool) → has x (firsts xs) ≡ c → same_item y x ≡ true → y ∷ without y (firsts (xs ++ x ∷ [])) ≡ y ∷ without y (firsts xs)
        inner true e one = ap (λ items. y ∷ without y items) (shorter true e)
        inner false e one = ap (λ items. y ∷ without y items) (shorter false e)
            ∙ ap (λ items. y ∷ items) (without_push y (firsts xs) x ∙ ap (λ items. without y (firsts xs) ++ items) (last true one) ∙ append-nil (without y (firsts xs)))
    by_same shorter false other =
        let rest : b ≡ has x (firsts xs) = sym is ∙ ap (λ c. c || has x (without y (firsts xs))) other ∙ other_stays x y (firsts xs) other in
        inner (has x (firsts xs)) refl (differs x y other) ∙ sym (ap (λ c. cond c (y ∷ without y (firsts xs)) (y ∷ (without y (firsts xs) ++ x ∷ []))) rest)
      where
        inner : (c : Bool) → has x (firsts xs) ≡ c → same_item y x ≡ false → y ∷ without y (firsts (xs ++ x ∷ [])) ≡ cond c (y ∷ without y (firsts xs)) (y ∷ (without y (firsts xs) ++ x ∷ []))
        inner true e one = ap (λ items. y ∷ without y items) (shorter true e)
        inner false e one = ap (λ items. y ∷ without y items) (shorter false e)
            ∙ ap (λ items. y ∷ items) (without_push y (firsts xs) x ∙ ap (λ items. without y (firsts xs) ++ items) (last false one))

-- KEYS

same_key : (x y : Item) → eq-value.it (key x) (key y) ≡ same_item x y
same_key Entry Entry = refl
same_key Entry (At class method offset) = refl
same_key (At class method offset) Entry = refl
same_key (At class method offset) (At class' method' offset') = both (class == class') (method == method') (offset == offset')
  where
    both : (a b c : Bool) → (a && (b && c)) ≡ (a && b && c)
    both true b c = refl
    both false b c = refl

pub has_key : (x : Item) (items : List Item) → list_any (eq-value.it (key x)) (map key items) ≡ has x items
has_key x [] = refl
has_key x (first ∷ items) = (λ j. same_key x first j || has_key x items j)

-- an item that no key is that of isn't there
pub not_there : (x : Item) (items : List Item) → has x items ≡ false → Contains items x → ⊥
not_there x [] none (k, within, is) = absurd (omega (arith, within))
not_there x (first ∷ items) none (zero, within, is) = absurd (let e : same_item x first ≡ true = ap (same_item x) is ∙ itself x in let f : (same_item x first || has x items) ≡ false = none in let g : (true || has x items) ≡ false = ap (λ b. b || has x items) (sym e) ∙ f in cc)
not_there x (first ∷ items) none (suc k, within, is) = not_there x items (rest (same_item x first) none) (k, omega (arith, within), is)
  where
    rest : (b : Bool) → (b || has x items) ≡ false → has x items ≡ false
    rest true e = absurd (let f = e in cc)
    rest false e = e

-- FRONTS

front_more : (xs : List Item) (place : ℕ) (d : Item) → place < length xs → take (suc place) xs ≡ take place xs ++ slice_index_or xs place d ∷ []
front_more [] place d within = absurd (omega (arith, within))
front_more (x ∷ xs) zero d within = refl
front_more (x ∷ xs) (suc place) d within = ap (λ items. x ∷ items) (front_more xs place d (omega (arith, within)))

module _ (trace footprint : List Item) (place : ℕ) (keys : List Key) (k : Key) (d : Item) (within : place < length trace)
    (so_far : footprint ≡ firsts (take place trace)) (kept : keys ≡ map key footprint) (is : k ≡ key (slice_index_or trace place d)) where
  abbrev item : Item
  item = slice_index_or trace place d

  seen : list_any (eq-value.it k) keys ≡ has item footprint
  seen = (λ j. list_any (eq-value.it (is j)) (kept j)) ∙ has_key item footprint

  pub is_none_there : not (list_any (eq-value.it k) keys) ≡ true → Contains footprint item → ⊥
  is_none_there new = not_there item footprint (by_test (list_any (eq-value.it k) keys) new seen)
    where
      by_test : (b : Bool) → not b ≡ true → b ≡ has item footprint → has item footprint ≡ false
      by_test true e same = absurd (let f = e in cc)
      by_test false e same = sym same

  -- what is seen, and what is executed first, with the item
  pub record With (footprint' : List Item) (keys' : List Key) : Type 0 where
    pub items : footprint' ≡ firsts (take (place + 1) trace)
    pub kept_keys : keys' ≡ map key footprint'

  more : (b : Bool) → has item footprint ≡ b → firsts (take (place + 1) trace) ≡ cond b footprint (footprint ++ item ∷ [])
  more b there =
      ap (λ n. firsts (take n trace)) (let e : place + 1 ≡ suc place = omega arith in e) ∙ ap firsts (front_more trace place d within)
      ∙ firsts_more (take place trace) item b (ap (has item) (sym so_far) ∙ there)
      ∙ (λ j. cond b (sym so_far j) (sym so_far j ++ item ∷ []))

  pub with_item : not (list_any (eq-value.it k) keys) ≡ true → (keys' : List Key) → keys' ≡ (if list_any (eq-value.it k) keys then keys else keys ++ k ∷ []) → With (footprint ++ item ∷ []) keys'
  with_item new keys' are = by_test (list_any (eq-value.it k) keys) refl new are
    where
      by_test : (b : Bool) → list_any (eq-value.it k) keys ≡ b → not b ≡ true → keys' ≡ (if b then keys else keys ++ k ∷ []) → With (footprint ++ item ∷ []) keys'
      by_test true there e are = absurd (let f = e in cc)
      by_test false there e are = record {
        items = sym (more false (sym seen ∙ there));
        kept_keys = are ∙ (λ j. kept j ++ is j ∷ []) ∙ sym (map-append key footprint (item ∷ []));
      }

  pub without_item : not (list_any (eq-value.it k) keys) ≡ false → (keys' : List Key) → keys' ≡ (if list_any (eq-value.it k) keys then keys else keys ++ k ∷ []) → With footprint keys'
  without_item old keys' are = by_test (list_any (eq-value.it k) keys) refl old are
    where
      by_test : (b : Bool) → list_any (eq-value.it k) keys ≡ b → not b ≡ false → keys' ≡ (if b then keys else keys ++ k ∷ []) → With footprint keys'
      by_test true there e are = record { items = sym (more true (sym seen ∙ there)); kept_keys = are ∙ kept }
      by_test false there e are = absurd (let f = e in cc)
