-- All inputs of boolean kinds, place by place from the last.
use Rattle.std.proofs.Common.{◌≡◌, ℕ, zero, suc, ◌+◌, ◌<◌, true, List, [], ◌∷◌, ◌++◌, length, map, drop, replicate, get_or, slice_get, slice_set, Some, refl, sym, ap, ◌∙◌, arith}
use Rattle.std.specs.Prelude.{ℤ, pos}
use Rattle.std.specs.List.{AllByRecursion, flat_map, list_all}
use Rattle.std.proofs.lemmas.Bool.{and_parts}
use Rattle.std.proofs.lemmas.List.{append-nil, drop_more, map-append}
use Rattle.ms_words.specs.declared.kind.Kind.{Kind}
use Rattle.ms_words.specs.declared.kind.Kind.TheVariants.{Z, B, C, S, I}
use Rattle.ms_words.specs.Inputs.{Words, zero_of}
use Rattle.ms_session.specs.Growing.{IsBooleanAt, with_one}
use Rattle.ms_session.specs.Paths.{inputs_of, words_of}
use Rattle.ms_session.specs.States.{is_boolean}

-- the input whose first words are 0, and these behind them
abbrev pub padded : List Kind → ℕ → List ℤ → Words
padded kinds place words = record { kinds = kinds; words = replicate place (pos 0) ++ words }

-- the inputs whose first words, so many, are 0
abbrev pub padded_inputs : List Kind → ℕ → List Words
padded_inputs kinds place = map (padded kinds place) (inputs_of (drop place kinds))

drop_all : {X : Type 0} (xs : List X) → drop (length xs) xs ≡ []
drop_all [] = refl
drop_all (x ∷ xs) = drop_all xs

pub at_start : (kinds : List Kind) → zero_of kinds ∷ [] ≡ padded_inputs kinds (length kinds)
at_start kinds =
    ap (λ (words : List ℤ). record { kinds = kinds; words = words } ∷ []) (sym (append-nil (replicate (length kinds) (pos 0))))
    ∙ ap (λ (left : List Kind). map (padded kinds (length kinds)) (inputs_of left)) (sym (drop_all kinds))

map_same : {X Y : Type 0} (f g : X → Y) (xs : List X) → ((x : X) → f x ≡ g x) → map f xs ≡ map g xs
map_same f g [] same = refl
map_same f g (x ∷ xs) same = let first = same x in let rest = map_same f g xs same in λ i. first i ∷ rest i

pub map_twice : {X Y Z : Type 0} (f : Y → Z) (g : X → Y) (xs : List X) → map f (map g xs) ≡ map (λ x. f (g x)) xs
map_twice f g [] = refl
map_twice f g (x ∷ xs) = ap (λ l. f (g x) ∷ l) (map_twice f g xs)

zero_behind : (place : ℕ) (words : List ℤ) → replicate (suc place) (pos 0) ++ words ≡ replicate place (pos 0) ++ pos 0 ∷ words
zero_behind zero words = refl
zero_behind (suc place) words = ap (λ l. pos 0 ∷ l) (zero_behind place words)

one_there : (place : ℕ) (words : List ℤ) → slice_set (replicate (suc place) (pos 0) ++ words) place (pos 1) ≡ replicate place (pos 0) ++ pos 1 ∷ words
one_there zero words = refl
one_there (suc place) words = ap (λ l. pos 0 ∷ l) (one_there place words)

boolean_words : words_of Z ≡ pos 0 ∷ pos 1 ∷ []
unfolding words_of
boolean_words = refl

boolean_is : (kind : Kind) → is_boolean kind ≡ true → kind ≡ Z
boolean_is Z is = refl
boolean_is B is = absurd cc
boolean_is C is = absurd cc
boolean_is S is = absurd cc
boolean_is I is = absurd cc

boolean_at : (kinds : List Kind) (place : ℕ) → list_all is_boolean kinds ≡ true → place < length kinds → (get_or kinds place Z ≡ Z) × (slice_get kinds place ≡ Some Z)
boolean_at [] place all within = absurd (omega (arith, within))
boolean_at (kind ∷ kinds) zero all within = let is = boolean_is kind (and_parts (is_boolean kind) (list_all is_boolean kinds) all).0 in (is, ap Some is)
boolean_at (kind ∷ kinds) (suc place) all within = boolean_at kinds place (and_parts (is_boolean kind) (list_all is_boolean kinds) all).1 (omega (arith, within))

pub at_place : (kinds : List Kind) (place : ℕ) → list_all is_boolean kinds ≡ true → place < length kinds
    → padded_inputs kinds (suc place) ++ map (with_one place) (padded_inputs kinds (suc place)) ≡ padded_inputs kinds place
at_place kinds place all within =
    let L = inputs_of (drop (suc place) kinds) in
    let next : suc place ≡ place + 1 = omega arith in
    let first : drop place kinds ≡ Z ∷ drop (suc place) kinds =
    drop_more kinds place Z within ∙ ap (λ (k : Kind). k ∷ drop (place + 1) kinds) (boolean_at kinds place all within).0 ∙ ap (λ (n : ℕ). Z ∷ drop n kinds) (sym next) in
    let spread : inputs_of (drop place kinds) ≡ map (λ words. pos 0 ∷ words) L ++ map (λ words. pos 1 ∷ words) L =
    ap inputs_of first ∙ ap (flat_map (λ word. map (λ words. word ∷ words) L)) boolean_words ∙ ap (λ l. map (λ words. pos 0 ∷ words) L ++ l) (append-nil (map (λ words. pos 1 ∷ words) L)) in
    let zeros : map (padded kinds (suc place)) L ≡ map (padded kinds place) (map (λ words. pos 0 ∷ words) L) =
    map_same (padded kinds (suc place)) (λ words. padded kinds place (pos 0 ∷ words)) L (λ words. ap (λ (l : List ℤ). record { kinds = kinds; words = l }) (zero_behind place words))
    ∙ sym (map_twice (padded kinds place) (λ words. pos 0 ∷ words) L) in
    let ones : map (with_one place) (map (padded kinds (suc place)) L) ≡ map (padded kinds place) (map (λ words. pos 1 ∷ words) L) =
    map_twice (with_one place) (padded kinds (suc place)) L
    ∙ map_same (λ words. with_one place (padded kinds (suc place) words)) (λ words. padded kinds place (pos 1 ∷ words)) L (λ words. ap (λ (l : List ℤ). record { kinds = kinds; words = l }) (one_there place words))
    ∙ sym (map_twice (padded kinds place) (λ words. pos 1 ∷ words) L) in
    ap (λ l. l ++ map (with_one place) (map (padded kinds (suc place)) L)) zeros
    ∙ ap (λ l. map (padded kinds place) (map (λ words. pos 0 ∷ words) L) ++ l) ones
    ∙ sym (map-append (padded kinds place) (map (λ words. pos 0 ∷ words) L) (map (λ words. pos 1 ∷ words) L))
    ∙ ap (map (padded kinds place)) (sym spread)

each_boolean : (kinds : List Kind) (at place : ℕ) (inputs : List (List ℤ)) → slice_get kinds place ≡ Some Z → AllByRecursion (IsBooleanAt place) (map (padded kinds at) inputs)
each_boolean kinds at place [] is = tt
each_boolean kinds at place (words ∷ inputs) is = (is, each_boolean kinds at place inputs is)

pub all_boolean : (kinds : List Kind) (at place : ℕ) → list_all is_boolean kinds ≡ true → place < length kinds → AllByRecursion (IsBooleanAt place) (padded_inputs kinds at)
all_boolean kinds at place all within = each_boolean kinds at place (inputs_of (drop at kinds)) (boolean_at kinds place all within).1

pub all_at : {X : Type 0} (P : X → Type 0) (xs more : List X) (i : ℕ) (d : X) → AllByRecursion P xs → i < length xs → P (get_or (xs ++ more) i d)
all_at P [] more i d all within = absurd (omega (arith, within))
all_at P (x ∷ xs) more zero d all within = all.0
all_at P (x ∷ xs) more (suc i) d all within = all_at P xs more i d all.1 (omega (arith, within))

each_of : (kinds : List Kind) (at : ℕ) (inputs : List (List ℤ)) → AllByRecursion (λ (input : Words). input.kinds ≡ kinds) (map (padded kinds at) inputs)
each_of kinds at [] = tt
each_of kinds at (words ∷ inputs) = (refl, each_of kinds at inputs)

pub all_of : (kinds : List Kind) (at : ℕ) → AllByRecursion (λ (input : Words). input.kinds ≡ kinds) (padded_inputs kinds at)
all_of kinds at = each_of kinds at (inputs_of (drop at kinds))
