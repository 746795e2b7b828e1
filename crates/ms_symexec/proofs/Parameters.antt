-- The parameters as terms.
use Rattle.std.proofs.Common.{◌≡◌, ℕ, zero, suc, ◌+◌, ◌<◌, List, [], ◌∷◌, ◌++◌, length, map, take, Option, Some, None, refl, sym, ap, subst, ◌∙◌, arith}
use Rattle.std.specs.Prelude.{IsSome, option_map, slice_index_or}
use Rattle.std.proofs.lemmas.List.{map-append}
use Rattle.ms_words.specs.declared.kind.Kind.{Kind}
use Rattle.ms_terms.specs.declared.term.Term.{Term as Node}
use Rattle.ms_terms.specs.Nodes.{Grows}
use Rattle.ms_terms.specs.Terms.{Term, Param}
use Rattle.ms_terms.proofs.Grown.{still_there}
use Rattle.ms_machine.specs.Laws.{parameters_from}
use Rattle.ms_machine.specs.Maps.{map_locals, map_value}
use Rattle.ms_machine.specs.Values.{Int}
use Rattle.ms_interpreter.specs.declared.slot.Slot.{Slot}
use Rattle.ms_interpreter.specs.declared.slot.Slot.TheVariants as slots
use Rattle.ms_interpreter.specs.Seen.{Texts, locals_of, value_of}
use Rattle.ms_interpreter.specs.Staying.{Stay}
use Rattle.ms_interpreter.specs.Symbols.{symbol}
use Rattle.ms_symexec.specs.Standing.{held}

abbrev there : Term → Option Term
there term = Some term

-- a parameter more
param_more : (i : ℕ) (kinds : List Kind) (place : ℕ) (d : Kind) → place < length kinds → take (suc place) (parameters_from i kinds) ≡ take place (parameters_from i kinds) ++ Param (i + place) (slice_index_or kinds place d) ∷ []
param_more i [] place d within = absurd (omega (arith, within))
param_more i (kind ∷ kinds) zero d within = ap (λ n. Param n kind ∷ []) (let e : i ≡ i + 0 = omega arith in e)
param_more i (kind ∷ kinds) (suc place) d within =
    ap (λ terms. Param i kind ∷ terms) (param_more (suc i) kinds place d (omega (arith, within))
    ∙ ap (λ n. take place (parameters_from (suc i) kinds) ++ Param n (slice_index_or kinds place d) ∷ []) (let e : suc i + place ≡ i + suc place = omega arith in e))

-- locals that hold one more
pub local_more : {I : Type 0} (f : I → Option Term) (texts : Texts) (kinds : List Kind) (place : ℕ) (d : Kind) (locals : List (Option (Slot I))) (a : I) → place < length kinds
    → locals_of f texts locals ≡ map_locals there (held (take place (parameters_from 0 kinds))) → f a ≡ Some (Param place (slice_index_or kinds place d))
    → locals_of f texts (locals ++ Some (slots.Int a) ∷ []) ≡ map_locals there (held (take (place + 1) (parameters_from 0 kinds)))
local_more f texts kinds place d locals a within are is =
    let before = take place (parameters_from 0 kinds) in
    let param = Param place (slice_index_or kinds place d) in
    let both : held (before ++ param ∷ []) ≡ held before ++ held (param ∷ []) = map-append (λ (term : Term). Some (Int term)) before (param ∷ []) in
    let seen : map_locals there (held (before ++ param ∷ [])) ≡ map_locals there (held before) ++ map_locals there (held (param ∷ [])) =
    ap (map_locals there) both ∙ map-append (option_map (map_value there)) (held before) (held (param ∷ [])) in
    let more : take (place + 1) (parameters_from 0 kinds) ≡ before ++ param ∷ [] =
    ap (λ n. take n (parameters_from 0 kinds)) (let e : place + 1 ≡ suc place = omega arith in e) ∙ param_more 0 kinds place d within
    ∙ ap (λ n. before ++ Param n (slice_index_or kinds place d) ∷ []) (let e : 0 + place ≡ place = omega arith in e) in
    let pushed : locals_of f texts (locals ++ Some (slots.Int a) ∷ []) ≡ locals_of f texts locals ++ Some (Int (f a)) ∷ [] = map-append (option_map (value_of f texts)) locals (Some (slots.Int a) ∷ []) in
    let last : locals_of f texts locals ++ Some (Int (f a)) ∷ [] ≡ map_locals there (held before) ++ Some (Int (Some param)) ∷ [] = (λ j. are j ++ Some (Int (is j)) ∷ []) in
    pushed ∙ last ∙ sym seen ∙ ap (λ terms. map_locals there (held terms)) (sym more)

-- all of them
pub all_held : (kinds : List Kind) (place : ℕ) → place ≡ length kinds → take place (parameters_from 0 kinds) ≡ parameters_from 0 kinds
all_held kinds place is = ap (λ n. take n (parameters_from 0 kinds)) is ∙ whole 0 kinds
  where
    whole : (i : ℕ) (ks : List Kind) → take (length ks) (parameters_from i ks) ≡ parameters_from i ks
    whole i [] = refl
    whole i (k ∷ ks) = ap (λ terms. Param i k ∷ terms) (whole (suc i) ks)

-- as the start of a run has them
pub held_seen : (terms : List Term) → map_locals there (held terms) ≡ held (map there terms)
held_seen [] = refl
held_seen (term ∷ terms) = ap (λ locals. Some (Int (Some term)) ∷ locals) (held_seen terms)

-- A TABLE THAT GROWS

pub symbols_stay : (old new : List Node) → Grows old new → Stay (λ v. IsSome v) (symbol old) (symbol new)
symbols_stay old new grows a has = by_term (symbol old a) refl has
  where
    by_term : (term : Option Term) → symbol old a ≡ term → IsSome term → symbol new a ≡ symbol old a
    by_term None is some = absurd (let e = some in cc)
    by_term (Some term) is some = still_there old new a term grows is ∙ sym is

-- what stays twice stays
pub stay_on : (first between last : List Node) → Stay (λ v. IsSome v) (symbol first) (symbol between) → Stay (λ v. IsSome v) (symbol between) (symbol last) → Stay (λ v. IsSome v) (symbol first) (symbol last)
stay_on first between last stay later a has = later a (subst (λ v. IsSome v) (sym (stay a has)) has) ∙ stay a has
