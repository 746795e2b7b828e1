-- The descriptor that is read is the one of its kinds, and the descriptor of such kinds is read.
use Rattle.std.proofs.Common.{◌≡◌, ℕ, zero, suc, ◌+◌, ◌<◌, ◌≤◌, true, false, eqb, List, [], ◌∷◌, ◌++◌, length, map, Option, Some, None, refl, sym, ap, subst, ◌∙◌, append_assoc, length-append, arith, inl, inr}
use Rattle.std.specs.Prelude.{IsTrue, ◌==◌}
use Rattle.std.specs.Option.{option_map}
use Rattle.std.specs.List.{list_all}
use Rattle.std.proofs.lemmas.Bool.{and_parts, and_from, eqb-true}
use Rattle.ms_words.specs.declared.kind.Kind.{Kind}
use Rattle.ms_words.specs.declared.kind.Kind.TheVariants.{Z, B, C, S, I}
use Rattle.ms_classfile.specs.ThinFile.{letter, is_thin_kind, descriptor_of}
use Rattle.ms_classfile.specs.Reading.{provided, only, kind_of, parameters_of, result_of, signature_of}
use Rattle.ms_classfile.proofs.Steps.{then_some, provided_some, some, some_is, either, mapped_some}
use Rattle.ms_classfile.proofs.Only.{only_is}

-- ---- what is read is spelled so

-- the byte is the letter of the kind
kind_is : (byte : ℕ) (kind : Kind) → kind_of byte ≡ Some kind → (byte ≡ letter kind) × IsTrue (is_thin_kind kind)
kind_is byte kind found =
    elim (either (byte == 90) (Some Z) _ (Some kind) found) [
      | inl p ↦ subst (λ (k : Kind). (byte ≡ letter k) × IsTrue (is_thin_kind k)) (some_is Z kind p.1) (eqb-true _ _ p.0, refl)
      | inr p ↦ elim (either (byte == 73) (Some I) None (Some kind) p.1) [
        | inl q ↦ subst (λ (k : Kind). (byte ≡ letter k) × IsTrue (is_thin_kind k)) (some_is I kind q.1) (eqb-true _ _ q.0, refl)
        | inr q ↦ absurd (let none : None ≡ Some kind = q.1 in cc)
      ]
    ]

-- the kinds of parameters, at most so many, and what stands behind them
record AreParameters (most : ℕ) (text : List ℕ) (x : List Kind × List ℕ) : Type 0 where
  pub spelled : text ≡ map letter x.0 ++ 41 ∷ x.1
  pub few : length x.0 ≤ most
  pub thin : IsTrue (list_all is_thin_kind x.0)

-- the closing bracket comes first
no_parameters : (most byte : ℕ) (text : List ℕ) (x : List Kind × List ℕ) → eqb byte 41 ≡ true → some ([], text) ≡ Some x → AreParameters most (byte ∷ text) x
no_parameters most byte text x e found =
    subst (λ (y : List Kind × List ℕ). AreParameters most (byte ∷ text) y) (some_is ([], text) x found)
    (record { spelled = ap (λ (b : ℕ). b ∷ text) (eqb-true _ _ e); few = omega arith; thin = refl })

parameters_are : (most : ℕ) (text : List ℕ) (x : List Kind × List ℕ) → parameters_of most text ≡ Some x → AreParameters most text x
parameters_are zero [] x found = absurd cc
parameters_are (suc most) [] x found = absurd cc
parameters_are zero (byte ∷ text) x found =
    let ended = provided_some (byte == 41) (Some ([], text)) x found in
    no_parameters zero byte text x ended.0 ended.1
parameters_are (suc most) (byte ∷ text) x found =
    elim (either (byte == 41) (Some ([], text)) _ (Some x) found) [
      | inl p ↦ no_parameters (suc most) byte text x p.0 p.1
      | inr p ↦ then_some (kind_of byte) _ x p.1 (λ kind at_kind last.
          let rest = mapped_some _ (parameters_of most text) x last in
          let one = kind_is byte kind at_kind in
          let others = parameters_are most text rest.0 rest.1 in
          subst (λ (y : List Kind × List ℕ). AreParameters (suc most) (byte ∷ text) y) rest.2
          (record { spelled = rw (one.0, ← others.spelled) refl; few = omega (arith, others.few); thin = and_from (is_thin_kind kind) (list_all is_thin_kind rest.0.0) one.1 others.thin }))
    ]

-- the text is the one letter of the result
result_is : (text : List ℕ) (kind : Kind) → result_of text ≡ Some kind → (text ≡ letter kind ∷ []) × IsTrue (is_thin_kind kind)
result_is text kind found =
    then_some (only text) _ kind found (λ byte at_byte last.
    let one = kind_is byte kind last in
    (only_is text byte at_byte ∙ ap (λ (b : ℕ). b ∷ []) one.0, one.1))

-- the descriptor of thin kinds, of eight parameters at most
pub record IsSignature (text : List ℕ) (x : List Kind × Kind) : Type 0 where
  pub spelled : text ≡ descriptor_of x.0 x.1
  pub few : length x.0 ≤ 8
  pub thin : IsTrue (list_all is_thin_kind x.0)
  pub result : IsTrue (is_thin_kind x.1)

-- the descriptor, one byte after another
descriptor_is : (kinds : List Kind) (result : Kind) → descriptor_of kinds result ≡ 40 ∷ (map letter kinds ++ 41 ∷ letter result ∷ [])
descriptor_is kinds result = ap (λ (text : List ℕ). 40 ∷ text) (append_assoc (map letter kinds) (41 ∷ []) (letter result ∷ []))

pub signature_is : (text : List ℕ) (x : List Kind × Kind) → signature_of text ≡ Some x → IsSignature text x
signature_is [] x found = absurd cc
signature_is (byte ∷ text) x found =
    then_some (provided (byte == 40) (parameters_of 8 text)) _ x found (λ parameters at_parameters last.
    let opened = provided_some (byte == 40) (parameters_of 8 text) parameters at_parameters in
    let result = mapped_some _ (result_of parameters.1) x last in
    let are = parameters_are 8 text parameters opened.1 in
    let ends = result_is parameters.1 result.0 result.1 in
    let spelled : text ≡ map letter parameters.0 ++ 41 ∷ letter result.0 ∷ [] = are.spelled ∙ ap (λ (rest : List ℕ). map letter parameters.0 ++ 41 ∷ rest) ends.0 in
    let whole : byte ∷ text ≡ 40 ∷ (map letter parameters.0 ++ 41 ∷ letter result.0 ∷ []) = ap (λ (b : ℕ). b ∷ text) (eqb-true _ _ opened.0) ∙ ap (λ (rest : List ℕ). 40 ∷ rest) spelled in
    subst (λ (y : List Kind × Kind). IsSignature (byte ∷ text) y) result.2
    (record { spelled = whole ∙ sym (descriptor_is parameters.0 result.0); few = are.few; thin = are.thin; result = ends.1 }))

-- ---- what is spelled so is read

kind_reaches : (kind : Kind) → IsTrue (is_thin_kind kind) → (kind_of (letter kind) ≡ Some kind) × (eqb (letter kind) 41 ≡ false)
kind_reaches Z thin = (refl, refl)
kind_reaches B thin = absurd cc
kind_reaches C thin = absurd cc
kind_reaches S thin = absurd cc
kind_reaches I thin = (refl, refl)

parameters_reach : (kinds : List Kind) (most : ℕ) (rest : List ℕ) → length kinds ≤ most → IsTrue (list_all is_thin_kind kinds) → parameters_of most (map letter kinds ++ 41 ∷ rest) ≡ Some (kinds, rest)
parameters_reach [] zero rest few thin = refl
parameters_reach [] (suc most) rest few thin = refl
parameters_reach (kind ∷ kinds) zero rest few thin = absurd (omega (arith, few))
parameters_reach (kind ∷ kinds) (suc most) rest few thin =
    let both = and_parts (is_thin_kind kind) (list_all is_thin_kind kinds) thin in
    let one = kind_reaches kind both.0 in
    rw (one.1, one.0, parameters_reach kinds most rest (omega (arith, few)) both.1) refl

pub signature_reaches : (kinds : List Kind) (result : Kind) → length kinds ≤ 8 → IsTrue (list_all is_thin_kind kinds) → IsTrue (is_thin_kind result) → signature_of (descriptor_of kinds result) ≡ Some (kinds, result)
signature_reaches kinds result few thin thin_result =
    let spelled : signature_of (40 ∷ (map letter kinds ++ 41 ∷ letter result ∷ [])) ≡ Some (kinds, result) = rw (parameters_reach kinds 8 (letter result ∷ []) few thin, (kind_reaches result thin_result).0) refl in
    ap signature_of (descriptor_is kinds result) ∙ spelled

-- ---- the loop

-- the kinds before, and what is still read behind them
abbrev pub with_kinds : List Kind → Option (List Kind × List ℕ) → Option (List Kind × List ℕ)
with_kinds front read = option_map (λ x. (front ++ x.0, x.1)) read

-- The kinds before, and what is still read behind them, are the parameters of this text.
pub record IsListing (text : List ℕ) (front : List Kind) (left : List ℕ) : Type 0 where
  pub most : ℕ
  pub room : most + length front ≡ 8
  pub reads : with_kinds front (parameters_of most left) ≡ parameters_of 8 text

with_no_kinds : (read : Option (List Kind × List ℕ)) → with_kinds [] read ≡ read
with_no_kinds (Some x) = refl
with_no_kinds None = refl

pub is_begun : (text : List ℕ) → IsListing text [] text
is_begun text = record { most = 8; room = omega arith; reads = with_no_kinds (parameters_of 8 text) }

-- the first kind joins the kinds before
regroup : (front : List Kind) (first : Kind) (read : Option (List Kind × List ℕ)) → with_kinds front (option_map (λ x. (first ∷ x.0, x.1)) read) ≡ with_kinds (front ++ first ∷ []) read
regroup front first (Some x) = ap (λ (all : List Kind). some (all, x.1)) (simp append_assoc)
regroup front first None = refl

-- a step with a parameter, where there is room
on_from : (text : List ℕ) (front : List Kind) (byte : ℕ) (left : List ℕ) (kind : Kind) (most : ℕ) → most + length front ≡ 8 → with_kinds front (parameters_of most (byte ∷ left)) ≡ parameters_of 8 text
    → length front < 8 → eqb byte 41 ≡ false → kind_of byte ≡ Some kind → IsListing text (front ++ kind ∷ []) left
on_from text front byte left kind zero room reads below other found = absurd (omega (arith, room, below))
on_from text front byte left kind (suc most) room reads below other found =
    let one : with_kinds front (parameters_of (suc most) (byte ∷ left)) ≡ with_kinds (front ++ kind ∷ []) (parameters_of most left) = rw (other, found) (regroup front kind (parameters_of most left)) in
    record { most = most; room = omega (arith, room, length-append front (kind ∷ [])); reads = sym one ∙ reads }

pub goes_on : (text : List ℕ) (front : List Kind) (byte : ℕ) (left : List ℕ) (kind : Kind) → IsListing text front (byte ∷ left) → length front < 8 → eqb byte 41 ≡ false → kind_of byte ≡ Some kind → IsListing text (front ++ kind ∷ []) left
goes_on text front byte left kind listing below other found = on_from text front byte left kind listing.most listing.room listing.reads below other found
