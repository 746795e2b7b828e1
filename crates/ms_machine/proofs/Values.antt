-- The kinds of ints are images of one another.
use Rattle.std.proofs.Common.{◌≡◌, suc, ℤ, pos, ◌&&◌, cond, List, [], ◌∷◌, ◌++◌, map, length, Some, None, slice_get, unwrap_or, refl, sym, ap, ◌∙◌, arith, append_assoc, length-append}
use Rattle.ms_words.specs.declared.kind.Kind.{Kind}
use Rattle.ms_words.specs.declared.operator.Un.{Un}
use Rattle.ms_words.specs.declared.operator.Bin.{Bin}
use Rattle.ms_words.specs.Words.{applied1, applied2}
use Rattle.ms_words.specs.Inputs.{Words}
use Rattle.ms_terms.specs.Terms.{Term, Constant, Param, Unary, Binary, unary, binary, constant_of, is_constant, value}
use Rattle.ms_machine.specs.Ints.{ints, marks, shadows}
use Rattle.ms_machine.specs.Maps.{Respects}
use Rattle.ms_machine.specs.Runs.{given, given_from}
use Rattle.ms_machine.specs.Laws.{IsWhole, int_of, mark_of, parameters_from}

-- a folded term has its operator's value
value_unary : (words : List ℤ) (op : Un) (a : Term) → value words (unary op a) ≡ applied1 op (value words a)
value_unary words op (Constant v) = refl
value_unary words op (Param i k) = refl
value_unary words op (Unary o c) = refl
value_unary words op (Binary o c d) = refl

value_binary : (words : List ℤ) (op : Bin) (a b : Term) → value words (binary op a b) ≡ applied2 op (value words a) (value words b)
value_binary words op (Constant v) (Constant w) = refl
value_binary words op (Constant v) (Param j k) = refl
value_binary words op (Constant v) (Unary o c) = refl
value_binary words op (Constant v) (Binary o c d) = refl
value_binary words op (Param i k) b = refl
value_binary words op (Unary o c) b = refl
value_binary words op (Binary o c d) b = refl

known_value : (words : List ℤ) (a : Term) → cond (is_constant a) (Some (value words a)) None ≡ constant_of a
known_value words (Constant w) = refl
known_value words (Param i k) = refl
known_value words (Unary o c) = refl
known_value words (Binary o c d) = refl

pub values_respect : (words : List ℤ) → Respects shadows ints (int_of words)
values_respect words = record {
  constant = λ word. refl;
  unary = λ op a. ap (λ w. record { word = w; shadow = unary op a }) (value_unary words op a);
  binary = λ op a b. ap (λ w. record { word = w; shadow = binary op a b }) (value_binary words op a b);
  known = known_value words;
}

constant_unary : (op : Un) (a : Term) → is_constant (unary op a) ≡ is_constant a
constant_unary op (Constant v) = refl
constant_unary op (Param i k) = refl
constant_unary op (Unary o c) = refl
constant_unary op (Binary o c d) = refl

constant_binary : (op : Bin) (a b : Term) → is_constant (binary op a b) ≡ is_constant a && is_constant b
constant_binary op (Constant v) (Constant w) = refl
constant_binary op (Constant v) (Param j k) = refl
constant_binary op (Constant v) (Unary o c) = refl
constant_binary op (Constant v) (Binary o c d) = refl
constant_binary op (Param i k) b = refl
constant_binary op (Unary o c) b = refl
constant_binary op (Binary o c d) b = refl

pub marks_respect : Respects ints marks mark_of
marks_respect = record {
  constant = λ word. refl;
  unary = λ op a. ap (λ plain. record { word = applied1 op a.word; plain = plain }) (constant_unary op a.shadow);
  binary = λ op a b. ap (λ plain. record { word = applied2 op a.word b.word; plain = plain }) (constant_binary op a.shadow b.shadow);
  known = λ a. refl;
}

-- THE PARAMETERS

get_behind : (front : List ℤ) (word : ℤ) (rest : List ℤ) → slice_get (front ++ word ∷ rest) (length front) ≡ Some word
get_behind [] word rest = refl
get_behind (w ∷ front) word rest = get_behind front word rest

given_at : (front : List ℤ) (kinds : List Kind) (rest : List ℤ) → length rest ≡ length kinds → given_from (length front) kinds rest ≡ map (int_of (front ++ rest)) (parameters_from (length front) kinds)
given_at front [] [] whole = refl
given_at front [] (word ∷ rest) whole = absurd (omega arith)
given_at front (kind ∷ kinds) [] whole = absurd (omega arith)
given_at front (kind ∷ kinds) (word ∷ rest) whole =
    let first : record { word = word; shadow = Param (length front) kind } ≡ int_of (front ++ word ∷ rest) (Param (length front) kind) =
    ap (λ o. record { word = unwrap_or o (pos 0); shadow = Param (length front) kind }) (sym (get_behind front word rest)) in
    let longer : length (front ++ word ∷ []) ≡ suc (length front) = omega (arith, length-append front (word ∷ [])) in
    let more : given_from (suc (length front)) kinds rest ≡ map (int_of (front ++ word ∷ rest)) (parameters_from (suc (length front)) kinds) =
    ap (λ n. given_from n kinds rest) (sym longer) ∙ given_at (front ++ word ∷ []) kinds rest (omega arith)
    ∙ ap (λ n. map (int_of ((front ++ word ∷ []) ++ rest)) (parameters_from n kinds)) longer
    ∙ ap (λ words. map (int_of words) (parameters_from (suc (length front)) kinds)) (append_assoc front (word ∷ []) rest) in
    λ i. first i ∷ more i

pub given_values : (x : Words) → IsWhole x → given x ≡ map (int_of x.words) (parameters_from 0 x.kinds)
given_values x whole = given_at [] x.kinds x.words whole
