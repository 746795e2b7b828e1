-- Lent lines are compared as the lines are.
use Rattle.std.proofs.Common.{◌≡◌, Bool, true, false, cond, not, List, [], ◌∷◌, ◌++◌, length, map, position, refl, ap, arith, inl, inr, unwrap_or}
use Rattle.std.specs.Prelude.{◌||◌}
use Rattle.std.specs.List.{list_any, position_or_len}
use Rattle.std.proofs.lemmas.Bool.{cases_lt, lt-ltb, le-ltb}
use Rattle.std.proofs.lemmas.List.{map_push}
use Rattle.std.proofs.lemmas.List.Sums.{prefix_len-le-length}
use Rattle.indexmap.specs.IndexSet.{insert_key}
use Rattle.ms_classwrite.specs.contracts.lines.LinePartialEq.TheImpl.{eq-value}
use Rattle.ms_classwrite.specs.declared.lines.Line.{Line}
use Rattle.ms_classwrite.specs.declared.lines.Line.TheVariants.{Utf8, Integer, Class, Text, NameAndType, Field, Method}
use Rattle.ms_classwrite.specs.declared.plan.PoolLine.{PoolLine}
use Rattle.ms_classwrite.specs.Layout.{with_line}
use Rattle.ms_classwrite.specs.Lines.{line_view}
use Rattle.ms_classwrite.specs.Plans.{same_line}

abbrev pub same_lent : Line → Line → Bool
same_lent = eq-value.it

pub same_seen : (a b : Line) → same_lent a b ≡ same_line (line_view a) (line_view b)
same_seen (Utf8 i) (Utf8 k) = refl
same_seen (Utf8 i) (Integer k) = refl
same_seen (Utf8 i) (Class k) = refl
same_seen (Utf8 i) (Text k) = refl
same_seen (Utf8 i) (NameAndType k l) = refl
same_seen (Utf8 i) (Field k l) = refl
same_seen (Utf8 i) (Method k l) = refl
same_seen (Integer i) (Integer k) = refl
same_seen (Integer i) (Utf8 k) = refl
same_seen (Integer i) (Class k) = refl
same_seen (Integer i) (Text k) = refl
same_seen (Integer i) (NameAndType k l) = refl
same_seen (Integer i) (Field k l) = refl
same_seen (Integer i) (Method k l) = refl
same_seen (Class i) (Class k) = refl
same_seen (Class i) (Utf8 k) = refl
same_seen (Class i) (Integer k) = refl
same_seen (Class i) (Text k) = refl
same_seen (Class i) (NameAndType k l) = refl
same_seen (Class i) (Field k l) = refl
same_seen (Class i) (Method k l) = refl
same_seen (Text i) (Text k) = refl
same_seen (Text i) (Utf8 k) = refl
same_seen (Text i) (Integer k) = refl
same_seen (Text i) (Class k) = refl
same_seen (Text i) (NameAndType k l) = refl
same_seen (Text i) (Field k l) = refl
same_seen (Text i) (Method k l) = refl
same_seen (NameAndType i j) (NameAndType k l) = refl
same_seen (NameAndType i j) (Utf8 k) = refl
same_seen (NameAndType i j) (Integer k) = refl
same_seen (NameAndType i j) (Class k) = refl
same_seen (NameAndType i j) (Text k) = refl
same_seen (NameAndType i j) (Field k l) = refl
same_seen (NameAndType i j) (Method k l) = refl
same_seen (Field i j) (Field k l) = refl
same_seen (Field i j) (Utf8 k) = refl
same_seen (Field i j) (Integer k) = refl
same_seen (Field i j) (Class k) = refl
same_seen (Field i j) (Text k) = refl
same_seen (Field i j) (NameAndType k l) = refl
same_seen (Field i j) (Method k l) = refl
same_seen (Method i j) (Method k l) = refl
same_seen (Method i j) (Utf8 k) = refl
same_seen (Method i j) (Integer k) = refl
same_seen (Method i j) (Class k) = refl
same_seen (Method i j) (Text k) = refl
same_seen (Method i j) (NameAndType k l) = refl
same_seen (Method i j) (Field k l) = refl

pub any_seen : (keys : List Line) (k : Line) → list_any (same_lent k) keys ≡ list_any (same_line (line_view k)) (map line_view keys)
any_seen [] k = refl
any_seen (key ∷ keys) k = rw (same_seen k key, any_seen keys k) refl

pub place_seen : (keys : List Line) (k : Line) → position_or_len (same_lent k) keys ≡ position_or_len (same_line (line_view k)) (map line_view keys)
place_seen [] k = refl
place_seen (key ∷ keys) k = rw (same_seen k key, place_seen keys k) refl

pub added_seen : (keys : List Line) (k : Line) → map line_view (insert_key same_lent keys k) ≡ with_line (map line_view keys) (line_view k)
added_seen keys k = by_test (list_any (same_lent k) keys) (list_any (same_line (line_view k)) (map line_view keys)) (any_seen keys k)
  where
    by_test : (b b' : Bool) → b ≡ b' → map line_view (cond b keys (keys ++ k ∷ [])) ≡ cond b' (map line_view keys) (map line_view keys ++ line_view k ∷ [])
    by_test true true e = refl
    by_test false false e = map_push line_view keys k
    by_test true false e = absurd cc
    by_test false true e = absurd cc

-- a place, or the length where there is none
pub place_or_len : {X : Type 0} (p : X → Bool) (xs : List X) → unwrap_or (position p xs) (length xs) ≡ position_or_len p xs
place_or_len p xs = elim (cases_lt (position_or_len p xs) (length xs)) [
  | inl below ↦ rw (lt-ltb _ _ below) refl
  | inr past ↦ rw (le-ltb _ _ past) (omega (arith, past, prefix_len-le-length (λ x. not (p x)) xs))
]

-- a test of lines finds one among the lent ones
pub any_viewed : (p : PoolLine → Bool) (keys : List Line) → list_any p (map line_view keys) ≡ list_any (λ (key : Line). p (line_view key)) keys
any_viewed p [] = refl
any_viewed p (key ∷ keys) = ap (λ (b : Bool). p (line_view key) || b) (any_viewed p keys)
