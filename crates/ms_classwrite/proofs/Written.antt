-- What is written, part after part.
use Rattle.std.proofs.Common.{false, ◌≡◌, ℕ, ◌+◌, List, [], ◌∷◌, ◌++◌, length, map, Result, Ok, Err, OnOk, refl, sym, ap, ◌∙◌, append_assoc, arith}
use Rattle.std.specs.List.{flat_map}
use Rattle.ms_pool.specs.Pools.{spelled_entry, spelled_pool, u2, width, is_wide_tag, tag_of}
use Rattle.ms_classwrite.specs.declared.lines.Line.{Line}
use Rattle.ms_classwrite.specs.declared.plan.PoolLine.{PoolLine}
use Rattle.ms_classwrite.specs.declared.plan.PoolLine.TheVariants.{Utf8, Integer, Class, Text, NameAndType, Field, Method}
use Rattle.ms_classwrite.specs.Lines.{line_view}
use Rattle.ms_classwrite.specs.Plans.{entry_of}

-- no line takes two numbers
pub not_wide : (line : PoolLine) → is_wide_tag (tag_of (entry_of line)) ≡ false
not_wide (Utf8 s) = refl
not_wide (Integer m) = refl
not_wide (Class i) = refl
not_wide (Text i) = refl
not_wide (NameAndType i j) = refl
not_wide (Field i j) = refl
not_wide (Method i j) = refl

pub width_is : (lines : List PoolLine) → width (map entry_of lines) ≡ length lines
width_is [] = refl
width_is (line ∷ lines) = rw (not_wide line, width_is lines) (omega arith)

entries_are : (lines : List Line) → flat_map (λ (line : Line). spelled_entry (entry_of (line_view line))) lines ≡ flat_map spelled_entry (map entry_of (map line_view lines))
entries_are [] = refl
entries_are (line ∷ lines) = ap (λ (rest : List ℕ). spelled_entry (entry_of (line_view line)) ++ rest) (entries_are lines)

-- the count and the entries are the pool
pub pool_is : (keys : List Line) (lines : List PoolLine) → map line_view keys ≡ lines → u2 (length lines + 1) ++ flat_map (λ (line : Line). spelled_entry (entry_of (line_view line))) keys ≡ spelled_pool (map entry_of lines)
pool_is keys lines is =
    ap (λ (n : ℕ). u2 (n + 1) ++ flat_map (λ (line : Line). spelled_entry (entry_of (line_view line))) keys) (sym (width_is lines))
    ∙ ap (λ (rest : List ℕ). u2 (width (map entry_of lines) + 1) ++ rest) (entries_are keys ∙ ap (λ (l : List PoolLine). flat_map spelled_entry (map entry_of l)) is)

-- one part was written, and then the rest
pub written : {X E : Type 0} (result : Result X E) (old between new first rest all : List ℕ) → OnOk result (new ≡ between ++ rest) → between ≡ old ++ first → first ++ rest ≡ all → OnOk result (new ≡ old ++ all)
written (Ok x) old between new first rest all last one is = last ∙ ap (λ (l : List ℕ). l ++ rest) one ∙ append_assoc old first rest ∙ ap (λ (l : List ℕ). old ++ l) is
written (Err e) old between new first rest all last one is = tt

-- three parts were written
pub three_written : {X E : Type 0} (result : Result X E) (old one two new a b c : List ℕ) → one ≡ old ++ a → two ≡ one ++ b → OnOk result (new ≡ two ++ c) → OnOk result (new ≡ old ++ (a ++ b ++ c))
three_written (Ok x) old one two new a b c first second last = last ∙ rw (second, first) (simp append_assoc)
three_written (Err e) old one two new a b c first second last = tt

-- four parts were written
pub four_written : {X E : Type 0} (result : Result X E) (old one two three new a b c d : List ℕ) → one ≡ old ++ a → two ≡ one ++ b → three ≡ two ++ c → OnOk result (new ≡ three ++ d) → OnOk result (new ≡ old ++ (a ++ b ++ c ++ d))
four_written (Ok x) old one two three new a b c d first second third last = last ∙ rw (third, second, first) (simp append_assoc)
four_written (Err e) old one two three new a b c d first second third last = tt
