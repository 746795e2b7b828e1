-- The case of a switch that a word selects.
use Rattle.std.proofs.Common.{◌≡◌, ℕ, suc, ◌+◌, ◌<◌, ◌≤◌, ℤ, Bool, true, false, cond, List, length, map, drop, drop_of_length-le, get_or, sym, ap, ◌∙◌, arith}
use Rattle.std.proofs.lemmas.List.{drop_more}
use Rattle.ms_words.specs.Relations.{int_eq}
use Rattle.ms_code.specs.declared.instruction.Case.{Case}
use Rattle.ms_machine.specs.Tests.{case_of}

-- the keys of cases
abbrev pub keys : List Case → List ℤ
keys cases = map (λ (case : Case). case.key) cases

-- so many cases have other keys
abbrev pub IsBehind : ℤ → List Case → ℕ → Type 0
IsBehind word cases i = case_of word (keys cases) ≡ i + case_of word (keys (drop i cases))

pub found : (word : ℤ) (cases : List Case) (i : ℕ) (case : Case) → i < length cases → IsBehind word cases i → int_eq word (get_or cases i case).key ≡ true → i ≡ case_of word (keys cases)
found word cases i case within behind is =
    sym (behind ∙ ap (λ (left : List Case). i + case_of word (keys left)) (drop_more cases i case within)
    ∙ ap (λ (b : Bool). i + cond b 0 (suc (case_of word (keys (drop (i + 1) cases))))) is ∙ omega arith)

pub passed : (word : ℤ) (cases : List Case) (i : ℕ) (case : Case) → i < length cases → IsBehind word cases i → int_eq word (get_or cases i case).key ≡ false → IsBehind word cases (i + 1)
passed word cases i case within behind is =
    behind ∙ ap (λ (left : List Case). i + case_of word (keys left)) (drop_more cases i case within)
    ∙ ap (λ (b : Bool). i + cond b 0 (suc (case_of word (keys (drop (i + 1) cases))))) is ∙ omega arith

pub none_left : (word : ℤ) (cases : List Case) (i : ℕ) → length cases ≤ i → i ≤ length cases → IsBehind word cases i → length cases ≡ case_of word (keys cases)
none_left word cases i past within behind =
    let all : i ≡ length cases = omega (arith, past, within) in
    sym (behind ∙ ap (λ (left : List Case). i + case_of word (keys left)) (drop_of_length-le cases past) ∙ omega (arith, all))
