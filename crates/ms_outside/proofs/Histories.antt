-- What notes of a fetch make of what was asked.
use Rattle.std.proofs.Common.{◌≡◌, ℕ, List, [], ◌∷◌, ◌++◌, fold, Option, refl, sym, ap, ◌∙◌, append-nil}
use Rattle.std.proofs.lemmas.List.{append_assoc}
use Rattle.ms_outside.specs.Histories.{with_byte}
use Rattle.ms_outside.specs.Shelves.{Answer, Asking}

byte_added : (asked : List Asking) (name : List ℕ) (answer : Option Answer) (byte : ℕ) → with_byte (asked ++ (name, answer) ∷ []) byte ≡ asked ++ (name ++ byte ∷ [], answer) ∷ []
byte_added [] name answer byte = refl
byte_added (first ∷ []) name answer byte = refl
byte_added (first ∷ (second ∷ others)) name answer byte = ap (λ l. first ∷ l) (byte_added (second ∷ others) name answer byte)

-- the bytes that follow an answer are its name's
pub named : (asked : List Asking) (name : List ℕ) (answer : Option Answer) (bytes : List ℕ) → fold with_byte (asked ++ (name, answer) ∷ []) bytes ≡ asked ++ (name ++ bytes, answer) ∷ []
named asked name answer [] = ap (λ n. asked ++ (n, answer) ∷ []) (sym (append-nil name))
named asked name answer (byte ∷ bytes) =
    ap (λ l. fold with_byte l bytes) (byte_added asked name answer byte)
    ∙ named asked (name ++ byte ∷ []) answer bytes
    ∙ ap (λ n. asked ++ (n, answer) ∷ []) (append_assoc name (byte ∷ []) bytes)
