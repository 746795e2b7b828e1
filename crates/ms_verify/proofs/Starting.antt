-- The slots at the start.
use Rattle.std.proofs.Common.{◌≡◌, ℕ, zero, suc, ◌+◌, ◌-◌, ◌<◌, ◌≤◌, true, false, List, [], ◌∷◌, ◌++◌, length, map, replicate, get_or, slice_get, slice_set, unwrap_or, Some, None, refl, sym, ap, ap₂, ◌∙◌, subst, arith, add-one}
use Rattle.std.proofs.lemmas.List.Elements.{All-cons, All-replicate}
use Rattle.ms_words.specs.declared.descriptor.FieldType.{FieldType}
use Rattle.ms_typing.specs.declared.kind.PlaceKind.{PlaceKind}
use Rattle.ms_typing.specs.declared.kind.PlaceKind.TheVariants.{Unset}
use Rattle.ms_typing.specs.Rules.{kind_of}
use Rattle.ms_typing.specs.Verifier.{Unreached, Waiting, entered, filled, start}
use Rattle.ms_verify.specs.declared.line.Code.{Code}
use Rattle.ms_verify.specs.declared.shape.Slot.{Slot}
use Rattle.ms_verify.specs.Told.{AllHave, HasLocals, cells_of, method_told, profile_told}
use Rattle.ms_verify.proofs.Turning.{lines_long}

-- LOCALS

-- one more place is filled, with the kind there, if there is one
filled_next : (n : ℕ) (kinds : List PlaceKind) → filled (suc n) kinds ≡ filled n kinds ++ unwrap_or (slice_get kinds n) Unset ∷ []
filled_next zero [] = refl
filled_next zero (kind ∷ kinds) = refl
filled_next (suc n) [] = ap (λ x. Unset ∷ x) (filled_next n [])
filled_next (suc n) (kind ∷ kinds) = ap (λ x. kind ∷ x) (filled_next n kinds)

kind_there : (n : ℕ) (parameters : List FieldType) (d : FieldType) → n < length parameters → unwrap_or (slice_get (map kind_of parameters) n) Unset ≡ kind_of (get_or parameters n d)
kind_there n [] d l = absurd (omega arith)
kind_there zero (parameter ∷ parameters) d l = refl
kind_there (suc n) (parameter ∷ parameters) d l = kind_there n parameters d (omega arith)

none_there : (n : ℕ) (parameters : List FieldType) → length parameters ≤ n → unwrap_or (slice_get (map kind_of parameters) n) Unset ≡ Unset
none_there n [] l = refl
none_there zero (parameter ∷ parameters) l = absurd (omega arith)
none_there (suc n) (parameter ∷ parameters) l = none_there n parameters (omega arith)

-- the same, of the list as the loop has it
local_pushed : (n : ℕ) (kinds locals now : List PlaceKind) (kind : PlaceKind) → unwrap_or (slice_get kinds n) Unset ≡ kind → locals ≡ filled n kinds → now ≡ locals ++ kind ∷ [] → now ≡ filled (n + 1) kinds
local_pushed n kinds locals now kind e f g = g ∙ (ap₂ (λ x y. x ++ y ∷ []) f (sym e) ∙ (sym (filled_next n kinds) ∙ ap (λ x. filled x kinds) (sym (add-one n))))

pub parameter_pushed : (n : ℕ) (parameters : List FieldType) (locals now : List PlaceKind) (kind : PlaceKind) (parameter : FieldType) → n < length parameters
    → parameter ≡ get_or parameters n parameter → kind ≡ kind_of parameter
    → locals ≡ filled n (map kind_of parameters) → now ≡ locals ++ kind ∷ [] → now ≡ filled (n + 1) (map kind_of parameters)
parameter_pushed n parameters locals now kind parameter l e k f g = local_pushed n (map kind_of parameters) locals now kind (kind_there n parameters parameter l ∙ (ap kind_of (sym e) ∙ sym k)) f g

pub unset_pushed : (n : ℕ) (parameters : List FieldType) (locals now : List PlaceKind) (kind : PlaceKind) → length parameters ≤ n → kind ≡ Unset
    → locals ≡ filled n (map kind_of parameters) → now ≡ locals ++ kind ∷ [] → now ≡ filled (n + 1) (map kind_of parameters)
unset_pushed n parameters locals now kind l k f g = local_pushed n (map kind_of parameters) locals now kind (none_there n parameters l ∙ sym k) f g

filled_long : (n : ℕ) (kinds : List PlaceKind) → length (filled n kinds) ≡ n
filled_long zero kinds = refl
filled_long (suc n) [] = ap suc (filled_long n [])
filled_long (suc n) (kind ∷ kinds) = ap suc (filled_long n kinds)

-- SLOTS

-- the first slot, and each other one
abbrev pub first_slot : Code → Slot
first_slot code = record { shape = Some (entered (profile_told code)); waits = true }

abbrev pub no_slot : Slot
no_slot = record { shape = None; waits = false }

cells_unreached : (n : ℕ) → cells_of (replicate n no_slot) ≡ replicate n Unreached
cells_unreached zero = refl
cells_unreached (suc n) = ap (λ x. Unreached ∷ x) (cells_unreached n)

-- together they are the start
slots_start : (code : Code) (slots : List Slot) (n : ℕ) → length code.lines.items ≡ suc n → slots ≡ first_slot code ∷ replicate n no_slot → cells_of slots ≡ start (method_told code)
slots_start code slots n e f = ap cells_of f
    ∙ (ap (λ x. Waiting (entered (profile_told code)) ∷ x) (cells_unreached n)
    ∙ ap (λ k. slice_set (replicate k Unreached) 0 (Waiting (entered (profile_told code)))) (sym (lines_long code.handlers.now 0 code.lines.items ∙ e)))

pub all_started : (code : Code) (slots : List Slot) (count : ℕ) → 0 < length code.lines.items → length code.lines.items ≤ count → count ≤ length code.lines.items
    → slots ≡ first_slot code ∷ replicate (count - 1) no_slot → cells_of slots ≡ start (method_told code)
all_started code slots count l m n e = slots_start code slots (count - 1) (omega arith) e

-- and all have the locals of the method
pub all_sized : (code : Code) (slots : List Slot) (n : ℕ) → slots ≡ first_slot code ∷ replicate n no_slot → AllHave code.max_locals slots
all_sized code slots n e = subst (AllHave code.max_locals) (sym e)
    (All-cons (HasLocals code.max_locals) (first_slot code) (replicate n no_slot) (record { have = filled_long code.max_locals _ }) (All-replicate (HasLocals code.max_locals) n no_slot (record { have = tt })))

-- one slot more
replicate_next : (n : ℕ) → replicate n no_slot ++ no_slot ∷ [] ≡ replicate (suc n) no_slot
replicate_next zero = refl
replicate_next (suc n) = ap (λ x. no_slot ∷ x) (replicate_next n)

pub slots_next : (code : Code) (count : ℕ) (slots now : List Slot) → 1 ≤ count → slots ≡ first_slot code ∷ replicate (count - 1) no_slot → now ≡ slots ++ no_slot ∷ []
    → now ≡ first_slot code ∷ replicate (count + 1 - 1) no_slot
slots_next code count slots now l e f = f
    ∙ (ap (λ x. x ++ no_slot ∷ []) e ∙ ap (λ x. first_slot code ∷ x) (replicate_next (count - 1) ∙ ap (λ k. replicate k no_slot) (let h : suc (count - 1) ≡ count + 1 - 1 = omega arith in h)))

-- a code with bytes has lines
pub has_lines : (code : Code) → 0 < length code.lines.items → 0 < length (method_told code).lines
has_lines code l = subst (λ k. 0 < k) (sym (lines_long code.handlers.now 0 code.lines.items)) l
