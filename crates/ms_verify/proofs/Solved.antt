-- The types of a program whose methods are accepted, and that each method's are a solution.
use Rattle.std.proofs.Common.{◌≡◌, ◌<◌, ℕ, zero, suc, List, [], length, replicate, slice_set, IsTrue, Option, Some, None, option_map, refl, sym, ap, ap₂, ◌∙◌, subst, arith}
use Rattle.ms_words.specs.declared.item.Item.{Item}
use Rattle.ms_words.specs.declared.item.Item.TheVariants.{Entry, At}
use Rattle.ms_code.specs.declared.instruction.Instr as code
use Rattle.ms_code.specs.Opcodes.{form_of}
use Rattle.ms_program.specs.Laws.{HasFirstItems, IsOfSubset, LeadsToViews}
use Rattle.ms_program.specs.Programs.{Program}
use Rattle.ms_program.specs.Views as views
use Rattle.ms_program.specs.Views.{view}
use Rattle.ms_program.proofs.Picking.{some_is}
use Rattle.ms_linking.specs.Groups.{group_of}
use Rattle.ms_linking.specs.Laws.{go_together}
use Rattle.ms_typing.specs.Kinds.{Shape}
use Rattle.ms_typing.specs.Solutions.{Admits, HasOneOutcome, IsSolution, LastAreLeast, shape_at}
use Rattle.ms_typing.specs.Typed.{Leads, Typing, Typings}
use Rattle.ms_typing.specs.Verifier.{Accepted, Cell, Ends, Method, Outcome, Rests, Stops, Turns, Unreached, Verifies, Waiting, entered, lowest, start}
use Rattle.ms_verify.specs.Laws.{AreLastShapes, typed}
use Rattle.ms_verify.specs.Methods.{AllAccepted, method_of}

-- THE LAST SHAPES OF EACH METHOD

-- last shapes by the numbers of a class and of a method, with which each method is accepted
abbrev pub AreLast : Program → (ℕ → ℕ → List Cell) → Type 0
AreLast P cells = (class number : ℕ) (method : Method) → method_of P class number ≡ Some method → Verifies method (Accepted (cells class number))

-- those of a method, if there is one
abbrev Last : Option Method → Type 0
Last found = (cells : List Cell) × ((method : Method) → found ≡ Some method → Verifies method (Accepted cells))

last_of : (P : Program) → AllAccepted P → (class number : ℕ) (found : Option Method) → method_of P class number ≡ found → Last found
last_of P all class number None is = ([], λ method e. absurd (let f = e in cc))
last_of P all class number (Some method) is =
    let accepted = all class number method is in
    (accepted.0, λ other e. subst (λ m. Verifies m (Accepted accepted.0)) (some_is method other e) accepted.1)

-- where all are accepted there are such
pub last_shapes : (P : Program) → AllAccepted P → (cells : ℕ → ℕ → List Cell) × AreLast P cells
last_shapes P all =
    (λ class number. (last_of P all class number (method_of P class number) refl).0, λ class number. (last_of P all class number (method_of P class number) refl).1)

last_is : (cells others : List Cell) → Accepted cells ≡ Accepted others → cells ≡ others
last_is cells others is = cc

-- TYPES

-- the shape at an offset of a method with the method's result, where there is one
abbrev pub typing_of : Option Method → Option Shape → Option Typing
typing_of None shape = None
typing_of (Some method) shape = option_map (typed method) shape

-- the types of a program with these last shapes
abbrev pub typings : Program → (ℕ → ℕ → List Cell) → Typings
typings P cells Entry = None
typings P cells (At class number offset) = typing_of (method_of P class number) (shape_at (cells class number) offset)

-- they are the last shapes, since a method has one outcome
pub are_last_shapes : (P : Program) (cells : ℕ → ℕ → List Cell) → AreLast P cells → ((class number : ℕ) (method : Method) → method_of P class number ≡ Some method → HasOneOutcome method) → AreLastShapes P (typings P cells)
are_last_shapes P cells last one class number method shapes is accepted offset =
    let outcome = one class number method is in
    let same : shapes ≡ cells class number = last_is shapes (cells class number) (outcome.only (Accepted shapes) accepted ∙ sym (outcome.only (Accepted (cells class number)) (last class number method is))) in
    ap₂ typing_of is (ap (λ c. shape_at c offset) (sym same))

-- an offset of a method takes what its last shapes take there
pub leads_there : (P : Program) (cells : ℕ → ℕ → List Cell) (class number offset : ℕ) (method : Method) (shape : Shape) (to : Option Item) → method_of P class number ≡ Some method → to ≡ Some (At class number offset)
    → Admits (cells class number) offset shape → Leads (typings P cells) method.profile.result to shape
leads_there P cells class number offset method shape to is to_is takes = record {
  item = At class number offset;
  is = to_is;
  wider = takes.wider;
  at = ap₂ typing_of is takes.at;
  within = takes.within;
}

-- METHODS THAT ARE ACCEPTED

-- where no offset waits at the start, there is no shape at the end
none_at_end : (method : Method) (cells : List Cell) (outcome : Outcome) → cells ≡ [] → Ends method cells outcome → outcome ≡ Accepted []
none_at_end method cells outcome none (Rests from rests) = ap Accepted none
none_at_end method cells outcome none (Stops from waiting offset why is fails) = absurd (let e = ap lowest none in cc)
none_at_end method cells outcome none (Turns from waiting next ended is leaves more) = absurd (let e = ap lowest none in cc)

-- a method with a shape at the end has a code
has_code : (method : Method) (last : List Cell) → Verifies method (Accepted last) → (offset : ℕ) (shape : Shape) → shape_at last offset ≡ Some shape → 0 < length method.lines
has_code method last accepted offset shape at = by_count (length method.lines) refl
  where
    by_count : (count : ℕ) → length method.lines ≡ count → 0 < count
    by_count (suc count) is = omega arith
    by_count zero is =
        let none : start method ≡ [] = ap (λ n. slice_set (replicate n Unreached) 0 (Waiting (entered method.profile))) is in
        let ends : last ≡ [] = last_is last [] (none_at_end method (start method) (Accepted last) none accepted) in
        absurd (let e = ap (λ cells. shape_at cells offset) ends in cc)

-- what the laws say of a program with these last shapes
pub record IsKnown (P : Program) (cells : ℕ → ℕ → List Cell) : Type 0 where
  pub last : AreLast P cells
  pub least : (method : Method) (last : List Cell) → 0 < length method.lines → Verifies method (Accepted last) → LastAreLeast method last
  pub together : (op : ℕ) → IsTrue (go_together (form_of op) (group_of op))
  pub of_subset : (class number offset : ℕ) (v : views.View) → view P (At class number offset) ≡ Some v → (instr : code.Instr) × (v.instr ≡ Some instr) × IsOfSubset v instr
  pub firsts : (item : Item) (v : views.View) → view P item ≡ Some v → HasFirstItems v
  pub leads : (item : Item) (v : views.View) → view P item ≡ Some v → LeadsToViews P v

module _ (P : Program) (cells : ℕ → ℕ → List Cell) (known : IsKnown P cells) (class number : ℕ) (method : Method) (is : method_of P class number ≡ Some method) where
  -- the last shapes of a method that has a code are a solution
  pub solves : 0 < length method.lines → IsSolution method (cells class number)
  solves code = (known.least method (cells class number) code (known.last class number method is)).solution

  -- and so are those of one that has a shape
  pub solves_reached : (offset : ℕ) (shape : Shape) → shape_at (cells class number) offset ≡ Some shape → IsSolution method (cells class number)
  solves_reached offset shape at = solves (has_code method (cells class number) (known.last class number method is) offset shape at)
