-- Every method that has a code has an outcome, and one only: each turn leaves cells of less weight.
use Rattle.std.proofs.Common.{◌≡◌, ℕ, zero, suc, ◌+◌, ◌*◌, ◌<◌, ◌≤◌, Bool, true, false, cond, List, [], ◌∷◌, ◌++◌, length, map, nat_le, Option, Some, None, slice_get, slice_set, refl, sym, ap, ◌∙◌, subst, inl, inr, arith}
use Rattle.std.specs.Prelude.{is_none}
use Rattle.std.proofs.lemmas.Bool.{and_parts, leb-true}
use Rattle.ms_words.specs.declared.thrown.Thrown.{Thrown}
use Rattle.ms_typing.specs.declared.kind.PlaceKind.TheVariants as kinds
use Rattle.ms_typing.specs.declared.kind.VerifyKind.{VerifyKind}
use Rattle.ms_typing.specs.declared.kind.VerifyKind.TheVariants.{Depth}
use Rattle.ms_typing.specs.Kinds.{Shape, joined, same_shape}
use Rattle.ms_typing.specs.Rules.{Profile, after, fault, first_fault, has_depth, takes, tests}
use Rattle.ms_typing.specs.Verifier.{Accepted, Cell, Ends, Fails, Fault, Leaves, Line, Method, Outcome, Rests, Settled, Stops, Turn, Turns, Unreached, Verifies, Waiting, and_then, given, line_at, lowest, pass_all, passes, received, same_depth, start, successors, taken, to_handler, turn, unless_at_fault}
use Rattle.ms_typing.specs.Solutions.{shape_in}
use Rattle.ms_typing.proofs.Classes.{some_is}
use Rattle.ms_typing.proofs.Joins.{heights, heights_most, joined_shape_lower, joined_shape_not_higher, shape_height}
use Rattle.ms_typing.proofs.Sound.{Sofar, after_sized, leaves_is, lowest_waits, start_holds, turn_keeps}

-- WEIGHTS

-- how often a cell may still change, where at most so many changes come once it is reached
abbrev pub weight : (unreached : ℕ) → Cell → ℕ
weight unreached Unreached = unreached
weight unreached (Settled shape) = 2 * shape_height shape
weight unreached (Waiting shape) = 2 * shape_height shape + 1

-- how often cells may, in all
abbrev pub weights : (unreached : ℕ) → List Cell → ℕ
weights unreached [] = 0
weights unreached (cell ∷ cells) = weight unreached cell + weights unreached cells

-- more than the weight of any cell of a method that is reached; a handler is passed one place even where the method has none
abbrev pub most : Profile → ℕ
most profile = 14 * (profile.max_locals + profile.max_stack + 1) + 2

-- with one cell changed
weights_set : (n : ℕ) (cells : List Cell) (offset : ℕ) (old new : Cell) → slice_get cells offset ≡ Some old → weights n (slice_set cells offset new) + weight n old ≡ weights n cells + weight n new
weights_set n [] offset old new e = cc
weights_set n (cell ∷ cells) zero old new e = let f : cell ≡ old = some_is cell old e in rw f (omega arith)
weights_set n (cell ∷ cells) (suc offset) old new e = omega (arith, weights_set n cells offset old new e)

-- an offset that receives something isn't heavier for it
received_lower : (n : ℕ) (old new : Cell) (shape : Shape) → 2 * shape_height shape < n → received old shape ≡ Some new → weight n new ≤ weight n old
received_lower n Unreached new shape l e = rw (sym (some_is _ _ e)) (omega arith)
received_lower n (Waiting held) new shape l e = go (same_depth held shape) e
  where
    go : (x : Bool) → cond x (Some (Waiting (joined held shape))) None ≡ Some new → weight n new ≤ 2 * shape_height held + 1
    go false h = cc
    go true h = subst (λ x. weight n x ≤ 2 * shape_height held + 1) (some_is (Waiting (joined held shape)) new h) (omega (arith, joined_shape_not_higher held shape))
received_lower n (Settled held) new shape l e = go (same_depth held shape) (same_shape (joined held shape) held) refl e
  where
    go : (x y : Bool) → same_shape (joined held shape) held ≡ y → cond x (Some (cond y (Settled held) (Waiting (joined held shape)))) None ≡ Some new → weight n new ≤ 2 * shape_height held
    go false y f h = cc
    go true true f h = subst (λ x. weight n x ≤ 2 * shape_height held) (some_is (Settled held) new h) (omega arith)
    go true false f h = subst (λ x. weight n x ≤ 2 * shape_height held) (some_is (Waiting (joined held shape)) new h) (elim (joined_shape_lower held shape) [ inl g ↦ cc | inr k ↦ omega arith ])

-- so cells aren't where all is passed on, if each shape that is passed is light
abbrev AllLight : ℕ → List (ℕ × Shape) → Type 0
AllLight n [] = Unit {0}
AllLight n (passed ∷ others) = (2 * shape_height passed.1 < n) × AllLight n others

pass_all_lower : (n : ℕ) (passed : List (ℕ × Shape)) (cells next : List Cell) → AllLight n passed → pass_all cells passed ≡ Leaves next → weights n next ≤ weights n cells
pass_all_lower n [] cells next q e = omega (arith, ap (weights n) (leaves_is cells next e))
pass_all_lower n (p ∷ passed) cells next q e = found (slice_get cells p.0) refl (λ new. pass_all_lower n passed (slice_set cells p.0 new) next q.1) e
  where
    got : (old : Cell) → slice_get cells p.0 ≡ Some old → (o : Option Cell) → received old p.1 ≡ o → ((new : Cell) → pass_all (slice_set cells p.0 new) passed ≡ Leaves next → weights n next ≤ weights n (slice_set cells p.0 new))
        → and_then cells p.0 o (λ changed. pass_all changed passed) ≡ Leaves next → weights n next ≤ weights n cells
    got old f None r ih h = cc
    got old f (Some new) r ih h = omega (arith, ih new h, weights_set n cells p.0 old new f, received_lower n old new p.1 q.0 r)

    found : (o : Option Cell) → slice_get cells p.0 ≡ o → ((new : Cell) → pass_all (slice_set cells p.0 new) passed ≡ Leaves next → weights n next ≤ weights n (slice_set cells p.0 new))
        → and_then cells p.0 (given o p.1) (λ changed. pass_all changed passed) ≡ Leaves next → weights n next ≤ weights n cells
    found None f ih h = cc
    found (Some old) f ih h = got old f (received old p.1) refl ih h

-- WHAT IS PASSED ON IS LIGHT

append_light : (n : ℕ) (passed others : List (ℕ × Shape)) → AllLight n passed → AllLight n others → AllLight n (passed ++ others)
append_light n [] others p q = q
append_light n (x ∷ passed) others p q = (p.0, append_light n passed others p.1 q)

successors_light : (n : ℕ) (offsets : List ℕ) (shape : Shape) → 2 * shape_height shape < n → AllLight n (map (λ offset. (offset, shape)) offsets)
successors_light n [] shape l = tt
successors_light n (offset ∷ offsets) shape l = (l, successors_light n offsets shape l)

handlers_light : (n : ℕ) (handlers : List (ℕ × Thrown)) (shape : Shape) → 2 * (heights shape.locals + 7) < n → AllLight n (map (to_handler shape) handlers)
handlers_light n [] shape l = tt
handlers_light n (handler ∷ handlers) shape l = (omega (arith, heights_most (kinds.Thrown handler.1 ∷ [])), handlers_light n handlers shape l)

-- where there is no fault, each test holds
pub each_test : (tests : List (Bool × VerifyKind)) → first_fault tests ≡ None → (n : ℕ) (test : Bool × VerifyKind) → slice_get tests n ≡ Some test → test.0 ≡ true
each_test [] e n test f = cc
each_test (x ∷ tests) e n test f = go x.0 refl n f e (λ g k h. each_test tests g k test h)
  where
    go : (b : Bool) → x.0 ≡ b → (n : ℕ) → slice_get (x ∷ tests) n ≡ Some test → cond b (first_fault tests) (Some x.1) ≡ None → (first_fault tests ≡ None → (k : ℕ) → slice_get tests k ≡ Some test → test.0 ≡ true) → test.0 ≡ true
    go true y zero f g ih = subst (λ (z : Bool × VerifyKind). z.0 ≡ true) (some_is x test f) y
    go true y (suc n) f g ih = ih g n f
    go false y n f g ih = cc

passes_light : (profile : Profile) (offset : ℕ) (line : Line) (shape : Shape) → length shape.locals ≡ profile.max_locals → fault profile offset line.instr (is_none line.next) shape ≡ None
    → AllLight (most profile) (passes offset line shape)
passes_light profile offset line shape z e =
    let deep = each_test (tests profile offset line.instr (is_none line.next) shape) e 0 (has_depth profile offset line.instr shape, Depth) refl in
    let few = leb-true _ _ (and_parts (nat_le (length shape.stack) profile.max_stack) _ (and_parts (nat_le (length (takes line.instr)) (length shape.stack)) _ deep).1).1 in
    append_light (most profile) _ _
    (successors_light (most profile) (successors line) (after offset line.instr shape)
    (omega (arith, heights_most (after offset line.instr shape).locals, heights_most (after offset line.instr shape).stack, after_sized offset line.instr shape, z, few)))
    (handlers_light (most profile) line.handlers shape (omega (arith, heights_most shape.locals, z)))

-- TURNS

-- each turn leaves cells of less weight
pub turn_lowers : (method : Method) (cells next : List Cell) (waiting : ℕ × Shape) → Sofar method cells → lowest cells ≡ Some waiting → turn method cells waiting ≡ Leaves next
    → weights (most method.profile) next < weights (most method.profile) cells
turn_lowers method cells next waiting i e h = by_line (line_at method waiting.0) h
  where
    by_fault : (line : Line) → (o : Option VerifyKind) → fault method.profile waiting.0 line.instr (is_none line.next) waiting.1 ≡ o → slice_get cells waiting.0 ≡ Some (Waiting waiting.1)
        → unless_at_fault o waiting.0 (pass_all (slice_set cells waiting.0 (Settled waiting.1)) (passes waiting.0 line waiting.1)) ≡ Leaves next → weights (most method.profile) next < weights (most method.profile) cells
    by_fault line None f at g = omega (
      arith,
      weights_set (most method.profile) cells waiting.0 (Waiting waiting.1) (Settled waiting.1) at,
      pass_all_lower (most method.profile) (passes waiting.0 line waiting.1) (slice_set cells waiting.0 (Settled waiting.1)) next
          (passes_light method.profile waiting.0 line waiting.1 (i.sized waiting.0 waiting.1 (ap shape_in at)) f) g,
    )
    by_fault line (Some why) f at g = cc

    by_line : (o : Option Line) → taken method cells waiting.0 waiting.1 o ≡ Leaves next → weights (most method.profile) next < weights (most method.profile) cells
    by_line None g = cc
    by_line (Some line) g = by_fault line (fault method.profile waiting.0 line.instr (is_none line.next) waiting.1) refl (lowest_waits cells waiting e) g

-- THE OUTCOME

-- something comes of cells if something comes of all lighter ones
one_turn : (method : Method) (cells : List Cell) → Sofar method cells
    → ((next : List Cell) → weights (most method.profile) next < weights (most method.profile) cells → Sofar method next → (outcome : Outcome) × Ends method next outcome)
    → (outcome : Outcome) × Ends method cells outcome
one_turn method cells i ih = go (lowest cells) refl
  where
    by_turn : (waiting : ℕ × Shape) → lowest cells ≡ Some waiting → (t : Turn) → turn method cells waiting ≡ t → (outcome : Outcome) × Ends method cells outcome
    by_turn waiting e (Fails offset why) f = (Fault offset why, Stops cells waiting offset why e f)
    by_turn waiting e (Leaves next) f = let x = ih next (turn_lowers method cells next waiting i e f) (turn_keeps method cells next waiting i e f) in (x.0, Turns cells waiting next x.0 e f x.1)

    go : (o : Option (ℕ × Shape)) → lowest cells ≡ o → (outcome : Outcome) × Ends method cells outcome
    go None e = (Accepted cells, Rests cells e)
    go (Some waiting) e = by_turn waiting e (turn method cells waiting) refl

cells_end : (method : Method) (n : ℕ) (cells : List Cell) → weights (most method.profile) cells ≤ n → Sofar method cells → (outcome : Outcome) × Ends method cells outcome
cells_end method zero cells l i = one_turn method cells i (λ next x j. absurd (omega arith))
cells_end method (suc n) cells l i = one_turn method cells i (λ next x j. cells_end method n next (omega arith) j)

-- every method that has a code has an outcome
pub outcome_exists : (method : Method) → 0 < length method.lines → (outcome : Outcome) × Verifies method outcome
outcome_exists method l = cells_end method (weights (most method.profile) (start method)) (start method) (omega arith) (start_holds method l)

-- and no cells have two
pub one_outcome : (method : Method) (cells : List Cell) (outcome other : Outcome) → Ends method cells outcome → Ends method cells other → outcome ≡ other
one_outcome method cells outcome other (Rests _ e) (Rests _ f) = refl
one_outcome method cells outcome other (Rests _ e) (Stops _ waiting offset why f t) = cc
one_outcome method cells outcome other (Rests _ e) (Turns _ waiting next _ f t h) = cc
one_outcome method cells outcome other (Stops _ waiting offset why e t) (Rests _ f) = cc
one_outcome method cells outcome other (Stops _ waiting offset why e t) (Stops _ waiting' offset' why' e' t') =
    let f : waiting ≡ waiting' = cc in let g : Fails offset why ≡ Fails offset' why' = sym t ∙ (ap (turn method cells) f ∙ t') in cc
one_outcome method cells outcome other (Stops _ waiting offset why e t) (Turns _ waiting' next _ e' t' h) =
    let f : waiting ≡ waiting' = cc in let g : Fails offset why ≡ Leaves next = sym t ∙ (ap (turn method cells) f ∙ t') in cc
one_outcome method cells outcome other (Turns _ waiting next _ e t h) (Rests _ f) = cc
one_outcome method cells outcome other (Turns _ waiting next _ e t h) (Stops _ waiting' offset why e' t') =
    let f : waiting ≡ waiting' = cc in let g : Leaves next ≡ Fails offset why = sym t ∙ (ap (turn method cells) f ∙ t') in cc
one_outcome method cells outcome other (Turns _ waiting next _ e t h) (Turns _ waiting' next' _ e' t' h') =
    let f : waiting ≡ waiting' = cc in let g : Leaves next ≡ Leaves next' = sym t ∙ (ap (turn method cells) f ∙ t') in
    one_outcome method next outcome other h (subst (λ x. Ends method x other) (sym (leaves_is next next' g)) h')
