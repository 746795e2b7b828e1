-- Each run of walked code returns an int or comes to a choice.
use Rattle.std.proofs.Common.{◌≡◌, ℕ, zero, suc, ◌+◌, ◌<◌, ◌≤◌, Bool, true, false, cond, List, [], ◌∷◌, length, slice_get, Some, None, refl, sym, ap, subst, ◌∙◌, arith}
use Rattle.std.specs.Prelude.{ℤ, Option, ◌&&◌, nat_lt, IsSome}
use Rattle.std.proofs.lemmas.Bool.{and_parts, ltb-true}
use Rattle.ms_words.specs.declared.kind.Kind.{Kind}
use Rattle.ms_words.specs.Inputs.{Words}
use Rattle.ms_classfile.specs.declared.instruction.Instruction.{Instruction}
use Rattle.ms_classfile.specs.declared.instruction.Instruction.TheVariants.{IloadN, Iload, Iconst, Bipush, Iadd, Isub, If, IfIcmp, Ireturn}
use Rattle.ms_classfile.specs.Instructions.{depth_after, is_placed, is_return, size_of}
use Rattle.ms_classfile.specs.ThinFile.{IsThinMethod, Method}
use Rattle.ms_machine.specs.Ints.{Ints, ints}
use Rattle.ms_machine.specs.Ints as int
use Rattle.ms_machine.specs.Instructions.{Comparison}
use Rattle.ms_machine.specs.Values.{Int, Returned, ReturnedVoid, Threw, InitFailed, Missing, Runaway, Deep, SymLength, HeapFull, Stuck}
use Rattle.ms_machine.specs.Effects.{Does, Doing, Asks, Moves, Returns, Next, Target, Test, Compares, by_arm, effect}
use Rattle.ms_machine.specs.Control.{Done, Goes, Ends, memory_at_start, perform}
use Rattle.ms_machine.specs.Tests.{arm_of, arms_of, known_test}
use Rattle.ms_machine.specs.Segments.{After, Choice, Over, forked, most_instructions, segment_from, segment_within}
use Rattle.ms_machine.specs.Runs.{RunEnd, Ended, Cut, after_arms, done_after, end_from, end_of, given, given_from, segment_after, word_arm}
use Rattle.ms_machine.specs.Laws.{IsWhole}
use Rattle.ms_jvm.specs.Ends.{HasTwoArms, ReturnsOrIsCut, ReturnsWord, path_end_of}
use Rattle.ms_jvm.specs.Programs.{code_from, comparison_of, distance_of, instr_of, program_of, views_of}
use Rattle.ms_jvm.specs.Turns.{here_with, locals_of}
use Rattle.ms_jvm.proofs.Codes.{IsWalked, arm_walks, behind, branch_empties, from_zero, placed, some_walked}
use Rattle.ms_jvm.proofs.Standing.{after_move, after_return, after_test, arm_code, arm_leads, code_behind, offset_after, standing, state_at}
use Rattle.ms_jvm.proofs.Following.{end_after, end_is}

-- ---- WHAT AN INSTRUCTION LEADS TO

abbrev arms_with : {V : Type 0} → List V → List V → ℕ → Doing V
arms_with parameters left = by_arm (Moves Next (here_with parameters left)) (Moves (Target 0) (here_with parameters left))

data Turned {V : Type 0} (I : Ints V) (parameters stack : List V) (first : Instruction) : Type 0 where
  MovesOn : (left : List V) → effect I (instr_of first) (here_with parameters stack) ≡ Does (Moves Next (here_with parameters left)) → is_return first ≡ false → length left ≡ depth_after (length stack) first → Turned I parameters stack first
  Forks : (comparison : Comparison) (a b : V) (far : ℕ) (left : List V) → effect I (instr_of first) (here_with parameters stack) ≡ Asks (Compares comparison a b) (arms_with parameters left) → distance_of first ≡ Some far → length left ≡ depth_after (length stack) first → Turned I parameters stack first
  Gives : (a : V) → effect I (instr_of first) (here_with parameters stack) ≡ Does (Returns (Some (Int a)) (memory_at_start 0)) → Turned I parameters stack first

held : {V : Type 0} (parameters : List V) (local : ℕ) → local < length parameters → (a : V) × (slice_get (locals_of parameters) local ≡ Some (Some (Int a)))
held [] local there = absurd (omega (arith, there))
held (a ∷ parameters) zero there = (a, refl)
held (a ∷ parameters) (suc local) there = held parameters local (omega (arith, there))

loaded : {V : Type 0} (I : Ints V) (parameters stack : List V) (first : Instruction) (local : ℕ) (more : Bool) → (nat_lt local (length parameters) && more) ≡ true
    → ((a : V) → slice_get (locals_of parameters) local ≡ Some (Some (Int a)) → Turned I parameters stack first) → Turned I parameters stack first
loaded I parameters stack first local more stands use_it =
    let found = held parameters local (ltb-true _ _ (and_parts (nat_lt local (length parameters)) more stands).0) in
    use_it found.0 found.1

turned : {V : Type 0} (I : Ints V) (parameters stack : List V) (most : ℕ) (first : Instruction) (rest : List Instruction) → is_placed (length parameters) most (length stack) first rest ≡ true → Turned I parameters stack first
turned I parameters stack most (IloadN local) rest stands = loaded I parameters stack (IloadN local) local _ stands (λ a found. MovesOn (a ∷ stack) (rw found refl) refl (omega arith))
turned I parameters stack most (Iload local) rest stands = loaded I parameters stack (Iload local) local _ stands (λ a found. MovesOn (a ∷ stack) (rw found refl) refl (omega arith))
turned I parameters stack most (Iconst word) rest stands = MovesOn (I.constant word ∷ stack) refl refl (omega arith)
turned I parameters stack most (Bipush word) rest stands = MovesOn (I.constant word ∷ stack) refl refl (omega arith)
turned I parameters [] most Iadd rest stands = absurd cc
turned I parameters (b ∷ []) most Iadd rest stands = absurd cc
turned I parameters (b ∷ a ∷ stack) most Iadd rest stands = MovesOn (_ ∷ stack) refl refl (omega arith)
turned I parameters [] most Isub rest stands = absurd cc
turned I parameters (b ∷ []) most Isub rest stands = absurd cc
turned I parameters (b ∷ a ∷ stack) most Isub rest stands = MovesOn (_ ∷ stack) refl refl (omega arith)
turned I parameters [] most (If condition far) rest stands = absurd cc
turned I parameters (a ∷ stack) most (If condition far) rest stands = Forks (comparison_of condition) a _ far stack refl refl (omega arith)
turned I parameters [] most (IfIcmp condition far) rest stands = absurd cc
turned I parameters (b ∷ []) most (IfIcmp condition far) rest stands = absurd cc
turned I parameters (b ∷ a ∷ stack) most (IfIcmp condition far) rest stands = Forks (comparison_of condition) a b far stack refl refl (omega arith)
turned I parameters [] most Ireturn rest stands = absurd cc
turned I parameters (a ∷ stack) most Ireturn rest stands = Gives a refl

-- ---- WHAT COMES AFTER A SEGMENT

-- the run stands in walked code that is no longer than this
record Stands {V : Type 0} (method : Method) (parameters : List V) (most : ℕ) (done : Done V) : Type 0 where
  pub offset : ℕ
  pub stack : List V
  pub rest : List Instruction
  pub is : done ≡ standing parameters offset stack
  pub here : code_from offset method.instructions ≡ rest
  pub walks : IsWalked (length parameters) method.max_stack (length stack) rest
  pub short : length rest ≤ most

-- a choice of two arms, each of which stands in the code, or the end of a run that returned an int
abbrev Comes : {V : Type 0} → Method → List V → ℕ → After V → Type 0
Comes method parameters most (Choice test arms) = (arms_of test ≡ 2) × ((arm : ℕ) → Stands method parameters most (arms arm))
Comes method parameters most (Over end) = ReturnsWord end

arm_stands : {V : Type 0} (method : Method) (parameters : List V) (offset far : ℕ) (stack left : List V) (branch : Instruction) (rest : List Instruction) → code_from offset method.instructions ≡ branch ∷ rest
    → IsWalked (length parameters) method.max_stack (length stack) (branch ∷ rest) → distance_of branch ≡ Some far → length left ≡ depth_after (length stack) branch
    → (taken : Bool) → Stands method parameters (length rest) (perform (views_of method.instructions) (state_at parameters offset stack) (arms_with parameters left (cond taken 1 0)))
arm_stands method parameters offset far stack left branch rest here walks leads depth_is taken =
    let ahead = arm_walks (length parameters) method.max_stack (length stack) far branch rest taken walks leads in
    let next = arm_walks (length parameters) method.max_stack (length stack) far branch rest false walks leads in
    record {
      offset = offset_after taken offset far branch;
      stack = left;
      rest = cond taken (code_from far (branch ∷ rest)) rest;
      is = arm_leads method.instructions parameters offset far stack left branch rest taken here (some_walked _ _ _ rest next.walks) leads;
      here = arm_code method.instructions offset far branch rest taken here;
      walks =
          subst (λ (d : ℕ). IsWalked (length parameters) method.max_stack d (cond taken (code_from far (branch ∷ rest)) rest))
          (sym (depth_is ∙ branch_empties (length parameters) method.max_stack (length stack) far branch rest walks leads)) ahead.walks;
      short = ahead.shorter;
    }

each_stands : {V : Type 0} (method : Method) (parameters : List V) (offset far : ℕ) (stack left : List V) (branch : Instruction) (rest : List Instruction) → code_from offset method.instructions ≡ branch ∷ rest
    → IsWalked (length parameters) method.max_stack (length stack) (branch ∷ rest) → distance_of branch ≡ Some far → length left ≡ depth_after (length stack) branch
    → (arm : ℕ) → Stands method parameters (length rest) (perform (views_of method.instructions) (state_at parameters offset stack) (arms_with parameters left arm))
each_stands method parameters offset far stack left branch rest here walks leads depth_is zero = arm_stands method parameters offset far stack left branch rest here walks leads depth_is false
each_stands method parameters offset far stack left branch rest here walks leads depth_is (suc arm) = arm_stands method parameters offset far stack left branch rest here walks leads depth_is true

longer : {V : Type 0} (method : Method) (parameters : List V) (few many : ℕ) (done : Done V) → few ≤ many → Stands method parameters few done → Stands method parameters many done
longer method parameters few many done le s = record { offset = s.offset; stack = s.stack; rest = s.rest; is = s.is; here = s.here; walks = s.walks; short = omega (arith, le, s.short) }

comes_more : {V : Type 0} (method : Method) (parameters : List V) (few many : ℕ) (after : After V) → few ≤ many → Comes method parameters few after → Comes method parameters many after
comes_more method parameters few many (Choice test arms) le c = (c.0, λ arm. longer method parameters few many (arms arm) le (c.1 arm))
comes_more method parameters few many (Over end) le c = c

stood : {V : Type 0} (I : Ints V) (method : Method) (parameters : List V) (n : ℕ) (done : Done V) → Stands method parameters n done
    → ((offset : ℕ) (stack : List V) (rest : List Instruction) → code_from offset method.instructions ≡ rest → IsWalked (length parameters) method.max_stack (length stack) rest → length rest ≤ n
    → Comes method parameters n (segment_within I (views_of method.instructions) n (standing parameters offset stack)).after)
    → Comes method parameters n (segment_within I (views_of method.instructions) n done).after
stood {V = V} I method parameters n done s each =
    subst (λ (d : Done V). Comes method parameters n (segment_within I (views_of method.instructions) n d).after) (sym s.is) (each s.offset s.stack s.rest s.here s.walks s.short)

-- what comes within n instructions, wherever the run stands
abbrev ComesWithin : {V : Type 0} → Ints V → Method → List V → ℕ → Type 0
ComesWithin {V = V} I method parameters n =
    (offset : ℕ) (stack : List V) (rest : List Instruction) → code_from offset method.instructions ≡ rest → IsWalked (length parameters) method.max_stack (length stack) rest → length rest ≤ n
    → Comes method parameters n (segment_within I (views_of method.instructions) n (standing parameters offset stack)).after

turns : {V : Type 0} (I : Ints V) (method : Method) (parameters : List V) (n : ℕ) → ComesWithin I method parameters n → (offset : ℕ) (stack : List V) (first : Instruction) (more : List Instruction)
    → code_from offset method.instructions ≡ first ∷ more → IsWalked (length parameters) method.max_stack (length stack) (first ∷ more) → length more ≤ n → Turned I parameters stack first
    → Comes method parameters (suc n) (segment_within I (views_of method.instructions) (suc n) (standing parameters offset stack)).after
turns I method parameters n within offset stack first more here walks short (MovesOn left is goes_on depth_is) =
    let walks_on = behind (length parameters) method.max_stack (length stack) first more walks goes_on in
    subst (Comes method parameters (suc n)) (sym (after_move I method.instructions parameters offset n stack left first more here (some_walked _ _ _ more walks_on) is))
    (comes_more method parameters n (suc n) _ (omega arith) (within (offset + size_of first) left more (code_behind offset method.instructions first more here)
    (subst (λ (d : ℕ). IsWalked (length parameters) method.max_stack d more) (sym depth_is) walks_on) short))
turns {V = V} I method parameters n within offset stack first more here walks short (Forks comparison a b far left is leads depth_is) =
    subst (Comes method parameters (suc n)) (sym (after_test I method.instructions parameters offset n stack first more (Compares comparison a b) (arms_with parameters left) here is))
    (by_known (known_test I (Compares comparison a b)))
  where
    arms : ℕ → Done V
    arms arm = perform (views_of method.instructions) (state_at parameters offset stack) (arms_with parameters left arm)

    each : (arm most : ℕ) → length more ≤ most → Stands method parameters most (arms arm)
    each arm most le = longer method parameters (length more) most (arms arm) le (each_stands method parameters offset far stack left first more here walks leads depth_is arm)

    by_known : (test : Option (Test ℤ)) → Comes method parameters (suc n) (forked (Compares comparison a b) arms (segment_within I (views_of method.instructions) n) test).after
    by_known None = (refl, λ arm. each arm (suc n) (omega (arith, short)))
    by_known (Some words) = comes_more method parameters n (suc n) _ (omega arith) (stood I method parameters n (arms (arm_of words)) (each (arm_of words) n short) within)
turns I method parameters n within offset stack first more here walks short (Gives a is) = subst (Comes method parameters (suc n)) (sym (after_return I method.instructions parameters offset n stack first more a here is)) tt

comes : {V : Type 0} (I : Ints V) (method : Method) (parameters : List V) (n : ℕ) → ComesWithin I method parameters n
comes I method parameters zero offset stack rest here walks short = absurd (omega (arith, some_walked _ _ _ rest walks, short))
comes I method parameters (suc n) offset stack [] here walks short = absurd (let some = some_walked _ _ _ [] walks in omega (arith, some))
comes I method parameters (suc n) offset stack (first ∷ more) here walks short =
    turns I method parameters n (comes I method parameters n) offset stack first more here walks (omega (arith, short)) (turned I parameters stack method.max_stack first more (placed (length parameters) method.max_stack (length stack) first more walks))

-- ---- HOW A RUN ENDS

ends_after : {V : Type 0} (I : Ints V) (method : Method) (parameters : List V) (decide : Test V → ℕ) (depth : ℕ) (after : After V) → Comes method parameters most_instructions after
    → ReturnsOrIsCut (end_after I (views_of method.instructions) decide depth after)
ends_after I method parameters decide zero (Choice test arms) c = tt
ends_after I method parameters decide zero (Over end) c = c
ends_after I method parameters decide (suc depth) (Choice test arms) c =
    subst ReturnsOrIsCut (sym (end_is I (views_of method.instructions) decide depth (arms (decide test))))
    (ends_after I method parameters decide depth (segment_from I (views_of method.instructions) (arms (decide test))).after
    (stood I method parameters most_instructions (arms (decide test)) (c.1 (decide test)) (comes I method parameters most_instructions)))
ends_after I method parameters decide (suc depth) (Over end) c = c

ends : {V : Type 0} (I : Ints V) (method : Method) (parameters : List V) (decide : Test V → ℕ) (depth : ℕ) (done : Done V) → Stands method parameters most_instructions done
    → ReturnsOrIsCut (end_from I (views_of method.instructions) decide depth done)
ends I method parameters decide depth done stands =
    subst ReturnsOrIsCut (sym (end_is I (views_of method.instructions) decide depth done))
    (ends_after I method parameters decide depth (segment_from I (views_of method.instructions) done).after (stood I method parameters most_instructions done stands (comes I method parameters most_instructions)))

some_end : (end : RunEnd int.Int) → ReturnsOrIsCut end → IsSome (path_end_of end)
some_end (Ended (Returned a)) so = refl
some_end (Ended ReturnedVoid) so = absurd so
some_end (Ended (Threw class)) so = absurd so
some_end (Ended (InitFailed class)) so = absurd so
some_end (Ended (Missing name)) so = absurd so
some_end (Ended Runaway) so = absurd so
some_end (Ended Deep) so = absurd so
some_end (Ended SymLength) so = absurd so
some_end (Ended HeapFull) so = absurd so
some_end (Ended Stuck) so = absurd so
some_end Cut so = refl

length_given : (index : ℕ) (kinds : List Kind) (words : List ℤ) → length words ≡ length kinds → length (given_from index kinds words) ≡ length kinds
length_given index [] words same = refl
length_given index (kind ∷ kinds) [] same = absurd (omega (arith, same))
length_given index (kind ∷ kinds) (word ∷ words) same = ap suc (length_given (suc index) kinds words (omega (arith, same)))

start_stands : (method : Method) (x : Words) → IsThinMethod method → x.kinds ≡ method.kinds → IsWhole x → Stands method (given x) most_instructions (standing (given x) 0 [])
unfolding most_instructions
start_stands method x thin kinds whole =
    let many : length method.kinds ≡ length (given x) = sym (length_given 0 x.kinds x.words whole ∙ ap length kinds) in
    record {
      offset = 0;
      stack = [];
      rest = method.instructions;
      is = refl;
      here = from_zero method.instructions;
      walks = subst (λ (n : ℕ). IsWalked n method.max_stack 0 method.instructions) many (record { walked = thin.walked; returns = thin.returns });
      short = omega (arith, thin.short);
    }

pub method_returns : (method : Method) (x : Words) (depth : ℕ) → IsThinMethod method → x.kinds ≡ method.kinds → IsWhole x → ReturnsOrIsCut (end_of (program_of method) x depth)
method_returns method x depth thin kinds whole =
    ends ints method (given x) word_arm depth (standing (given x) 0 []) (start_stands method x thin kinds whole)

pub method_ends : (method : Method) (x : Words) (depth : ℕ) → IsThinMethod method → x.kinds ≡ method.kinds → IsWhole x → IsSome (path_end_of (end_of (program_of method) x depth))
method_ends method x depth thin kinds whole = some_end (end_of (program_of method) x depth) (method_returns method x depth thin kinds whole)

-- ---- AFTER ANY ARMS

-- the run stands in the code, or is over
abbrev Located : {V : Type 0} → Method → List V → Done V → Type 0
Located method parameters (Goes state) = Stands method parameters most_instructions (Goes state)
Located method parameters (Ends end) = Unit {0}

located : {V : Type 0} (method : Method) (parameters : List V) (done : Done V) → Stands method parameters most_instructions done → Located method parameters done
located method parameters (Goes state) s = s
located method parameters (Ends end) s = tt

two_after : {V : Type 0} (I : Ints V) (method : Method) (parameters : List V) (done : Done V) → Located method parameters done
    → HasTwoArms (segment_from I (views_of method.instructions) done).after × ((arm : ℕ) → Located method parameters (done_after (segment_from I (views_of method.instructions) done).after arm))
two_after {V = V} I method parameters (Goes state) s =
    by_after (segment_from I (views_of method.instructions) (Goes state)).after (stood I method parameters most_instructions (Goes state) s (comes I method parameters most_instructions))
  where
    by_after : (after : After V) → Comes method parameters most_instructions after → HasTwoArms after × ((arm : ℕ) → Located method parameters (done_after after arm))
    by_after (Choice test arms) c = (c.0, λ arm. located method parameters (arms arm) (c.1 arm))
    by_after (Over end) c = (tt, λ arm. tt)
two_after I method parameters (Ends end) s = (tt, λ arm. tt)

two_along : {V : Type 0} (I : Ints V) (method : Method) (parameters : List V) (done : Done V) (p : List ℕ) → Located method parameters done → HasTwoArms (segment_from I (views_of method.instructions) (after_arms I (views_of method.instructions) done p)).after
two_along I method parameters done [] s = (two_after I method parameters done s).0
two_along I method parameters done (arm ∷ arms) s =
    two_along I method parameters (done_after (segment_from I (views_of method.instructions) done).after arm) arms ((two_after I method parameters done s).1 arm)

pub method_two_arms : (method : Method) (x : Words) (p : List ℕ) → IsThinMethod method → x.kinds ≡ method.kinds → IsWhole x → HasTwoArms (segment_after (program_of method) x p).after
method_two_arms method x p thin kinds whole = two_along ints method (given x) (standing (given x) 0 []) p (start_stands method x thin kinds whole)
