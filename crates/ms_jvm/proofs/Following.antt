-- What the interpreter keeps, instruction by instruction: the choices so far and those that are still to
-- come are those of the run, and the end that is to come is the run's.
use Rattle.std.proofs.Common.{◌≡◌, ℕ, zero, suc, ◌+◌, ◌-◌, ◌<◌, ◌≤◌, Bool, true, false, cond, List, [], ◌∷◌, ◌++◌, length, Some, None, refl, sym, ap, subst, ◌∙◌, append_assoc, arith}
use Rattle.std.specs.Prelude.{ℤ, Option, ◌&&◌}
use Rattle.std.proofs.lemmas.List.{append-nil, length-append}
use Rattle.ms_words.specs.Inputs.{Words}
use Rattle.ms_words.specs.Relations.{related}
use Rattle.ms_classfile.specs.declared.instruction.Instruction.{Instruction}
use Rattle.ms_classfile.specs.Instructions.{depth_after, is_return, size_of}
use Rattle.ms_classfile.specs.ThinFile.{IsThinMethod, Method}
use Rattle.ms_machine.specs.Ints.{Ints, Marked, marks}
use Rattle.ms_machine.specs.Instructions.{Comparison, relation}
use Rattle.ms_machine.specs.Values.{Int, Returned}
use Rattle.ms_machine.specs.Effects.{Does, Asks, Doing, Moves, Returns, Next, Target, Test, Compares, by_arm, effect}
use Rattle.ms_machine.specs.Control.{Done, Views, memory_at_start, perform}
use Rattle.ms_machine.specs.Tests.{both_known}
use Rattle.ms_machine.specs.Segments.{After, Choice, Over, forked, most_instructions, segment_from, segment_within}
use Rattle.ms_machine.specs.Runs.{RunEnd, Ended, Cut, after_arms, arms_at, done_after, end_at, end_from, string_from}
use Rattle.ms_machine.specs.Laws.{mark_arm, marked_start}
use Rattle.ms_jvm.specs.Programs.{code_from, distance_of, instr_of, program_of, views_of}
use Rattle.ms_jvm.specs.Turns.{Chosen, Made, here_with, marked}
use Rattle.ms_jvm.proofs.Codes.{IsWalked, arm_walks, behind, branch_empties, from_zero, some_walked}
use Rattle.ms_jvm.proofs.Standing.{after_move, after_return, after_test, arm_code, arm_leads, code_behind, offset_after, standing, state_at}

-- ---- WHAT IS STILL TO COME, by what comes after a segment

-- the arms of the next choices, at most so many
abbrev pub string_after : {V : Type 0} → Ints V → Views → (Test V → ℕ) → ℕ → After V → List ℕ
string_after I P decide zero after = []
string_after I P decide (suc depth) after = arms_at decide (string_from I P decide depth) after

-- the end of the run to so many choices more
abbrev pub end_after : {V : Type 0} → Ints V → Views → (Test V → ℕ) → ℕ → After V → RunEnd V
end_after I P decide zero after = end_at after
end_after I P decide (suc depth) (Choice test arms) = end_from I P decide depth (arms (decide test))
end_after I P decide (suc depth) (Over end) = Ended end

pub string_is : {V : Type 0} (I : Ints V) (P : Views) (decide : Test V → ℕ) (depth : ℕ) (done : Done V) → string_from I P decide depth done ≡ string_after I P decide depth (segment_from I P done).after
string_is I P decide zero done = refl
string_is I P decide (suc depth) done = refl

pub end_is : {V : Type 0} (I : Ints V) (P : Views) (decide : Test V → ℕ) (depth : ℕ) (done : Done V) → end_from I P decide depth done ≡ end_after I P decide depth (segment_from I P done).after
end_is I P decide zero done = refl
end_is {V = V} I P decide (suc depth) done = by_after (segment_from I P done).after refl
  where
    by_after : (after : After V) → (segment_from I P done).after ≡ after → end_from I P decide (suc depth) done ≡ end_after I P decide (suc depth) after
    by_after (Choice test arms) e =
        ap (λ (s : After V). end_at (segment_from I P (after_arms I P done (arms_at decide (string_from I P decide depth) s))).after) e
        ∙ ap (λ (s : After V). end_at (segment_from I P (after_arms I P (done_after s (decide test)) (string_from I P decide depth (arms (decide test))))).after) e
    by_after (Over end) e = ap (λ (s : After V). end_at (segment_from I P (after_arms I P done (arms_at decide (string_from I P decide depth) s))).after) e ∙ ap end_at e

-- ---- WHAT IS KEPT

-- what comes after the segment of a run of x that stands here, within so many instructions
abbrev after_at : Method → Words → ℕ → ℕ → List Marked → After Marked
after_at method x budget offset stack = (segment_within marks (views_of method.instructions) budget (standing (marked x) offset stack)).after

abbrev choices_of : Method → Words → ℕ → List ℕ
choices_of method x depth = string_from marks (views_of method.instructions) mark_arm depth (marked_start (program_of method) x)

abbrev ending_of : Method → Words → ℕ → RunEnd Marked
ending_of method x depth = end_from marks (views_of method.instructions) mark_arm depth (marked_start (program_of method) x)

-- the run of x to this depth stands before this code, with this stack, after these choices
pub record Follows (method : Method) (x : Words) (depth : ℕ) (rest : List Instruction) (stack : List Marked) (choices : List ℕ) : Type 0 where
  pub offset : ℕ
  pub budget : ℕ
  pub here : code_from offset method.instructions ≡ rest
  pub walks : IsWalked (length method.kinds) method.max_stack (length stack) rest
  pub room : length rest ≤ budget
  pub short : length rest ≤ 19999
  pub few : length choices ≤ depth
  pub string : choices ++ string_after marks (views_of method.instructions) mark_arm (depth - length choices) (after_at method x budget offset stack) ≡ choices_of method x depth
  pub end : end_after marks (views_of method.instructions) mark_arm (depth - length choices) (after_at method x budget offset stack) ≡ ending_of method x depth

-- the choices and the end of the run
pub record IsRun (method : Method) (x : Words) (depth : ℕ) (choices : List ℕ) (end : RunEnd Marked) : Type 0 where
  pub string : choices_of method x depth ≡ choices
  pub end_is : ending_of method x depth ≡ end

-- the same run stands elsewhere, where the same comes after
moved : (method : Method) (x : Words) (depth : ℕ) (rest more : List Instruction) (stack left : List Marked) (choices : List ℕ) (f : Follows method x depth rest stack choices) (offset budget : ℕ)
    → after_at method x f.budget f.offset stack ≡ after_at method x budget offset left
    → code_from offset method.instructions ≡ more → IsWalked (length method.kinds) method.max_stack (length left) more → length more ≤ budget → length more ≤ 19999
    → Follows method x depth more left choices
moved method x depth rest more stack left choices f offset budget same here walks room short = record {
  offset = offset;
  budget = budget;
  here = here;
  walks = walks;
  room = room;
  short = short;
  few = f.few;
  string = ap (λ (a : After Marked). choices ++ string_after marks (views_of method.instructions) mark_arm (depth - length choices) a) (sym same) ∙ f.string;
  end = ap (end_after marks (views_of method.instructions) mark_arm (depth - length choices)) (sym same) ∙ f.end;
}

pub follows_start : (method : Method) (x : Words) (depth : ℕ) → IsThinMethod method → Follows method x depth method.instructions [] []
unfolding most_instructions
follows_start method x depth thin =
    let all : depth - 0 ≡ depth = omega arith in
    let start = standing (marked x) 0 [] in
    record {
      offset = 0;
      budget = most_instructions;
      here = from_zero method.instructions;
      walks = record { walked = thin.walked; returns = thin.returns };
      room = omega (arith, thin.short);
      short = thin.short;
      few = omega arith;
      string = ap (λ (n : ℕ). string_after marks (views_of method.instructions) mark_arm n (segment_from marks (views_of method.instructions) start).after) all ∙ sym (string_is marks (views_of method.instructions) mark_arm depth start);
      end = ap (λ (n : ℕ). end_after marks (views_of method.instructions) mark_arm n (segment_from marks (views_of method.instructions) start).after) all ∙ sym (end_is marks (views_of method.instructions) mark_arm depth start);
    }

-- ---- THE NEXT INSTRUCTION

pub follows_move : (method : Method) (x : Words) (depth : ℕ) (first : Instruction) (rest : List Instruction) (stack left : List Marked) (choices : List ℕ) → Follows method x depth (first ∷ rest) stack choices
    → effect marks (instr_of first) (here_with (marked x) stack) ≡ Does (Moves Next (here_with (marked x) left)) → is_return first ≡ false → length left ≡ depth_after (length stack) first
    → Follows method x depth rest left choices
follows_move method x depth first rest stack left choices f is goes_on depth_is =
    let n = f.budget - 1 in
    let one_less : f.budget ≡ suc n = omega (arith, f.room) in
    let walks = behind (length method.kinds) method.max_stack (length stack) first rest f.walks goes_on in
    moved method x depth (first ∷ rest) rest stack left choices f (f.offset + size_of first) n
    (ap (λ (b : ℕ). after_at method x b f.offset stack) one_less ∙ after_move marks method.instructions (marked x) f.offset n stack left first rest f.here (some_walked _ _ _ rest walks) is)
    (code_behind f.offset method.instructions first rest f.here)
    (subst (λ (d : ℕ). IsWalked (length method.kinds) method.max_stack d rest) (sym depth_is) walks)
    (omega (arith, f.room))
    (omega (arith, f.short))

-- ---- A RETURN

nothing_after : (P : Views) (depth : ℕ) (a : Marked) → string_after marks P mark_arm depth (Over (Returned a)) ≡ []
nothing_after P zero a = refl
nothing_after P (suc depth) a = refl

ended_after : (P : Views) (depth : ℕ) (a : Marked) → end_after marks P mark_arm depth (Over (Returned a)) ≡ Ended (Returned a)
ended_after P zero a = refl
ended_after P (suc depth) a = refl

pub run_returned : (method : Method) (x : Words) (depth : ℕ) (first : Instruction) (rest : List Instruction) (stack : List Marked) (choices : List ℕ) (a : Marked) → Follows method x depth (first ∷ rest) stack choices
    → effect marks (instr_of first) (here_with (marked x) stack) ≡ Does (Returns (Some (Int a)) (memory_at_start 0))
    → IsRun method x depth choices (Ended (Returned a))
run_returned method x depth first rest stack choices a f is =
    let P = views_of method.instructions in
    let n = f.budget - 1 in
    let one_less : f.budget ≡ suc n = omega (arith, f.room) in
    let over : after_at method x f.budget f.offset stack ≡ Over (Returned a) = ap (λ (b : ℕ). after_at method x b f.offset stack) one_less ∙ after_return marks method.instructions (marked x) f.offset n stack first rest a f.here is in
    record {
      string = sym f.string ∙ ap (λ (s : After Marked). choices ++ string_after marks P mark_arm (depth - length choices) s) over ∙ ap (λ (l : List ℕ). choices ++ l) (nothing_after P (depth - length choices) a) ∙ append-nil choices;
      end_is = sym f.end ∙ ap (end_after marks P mark_arm (depth - length choices)) over ∙ ended_after P (depth - length choices) a;
    }

-- ---- A TEST

-- the two arms of a branch that leaves this stack
abbrev branch_arms : Words → List Marked → ℕ → Doing Marked
branch_arms x left = by_arm (Moves Next (here_with (marked x) left)) (Moves (Target 0) (here_with (marked x) left))

-- a test of ints that no parameter entered
known_plain : (comparison : Comparison) (p q : Bool) (v w : ℤ) → (p && q) ≡ true → both_known comparison (cond p (Some v) None) (cond q (Some w) None) ≡ Some (Compares comparison v w)
known_plain comparison true true v w plain = refl
known_plain comparison true false v w plain = absurd cc
known_plain comparison false q v w plain = absurd cc

-- one of ints of which a parameter entered one
known_not : (comparison : Comparison) (p q : Bool) (v w : ℤ) → (p && q) ≡ false → both_known comparison (cond p (Some v) None) (cond q (Some w) None) ≡ None
known_not comparison true true v w entered = absurd cc
known_not comparison true false v w entered = refl
known_not comparison false q v w entered = refl

-- where a branch of walked code leads, by whether it is taken
record Led (method : Method) (x : Words) (offset far : ℕ) (branch : Instruction) (rest : List Instruction) (stack left : List Marked) (taken : Bool) : Type 0 where
  pub ahead : perform (views_of method.instructions) (state_at (marked x) offset stack) (branch_arms x left (cond taken 1 0)) ≡ standing (marked x) (offset_after taken offset far branch) left
  pub here : code_from (offset_after taken offset far branch) method.instructions ≡ cond taken (code_from far (branch ∷ rest)) rest
  pub walks : IsWalked (length method.kinds) method.max_stack (length left) (cond taken (code_from far (branch ∷ rest)) rest)
  pub shorter : length (cond taken (code_from far (branch ∷ rest)) rest) ≤ length rest

led : (method : Method) (x : Words) (offset far : ℕ) (branch : Instruction) (rest : List Instruction) (stack left : List Marked) (taken : Bool) → code_from offset method.instructions ≡ branch ∷ rest
    → IsWalked (length method.kinds) method.max_stack (length stack) (branch ∷ rest) → distance_of branch ≡ Some far → length left ≡ depth_after (length stack) branch
    → Led method x offset far branch rest stack left taken
led method x offset far branch rest stack left taken here walks leads depth_is =
    let ahead = arm_walks (length method.kinds) method.max_stack (length stack) far branch rest taken walks leads in
    let next = arm_walks (length method.kinds) method.max_stack (length stack) far branch rest false walks leads in
    record {
      ahead = arm_leads method.instructions (marked x) offset far stack left branch rest taken here (some_walked _ _ _ rest next.walks) leads;
      here = arm_code method.instructions offset far branch rest taken here;
      walks =
          subst (λ (d : ℕ). IsWalked (length method.kinds) method.max_stack d (cond taken (code_from far (branch ∷ rest)) rest))
          (sym (depth_is ∙ branch_empties (length method.kinds) method.max_stack (length stack) far branch rest walks leads)) ahead.walks;
      shorter = ahead.shorter;
    }

-- no parameter entered the ints of the test: the run goes on within the segment
pub follows_plain : (method : Method) (x : Words) (depth far : ℕ) (branch : Instruction) (rest : List Instruction) (stack left : List Marked) (choices : List ℕ) (comparison : Comparison) (a b : Marked)
    → Follows method x depth (branch ∷ rest) stack choices
    → effect marks (instr_of branch) (here_with (marked x) stack) ≡ Asks (Compares comparison a b) (branch_arms x left)
    → distance_of branch ≡ Some far → length left ≡ depth_after (length stack) branch → (a.plain && b.plain) ≡ true
    → Follows method x depth (cond (related (relation comparison) a.word b.word) (code_from far (branch ∷ rest)) rest) left choices
follows_plain method x depth far branch rest stack left choices comparison a b f is leads depth_is plain =
    let P = views_of method.instructions in
    let taken = related (relation comparison) a.word b.word in
    let n = f.budget - 1 in
    let one_less : f.budget ≡ suc n = omega (arith, f.room) in
    let to = led method x f.offset far branch rest stack left taken f.here f.walks leads depth_is in
    let go = segment_within marks P n in
    let arms : ℕ → Done Marked = λ arm. perform P (state_at (marked x) f.offset stack) (branch_arms x left arm) in
    let tested : after_at method x f.budget f.offset stack ≡ (go (arms (cond taken 1 0))).after =
    ap (λ (b : ℕ). after_at method x b f.offset stack) one_less
    ∙ after_test marks method.instructions (marked x) f.offset n stack branch rest (Compares comparison a b) (branch_arms x left) f.here is
    ∙ ap (λ (t : Option (Test ℤ)). (forked (Compares comparison a b) arms go t).after) (known_plain comparison a.plain b.plain a.word b.word plain) in
    moved method x depth (branch ∷ rest) (cond taken (code_from far (branch ∷ rest)) rest) stack left choices f (offset_after taken f.offset far branch) n
    (tested ∙ ap (λ (d : Done Marked). (go d).after) to.ahead) to.here to.walks (omega (arith, f.room, to.shorter)) (omega (arith, f.short, to.shorter))

-- a parameter entered the ints of the test: a choice is due
choice_due : (method : Method) (x : Words) (depth : ℕ) (branch : Instruction) (rest : List Instruction) (stack left : List Marked) (choices : List ℕ) (comparison : Comparison) (a b : Marked)
    → (f : Follows method x depth (branch ∷ rest) stack choices)
    → effect marks (instr_of branch) (here_with (marked x) stack) ≡ Asks (Compares comparison a b) (branch_arms x left) → (a.plain && b.plain) ≡ false
    → after_at method x f.budget f.offset stack ≡ Choice (Compares comparison a b) (λ arm. perform (views_of method.instructions) (state_at (marked x) f.offset stack) (branch_arms x left arm))
choice_due method x depth branch rest stack left choices comparison a b f is entered =
    let P = views_of method.instructions in
    let n = f.budget - 1 in
    let one_less : f.budget ≡ suc n = omega (arith, f.room) in
    let go = segment_within marks P n in
    let arms : ℕ → Done Marked = λ arm. perform P (state_at (marked x) f.offset stack) (branch_arms x left arm) in
    ap (λ (b : ℕ). after_at method x b f.offset stack) one_less
    ∙ after_test marks method.instructions (marked x) f.offset n stack branch rest (Compares comparison a b) (branch_arms x left) f.here is
    ∙ ap (λ (t : Option (Test ℤ)). (forked (Compares comparison a b) arms go t).after) (known_not comparison a.plain b.plain a.word b.word entered)

-- as many choices are made as the depth allows
pub run_cut : (method : Method) (x : Words) (depth : ℕ) (branch : Instruction) (rest : List Instruction) (stack left : List Marked) (choices : List ℕ) (comparison : Comparison) (a b : Marked)
    → Follows method x depth (branch ∷ rest) stack choices
    → effect marks (instr_of branch) (here_with (marked x) stack) ≡ Asks (Compares comparison a b) (branch_arms x left) → (a.plain && b.plain) ≡ false → length choices ≡ depth
    → IsRun method x depth choices Cut
run_cut method x depth branch rest stack left choices comparison a b f is entered full =
    let P = views_of method.instructions in
    let none : depth - length choices ≡ 0 = omega (arith, full) in
    let due = choice_due method x depth branch rest stack left choices comparison a b f is entered in
    record {
      string = sym f.string ∙ ap (λ (n : ℕ). choices ++ string_after marks P mark_arm n (after_at method x f.budget f.offset stack)) none ∙ append-nil choices;
      end_is = sym f.end ∙ ap (λ (n : ℕ). end_after marks P mark_arm n (after_at method x f.budget f.offset stack)) none ∙ ap end_at due;
    }

-- one choice more is made, and the next segment begins
pub follows_choice : (method : Method) (x : Words) (depth far : ℕ) (branch : Instruction) (rest : List Instruction) (stack left : List Marked) (choices : List ℕ) (comparison : Comparison) (a b : Marked)
    → Follows method x depth (branch ∷ rest) stack choices
    → effect marks (instr_of branch) (here_with (marked x) stack) ≡ Asks (Compares comparison a b) (branch_arms x left)
    → distance_of branch ≡ Some far → length left ≡ depth_after (length stack) branch → (a.plain && b.plain) ≡ false → length choices < depth
    → Follows method x depth (cond (related (relation comparison) a.word b.word) (code_from far (branch ∷ rest)) rest) left (choices ++ cond (related (relation comparison) a.word b.word) 1 0 ∷ [])
unfolding most_instructions
follows_choice method x depth far branch rest stack left choices comparison a b f is leads depth_is entered room =
    let P = views_of method.instructions in
    let taken = related (relation comparison) a.word b.word in
    let arm : ℕ = cond taken 1 0 in
    let to = led method x f.offset far branch rest stack left taken f.here f.walks leads depth_is in
    let longer : length (choices ++ arm ∷ []) ≡ length choices + 1 = length-append choices (arm ∷ []) in
    let left_over = depth - length (choices ++ arm ∷ []) in
    let one_more : depth - length choices ≡ suc left_over = omega (arith, longer, room) in
    let due = choice_due method x depth branch rest stack left choices comparison a b f is entered in
    let begins = standing (marked x) (offset_after taken f.offset far branch) left in
    record {
      offset = offset_after taken f.offset far branch;
      budget = most_instructions;
      here = to.here;
      walks = to.walks;
      room = omega (arith, f.short, to.shorter);
      short = omega (arith, f.short, to.shorter);
      few = omega (arith, longer, room);
      string =
          append_assoc choices (arm ∷ []) (string_after marks P mark_arm left_over (segment_from marks P begins).after)
          ∙ ap (λ (l : List ℕ). choices ++ arm ∷ l) (sym (string_is marks P mark_arm left_over begins))
          ∙ ap (λ (d : Done Marked). choices ++ arm ∷ string_from marks P mark_arm left_over d) (sym to.ahead)
          ∙ ap (λ (s : After Marked). choices ++ string_after marks P mark_arm (suc left_over) s) (sym due)
          ∙ ap (λ (n : ℕ). choices ++ string_after marks P mark_arm n (after_at method x f.budget f.offset stack)) (sym one_more)
          ∙ f.string;
      end =
          sym (end_is marks P mark_arm left_over begins)
          ∙ ap (end_from marks P mark_arm left_over) (sym to.ahead)
          ∙ ap (end_after marks P mark_arm (suc left_over)) (sym due)
          ∙ ap (λ (n : ℕ). end_after marks P mark_arm n (after_at method x f.budget f.offset stack)) (sym one_more)
          ∙ f.end;
    }

-- the run goes on in the code of the arm that was chosen
pub follows_branch : (method : Method) (x : Words) (depth far : ℕ) (branch : Instruction) (rest : List Instruction) (stack left : List Marked) (choices more : List ℕ) (comparison : Comparison) (a b : Marked) (taken : Bool)
    → Follows method x depth (branch ∷ rest) stack choices
    → effect marks (instr_of branch) (here_with (marked x) stack) ≡ Asks (Compares comparison a b) (branch_arms x left)
    → distance_of branch ≡ Some far → length left ≡ depth_after (length stack) branch → Chosen comparison a b depth choices more (Some taken)
    → Follows method x depth (cond taken (code_from far (branch ∷ rest)) rest) left more
follows_branch method x depth far branch rest stack left choices more comparison a b taken f is leads depth_is chosen = by_mark (a.plain && b.plain) refl chosen.1
  where
    stands : (related (relation comparison) a.word b.word ≡ taken) → (new : List ℕ) → (new ≡ more) → Follows method x depth (cond (related (relation comparison) a.word b.word) (code_from far (branch ∷ rest)) rest) left new
        → Follows method x depth (cond taken (code_from far (branch ∷ rest)) rest) left more
    stands same new grown g =
        subst (λ (l : List ℕ). Follows method x depth (cond taken (code_from far (branch ∷ rest)) rest) left l) grown
        (subst (λ (t : Bool). Follows method x depth (cond t (code_from far (branch ∷ rest)) rest) left new) same g)

    by_mark : (plain : Bool) → (a.plain && b.plain) ≡ plain → Made plain taken depth choices more → Follows method x depth (cond taken (code_from far (branch ∷ rest)) rest) left more
    by_mark true plain made = stands (sym chosen.0) choices (sym made) (follows_plain method x depth far branch rest stack left choices comparison a b f is leads depth_is plain)
    by_mark false plain made =
        stands (sym chosen.0) (choices ++ cond (related (relation comparison) a.word b.word) 1 0 ∷ []) (ap (λ (t : Bool). choices ++ cond t 1 0 ∷ []) (sym chosen.0) ∙ sym made.1)
        (follows_choice method x depth far branch rest stack left choices comparison a b f is leads depth_is plain made.0)

-- the code of an arm is shorter
pub arm_shorter : (method : Method) (x : Words) (depth far : ℕ) (branch : Instruction) (rest : List Instruction) (stack : List Marked) (choices : List ℕ) (taken : Bool)
    → Follows method x depth (branch ∷ rest) stack choices → distance_of branch ≡ Some far → length (cond taken (code_from far (branch ∷ rest)) rest) < length (branch ∷ rest)
arm_shorter method x depth far branch rest stack choices taken f leads =
    omega (arith, (arm_walks (length method.kinds) method.max_stack (length stack) far branch rest taken f.walks leads).shorter)
