use Rattle.std.proofs.Common.{◌<◌, ◌≤◌, [], length, ap, subst, arith}
use Rattle.std.proofs.lemmas.List.{length-map}
use Rattle.ms_terms.specs.declared.term.TermId.{TermId}
use Rattle.ms_code.specs.declared.instruction.Case.{Case}
use Rattle.ms_interpreter.specs.Asking.{asked_of}
use Rattle.ms_interpreter.specs.Symbols.{symbol, symbols}
use Rattle.ms_interpreter.specs.declared.asked.Asked.{Asked}
use Rattle.ms_machine.specs.Tests.{arms_of}
use Rattle.ms_symexec.proofs.counting.arms_of.Goals as goal

-- a switch has fewer cases than 65,535, and an array fewer cells
few_cases : (c : goal.After-cases) → length c.cases.result.now < 65535
few_cases c =
    let few = subst (λ (asked : Asked TermId). arms_of (asked_of symbols (symbol []) asked) ≤ 65535) c.in-Selects.is c.requires in
    let many = length-map c.in-Selects.switch.now.cases (λ (case : Case). case.key) in
    let same = ap length c.cases.ensures.cases in
    omega (arith, few, many, same)

few_cells : (c : goal.After-row_known-1) → c.in-Indexes.len < 65535
few_cells c =
    let few = subst (λ (asked : Asked TermId). arms_of (asked_of symbols (symbol []) asked) ≤ 65535) c.in-Indexes.is c.requires in
    omega (arith, few)

pub overflow_cast-result : goal.overflow_cast-result
overflow_cast-result c = let few = few_cases c in grind (arith, few)

pub overflow_add-result : goal.overflow_add-result
overflow_add-result c = let few = few_cases c in grind (arith, few)

pub overflow_cast-result-in-Indexes : goal.overflow_cast-result-in-Indexes
overflow_cast-result-in-Indexes c = let few = few_cells c in grind (arith, few)

pub overflow_add-result-in-Indexes : goal.overflow_add-result-in-Indexes
overflow_add-result-in-Indexes c = let few = few_cells c in grind (arith, few)
