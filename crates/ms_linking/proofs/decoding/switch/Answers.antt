use Rattle.std.proofs.Common.{◌≡◌, Some, map, sym, ap, subst}
use Rattle.ms_code.specs.declared.instruction.Case.{Case}
use Rattle.ms_program.specs.Views.{bare_operand}
use Rattle.ms_machine.specs.Instructions.{Switch}
use Rattle.ms_linking.specs.Linked as linked
use Rattle.ms_linking.proofs.Told.{keys_stay}
use Rattle.ms_linking.proofs.decoding.switch.Goals as goal

pub returns-in-Cases : goal.returns-in-Cases
returns-in-Cases c =
    let cases = c.in-Cases.switch.cases in
    subst (λ operand. Some (Switch (map (λ (case : Case). case.key) cases)) ≡ linked.switch (bare_operand operand)) (sym c.in-Cases.is) (ap (λ keys. Some (Switch keys)) (sym (keys_stay cases)))
