use Rattle.std.proofs.Common.{sym, ap, subst}
use Rattle.ms_machine.specs.Instructions.{Instr}
use Rattle.ms_linking.specs.Told.{told}
use Rattle.ms_interpreter.specs.Asking.{Asks}
use Rattle.ms_interpreter.specs.Doing.{planned_here}
use Rattle.ms_interpreter.specs.Plans.{plans}
use Rattle.ms_interpreter.proofs.Quiet.{effect_quiet, others_are_quiet}
use Rattle.ms_interpreter.proofs.asking.ask.Goals as goal

pub returns-in_default : goal.returns-in_default
returns-in_default g c = λ texts known.
    effect_quiet (plans known) (told c.args.instruction.now) (planned_here texts c.args.frame.now c.args.memory.now)
    (others_are_quiet c.args.instruction.now (record {
      divide = c.in_default.not-Divide;
      compare = c.in_default.not-Compare;
      compare_zero = c.in_default.not-CompareZero;
      switch = c.in_default.not-Switch;
      load = c.in_default.not-ArrayLoad;
      store = c.in_default.not-ArrayStore;
    }))

pub returns-in-Divide : goal.returns-in-Divide
returns-in-Divide g c = subst (λ (instr : Instr). Asks instr c.args.frame.now c.args.memory.now c.divided.result) (sym (ap told c.in-Divide.is)) c.divided.ensures

pub returns-in-Compare : goal.returns-in-Compare
returns-in-Compare g c = subst (λ (instr : Instr). Asks instr c.args.frame.now c.args.memory.now c.compared.result) (sym (ap told c.in-Compare.is)) c.compared.ensures

pub returns-in-CompareZero : goal.returns-in-CompareZero
returns-in-CompareZero g c = subst (λ (instr : Instr). Asks instr c.args.frame.now c.args.memory.now c.compared_with_zero.result) (sym (ap told c.in-CompareZero.is)) c.compared_with_zero.ensures

pub returns-in-Switch : goal.returns-in-Switch
returns-in-Switch g c = subst (λ (instr : Instr). Asks instr c.args.frame.now c.args.memory.now c.selected.result) (sym (ap told c.in-Switch.is)) c.selected.ensures

pub returns-in-ArrayLoad : goal.returns-in-ArrayLoad
returns-in-ArrayLoad g c = subst (λ (instr : Instr). Asks instr c.args.frame.now c.args.memory.now c.loaded.result) (sym (ap told c.in-ArrayLoad.is)) c.loaded.ensures

pub returns-in-ArrayStore : goal.returns-in-ArrayStore
returns-in-ArrayStore g c = subst (λ (instr : Instr). Asks instr c.args.frame.now c.args.memory.now c.stored.result) (sym (ap told c.in-ArrayStore.is)) c.stored.ensures
