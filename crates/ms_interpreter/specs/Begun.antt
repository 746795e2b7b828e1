-- How a run begins.
use Rattle.ms_machine.specs.Control.{Done, Goes, Ends}
use Rattle.ms_interpreter.specs.declared.starting.Beginning.{Beginning}
use Rattle.ms_interpreter.specs.declared.starting.Beginning.TheVariants as beginning
use Rattle.ms_interpreter.specs.Leads.{finish_of, state_of}
use Rattle.ms_interpreter.specs.Seen.{Texts}

-- a run begins in this state, or ends at once
abbrev pub begins : {I V : Type 0} → (I → V) → Texts → Beginning I → Done V
begins f texts (beginning.In state) = Goes (state_of f texts state)
begins f texts (beginning.Over finish) = Ends (finish_of f finish)
