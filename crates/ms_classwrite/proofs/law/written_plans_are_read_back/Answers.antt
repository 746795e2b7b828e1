use Rattle.ms_classwrite.proofs.Files.{read_back}
use Rattle.ms_classwrite.proofs.Once.{own_numbers, pool_once}
use Rattle.ms_classwrite.proofs.law.written_plans_are_read_back.Goals as goal

pub returns-clause-read : goal.returns-clause-read
returns-clause-read c = λ plan linked fits types readable. read_back plan linked fits types readable

pub returns-clause-numbers : goal.returns-clause-numbers
returns-clause-numbers c = λ plan i line is. own_numbers plan i line is

pub returns-clause-once : goal.returns-clause-once
returns-clause-once c = λ plan different. pool_once plan different
