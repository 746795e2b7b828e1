use Rattle.ms_pool.proofs.Pools.{not_both, one_fault, one_pool, pool_or_fault}
use Rattle.ms_pool.specs.Numbers.{bytes_from_all}
use Rattle.ms_pool.proofs.pool.pools_are_whole_or_have_a_fault.Goals as goal

pub returns-clause-either : goal.returns-clause-either
returns-clause-either c = λ place all. pool_or_fault place (bytes_from_all place.left all)

pub returns-clause-not_both : goal.returns-clause-not_both
returns-clause-not_both c = λ place all pool fault. not_both place pool.after pool.entries fault.fault (bytes_from_all place.left all) pool.is fault.is

pub returns-clause-one_pool : goal.returns-clause-one_pool
returns-clause-one_pool c = λ place first_after second_after first second all p q. one_pool place first_after second_after first second (bytes_from_all place.left all) p q

pub returns-clause-one_fault : goal.returns-clause-one_fault
returns-clause-one_fault c = λ place first second all p q. one_fault place first second (bytes_from_all place.left all) p q
