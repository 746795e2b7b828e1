use Rattle.std.proofs.Common.{◌+◌, arith}
use Rattle.ms_pool.proofs.Linked.{class_where, integer_where, many_placed, member_where, pool_is_sound, string_where, utf8_where}
use Rattle.ms_pool.proofs.Slots.{pool_stands}
use Rattle.ms_pool.specs.Pools.{numbered}
use Rattle.ms_pool.proofs.pool.pools_hold_what_they_name.Goals as goal

pub returns-clause-index : goal.returns-clause-index
returns-clause-index c = λ bytes at entries after is. pool_stands bytes at entries after is

pub returns-clause-count : goal.returns-clause-count
returns-clause-count c = λ at entries. omega (arith, many_placed (at + 2) entries)

pub returns-clause-utf8 : goal.returns-clause-utf8
returns-clause-utf8 c = λ place after entries is i. utf8_where (numbered place.at entries) (pool_is_sound place after entries is) i

pub returns-clause-integer : goal.returns-clause-integer
returns-clause-integer c = λ place after entries is i. integer_where (numbered place.at entries) (pool_is_sound place after entries is) i

pub returns-clause-class_name : goal.returns-clause-class_name
returns-clause-class_name c = λ place after entries is i. class_where (numbered place.at entries) (pool_is_sound place after entries is) i

pub returns-clause-text : goal.returns-clause-text
returns-clause-text c = λ place after entries is i. string_where (numbered place.at entries) (pool_is_sound place after entries is) i

pub returns-clause-member : goal.returns-clause-member
returns-clause-member c = λ place after entries is i. member_where (numbered place.at entries) (pool_is_sound place after entries is) i
