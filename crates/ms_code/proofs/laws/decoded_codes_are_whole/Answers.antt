use Rattle.ms_pool.specs.Numbers.{bytes_from_all}
use Rattle.ms_code.proofs.Whole.{is_whole}
use Rattle.ms_code.proofs.laws.decoded_codes_are_whole.Goals as goal

pub returns : goal.returns
returns c = λ pool code decoded all is. is_whole pool code decoded (bytes_from_all code.code all) is
