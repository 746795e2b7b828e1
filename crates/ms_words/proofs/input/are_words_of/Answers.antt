use Rattle.std.proofs.Common.{sym}
use Rattle.ms_words.proofs.Places.{not_as_many}
use Rattle.ms_words.proofs.input.are_words_of.Goals as goal

pub returns-then-kinds-words : goal.returns-then-kinds-words
returns-then-kinds-words c = sym (not_as_many c.args.kinds.now c.args.words.now c.if-kinds-words.true)
