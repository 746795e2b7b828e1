use Rattle.std.proofs.Common.{ap, refl, slice_set, sym, ◌∙◌}
use Rattle.std.proofs.lemmas.Result.{IfOk-weaker}
use Rattle.ms_verify.specs.Told.{cells_of}
use Rattle.ms_verify.proofs.Finding.{lowest_copied, lowest_shape, lowest_within}
use Rattle.ms_verify.proofs.Receiving.{cells_set}
use Rattle.ms_verify.proofs.turns.settle_at.Goals as goal

pub bounds-slots-at : goal.bounds-slots-at
bounds-slots-at c = lowest_within c.args.slots.now c.args.at c.requires.lowest

pub settle-requires : goal.settle-requires
settle-requires c = rw (lowest_shape c.args.slots.now c.args.at c.index-slots-at.result c.requires.lowest) refl

pub returns-clause-copied : goal.returns-clause-copied
returns-clause-copied c = IfOk-weaker c.settle.result _ _ (λ shape h. lowest_copied c.args.slots.now c.args.at _ shape c.requires.lowest h) c.settle.ensures.copied

pub returns-clause-settled : goal.returns-clause-settled
returns-clause-settled c = IfOk-weaker c.settle.result _ _ (λ shape h. ap (λ x. cells_of (slice_set c.args.slots.now c.args.at x)) h ∙ sym (cells_set c.args.slots.now c.args.at _)) c.settle.ensures.settled
