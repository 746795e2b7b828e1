use Rattle.std.proofs.Common.{◌≡◌, ℕ, ◌∷◌, length, true, false, sym, ap, ◌∙◌}
use Rattle.ms_machine.specs.Effects.{Moves, Next}
use Rattle.ms_interpreter.specs.declared.slot.Slot.TheVariants as slots
use Rattle.ms_interpreter.specs.Frames.{Frame, Shared, has_room}
use Rattle.ms_interpreter.specs.Seen.{here_of}
use Rattle.ms_interpreter.proofs.Settled.{made_array, no_room}
use Rattle.ms_interpreter.proofs.settling.make_known.Goals as goal

pub returns-then-not-has_room-clause-lead : goal.returns-then-not-has_room-clause-lead
returns-then-not-has_room-clause-lead g c = λ texts.
    let full : has_room c.args.memory.now c.args.length ≡ false = sym c.has_room.ensures ∙ c.if-not-has_room.true in
    no_room g.A.Arithmetic.ints (g.A.Arithmetic.means c.args.arithmetic.now) texts c.args.frame.now c.args.memory.now c.args.length full

pub returns-clause-lead : goal.returns-clause-lead
returns-clause-lead g c = λ texts.
    let room : has_room c.args.memory.now c.args.length ≡ true = sym c.has_room.ensures ∙ c.if-not-has_room.false in
    made_array g.A.Arithmetic.ints (g.A.Arithmetic.means c.constant.new.self) texts c.args.frame.now c.args.memory.now c.args.length c.in_ok-zero.zero room c.in_ok-zero.ensures.is
    ∙ ap (λ (shared : Shared _). Moves Next (here_of (g.A.Arithmetic.means c.constant.new.self) texts (record c.args.frame.now { stack = slots.Array (length c.args.memory.now.arrays) ∷ c.args.frame.now.stack }) shared)) (sym c.in_ok-number.ensures.made)
    ∙ ap (λ (frame : Frame _). Moves Next (here_of (g.A.Arithmetic.means c.constant.new.self) texts frame c.make_array.new.self)) (ap (λ (number : ℕ). record c.args.frame.now { stack = slots.Array number ∷ c.args.frame.now.stack }) (sym c.in_ok-number.ensures.number) ∙ sym c.in_ok-push.ensures.ok)
