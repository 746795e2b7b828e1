use Rattle.std.proofs.Common.{[], ◌∷◌, refl, sym, subst}
use Rattle.std.specs.Prelude.{MatchResult}
use Rattle.ms_command.specs.declared.command.Command.{Command}
use Rattle.ms_command.specs.declared.command.Command.TheVariants as commands
use Rattle.ms_command.specs.declared.reply.Reply.TheVariants.{Quitting}
use Rattle.ms_session.specs.declared.output.Output.TheVariants.{Nothing, Reply}
use Rattle.ms_session.specs.Outside.{shelf_side}
use Rattle.ms_session.specs.Sessions.{Prepared, PrepareStops, answer_in}
use Rattle.ms_session.proofs.Sessions.{kept_so, none_asked, once_said, prepared_unasked, replied_so, same_shelf, stopped_unanswered}
use Rattle.ms_session.proofs.session.Session.prepare.Goals as goal

pub returns-in_ok-found-in-Once : goal.returns-in_ok-found-in-Once
returns-in_ok-found-in-Once g c =
    let before = shelf_side (g.F.Shelf.files c.args.shelf.now) (g.F.Shelf.counts c.args.shelf.now) (g.F.Shelf.asked c.args.shelf.now) in
    let now = shelf_side (g.F.Shelf.files c.ask.new.shelf) (g.F.Shelf.counts c.ask.new.shelf) (g.F.Shelf.asked c.ask.new.shelf) in
    let given = c.in_ok-found-in-Once.ensures in
    subst (λ (command : Command). MatchResult c.replied.result (λ output. Prepared command c.args.self.now c.args.self.now output before now) (λ stop. PrepareStops stop command before now)) (sym c.in-Once.is)
    (replied_so (commands.Once c.in-Once.file c.in-Once.name c.in-Once.desc c.in-Once.words) c.args.self.now c.args.self.now (answer_in c.in_ok-found-in-Once.found ∷ []) before now c.once.result c.replied.result c.replied.ensures
    (once_said c.args.self.now c.in-Once.file c.in-Once.name c.in-Once.desc c.in-Once.words (answer_in c.in_ok-found-in-Once.found) c.once.result c.once.ensures) given.given given.passes given.calm (λ none. absurd (let n = none in cc)))

pub returns-in_ok-found-in-Class : goal.returns-in_ok-found-in-Class
returns-in_ok-found-in-Class g c =
    let before = shelf_side (g.F.Shelf.files c.args.shelf.now) (g.F.Shelf.counts c.args.shelf.now) (g.F.Shelf.asked c.args.shelf.now) in
    let now = shelf_side (g.F.Shelf.files c.ask-in-Class.new.shelf) (g.F.Shelf.counts c.ask-in-Class.new.shelf) (g.F.Shelf.asked c.ask-in-Class.new.shelf) in
    let given = c.in_ok-found-in-Class.ensures in
    subst (λ (command : Command). MatchResult c.replied-in-Class.result (λ output. Prepared command c.args.self.now c.add_class.new.self output before now) (λ stop. PrepareStops stop command before now)) (sym c.in-Class.is)
    (replied_so (commands.Class c.in-Class.file) c.args.self.now c.add_class.new.self (answer_in c.in_ok-found-in-Class.found ∷ []) before now c.add_class.result c.replied-in-Class.result c.replied-in-Class.ensures
    c.add_class.ensures given.given given.passes given.calm (λ none. absurd (let n = none in cc)))

pub returns-in-Entry : goal.returns-in-Entry
returns-in-Entry g c =
    let before = shelf_side (g.F.Shelf.files c.args.shelf.now) (g.F.Shelf.counts c.args.shelf.now) (g.F.Shelf.asked c.args.shelf.now) in
    subst (λ (command : Command). MatchResult c.replied-in-Entry.result (λ output. Prepared command c.args.self.now c.set_entry.new.self output before before) (λ stop. PrepareStops stop command before before)) (sym c.in-Entry.is)
    (replied_so (commands.Entry c.in-Entry.class c.in-Entry.name c.in-Entry.desc) c.args.self.now c.set_entry.new.self [] before before c.set_entry.result c.replied-in-Entry.result c.replied-in-Entry.ensures
    c.set_entry.ensures (none_asked before) (same_shelf before) refl (λ none. refl))

pub returns-in-Explore : goal.returns-in-Explore
returns-in-Explore g c =
    let before = shelf_side (g.F.Shelf.files c.args.shelf.now) (g.F.Shelf.counts c.args.shelf.now) (g.F.Shelf.asked c.args.shelf.now) in
    subst (λ (command : Command). MatchResult c.replied-in-Explore.result (λ output. Prepared command c.args.self.now c.explore.new.self output before before) (λ stop. PrepareStops stop command before before)) (sym c.in-Explore.is)
    (replied_so (commands.Explore c.in-Explore.most) c.args.self.now c.explore.new.self [] before before c.explore.result c.replied-in-Explore.result c.replied-in-Explore.ensures
    c.explore.ensures (none_asked before) (same_shelf before) refl (λ none. refl))

pub returns-in-Depth : goal.returns-in-Depth
returns-in-Depth g c =
    let before = shelf_side (g.F.Shelf.files c.args.shelf.now) (g.F.Shelf.counts c.args.shelf.now) (g.F.Shelf.asked c.args.shelf.now) in
    subst (λ (command : Command). Prepared command c.args.self.now c.set_depth.new.self (Reply c.set_depth.result) before before) (sym c.in-Depth.is)
    (prepared_unasked (commands.Depth c.in-Depth.depth) c.args.self.now c.set_depth.new.self (Reply c.set_depth.result) before refl (record { text = c.set_depth.ensures.text; state_is = c.set_depth.ensures.state_is }) tt)

pub returns-in-Nothing : goal.returns-in-Nothing
returns-in-Nothing g c =
    let before = shelf_side (g.F.Shelf.files c.args.shelf.now) (g.F.Shelf.counts c.args.shelf.now) (g.F.Shelf.asked c.args.shelf.now) in
    subst (λ (command : Command). Prepared command c.args.self.now c.args.self.now Nothing before before) (sym c.in-Nothing.is)
    (prepared_unasked commands.Nothing c.args.self.now c.args.self.now Nothing before refl (record { text = refl; state_is = refl }) tt)

pub returns-in-Quit : goal.returns-in-Quit
returns-in-Quit g c =
    let before = shelf_side (g.F.Shelf.files c.args.shelf.now) (g.F.Shelf.counts c.args.shelf.now) (g.F.Shelf.asked c.args.shelf.now) in
    subst (λ (command : Command). Prepared command c.args.self.now c.args.self.now (Reply Quitting) before before) (sym c.in-Quit.is)
    (prepared_unasked commands.Quit c.args.self.now c.args.self.now (Reply Quitting) before refl (record { text = refl; state_is = refl }) tt)

pub returns-in-Report : goal.returns-in-Report
returns-in-Report g c =
    let before = shelf_side (g.F.Shelf.files c.args.shelf.now) (g.F.Shelf.counts c.args.shelf.now) (g.F.Shelf.asked c.args.shelf.now) in
    subst (λ (command : Command). MatchResult c.kept.result (λ output. Prepared command c.args.self.now c.args.self.now output before before) (λ stop. PrepareStops stop command before before)) (sym c.in-Report.is)
    (kept_so commands.Report c.args.self.now c.args.self.now before c.report.result c.kept.result refl c.kept.ensures c.report.ensures.leads c.report.ensures.short)

pub returns-in_err-found-in-Once : goal.returns-in_err-found-in-Once
returns-in_err-found-in-Once g c =
    let before = shelf_side (g.F.Shelf.files c.args.shelf.now) (g.F.Shelf.counts c.args.shelf.now) (g.F.Shelf.asked c.args.shelf.now) in
    let now = shelf_side (g.F.Shelf.files c.ask.new.shelf) (g.F.Shelf.counts c.ask.new.shelf) (g.F.Shelf.asked c.ask.new.shelf) in
    subst (λ (command : Command). MatchResult c.from_residual.result (λ output. Prepared command c.args.self.now c.args.self.now output before now) (λ stop. PrepareStops stop command before now)) (sym c.in-Once.is)
    (stopped_unanswered c.in_err-found-in-Once.field-0.0 (commands.Once c.in-Once.file c.in-Once.name c.in-Once.desc c.in-Once.words) c.in-Once.file c.args.self.now c.args.self.now before now c.from_residual.result refl c.in_err-found-in-Once.ensures c.from_residual.ensures.1)

pub returns-in_err-found-in-Class : goal.returns-in_err-found-in-Class
returns-in_err-found-in-Class g c =
    let before = shelf_side (g.F.Shelf.files c.args.shelf.now) (g.F.Shelf.counts c.args.shelf.now) (g.F.Shelf.asked c.args.shelf.now) in
    let now = shelf_side (g.F.Shelf.files c.ask-in-Class.new.shelf) (g.F.Shelf.counts c.ask-in-Class.new.shelf) (g.F.Shelf.asked c.ask-in-Class.new.shelf) in
    subst (λ (command : Command). MatchResult c.from_residual-in_err-found-in-Class.result (λ output. Prepared command c.args.self.now c.args.self.now output before now) (λ stop. PrepareStops stop command before now)) (sym c.in-Class.is)
    (stopped_unanswered c.in_err-found-in-Class.field-0.0 (commands.Class c.in-Class.file) c.in-Class.file c.args.self.now c.args.self.now before now c.from_residual-in_err-found-in-Class.result refl c.in_err-found-in-Class.ensures c.from_residual-in_err-found-in-Class.ensures.1)
