use Rattle.std.proofs.Common.{◌≡◌, Some, sym, ap, subst, ◌∙◌}
use Rattle.ms_command.specs.declared.reply.Reply.TheVariants.{Explored}
use Rattle.ms_session.specs.States.{State}
use Rattle.ms_session.specs.Steps.{explore_next}
use Rattle.std.specs.Option.{option_map}
use Rattle.ms_classfile.specs.Found.{view}
use Rattle.ms_classfile.specs.Reading.{thin_method}
use Rattle.ms_session.specs.Sessions.{Says, classes_in, entry_in}
use Rattle.ms_session.proofs.Sessions.{entry_is, explored_leads}
use Rattle.ms_session.proofs.session.Session.explore.Goals as goal

pub returns : goal.returns
returns c =
    let read : thin_method c.in-Some.bytes.items ≡ Some (view c.in-Some-2.method) = ap thin_method (sym c.as_slice.ensures.value) ∙ sym c.in_ok-method.ensures.found ∙ ap (option_map view) c.in-Some-2.is in
    let entry = entry_is c.self.inside.has_entry c.self.inside.file c.in-Some.bytes (view c.in-Some-2.method) c.if-not-self.false c.in-Some.is read in
    subst (λ (s : State). Says (explore_next s c.args.most s.entry) (Explored c.in_ok-explored.explored.settled c.in_ok-explored.explored.asks c.in_ok-how.how)
    (record { classes = classes_in c.self.inside.file; entry = entry_in c.self.inside.has_entry c.self.inside.file; depth = c.self.inside.depth; known = c.explore_entry.new.known })) c.self.view_is
    (explored_leads (record { classes = classes_in c.self.inside.file; entry = entry_in c.self.inside.has_entry c.self.inside.file; depth = c.self.inside.depth; known = c.self.inside.known })
    c.args.most c.in_ok-explored.explored.settled c.in_ok-explored.explored.asks (view c.in-Some-2.method) c.explore_entry.new.known c.in_ok-explored.explored.unfinished c.in_ok-how.how entry
    c.in_ok-explored.ensures.known c.in_ok-explored.ensures.settled c.in_ok-explored.ensures.asks c.in_ok-explored.ensures.how c.in_ok-how.ensures)
