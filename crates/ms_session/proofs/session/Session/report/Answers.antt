use Rattle.std.proofs.Common.{◌≡◌, Some, sym, ap, subst, ◌∙◌}
use Rattle.std.specs.Option.{option_map}
use Rattle.ms_command.specs.declared.reply.Reply.TheVariants.{Unfinished}
use Rattle.ms_classfile.specs.Found.{view}
use Rattle.ms_classfile.specs.Reading.{thin_method}
use Rattle.ms_session.specs.declared.output.Output.TheVariants.{Reply, Report}
use Rattle.ms_session.specs.States.{State}
use Rattle.ms_session.specs.Steps.{report_next}
use Rattle.ms_session.specs.Sessions.{Leads, classes_in, entry_in}
use Rattle.ms_session.proofs.Sessions.{entry_is, report_leads, unfinished_leads}
use Rattle.ms_session.proofs.session.Session.report.Goals as goal

pub returns-in_default-found-clause-leads : goal.returns-in_default-found-clause-leads
returns-in_default-found-clause-leads c =
    let read : thin_method c.in-Some.bytes.items ≡ Some (view c.in-Some-2.method) = ap thin_method (sym c.as_slice.ensures.value) ∙ sym c.in_ok-method.ensures.found ∙ ap (option_map view) c.in-Some-2.is in
    let entry = entry_is c.self.inside.has_entry c.self.inside.file c.in-Some.bytes (view c.in-Some-2.method) c.if-not-self.false c.in-Some.is read in
    subst (λ (s : State). Leads (report_next s s.entry) (Reply Unfinished) s) c.self.view_is
    (unfinished_leads (record { classes = classes_in c.self.inside.file; entry = entry_in c.self.inside.has_entry c.self.inside.file; depth = c.self.inside.depth; known = c.self.inside.known })
    (view c.in-Some-2.method) entry (rw c.in_default-found.is at c.in_ok-found.ensures))

pub returns-clause-leads : goal.returns-clause-leads
returns-clause-leads c =
    let read : thin_method c.in-Some.bytes.items ≡ Some (view c.in-Some-2.method) = ap thin_method (sym c.as_slice.ensures.value) ∙ sym c.in_ok-method.ensures.found ∙ ap (option_map view) c.in-Some-2.is in
    let entry = entry_is c.self.inside.has_entry c.self.inside.file c.in-Some.bytes (view c.in-Some-2.method) c.if-not-self.false c.in-Some.is read in
    let found = rw c.in-Some-found.is at c.in_ok-found.ensures in
    subst (λ (s : State). Leads (report_next s s.entry) (Report c.in_ok-names.names c.in-Some-found.rows) s) c.self.view_is
    (report_leads (record { classes = classes_in c.self.inside.file; entry = entry_in c.self.inside.has_entry c.self.inside.file; depth = c.self.inside.depth; known = c.self.inside.known })
    (view c.in-Some-2.method) c.in_ok-names.names c.in-Some-found.rows entry found.0 c.in_ok-names.ensures found.1)
