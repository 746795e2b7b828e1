use Rattle.std.proofs.Common.{◌≡◌, ◌++◌, sym, ap, ◌∙◌, arith}
use Rattle.std.proofs.lemmas.List.{length-append}
use Rattle.ms_report.specs.Stops.{totals_of}
use Rattle.std.proofs.lemmas.Result.{MatchResult-weaker}
use Rattle.ms_command.specs.Texts.{reply_text}
use Rattle.ms_command.specs.declared.reply.Reply.TheVariants.{Reported}
use Rattle.ms_report.specs.Rows.{rows_text}
use Rattle.ms_report.specs.declared.report.Totals.{Totals}
use Rattle.ms_session.specs.Steps.{reported}
use Rattle.ms_session.proofs.Writing.{part_before, reply_has_text, stops_behind, wrote_both}
use Rattle.ms_session.proofs.output.report.Goals as goal

pub returns-in-Err-WriteFault : goal.returns-in-Err-WriteFault
returns-in-Err-WriteFault g c = record {
  part = part_before _ _ (rows_text c.args.names.now c.args.rows.now) _ c.in-Err-WriteFault.ensures.part;
  cause = rw c.in-Err-WriteFault.field-0-is at c.in-Err-WriteFault.ensures.cause;
  some = omega (arith, length-append (rows_text c.args.names.now c.args.rows.now) (reply_text (Reported (totals_of c.args.rows.now).paths (totals_of c.args.rows.now).undecided)), reply_has_text (Reported (totals_of c.args.rows.now).paths (totals_of c.args.rows.now).undecided));
  grows = c.in-Err-WriteFault.ensures.grows;
}

pub returns-in-Err-NoMemory : goal.returns-in-Err-NoMemory
returns-in-Err-NoMemory g c = record {
  part = part_before _ _ (rows_text c.args.names.now c.args.rows.now) _ c.in-Err-NoMemory.ensures.part;
  cause = rw c.in-Err-NoMemory.field-0-is at c.in-Err-NoMemory.ensures.cause;
  some = tt;
  grows = c.in-Err-NoMemory.ensures.grows;
}

pub returns : goal.returns
returns g c =
    let text : reported c.args.names.now c.args.rows.now ≡ rows_text c.args.names.now c.args.rows.now ++ reply_text (Reported c.in-Ok.totals.paths c.in-Ok.totals.undecided) =
    ap (λ (t : Totals). rows_text c.args.names.now c.args.rows.now ++ reply_text (Reported t.paths t.undecided)) (sym c.in-Ok.ensures.totals) in
    MatchResult-weaker c.say.result c.say.ensures
    (λ u wrote. (wrote_both (rows_text c.args.names.now c.args.rows.now) _ _ _ _ _ text c.in-Ok.ensures.whole wrote.0, wrote.1 ∙ c.in-Ok.ensures.steady))
    (λ stop stops. stops_behind stop (rows_text c.args.names.now c.args.rows.now) _ _ _ _ _ _ _ _ text c.in-Ok.ensures.whole c.in-Ok.ensures.steady stops)
