use Rattle.std.proofs.Common.{List, ℕ, ap, ◌∙◌, subst}
use Rattle.ms_command.specs.declared.reply.Reply.TheVariants.{VerifyFault}
use Rattle.ms_verify.specs.Checking.{IsWhy}
use Rattle.ms_verify.specs.declared.verified.VerifyWhy.{VerifyWhy}
use Rattle.ms_verify.specs.Faults.{ProgramFault}
use Rattle.ms_session.specs.Once.{verify_name}
use Rattle.ms_session.proofs.unverified.unverified_reply.Goals as goal

pub returns-in_ok-kind-in-Fault : goal.returns-in_ok-kind-in-Fault
returns-in_ok-kind-in-Fault c =
    let fault : ProgramFault = record { class = c.in-Fault.class; method = c.in-Fault.method; offset = c.in-Fault.offset; kind = c.in-Fault.kind } in (
      fault,
      (c.first_faults_are_found.ensures.found c.args.unverified.now.program fault c.requires.program).0 (subst (λ (why : VerifyWhy). IsWhy c.args.unverified.now.program why) c.in-Fault.is c.requires.why),
      ap (λ (kind : List ℕ). VerifyFault kind c.in_ok-method-in-Fault.method c.in-Fault.offset) (c.in_ok-kind-in-Fault.ensures ∙ c.verify_name.ensures)
          ∙ ap (λ (method : List ℕ). VerifyFault (verify_name c.in-Fault.kind) method c.in-Fault.offset) c.in_ok-method-in-Fault.ensures,
    )
