use Rattle.std.proofs.Common.{◌≡◌, None, sym, ap, ◌∙◌, subst, rules, w32}
use mir.Val.{SFits}
use Rattle.std.proofs.lemmas.Int.{to_z-of_z}
use Rattle.ms_interpreter.specs.declared.lead.Lead.{Lead}
use Rattle.ms_interpreter.specs.declared.did.Did.TheVariants as did
use Rattle.ms_interpreter.specs.Leads.{Settles, natural_of}
use Rattle.ms_interpreter.proofs.Settled.{negative_length}
use Rattle.ms_interpreter.proofs.settling.make.Goals as goal

pub returns-in_default-natural-clause-lead : goal.returns-in_default-natural-clause-lead
returns-in_default-natural-clause-lead g c = λ texts.
    let fits : SFits w32 c.in-Some.word = search rules in
    let none : None ≡ natural_of c.in-Some.word = sym c.in_default-natural.is ∙ c.natural.ensures ∙ ap natural_of (to_z-of_z w32 c.in-Some.word fits) in
    subst (λ (lead : Lead _). Settles g.A.Arithmetic.ints (g.A.Arithmetic.means c.args.arithmetic.now) texts (did.Makes c.args.size) c.args.frame.now c.args.memory.now lead c.args.frame.now c.make_throwable.new.self) (sym c.thrown.ensures)
    (negative_length g.A.Arithmetic.ints (g.A.Arithmetic.means c.args.arithmetic.now) texts c.args.frame.now c.args.memory.now c.make_throwable.new.self c.args.size c.in-Some.word c.make_throwable.result c.in-Some.ensures none c.make_throwable.ensures)
