use Rattle.std.proofs.Common.{List, Option, Some, take, ap, ◌∙◌, arith}
use Rattle.ms_words.specs.declared.kind.Kind.TheVariants.{Z}
use Rattle.ms_terms.specs.declared.term.TermId.{TermId}
use Rattle.ms_machine.specs.Laws.{parameters_from}
use Rattle.ms_machine.specs.Maps.{map_locals}
use Rattle.ms_interpreter.specs.declared.slot.Slot.{Slot}
use Rattle.ms_interpreter.specs.Seen.{locals_of}
use Rattle.ms_interpreter.specs.Symbols.{symbol}
use Rattle.ms_symexec.specs.Standing.{held}
use Rattle.ms_symexec.proofs.Parameters.{all_held, local_more, stay_on, symbols_stay}
use Rattle.ms_symexec.proofs.Standing.{locals_stay}
use Rattle.ms_symexec.proofs.starting.parameters.Goals as goal

pub loop-place-preserved : goal.loop-place-preserved
loop-place-preserved c =
    let stay = symbols_stay c.loop-place.terms c.param.new.self c.param.ensures.grows in
    let kinds = c.get-kinds.result.now in
    let f = symbol c.param.new.self in
    record {
      stay = stay_on c.args.terms.now c.loop-place.terms c.param.new.self c.loop-place.invariant.stay stay;
      few = omega (arith, c.loop-place.invariant.few, c.param.ensures.few);
      locals = λ texts.
          ap (λ (locals : List (Option (Slot TermId))). locals_of f texts locals) c.in_ok-push.ensures.items
          ∙ local_more f texts kinds c.loop-place.place Z c.loop-place.locals.items c.in_ok-id.id c.loop-place-test.true
          (locals_stay (symbol c.loop-place.terms) f stay texts c.loop-place.locals.items (held (take c.loop-place.place (parameters_from 0 kinds))) (c.loop-place.invariant.locals texts)) c.in_ok-id.ensures.adds.is;
    }

pub returns-clause-locals : goal.returns-clause-locals
returns-clause-locals c = λ texts.
    c.loop-place.invariant.locals texts
    ∙ ap (λ terms. map_locals (λ term. Some term) (held terms)) (all_held c.get-kinds.result.now c.loop-place.place (omega (arith, c.loop-place-test.false, c.loop-place.auto.place-end)))
    ∙ ap (λ kinds. map_locals (λ term. Some term) (held (parameters_from 0 kinds))) c.get-kinds.ensures.kinds
