use Rattle.std.proofs.Common.{◌≡◌, suc, ◌-◌, ◌++◌, map, sym, ap, ◌∙◌, arith}
use Rattle.ms_session.specs.Growing.{with_one}
use Rattle.ms_session.proofs.Inputs.{all_boolean, all_of, at_place, padded_inputs}
use Rattle.ms_session.proofs.runs.all_inputs.Goals as goal

pub double-requires : goal.double-requires
double-requires c =
    rw c.loop-place.invariant.inputs (all_boolean c.args.kinds c.loop-place.place (c.loop-place.place - 1) c.requires (omega (arith, c.loop-place.invariant.within, c.loop-place-test.true)))

pub loop-place-preserved : goal.loop-place-preserved
loop-place-preserved c =
    let same : suc (c.loop-place.place - 1) ≡ c.loop-place.place = omega (arith, c.loop-place-test.true) in
    record {
      within = omega (arith, c.loop-place.invariant.within);
      inputs = c.in_ok-double.ensures
          ∙ ap (λ l. l ++ map (with_one (c.loop-place.place - 1)) l) (c.loop-place.invariant.inputs ∙ ap (padded_inputs c.args.kinds) (sym same))
          ∙ at_place c.args.kinds (c.loop-place.place - 1) c.requires (omega (arith, c.loop-place.invariant.within, c.loop-place-test.true));
    }

pub returns-clause-kinds : goal.returns-clause-kinds
returns-clause-kinds c = rw c.loop-place.invariant.inputs (all_of c.args.kinds c.loop-place.place)
