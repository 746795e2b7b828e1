use Rattle.std.proofs.Common.{◌≡◌, ◌+◌, ◌++◌, ◌∷◌, [], suc, Some, take, arith, sym, ap, ◌∙◌}
use Rattle.std.specs.Prelude.{option_map, slice_get}
use Rattle.std.proofs.lemmas.List.{length-map, take_all}
use Rattle.ms_program.specs.Programs.{Class}
use Rattle.ms_session.specs.Once.{names_of}
use Rattle.ms_session.proofs.Called.{one_named}
use Rattle.ms_session.proofs.names.class_names.Goals as goal

pub loop-class-preserved : goal.loop-class-preserved
loop-class-preserved c =
    let name = c.in_ok-of.field-0 in
    let next : c.loop-class.class + 1 ≡ suc c.loop-class.class = omega arith in
    let here : option_map (λ (class : Class). class.name) (slice_get c.args.program.now.classes c.loop-class.class) ≡ Some name = c.class_name.ensures ∙ ap Some (sym c.in_ok-of.ensures) in
    c.in_ok-push.ensures.items ∙ ap (λ names. names ++ name ∷ []) c.loop-class.invariant ∙ sym (one_named c.args.program.now.classes c.loop-class.class name here) ∙ ap (λ n. take n (names_of c.args.program.now)) (sym next)

pub returns-clause-names : goal.returns-clause-names
returns-clause-names c =
    c.loop-class.invariant
    ∙ take_all c.loop-class.class (names_of c.args.program.now) (omega (arith, length-map c.args.program.now.classes (λ (class : Class). class.name), c.loop-class-test.false, c.classes-class-end.ensures.count))
