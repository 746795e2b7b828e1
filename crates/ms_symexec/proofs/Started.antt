-- The start of the entry, with its parameters as terms.
use Rattle.std.proofs.Common.{◌≡◌, List, map, Option, Some, sym, ap, ◌∙◌}
use Rattle.std.specs.Prelude.{option_map}
use Rattle.ms_words.specs.declared.kind.Kind.{Kind}
use Rattle.ms_program.specs.declared.method.MethodId.{MethodId}
use Rattle.ms_program.specs.Programs as programs
use Rattle.ms_linking.specs.Linked.{program_of}
use Rattle.ms_terms.specs.Terms.{Term}
use Rattle.ms_machine.specs.Control as control
use Rattle.ms_machine.specs.Control.{Done, Program}
use Rattle.ms_machine.specs.Laws.{parameters_from, shadow_started}
use Rattle.ms_machine.specs.Maps.{map_done, map_locals}
use Rattle.ms_machine.specs.Values.{Value}
use Rattle.ms_machine.proofs.ControlMap.{start_map}
use Rattle.ms_symexec.specs.Standing.{held}
use Rattle.ms_symexec.proofs.Parameters.{held_seen}

abbrev there : Term → Option Term
there term = Some term

pub some_is : {A : Type 0} (x y : A) → ◌≡◌ {A = Option A} (Some x) (Some y) → x ≡ y
some_is x y e = cc

pub started_so : (V : programs.Program) (id : MethodId) → V.entry ≡ Some id → (P : Program) → program_of V ≡ Some P → (kinds : List Kind) → kinds ≡ P.entry.kinds → (locals : List (Option (Value (Option Term)))) (done : Done (Option Term))
    → ((parameters : List (Option Term)) → locals ≡ held parameters → option_map (λ (M : Program). control.start M parameters) (program_of (record V { entry = Some id })) ≡ Some done)
    → locals ≡ map_locals there (held (parameters_from 0 kinds)) → done ≡ map_done there (shadow_started P P.entry.kinds)
started_so V id entry P is kinds kinds_are locals done law are =
    let parameters = map there (parameters_from 0 kinds) in
    let begun = law parameters (are ∙ held_seen (parameters_from 0 kinds)) in
    let same : program_of (record V { entry = Some id }) ≡ Some P = ap (λ (e : Option MethodId). program_of (record V { entry = e })) (sym entry) ∙ is in
    let it : control.start P parameters ≡ done = some_is _ _ (sym (ap (option_map (λ (M : Program). control.start M parameters)) same) ∙ begun) in
    sym it ∙ start_map there P (parameters_from 0 kinds) ∙ ap (λ (ks : List Kind). map_done there (shadow_started P ks)) kinds_are
