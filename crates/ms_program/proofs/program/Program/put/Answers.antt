use Rattle.std.proofs.Common.{◌≡◌, Some, ◌<◌, ℕ, length, Option, option_and_then, ap, subst, sym, slice_set, ◌∙◌}
use Rattle.ms_program.specs.declared.method.MethodId.{MethodId}
use Rattle.ms_program.specs.Programs.{AreApart, IsProgram, Program, class_named, kept_entry}
use Rattle.ms_program.proofs.Apart.{apart_set}
use Rattle.ms_program.proofs.Entries.{replaced}
use Rattle.ms_program.proofs.program.Program.put.Goals as goal

pub invariant_of-self : goal.invariant_of-self
invariant_of-self c =
    let P : Program = record { classes = c.self.inside.classes.items; entry = c.self.inside.entry } in
    let within : c.args.number < length P.classes = subst (λ (p : Program). c.args.number < length p.classes) (sym c.self.view_is) c.requires.within in
    let apart : AreApart (slice_set P.classes c.args.number c.args.class) = apart_set P c.args.number c.args.class c.self.invariant.apart (subst (λ (p : Program). class_named p c.args.class.name ≡ Some c.args.number) (sym c.self.view_is) c.requires.named) within in
    subst (λ (place : ℕ). IsProgram (record { classes = slice_set P.classes place c.args.class; entry = c.kept_entry-entry.result })) (sym c.from.ensures)
    (subst (λ (entry : Option MethodId). IsProgram (record { classes = slice_set P.classes c.args.number c.args.class; entry = entry })) (sym (c.kept_entry-entry.ensures ∙ ap (λ (p : Program). option_and_then (kept_entry p c.args.number c.args.class) p.entry) (sym c.self.view_is))) (replaced P c.args.number c.args.class c.self.invariant c.requires.class within apart))
