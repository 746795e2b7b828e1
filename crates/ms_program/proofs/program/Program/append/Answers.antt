use Rattle.std.proofs.Common.{◌≡◌, ◌<◌, length, List, [], ◌∷◌, ◌++◌, None, subst, sym}
use Rattle.ms_program.specs.Programs.{AreApart, Class, IsProgram, Program, class_named}
use Rattle.ms_program.proofs.Apart.{apart_appended}
use Rattle.ms_program.proofs.Entries.{appended}
use Rattle.ms_program.proofs.program.Program.append.Goals as goal

pub invariant_of-self-2 : goal.invariant_of-self-2
invariant_of-self-2 c =
    let P : Program = record { classes = c.self.inside.classes.items; entry = c.self.inside.entry } in
    let few : length P.classes < 64 = subst (λ (p : Program). length p.classes < 64) (sym c.self.view_is) c.requires.few in
    let apart : AreApart (P.classes ++ c.args.class ∷ []) = apart_appended P c.args.class c.self.invariant.apart (subst (λ (p : Program). class_named p c.args.class.name ≡ None) (sym c.self.view_is) c.requires.new) in
    subst (λ (classes : List Class). IsProgram (record { classes = classes; entry = P.entry })) (sym c.in_ok-push.ensures.items) (appended P c.args.class c.self.invariant c.requires.class few apart)
