use Rattle.std.proofs.Common.{ℕ, List, ◌≡◌, false, [], ◌∷◌, ◌++◌, ap, subst, sym, ◌∙◌}
use Rattle.ms_classfile.specs.ClassFile.{is_there}
use Rattle.ms_program.specs.Names.{Key}
use Rattle.ms_program.specs.declared.names.Kept.{Kept}
use Rattle.ms_program.proofs.Members.{one_kept}
use Rattle.ms_program.proofs.names.Names.add.Goals as goal

pub returns : goal.returns
returns c =
    let kept : Kept = record { name = c.in_ok-name.name; desc = c.in_ok-desc.desc } in
    let fresh = subst (λ (keys : List Key). is_there kept.name.items kept.desc.items keys ≡ false) (sym c.self.view_is)
    (subst (λ (desc : List ℕ). is_there kept.name.items desc c.args.self.now ≡ false) (sym c.in_ok-desc.ensures.items)
    (subst (λ (name : List ℕ). is_there name c.args.desc.now c.args.self.now ≡ false) (sym c.in_ok-name.ensures.items) c.requires)) in
    one_kept kept c.self.inside.keys.keys c.insert.new.self.keys fresh c.in_ok-insert.ensures.keys
    ∙ ap (λ (keys : List Key). keys ++ (kept.name.items, kept.desc.items) ∷ []) c.self.view_is
    ∙ ap (λ (name : List ℕ). c.args.self.now ++ (name, kept.desc.items) ∷ []) c.in_ok-name.ensures.items
    ∙ ap (λ (desc : List ℕ). c.args.self.now ++ (c.args.name.now, desc) ∷ []) c.in_ok-desc.ensures.items
