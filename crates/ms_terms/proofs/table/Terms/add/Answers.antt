use Rattle.std.proofs.Common.{sym, ap, subst, ◌∙◌}
use Rattle.std.specs.Map.{keys_of}
use Rattle.ms_terms.specs.Nodes.{AreParams, Grows, IsTable}
use Rattle.ms_terms.proofs.Adding.{absent, adds, inserted}
use Rattle.ms_terms.proofs.Grown.{same_table}
use Rattle.ms_terms.proofs.Same.{same_itself, same_node}
use Rattle.ms_terms.proofs.table.Terms.add.Goals as goal
use Rattle.ms_terms.proofs.table.Terms.add.Goals.{in-Ok, in-Err}

pub invariant_of-self : goal.invariant_of-self
invariant_of-self c = elim c.match-insert_full.branch [
  | in-Ok w ↦ let came = inserted _ same_node _ _ _ c.self.view_is c.self.invariant.0 c.self.invariant.1 c.args.node c.args.params c.requires.below c.requires.params c.requires.room w.in-Ok.ensures.entries in (came.table, came.params)
  | in-Err w ↦ (subst (λ es. IsTable (keys_of es)) (sym w.in-Err.ensures.err) c.self.invariant.0, subst AreParams (sym w.in-Err.ensures.err) c.self.invariant.1)
]

pub returns-clause-adds : goal.returns-clause-adds
returns-clause-adds c = elim c.match-insert_full.branch [
  | in-Ok w ↦ rw w.result-is (adds _ same_itself _ _ _ c.self.view_is c.args.node _ _ c.insert_full.ensures.unique (inserted _ same_node _ _ _ c.self.view_is c.self.invariant.0 c.self.invariant.1 c.args.node c.args.params c.requires.below c.requires.params c.requires.room w.in-Ok.ensures.entries) (w.new.ensures ∙ w.in-Ok.ensures.index))
  | in-Err w ↦ rw w.result-is tt
]

pub returns-clause-grows : goal.returns-clause-grows
returns-clause-grows c = elim c.match-insert_full.branch [
  | in-Ok w ↦ subst (λ ks. Grows ks (keys_of c.insert_full.new.self.entries)) c.self.view_is (inserted _ same_node _ _ _ c.self.view_is c.self.invariant.0 c.self.invariant.1 c.args.node c.args.params c.requires.below c.requires.params c.requires.room w.in-Ok.ensures.entries).grows
  | in-Err w ↦ subst (λ ks. Grows ks (keys_of c.insert_full.new.self.entries)) (ap keys_of w.in-Err.ensures.err ∙ c.self.view_is) (same_table _)
]

pub returns-clause-absent : goal.returns-clause-absent
returns-clause-absent c = elim c.match-insert_full.branch [
  | in-Ok w ↦ rw w.result-is tt
  | in-Err w ↦ rw w.result-is (absent _ same_itself _ _ _ c.self.view_is c.self.invariant.0 c.insert_full.ensures.unique w.in-Err.ensures.err c.args.node c.requires.below w.in-Err.ensures.absent)
]
