use Rattle.std.proofs.Common.{◌≡◌, length, sym, subst, ◌∙◌, ap}
use Rattle.std.specs.Prelude.{IfOk}
use Rattle.std.proofs.lemmas.Result.{IfOk-weaker}
use Rattle.ms_pathcond.specs.Literals.{IsOf, supports}
use Rattle.ms_pathcond.specs.Gathered.{ArePicked, IsClosed, IsSound}
use Rattle.ms_pathcond.specs.Slices.{IsSlice}
use Rattle.ms_pathcond.proofs.Picking.{all_picked, is_slice, picked_among}
use Rattle.ms_pathcond.proofs.condition.Condition.slice.Goals as goal

is_one : (c : goal.After-drop-supports) → IfOk c.picked.result (IsSlice c.args.terms.now c.args.self.now c.args.first)
is_one c =
    let same : c.as_slice.result.now ≡ c.as_slice-2.result.now = c.as_slice.ensures.value ∙ sym c.as_slice-2.ensures.value in
    let all : c.as_slice-literals.result.now ≡ c.args.self.now = c.as_slice-literals.ensures.value ∙ c.self.view_is in
    let are : c.as_slice-2.result.now ≡ supports c.args.terms.now c.args.self.now = c.as_slice-2.ensures.value ∙ c.in_ok-supports.ensures ∙ ap (supports c.args.terms.now) all in
    let sound = subst (λ ss. IsSound ss c.args.first c.gather_all-gathered.result) same c.gather_all-gathered.ensures.sound in
    let closed = subst (λ ss. IsClosed ss c.args.first c.gather_all-gathered.result (length ss)) same c.gather_all-gathered.ensures.closed in
    let picked = subst (λ ls. IfOk c.picked.result (ArePicked c.as_slice-2.result.now c.args.first c.gather_all-gathered.result ls (length ls))) all c.picked.ensures in
    IfOk-weaker c.picked.result _ _ (λ slice is. is_slice c.args.terms.now c.args.self.now c.args.first c.gather_all-gathered.result c.as_slice-2.result.now slice are sound closed is) picked

pub returns-clause-slice : goal.returns-clause-slice
returns-clause-slice c = is_one c

pub returns-clause-of : goal.returns-clause-of
returns-clause-of c = IfOk-weaker c.picked.result _ _ (λ slice is. all_picked (IsOf (length c.args.terms.now)) _ 0 c.args.self.now slice.literals c.requires is.literals) (is_one c)

pub returns-clause-among : goal.returns-clause-among
returns-clause-among c = IfOk-weaker c.picked.result _ _ (λ slice is. picked_among _ 0 c.args.self.now slice.literals is.literals) (is_one c)
