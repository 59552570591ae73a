use Rattle.std.proofs.Common.{◌≡◌, ◌∙◌, arith}
use Rattle.std.proofs.lemmas.Result.{IfOk-weaker}
use Rattle.poly.specs.Seen.{terms_each}
use Rattle.invariant_fix.specs.InWork.{Awaits, orbiting}
use Rattle.invariant_fix.specs.Steps.{HasWhole}
use Rattle.invariant_fix.proofs.Works.{since_at}
use Rattle.invariant_fix.proofs.Branching.{orbit_due, whole_done}
use Rattle.invariant_fix.proofs.branch_in_work.BranchInWork.first_list.Goals.{After-index}
use Rattle.invariant_fix.proofs.branch_in_work.BranchInWork.first_list.Goals as goal

since_is : (c : After-index) → c.index.result.now.form.since ≡ 0
    → HasWhole c.args.self.now.setting.now c.args.self.now.place
since_is c e = since_at c.requires.at c.index.result.now c.index.ensures ∙ e

due : (c : After-index) → c.index.result.now.form.since ≡ 0
    → Awaits c.args.self.now c.args.meter.now
    (orbiting c.args.self.now (terms_each c.args.self.now.basis.now))
due c e = orbit_due c.args.self.now c.args.meter.now _
    (let whole = since_is c e in omega (arith, whole)) c.requires.next

pub returns-then-index-eq0-clause-next : goal.returns-then-index-eq0-clause-next
returns-then-index-eq0-clause-next c =
    let w = c.args.self.now in
    let at = (goal.at.returns-then-index-eq0-clause-next c).After-index in
    let e = c.if-index-eq0.true in
    IfOk-weaker c.orbit.result _ _
    (λ ls h. whole_done w c.orbit.new.meter (terms_each w.basis.now) ls.items c.requires.first
    (since_is at e) h) (c.orbit.ensures.next (terms_each w.basis.now) (due at e))

pub returns-then-index-eq0-clause-err : goal.returns-then-index-eq0-clause-err
returns-then-index-eq0-clause-err c =
    let at = (goal.at.returns-then-index-eq0-clause-err c).After-index in
    c.orbit.ensures.err (terms_each c.args.self.now.basis.now) (due at c.if-index-eq0.true)
