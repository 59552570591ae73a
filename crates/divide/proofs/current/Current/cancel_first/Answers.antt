use Rattle.std.proofs.Common.{sym, ap, subst, ◌∙◌}
use Rattle.std.proofs.lemmas.Result.{err_from_is_err_and}
use Rattle.algebra.specs.Scalars.{field}
use Rattle.machines.specs.Past.{IsPastCut}
use Rattle.poly.specs.Operations.{IsLike, LeadIsMultiple, LessMultipleIsPast, less_multiple}
use Rattle.poly.specs.Seen.{terms_in}
use Rattle.divide.specs.Current.{left_of, done_of}
use Rattle.divide.specs.Cutting.{cutting_of, term_at}
use Rattle.divide.proofs.OneCut.{along, cuts, past_rest, lead_multiple}
use Rattle.divide.proofs.Parts.{CutBehind, cut_behind, past_behind}
use Rattle.divide.proofs.current.Current.cancel_first.Given.{Over}
use Rattle.divide.proofs.current.Current.cancel_first.Goals.{Start, In_ok-left}
use Rattle.divide.proofs.current.Current.cancel_first.Goals as goal

pub cancel_lead-requires-clause-lead : goal.cancel_lead-requires-clause-lead
cancel_lead-requires-clause-lead g c =
    subst (λ p. LeadIsMultiple p c.in_ok-factor.factor c.args.g.now)
    (sym c.replace-rest.ensures.value)
    (lead_multiple g.K.Ring.scalars _ _ _ _ c.requires.first c.requires.nonzero
    c.in_ok-factor.ensures.term)

behind : (g : Over) (c : In_ok-left g) → CutBehind g.K.Ring.scalars
    (g.O.Order.order c.args.self.now.rest.order) c.args.self.now.rest.arity
    (done_of c.args.self.now) (terms_in c.args.self.now.rest) (terms_in c.in_ok-left.left)
    (terms_in c.args.g.now) c.in_ok-factor.factor.mono (g.K.Ring.meaning c.in_ok-factor.factor.coef)
behind g c =
    let S = g.K.Ring.scalars in
    let p = c.args.self.now.rest in
    let q = c.args.g.now in
    let O = g.O.Order.order in
    let order = g.met.O.Order.is_order p.order in
    let factor = c.in_ok-factor.ensures in
    let left = subst (λ r. IsLike r (less_multiple r c.in_ok-factor.factor q) c.in_ok-left.left)
    c.replace-rest.ensures.value c.in_ok-left.ensures.difference in
    let hq = along S O _ _ _ _ _ c.requires.order c.requires.arity q.polynomial in
    let hl = along S O _ _ _ _ _ left.order left.arity c.in_ok-left.left.polynomial in
    cut_behind S g.met.K.Ring.ring g.met.K.Field.field g.met.K.Ring.zero_is (O p.order) order
    p.arity (done_of c.args.self.now) (terms_in p) (terms_in c.in_ok-left.left) (terms_in q) _ _
    c.requires.descending hq hl c.requires.nonzero c.requires.first c.requires.divided
    (cuts S g.met.K.Ring.ring g.met.K.Field.field g.met.K.Ring.zero_is (O p.order) order _ _ _ _ _
    _ _ p.polynomial hq hl factor.long factor.by factor.number left.same)

-- where the cancellation of the other terms is past
past : (g : Over) (c : Start g)
    → IsPastCut g.K.Ring.scalars (field g.K.Ring.scalars) (terms_in c.args.self.now.rest)
    (cutting_of g.K.Ring.scalars 0 (term_at g.K.Ring.scalars (terms_in c.args.self.now.rest) 0)
    (terms_in c.args.g.now))
    → IsPastCut g.K.Ring.scalars (field g.K.Ring.scalars) (left_of c.args.self.now)
    (cutting_of g.K.Ring.scalars 0 (term_at g.K.Ring.scalars (terms_in c.args.self.now.rest) 0)
    (terms_in c.args.g.now))
past g c =
    let p = c.args.self.now.rest in
    past_behind g.K.Ring.scalars g.met.K.Ring.ring g.met.K.Field.field g.met.K.Ring.zero_is
    (g.O.Order.order p.order) (g.met.O.Order.is_order p.order) p.arity g.met.K.Ring.bounded _ _ _
    0 _

pub returns-in_err-factor-clause-wide : goal.returns-in_err-factor-clause-wide
returns-in_err-factor-clause-wide g c =
    let e = err_from_is_err_and c.from_residual.result c.from_residual.ensures.1 in
    λ w. past g (goal.at.returns-in_err-factor-clause-wide g c).Start
    (c.in_err-factor.ensures.wide (cc (e.1, e.2, w)))

pub returns-in_err-left-clause-wide : goal.returns-in_err-left-clause-wide
returns-in_err-left-clause-wide g c =
    let e = err_from_is_err_and c.from_residual-in_err-left.result
    c.from_residual-in_err-left.ensures.1 in
    λ w. past g (goal.at.returns-in_err-left-clause-wide g c).Start
    (past_rest g.K.Ring.scalars _ _ _ _ _ c.in_ok-factor.ensures.by c.in_ok-factor.ensures.number
    (subst (λ p. LessMultipleIsPast p c.in_ok-factor.factor c.args.g.now)
    c.replace-rest.ensures.value (c.in_err-left.ensures.wide (cc (e.1, e.2, w)))))

pub returns-clause-cutting : goal.returns-clause-cutting
returns-clause-cutting g c = (behind g (goal.at.returns-clause-cutting g c).In_ok-left).cuts

pub returns-clause-descending : goal.returns-clause-descending
returns-clause-descending g c =
    let left = c.in_ok-left.ensures.difference in
    let was = c.replace-rest.ensures.value in
    along g.K.Ring.scalars g.O.Order.order _ _ _ _ _
    (sym (left.order ∙ ap (λ r. r.order) was))
    (sym (left.arity ∙ ap (λ r. r.arity) was))
    (behind g (goal.at.returns-clause-descending g c).In_ok-left).descending
