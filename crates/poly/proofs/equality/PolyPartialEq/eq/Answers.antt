use Rattle.std.proofs.Common.{sym, ◌∙◌}
use Rattle.poly.proofs.EqualityLaws.{equal_answer, equal_polynomials, equal_same}
use Rattle.poly.proofs.equality.PolyPartialEq.eq.Goals as goal

pub returns-then-self-other-clause-same : goal.returns-then-self-other-clause-same
returns-then-self-other-clause-same g c =
    let p = c.args.self.now in
    let q = c.args.other.now in
    let answer = equal_answer g.met.K.Ring.meaning_decides g.met.K.Ring.eq_is p q c.eq.result
    c.if-self-other.true c.eq.ensures in
    let is = equal_polynomials g.met.K.Ring.meaning_decides g.met.K.Ring.eq_is p q in
    ((λ t. is.0 (sym answer ∙ t)), (λ e. answer ∙ is.1 e))

pub returns-then-self-other-clause-decides : goal.returns-then-self-other-clause-decides
returns-then-self-other-clause-decides g c =
    let p = c.args.self.now in
    let q = c.args.other.now in
    let answer = equal_answer g.met.K.Ring.meaning_decides g.met.K.Ring.eq_is p q c.eq.result
    c.if-self-other.true c.eq.ensures in
    λ order arity.
    let is = equal_same g.met.K.Ring.meaning_decides g.met.K.Ring.eq_is p q g.met.K.Ring.ring
    (g.met.O.Order.is_order p.order) order arity in
    ((λ t. is.0 (sym answer ∙ t)), (λ s. answer ∙ is.1 s))
