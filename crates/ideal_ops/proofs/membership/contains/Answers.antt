use Rattle.std.proofs.Common.{◌≢◌, [], get_or, sym, ◌∙◌}
use Rattle.algebra.specs.FieldArithmetic.{field_of}
use Rattle.algebra.specs.Scalars.{field}
use Rattle.algebra.proofs.ScalarFields.{is_field}
use Rattle.polynomials.specs.Polynomial.{IsPolynomial}
use Rattle.poly.specs.Seen.{terms_in, terms_each}
use Rattle.divide.proofs.Ended.{places_of}
use Rattle.divide.proofs.OneCut.{along}
use Rattle.divide.proofs.Refused.{passed_on}
use Rattle.ideal_ops.proofs.Members.{member_decided, decided_by}
use Rattle.ideal_ops.proofs.membership.contains.Goals as goal

pub returns-in_err-division-clause-ran : goal.returns-in_err-division-clause-ran
returns-in_err-division-clause-ran g c = passed_on c.from_residual.result _
    c.from_residual.ensures.1 c.in_err-division.ensures.ran

pub returns-clause-ran : goal.returns-clause-ran
returns-clause-ran g c =
    let r = c.in_ok-division.ensures.ran in
    record {
      limit = r.limit;
      to = record {
        last = r.to.last;
        finished = r.to.finished;
        gives = decided_by (field g.K.Ring.scalars) (g.O.Order.order c.args.p.now.order)
            (terms_each c.args.list.now) c.is_zero.result r.to.last
            (terms_in c.in_ok-division.division.remainder) r.to.finished.ended r.to.gives.remainder
            c.is_zero.ensures;
      };
    }

pub returns-clause-member : goal.returns-clause-member
returns-clause-member g c =
    let S = g.K.Ring.scalars in
    let p = c.args.p.now in
    let O = g.O.Order.order p.order in
    let d = c.in_ok-division.ensures.ran.to in
    let gs = terms_each c.args.list.now in
    let elements = places_of terms_in (λ g. IsPolynomial S.arithmetic O p.arity g × (g ≢ []))
    c.args.list.now
    (λ k e l. (let one = c.requires.divisors k e l in (
      along S g.O.Order.order _ _ _ _ _ one.0 one.1 (get_or c.args.list.now k e).polynomial,
      one.2,
    ))) in
    let same =
    member_decided (field_of (field S) (is_field S g.met.K.Ring.ring g.met.K.Field.field
    g.met.K.Ring.zero_is)) O (g.met.O.Order.is_order p.order) p.arity gs elements
    c.requires.complete.led (terms_in p) p.polynomial d.last d.finished.work.events
    d.finished.work.run d.finished.ended in
    let zero = c.is_zero.ensures in (
      (λ t. same.1 (sym d.gives.remainder ∙ zero.0 t)),
      (λ i. zero.1 (d.gives.remainder ∙ same.0 i)),
    )
