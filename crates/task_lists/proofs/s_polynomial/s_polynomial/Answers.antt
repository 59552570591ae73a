use Rattle.std.proofs.Common.{inl, sym, subst, ◌∙◌}
use Rattle.algebra.specs.Fraction.{ℚ, fractions}
use Rattle.algebra.proofs.Fractions.{ℚ_ring, fractions_ring}
use Rattle.algebra.proofs.SizeLaws.{fractions_bounded}
use Rattle.polynomials.specs.Exponent.{Divides}
use Rattle.polynomials.specs.Polynomial.{Arity}
use Rattle.polynomials.proofs.Degrees.{divides-left, divides-right}
use Rattle.polynomials.proofs.Same.{Same-trans, same_append, same_negate}
use Rattle.machines.specs.Cut.{lead_of}
use Rattle.poly.specs.Seen.{terms_in}
use Rattle.poly.proofs.IsLaws.{is_as}
use Rattle.task_lists.proofs.Raised.{multiple_length, past_multiples}
use Rattle.task_lists.proofs.Combining.{polynomial_as}
use Rattle.task_lists.proofs.s_polynomial.s_polynomial.Goals as goal

pub multiple_with_lead-requires-clause-long : goal.multiple_with_lead-requires-clause-long
multiple_with_lead-requires-clause-long g c =
    multiple_length _ _ _ c.requires.nonzero.0 c.requires.nonzero.1 c.args.f.now.polynomial.arity
    (subst (λ n. Arity n (terms_in c.args.g.now)) (sym c.requires.arity)
    c.args.g.now.polynomial.arity) c.requires.multiple

pub multiple_with_lead-requires-clause-divided : goal.multiple_with_lead-requires-clause-divided
multiple_with_lead-requires-clause-divided g c =
    subst (Divides (lead_of (terms_in c.args.f.now))) (sym c.requires.multiple)
    (divides-left (lead_of (terms_in c.args.f.now)) (lead_of (terms_in c.args.g.now)))

pub multiple_with_lead-requires-2-clause-long : goal.multiple_with_lead-requires-2-clause-long
multiple_with_lead-requires-2-clause-long g c =
    multiple_length _ _ _ c.requires.nonzero.0 c.requires.nonzero.1 (subst (λ n. Arity n
    (terms_in c.args.f.now)) c.requires.arity c.args.f.now.polynomial.arity)
    c.args.g.now.polynomial.arity c.requires.multiple

pub multiple_with_lead-requires-2-clause-divided : goal.multiple_with_lead-requires-2-clause-divided
multiple_with_lead-requires-2-clause-divided g c =
    subst (Divides (lead_of (terms_in c.args.g.now))) (sym c.requires.multiple)
    (divides-right (lead_of (terms_in c.args.f.now)) (lead_of (terms_in c.args.g.now)))

pub returns-clause-difference : goal.returns-clause-difference
returns-clause-difference g c =
    let left = c.in_ok-left.ensures.product in
    let right = c.in_ok-right.ensures.product in
    is_as _ _ _ _ _ _ _ left.order left.arity (λ p same. Same-trans ℚ same (same_append ℚ_ring
    left.same (same_negate ℚ_ring right.same))) c.sub.ensures.difference

pub returns-clause-wide : goal.returns-clause-wide
returns-clause-wide g c =
    let f = c.args.f.now in
    let left = c.in_ok-left.ensures.product in
    let right = c.in_ok-right.ensures.product in
    λ w. inl (past_multiples fractions fractions_ring fractions_bounded
    (g.met.O.Order.is_order f.order) f.arity _ _ _ _
    (polynomial_as f.order f.arity c.in_ok-left.left left.order left.arity)
    (polynomial_as f.order f.arity c.in_ok-right.right (right.order ∙ sym c.requires.order)
    (right.arity ∙ sym c.requires.arity)) left.same right.same (c.sub.ensures.wide w))
