use Rattle.std.proofs.Common.{ℕ, length, slice_get, subst}
use Rattle.std.specs.Option.{IsSomeAnd}
use Rattle.complete.proofs.Made.{if_ok}
use Rattle.algebra.specs.Fraction.{ℚ}
use Rattle.polynomials.specs.Terms.{variables}
use Rattle.poly.specs.Seen.{Is}
use Rattle.invariant_fix.proofs.Variables.{variable_is, variable_arity}
use Rattle.invariant_fix.proofs.relations_ordering.image.Goals as goal

pub returns-clause-image : goal.returns-clause-image
returns-clause-image c =
    let js = c.args.places.now in
    let m = length js in
    if_ok _ _ c.variable.result (λ p s. variable_is _ m _ c.requires.place p (subst
    (λ (i : ℕ). IsSomeAnd (slice_get (variables ℚ m) i) (λ x. Is _ m x p)) c.place_in.ensures s))
    c.variable.ensures.variable

pub returns-clause-arity : goal.returns-clause-arity
returns-clause-arity c =
    if_ok _ _ c.variable.result
    (λ p s. variable_arity _ (length c.args.places.now) c.place_in.result p s)
    c.variable.ensures.variable
