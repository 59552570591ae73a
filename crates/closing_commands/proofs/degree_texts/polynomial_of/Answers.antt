use Rattle.std.proofs.Common.{◌≡◌, ◌++◌, ℕ, List, [], ◌∷◌, length, sym, ap, subst, ◌∙◌}
use Rattle.algebra.specs.Each.{Each}
use Rattle.algebra.specs.Fraction.{Fraction, ℚ}
use Rattle.algebra.proofs.Fractions.{ℚ_field}
use Rattle.polynomials.specs.Order.{grevlex}
use Rattle.polynomials.specs.Polynomial.{IsPolynomial, Falls}
use Rattle.frac128.specs.declared.fraction.Frac.{Frac}
use Rattle.frac128.specs.FracMeaning.{fraction_of}
use Rattle.poly.specs.View.{terms_of}
use Rattle.poly.specs.declared.Term.{Term}
use Rattle.closing_commands.proofs.degree_texts.polynomial_of.Goals as goal

one_term : (m : ℕ) (e : List ℕ) (x : Fraction) → length e ≡ m → x ≡ ℚ.one
    → IsPolynomial ℚ grevlex m ((e, x) ∷ [])
unfolding Each Falls
one_term m e x l is = record {
  nonzero = (λ z. ℚ_field.one-ne-zero (sym is ∙ z), tt);
  arity = (l, tt);
  falls = (tt, tt);
}

pub from_descending-requires-clause-descending : goal.from_descending-requires-clause-descending
from_descending-requires-clause-descending c =
    let term : Term Frac = record { mono = c.in_ok-copy.field-0; coef = c.one.result } in
    subst (λ n. IsPolynomial ℚ grevlex n (terms_of fraction_of c.push.new.self.items))
    (sym c.arity.ensures.arity)
    (subst
    (λ (ts : List (Term Frac)). IsPolynomial ℚ grevlex (length c.args.mono.now)
    (terms_of fraction_of ts))
    (sym (c.in_ok-push.ensures.items
    ∙ ap (λ (xs : List (Term Frac)). xs ++ term ∷ []) c.new-terms.ensures.items))
    (one_term (length c.args.mono.now) c.in_ok-copy.field-0 (fraction_of c.one.result)
    (ap length c.in_ok-copy.ensures.ok) c.one.ensures))
