-- What the definition's laws say of the program's exponential polynomials.
--   expo_polynomial, expo_normal     they are polynomials, and normal
--   one_expo           one for its values
--   members_of_expo    the coefficients are in an ideal;  expo_vanishes: they are zero at a state
use Rattle.std.proofs.Common.{◌≡◌, ℕ, List, length, sym, ap, subst, ◌∙◌}
use Rattle.algebra.specs.Fraction.{Fraction, ℚ}
use Rattle.polynomials.specs.Order.{grevlex}
use Rattle.polynomials.specs.Polynomial.{AllArity, IsPolynomial}
use Rattle.polynomials.specs.Terms.{Terms, value_at}
use Rattle.polynomials.proofs.Orders.{grevlex_order}
use Rattle.ideals.specs.Members.{IsMember}
use Rattle.poly.specs.Seen.{terms_in}
use Rattle.solvable_maps.specs.Iterations.{point, width, IsNormal}
use Rattle.solvable_maps.proofs.Numbers.{one_form, members_of_parts, parts_vanish}
use Rattle.expo.specs.declared.exponential.Expo.{Expo}
use Rattle.expo.specs.View.{base_of, value_of, count_of, part_of, iteration_of, HasValues}
use Rattle.solvable_maps.proofs.Normal.{kept_stay, stay_normal}
use Rattle.expo.proofs.Results.{expo_arity}

pub expo_polynomial : (e : Expo) → IsPolynomial ℚ grevlex (width (length (base_of e)) e.vars)
    (terms_in e.body)
expo_polynomial e = subst (λ w. IsPolynomial ℚ grevlex w (terms_in e.body)) e.arity
    e.body.polynomial

pub expo_normal : (e : Expo) → IsNormal (base_of e) (terms_in e.body)
expo_normal e = stay_normal (base_of e) e.vars (terms_in e.body) (expo_arity e)
    (kept_stay (length (base_of e)) (terms_in e.body) e.normal)

pub one_expo : (e f : Expo) → base_of e ≡ base_of f → e.vars ≡ f.vars → HasValues (value_of f) e
    → terms_in e.body ≡ terms_in f.body
one_expo e f b v h =
    one_form (base_of e) e.coprime.0 grevlex grevlex_order e.vars (terms_in e.body)
    (terms_in f.body) (expo_polynomial e)
    (subst (λ l. IsPolynomial ℚ grevlex (width (length l) e.vars) (terms_in f.body)) (sym b)
    (subst (λ n. IsPolynomial ℚ grevlex (width (length (base_of f)) n) (terms_in f.body))
    (sym v) (expo_polynomial f)))
    (expo_normal e) (subst (λ l. IsNormal l (terms_in f.body)) (sym b) (expo_normal f))
    (λ n s l. h n s l ∙ ap (λ b. value_at ℚ (terms_in f.body) (point b n s)) (sym b))

pub members_of_expo : (e : Expo) (gs : List (Terms Fraction)) → AllArity e.vars gs
    → ((n : ℕ) → IsMember ℚ e.vars gs (iteration_of e n)) → (k : List ℕ) → length k ≡ count_of e
    → IsMember ℚ e.vars gs (part_of e k)
members_of_expo e gs a h k l = members_of_parts (base_of e) e.coprime.0 e.vars gs (terms_in e.body)
    a (expo_arity e) (expo_normal e) h k l

pub expo_vanishes : (e : Expo) (s : List Fraction) → length s ≡ e.vars
    → ((n : ℕ) → value_of e n s ≡ ℚ.zero) → (k : List ℕ) → length k ≡ count_of e
    → value_at ℚ (part_of e k) s ≡ ℚ.zero
expo_vanishes e s size h k l = parts_vanish (base_of e) e.coprime.0 e.vars s size (terms_in e.body)
    (expo_arity e) (expo_normal e) h k l
