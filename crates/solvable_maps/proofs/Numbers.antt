-- The points of fractions are those of their field, and what follows for lists of fractions.
--   point-is, back_point-is     the points
--   closed_form_is              a closed form is a form over the field
--   one_form                    normal polynomials with the same values are one
--   at_iteration-is, members_of_parts     independence: an ideal given by a list that has the value at each n has each part
--   parts_vanish                where a normal polynomial is zero at each n, so is each of its parts
use Rattle.std.proofs.Common.{◌≡◌, ℕ, negsuc, List, [], ◌∷◌, ◌++◌, map, length, refl, sym, ap, ap₂, subst, ◌∙◌, append_assoc}
use mathlib.Core.Path.{fun_ext}
use Rattle.exponentials.specs.Base.{Coprime}
use Rattle.algebra.specs.Arithmetic.{power}
use Rattle.algebra.specs.Ring.{CommRing, Field, Hom, operations, of_nat}
use Rattle.algebra.proofs.Homs.{id_hom, to-zero, to-neg, to-power}
use Rattle.algebra.proofs.RingLaws.{mul-zero}
use Rattle.polynomials.proofs.ValueAt.{value_at-gather}
use Rattle.algebra.specs.Fraction.{Fraction, ℚ, whole, opposite, inverse}
use Rattle.algebra.proofs.Fractions.{ℚ_ring, ℚ_field, ℚ_zero_test}
use Rattle.algebra.proofs.Wholes.{of_nat-whole, of_int-whole}
use Rattle.polynomials.specs.Exponent.{unit_exponents}
use Rattle.polynomials.specs.Order.{Rank, IsMonomialOrder}
use Rattle.polynomials.specs.Terms.{Terms, constant, variables, monomial_at, value_at, compose}
use Rattle.polynomials.specs.Polynomial.{Arity, AllArity, IsPolynomial}
use Rattle.polynomials.proofs.Algebra.{gather}
use Rattle.polynomials.proofs.Canonical.{polynomial_unique}
use Rattle.polynomials.proofs.Composition.{poly-compose}
use Rattle.polynomials.proofs.Poly.{Poly, poly, poly_ring, poly_term, poly-term, poly_constant, poly-constant, poly_evaluate, poly_evaluate-list, poly_value_at}
use Rattle.ideals.specs.Ideal.{InIdeal}
use Rattle.ideals.specs.Members.{IsMember}
use Rattle.ideals.proofs.Ideal.{in_ideal_zero, in_ideal_add, in_ideal_mul}
use Rattle.ideals.proofs.Members.{member_in, member_out}
use Rattle.exponentials.proofs.Flat.{IsIdeal}
use Rattle.exponentials.proofs.Law as Law
use Rattle.exponentials.proofs.Monomial.{to-nat}
use Rattle.exponentials.proofs.Unique.{fraction_char0}
use Rattle.solvable_maps.specs.Expo.{part, at_iteration}
use Rattle.solvable_maps.specs.Iterations.{powers, inverses, sign, point, back_point, values_at, width, IsNormal, IsClosedFormFrom}
use Rattle.solvable_maps.proofs.Values.{natural}
use Rattle.solvable_maps.proofs.Back as Back
use Rattle.solvable_maps.proofs.Unique as Unique

abbrev F : Field Fraction
F = ℚ_field

abbrev R : CommRing Fraction
R = ℚ_ring

minus_one : whole (negsuc 0) ≡ R.neg R.one
minus_one = sym (of_int-whole (negsuc 0)) ∙ ap R.neg (R.add-zero R.one)

sign-is : (n : ℕ) → sign n ≡ power (operations R) (R.neg R.one) n
sign-is n = ap (λ x. power ℚ x n) minus_one

powers-is : (base : List ℕ) (n : ℕ) → powers base n ≡ map (λ b. power (operations R) (of_nat R b) n)
    base
powers-is base n = ap (λ (f : ℕ → Fraction). map f base)
    (fun_ext (λ b. ap (λ x. power ℚ x n) (sym (of_nat-whole b))))

inverses-is : (base : List ℕ) (n : ℕ)
    → inverses base n ≡ map (λ b. power (operations R) (F.inverse (of_nat R b)) n) base
inverses-is base n = ap (λ (f : ℕ → Fraction). map f base)
    (fun_ext (λ b. ap (λ x. power ℚ (inverse x) n) (sym (of_nat-whole b))))

pub point-is : (base : List ℕ) (n : ℕ) (s : List Fraction) → point base n s ≡ natural F base n s
point-is base n s = λ i. sym (of_nat-whole n) i ∷ sign-is n i
    ∷ (powers-is base n i ++ (inverses-is base n i ++ s))

pub back_point-is : (base : List ℕ) (c : Coprime base) (m n : ℕ) (s : List Fraction)
    → back_point base n s ≡ Back.back F fraction_char0 base c m n s
back_point-is base c m n s = λ i. opposite (sym (of_nat-whole n) i) ∷ sign-is n i
    ∷ (inverses-is base n i ++ (powers-is base n i ++ s))

module _ (base : List ℕ) (c : Coprime base) where
  pub closed_form_is : (images : List (Terms Fraction)) (since : ℕ) (ps : List (Terms Fraction))
      → IsClosedFormFrom base images since ps
      → Back.IsForm F fraction_char0 base c (length images) since images ps
  closed_form_is images since ps form = record {
    is = λ n s l h. ap (values_at ps) (sym (point-is base n s)) ∙ form.values n s l h;
  }

  pub one_form : (O : Rank) → IsMonomialOrder O → (m : ℕ) (p q : Terms Fraction)
      → IsPolynomial ℚ O (width (length base) m) p → IsPolynomial ℚ O (width (length base) m) q
      → IsNormal base p → IsNormal base q
      → ((n : ℕ) (s : List Fraction) → length s ≡ m → value_at ℚ p (point base n s) ≡ value_at ℚ q
      (point base n s)) → p ≡ q
  one_form O o m p q h k x y e =
      polynomial_unique O o R (width (length base) m) (width (length base) m) p q h k
      (Unique.form_one F fraction_char0 base c m p q h.arity k.arity x y (λ n s l.
      ap (value_at ℚ p) (sym (point-is base n s)) ∙ e n s l
      ∙ ap (value_at ℚ q) (point-is base n s)))

  -- ---- the value at n as a polynomial
  module _ (m : ℕ) where
    abbrev Q : CommRing (Poly m R)
    Q = poly_ring m R

    abbrev φ : Hom R Q
    φ = poly_constant m R

    abbrev vars : List (Poly m R)
    vars = Unique.vars F fraction_char0 base c m

    variables-poly : (us : List (List ℕ)) → map (poly m R) (map (λ e. (e, R.one) ∷ []) us)
        ≡ map (λ e. poly_term m R e R.one) us
    variables-poly [] = refl
    variables-poly (u ∷ us) = ap₂ ◌∷◌ (poly-term m R u R.one) (variables-poly us)

    block : (f : ℕ → Fraction) (n : ℕ) (bs : List ℕ) (l : List (Terms Fraction))
        (l' : List (Poly m R)) → map (poly m R) l ≡ l'
        → map (poly m R) (map (constant m) (map (λ b. power (operations R) (f b) n) bs) ++ l)
        ≡ map (λ b. power (operations Q) (φ.to (f b)) n) bs ++ l'
    block f n [] l l' e = e
    block f n (b ∷ bs) l l' e = ap₂ ◌∷◌ (poly-constant m R m (power (operations R) (f b) n)
        ∙ to-power φ (f b) n) (block f n bs l l' e)

    constants-append : (xs ys : List Fraction) → map (constant m) (xs ++ ys) ≡ map (constant m) xs
        ++ map (constant m) ys
    constants-append [] ys = refl
    constants-append (x ∷ xs) ys = ap (λ z. constant m x ∷ z) (constants-append xs ys)

    images-is : (n : ℕ) → map (poly m R) (map (constant m) (natural F base n []) ++ variables ℚ m)
        ≡ Law.point F Q φ base vars n
    unfolding variables
    images-is n =
        ap₂ ◌∷◌ (poly-constant m R m (of_nat R n) ∙ to-nat φ n)
        (ap₂ ◌∷◌ (poly-constant m R m (power (operations R) (R.neg R.one) n)
        ∙ to-power φ (R.neg R.one) n ∙ ap (λ z. power (operations Q) z n) (to-neg φ R.one
        ∙ ap Q.neg φ.to-one))
        (ap (map (poly m R)) (ap (λ z. z ++ variables ℚ m) (constants-append us (vs ++ [])
        ∙ ap (λ z. map (constant m) us ++ z) (constants-append vs []))
        ∙ append_assoc (map (constant m) us) (map (constant m) vs ++ []) (variables ℚ m)
        ∙ ap (λ z. map (constant m) us ++ z) (append_assoc (map (constant m) vs) []
        (variables ℚ m)))
        ∙ block (of_nat R) n base (map (constant m) vs ++ variables ℚ m) _
        (block (λ b. F.inverse (of_nat R b)) n base (variables ℚ m) vars
        (variables-poly (unit_exponents m)))))
      where
        us : List Fraction
        us = map (λ b. power (operations R) (of_nat R b) n) base

        vs : List Fraction
        vs = map (λ b. power (operations R) (F.inverse (of_nat R b)) n) base

    pub at_iteration-is : (p : Terms Fraction) → Arity (width (length base) m) p → (n : ℕ)
        → poly m R (at_iteration base m n p) ≡ Unique.value_in F fraction_char0 base c m p n
    unfolding gather
    at_iteration-is p a n =
        ap (λ l. poly m R (compose ℚ m p (map (constant m) l ++ variables ℚ m)))
        (point-is base n [])
        ∙ poly-compose R (width (length base) m) m p (map (constant m) (natural F base n [])
        ++ variables ℚ m) a
        ∙ poly_evaluate-list (width (length base) m) φ
        (map (poly m R) (map (constant m) (natural F base n []) ++ variables ℚ m)) p a
        ∙ ap (λ l. gather φ (monomial_at (operations Q) l) p) (images-is n)

    module _ (gs : List (Terms Fraction)) where
      abbrev Inside : Poly m R → Type 0
      Inside x = InIdeal Q (map (poly m R) gs) x

      inside : IsIdeal Q Inside
      inside = record {
        zero_in = in_ideal_zero Q;
        add_in = λ a b p q. in_ideal_add Q p q;
        mul_in = λ k a p. in_ideal_mul Q k p;
      }

      pub members_of_parts : (p : Terms Fraction) → AllArity m gs → Arity (width (length base) m) p
          → IsNormal base p → ((n : ℕ) → IsMember ℚ m gs (at_iteration base m n p)) → (e : List ℕ)
          → length e ≡ width (length base) m → IsMember ℚ m gs (part (length base) e p)
      members_of_parts p ag ap' normal h e k =
          member_out m R ℚ_zero_test gs (part (length base) e p) ag
          (Unique.part_arity F fraction_char0 base c m e p ap')
          (Unique.part_in F fraction_char0 base c m Inside inside p ap' normal
          (λ n. subst Inside (at_iteration-is p ap' n) (member_in m R gs (at_iteration base m n p)
          (h n))) e k)

    -- at one state: where the value is zero at each n, so is that of each part
    module _ (s : List Fraction) (size : length s ≡ m) where
      abbrev Vanishes : Poly m R → Type 0
      Vanishes x = poly_value_at m R x s ≡ R.zero

      vanishing : IsIdeal Q Vanishes
      vanishing = record {
        zero_in = to-zero (poly_evaluate m (id_hom R) s);
        add_in = λ a b p q. (poly_evaluate m (id_hom R) s).to-add a b ∙ ap₂ R.add p q
            ∙ R.add-zero R.zero;
        mul_in = λ k a p. (poly_evaluate m (id_hom R) s).to-mul k a
            ∙ ap (R.mul (poly_value_at m R k s)) p ∙ mul-zero R (poly_value_at m R k s);
      }

      pub parts_vanish : (p : Terms Fraction) → Arity (width (length base) m) p → IsNormal base p
          → ((n : ℕ) → value_at ℚ p (point base n s) ≡ ℚ.zero) → (e : List ℕ)
          → length e ≡ width (length base) m → value_at ℚ (part (length base) e p) s ≡ ℚ.zero
      parts_vanish p a normal h e k =
          value_at-gather R (part (length base) e p) s
          ∙ sym (poly_evaluate-list m (id_hom R) s (part (length base) e p)
          (Unique.part_arity F fraction_char0 base c m e p a))
          ∙ Unique.part_in F fraction_char0 base c m Vanishes vanishing p a normal
          (λ n. Unique.value_in-is F fraction_char0 base c m p n s size
          ∙ ap (value_at ℚ p) (sym (point-is base n s)) ∙ h n) e k
