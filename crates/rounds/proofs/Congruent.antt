-- Compositions with lists whose differences are members of an ideal differ by a member.
--   member_congruent     where each difference is a member
use Rattle.std.proofs.Common.{◌≡◌, ℕ, suc, ◌<◌, List, [], ◌∷◌, ◌++◌, map, get_or, length, sym, ap, ◌∙◌, arith}
use Rattle.std.specs.List.{AllZip}
use Rattle.algebra.specs.Ring.{CommRing, operations}
use Rattle.algebra.specs.Fraction.{Fraction, ℚ}
use Rattle.algebra.proofs.Fractions.{ℚ_ring, ℚ_zero_test}
use Rattle.polynomials.specs.Terms.{Terms, negate, compose, monomial_at}
use Rattle.polynomials.proofs.Algebra.{gather}
use Rattle.polynomials.specs.Polynomial.{Arity, AllArity}
use Rattle.polynomials.proofs.Arity.{arity-append, arity-negate, arity-compose}
use Rattle.polynomials.proofs.Composition.{poly-compose}
use Rattle.polynomials.proofs.Poly.{Poly, poly, poly_ring, poly-append, poly-negate, poly_constant, poly_evaluate-list}
use Rattle.ideals.specs.Ideal.{IsCongruent}
use Rattle.ideals.specs.Members.{IsMember}
use Rattle.ideals.proofs.Ideal.{in_ideal_same}
use Rattle.ideals.proofs.Congruence.{congruent_gather, congruent_same}
use Rattle.ideals.proofs.Members.{member_in, member_out}

module _ (w : ℕ) (hs : List (Terms Fraction)) (ha : AllArity w hs) where
  abbrev P : CommRing (Poly w ℚ_ring)
  P = poly_ring w ℚ_ring

  abbrev of : Terms Fraction → Poly w ℚ_ring
  of p = poly w ℚ_ring p

  abbrev G : List (Poly w ℚ_ring)
  G = map of hs

  difference : (x y : Terms Fraction) → of (x ++ negate ℚ y) ≡ P.add (of x) (P.neg (of y))
  difference x y = poly-append w ℚ_ring x (negate ℚ y) ∙ ap (P.add (of x)) (poly-negate w ℚ_ring y)

  -- the ith of both lists
  Apart : List (Terms Fraction) → List (Terms Fraction) → Type 0
  Apart xs ys = (i : ℕ) → i < length xs
      → IsMember ℚ w hs (get_or xs i [] ++ negate ℚ (get_or ys i []))

  congruent : (xs ys : List (Terms Fraction)) → length xs ≡ length ys → Apart xs ys
      → AllZip (IsCongruent P G) (map of xs) (map of ys)
  unfolding Apart
  congruent [] [] l h = tt
  congruent [] (y ∷ ys) l h = absurd (omega arith)
  congruent (x ∷ xs) [] l h = absurd (omega arith)
  congruent (x ∷ xs) (y ∷ ys) l h = (
    record {
      difference = in_ideal_same P (sym (difference x y))
          (member_in w ℚ_ring hs (x ++ negate ℚ y) (h 0 (omega arith)));
    },
    congruent xs ys (omega (arith, l)) (λ i k. h (suc i) (omega (arith, k))),
  )

  -- p with the one list and with the other
  pub member_congruent : (m : ℕ) (p : Terms Fraction) → Arity m p → (xs ys : List (Terms Fraction))
      → AllArity w xs → AllArity w ys → length xs ≡ length ys
      → ((i : ℕ) → i < length xs → IsMember ℚ w hs (get_or xs i [] ++ negate ℚ (get_or ys i [])))
      → IsMember ℚ w hs (compose ℚ w p xs ++ negate ℚ (compose ℚ w p ys))
  unfolding Apart
  member_congruent m p a xs ys xa ya l h =
      let both : IsCongruent P G (of (compose ℚ w p xs)) (of (compose ℚ w p ys)) =
      congruent_same P G (value xs) (value ys) (congruent_gather P G (poly_constant w ℚ_ring)
      (map of xs) (map of ys) p (congruent xs ys l h)) in
      member_out w ℚ_ring ℚ_zero_test hs _ ha (arity-append w _ _ (arity-compose w ℚ p xs xa)
      (arity-negate w ℚ _ (arity-compose w ℚ p ys ya)))
      (in_ideal_same P (difference (compose ℚ w p xs) (compose ℚ w p ys)) both.difference)
    where
      value : (zs : List (Terms Fraction)) → of (compose ℚ w p zs) ≡ gather (poly_constant w ℚ_ring)
          (monomial_at (operations P) (map of zs)) p
      value zs = poly-compose ℚ_ring m w p zs a ∙ poly_evaluate-list m (poly_constant w ℚ_ring)
          (map of zs) p a
