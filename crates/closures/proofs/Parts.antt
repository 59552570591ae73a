-- What the parts of a closing give.
--   nothing_reduced      the empty list is reduced for its ideal
--   extended_reduced     a list completed and tidied is the reduced basis of its ideal
--   rest_differs         what is divided differs from its rest by a member
--   letter_map           the endomorphism of a letter; of_iteration, of_word: what an iteration and a word do, in the ring
--   member_of_ideal, ideal_of_member     membership in the ring, and on lists
use Rattle.std.proofs.Common.{◌≡◌, ℕ, List, [], ◌∷◌, ◌++◌, map, length, refl, sym, ap, subst, ◌∙◌, ◌≢◌}
use Rattle.algebra.specs.Each.{Each}
use Rattle.algebra.specs.Ring.{CommRing, Hom}
use Rattle.algebra.proofs.RingSolver.{ring, ring_rules}
use Rattle.algebra.specs.Fraction.{Fraction, ℚ, rationals}
use Rattle.algebra.proofs.Fractions.{ℚ_ring, ℚ_field}
use Rattle.polynomials.specs.Terms.{Terms, Same, combination}
use Rattle.polynomials.specs.Order.{grevlex}
use Rattle.polynomials.specs.Polynomial.{Arity, IsPolynomial, Falls}
use Rattle.polynomials.proofs.Canonical.{polynomial_unique}
use Rattle.polynomials.proofs.Composition.{poly-compose}
use Rattle.polynomials.proofs.Orders.{grevlex_order}
use Rattle.polynomials.proofs.Poly.{Poly, poly, poly_ring, poly_same, poly-append}
use Rattle.ideals.specs.Ideal.{InIdeal}
use Rattle.ideals.specs.Members.{IsMember}
use Rattle.ideals.specs.Substitution.{at}
use Rattle.ideals.proofs.Members.{poly-combination}
use Rattle.machines.specs.Basis.{AtPlaces}
use Rattle.machines.specs.Completion as completion
use Rattle.machines.specs.Division as division
use Rattle.machines.specs.Elimination as elimination
use Rattle.machines.specs.Reduced.{IsReducedFor, Ascends}
use Rattle.machines.specs.Run.{HasEnded}
use Rattle.machines.proofs.Completed.{completed}
use Rattle.machines.proofs.Dividing.{division_sum, division_rest}
use Rattle.machines.proofs.Joined.{parts_of}
use Rattle.machines.proofs.Places.{each_at, in_slice}
use Rattle.machines.proofs.Reducing.{tidied}
use Rattle.loops.specs.Program.{Expr, Program}
use Rattle.loops.specs.Map.{branch_map}
use Rattle.rounds.specs.Results.{LeadsTo}
use Rattle.rounds.specs.Word.{after_iteration, after_word, branch_of}
use Rattle.rounds.proofs.Word.{arity-after_word}
use Rattle.closures.specs.Closing.{next_extended, extended_list}
use Rattle.closures.proofs.Series.{word_at}

module _ (m : ℕ) where
  abbrev pub T : CommRing (Poly m ℚ_ring)
  T = poly_ring m ℚ_ring

  abbrev pub of : Terms Fraction → Poly m ℚ_ring
  of p = poly m ℚ_ring p

  no_member : (t : List ℕ × Fraction) (p : Terms Fraction) → IsPolynomial ℚ grevlex m (t ∷ p)
      → IsMember ℚ m [] (t ∷ p) → ⊥
  unfolding combination Each Falls
  no_member t p h i = go i.cofactors i.is
    where
      empty : Same ℚ (t ∷ p) [] → ⊥
      empty s =
          let e : t ∷ p ≡ [] =
          polynomial_unique grevlex grevlex_order ℚ_ring m m (t ∷ p) [] h
          (record { nonzero = tt; arity = tt; falls = tt }) s in cc

      go : (qs : List (Terms Fraction)) → Same ℚ (t ∷ p) (combination ℚ qs []) → ⊥
      go [] s = empty s
      go (q ∷ qs) s = empty s

  pub nothing_reduced : IsReducedFor rationals grevlex m [] (IsMember ℚ m [])
  unfolding Ascends
  nothing_reduced = record {
    members = λ g i. absurd i;
    polynomials = λ g i. absurd i;
    nonzero = λ g i. absurd i;
    monic = λ g i. absurd i;
    ascends = tt;
    led = λ t p h i. absurd (no_member t p h i);
    clean = λ g h i j. absurd i;
  }

  pub extended_reduced : (hs : List (Terms Fraction)) → Each (IsPolynomial ℚ grevlex m) hs
      → (s : elimination.State Fraction)
      → LeadsTo next_extended (elimination.initial_state rationals grevlex hs) s
      → HasEnded next_extended s
      → IsReducedFor rationals grevlex m (extended_list s) (IsMember ℚ m hs)
  extended_reduced hs h s to e =
      let places : AtPlaces (IsPolynomial ℚ grevlex m) hs = each_at _ hs h in
      let made = parts_of rationals grevlex grevlex (λ gs. gs)
      (completion.initial_state rationals grevlex hs) s to.events to.run e in
      let b = completed ℚ_field grevlex grevlex_order m hs places made.last made.events made.run
      made.ended in
      subst (λ l. IsReducedFor rationals grevlex m l (IsMember ℚ m hs)) (sym made.is)
      (tidied ℚ_field grevlex grevlex_order m hs made.last.basis places b made.list made.more
      made.tidies made.tidy)

  module _ (gs : List (Terms Fraction))
      (reduced : IsReducedFor rationals grevlex m gs (IsMember ℚ m gs)) (p : Terms Fraction)
      (hp : IsPolynomial ℚ grevlex m p) (s : division.State Fraction)
      (to : LeadsTo (division.next rationals grevlex gs) (division.initial_state gs p) s) where
    abbrev elements : AtPlaces (λ g. IsPolynomial ℚ grevlex m g × (g ≢ [])) gs
    elements = λ k g i.
        (reduced.polynomials g (in_slice gs k g i), reduced.nonzero g (in_slice gs k g i))

    pub rest_polynomial : IsPolynomial ℚ grevlex m (division.remainder s)
    rest_polynomial =
        division_rest ℚ_field grevlex grevlex_order m gs p s to.events elements hp to.run

    pub rest_sum : Same ℚ p (combination ℚ s.cofactors gs ++ division.remainder s)
    rest_sum = division_sum ℚ_field grevlex grevlex_order m gs p s to.events elements hp to.run

    pub rest_differs : InIdeal (poly_ring m ℚ_ring) (map (poly m ℚ_ring) gs)
        (T.add (of p) (T.neg (of (division.remainder s))))
    rest_differs = record {
      cofactors = map of s.cofactors;
      is = ap (λ x. T.add x (T.neg (of (division.remainder s))))
          (poly_same m ℚ_ring rest_sum
          ∙ poly-append m ℚ_ring (combination ℚ s.cofactors gs) (division.remainder s))
          ∙ less (of (combination ℚ s.cofactors gs)) (of (division.remainder s))
          ∙ poly-combination m ℚ_ring s.cofactors gs;
    }
      where
        less : (c r : Poly m ℚ_ring) → T.add (T.add c r) (T.neg r) ≡ c
        less c r = ring T (c ∷ r ∷ []) (search ring_rules depth 40) refl

-- ---- words
module _ {At : Type 0} (program : Program (Expr At)) where
  abbrev m : ℕ
  m = length program.names

  abbrev pub letter_map : ℕ → Hom (poly_ring (length program.names) ℚ_ring)
      (poly_ring (length program.names) ℚ_ring)
  letter_map b = at m ℚ_ring (map (poly m ℚ_ring) (branch_map program (branch_of program b)))

  pub of_iteration : (b : ℕ) (q : Terms Fraction) → Arity m q
      → poly m ℚ_ring (after_iteration program b q) ≡ (letter_map b).to (poly m ℚ_ring q)
  of_iteration b q a = poly-compose ℚ_ring m m q (branch_map program (branch_of program b)) a

  pub of_word : (w : List ℕ) (p : Terms Fraction) → Arity m p
      → poly m ℚ_ring (after_word program w p)
      ≡ word_at (poly_ring m ℚ_ring) letter_map w (poly m ℚ_ring p)
  unfolding after_word word_at
  of_word [] p a = refl
  of_word (b ∷ w) p a =
      of_iteration b (after_word program w p) (arity-after_word program w p a)
      ∙ ap (letter_map b).to (of_word w p a)
