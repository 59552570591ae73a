-- What closings end with.
--   closed_is, countered_is      a closure, and a first counter
--   closed_invariants            what is closed are invariants
--   countered_first              of one polynomial, the word is the first that counters it
use Rattle.std.proofs.Common.{◌≡◌, inl, inr, ℕ, List, [], ◌∷◌, length, refl, subst}
use Rattle.algebra.specs.Each.{Each}
use Rattle.algebra.proofs.Each.{each_weaker}
use Rattle.algebra.specs.Fraction.{Fraction, ℚ}
use Rattle.algebra.proofs.Fractions.{ℚ_ring}
use Rattle.polynomials.specs.Terms.{Terms}
use Rattle.polynomials.specs.Order.{grevlex}
use Rattle.polynomials.specs.Polynomial.{Arity, IsPolynomial, Falls}
use Rattle.polynomials.proofs.Canonical.{polynomial_unique}
use Rattle.polynomials.proofs.Same.{Same-trans}
use Rattle.polynomials.proofs.Orders.{grevlex_order}
use Rattle.machines.specs.Journal.{Entry}
use Rattle.loops.specs.Program.{Expr, Program}
use Rattle.loops.specs.Inv.{Inv}
use Rattle.loops.specs.WellFormed.{IsWellFormed}
use Rattle.corollaries.specs.Counter.{Counters, IsFirstWord}
use Rattle.corollaries.proofs.Images.{counter_of_image}
use Rattle.closures.specs.Closing.{Candidate, closed, countered}
use Rattle.closures.specs.Ends.{ComesNext, IsClosure, IsFirstCounter}
use Rattle.closures.proofs.Closing.{SoundStep}
use Rattle.closures.proofs.Sound.{ends_sound}
use Rattle.closures.proofs.Decides.{invariants_of_closure, generators_from_start}

module _ {At : Type 0} (program : Program (Expr At)) where
  abbrev m : ℕ
  m = length program.names

  module _ (P : List (Terms Fraction)) (ps : Each (IsPolynomial ℚ grevlex m) P) where
    pub closed_is : (es : List Entry) (gs : List (Terms Fraction))
        → ComesNext program P es (closed gs) → IsClosure program P gs
    unfolding SoundStep
    closed_is es gs c = ends_sound program P ps es (closed gs) c

    pub closed_invariants : (es : List Entry) (gs : List (Terms Fraction))
        → ComesNext program P es (closed gs) → Each (Inv program) P
    closed_invariants es gs c =
        let is = closed_is es gs c in
        invariants_of_closure program P
        (each_weaker (IsPolynomial ℚ grevlex m) (Arity m) (λ p h. h.arity) P ps)
        (generators_from_start program P gs is.generates is.from_start)

    pub countered_is : (es : List Entry) (x : Candidate) (q : Terms Fraction)
        → ComesNext program P es (countered x q) → IsFirstCounter program P x q
    unfolding SoundStep
    countered_is es x q c = ends_sound program P ps es (countered x q) c

  no_terms : IsPolynomial ℚ grevlex m []
  unfolding Each Falls
  no_terms = record { nonzero = tt; arity = tt; falls = tt }

  -- a word that ends where one of the list isn't 0
  pub counters_of : (P : List (Terms Fraction)) → IsWellFormed program → (x : Candidate)
      (q : Terms Fraction) → IsFirstCounter program P x q → Counters program x.of x.word
  counters_of P well x q h =
      counter_of_image program x.of x.word h.letters well
      (λ z. h.nonzero (polynomial_unique grevlex grevlex_order ℚ_ring m m q [] h.polynomial no_terms
      (Same-trans ℚ h.is z)))

  pub countered_first : IsWellFormed program → (p : Terms Fraction) → IsPolynomial ℚ grevlex m p
      → (es : List Entry) (x : Candidate) (q : Terms Fraction)
      → ComesNext program (p ∷ []) es (countered x q) → IsFirstWord program p x.word
  unfolding Each
  countered_first well p hp es x q c =
      let h = countered_is (p ∷ []) (hp, tt) es x q c in
      let is : x.of ≡ p = elim h.given [ inl e ↦ e | inr n ↦ absurd n ] in
      record {
        counters = subst (λ y. Counters program y x.word) is (counters_of (p ∷ []) well x q h);
        first = λ v l. h.none p (inl refl) v l;
      }
