-- Values of polynomials modulo a number have residues of their values.
--   residues_near                    what is congruent to residues has the same fractions
--   residues_whole                   whole numbers are residues of themselves
--   residue_polynomial               the value of a polynomial over residues
--   residues_images                  of polynomials, place by place
use Rattle.std.proofs.Common.{ℕ, ℤ, pos, ◌*ℤ◌, List, [], ◌∷◌, map, sym, subst}
use Rattle.std.specs.List.{AllZip}
use Rattle.algebra.specs.Ring.{operations}
use Rattle.algebra.specs.Sum.{sum_over}
use Rattle.algebra.proofs.IntRing.{ℤ_ring}
use Rattle.algebra.specs.Fraction.{Fraction, ℚ, whole}
use Rattle.algebra.proofs.Fractions.{ℚ_ring}
use Rattle.polynomials.specs.Terms.{Terms, monomial_at, evaluate, value_at}
use Rattle.polynomials.proofs.ValueAt.{value_at_same}
use Rattle.ideals.proofs.Congruence.{congruent_sym}
use Rattle.closures.specs.Modulo.{AreCongruent, IsResidueOf, AreResidues}
use Rattle.closures.proofs.Modulo.{residue_add, residue_none}
use Rattle.closures.proofs.Residues.{residue_congruent, residue_mul, residue_monomial, residue_whole}
use Rattle.closing.specs.Modulo.{IsTermModulo, IsPolynomialModulo}

module _ (q : ℤ) where
  pub residues_near : (fs : List Fraction) (cs bs : List ℤ) → AreResidues q fs cs
      → AllZip (AreCongruent q) bs cs → AreResidues q fs bs
  unfolding AreResidues
  residues_near [] [] [] r h = tt
  residues_near [] [] (b ∷ bs) r h = absurd h
  residues_near [] (a ∷ cs) bs r h = absurd r
  residues_near (f ∷ fs) [] bs r h = absurd r
  residues_near (f ∷ fs) (a ∷ cs) [] r h = absurd h
  residues_near (f ∷ fs) (a ∷ cs) (b ∷ bs) r h = (
    residue_congruent q f a b r.0 (congruent_sym ℤ_ring (q ∷ []) h.0),
    residues_near fs cs bs r.1 h.1,
  )

  pub residues_whole : (ns : List ℕ)
      → AreResidues q (map (λ n. whole (pos n)) ns) (map pos ns)
  unfolding AreResidues
  residues_whole [] = tt
  residues_whole (n ∷ ns) = (residue_whole q (pos n), residues_whole ns)

  module _ (s : List Fraction) (xs : List ℤ) (state : AreResidues q s xs) where
    abbrev value : Terms Fraction → Fraction
    value p = value_at ℚ p s

    abbrev residue : Terms ℤ → ℤ
    residue r = value_at (operations ℤ_ring) r xs

    residue_term : (t : List ℕ × Fraction) (u : List ℕ × ℤ) → IsTermModulo q t u
        → IsResidueOf q (ℚ.mul t.1 (monomial_at ℚ s t.0))
        (u.1 *ℤ monomial_at (operations ℤ_ring) xs u.0)
    residue_term t u h =
        residue_mul q t.1 (monomial_at ℚ s t.0) u.1 _ h.number (subst (λ e. IsResidueOf q
        (monomial_at ℚ s t.0) (monomial_at (operations ℤ_ring) xs e)) (sym h.monomial)
        (residue_monomial q s xs state t.0))

    residue_terms : (ts : Terms Fraction) (us : Terms ℤ) → AllZip (IsTermModulo q) ts us
        → IsResidueOf q (value ts) (residue us)
    unfolding evaluate sum_over
    residue_terms [] [] h = residue_none q
    residue_terms [] (u ∷ us) h = absurd h
    residue_terms (t ∷ ts) [] h = absurd h
    residue_terms (t ∷ ts) (u ∷ us) h =
        residue_add q _ (value ts) _ (residue us) (residue_term t u h.0) (residue_terms ts us h.1)

    pub residue_polynomial : (p : Terms Fraction) (r : Terms ℤ) → IsPolynomialModulo q p r
        → IsResidueOf q (value_at ℚ p s) (value_at (operations ℤ_ring) r xs)
    residue_polynomial p r h =
        subst (λ f. IsResidueOf q f (residue r)) (value_at_same ℚ_ring h.terms p s h.is)
        (residue_terms h.terms r h.residues)

    pub residues_images : (ps : List (Terms Fraction)) (rs : List (Terms ℤ))
        → AllZip (IsPolynomialModulo q) ps rs
        → AreResidues q (map (λ p. value_at ℚ p s) ps)
        (map (λ r. value_at (operations ℤ_ring) r xs) rs)
    unfolding AreResidues
    residues_images [] [] h = tt
    residues_images [] (r ∷ rs) h = absurd h
    residues_images (p ∷ ps) [] h = absurd h
    residues_images (p ∷ ps) (r ∷ rs) h =
        (residue_polynomial p r h.0, residues_images ps rs h.1)
