-- What echelon rows are in their leading columns, and what of the rows that they are of.
--   small_multiple           a multiple of a number above it is 0;  one_is_none: 1 is none of a number from 2 on
--   residue_at               an entry of a row of residues is the residue of the value at this monomial
--   other_lead               a column where a row has a multiple of the modulus isn't its leading column
--   picked_triangular        they are in echelon from the first place on
--   picked_combinations      combinations stay so
--   picked_residues          rows of values are values of the monomials of these columns
--   apart_leads, distinct_picked     no two lead in one column, so these monomials are distinct
use Rattle.std.proofs.Common.{◌≡◌, ◌≢◌, ℕ, zero, suc, ◌*◌, ◌<◌, ◌≤◌, ℤ, pos, unsigned_abs, false, List, [], ◌∷◌, ◌++◌, map, length, get_or, refl, sym, ap, subst, ◌∙◌, arith}
use Rattle.std.proofs.lemmas.Int.{unsigned_abs-mul}
use Rattle.std.proofs.lemmas.List.{append_assoc, map-append, get_or_at, length_push, length-map}
use Rattle.std.proofs.Math.Nat.{mul-le-mul_right}
use Rattle.algebra.specs.Each.{Each}
use Rattle.algebra.specs.Fraction.{Fraction}
use Rattle.algebra.proofs.Each.{each_weaker, each-map}
use Rattle.algebra.proofs.IntRing.{ℤ_ring}
use Rattle.ideals.proofs.Ideal.{in_ideal_same}
use Rattle.ideals.proofs.Congruence.{congruent_same, congruent_sym}
use Rattle.polynomials.specs.Exponent.{same}
use Rattle.polynomials.proofs.Exponent.{same_apart}
use Rattle.closures.specs.Modulo.{IsMultiple, AreCongruent, IsResidueOf, AreResidues, IsTriangularFrom, IsCombinationModulo}
use Rattle.closures.specs.UpTo.{AreDistinct}
use Rattle.closures.proofs.Congruent.{quotient_of}
use Rattle.residue_rows.specs.EchelonForm.{dot, entry, pick, Led, rows_in, leads_in, AreClear, AreApart, IsEchelonOf}
use Rattle.residue_rows.proofs.Dots.{multiple_to, scatter, dot_scatter}
use Rattle.residue_rows.proofs.EchelonForms.{ones}

-- ---- multiples
least_times : (a k n : ℕ) → a < k → a ≡ k * n → a ≡ 0
least_times a k zero l e = omega (arith, e)
least_times a k (suc n) l e =
    let h : 1 * k ≤ suc n * k = mul-le-mul_right k (omega arith) in absurd (omega (arith, h, l, e))

pub small_multiple : (k a : ℕ) → a < k → IsMultiple (pos k) (pos a) → a ≡ 0
small_multiple k a l i =
    let (y, e) = quotient_of (pos k) (pos a) i in
    least_times a k (unsigned_abs y) l (ap unsigned_abs e ∙ unsigned_abs-mul (pos k) y)

pub one_is_none : (k : ℕ) → 2 ≤ k → IsMultiple (pos k) (pos 1) → ⊥
one_is_none k l i = let e = small_multiple k 1 l i in absurd (omega (arith, e))

-- ---- the leading columns
entry_behind : (d : ℤ) (ks ms : List ℕ) (k : ℕ) (row : List ℤ)
    → get_or (pick d (ks ++ k ∷ ms) row) (length ks) d ≡ get_or row k d
entry_behind d ks ms k row =
    let f : ℕ → ℤ = λ j. get_or row j d in
    ap (λ l. get_or l (length ks) d) (map-append f ks (k ∷ ms))
    ∙ get_or_at (map f ks) (f k) (map f ms) d (length ks) (length-map ks f)

module _ (q : ℤ) where
  pub triangular_from : (ks : List ℕ) (ls : List Led)
      → Each (λ l. AreCongruent q (entry l.row l.lead) (pos 1)) ls → AreApart q ls
      → IsTriangularFrom q (length ks) (map (pick (pos 0) (ks ++ leads_in ls)) (rows_in ls))
  unfolding Each AreApart IsTriangularFrom
  triangular_from ks [] one apart = tt
  triangular_from ks (l ∷ ls) one apart = (
    record {
      inverse = pos 1;
      is = congruent_same ℤ_ring (q ∷ [])
          (ℤ_ring.mul-one (get_or (pick (pos 0) all l.row) (length ks) (pos 0))
          ∙ entry_behind (pos 0) ks (leads_in ls) l.lead l.row) refl one.0;
    },
    each-map (λ r. IsMultiple q (get_or r (length ks) (pos 0))) (pick (pos 0) all) (rows_in ls)
        (each-map (λ r. IsMultiple q (get_or (pick (pos 0) all r) (length ks) (pos 0)))
        (λ (k : Led). k.row) ls
        (each_weaker (AreClear q l)
        (λ k. IsMultiple q (get_or (pick (pos 0) all k.row) (length ks) (pos 0)))
        (λ k c. in_ideal_same ℤ_ring (entry_behind (pos 0) ks (leads_in ls) l.lead k.row) c.1)
        ls apart.0)),
    iteration (triangular_from (ks ++ l.lead ∷ []) ls one.1 apart.1),
  )
    where
      all : List ℕ
      all = ks ++ l.lead ∷ leads_in ls

      iteration : IsTriangularFrom q (length (ks ++ l.lead ∷ []))
          (map (pick (pos 0) ((ks ++ l.lead ∷ []) ++ leads_in ls)) (rows_in ls))
          → IsTriangularFrom q (suc (length ks)) (map (pick (pos 0) all) (rows_in ls))
      iteration h =
          subst (λ k. IsTriangularFrom q k (map (pick (pos 0) all) (rows_in ls))) (pushed ks l.lead)
          (subst (λ ms. IsTriangularFrom q (length (ks ++ l.lead ∷ []))
          (map (pick (pos 0) ms) (rows_in ls)))
          (append_assoc ks (l.lead ∷ []) (leads_in ls)) h)
        where
          pushed : (ks : List ℕ) (k : ℕ) → length (ks ++ k ∷ []) ≡ suc (length ks)
          pushed ks k = length_push ks k ∙ omega arith

  pub picked_triangular : (n : ℕ) (given : List (List ℤ)) (ls : List Led)
      → IsEchelonOf q n given ls
      → IsTriangularFrom q 0 (map (pick (pos 0) (leads_in ls)) (rows_in ls))
  picked_triangular n given ls e = triangular_from [] ls (ones q n ls e.led) e.apart

  scattered : (n : ℕ) (ks : List ℕ) → Each (λ k. k < n) ks → (w : List ℤ)
      → (rows : List (List ℤ))
      → Each (λ r. IsMultiple q (dot w r)) (map (pick (pos 0) ks) rows)
      → Each (λ r. IsMultiple q (dot (scatter n ks w) r)) rows
  unfolding Each
  scattered n ks b w [] h = tt
  scattered n ks b w (r ∷ rows) h = (
    in_ideal_same ℤ_ring (dot_scatter n ks w r b) h.0,
    scattered n ks b w rows h.1,
  )

  pub picked_combinations : (n : ℕ) (ks : List ℕ) → Each (λ k. k < n) ks
      → (given rows : List (List ℤ)) → Each (IsCombinationModulo q given) rows
      → Each (IsCombinationModulo q (map (pick (pos 0) ks) given)) (map (pick (pos 0) ks) rows)
  picked_combinations n ks b given rows c =
      each-map (IsCombinationModulo q (map (pick (pos 0) ks) given)) (pick (pos 0) ks) rows
      (each_weaker (IsCombinationModulo q given)
      (λ r. IsCombinationModulo q (map (pick (pos 0) ks) given) (pick (pos 0) ks r))
      (λ r i. record {
        gives = λ w h. in_ideal_same ℤ_ring (sym (dot_scatter n ks w r b))
            (i.gives (scatter n ks w) (scattered n ks b w given h));
      }) rows c)

  -- ---- values
  pub residue_at : (f : List ℕ → Fraction) (es : List (List ℕ)) (row : List ℤ)
      → AreResidues q (map f es) row → (k : ℕ) → k < length es
      → IsResidueOf q (f (get_or es k [])) (entry row k)
  unfolding AreResidues
  residue_at f [] row h k l = absurd (omega (arith, l))
  residue_at f (e ∷ es) [] h k l = absurd h
  residue_at f (e ∷ es) (a ∷ row) h zero l = h.0
  residue_at f (e ∷ es) (a ∷ row) h (suc k) l = residue_at f es row h.1 k (omega (arith, l))

  pub picked_residues : (f : List ℕ → Fraction) (es : List (List ℕ)) (row : List ℤ)
      → AreResidues q (map f es) row → (ks : List ℕ) → Each (λ k. k < length es) ks
      → AreResidues q (map f (pick [] ks es)) (pick (pos 0) ks row)
  unfolding AreResidues Each
  picked_residues f es row h [] l = tt
  picked_residues f es row h (k ∷ ks) l =
      (residue_at f es row h k l.0, picked_residues f es row h ks l.1)

  -- ---- no two rows lead in one column
  module _ (none : IsMultiple q (pos 1) → ⊥) where
    pub other_lead : (l : Led) → AreCongruent q (entry l.row l.lead) (pos 1) → (k : ℕ)
        → IsMultiple q (entry l.row k) → k ≢ l.lead
    other_lead l one k i e =
        none (multiple_to q (congruent_sym ℤ_ring (q ∷ []) (subst (λ m. AreCongruent q
        (entry l.row m) (pos 1)) (sym e) one)) i)

    pub distinct_picked : (es : List (List ℕ))
        → ((j k : ℕ) → j < length es → k < length es → j ≢ k → get_or es j [] ≢ get_or es k [])
        → (ls : List Led) → Each (λ k. k < length es) (leads_in ls)
        → Each (λ l. AreCongruent q (entry l.row l.lead) (pos 1)) ls → AreApart q ls
        → AreDistinct (pick [] (leads_in ls) es)
    unfolding Each AreApart AreDistinct
    distinct_picked es d [] b one apart = tt
    distinct_picked es d (l ∷ ls) b one apart =
        (first ls b.1 apart.0, distinct_picked es d ls b.1 one.1 apart.1)
      where
        first : (ks : List Led) → Each (λ k. k < length es) (leads_in ks)
            → Each (AreClear q l) ks
            → Each (λ e. same e (get_or es l.lead []) ≡ false) (pick [] (leads_in ks) es)
        first [] b c = tt
        first (k ∷ ks) b' c = (
          same_apart (get_or es k.lead []) (get_or es l.lead [])
              (d k.lead l.lead b'.0 b.0 (other_lead l one.0 k.lead c.0.0)),
          first ks b'.1 c.1,
        )
