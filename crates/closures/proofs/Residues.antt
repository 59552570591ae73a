-- Residues of products, of whole numbers, of monomials and of rows of them.
--   residue_mul, residue_whole      of a product, and of a whole number
--   residue_congruent, residues_agree      residues of one fraction are all that are congruent to one
--   residue_bottom, residue_pivot   of a residue the denominator's multiple is congruent to the numerator, and the denominator has an inverse
--   residue_from, residue_over      so these are residues, also of pairs that aren't in lowest terms; residue_quotient: by an inverse
--   residue_monomial, residue_row   of monomials at a state whose numbers have residues
use Rattle.std.proofs.Common.{◌≡◌, ℕ, zero, suc, ◌*◌, ◌<◌, ℤ, pos, ◌*ℤ◌, unsigned_abs, List, [], ◌∷◌, map, refl, sym, ap, ap₂, subst, ◌∙◌}
use Rattle.std.proofs.lemmas.Int.{unsigned_abs-mul}
use native.Mathlib.Nat as N
use Prim.Native.Nat.{◌∣◌}
use Rattle.algebra.specs.Arithmetic.{power}
use Rattle.algebra.specs.Ratio.{Ratio, ratio, exact, reduce}
use Rattle.algebra.specs.Ring.{CommRing, operations}
use Rattle.algebra.proofs.FieldLaws as FL
use Rattle.algebra.proofs.GcdLaws.{dvd_from_coprime}
use Rattle.algebra.proofs.IntRing.{ℤ_ring}
use Rattle.algebra.proofs.RatioLaws.{exact_whole, reduce-alike, reduce-value}
use Rattle.algebra.proofs.RingSolver.{ring, ring_rules}
use Rattle.algebra.specs.Fraction.{Fraction, ℚ, whole, over}
use Rattle.algebra.proofs.Fractions.{ℚ_ring, ℚ_field, facts, some as some_bottom, ratio-fraction}
use Rattle.algebra.proofs.Wholes.{product-whole, whole_injective, whole-some}
use Rattle.polynomials.specs.Terms.{monomial_at}
use Rattle.ideals.proofs.Congruence.{congruent_refl, congruent_same, congruent_sym, congruent_mul}
use Rattle.vectors.proofs.FractionEigen.{times_bottom}
use Rattle.closures.specs.Modulo.{AreCongruent, HasPivot, IsResidueOf, AreResidues}
use Rattle.closures.proofs.Congruent.{congruent_trans, congruent_cancel, pivot_same, pivot_part}

module _ {A : Type 0} (R : CommRing A) where
  pub crossed : (b c i j : A) → R.mul (R.mul b c) (R.mul i j) ≡ R.mul (R.mul b i) (R.mul c j)
  crossed b c i j = ring R (b ∷ c ∷ i ∷ j ∷ []) (search ring_rules depth 40) refl

  turned_back : (b f d : A) → R.mul (R.mul b f) d ≡ R.mul b (R.mul d f)
  turned_back b f d = ring R (b ∷ f ∷ d ∷ []) (search ring_rules depth 40) refl

  turned : (b d f : A) → R.mul b (R.mul d f) ≡ R.mul (R.mul b f) d
  turned b d f = ring R (b ∷ d ∷ f ∷ []) (search ring_rules depth 40) refl

-- n over d, in lowest terms, times d
times_over : (n : ℤ) (d : ℕ) → 0 < d → ℚ.mul (whole (pos d)) (over n d) ≡ whole n
times_over n d some =
    let f = over n d in
    let parts : f.ratio ≡ reduce (ratio n d) =
    ratio-fraction (reduce (ratio n d)) (reduce-value (ratio n d) some) in
    let alike : f.num *ℤ pos d ≡ n *ℤ pos f.den =
    subst (λ (p : Ratio). p.num *ℤ pos d ≡ n *ℤ pos p.den) (sym parts)
    (reduce-alike (ratio n d)) in
    FL.cancel ℚ_field (ℚ.mul (whole (pos d)) f) (whole n) (whole (pos f.den))
    (whole-some f.den (some_bottom f))
    (turned_back ℚ_ring (whole (pos d)) f (whole (pos f.den))
    ∙ ap (ℚ.mul (whole (pos d))) (times_bottom f) ∙ product-whole (pos d) f.num
    ∙ ap whole (ℤ_ring.mul_comm (pos d) f.num ∙ alike) ∙ sym (product-whole n (pos f.den)))

module _ (q : ℤ) where
  pub residue_whole : (z : ℤ) → IsResidueOf q (whole z) z
  residue_whole z = record {
    by = pos 1;
    inverse = pos 1;
    invertible = congruent_same ℤ_ring (q ∷ []) (ℤ_ring.mul-one (pos 1)) refl
        (congruent_refl ℤ_ring (q ∷ []) (pos 1));
    number = pos 1 *ℤ z;
    is = product-whole (pos 1) z;
    congruent = congruent_refl ℤ_ring (q ∷ []) (pos 1 *ℤ z);
  }

  pub residue_congruent : (f : Fraction) (a b : ℤ) → IsResidueOf q f a → AreCongruent q a b
      → IsResidueOf q f b
  residue_congruent f a b r h = record {
    by = r.by;
    inverse = r.inverse;
    invertible = r.invertible;
    number = r.number;
    is = r.is;
    congruent =
        congruent_trans q r.number (r.by *ℤ a) (r.by *ℤ b) r.congruent
        (congruent_mul ℤ_ring (q ∷ []) r.by r.by a b (congruent_refl ℤ_ring (q ∷ []) r.by) h);
  }

  cross : (f : Fraction) (a : ℤ) (r : IsResidueOf q f a)
      → r.by *ℤ f.num ≡ r.number *ℤ pos f.den
  cross f a r =
      whole_injective (r.by *ℤ f.num) (r.number *ℤ pos f.den)
      (sym (product-whole r.by f.num) ∙ ap (ℚ.mul (whole r.by)) (sym (times_bottom f))
      ∙ turned ℚ_ring (whole r.by) (whole (pos f.den)) f
      ∙ ap (λ x. ℚ.mul x (whole (pos f.den))) r.is ∙ product-whole r.number (pos f.den))

  pub residue_bottom : (f : Fraction) (a : ℤ) → IsResidueOf q f a
      → AreCongruent q f.num (a *ℤ pos f.den)
  residue_bottom f a r =
      congruent_cancel q r.by r.inverse f.num (a *ℤ pos f.den) r.invertible
      (congruent_same ℤ_ring (q ∷ []) (cross f a r) (sym (ℤ_ring.mul_assoc r.by a (pos f.den)))
      (congruent_mul ℤ_ring (q ∷ []) r.number (r.by *ℤ a) (pos f.den) (pos f.den) r.congruent
      (congruent_refl ℤ_ring (q ∷ []) (pos f.den))))

  pub residue_pivot : (f : Fraction) (a : ℤ) → IsResidueOf q f a → HasPivot q (pos f.den)
  residue_pivot f a r =
      let sizes : unsigned_abs r.by * unsigned_abs f.num ≡ unsigned_abs r.number * f.den =
      sym (unsigned_abs-mul r.by f.num) ∙ ap unsigned_abs (cross f a r)
      ∙ unsigned_abs-mul r.number (pos f.den) in
      let divides : f.den ∣ unsigned_abs r.by =
      dvd_from_coprime (unsigned_abs f.num) f.den (unsigned_abs r.by) (facts f).lowest
      (subst (λ x. f.den ∣ x) (sym sizes) (N.dvd-mul_left f.den (unsigned_abs r.number))) in
      pivot_part q (exact r.by f.den) (pos f.den)
      (subst (HasPivot q) (sym (exact_whole r.by f.den divides))
      (record { inverse = r.inverse; is = r.invertible }))

  pub residue_over : (n : ℤ) (d : ℕ) (a : ℤ) → 0 < d → HasPivot q (pos d)
      → AreCongruent q n (a *ℤ pos d) → IsResidueOf q (over n d) a
  residue_over n d a some p h = record {
    by = pos d;
    inverse = p.inverse;
    invertible = p.is;
    number = n;
    is = times_over n d some;
    congruent = congruent_same ℤ_ring (q ∷ []) refl (ℤ_ring.mul_comm (pos d) a) h;
  }

  pub residue_from : (f : Fraction) (a : ℤ) → HasPivot q (pos f.den)
      → AreCongruent q f.num (a *ℤ pos f.den) → IsResidueOf q f a
  residue_from f a p h = record {
    by = pos f.den;
    inverse = p.inverse;
    invertible = p.is;
    number = f.num;
    is = times_bottom f;
    congruent = congruent_same ℤ_ring (q ∷ []) refl (ℤ_ring.mul_comm (pos f.den) a) h;
  }

  pub residue_quotient : (f : Fraction) (d n i r : ℤ) → AreCongruent q d (pos f.den)
      → AreCongruent q n f.num → AreCongruent q (d *ℤ i) (pos 1) → AreCongruent q r (n *ℤ i)
      → IsResidueOf q f r
  residue_quotient f d n i r hd hn hi hr =
      let gs = q ∷ [] in
      residue_from f r (pivot_same q d (pos f.den) hd (record { inverse = i; is = hi }))
      (congruent_sym ℤ_ring gs (congruent_trans q (r *ℤ pos f.den) ((n *ℤ i) *ℤ d) f.num
      (congruent_mul ℤ_ring gs r (n *ℤ i) (pos f.den) d hr (congruent_sym ℤ_ring gs hd))
      (congruent_trans q ((n *ℤ i) *ℤ d) n f.num
      (congruent_same ℤ_ring gs (turned_back ℤ_ring n i d) (sym (ℤ_ring.mul-one n))
      (congruent_mul ℤ_ring gs n n (d *ℤ i) (pos 1) (congruent_refl ℤ_ring gs n) hi)) hn)))

  pub residues_agree : (f : Fraction) (a b : ℤ) → IsResidueOf q f a → IsResidueOf q f b
      → AreCongruent q a b
  residues_agree f a b r s =
      let p = residue_pivot f a r in
      congruent_cancel q (pos f.den) p.inverse a b p.is
      (congruent_same ℤ_ring (q ∷ []) (ℤ_ring.mul_comm (pos f.den) a)
      (ℤ_ring.mul_comm (pos f.den) b)
      (congruent_trans q (a *ℤ pos f.den) f.num (b *ℤ pos f.den)
      (congruent_sym ℤ_ring (q ∷ []) (residue_bottom f a r)) (residue_bottom f b s)))

  pub residue_mul : (f g : Fraction) (a b : ℤ) → IsResidueOf q f a → IsResidueOf q g b
      → IsResidueOf q (ℚ.mul f g) (a *ℤ b)
  residue_mul f g a b r s = record {
    by = r.by *ℤ s.by;
    inverse = r.inverse *ℤ s.inverse;
    invertible =
        congruent_same ℤ_ring (q ∷ []) (crossed ℤ_ring r.by s.by r.inverse s.inverse)
        (sym (ℤ_ring.mul-one (pos 1)))
        (congruent_mul ℤ_ring (q ∷ []) (r.by *ℤ r.inverse) (pos 1) (s.by *ℤ s.inverse) (pos 1)
        r.invertible s.invertible);
    number = r.number *ℤ s.number;
    is =
        ap (λ x. ℚ.mul x (ℚ.mul f g)) (sym (product-whole r.by s.by))
        ∙ crossed ℚ_ring (whole r.by) (whole s.by) f g ∙ ap₂ ℚ.mul r.is s.is
        ∙ product-whole r.number s.number;
    congruent =
        congruent_same ℤ_ring (q ∷ []) refl (crossed ℤ_ring r.by s.by a b)
        (congruent_mul ℤ_ring (q ∷ []) r.number (r.by *ℤ a) s.number (s.by *ℤ b) r.congruent
        s.congruent);
  }

  residue_power : (f : Fraction) (a : ℤ) → IsResidueOf q f a → (n : ℕ)
      → IsResidueOf q (power ℚ f n) (power (operations ℤ_ring) a n)
  unfolding power
  residue_power f a r zero = residue_whole (pos 1)
  residue_power f a r (suc n) =
      residue_mul f (power ℚ f n) a (power (operations ℤ_ring) a n) r (residue_power f a r n)

  pub residue_monomial : (s : List Fraction) (xs : List ℤ) → AreResidues q s xs → (e : List ℕ)
      → IsResidueOf q (monomial_at ℚ s e) (monomial_at (operations ℤ_ring) xs e)
  unfolding AreResidues monomial_at
  residue_monomial [] [] h e = residue_whole (pos 1)
  residue_monomial [] (x ∷ xs) h e = absurd h
  residue_monomial (f ∷ s) [] h e = absurd h
  residue_monomial (f ∷ s) (x ∷ xs) h [] = residue_whole (pos 1)
  residue_monomial (f ∷ s) (x ∷ xs) h (n ∷ e) =
      residue_mul (power ℚ f n) (monomial_at ℚ s e) (power (operations ℤ_ring) x n)
      (monomial_at (operations ℤ_ring) xs e) (residue_power f x h.0 n)
      (residue_monomial s xs h.1 e)

  pub residue_row : (s : List Fraction) (xs : List ℤ) → AreResidues q s xs
      → (es : List (List ℕ))
      → AreResidues q (map (monomial_at ℚ s) es) (map (monomial_at (operations ℤ_ring) xs) es)
  unfolding AreResidues
  residue_row s xs h [] = tt
  residue_row s xs h (e ∷ es) = (residue_monomial s xs h e, residue_row s xs h es)
