-- Fractions with numerator and denominator within the limit.
--   over_limited        of numbers within the limit
--   fraction_found      the low rest over its factor
--   no_fraction_past, no_fraction_without     there is none where the low factor is past the limit, or has no inverse
--   one_fraction        a residue has at most one
--   fits                such numbers make a `Frac`
use Rattle.std.proofs.Common.{◌≡◌, ◌≢◌, ℕ, ◌<◌, ◌≤◌, ℤ, pos, ◌*ℤ◌, unsigned_abs, [], ◌∷◌, refl, sym, subst, arith, rules, inl, inr, Result, Ok, Err, Bool}
use native.Mathlib.Nat as N
use borrow.Author.Differences.{ints}
use Rattle.std.proofs.lemmas.Int.{unsigned_abs-mul}
use Rattle.std.specs.Prelude.{◌↔◌, IsErrOf}
use Rattle.std.specs.Result.{IsOk}
use Rattle.algebra.specs.Gcd.{gcd}
use Rattle.algebra.specs.Ratio.{Ratio, ratio, reduce}
use Rattle.algebra.specs.Fraction.{Fraction, over, fraction_size}
use Rattle.algebra.specs.Size.{IsPast}
use Rattle.algebra.proofs.Fractions.{ratio-fraction, same_from_alike, some}
use Rattle.algebra.proofs.IntRing.{ℤ_ring}
use Rattle.algebra.proofs.RatioLaws.{nat_abs-exact, reduce-value}
use Rattle.ideals.proofs.Congruence.{congruent_refl, congruent_same, congruent_sym, congruent_mul}
use Rattle.algebra.proofs.RingLaws.{mul_right_comm}
use Rattle.frac128.proofs.FracResults.{abs-signed}
use Rattle.frac128.specs.Sums as signed
use Rattle.frac128.specs.declared.fraction.Frac.{Frac}
use Rattle.frac128.specs.declared.fraction.FracError.{FracError}
use Rattle.frac128.specs.declared.fraction.FracError.TheVariants.{ZeroDenominator, Wide}
use Rattle.closures.specs.Modulo.{AreCongruent, HasPivot}
use Rattle.closures.proofs.Congruent.{congruent_trans, pivot_part, same_below}
use Rattle.closures.proofs.Residues.{residue_bottom, residue_pivot, residue_over}
use Rattle.residue_rows.specs.Modulus.{modulus, fraction_limit}
use Rattle.residue_rows.specs.Limited.{IsLimited, IsFractionOf}
use Rattle.residue_rows.specs.EuclidRests.{AreRests}
use Rattle.residue_rows.proofs.EuclidRests.{IsShare, share_of_rests}

-- lowest terms are no larger
reduced_within : (n : ℤ) (d : ℕ) → (unsigned_abs (reduce (ratio n d)).num ≤ unsigned_abs n)
    × ((reduce (ratio n d)).den ≤ d)
unfolding reduce
reduced_within n d =
    let g = gcd (unsigned_abs n) d in
    (omega (arith, nat_abs-exact n g, N.div-le_self (unsigned_abs n) g), N.div-le_self d g)

over_within : (n : ℤ) (d : ℕ) → 0 < d → (unsigned_abs (over n d).num ≤ unsigned_abs n)
    × ((over n d).den ≤ d)
over_within n d h =
    subst (λ (p : Ratio). (unsigned_abs p.num ≤ unsigned_abs n) × (p.den ≤ d))
    (sym (ratio-fraction (reduce (ratio n d)) (reduce-value (ratio n d) h))) (reduced_within n d)

pub over_limited : (n : ℤ) (d : ℕ) → 0 < d → unsigned_abs n ≤ fraction_limit
    → d ≤ fraction_limit → IsLimited (over n d)
over_limited n d h l m = let (num, den) = over_within n d h in
    record { num = omega arith; den = omega arith }

fits_at : (r : Result Frac FracError) (n : ℤ) (d : ℕ) → 0 < d → unsigned_abs n ≤ fraction_limit
    → d ≤ fraction_limit → (IsErrOf r ZeroDenominator ↔ (pos d ≡ pos 0))
    → (IsErrOf r Wide ↔ ((pos d ≢ pos 0) × IsPast (fraction_size (over n d)))) → IsOk r
fits_at (Ok f) n d h l m zero wide = search rules
fits_at (Err ZeroDenominator) n d h l m zero wide = absurd (omega (arith, ints, zero.0 refl))
fits_at (Err Wide) n d h l m zero wide = absurd (go ((wide.0 refl).1))
  where
    go : IsPast (fraction_size (over n d)) → ⊥
    go (inl past) = let (num, den) = over_within n d h in omega arith
    go (inr past) = let (num, den) = over_within n d h in omega arith

pub fits : (r : Result Frac FracError) (n m e : ℤ) (d : ℕ) → m ≡ n → e ≡ pos d → 0 < d
    → unsigned_abs n ≤ fraction_limit → d ≤ fraction_limit
    → (IsErrOf r ZeroDenominator ↔ (e ≡ pos 0))
    → (IsErrOf r Wide ↔ ((e ≢ pos 0) × signed.DoesNotFit (signed.over m e))) → IsOk r
fits r n m e d top bottom h k l zero wide =
    fits_at r n d h k l (subst (λ e. IsErrOf r ZeroDenominator ↔ (e ≡ pos 0)) bottom zero)
    (subst (λ e. IsErrOf r Wide ↔ ((e ≢ pos 0) × signed.DoesNotFit (signed.over n e))) bottom
    (subst (λ m. IsErrOf r Wide ↔ ((e ≢ pos 0) × signed.DoesNotFit (signed.over m e))) top wide))

pub fraction_found : (a high low high_factor low_factor : ℕ) (negative : Bool)
    → AreRests modulus a fraction_limit high low high_factor low_factor negative
    → low ≤ fraction_limit → low_factor ≤ fraction_limit
    → HasPivot (pos modulus) (pos low_factor)
    → IsFractionOf (over (signed.negate_if negative (pos low)) low_factor) (pos a)
fraction_found a high low high_factor low_factor negative r l m p =
    let n = signed.negate_if negative (pos low) in
    record {
      limited = over_limited n low_factor r.some
          (subst (λ k. k ≤ fraction_limit) (sym (abs-signed negative low)) l) m;
      residue = residue_over (pos modulus) n low_factor (pos a) r.some p r.low_is;
    }

-- a fraction within the limit has a multiple of the low factor as its denominator
share : (a high low high_factor low_factor : ℕ) (negative : Bool)
    → AreRests modulus a fraction_limit high low high_factor low_factor negative
    → low ≤ fraction_limit → fraction_limit < high → (f : Fraction) → IsFractionOf f (pos a)
    → IsShare fraction_limit f.den low_factor
share a high low high_factor low_factor negative r l m f h =
    share_of_rests modulus a fraction_limit (omega arith) high low high_factor low_factor negative r
    l m f.num f.den h.limited.num (some f) h.limited.den
    (residue_bottom (pos modulus) f (pos a) h.residue)

pub no_fraction_past : (a high low high_factor low_factor : ℕ) (negative : Bool)
    → AreRests modulus a fraction_limit high low high_factor low_factor negative
    → low ≤ fraction_limit → fraction_limit < high → fraction_limit < low_factor
    → (f : Fraction) → ¬ IsFractionOf f (pos a)
no_fraction_past a high low high_factor low_factor negative r l m p f h =
    let s = share a high low high_factor low_factor negative r l m f h in
    omega (arith, s.within)

pub no_fraction_without : (a high low high_factor low_factor : ℕ) (negative : Bool)
    → AreRests modulus a fraction_limit high low high_factor low_factor negative
    → low ≤ fraction_limit → fraction_limit < high
    → ¬ HasPivot (pos modulus) (pos low_factor) → (f : Fraction) → ¬ IsFractionOf f (pos a)
no_fraction_without a high low high_factor low_factor negative r l m p f h =
    let s = share a high low high_factor low_factor negative r l m f h in
    p (pivot_part (pos modulus) (pos s.times) (pos low_factor)
    (subst (λ d. HasPivot (pos modulus) (pos d)) s.is
    (residue_pivot (pos modulus) f (pos a) h.residue)))

pub one_fraction : (f g : Fraction) (a : ℤ) → IsFractionOf f a → IsFractionOf g a → f ≡ g
one_fraction f g a h k =
    let q = pos modulus in
    let left : AreCongruent q (f.num *ℤ pos g.den) ((a *ℤ pos f.den) *ℤ pos g.den) =
    congruent_mul ℤ_ring (q ∷ []) f.num (a *ℤ pos f.den) (pos g.den) (pos g.den)
    (residue_bottom q f a h.residue) (congruent_refl ℤ_ring (q ∷ []) (pos g.den)) in
    let right : AreCongruent q (g.num *ℤ pos f.den) ((a *ℤ pos g.den) *ℤ pos f.den) =
    congruent_mul ℤ_ring (q ∷ []) g.num (a *ℤ pos g.den) (pos f.den) (pos f.den)
    (residue_bottom q g a k.residue) (congruent_refl ℤ_ring (q ∷ []) (pos f.den)) in
    same_from_alike f g (same_below modulus (f.num *ℤ pos g.den) (g.num *ℤ pos f.den)
    (omega (
      arith,
      unsigned_abs-mul f.num (pos g.den),
      unsigned_abs-mul g.num (pos f.den),
      N.mul-le-mul h.limited.num k.limited.den,
      N.mul-le-mul k.limited.num h.limited.den,
    )) (congruent_trans q (f.num *ℤ pos g.den) _ (g.num *ℤ pos f.den) left (congruent_same ℤ_ring
    (q ∷ []) (mul_right_comm ℤ_ring a (pos f.den) (pos g.den)) refl
    (congruent_sym ℤ_ring (q ∷ []) right))))
