-- The sums of terms that identities multiply out to.
--   total_more, total_mono     one number more; the sum grows
--   long_here, more_counted    what the number that comes next says of it
--   all_counted                the sum over all
--   with_more, with_past, counts_past, sums_past, sums_more    counts that are added
use Rattle.std.proofs.Common.{◌≡◌, ℕ, zero, suc, ◌+◌, ◌-◌, ◌<◌, ◌≤◌, Option, Some, None, refl, sym, ap, subst, ◌∙◌, arith, add-one}
use native.Mathlib.Nat as N
use Rattle.expansion.specs.Counts.{most_terms, IsCount}
use Rattle.expansion.proofs.Counting.{none_above, some_is}
use Rattle.cert_checker.specs.Long.{total, IsFirstLong}

module _ (f : ℕ → ℕ) where
  total_suc : (i : ℕ) → total f (suc i) ≡ total f i + f i
  unfolding total
  total_suc i = refl

  pub total_none : 0 ≡ total f 0
  unfolding total
  total_none = refl

  grown : (n k : ℕ) → total f n ≤ total f (k + n)
  grown n zero = let e = ap (total f) (N.zero-add n) in omega (arith, e)
  grown n (suc k) =
      let e : suc k + n ≡ suc (k + n) = omega arith in
      let g = ap (total f) e ∙ total_suc (k + n) in
      let r = grown n k in
      omega (arith, g, r)

  total_mono : (n i : ℕ) → n ≤ i → total f n ≤ total f i
  total_mono n i l =
      let e : (i - n) + n ≡ i = omega arith in
      subst (λ k. total f n ≤ total f k) e (grown n (i - n))

  pub all_counted : (n i : ℕ) {t : ℕ} → n ≤ i → t ≡ total f i → t ≤ most_terms
      → total f n ≤ most_terms
  all_counted n i l is few = let m = total_mono n i l in omega (arith, m, is, few)

  module _ (n i : ℕ) {t : ℕ} {o : Option ℕ} (is : t ≡ total f i) (few : t ≤ most_terms)
      (counted : IsCount (t + f i) o) where
    pub long_here : ((k : ℕ) → o ≡ Some k → ⊥) → i < n → IsFirstLong f n i
    long_here none l =
        let past = none_above (t + f i) o counted none in
        let e = total_suc i in
        record {
          within = l;
          few = omega (arith, is, few);
          long = omega (arith, is, past, e);
        }

    pub more_counted : (s : ℕ) → o ≡ Some s → (s ≡ total f (i + 1)) × (s ≤ most_terms)
    more_counted s e =
        let c = some_is (t + f i) s o counted e in
        let g : total f (i + 1) ≡ total f i + f i = ap (total f) (add-one i) ∙ total_suc i in
        (omega (arith, c.0, is, g), omega (arith, c.0, c.1))

pub none_none : {o : Option ℕ} → o ≡ None → (k : ℕ) → o ≡ Some k → ⊥
none_none e k h = let x : None ≡ Some k = sym e ∙ h in absurd (cc)
