-- The rests of Euclid's algorithm.
--   first_rests, next_rests     the first two, and those of the next step
--   share_of_rests              where the rests pass the limit, the low factor divides each denominator within it
--   inverse_of_rests            where the high rest is 1 its factor is an inverse; no_inverse_of_rests: elsewhere there is none, at the last rests
use Rattle.std.proofs.Common.{◌≡◌, ◌≢◌, inl, inr, ℕ, zero, suc, ◌+◌, ◌-◌, ◌*◌, ◌/◌, ◌%◌, ◌<◌, ◌≤◌, ℤ, pos, negsuc, ◌+ℤ◌, ◌*ℤ◌, neg_ℤ, unsigned_abs, Bool, true, false, not, [], ◌∷◌, refl, sym, ap, subst, ◌∙◌, arith}
use native.Mathlib.Nat as N
use Prim.Native.Nat.{◌∣◌}
use borrow.Author.Differences.{ints}
use Rattle.std.proofs.lemmas.Bool.{cases_lt}
use Rattle.std.proofs.lemmas.Int.{unsigned_abs-mul}
use Rattle.algebra.specs.Gcd.{gcd}
use Rattle.algebra.specs.Ring.{CommRing}
use Rattle.algebra.proofs.Coprime.{dvd_rest}
use Rattle.algebra.proofs.GcdLaws.{gcd-left, gcd-right, gcd-mod, gcd-zero}
use Rattle.algebra.proofs.IntRing.{ℤ_ring}
use Rattle.algebra.proofs.RingLaws.{mul-neg, neg-neg}
use Rattle.algebra.proofs.RingSolver.{ring, ring_rules, from}
use Rattle.ideals.proofs.Congruence.{congruent_refl, congruent_same, congruent_sym, congruent_add, congruent_mul}
use Rattle.frac128.specs.Sums.{negate_if}
use Rattle.closures.specs.Modulo.{AreCongruent, HasPivot}
use Rattle.closures.proofs.Congruent.{congruent_quotient, congruent_from, congruent_trans}
use Rattle.residue_rows.specs.EuclidRests.{IsBlend, AreRests}
use Rattle.residue_rows.proofs.Products.{signed_congruent}

module _ {A : Type 0} (R : CommRing A) where
  open R use {zero as 𝟘, one as 𝟙, add as ◌⊕◌, mul as ◌⊗◌, neg}

  infixl 60 ◌⊕◌
  infixl 70 ◌⊗◌
  rest_above : (h l k r : A) → h ≡ l ⊗ k ⊕ r → r ≡ h ⊕ k ⊗ neg l
  rest_above h l k r e =
      from R (sym e) (ring R (h ∷ l ∷ k ∷ r ∷ []) (search ring_rules depth 40) refl)

  rest_below : (h l k r : A) → h ≡ l ⊗ k ⊕ r → neg r ≡ neg h ⊕ k ⊗ l
  rest_below h l k r e = from R e (ring R (h ∷ l ∷ k ∷ r ∷ []) (search ring_rules depth 40) refl)

  factors_next : (a h k l : A) → a ⊗ (h ⊕ k ⊗ l) ≡ a ⊗ h ⊕ k ⊗ (a ⊗ l)
  factors_next a h k l = ring R (a ∷ h ∷ k ∷ l ∷ []) (search ring_rules depth 40) refl

  multiple_none : (a q : A) → neg q ≡ a ⊗ 𝟘 ⊕ neg 𝟙 ⊗ q
  multiple_none a q = ring R (a ∷ q ∷ []) (search ring_rules depth 40) refl

twice_not : (b : Bool) → not (not b) ≡ b
twice_not true = refl
twice_not false = refl

-- ---- combinations
first_blend : (q a limit : ℕ) → limit < q → (n : ℤ) (d : ℕ) → unsigned_abs n ≤ limit
    → AreCongruent (pos q) n (pos a *ℤ pos d) → IsBlend q a 0 1 false n d
first_blend q a limit l n d m h =
    let (k, e) = congruent_quotient (pos q) n (pos a *ℤ pos d) h in
    go k e
  where
    go : (k : ℤ) → n ≡ pos a *ℤ pos d +ℤ k *ℤ pos q → IsBlend q a 0 1 false n d
    go (pos zero) e = record {
      high_times = 0;
      low_times = d;
      num = omega (arith, ints, e, N.mul_comm a d);
      den = omega arith;
    }
    go (pos (suc k)) e = absurd (omega (arith, ints, e, N.suc-mul k q))
    go (negsuc k) e = record {
      high_times = suc k;
      low_times = d;
      num = omega (arith, ints, e, N.mul_comm a d);
      den = omega arith;
    }

not_below : (negative : Bool) (n : ℤ) (x y low : ℕ)
    → n +ℤ negate_if negative (pos x) ≡ negate_if negative (pos y) → unsigned_abs n < low
    → y + low ≤ x → ⊥
not_below true n x y low e l h = omega (arith, ints)
not_below false n x y low e l h = omega (arith, ints)

turned : (negative : Bool) (n : ℤ) (x y both u v : ℕ)
    → n +ℤ negate_if negative (pos x) ≡ negate_if negative (pos y) → x ≡ both + u → y ≡ both + v
    → n +ℤ negate_if (not negative) (pos v) ≡ negate_if (not negative) (pos u)
turned true n x y both u v e f g = omega (arith, ints)
turned false n x y both u v e f g = omega (arith, ints)

next_blend : (high low high_factor low_factor k rest : ℕ) → high ≡ low * k + rest
    → (negative : Bool) (n : ℤ) (d : ℕ) → unsigned_abs n < low
    → IsBlend high low high_factor low_factor negative n d
    → IsBlend low rest low_factor (high_factor + k * low_factor) (not negative) n d
next_blend high low high_factor low_factor k rest split negative n d l b =
    let x = b.high_times in
    let y = b.low_times in
    let w = y - x * k in
    let parts : x * high ≡ x * k * low + x * rest =
    ap (λ h. x * h) split ∙ N.mul-add x (low * k) rest
    ∙ ap (λ m. m + x * rest) (ap (λ m. x * m) (N.mul_comm low k) ∙ sym (N.mul_assoc x k low)) in
    let enough : x * k ≤ y =
    elim (cases_lt y (x * k)) [
      | inl less ↦
          let more : suc y ≤ x * k = omega (arith, less) in
          absurd (not_below negative n (x * high) (y * low) low b.num l
          (omega (arith, parts, N.mul-le-mul_right low more, N.suc-mul y low)))
      | inr more ↦ more
    ] in
    let whole : y ≡ x * k + w = omega arith in
    record {
      high_times = w;
      low_times = x;
      num = turned negative n (x * high) (y * low) (x * k * low) (x * rest) (w * low) b.num parts
          (ap (λ m. m * low) whole ∙ N.add-mul (x * k) w low);
      den = omega (
        arith,
        b.den,
        ap (λ m. m * low_factor) whole,
        N.add-mul (x * k) w low_factor,
        N.mul-add x high_factor (k * low_factor),
        N.mul_assoc x k low_factor,
      );
    }

-- ---- rests
low_next : (negative : Bool) (high low k rest : ℕ) → high ≡ low * k + rest
    → negate_if (not negative) (pos rest)
    ≡ negate_if (not negative) (pos high) +ℤ pos k *ℤ negate_if negative (pos low)
low_next true high low k rest e =
    rest_above ℤ_ring (pos high) (pos low) (pos k) (pos rest) (ap pos e)
low_next false high low k rest e =
    rest_below ℤ_ring (pos high) (pos low) (pos k) (pos rest) (ap pos e)

module _ (q a limit : ℕ) where
  pub first_rests : a < q → limit < q → AreRests q a limit q a 0 1 false
  first_rests l m = record {
    descend = l;
    ascend = omega arith;
    some = omega arith;
    total = omega arith;
    common = refl;
    high_is = congruent_from (pos q) (neg_ℤ (pos q)) (pos a *ℤ pos 0) (neg_ℤ (pos 1))
        (multiple_none ℤ_ring (pos a) (pos q));
    low_is = congruent_same ℤ_ring (pos q ∷ []) refl (ℤ_ring.mul-one (pos a))
        (congruent_refl ℤ_ring (pos q ∷ []) (pos a));
    blends = first_blend q a limit m;
  }

  pub next_rests : (high low high_factor low_factor : ℕ) (negative : Bool) → limit < low
      → AreRests q a limit high low high_factor low_factor negative
      → AreRests q a limit low (high % low) low_factor (high_factor + high / low * low_factor)
      (not negative)
  next_rests high low high_factor low_factor negative l r =
      let k = high / low in
      let rest = high % low in
      let split : high ≡ low * k + rest = sym (N.div-add-mod high low) in
      let positive : 0 < low = omega (arith, l) in
      let once : 1 * low ≤ high = omega (arith, r.descend) in
      let some : 1 ≤ k = (N.le-div_iff_mul-le positive).1 once in
      let more : 1 * low_factor ≤ k * low_factor = N.mul-le-mul_right low_factor some in
      record {
        descend = N.mod-lt high positive;
        ascend = omega (arith, more);
        some = omega (arith, more, r.some);
        total = omega (
          arith,
          r.total,
          ap (λ m. m * low_factor) split,
          N.add-mul (low * k) rest low_factor,
          N.mul_assoc low k low_factor,
          N.mul-add low high_factor (k * low_factor),
        );
        common = gcd-mod high low positive ∙ r.common;
        high_is =
            subst (λ b. AreCongruent (pos q) (negate_if b (pos low)) (pos a *ℤ pos low_factor))
            (sym (twice_not negative)) r.low_is;
        low_is =
            congruent_same ℤ_ring (pos q ∷ []) (low_next negative high low k rest split)
            (factors_next ℤ_ring (pos a) (pos high_factor) (pos k) (pos low_factor))
            (congruent_add ℤ_ring (pos q ∷ []) _ (pos a *ℤ pos high_factor) _ _ r.high_is
            (congruent_mul ℤ_ring (pos q ∷ []) (pos k) (pos k) (negate_if negative (pos low))
            (pos a *ℤ pos low_factor) (congruent_refl ℤ_ring (pos q ∷ []) (pos k)) r.low_is));
        blends = λ n d m h.
            next_blend high low high_factor low_factor k rest split negative n d
            (omega (arith, l, m)) (r.blends n d m h);
      }

-- ---- the end
abs_within : (negative : Bool) (n : ℤ) (x y : ℕ)
    → n +ℤ negate_if negative (pos x) ≡ negate_if negative (pos y) → x ≤ y + unsigned_abs n
abs_within true n x y e = omega (arith, ints)
abs_within false n x y e = omega (arith, ints)

pub record IsShare (limit d factor : ℕ) : Type 0 where
  pub within : factor ≤ limit
  pub times : ℕ
  pub is : d ≡ times * factor

some_share : (limit d times factor : ℕ) → d ≤ limit → 0 < times → d ≡ times * factor
    → IsShare limit d factor
some_share limit d times factor l t e = record {
  within = omega (arith, e, N.mul-le-mul_right factor t);
  times = times;
  is = e;
}

module _ (q a limit : ℕ) (small : limit * limit + limit * limit < q) where
  pub share_of_rests : (high low high_factor low_factor : ℕ) (negative : Bool)
      → AreRests q a limit high low high_factor low_factor negative → low ≤ limit → limit < high
      → (n : ℤ) (d : ℕ) → unsigned_abs n ≤ limit → 0 < d → d ≤ limit
      → AreCongruent (pos q) n (pos a *ℤ pos d) → IsShare limit d low_factor
  share_of_rests high low high_factor low_factor negative r l m n d size some bound h =
      let b = r.blends n d size h in
      go b.high_times b.low_times b.den
      (abs_within negative n (b.high_times * high) (b.low_times * low) b.num)
    where
      -- no multiple of the high rest is there
      none : (x y : ℕ) → 0 < y → d ≡ x * high_factor + y * low_factor
          → x * high ≤ y * low + unsigned_abs n → x ≡ 0
      none zero y t e f = refl
      none (suc k) y t e f =
          let x = suc k in
          let factor : low_factor ≤ limit =
          omega (arith, e, N.mul-le-mul_right low_factor t) in
          let whole : x * q ≡ x * high * low_factor + x * high_factor * low = omega (
            arith,
            ap (λ m. x * m) (sym r.total),
            N.mul-add x (high * low_factor) (low * high_factor),
            N.mul_assoc x high low_factor,
            ap (λ m. x * m) (N.mul_comm low high_factor),
            N.mul_assoc x high_factor low,
          ) in
          let first : x * high * low_factor ≤ y * low_factor * low + limit * limit = omega (
            arith,
            N.mul-le-mul_right low_factor f,
            N.add-mul (y * low) (unsigned_abs n) low_factor,
            N.mul_right_comm y low low_factor,
            N.mul-le-mul size factor,
          ) in
          let rows : x * high_factor * low + y * low_factor * low ≤ limit * limit = omega (
            arith,
            ap (λ m. m * low) e,
            N.add-mul (x * high_factor) (y * low_factor) low,
            N.mul-le-mul bound l,
          ) in
          absurd (omega (arith, N.suc-mul k q, whole, first, rows))

      go : (x y : ℕ) → d ≡ x * high_factor + y * low_factor
          → x * high ≤ y * low + unsigned_abs n → IsShare limit d low_factor
      go zero zero e f = absurd (omega arith)
      go (suc x) zero e f = absurd (omega (arith, N.suc-mul x high))
      go x (suc y) e f =
          let e' = none x (suc y) (omega arith) e f in
          some_share limit d (suc y) low_factor bound (omega arith)
          (omega (arith, e, ap (λ m. m * high_factor) e'))

signed_product : (negative : Bool) (a b : ℤ)
    → a *ℤ negate_if (not negative) b ≡ negate_if (not negative) (a *ℤ b)
signed_product true a b = refl
signed_product false a b = mul-neg ℤ_ring a b

signed_twice : (b : Bool) (x : ℤ) → negate_if b (negate_if b x) ≡ x
signed_twice true x = neg-neg ℤ_ring x
signed_twice false x = refl

pub inverse_of_rests : (q a limit high low high_factor low_factor : ℕ) (negative : Bool)
    {inverse : ℤ}
    → AreRests q a limit high low high_factor low_factor negative → high ≡ 1
    → AreCongruent (pos q) inverse (negate_if (not negative) (pos high_factor))
    → AreCongruent (pos q) (pos a *ℤ inverse) (pos 1)
inverse_of_rests q a limit high low high_factor low_factor negative {inverse = inverse} r one h =
    let gs = pos q ∷ [] in
    let factor = pos high_factor in
    let b = not negative in
    congruent_trans (pos q) (pos a *ℤ inverse) (pos a *ℤ negate_if b factor) (pos 1)
    (congruent_mul ℤ_ring gs (pos a) (pos a) inverse (negate_if b factor)
    (congruent_refl ℤ_ring gs (pos a)) h) (congruent_same ℤ_ring gs
    (signed_product negative (pos a) factor) (sym (signed_twice b (pos high) ∙ ap pos one))
    (signed_congruent (pos q) b (congruent_sym ℤ_ring gs r.high_is)))

no_inverse : (q a : ℕ) → gcd q a ≢ 1 → HasPivot (pos q) (pos a) → ⊥
no_inverse q a n p =
    let (c, e) = congruent_quotient (pos q) (pos a *ℤ p.inverse) (pos 1) p.is in
    let g = gcd q a in
    let of_product : g ∣ unsigned_abs (pos a *ℤ p.inverse) =
    subst (λ m. g ∣ m) (sym (unsigned_abs-mul (pos a) p.inverse))
    (N.dvd-mul_right_of_dvd g (gcd-right q a) (unsigned_abs p.inverse)) in
    let of_multiple : g ∣ unsigned_abs (c *ℤ pos q) =
    subst (λ m. g ∣ m) (sym (unsigned_abs-mul c (pos q)))
    (N.dvd-mul_left_of_dvd g (gcd-left q a) (unsigned_abs c)) in
    n (N.eq-one_of_dvd-one (dvd_rest g (pos 1) (c *ℤ pos q)
    (subst (λ z. g ∣ unsigned_abs z) e of_product) of_multiple))

pub no_inverse_of_rests : (q a limit high low high_factor low_factor : ℕ) (negative : Bool)
    → AreRests q a limit high low high_factor low_factor negative → low ≤ 0 → high ≢ 1
    → HasPivot (pos q) (pos a) → ⊥
no_inverse_of_rests q a limit high low high_factor low_factor negative r l n p =
    let none : low ≡ 0 = omega arith in
    no_inverse q a (λ e. n (sym (gcd-zero high) ∙ ap (gcd high) (sym none) ∙ r.common ∙ e)) p
