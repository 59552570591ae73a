-- What a division by the numbers of a base, one after another, has found.
--   begun_first        before the first number
--   begun_next         after one more number, taken out of both parts as often as it goes
--   begun_made, begun_none     after the last one: the exponents, or that there are none
--   Divided b t l x    b went t times into x, and l is left; divided_first, divided_more: the steps
--   few_times          where 2^t is at most a number below 2^128, t is below 128
use Rattle.std.proofs.Common.{◌≡◌, ◌≢◌, ◌⊎◌, inl, inr, ℕ, zero, suc, ◌+◌, ◌*◌, ◌/◌, ◌^◌, ◌%◌, ◌<◌, ◌≤◌, ℤ, pos, negsuc, ◌-ℤ◌, List, [], ◌∷◌, ◌++◌, map, refl, sym, ap, ap₂, subst, ◌∙◌, arith, append_assoc}
use Prim.Native.Nat.{◌∣◌}
use native.Mathlib.Nat as N
use borrow.Author.Differences.{ints}
use Rattle.std.proofs.lemmas.Grind.{pow_more}
use Rattle.std.proofs.lemmas.Nat.Gcd.{mod-eq-zero_of_dvd, dvd_of_mod-eq-zero}
use Rattle.std.proofs.lemmas.Bool.{cases_lt}
use Rattle.std.proofs.lemmas.List.{append-nil}
use Rattle.algebra.specs.Ring.{CommRing}
use Rattle.algebra.proofs.RingLaws as L
use Rattle.algebra.specs.Gcd.{gcd}
use Rattle.algebra.specs.Fraction.{Fraction, whole}
use Rattle.algebra.proofs.Fractions.{ℚ_ring}
use Rattle.algebra.proofs.Wholes.{whole_injective}
use Rattle.exponentials.specs.Base.{Coprime, product}
use Rattle.exponentials.specs.Powers.{integer_power, number}
use Rattle.exponentials.proofs.Coprimes as C
use Rattle.exponentials.proofs.Factoring.{Taken, taken-product}
use Rattle.coprime_base.specs.Parts.{IsQuotient, Begun}
use Rattle.coprime_base.proofs.Quotients.{up, down, raised_is, quotient_product, number_is, quotient_parts}

abbrev R : CommRing Fraction
R = ℚ_ring

abbrev taken : (b x t l : ℕ) → b ^ t * l ≡ x → l % b ≢ 0 → Taken b x
taken b x t l e ne = record {
  times = t;
  left = l;
  whole = e;
  over = λ d. ne (mod-eq-zero_of_dvd b d);
}

some_part : (p l x : ℕ) → p * l ≡ x → 0 < x → 0 < l
some_part p zero x e h = absurd (omega arith)
some_part p (suc l) x e h = omega arith

part_divides : (p l x : ℕ) → p * l ≡ x → l ∣ x
part_divides p l x e = subst (λ y. l ∣ y) e (N.dvd-mul_left l p)

base_divides : (b t l x : ℕ) → b ^ suc t * l ≡ x → b ∣ x
base_divides b t l x e = subst (λ y. b ∣ y) (sym (N.mul_assoc b (b ^ t) l)
    ∙ ap (λ y. y * l) (sym (N.pow-succ' b t)) ∙ e) (N.dvd-mul_right b (b ^ t * l))

-- a number above 1 does not go into both
one_side : (b n d t u l k : ℕ) → 1 < b → gcd n d ≡ 1 → b ^ t * l ≡ n → b ^ u * k ≡ d → (t ≡ 0)
    ⊎ (u ≡ 0)
one_side b n d zero u l k h g p q = inl refl
one_side b n d (suc t) zero l k h g p q = inr refl
one_side b n d (suc t) (suc u) l k h g p q =
    let one : b ≡ 1 = N.eq-one_of_dvd-one (C.coprime_out n d b g (base_divides b t l n p)
    (base_divides b u k d q)) in
    absurd (omega arith)

ups : (t u : ℕ) → (t ≡ 0) ⊎ (u ≡ 0) → (up (pos t -ℤ pos u) ≡ t) × (down (pos t -ℤ pos u) ≡ u)
ups zero zero h = (refl, refl)
ups zero (suc u) h = let e : pos 0 -ℤ pos (suc u) ≡ negsuc u = omega (arith, ints) in
    (ap up e, ap down e)
ups (suc t) zero h = let e : pos (suc t) -ℤ pos 0 ≡ pos (suc t) = omega (arith, ints) in
    (ap up e, ap down e)
ups (suc t) (suc u) h = elim h [ inl e ↦ absurd (omega arith) | inr e ↦ absurd (omega arith) ]

module _ (base : List ℕ) (n d : ℕ) where
  pub begun_first : 0 < n → 0 < d → gcd n d ≡ 1 → Begun base n d base [] n d
  begun_first h k g = record {
    num_some = h;
    den_some = k;
    lowest = g;
    makes = λ e q. q;
    made = λ e q. (e, q);
  }

  pub begun_next : (b : ℕ) (rest : List ℕ) (found : List ℤ) (m k t u m' k' : ℕ) → Coprime (b ∷ rest)
      → b ^ t * m' ≡ m → m' % b ≢ 0 → b ^ u * k' ≡ k → k' % b ≢ 0
      → Begun base n d (b ∷ rest) found m k → Begun base n d rest (found ++ ((pos t -ℤ pos u) ∷ []))
      m' k'
  begun_next b rest found m k t u m' k' c p p' q q' s = record {
    num_some = some_part (b ^ t) m' m p s.num_some;
    den_some = some_part (b ^ u) k' k q s.den_some;
    lowest = C.coprime_divisor m' k k'
        (C.coprime_sym k m' (C.coprime_divisor k m m' (C.coprime_sym m k s.lowest)
        (part_divides (b ^ t) m' m p))) (part_divides (b ^ u) k' k q);
    makes = λ e h. subst (λ l. IsQuotient (number base l) n d)
        (sym (append_assoc found ((pos t -ℤ pos u) ∷ []) e)) (s.makes ((pos t -ℤ pos u) ∷ e)
        (longer e h));
    made = λ e h. shorter (s.made e h);
  }
    where
      sides : (up (pos t -ℤ pos u) ≡ t) × (down (pos t -ℤ pos u) ≡ u)
      sides = ups t u (one_side b m k t u m' k' c.0 s.lowest p q)

      first : IsQuotient (integer_power b (pos t -ℤ pos u)) (b ^ t) (b ^ u)
      first = subst (λ i. IsQuotient (integer_power b (pos t -ℤ pos u)) (b ^ i) (b ^ u)) sides.0
          (subst (λ j. IsQuotient (integer_power b (pos t -ℤ pos u)) (b ^ up (pos t -ℤ pos u))
          (b ^ j))
          sides.1 (raised_is b (pos t -ℤ pos u) (let h : 1 < b = c.0 in omega arith)))

      longer : (e : List ℤ) → IsQuotient (number rest e) m' k'
          → IsQuotient (number (b ∷ rest) ((pos t -ℤ pos u) ∷ e)) m k
      longer e h =
          subst (λ x. IsQuotient (number (b ∷ rest) ((pos t -ℤ pos u) ∷ e)) x k) p
          (subst (λ y. IsQuotient (number (b ∷ rest) ((pos t -ℤ pos u) ∷ e)) (b ^ t * m') y) q
          (quotient_product (integer_power b (pos t -ℤ pos u)) (number rest e) (b ^ t) (b ^ u) m' k'
          first h))

      at_tail : (f : List ℤ) → (m' ≡ product rest (map up f)) × (k' ≡ product rest (map down f))
          → (f : List ℤ) × IsQuotient (number rest f) m' k'
      at_tail f e = (
        f,
        subst (λ x. IsQuotient (number rest f) x k') (sym e.0)
            (subst (λ y. IsQuotient (number rest f) (product rest (map up f)) y) (sym e.1)
            (number_is rest f c.2)),
      )

      zero_first : (x : ℕ) → x ≡ 1 → product (b ∷ rest) (0 ∷ []) ≡ x
      zero_first x e = ap₂ ◌*◌ (N.pow-zero b) (none rest) ∙ sym e
        where
          none : (bs : List ℕ) → product bs [] ≡ 1
          none [] = refl
          none (b ∷ bs) = refl

      shorter : ((f : List ℤ) × IsQuotient (number (b ∷ rest) f) m k) → (f : List ℤ)
          × IsQuotient (number rest f) m' k'
      shorter f = go f.0 (quotient_parts (b ∷ rest) f.0 m k c s.lowest f.1)
        where
          go : (f : List ℤ) → (m ≡ product (b ∷ rest) (map up f))
              × (k ≡ product (b ∷ rest) (map down f)) → (f : List ℤ)
              × IsQuotient (number rest f) m' k'
          go [] e = at_tail [] (
            (taken-product b rest 0 [] m c (taken b m t m' p p') (zero_first m e.0)).1,
            (taken-product b rest 0 [] k c (taken b k u k' q q') (zero_first k e.1)).1,
          )
          go (z ∷ f) e = at_tail f (
            (taken-product b rest (up z) (map up f) m c (taken b m t m' p p') (sym e.0)).1,
            (taken-product b rest (down z) (map down f) k c (taken b k u k' q q') (sym e.1)).1,
          )

  pub begun_made : (found : List ℤ) (m k : ℕ) → m ≡ 1 → k ≡ 1 → Begun base n d [] found m k
      → IsQuotient (number base found) n d
  begun_made found m k e f s =
      subst (λ l. IsQuotient (number base l) n d) (append-nil found)
      (s.makes [] (ap (λ x. R.mul R.one (whole (pos x))) f ∙ R.mul-one R.one
      ∙ ap (λ x. whole (pos x)) (sym e)))

  pub begun_none : (found : List ℤ) (m k : ℕ) → ((m ≡ 1) × (k ≡ 1) → ⊥)
      → Begun base n d [] found m k → (e : List ℤ) → IsQuotient (number base e) n d → ⊥
  begun_none found m k ne s e h =
      let q = s.made e h in
      let same : pos k ≡ pos m = whole_injective (pos k) (pos m) (sym (L.one-mul R (whole (pos k)))
      ∙ q.1) in
      let equal : k ≡ m = cc in
      let one : m ≡ 1 = N.eq-one_of_dvd-one (C.coprime_out m k m s.lowest (N.dvd_refl m)
      (subst (λ x. m ∣ x) (sym equal) (N.dvd_refl m))) in
      ne (one, equal ∙ one)

-- ---- how often a number goes
pub few_times : (t x : ℕ) → 2 ^ t ≤ x → x < 2 ^ 128 → t < 128
few_times t x h k = elim (cases_lt t 128) [
  | inl l ↦ l
  | inr g ↦ (let p : 2 ^ 128 ≤ 2 ^ t = N.pow-le-pow_right (let o : 0 < 2 = omega arith in o) g in
      absurd (omega arith))
]

-- one division more
pub record Divided (b t l x : ℕ) : Type 0 where
  pub whole : b ^ t * l ≡ x
  pub some : 0 < l
  pub few : t < 128

pub divided_more : (b t l x : ℕ) → 1 < b → l % b ≡ 0 → x < 2 ^ 128 → Divided b t l x
    → Divided b (t + 1) (l / b) x
divided_more b t l x h m k d =
    let back : b * (l / b) ≡ l = N.mul-div_cancel' b (dvd_of_mod-eq-zero b m) in
    let whole : b ^ (t + 1) * (l / b) ≡ x = ap (λ y. y * (l / b)) (pow_more b t)
    ∙ N.mul_assoc (b ^ t) b (l / b) ∙ ap (λ y. b ^ t * y) back ∙ d.whole in
    let some : 0 < l / b = right_some b (l / b) (subst (λ y. 0 < y) (sym back) d.some) in
    let two : 2 ^ (t + 1) ≤ b ^ (t + 1) = N.pow-le-pow_left (let o : 2 ≤ b = omega arith in o)
    (t + 1) in
    let part : b ^ (t + 1) ≤ b ^ (t + 1) * (l / b) = at_least (b ^ (t + 1)) (l / b) some in
    let all : 2 ^ (t + 1) ≤ x = omega arith in
    record { whole = whole; some = some; few = few_times (t + 1) x all k }
  where
    right_some : (b q : ℕ) → 0 < b * q → 0 < q
    right_some b zero h = absurd (omega arith)
    right_some b (suc q) h = omega arith

    at_least : (p q : ℕ) → 0 < q → p ≤ p * q
    at_least p zero h = absurd (omega arith)
    at_least p (suc q) h = omega arith

pub divided_first : (b x : ℕ) → 0 < x → Divided b 0 x x
divided_first b x h = record {
  whole = ap (λ y. y * x) (N.pow-zero b) ∙ N.one-mul x;
  some = h;
  few = omega arith;
}
