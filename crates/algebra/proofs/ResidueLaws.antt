-- The residues modulo a prime are a field.
--   IsPrime p                        p is above one and no number between one and p divides it
--   prime_65521                      65521 is one
--   inverse_from_rest                an inverse by Euclid's algorithm
--   same_residue                     two residues with the same number are one
--   rest-residue                     the residue of n has the number that n leaves modulo p
--   residues_ring, residues_field    the laws, for any prime
--   residue_zero_is                  a residue is zero where its number is
--   residues_bounded, residue_quotients_bounded     those of sizes, which are none
use Rattle.std.proofs.Common.{◌≡◌, ◌≢◌, ◌↔◌, inl, inr, ℕ, zero, suc, ◌+◌, ◌-◌, ◌*◌, ◌/◌, ◌%◌, ◌<◌, ◌≤◌, Bool, true, false, not, T, ltb, eqb, refl, sym, ap, ap₂, subst, ◌∙◌, arith, ltb→lt, lt→ltb, lit<}
use native.Mathlib.Nat as N
use mathlib.Core.HLevel.{Σ_prop_path}
use native.Mathlib.Nat.{ℕ_set}
use lib.Dec.{T_prop, T_not, eqb_refl}
use Rattle.std.proofs.lemmas.Bool.{cases_lt, eqb-true}
use Rattle.std.proofs.lemmas.Nat.{mul-mod_first, mul-mod_second}
use Rattle.algebra.specs.Ring.{IsRing, IsFieldOf}
use Rattle.algebra.proofs.Basics.{both_out, T-set}
use Rattle.algebra.specs.Size.{size}
use Rattle.algebra.specs.Scalars.{IsBounded, BoundsQuotients}
use Rattle.algebra.proofs.LcmLaws.{lcm-pos}
use Rattle.algebra.proofs.SizeLaws.{under_least}
use Rattle.algebra.specs.Residue.{Residue, residue_where, residue, residues, inverse_within, residue_inverse, no_divisor}

pub record IsPrime (p : ℕ) : Type 0 where
  pub big : 1 < p
  pub no_factor : (a : ℕ) → 1 < a → a < p → p % a ≢ 0

no_divisor-out : (k d p a : ℕ) → T (no_divisor k d p) → d ≤ a → a < d + k → p % a ≢ 0
no_divisor-out zero d p a t h g e = absurd (omega arith)
no_divisor-out (suc k) d p a t h g e =
    let both = both_out (not (eqb (p % d) 0)) (no_divisor k (suc d) p) t in
    elim (N.eq-or-lt_of_le h) [
      | inl s ↦ T_not (eqb (p % d) 0) both.0 (subst (λ x. T (eqb (p % x) 0)) (sym s)
          (subst (λ x. T (eqb x 0)) (sym e) (eqb_refl 0)))
      | inr l ↦ no_divisor-out k (suc d) p a both.1 l (omega arith) e
    ]

-- a factor or its cofactor is below b where p is below the square of b
pub prime_from : (p b : ℕ) → 1 < p → p < b * b → T (no_divisor b 2 p) → IsPrime p
prime_from p b big square t = record {
  big = big;
  no_factor = λ a h g e. elim (cases_lt a b) [
    | inl l ↦ no_divisor-out b 2 p a t h (omega arith) e
    | inr l ↦
        let whole : a * (p / a) + p % a ≡ p = N.div-add-mod p a in
        let q = p / a in
        let whole' : a * q ≡ p = omega arith in
        let q_low : q < b = elim (cases_lt q b) [
          | inl s ↦ s
          | inr s
              ↦ absurd (omega (arith, N.mul-le-mul l s))
        ] in
        let q_high : 1 < q = elim (cases_lt 1 q) [
          | inl s ↦ s
          | inr s
              ↦ absurd (small a q p whole' g big s)
        ] in
        let left : p % q ≡ 0 = ap (λ x. x % q) (sym whole') ∙ N.mul-mod_left a q in
        no_divisor-out b 2 p q t q_high (omega arith) left
  ];
}
  where
    small : (a q p : ℕ) → a * q ≡ p → a < p → 1 < p → q ≤ 1 → ⊥
    small a zero p e h k l = omega arith
    small a (suc zero) p e h k l = omega arith
    small a (suc (suc q)) p e h k l = omega arith

pub prime_65521 : IsPrime 65521
prime_65521 = prime_from 65521 256 (lit< tt) (lit< tt) tt

-- ---- the inverse
inverse_step : (p m q r i : ℕ) → suc m * q + r ≡ p → (suc m * ((p - q) * i)) ≡ r * i + m * i * p
inverse_step p m q r i e =
    let k : ℕ = p - q in
    let parts : k + q ≡ p = omega arith in
    let once : suc m * k ≡ r + m * p = omega (arith, ap (λ x. suc m * x) parts) in
    omega (arith, ap (λ x. x * i) once)

-- the inverse of m from that of what p leaves
pub inverse_from_rest : (p m i : ℕ) → 0 < m → (p % m * i) % p ≡ 1
    → (m * (((p - p / m) * i) % p)) % p ≡ 1
inverse_from_rest p zero i h e = absurd (omega arith)
inverse_from_rest p (suc m) i h e =
    mul-mod_second (suc m) ((p - p / suc m) * i) p
    ∙ ap (λ x. x % p) (inverse_step p m (p / suc m) (p % suc m) i (N.div-add-mod p (suc m)))
    ∙ N.add-mul-mod_self_right (p % suc m * i) (m * i) p
    ∙ e

inverse_is : (p : ℕ) → IsPrime p → (n a : ℕ) → a ≤ n → 0 < a → a < p
    → (a * inverse_within p n a) % p ≡ 1
inverse_is p prime zero a h g l = absurd (omega arith)
inverse_is p prime (suc n) zero h g l = absurd (omega arith)
inverse_is p prime (suc n) (suc zero) h g l = N.mod-eq_of_lt prime.big
inverse_is p prime (suc n) (suc (suc a)) h g l =
    let m : ℕ = suc (suc a) in
    let r : ℕ = p % m in
    let i : ℕ = inverse_within p n r in
    let apart : r ≢ 0 = prime.no_factor m (omega arith) l in
    let r_low : r < m = N.mod-lt p (N.zero-lt-suc (suc a)) in
    let found : (r * i) % p ≡ 1 = inverse_is p prime n r (omega arith) (omega arith)
    (omega arith) in
    inverse_from_rest p m i (N.zero-lt-suc (suc a)) found

-- ---- residues
pub same_residue : (p : ℕ) (x y : Residue p) → x.rest ≡ y.rest → x ≡ y
same_residue p x y e =
    let pairs : (x.rest, x.below) ≡ (y.rest, y.below) = Σ_prop_path {A = ℕ} {B = λ n. T (ltb n p)}
    (λ n. T_prop (ltb n p)) e in
    λ i. record { rest = (pairs i).0; below = (pairs i).1 }

module _ (p : ℕ) (some : T (ltb 0 p)) where
  pub rest-residue : (n : ℕ) → (residue p some n).rest ≡ n % p
  rest-residue n = go (ltb (n % p) p) (λ t. t) (lt→ltb (n % p) p (N.mod-lt n (ltb→lt 0 p some)))
    where
      go : (b : Bool) (f : T b → T (ltb (n % p) p)) → T b → (residue_where p some (n % p) b f).rest
          ≡ n % p
      go true f t = refl
      go false f t = absurd t

  pub low : (x : Residue p) → x.rest < p
  low x = ltb→lt x.rest p x.below

  -- a residue is what its number leaves
  pub residue-rest : (x : Residue p) → residue p some x.rest ≡ x
  residue-rest x = same_residue p _ _ (rest-residue x.rest ∙ N.mod-eq_of_lt (low x))

  same_rests : (m n : ℕ) → m % p ≡ n % p → residue p some m ≡ residue p some n
  same_rests m n e = same_residue p _ _ (rest-residue m ∙ e ∙ sym (rest-residue n))

  made_is : (x : Residue p) (m : ℕ) → m % p ≡ x.rest % p → residue p some m ≡ x
  made_is x m e = same_rests m x.rest e ∙ residue-rest x

  pub residues_ring : IsRing (residues p some).arithmetic
  residues_ring = record {
    add_assoc = λ x y z. same_rests _ _ (ap (λ n. (n + z.rest) % p) (rest-residue (x.rest + y.rest))
        ∙ N.mod-add-mod (x.rest + y.rest) p z.rest
        ∙ ap (λ n. n % p) (N.add_assoc x.rest y.rest z.rest)
        ∙ sym (N.add-mod-mod x.rest (y.rest + z.rest) p)
        ∙ ap (λ n. (x.rest + n) % p) (sym (rest-residue (y.rest + z.rest))));
    add_comm = λ x y. ap (residue p some) (N.add_comm x.rest y.rest);
    add-zero = λ x. made_is x _ (ap (λ n. (x.rest + n) % p) (rest-residue 0)
        ∙ N.add-mod-mod x.rest 0 p ∙ ap (λ n. n % p) (N.add-zero x.rest));
    add-neg = λ x. same_rests _ _ (ap (λ n. (x.rest + n) % p) (rest-residue (p - x.rest))
        ∙ N.add-mod-mod x.rest (p - x.rest) p ∙ ap (λ n. n % p) (N.add_comm x.rest (p - x.rest)
        ∙ N.sub-add_cancel (N.le_of_lt (low x))) ∙ N.mod_self p ∙ sym (N.zero-mod p));
    mul_assoc = λ x y z. same_rests _ _ (ap (λ n. (n * z.rest) % p) (rest-residue (x.rest * y.rest))
        ∙ mul-mod_first (x.rest * y.rest) z.rest p
        ∙ ap (λ n. n % p) (N.mul_assoc x.rest y.rest z.rest)
        ∙ sym (mul-mod_second x.rest (y.rest * z.rest) p)
        ∙ ap (λ n. (x.rest * n) % p) (sym (rest-residue (y.rest * z.rest))));
    mul_comm = λ x y. ap (residue p some) (N.mul_comm x.rest y.rest);
    mul-one = λ x. made_is x _ (ap (λ n. (x.rest * n) % p) (rest-residue 1)
        ∙ mul-mod_second x.rest 1 p ∙ ap (λ n. n % p) (N.mul-one x.rest));
    mul-add = λ x y z. same_rests _ _ (ap (λ n. (x.rest * n) % p) (rest-residue (y.rest + z.rest))
        ∙ mul-mod_second x.rest (y.rest + z.rest) p
        ∙ ap (λ n. n % p) (N.mul-add x.rest y.rest z.rest)
        ∙ N.add-mod (x.rest * y.rest) (x.rest * z.rest) p
        ∙ ap₂ (λ m n. (m + n) % p) (sym (rest-residue (x.rest * y.rest)))
        (sym (rest-residue (x.rest * z.rest))));
    is_set = hlevel (ℕ_set, T-set);
  }

  pub residues_field : IsPrime p → IsFieldOf (residues p some).arithmetic (residue_inverse p some)
  residues_field prime = record {
    one-ne-zero = λ e. let h : 1 ≡ 0 = sym (N.mod-eq_of_lt prime.big) ∙ sym (rest-residue 1)
        ∙ ap (λ (x : Residue p). x.rest) e ∙ rest-residue 0 ∙ N.zero-mod p in omega arith;
    mul-inverse = λ x ne.
        let apart : x.rest ≢ 0 = λ e. ne (sym (made_is x 0 (ap (λ n. n % p) (sym e)))) in
        let i : ℕ = inverse_within p x.rest x.rest in
        same_rests _ _ (ap (λ n. (x.rest * n) % p) (rest-residue i) ∙ mul-mod_second x.rest i p
        ∙ inverse_is p prime x.rest x.rest (N.le_refl x.rest) (omega arith) (low x)
        ∙ sym (N.mod-eq_of_lt prime.big));
  }

  pub residue_zero_is : (x : Residue p) → ((residues p some).is_zero x ≡ true)
      ↔ (x ≡ (residues p some).zero)
  residue_zero_is x = (
    (λ h. sym (residue-rest x) ∙ ap (residue p some) (eqb-true x.rest 0 h)),
    (λ e. ap (λ (y : Residue p). eqb y.rest 0) e ∙ ap (λ n. eqb n 0) (rest-residue 0
        ∙ N.zero-mod p)),
  )

  -- no residue has a size
  pub residues_bounded : IsBounded (residues p some).arithmetic (residues p some).size
  residues_bounded = record {
    den_pos = λ x. omega arith;
    zero_size = refl;
    one_size = under_least (size 1 1) (omega arith);
    no_size = λ x e. refl;
    neg_size = λ x. refl;
    add_size = λ x y. under_least _ (lcm-pos 1 1 (omega arith) (omega arith));
    mul_size = λ x y. under_least (size 0 1) (omega arith);
  }

  pub residue_quotients_bounded : BoundsQuotients (residues p some).arithmetic
      (residues p some).size (residues p some).inverse
  residue_quotients_bounded x y ne = record { divides = N.one-dvd 0; at_most = omega arith }
