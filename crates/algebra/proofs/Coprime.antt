-- Numbers without a common divisor but 1.
--   coprime_from, common_one        what they are: a common divisor is 1
--   coprime_divisors                divisors of two such are such
--   coprime-mul, mul-coprime        such to two numbers is such to their product
--   dvd_rest                        what divides a sum and one part divides the other
use Rattle.std.proofs.Common.{◌≡◌, ℕ, suc, ◌+◌, ◌*◌, ◌<◌, ℤ, pos, negsuc, ◌+ℤ◌, unsigned_abs, inl, inr, ◌≤◌, refl, sym, subst, ◌∙◌, arith}
use Prim.Native.Nat.{◌∣◌}
use native.Mathlib.Nat as N
use Rattle.std.proofs.lemmas.Int.{ints}
use Rattle.std.proofs.lemmas.Bool.{cases_lt}
use Rattle.algebra.specs.Gcd.{gcd}
use Rattle.algebra.proofs.GcdLaws.{gcd-left, gcd-right, gcd_comm, dvd-mul-gcd, dvd_from_coprime}

-- what divides both is 1
pub common_one : (a b d : ℕ) → gcd a b ≡ 1 → d ∣ a → d ∣ b → d ≡ 1
common_one a b d e p q =
    N.eq-one_of_dvd-one (subst (λ x. d ∣ x) (N.one-mul (gcd a b)
    ∙ e) (dvd-mul-gcd a b 1 d (subst (λ x. d ∣ x) (sym (N.one-mul a)) p)
    (subst (λ x. d ∣ x) (sym (N.one-mul b)) q)))

pub coprime_from : (a b : ℕ) → ((d : ℕ) → d ∣ a → d ∣ b → d ≡ 1) → gcd a b ≡ 1
coprime_from a b h = h (gcd a b) (gcd-left a b) (gcd-right a b)

pub coprime_divisors : (a b x y : ℕ) → gcd a b ≡ 1 → x ∣ a → y ∣ b → gcd x y ≡ 1
coprime_divisors a b x y e p q =
    coprime_from x y (λ d dx dy. common_one a b d e (N.dvd_trans d dx p) (N.dvd_trans d dy q))

pub coprime-mul : (a x y : ℕ) → gcd a x ≡ 1 → gcd a y ≡ 1 → gcd a (x * y) ≡ 1
coprime-mul a x y e f = coprime_from a (x * y) (λ d da dxy.
    let apart : gcd y d ≡ 1 = coprime_divisors y a y d (gcd_comm y a ∙ f) (N.dvd_refl y) da in
    common_one a x d e da (dvd_from_coprime y d x apart dxy))

pub mul-coprime : (x y b : ℕ) → gcd x b ≡ 1 → gcd y b ≡ 1 → gcd (x * y) b ≡ 1
mul-coprime x y b e f = gcd_comm (x * y) b ∙ coprime-mul b x y (gcd_comm b x ∙ e) (gcd_comm b y ∙ f)

-- how the size of a sum stands to the sizes of its parts
data Sizes (s m n : ℕ) : Type 0 where
  together : s ≡ m + n → Sizes s m n
  first_more : m ≡ s + n → Sizes s m n
  second_more : n ≡ s + m → Sizes s m n

opposed : (m n : ℕ) (s : ℕ) → (m < n → n ≡ s + m) → (n ≤ m → m ≡ s + n) → Sizes s m n
opposed m n s less more = elim (cases_lt m n) [
  | inl l ↦ second_more (less l)
  | inr l
      ↦ first_more (more l)
]

sizes : (a b : ℤ) → Sizes (unsigned_abs (a +ℤ b)) (unsigned_abs a) (unsigned_abs b)
sizes (pos m) (pos n) = together refl
sizes (pos m) (negsuc n) = opposed m (suc n) (unsigned_abs (pos m +ℤ negsuc n))
    (λ l. grind (arith, ints)) (λ l. grind (arith, ints))
sizes (negsuc m) (pos n) = opposed (suc m) n (unsigned_abs (negsuc m +ℤ pos n))
    (λ l. grind (arith, ints)) (λ l. grind (arith, ints))
sizes (negsuc m) (negsuc n) = together (grind (arith, ints))

-- of signed numbers, by their sizes
pub dvd_rest : (d : ℕ) (a b : ℤ) → d ∣ unsigned_abs (a +ℤ b) → d ∣ unsigned_abs b
    → d ∣ unsigned_abs a
dvd_rest d a b p q = go (unsigned_abs (a +ℤ b)) (unsigned_abs a) (unsigned_abs b) (sizes a b) p q
  where
    go : (s m n : ℕ) → Sizes s m n → d ∣ s → d ∣ n → d ∣ m
    go s m n (together e) p q = (N.dvd-add_iff_right d q).1 (subst (λ x. d ∣ x) (e ∙ N.add_comm m n)
        p)
    go s m n (first_more e) p q = subst (λ x. d ∣ x) (sym e) (N.dvd-add d p q)
    go s m n (second_more e) p q = (N.dvd-add_iff_right d p).1 (subst (λ x. d ∣ x) e q)
