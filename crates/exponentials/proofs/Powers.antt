-- Products of powers of numbers that are pairwise coprime and above 1.
--   product-pos     such a product is above zero
use Rattle.std.proofs.Common.{◌≡◌, ◌⊎◌, ℕ, zero, suc, ◌+◌, ◌*◌, ◌^◌, ◌<◌, List, [], ◌∷◌, refl, sym, ap, ap₂, subst, ◌∙◌, arith}
use Rattle.std.proofs.lemmas.Nat.{pow-add}
use Rattle.algebra.specs.Each.{Each}
use Rattle.exponentials.specs.Base.{Coprime, Disjoint, SameLength, product}
use Prim.Native.Nat.{◌∣◌}
use native.Mathlib.Nat as N
use Rattle.algebra.specs.Gcd.{gcd}
use Rattle.polynomials.specs.Exponent.{plus}
use Rattle.algebra.proofs.GcdLaws as G
use Rattle.algebra.proofs.RatioLaws.{mul-pos}

pub power-pos : (b n : ℕ) → 0 < b → 0 < b ^ n
power-pos b zero h = subst (λ x. 0 < x) (sym (N.pow-zero b)) (omega arith)
power-pos b (suc n) h = subst (λ x. 0 < x) (sym (N.pow-succ' b n))
    (mul-pos b (b ^ n) h (power-pos b n h))

-- b divides no product of numbers that are coprime to it
dvd_power_out : (b c n k : ℕ) → gcd c b ≡ 1 → b ∣ c ^ n * k → b ∣ k
dvd_power_out b c zero k e d = subst (λ x. b ∣ x) (ap (λ x. x * k) (N.pow-zero c) ∙ N.one-mul k) d
dvd_power_out b c (suc n) k e d =
    dvd_power_out b c n k e (G.dvd_from_coprime c b (c ^ n * k) e
    (subst (λ x. b ∣ x) (ap (λ x. x * k) (N.pow-succ' c n) ∙ N.mul_assoc c (c ^ n) k
    ∙ N.mul_comm c (c ^ n * k)) d))

pub dvd_product_out : (b : ℕ) (bs e : List ℕ) → Each (λ c. gcd b c ≡ 1) bs → b ∣ product bs e
    → b ≡ 1
unfolding Each
dvd_product_out b [] e p d = N.eq-one_of_dvd-one d
dvd_product_out b (c ∷ bs) [] p d = N.eq-one_of_dvd-one d
dvd_product_out b (c ∷ bs) (n ∷ e) p d =
    dvd_product_out b bs e p.1 (dvd_power_out b c n (product bs e) (G.gcd_comm c b ∙ p.0) d)

-- different lists of exponents give different numbers
pub exponents_same : (bs : List ℕ) → Coprime bs → (d e : List ℕ) → SameLength bs d → SameLength bs e
    → product bs d ≡ product bs e → d ≡ e
exponents_same [] c [] [] f g h = refl
exponents_same [] c [] (n ∷ e) f g h = absurd g
exponents_same [] c (m ∷ d) e f g h = absurd f
exponents_same (b ∷ bs) c [] e f g h = absurd f
exponents_same (b ∷ bs) c (m ∷ d) [] f g h = absurd g
exponents_same (b ∷ bs) c (m ∷ d) (n ∷ e) f g h = both (tops m n h) (exponents_same bs c.2 d e f g)
  where
    unit : (k : ℕ) → b ^ 0 * k ≡ k
    unit k = ap (λ x. x * k) (N.pow-zero b) ∙ N.one-mul k

    divides : (n k : ℕ) → b ∣ b ^ suc n * k
    divides n k = subst (λ x. b ∣ x) (sym (ap (λ x. x * k) (N.pow-succ' b n)
        ∙ N.mul_assoc b (b ^ n) k)) (N.dvd-mul_right b (b ^ n * k))

    clash : (e : List ℕ) (n k : ℕ) → b ^ 0 * product bs e ≡ b ^ suc n * k → ⊥
    clash e n k h = let one : b ≡ 1 = dvd_product_out b bs e c.1 (subst (λ x. b ∣ x) (sym h
        ∙ unit (product bs e)) (divides n k)) in let big : 1 < b = c.0 in absurd (omega arith)

    less : (m n : ℕ) → b ^ suc m * product bs d ≡ b ^ suc n * product bs e
        → b ^ m * product bs d ≡ b ^ n * product bs e
    less m n h =
        let some : 0 < b = (let big : 1 < b = c.0 in omega arith) in
        N.eq_of_mul-eq-mul_left b some (b ^ m * product bs d) (b ^ n * product bs e)
        (sym (ap (λ x. x * product bs d) (N.pow-succ' b m)
        ∙ N.mul_assoc b (b ^ m) (product bs d)) ∙ h
        ∙ ap (λ x. x * product bs e) (N.pow-succ' b n) ∙ N.mul_assoc b (b ^ n) (product bs e))

    tops : (m n : ℕ) → b ^ m * product bs d ≡ b ^ n * product bs e → (m ≡ n)
        × (product bs d ≡ product bs e)
    tops zero zero h = (refl, sym (unit (product bs d)) ∙ h ∙ unit (product bs e))
    tops zero (suc n) h = absurd (clash d n (product bs e) h)
    tops (suc m) zero h = absurd (clash e m (product bs d) (sym h))
    tops (suc m) (suc n) h = let r = tops m n (less m n h) in (ap suc r.0, r.1)

    both : (m ≡ n) × (product bs d ≡ product bs e) → (product bs d ≡ product bs e → d ≡ e)
        → m ∷ d ≡ n ∷ e
    both r s = ap₂ ◌∷◌ r.0 (s r.1)

-- ---- sums of exponents
pub product-plus : (bs d e : List ℕ) → product bs (plus d e) ≡ product bs d * product bs e
unfolding plus
product-plus [] d e = sym (N.one-mul 1)
product-plus (b ∷ bs) [] e = sym (N.one-mul (product (b ∷ bs) e))
product-plus (b ∷ bs) (m ∷ d) [] = sym (N.mul-one (product (b ∷ bs) (m ∷ d)))
product-plus (b ∷ bs) (m ∷ d) (n ∷ e) = ap₂ ◌*◌ (pow-add b m n) (product-plus bs d e)
    ∙ N.mul-mul-mul_comm (b ^ m) (b ^ n) (product bs d) (product bs e)

pub plus-fits : (bs d e : List ℕ) → SameLength bs d → SameLength bs e → SameLength bs (plus d e)
unfolding plus
plus-fits [] [] [] f g = tt
plus-fits [] [] (n ∷ e) f g = absurd g
plus-fits [] (m ∷ d) e f g = absurd f
plus-fits (b ∷ bs) [] e f g = absurd f
plus-fits (b ∷ bs) (m ∷ d) [] f g = absurd g
plus-fits (b ∷ bs) (m ∷ d) (n ∷ e) f g = plus-fits bs d e f g

pub product-pos : (bs e : List ℕ) → Coprime bs → 0 < product bs e
product-pos [] e c = omega arith
product-pos (b ∷ bs) [] c = omega arith
product-pos (b ∷ bs) (n ∷ e) c = mul-pos (b ^ n) (product bs e) (power-pos b n (let big : 1 < b =
    c.0 in omega arith)) (product-pos bs e c.2)

place : (m n m' n' : ℕ) → (m ≡ 0) ⊎ (n ≡ 0) → (m' ≡ 0) ⊎ (n' ≡ 0) → m + n' ≡ m' + n → (m ≡ m')
    × (n ≡ n')
place m n m' n' p q e = grind arith

-- whole exponents u - v are given by u and v
pub disjoint_same : (bs u v u' v' : List ℕ) → SameLength bs u → SameLength bs v → SameLength bs u'
    → SameLength bs v'
    → Disjoint u v → Disjoint u' v' → plus u v' ≡ plus u' v → (u ≡ u') × (v ≡ v')
unfolding plus
disjoint_same [] [] [] [] [] f g f' g' p q e = (refl, refl)
disjoint_same [] (m ∷ u) v u' v' f g f' g' p q e = absurd f
disjoint_same [] [] (n ∷ v) u' v' f g f' g' p q e = absurd g
disjoint_same [] [] [] (m' ∷ u') v' f g f' g' p q e = absurd f'
disjoint_same [] [] [] [] (n' ∷ v') f g f' g' p q e = absurd g'
disjoint_same (b ∷ bs) [] v u' v' f g f' g' p q e = absurd f
disjoint_same (b ∷ bs) (m ∷ u) [] u' v' f g f' g' p q e = absurd g
disjoint_same (b ∷ bs) (m ∷ u) (n ∷ v) [] v' f g f' g' p q e = absurd f'
disjoint_same (b ∷ bs) (m ∷ u) (n ∷ v) (m' ∷ u') [] f g f' g' p q e = absurd g'
disjoint_same (b ∷ bs) (m ∷ u) (n ∷ v) (m' ∷ u') (n' ∷ v') f g f' g' p q e =
    let tops : m + n' ≡ m' + n = cc in
    let rests : plus u v' ≡ plus u' v = cc in
    let here = place m n m' n' p.0 q.0 tops in
    let there = disjoint_same bs u v u' v' f g f' g' p.1 q.1 rests in
    (ap₂ ◌∷◌ here.0 there.0, ap₂ ◌∷◌ here.1 there.1)
