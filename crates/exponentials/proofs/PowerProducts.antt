-- Numbers that are products of powers of a list's numbers.
--   lower d e     the smaller exponent at each place; lower_comm: the same in either order
--   lower-left    what d has more than e, added to it, gives d
use Rattle.std.proofs.Common.{◌≡◌, ◌⊎◌, inl, inr, ℕ, zero, suc, ◌-◌, ◌*◌, ◌^◌, ◌<◌, min, List, [], ◌∷◌, refl, sym, ap, ap₂, subst, ◌∙◌, arith}
use Rattle.algebra.specs.Each.{Each}
use Rattle.algebra.specs.In.{In}
use Rattle.algebra.proofs.Basics.{one_is_zero}
use Rattle.exponentials.proofs.Coprimes.{power_none, power_apart}
use Rattle.algebra.proofs.Coprime.{coprime-mul}
use Rattle.exponentials.specs.Base.{Coprime, SameLength, IsProductOf, product}
use native.Mathlib.Nat as N
use Rattle.algebra.specs.Gcd.{gcd}
use Rattle.polynomials.specs.Exponent.{plus}
use Rattle.exponentials.proofs.Powers.{product-plus, plus-fits}
use Rattle.exponentials.proofs.Coprimes as C
use Rattle.exponentials.specs.Keys.{excess}

-- no exponents but 0
zeros : List ℕ → List ℕ
zeros [] = []
zeros (b ∷ bs) = 0 ∷ zeros bs

zeros-fits : (bs : List ℕ) → SameLength bs (zeros bs)
unfolding zeros
zeros-fits [] = tt
zeros-fits (b ∷ bs) = zeros-fits bs

product-zeros : (bs : List ℕ) → product bs (zeros bs) ≡ 1
unfolding zeros
product-zeros [] = refl
product-zeros (b ∷ bs) = ap₂ ◌*◌ (N.pow-zero b) (product-zeros bs) ∙ N.one-mul 1

pub made_one : (bs : List ℕ) → IsProductOf bs 1
made_one bs = record { exponents = zeros bs; fits = zeros-fits bs; is = product-zeros bs }

pub made_mul : (bs : List ℕ) (x y : ℕ) → IsProductOf bs x → IsProductOf bs y
    → IsProductOf bs (x * y)
made_mul bs x y p q = record {
  exponents = plus p.exponents q.exponents;
  fits = plus-fits bs p.exponents q.exponents p.fits q.fits;
  is = product-plus bs p.exponents q.exponents ∙ ap₂ ◌*◌ p.is q.is;
}

pub made_same : (bs : List ℕ) (x y : ℕ) → x ≡ y → IsProductOf bs x → IsProductOf bs y
made_same bs x y e p = subst (IsProductOf bs) e p

pub made_more : (b : ℕ) (bs : List ℕ) (x : ℕ) → IsProductOf bs x → IsProductOf (b ∷ bs) x
made_more b bs x p = record {
  exponents = 0 ∷ p.exponents;
  fits = p.fits;
  is =
      ap (λ z. z * product bs p.exponents) (N.pow-zero b) ∙ N.one-mul (product bs p.exponents)
      ∙ p.is;
}

pub made_in : (bs : List ℕ) (x : ℕ) → In x bs → IsProductOf bs x
made_in [] x i = absurd i
made_in (b ∷ bs) x i =
    elim i [
      | inl e ↦ record {
        exponents = 1 ∷ zeros bs;
        fits = zeros-fits bs;
        is =
            ap₂ ◌*◌ (N.pow-succ' b 0 ∙ ap (λ z. b * z) (N.pow-zero b) ∙ N.mul-one b)
            (product-zeros bs) ∙ N.mul-one b ∙ sym e;
      }
      | inr j ↦ made_more b bs x (made_in bs x j)
    ]

pub made_power : (bs : List ℕ) (x n : ℕ) → IsProductOf bs x → IsProductOf bs (x ^ n)
made_power bs x zero p = made_same bs 1 (x ^ 0) (sym (N.pow-zero x)) (made_one bs)
made_power bs x (suc n) p = made_same bs (x * x ^ n) (x ^ suc n) (sym (N.pow-succ' x n))
    (made_mul bs x (x ^ n) p (made_power bs x n p))

made_product : (bs cs e : List ℕ) → Each (IsProductOf cs) bs → IsProductOf cs (product bs e)
unfolding Each
made_product [] cs e p = made_one cs
made_product (b ∷ bs) cs [] p = made_one cs
made_product (b ∷ bs) cs (n ∷ e) p = made_mul cs (b ^ n) (product bs e) (made_power cs b n p.0)
    (made_product bs cs e p.1)

pub made_trans : (bs cs : List ℕ) (x : ℕ) → IsProductOf bs x → Each (IsProductOf cs) bs
    → IsProductOf cs x
made_trans bs cs x p q = made_same cs (product bs p.exponents) x p.is
    (made_product bs cs p.exponents q)

-- ---- the common part of two products of powers of one coprime list
unfoldable pub lower : List ℕ → List ℕ → List ℕ
lower [] e = []
lower (m ∷ d) [] = []
lower (m ∷ d) (n ∷ e) = min m n ∷ lower d e

pub lower-fits : (bs d e : List ℕ) → SameLength bs d → SameLength bs e → SameLength bs (lower d e)
unfolding lower
lower-fits [] [] e f g = tt
lower-fits [] (m ∷ d) e f g = absurd f
lower-fits (b ∷ bs) [] e f g = absurd f
lower-fits (b ∷ bs) (m ∷ d) [] f g = absurd g
lower-fits (b ∷ bs) (m ∷ d) (n ∷ e) f g = lower-fits bs d e f g

pub left-fits : (bs d e : List ℕ) → SameLength bs d → SameLength bs e → SameLength bs (excess d e)
unfolding excess
left-fits [] [] e f g = tt
left-fits [] (m ∷ d) e f g = absurd f
left-fits (b ∷ bs) [] e f g = absurd f
left-fits (b ∷ bs) (m ∷ d) [] f g = absurd g
left-fits (b ∷ bs) (m ∷ d) (n ∷ e) f g = left-fits bs d e f g

pub lower_comm : (d e : List ℕ) → lower d e ≡ lower e d
unfolding lower
lower_comm [] [] = refl
lower_comm [] (n ∷ e) = refl
lower_comm (m ∷ d) [] = refl
lower_comm (m ∷ d) (n ∷ e) = ap₂ ◌∷◌ (omega arith) (lower_comm d e)

pub lower-left : (bs d e : List ℕ) → SameLength bs d → SameLength bs e
    → plus (lower d e) (excess d e) ≡ d
unfolding lower excess plus
lower-left [] [] e f g = refl
lower-left [] (m ∷ d) e f g = absurd f
lower-left (b ∷ bs) [] e f g = absurd f
lower-left (b ∷ bs) (m ∷ d) [] f g = absurd g
lower-left (b ∷ bs) (m ∷ d) (n ∷ e) f g = ap₂ ◌∷◌ (omega arith) (lower-left bs d e f g)

-- a number that is coprime to each of a list is so to their products of powers
pub coprime_product : (b : ℕ) (bs e : List ℕ) → Each (λ c. gcd b c ≡ 1) bs
    → gcd b (product bs e) ≡ 1
unfolding Each
coprime_product b [] e p = C.coprime_one b
coprime_product b (c ∷ bs) [] p = C.coprime_one b
coprime_product b (c ∷ bs) (n ∷ e) p = coprime-mul b (c ^ n) (product bs e)
    (C.coprime_power b c n p.0) (coprime_product b bs e p.1)

left-coprime : (bs d e : List ℕ) → Coprime bs
    → gcd (product bs (excess d e)) (product bs (excess e d))
    ≡ 1
unfolding excess
left-coprime [] d e c = C.coprime_one 1
left-coprime (b ∷ bs) [] e c = C.coprime_sym (product (b ∷ bs) (excess e [])) 1
    (C.coprime_one (product (b ∷ bs) (excess e [])))
left-coprime (b ∷ bs) (m ∷ d) [] c = C.coprime_one 1
left-coprime (b ∷ bs) (m ∷ d) (n ∷ e) c = go (one_is_zero m n) (left-coprime bs d e c.2)
  where
    go : (m - n ≡ 0) ⊎ (n - m ≡ 0) → gcd (product bs (excess d e)) (product bs (excess e d)) ≡ 1
        → gcd (b ^ (m - n) * product bs (excess d e)) (b ^ (n - m) * product bs (excess e d)) ≡ 1
    go (inl z) r =
        subst (λ x. gcd x (b ^ (n - m) * product bs (excess e d)) ≡ 1)
        (power_none b (m - n) z (product bs (excess d e)))
        (power_apart b (product bs (excess d e)) (n - m) (product bs (excess e d))
        (coprime_product b bs (excess d e) c.1) r)
    go (inr z) r =
        subst (λ x. gcd (b ^ (m - n) * product bs (excess d e)) x ≡ 1)
        (power_none b (n - m) z (product bs (excess e d)))
        (C.coprime_sym (product bs (excess e d)) (b ^ (m - n) * product bs (excess d e))
        (power_apart b (product bs (excess e d)) (m - n) (product bs (excess d e))
        (coprime_product b bs (excess e d) c.1) (C.coprime_sym (product bs (excess d e))
        (product bs (excess e d)) r)))

-- with numbers x and y also g, x / g and y / g
pub record Split (P : ℕ → Type 0) : Type 0 where
  pub common : (g x y : ℕ) → 0 < g * x → 0 < g * y → gcd (g * x) (g * y) ≡ g → P (g * x) → P (g * y)
      → P g
  pub quotient : (g x y : ℕ) → 0 < g * x → 0 < g * y → gcd (g * x) (g * y) ≡ g → P (g * x)
      → P (g * y) → P x

pub record Parts (bs : List ℕ) (x y : ℕ) : Type 0 where
  pub common : ℕ
  pub own : ℕ
  pub common_made : IsProductOf bs common
  pub own_made : IsProductOf bs own
  pub whole : x ≡ common * own
  pub is_gcd : gcd x y ≡ common

pub parts : (bs : List ℕ) (x y : ℕ) → Coprime bs → IsProductOf bs x → IsProductOf bs y
    → Parts bs x y
parts bs x y c p q =
    let d = p.exponents in
    let e = q.exponents in
    let k = product bs (lower d e) in
    let a = product bs (excess d e) in
    let b = product bs (excess e d) in
    let x_is : x ≡ k * a = sym p.is ∙ ap (product bs) (sym (lower-left bs d e p.fits q.fits))
    ∙ product-plus bs (lower d e) (excess d e) in
    let y_is : y ≡ k * b = sym q.is ∙ ap (product bs) (sym (lower-left bs e d q.fits p.fits)
    ∙ ap (λ l. plus l (excess e d)) (lower_comm e d))
    ∙ product-plus bs (lower d e) (excess e d) in
    record {
      common = k;
      own = a;
      common_made = record {
        exponents = lower d e;
        fits = lower-fits bs d e p.fits q.fits;
        is = refl;
      };
      own_made = record {
        exponents = excess d e;
        fits = left-fits bs d e p.fits q.fits;
        is =
            refl;
      };
      whole = x_is;
      is_gcd = ap₂ gcd x_is y_is ∙ C.gcd-times k a b (left-coprime bs d e c);
    }

pub pos_left : (g x : ℕ) → 0 < g * x → 0 < g
pos_left zero x h = absurd (N.lt_irrefl 0 (subst (λ z. 0 < z) (N.zero-mul x) h))
pos_left (suc g) x h = omega arith

pub made_split : (bs : List ℕ) → Coprime bs → Split (IsProductOf bs)
made_split bs c = record {
  common = λ g x y h h' e p q. let r = parts bs (g * x) (g * y) c p q in
      made_same bs r.common g (sym r.is_gcd ∙ e) r.common_made;
  quotient = λ g x y h h' e p q.
      let r = parts bs (g * x) (g * y) c p q in
      let alike : r.common ≡ g = sym r.is_gcd ∙ e in
      made_same bs r.own x (N.eq_of_mul-eq-mul_left g (pos_left g x h) r.own x
      (ap (λ z. z * r.own) (sym alike) ∙ sym r.whole)) r.own_made;
}
