-- Operations that keep the number of exponents.
--   with-length     what is put together again, with a key of as many exponents
--   arity-normalized, arity-turned_back, arity-zero_images     the polynomials that these make
use Rattle.std.proofs.Common.{◌≡◌, ℕ, zero, suc, ◌+◌, pos, List, [], ◌∷◌, take, drop, replicate, length, arith, refl, ap, ap₂, ◌∙◌, length-take, length-drop}
use Rattle.std.proofs.lemmas.List.{length-append}
use Rattle.algebra.specs.Each.{Each}
use Rattle.algebra.proofs.Each.{each-append}
use Rattle.algebra.specs.Fraction.{Fraction, ℚ, whole}
use Rattle.polynomials.specs.Polynomial.{Arity, AllArity}
use Rattle.polynomials.specs.Terms.{Terms, constant, variables}
use Rattle.polynomials.proofs.Arity.{arity-constant, arity-variables}
use Rattle.exponentials.specs.Keys.{key_of, normal_key, excess, rest, top}
use Rattle.solvable_maps.specs.Expo.{with_normal_keys, inverse_form_terms, zero_images, with_key, tail}
use Rattle.solvable_maps.specs.Iterations.{width}

length-rest : (e : List ℕ) (n : ℕ) → length e ≡ suc (suc n) → length (rest (rest e)) ≡ n
length-rest [] n l = absurd (omega (arith, l))
length-rest (x ∷ []) n l = absurd (omega (arith, l))
length-rest (x ∷ y ∷ e) n l = omega (arith, l)

pub with-length : (r m : ℕ) (e : List ℕ) (us vs : List ℕ → List ℕ → List ℕ)
    → ((d e : List ℕ) → length d ≡ r → length e ≡ r → length (us d e) ≡ r)
    → ((d e : List ℕ) → length d ≡ r → length e ≡ r → length (vs d e) ≡ r) → length e ≡ width r m
    → (n k : ℕ)
    → length (with_key n (k, us (key_of r e).1 (key_of r e).2, vs (key_of r e).1 (key_of r e).2)
    (tail r e)) ≡ width r m
with-length r m e us vs hu hv l n k =
    let d : List ℕ = rest (rest e) in
    let ld : length d ≡ r + (r + m) = length-rest e (r + (r + m)) l in
    let lx : length (take r d) ≡ r = length-take r d ∙ grind (arith, ld) in
    let lr : length (drop r d) ≡ r + m = length-drop r d ∙ omega (arith, ld) in
    let ly : length (take r (drop r d)) ≡ r = length-take r (drop r d) ∙ grind (arith, lr) in
    let lz : length (drop r (drop r d)) ≡ m = length-drop r (drop r d) ∙ omega (arith, lr) in
    ap (λ x. suc (suc x)) (length-append (us (take r d) (take r (drop r d))) _
    ∙ ap₂ ◌+◌ (hu _ _ lx ly) (length-append (vs (take r d) (take r (drop r d))) _
    ∙ ap₂ ◌+◌ (hv _ _ lx ly) lz))

pub length-left : (r : ℕ) (d e : List ℕ) → length d ≡ r → length e ≡ r → length (excess d e) ≡ r
unfolding excess
length-left r [] e l k = l
length-left r (x ∷ d) [] l k = absurd (omega (arith, l, k))
length-left r (x ∷ d) (y ∷ e) l k = ap suc (length-left (length d) d e refl (omega (arith, l, k)))
    ∙ l

pub arity-normalized : {A : Type 0} (r m : ℕ) (p : Terms A) → Arity (width r m) p
    → Arity (width r m) (with_normal_keys r p)
unfolding Each
arity-normalized r m [] a = tt
arity-normalized r m (t ∷ p) a = (
  with-length r m t.0 (λ d e. excess d e) (λ d e. excess e d) (length-left r) (λ d e k l.
      length-left r e d l k) a.0 (top t.0) (normal_key r t.0).0,
  arity-normalized r m p a.1,
)

pub arity-turned_back : (r m : ℕ) (p : Terms Fraction) → Arity (width r m) p
    → Arity (width r m) (inverse_form_terms r p)
unfolding Each
arity-turned_back r m [] a = tt
arity-turned_back r m (t ∷ p) a = (
  with-length r m t.0 (λ d e. e) (λ d e. d) (λ d e k l. l)
      (λ d e k l. k) a.0 (top t.0) (key_of r t.0).0,
  arity-turned_back r m p a.1,
)

pub arity-zero_images : (r m : ℕ) → AllArity m (zero_images r m)
unfolding Each
arity-zero_images r m = (
  tt,
  (
    arity-constant m (whole (pos 1)),
    each-append (Arity m) (replicate r (constant m (whole (pos 1)))) _ (ones r)
        (each-append (Arity m) (replicate r (constant m (whole (pos 1)))) (variables ℚ m) (ones r)
        (arity-variables m ℚ)),
  ),
)
  where
    ones : (n : ℕ) → AllArity m (replicate n (constant m (whole (pos 1))))
    ones zero = tt
    ones (suc n) = (arity-constant m (whole (pos 1)), ones n)
