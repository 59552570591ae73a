-- The operations on polynomials in n, s, u, v and variables, by their values.
--   key_with, tail_with     the parts of exponents put together
--   normalized-value, normal-value, normalized-normal     s s and u v replaced by 1
--   turned-value, turned_value, back-value     -n for n, with u and v exchanged
--   next-value, zero-value, iteration-value      one more for n, 0 for n, and n for n
--   point-append            the numbers of a point stand before the variables
use Rattle.std.proofs.lemmas.List.{length-map, map-append, append_assoc}
use Rattle.std.proofs.Common.{◌≡◌, ℕ, zero, suc, pos, List, [], ◌∷◌, ◌++◌, map, length, take, drop, replicate, negsuc, refl, sym, ap, ap₂, subst, ◌∙◌, arith}
use mathlib.Core.Path.{fun_ext}
use Rattle.exponentials.specs.Base.{Coprime, SameLength}
use Rattle.exponentials.specs.Keys.{Key, IsNormalKey, key_of, normal_key, rest, top}
use Rattle.algebra.specs.Arithmetic.{power}
use Rattle.algebra.specs.Each.{Each}
use Rattle.algebra.specs.Ring.{CommRing, Field, operations, of_nat}
use Rattle.algebra.specs.Sum.{sum_over}
use Rattle.algebra.proofs.Homs.{id_hom}
use Rattle.algebra.proofs.RingSolver.{ring_rules, ring}
use Rattle.algebra.specs.Fraction.{Fraction, ℚ, whole, inverse}
use Rattle.algebra.proofs.Fractions.{ℚ_ring, ℚ_field}
use Rattle.algebra.proofs.Wholes.{of_nat-whole}
use Rattle.polynomials.specs.Terms.{Terms, constant, variables, monomial_at, evaluate, value_at, lists, compose}
use Rattle.polynomials.specs.Polynomial.{Arity}
use Rattle.polynomials.proofs.ValueAt.{value_at-nil, value_at-compose, value_at-constant, values_at-constants, value_at-variables}
use Rattle.exponentials.proofs.Points.{term-value}
use Rattle.exponentials.proofs.Unique.{fraction_char0}
use Rattle.exponentials.proofs.Units.{IsUnit, at, Room, room_long, normal_good, normal_term, natural_unit}
use Rattle.solvable_maps.specs.Expo.{tail, with_key, with_normal_keys, next_images, zero_images, inverse_form_sign, inverse_form_terms, at_iteration}
use Rattle.solvable_maps.specs.Iterations.{point, back_point, powers, inverses, sign, width, IsNormal}
use Rattle.solvable_maps.proofs.Back as Back
use Rattle.solvable_maps.proofs.Numbers.{point-is}
use Rattle.solvable_maps.specs.Shifts.{later}

take-front : (bs e l : List ℕ) → SameLength bs e → take (length bs) (e ++ l) ≡ e
take-front [] [] l f = refl
take-front [] (n ∷ e) l f = absurd f
take-front (b ∷ bs) [] l f = absurd f
take-front (b ∷ bs) (n ∷ e) l f = ap (λ z. n ∷ z) (take-front bs e l f)

drop-front : (bs e l : List ℕ) → SameLength bs e → drop (length bs) (e ++ l) ≡ l
drop-front [] [] l f = refl
drop-front [] (n ∷ e) l f = absurd f
drop-front (b ∷ bs) [] l f = absurd f
drop-front (b ∷ bs) (n ∷ e) l f = drop-front bs e l f

-- the numbers of the base before the variables
pub point-append : (base : List ℕ) (n : ℕ) (s : List Fraction)
    → point base n [] ++ s ≡ point base n s
point-append base n s = ap (λ z. whole (pos n) ∷ sign n ∷ z) (append_assoc (powers base n)
    (inverses base n ++ []) s
    ∙ ap (λ z. powers base n ++ z) (append_assoc (inverses base n) [] s))

module _ (bs : List ℕ) (n : ℕ) (x : Key) (e : List ℕ) (f : SameLength bs x.1)
    (g : SameLength bs x.2) where
  pub key_with : key_of (length bs) (with_key n x e) ≡ x
  key_with =
      let us = take-front bs x.1 (x.2 ++ e) f in
      let vs = ap (take (length bs)) (drop-front bs x.1 (x.2 ++ e) f) ∙ take-front bs x.2 e g in
      λ i. (x.0, us i, vs i)

  pub tail_with : tail (length bs) (with_key n x e) ≡ e
  tail_with = ap (drop (length bs)) (drop-front bs x.1 (x.2 ++ e) f) ∙ drop-front bs x.2 e g

module _ {A : Type 0} (R : CommRing A) (bs : List ℕ) (xs : List A) (a s : A) (f g : ℕ → A) where
  -- a term's value by its parts
  abbrev pub part_value : A → ℕ → Key → List ℕ → A
  part_value c n x e = R.mul (R.mul c (monomial_at (operations R) xs e))
      (R.mul (power (operations R) a n) (R.mul (power (operations R) s x.0)
      (R.mul (monomial_at (operations R) (map f bs) x.1) (monomial_at (operations R) (map g bs)
      x.2))))

  pub term_parts : (c : A) (e : List ℕ) → R.mul c (monomial_at (operations R) (at bs xs a s f g) e)
      ≡ part_value c (top e) (key_of (length bs) e) (tail (length bs) e)
  term_parts c e =
      term-value R c a s (map f bs) (map g bs) xs e
      ∙ ap₂ (λ i j.
      R.mul (R.mul c (monomial_at (operations R) xs (drop j (drop i (rest (rest e))))))
      (R.mul (power (operations R) a (top e)) (R.mul (power (operations R) s (top (rest e)))
      (R.mul (monomial_at (operations R) (map f bs) (take i (rest (rest e))))
      (monomial_at (operations R) (map g bs) (take j (drop i (rest (rest e)))))))))
      (length-map bs f) (length-map bs g)

  pub with_parts : (c : A) (n : ℕ) (x : Key) (e : List ℕ) → SameLength bs x.1 → SameLength bs x.2
      → R.mul c (monomial_at (operations R) (at bs xs a s f g) (with_key n x e)) ≡ part_value c n x
      e
  with_parts c n x e p q = term_parts c (with_key n x e)
      ∙ ap₂ (part_value c n) (key_with bs n x e p q) (tail_with bs n x e p q)

module _ (bs : List ℕ) (m : ℕ) where
  room : {A : Type 0} (t : List ℕ × A) → length t.0 ≡ width (length bs) m → Room bs t
  room t l = room_long bs t (omega arith)

  pub normalized-normal : {A : Type 0} (p : Terms A) → Arity (width (length bs) m) p
      → IsNormal bs (with_normal_keys (length bs) p)
  unfolding Each
  normalized-normal [] a = tt
  normalized-normal (t ∷ p) a =
      let good : IsNormalKey bs (normal_key (length bs) t.0) = normal_good bs t (room t a.0) in (
        moved (sym (key_with bs (top t.0) (normal_key (length bs) t.0) (tail (length bs) t.0) good.1
            good.2)) good,
        normalized-normal p a.1,
      )
    where
      moved : {x y : Key} → x ≡ y → IsNormalKey bs x → IsNormalKey bs y
      moved e h = subst (IsNormalKey bs) e h

  module _ {A : Type 0} (R : CommRing A) (xs : List A) (a s : A) (f g : ℕ → A) where
    -- where s s = 1 and u v = 1
    pub normalized-value : IsUnit R bs xs s f g → (p : Terms A) → Arity (width (length bs) m) p
        → value_at (operations R) (with_normal_keys (length bs) p) (at bs xs a s f g)
        ≡ value_at (operations R) p (at bs xs a s f g)
    unfolding Each evaluate sum_over
    normalized-value unit [] k = refl
    normalized-value unit (t ∷ p) k =
        let good : IsNormalKey bs (normal_key (length bs) t.0) = normal_good bs t (room t k.0) in
        ap₂ R.add
        (with_parts R bs xs a s f g t.1 (top t.0) (normal_key (length bs) t.0)
        (tail (length bs) t.0) good.1 good.2
        ∙ sym (normal_term R bs xs a s f g unit t.1 t (room t k.0)))
        (normalized-value unit p k.1)

-- ---- over the fractions
module _ (base : List ℕ) (c : Coprime base) (m : ℕ) where
  abbrev R : CommRing Fraction
  R = ℚ_ring

  abbrev F : Field Fraction
  F = ℚ_field

  abbrev w : ℕ
  w = width (length base) m

  sign_value : (n : ℕ) (k a : Fraction) → R.mul (inverse_form_sign n k) (power (operations R) a n)
      ≡ R.mul k (power (operations R) (R.neg a) n)
  unfolding power
  sign_value zero k a = refl
  sign_value (suc n) k a = iteration (inverse_form_sign n k) a (power (operations R) a n)
      ∙ ap (λ z. R.mul z (R.neg a)) (sign_value n k a) ∙ back k (power (operations R) (R.neg a) n)
      (R.neg a)
    where
      iteration : (k a p : Fraction) → R.mul (R.neg k) (R.mul a p) ≡ R.mul (R.mul k p) (R.neg a)
      iteration k a p = ring R (k ∷ a ∷ p ∷ []) (search ring_rules depth 40) refl

      back : (k p b : Fraction) → R.mul (R.mul k p) b ≡ R.mul k (R.mul b p)
      back k p b = ring R (k ∷ p ∷ b ∷ []) (search ring_rules depth 40) refl

  pub turned_value : (xs : List Fraction) (a s : Fraction) (f g : ℕ → Fraction) (p : Terms Fraction)
      → Arity w p
      → value_at ℚ (inverse_form_terms (length base) p) (at base xs a s f g) ≡ value_at ℚ p
      (at base xs (R.neg a) s g f)
  unfolding Each evaluate sum_over
  turned_value xs a s f g [] k = refl
  turned_value xs a s f g (t ∷ p) k =
      let x = key_of (length base) t.0 in
      let n = top t.0 in
      let l = tail (length base) t.0 in
      let h : Room base t = room base m t k.0 in
      ap₂ R.add
      (with_parts R base xs a s f g (inverse_form_sign n t.1) n (x.0, x.2, x.1) l h.1 h.0
      ∙ iteration (inverse_form_sign n t.1) (monomial_at (operations R) xs l)
      (power (operations R) a n)
      (power (operations R) s x.0) (monomial_at (operations R) (map f base) x.2)
      (monomial_at (operations R) (map g base) x.1)
      ∙ ap (λ z.
      R.mul z (R.mul (monomial_at (operations R) xs l) (R.mul (power (operations R) s x.0)
      (R.mul (monomial_at (operations R) (map g base) x.1)
      (monomial_at (operations R) (map f base) x.2))))) (sign_value n t.1 a)
      ∙ sym (back t.1 (monomial_at (operations R) xs l) (power (operations R) (R.neg a) n)
      (power (operations R) s x.0) (monomial_at (operations R) (map g base) x.1)
      (monomial_at (operations R) (map f base) x.2))
      ∙ sym (term_parts R base xs (R.neg a) s g f t.1 t.0))
      (turned_value xs a s f g p k.1)
    where
      iteration : (c y a s u v : Fraction) → R.mul (R.mul c y) (R.mul a (R.mul s (R.mul u v)))
          ≡ R.mul (R.mul c a) (R.mul y (R.mul s (R.mul v u)))
      iteration c y a s u v = ring R (c ∷ y ∷ a ∷ s ∷ u ∷ v ∷ []) (search ring_rules depth 40) refl

      back : (c y a s u v : Fraction) → R.mul (R.mul c y) (R.mul a (R.mul s (R.mul u v)))
          ≡ R.mul (R.mul c a) (R.mul y (R.mul s (R.mul u v)))
      back c y a s u v = ring R (c ∷ y ∷ a ∷ s ∷ u ∷ v ∷ []) (search ring_rules depth 40) refl

  pub back-value : (p : Terms Fraction) → Arity w p → (n : ℕ) (s : List Fraction)
      → value_at ℚ (inverse_form_terms (length base) p) (point base n s) ≡ value_at ℚ p
      (back_point base n s)
  back-value p k n s = turned_value s (whole (pos n)) (power ℚ (whole (negsuc 0)) n)
      (λ b. power ℚ (whole (pos b)) n) (λ b. power ℚ (inverse (whole (pos b))) n) p k

  -- ---- n at n iterations, 0 and one more
  pub iteration-value : (p : Terms Fraction) (n : ℕ) (s : List Fraction) → length s ≡ m
      → value_at ℚ (at_iteration base m n p) s ≡ value_at ℚ p (point base n s)
  iteration-value p n s l =
      value_at-compose R m p (map (constant m) (point base n []) ++ variables ℚ m) s
      ∙ ap (value_at ℚ p) (map-append (λ q. value_at ℚ q s) (map (constant m) (point base n []))
      (variables ℚ m) ∙ ap₂ ◌++◌ (values_at-constants R m (point base n []) s)
      (value_at-variables R m s l) ∙ point-append base n s)

  pub zero-value : (p : Terms Fraction) (s : List Fraction) → length s ≡ m
      → value_at ℚ (compose ℚ m p (zero_images (length base) m)) s ≡ value_at ℚ p (point base 0 s)
  unfolding power
  zero-value p s l =
      value_at-compose R m p (zero_images (length base) m) s
      ∙ ap (value_at ℚ p)
      (ap₂ ◌∷◌ (value_at-nil R s) (ap₂ ◌∷◌ (value_at-constant R m (whole (pos 1)) s)
      (ones base _ ∙ ap (λ z. map (λ b. whole (pos 1)) base ++ z) (ones base (variables ℚ m)
      ∙ ap (λ z. map (λ b. whole (pos 1)) base ++ z) (value_at-variables R m s l)))))
    where
      ones : (bs : List ℕ) (qs : List (Terms Fraction))
          → map (λ q. value_at ℚ q s) (replicate (length bs) (constant m (whole (pos 1))) ++ qs)
          ≡ map (λ b. whole (pos 1)) bs ++ map (λ q. value_at ℚ q s) qs
      ones [] qs = refl
      ones (b ∷ bs) qs = ap₂ ◌∷◌ (value_at-constant R m (whole (pos 1)) s) (ones bs qs)

  next_images-is : next_images base m ≡ Back.next_images F fraction_char0 base c m
  next_images-is = ap (λ (f : ℕ → Fraction). later (lists ℚ w) base (λ b. constant w (f b))
      (λ b. constant w (inverse (f b))) (variables ℚ w)) (fun_ext (λ b. sym (of_nat-whole b)))

  pub next-value : (p : Terms Fraction) (n : ℕ) (s : List Fraction) → length s ≡ m
      → value_at ℚ (compose ℚ w p (next_images base m)) (point base n s) ≡ value_at ℚ p
      (point base (suc n) s)
  next-value p n s l =
      ap₂ (λ l z. value_at ℚ (compose ℚ w p l) z) next_images-is (point-is base n s)
      ∙ Back.next-is F fraction_char0 base c m p n s l
      ∙ ap (value_at ℚ p) (sym (point-is base (suc n) s))

  pub normal-value : (p : Terms Fraction) → Arity w p → (n : ℕ) (s : List Fraction)
      → value_at ℚ (with_normal_keys (length base) p) (point base n s) ≡ value_at ℚ p
      (point base n s)
  normal-value p k n s =
      ap (value_at ℚ (with_normal_keys (length base) p)) (point-is base n s)
      ∙ normalized-value base m R s (of_nat R n) (power (operations R) (R.neg R.one) n)
      (λ b. power (operations R) (of_nat R b) n)
      (λ b. power (operations R) (F.inverse (of_nat R b)) n)
      (natural_unit F fraction_char0 R (id_hom R) base c s n) p k
      ∙ ap (value_at ℚ p) (sym (point-is base n s))
