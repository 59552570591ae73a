-- A map has one closed form, from whatever number of iterations on, and the form made backward gives back what it is at 0.
--   next_back_value, back_point_zero     one more at -n - 1 is -n, and -0 is 0;  next_images-is: the images for one more are those over the field
--   before-value           what is made with one less for n
--   all_values             polynomials with the same values from some n on have them at each n
--   forms_one              two closed forms of one map are one, whatever they hold from
--   back_to_zero           the values at -n, at the state after n iterations, are those at 0
--   inverse_form_to_zero       so for the form with -n for n, and u and v exchanged, at n
--   back_is_inverse        from 0 on it is the state before
--   start_of, on_from      at n the form is what it is at 0 at the state after n iterations; where it is the state once, it stays the state
use Rattle.std.proofs.Common.{◌≡◌, ℕ, suc, ◌+◌, pos, List, [], ◌∷◌, ◌++◌, map, length, replicate, refl, sym, ap, ap₂, subst, ◌∙◌, arith}
use Rattle.std.proofs.lemmas.List.{length-replicate}
use mathlib.Core.Path.{fun_ext}
use Rattle.exponentials.specs.Base.{Coprime}
use Rattle.exponentials.proofs.Unique.{fraction_char0}
use Rattle.algebra.specs.Each.{Each}
use Rattle.algebra.specs.Ring.{Field}
use Rattle.algebra.specs.Fraction.{Fraction, ℚ, whole, opposite, inverse}
use Rattle.algebra.proofs.Wholes.{of_nat-whole}
use Rattle.algebra.proofs.Fractions.{ℚ_ring, ℚ_field}
use Rattle.algebra.specs.Arithmetic.{power}
use Rattle.algebra.proofs.RingLaws as L
use Rattle.polynomials.specs.Order.{Rank, IsMonomialOrder}
use Rattle.polynomials.specs.Terms.{Terms, constant, variables, lists, value_at, compose}
use Rattle.polynomials.specs.Polynomial.{Arity, AllArity}
use Rattle.polynomials.proofs.Arity.{arity-compose}
use Rattle.solvable_maps.specs.Shifts.{later}
use Rattle.solvable_maps.specs.Expo.{next_images, inverse_form_terms, one_before}
use Rattle.solvable_maps.proofs.Back as Back
use Rattle.solvable_maps.specs.Iterations.{powers, inverses, sign, point, back_point, values_at, iterations, width, IsNormalForm, IsClosedFormFrom, IsClosedForm}
use Rattle.solvable_maps.proofs.Numbers.{point-is, back_point-is, closed_form_is, one_form}
use Rattle.solvable_maps.proofs.Operations.{turned_value, back-value}

abbrev F : Field Fraction
F = ℚ_field

module _ (base : List ℕ) (c : Coprime base) where
  -- ---- one more at -n - 1, and -0
  pub next_images-is : (m : ℕ) → next_images base m ≡ Back.next_images F fraction_char0 base c m
  next_images-is m = ap (λ (f : ℕ → Fraction). later (lists ℚ (width (length base) m)) base
      (λ b. constant (width (length base) m) (f b)) (λ b. constant (width (length base) m)
      (inverse (f b))) (variables ℚ (width (length base) m)))
      (fun_ext (λ b. sym (of_nat-whole b)))

  pub next_back_value : (m : ℕ) (p : Terms Fraction) (n : ℕ) (s : List Fraction) → length s ≡ m
      → value_at ℚ (compose ℚ (width (length base) m) p (next_images base m))
      (back_point base (suc n) s) ≡ value_at ℚ p (back_point base n s)
  next_back_value m p n s l =
      ap₂ (λ l z. value_at ℚ (compose ℚ (width (length base) m) p l) z) (next_images-is m)
      (back_point-is base c m (suc n) s)
      ∙ Back.next_at_back F fraction_char0 base c m p n s l
      ∙ ap (value_at ℚ p) (sym (back_point-is base c m n s))

  pub back_point_zero : (m : ℕ) (s : List Fraction) → back_point base 0 s ≡ point base 0 s
  back_point_zero m s = back_point-is base c m 0 s ∙ Back.zero_back F fraction_char0 base c m s
      ∙ sym (point-is base 0 s)

  -- ---- one less for n
  pub next_arity : (m : ℕ) → AllArity (width (length base) m) (next_images base m)
  next_arity m = subst (AllArity (width (length base) m)) (sym (next_images-is m))
      (Back.arity_next F fraction_char0 base c m)

  twice_back : (m : ℕ) (p : Terms Fraction) → Arity (width (length base) m) p
      → (n : ℕ) (s : List Fraction)
      → value_at ℚ (inverse_form_terms (length base) p) (back_point base n s) ≡ value_at ℚ p
      (point base n s)
  twice_back m p a n s =
      turned_value base c m s (opposite (whole (pos n))) (sign n)
      (λ b. power ℚ (inverse (whole (pos b))) n) (λ b. power ℚ (whole (pos b)) n) p a
      ∙ ap (λ x. value_at ℚ p (x ∷ sign n ∷ (powers base n ++ (inverses base n ++ s))))
      (L.neg-neg ℚ_ring (whole (pos n)))

  pub before-value : (m : ℕ) (p : Terms Fraction) → Arity (width (length base) m) p
      → (n : ℕ) (s : List Fraction) → length s ≡ m
      → value_at ℚ (one_before base m p) (point base (suc n) s) ≡ value_at ℚ p (point base n s)
  before-value m p a n s l =
      let w = width (length base) m in
      back-value base c m (compose ℚ w (inverse_form_terms (length base) p) (next_images base m))
      (arity-compose w ℚ (inverse_form_terms (length base) p) (next_images base m) (next_arity m))
      (suc n)
      s
      ∙ next_back_value m (inverse_form_terms (length base) p) n s l
      ∙ twice_back m p a n s

  -- ---- what agrees from some n on
  pub all_values : (m d : ℕ) (p q : Terms Fraction) (s : List Fraction) → length s ≡ m
      → ((n : ℕ) → value_at ℚ p (point base (d + n) s) ≡ value_at ℚ q (point base (d + n) s))
      → (n : ℕ) → value_at ℚ p (point base n s) ≡ value_at ℚ q (point base n s)
  all_values m d p q s l h n =
      ap (value_at ℚ p) (point-is base n s)
      ∙ Back.same_from F fraction_char0 base c m d p q s l
      (λ k. ap (value_at ℚ p) (sym (point-is base (d + k) s)) ∙ h k
      ∙ ap (value_at ℚ q) (point-is base (d + k) s)) n
      ∙ ap (value_at ℚ q) (sym (point-is base n s))

  all_lists : (m d : ℕ) (ps qs : List (Terms Fraction)) (s : List Fraction) → length s ≡ m
      → ((n : ℕ) → values_at ps (point base (d + n) s) ≡ values_at qs (point base (d + n) s))
      → (n : ℕ) → values_at ps (point base n s) ≡ values_at qs (point base n s)
  all_lists m d [] [] s l h n = refl
  all_lists m d [] (q ∷ qs) s l h n = absurd (let e = ap length (h 0) in omega (arith, e))
  all_lists m d (p ∷ ps) [] s l h n = absurd (let e = ap length (h 0) in omega (arith, e))
  all_lists m d (p ∷ ps) (q ∷ qs) s l h n = ap₂ ◌∷◌
      (all_values m d p q s l (λ k. let e : value_at ℚ p (point base (d + k) s) ∷ values_at ps
      (point base (d + k) s) ≡ value_at ℚ q (point base (d + k) s) ∷ values_at qs
      (point base (d + k) s) = h k in cc) n)
      (all_lists m d ps qs s l (λ k. let e : value_at ℚ p (point base (d + k) s) ∷ values_at ps
      (point base (d + k) s) ≡ value_at ℚ q (point base (d + k) s) ∷ values_at qs
      (point base (d + k) s) = h k in cc) n)

  -- ---- one form
  lists_one : (O : Rank) → IsMonomialOrder O → (m : ℕ) (ps qs : List (Terms Fraction))
      → Each (IsNormalForm base O m) ps → Each (IsNormalForm base O m) qs
      → ((n : ℕ) (s : List Fraction) → length s ≡ m → values_at ps (point base n s) ≡ values_at qs
      (point base n s)) → ps ≡ qs
  unfolding Each
  lists_one O o m [] [] a b e = refl
  lists_one O o m [] (q ∷ qs) a b e =
      absurd (let h : [] ≡ values_at (q ∷ qs) (point base 0 (replicate m ℚ.zero)) =
      e 0 (replicate m ℚ.zero) (length-replicate m ℚ.zero) in let l = ap length h in omega arith)
  lists_one O o m (p ∷ ps) [] a b e =
      absurd (let h : values_at (p ∷ ps) (point base 0 (replicate m ℚ.zero)) ≡ [] =
      e 0 (replicate m ℚ.zero) (length-replicate m ℚ.zero) in let l = ap length h in omega arith)
  lists_one O o m (p ∷ ps) (q ∷ qs) a b e = ap₂ ◌∷◌
      (one_form base c O o m p q a.0.polynomial b.0.polynomial a.0.normal b.0.normal (λ n s l.
      (let h : value_at ℚ p (point base n s) ∷ values_at ps (point base n s) ≡ value_at ℚ q
      (point base n s) ∷ values_at qs (point base n s) = e n s l in cc)))
      (lists_one O o m ps qs a.1 b.1 (λ n s l.
      (let h : value_at ℚ p (point base n s) ∷ values_at ps (point base n s) ≡ value_at ℚ q
      (point base n s) ∷ values_at qs (point base n s) = e n s l in cc)))

  pub forms_one : (O : Rank) → IsMonomialOrder O
      → (images : List (Terms Fraction)) (since other : ℕ) (ps qs : List (Terms Fraction))
      → Each (IsNormalForm base O (length images)) ps → Each (IsNormalForm base O (length images))
      qs
      → IsClosedFormFrom base images since ps → IsClosedFormFrom base images other qs → ps ≡ qs
  forms_one O o images since other ps qs a b f g = lists_one O o (length images) ps qs a b
      (λ n s l. all_lists (length images) (since + other) ps qs s l
      (λ k. f.values (since + other + k) s l (omega arith)
      ∙ sym (g.values (since + other + k) s l (omega arith))) n)

  pub back_to_zero : (images : List (Terms Fraction)) (since : ℕ) (ps : List (Terms Fraction))
      → IsClosedFormFrom base images since ps → (n : ℕ) (s : List Fraction)
      → length s ≡ length images
      → values_at ps (back_point base n (iterations images n s)) ≡ values_at ps (point base 0 s)
  back_to_zero images since ps form n s l =
      ap (values_at ps) (back_point-is base c (length images) n (iterations images n s))
      ∙ Back.back_to_start F fraction_char0 base c (length images) since images ps refl
      (closed_form_is base c images since ps form) n s l
      ∙ ap (values_at ps) (sym (point-is base 0 s))

  inverse_form_values : (m : ℕ) (ps : List (Terms Fraction)) → AllArity (width (length base) m) ps
      → (n : ℕ) (s : List Fraction) → values_at (map (inverse_form_terms (length base)) ps)
      (point base n s) ≡ values_at ps (back_point base n s)
  unfolding Each
  inverse_form_values m [] a n s = refl
  inverse_form_values m (p ∷ ps) a n s = ap₂ ◌∷◌ (back-value base c m p a.0 n s)
      (inverse_form_values m ps a.1 n s)

  pub inverse_form_to_zero : (images : List (Terms Fraction)) (since : ℕ)
      (ps : List (Terms Fraction))
      → IsClosedFormFrom base images since ps → (n : ℕ) (s : List Fraction)
      → length s ≡ length images
      → values_at (map (inverse_form_terms (length base)) ps) (point base n (iterations images n s))
      ≡ values_at ps (point base 0 s)
  inverse_form_to_zero images since ps form n s l = inverse_form_values (length images) ps
      form.arity n
      (iterations images n s) ∙ back_to_zero images since ps form n s l

  pub back_is_inverse : (images ps : List (Terms Fraction)) → IsClosedForm base images ps
      → (n : ℕ) (s : List Fraction) → length s ≡ length images
      → values_at ps (back_point base n (iterations images n s)) ≡ s
  back_is_inverse images ps form n s l = back_to_zero images 0 ps form n s l
      ∙ form.values 0 s l (omega arith)

  -- ---- the form at 0, and where it begins to be the state
  pub start_of : (images : List (Terms Fraction)) (since : ℕ) (ps : List (Terms Fraction))
      → IsClosedFormFrom base images since ps → (n : ℕ) (s : List Fraction)
      → length s ≡ length images
      → values_at ps (point base n s) ≡ values_at ps (point base 0 (iterations images n s))
  start_of images since ps form n s l =
      ap (values_at ps) (point-is base n s)
      ∙ Back.at_start F fraction_char0 base c (length images) since images ps refl
      (closed_form_is base c images since ps form) n s l
      ∙ ap (values_at ps) (sym (point-is base 0 (iterations images n s)))

  pub on_from : (images : List (Terms Fraction)) (since : ℕ) (ps : List (Terms Fraction))
      → IsClosedFormFrom base images since ps → (d : ℕ)
      → ((s : List Fraction) → length s ≡ length images → values_at ps (point base d s)
      ≡ iterations images d s) → IsClosedFormFrom base images d ps
  on_from images since ps form d h = record {
    arity = form.arity;
    values = λ n s l k.
        ap (values_at ps) (point-is base n s)
        ∙ (Back.goes_on F fraction_char0 base c (length images) since images ps refl
        (closed_form_is base c images since ps form) d (λ x k.
        ap (values_at ps) (sym (point-is base d x)) ∙ h x k)).is n s l k;
  }
