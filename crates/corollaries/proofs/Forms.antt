-- A form that passes its identities is a closed form (specs/FormIdentities).
--   same_values            lists of the same polynomials have the same values
--   passing_is_closed      its values at n are n iterations of the map
use Rattle.std.proofs.Common.{◌≡◌, ℕ, zero, suc, List, [], ◌∷◌, map, length, refl, sym, ap, ap₂, subst, ◌∙◌}
use Rattle.algebra.specs.Fraction.{Fraction, ℚ}
use Rattle.algebra.proofs.Fractions.{ℚ_ring}
use Rattle.polynomials.specs.Terms.{Terms, AllSame, compose}
use Rattle.polynomials.specs.Polynomial.{AllArity}
use Rattle.polynomials.proofs.Arity.{arity-compose}
use Rattle.polynomials.proofs.ValueAt.{value_at_same, value_at-compose, value_at-variables}
use Rattle.solvable_maps.specs.Iterations.{point, width, values_at, iterations, IsClosedForm}
use Rattle.solvable_maps.specs.Expo.{with_normal_keys, next_images, zero_images}
use Rattle.solvable_maps.proofs.Operations.{zero-value, next-value, normal-value}
use Rattle.rounds.specs.Form.{Form}
use Rattle.corollaries.specs.FormIdentities.{IsRightForm}

same_values : (ps qs : List (Terms Fraction)) (s : List Fraction) → AllSame ℚ ps qs
    → values_at ps s ≡ values_at qs s
unfolding AllSame
same_values [] [] s h = refl
same_values [] (q ∷ qs) s h = absurd h
same_values (p ∷ ps) [] s h = absurd h
same_values (p ∷ ps) (q ∷ qs) s h =
    ap₂ ◌∷◌ (value_at_same ℚ_ring p q s h.0) (same_values ps qs s h.1)

module _ (images : List (Terms Fraction)) (m : ℕ) (size : length images ≡ m) (f : Form)
    (arity : AllArity (width (length f.base) m) f.polys) (passes : IsRightForm images m f) where
  abbrev r : ℕ
  r = length f.base

  abbrev w : ℕ
  w = width (length f.base) m

  at_zero : (ps : List (Terms Fraction)) (s : List Fraction) → length s ≡ m
      → values_at (map (λ p. compose ℚ m p (zero_images r m)) ps) s
      ≡ values_at ps (point f.base 0 s)
  at_zero [] s l = refl
  at_zero (p ∷ ps) s l = ap₂ ◌∷◌ (zero-value f.base passes.coprime m p s l) (at_zero ps s l)

  at_next : (ps : List (Terms Fraction)) (n : ℕ) (s : List Fraction) → length s ≡ m
      → values_at (map (λ p. compose ℚ w p (next_images f.base m)) ps) (point f.base n s)
      ≡ values_at ps (point f.base (suc n) s)
  at_next [] n s l = refl
  at_next (p ∷ ps) n s l = ap₂ ◌∷◌ (next-value f.base passes.coprime m p n s l) (at_next ps n s l)

  -- the map of the form at n
  at_map : (qs : List (Terms Fraction)) (n : ℕ) (s : List Fraction)
      → values_at (map (λ q. with_normal_keys r (compose ℚ w q f.polys)) qs) (point f.base n s)
      ≡ values_at qs (values_at f.polys (point f.base n s))
  at_map [] n s = refl
  at_map (q ∷ qs) n s =
      ap₂ ◌∷◌ (normal-value f.base passes.coprime m (compose ℚ w q f.polys)
      (arity-compose w ℚ q f.polys arity) n s
      ∙ value_at-compose ℚ_ring w q f.polys (point f.base n s)) (at_map qs n s)

  form_values : (n : ℕ) (s : List Fraction) → length s ≡ m
      → values_at f.polys (point f.base n s) ≡ iterations images n s
  form_values zero s l =
      sym (at_zero f.polys s l) ∙ same_values _ _ s passes.at_zero
      ∙ value_at-variables ℚ_ring m s l
  form_values (suc n) s l =
      sym (at_next f.polys n s l) ∙ sym (same_values _ _ (point f.base n s) passes.goes_on)
      ∙ at_map images n s ∙ ap (values_at images) (form_values n s l)

  pub passing_is_closed : IsClosedForm f.base images f.polys
  passing_is_closed = record {
    arity = subst (λ n. AllArity (width (length f.base) n) f.polys) (sym size) arity;
    values = λ n s l late. form_values n s (l ∙ size);
  }
