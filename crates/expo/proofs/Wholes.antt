-- The numbers of a base, at a place.
--   item_above, item_nonzero     each is above 1, so it isn't zero, nor is its inverse
--   numbers_from                 what is made of their sizes, from a place on
--   numbers_count                as many as there are
use Rattle.std.proofs.Common.{◌≡◌, ◌≢◌, ◌<◌, ℕ, zero, suc, pos, Bool, true, false, List, [], ◌∷◌, map, length, drop, get_or, unsigned_abs, refl, sym, ap, subst, ◌∙◌, arith}
use Rattle.std.proofs.lemmas.List.{length-map}
use Rattle.algebra.proofs.FieldLaws as FL
use Rattle.algebra.specs.Fraction.{Fraction, ℚ, whole}
use Rattle.algebra.proofs.Fractions.{ℚ_field}
use Rattle.exponentials.specs.Base.{Coprime}
use Rattle.frac128.specs.declared.Whole.{Whole}
use Rattle.coprime_base.specs.Sizes.{sizes}
use Rattle.expo.specs.Images.{factor}
use Rattle.expo.proofs.Binomials.{some_natural}

size_above : (ws : List Whole) (i : ℕ) (d : Whole) → Coprime (sizes ws) → i < length ws
    → 1 < unsigned_abs (get_or ws i d).value
size_above [] i d c h = absurd (omega arith)
size_above (w ∷ ws) zero d c h = c.0
size_above (w ∷ ws) (suc i) d c h = size_above ws i d c.2 (omega arith)

drop_numbers : (k : ℕ → Fraction) (ws : List Whole) (i : ℕ) (d : Whole) → i < length ws
    → drop i (map k (sizes ws)) ≡ k (unsigned_abs (get_or ws i d).value) ∷ drop (suc i)
    (map k (sizes ws))
drop_numbers k [] i d h = absurd (omega arith)
drop_numbers k (w ∷ ws) zero d h = refl
drop_numbers k (w ∷ ws) (suc i) d h = drop_numbers k ws i d (omega arith)

pub numbers_count : (k : ℕ → Fraction) (ws : List Whole) → length ws ≡ length (map k (sizes ws))
numbers_count k ws = sym (length-map (sizes ws) k ∙ length-map ws _)

factor_nonzero : (inverted : Bool) (n : ℕ) (x : Fraction) → 0 < n → x ≡ factor inverted n
    → x ≢ ℚ.zero
factor_nonzero true n x h e z = FL.inverse-ne-zero ℚ_field (whole (pos n))
    (some_natural n (whole (pos n)) h refl) (sym e ∙ z)
factor_nonzero false n x h e z = some_natural n x h e z

-- ---- at a place, as the code reads them
module _ (ws : List Whole) (i : ℕ) (w : Whole) (h : i < length ws) (is : w ≡ get_or ws i w) where
  pub item_above : Coprime (sizes ws) → 1 < unsigned_abs w.value
  item_above c = subst (λ (v : Whole). 1 < unsigned_abs v.value) (sym is) (size_above ws i w c h)

  pub item_nonzero : (inverted : Bool) (x : Fraction) → Coprime (sizes ws)
      → x ≡ factor inverted (unsigned_abs w.value) → x ≢ ℚ.zero
  item_nonzero inverted x c e = let a = item_above c in
      factor_nonzero inverted (unsigned_abs w.value) x (omega (arith, a)) e

  pub numbers_from : (k : ℕ → Fraction) → drop i (map k (sizes ws)) ≡ k (unsigned_abs w.value)
      ∷ drop (suc i) (map k (sizes ws))
  numbers_from k = drop_numbers k ws i w h
      ∙ ap (λ (v : Whole). k (unsigned_abs v.value) ∷ drop (suc i) (map k (sizes ws))) (sym is)
