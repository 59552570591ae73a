-- The forms of the branches as the code makes them.
--   bodies_terms, bodies_over     the polynomials of a form
--   base_size                     how many numbers a base has
--   form_fits                     a form
--   last_of, but_last             what holds of a list and of one more, holds of them
use Rattle.std.proofs.Common.{◌≡◌, ℕ, List, [], ◌∷◌, ◌++◌, map, length, refl, sym, ap, subst, ◌∙◌, arith, ap₂}
use Rattle.std.specs.Global.{Vec}
use Rattle.std.specs.List.{All}
use Rattle.std.specs.Prelude.{vec_len, unsigned_abs}
use Rattle.std.proofs.lemmas.List.{length-map}
use Rattle.std.proofs.lemmas.List.Elements.{All-nil, All-cons, All-head, All-tail}
use Rattle.solvable_maps.specs.Iterations.{width}
use Rattle.frac128.specs.declared.Whole.{Whole}
use Rattle.poly.specs.Seen.{terms_in, terms_each}
use Rattle.coprime_base.specs.Sizes.{sizes}
use Rattle.loop_model.specs.FracPoly.{FracPoly}
use Rattle.expo.specs.declared.exponential.Expo.{Expo}
use Rattle.closed_forms.specs.Values.{bodies_of, IsExpoOver, AreOver}
use Rattle.task_lists.specs.Images.{ArePolys, IsFormOver}
use Rattle.task_lists.specs.declared.parts.FullForm.{FullForm}
use Rattle.invariant_fix.specs.Setting.{FitsBranch}
use Rattle.invariant_fix.specs.declared.branches.Branch.{Branch}

abbrev pub polys_of : List Expo → List FracPoly
polys_of es = map (λ (e : Expo). e.body) es

pub bodies_terms : (es : List Expo) → terms_each (polys_of es) ≡ bodies_of es
bodies_terms [] = refl
bodies_terms (e ∷ es) = ap (λ ts. terms_in e.body ∷ ts) (bodies_terms es)

pub bodies_over : (base : List ℕ) (m : ℕ) (es : List Expo) → AreOver base m es
    → All (λ (p : FracPoly). p.arity ≡ width (length base) m) (polys_of es)
bodies_over base m [] a = All-nil (λ (p : FracPoly). p.arity ≡ width (length base) m)
bodies_over base m (e ∷ es) a =
    let h : IsExpoOver base m e = All-head (IsExpoOver base m) e es a in
    All-cons (λ (p : FracPoly). p.arity ≡ width (length base) m) e.body (polys_of es)
    (e.arity ∙ ap₂ (λ (bs : List ℕ) (n : ℕ). width (length bs) n) h.over_base h.over_vars)
    (bodies_over base m es (All-tail (IsExpoOver base m) e es a))

pub base_size : (v : Vec Whole) → length (sizes v.items) ≡ vec_len v
base_size v = let a = length-map v.items (λ (w : Whole). unsigned_abs w.value) in let b = v.ok.0 in
    omega (arith, a, b)

pub form_fits : (m : ℕ) (c : Branch) (f : FullForm) → FitsBranch m c → f.base ≡ c.form.base
    → ArePolys (width (length (sizes c.form.base.items)) m) f.polys → IsFormOver m f
form_fits m c f fits same polys =
    let size : length (sizes c.form.base.items) ≡ vec_len f.base =
    base_size c.form.base ∙ sym (ap vec_len same) in
    record {
      few = (let a = fits.short in omega (arith, a, size));
      polys = subst (λ n. ArePolys (width n m) f.polys) size polys;
    }

module _ {X : Type 0} (P : X → Type 0) where
  pub but_last : (xs : List X) (x : X) → All P (xs ++ x ∷ []) → All P xs
  but_last [] x a = All-nil P
  but_last (y ∷ xs) x a = All-cons P y xs (All-head P y (xs ++ x ∷ []) a)
      (but_last xs x (All-tail P y (xs ++ x ∷ []) a))

  pub last_of : (xs : List X) (x : X) → All P (xs ++ x ∷ []) → P x
  last_of [] x a = All-head P x [] a
  last_of (y ∷ xs) x a = last_of xs x (All-tail P y (xs ++ x ∷ []) a)
