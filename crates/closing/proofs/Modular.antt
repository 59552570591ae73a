-- Maps modulo a number, place by place.
--   zip_more, images_more, some_item     one item after another
--   term_modulo         a term with a residue
--   no_residues         a polynomial with a term whose denominator has no inverse
--   images_modulo       what has residues of polynomials that stand for images
--   branches_modulo     so of those of the branches
--   start_undefined, branches_undefined     an image without residues is one of the program's
use Rattle.std.proofs.Common.{◌≡◌, inl, inr, ℕ, zero, suc, ◌+◌, ◌<◌, ℤ, pos, List, [], ◌∷◌, ◌++◌, map, take, get_or, length, refl, sym, ap, subst, ◌∙◌, arith}
use Rattle.std.proofs.lemmas.List.{map_push, take_more}
use Rattle.std.specs.List.{AllZip, Any}
use Rattle.std.specs.Global.{Vec}
use Rattle.algebra.specs.In.{In}
use Rattle.algebra.proofs.In.{in_get, map-in}
use Rattle.algebra.specs.Fraction.{Fraction, ℚ}
use Rattle.algebra.proofs.Fractions.{ℚ_field}
use Rattle.polynomials.specs.Terms.{Terms, coefficient}
use Rattle.polynomials.specs.Order.{grevlex}
use Rattle.polynomials.proofs.Orders.{grevlex_order}
use Rattle.machines.proofs.Cofactors.{coefficient_of}
use Rattle.loops.specs.Program.{Expr, Program, Statement}
use Rattle.loops.specs.Map.{start_map, branch_map}
use Rattle.closures.specs.Modulo.{HasPivot, IsResidueOf}
use Rattle.frac128.specs.declared.fraction.Frac.{Frac}
use Rattle.frac128.specs.FracMeaning.{fraction_of}
use Rattle.poly.specs.declared.Term.{Term}
use Rattle.poly.specs.View.{term_of}
use Rattle.poly.specs.Seen.{terms_in, terms_each}
use Rattle.poly.specs.Standing.{AllStandFor}
use Rattle.poly.proofs.Standing.{polynomial_over}
use Rattle.loop_model.specs.FracPoly.{FracPoly}
use Rattle.loop_model.specs.Maps.{AreBranchMaps}
use Rattle.residue_rows.specs.Modulus.{modulus}
use Rattle.residue_rows.specs.Numbers.{number_of}
use Rattle.residue_rows.specs.declared.residue.Residue.{Residue}
use Rattle.closing.specs.Modulo.{IsTermModulo, AreTermsModulo, IsPolynomialModulo, HasNoResidues, HasNoMapsModulo}
use Rattle.closing.specs.Maps.{modular_terms_each, IsMapModulo, IsBranchModulo}
use Rattle.closing.specs.declared.modular_maps.ResiduePolynomial.{ResiduePolynomial}

-- ---- one item after another
zip_push : {A B : Type 0} (R : A → B → Type 0) (xs : List A) (ys : List B) (x : A) (y : B)
    → AllZip R xs ys → R x y → AllZip R (xs ++ x ∷ []) (ys ++ y ∷ [])
zip_push R [] [] x y h r = (r, tt)
zip_push R [] (z ∷ ys) x y h r = absurd h
zip_push R (z ∷ xs) [] x y h r = absurd h
zip_push R (z ∷ xs) (w ∷ ys) x y h r = (h.0, zip_push R xs ys x y h.1 r)

pub zip_more : {A B : Type 0} (R : A → B → Type 0) (xs : List A) (row : List B) {more : List B}
    (i : ℕ) (x : A) (y : B)
    → i < length xs → x ≡ get_or xs i x → AllZip R (take i xs) row → R x y → more ≡ row ++ y ∷ []
    → AllZip R (take (i + 1) xs) more
zip_more R xs row i x y l is before r e =
    subst (AllZip R (take (i + 1) xs)) (sym e)
    (subst (λ zs. AllZip R zs (row ++ y ∷ []))
    (ap (λ z. take i xs ++ z ∷ []) is ∙ sym (take_more xs i x l))
    (zip_push R (take i xs) row x y before r))

pub images_more : {X Y A B : Type 0} (R : A → B → Type 0) (f : X → A) (g : Y → B) (xs : List X)
    (row : List Y) {more : List Y} (i : ℕ) {x : X} (y : Y)
    → i < length xs → x ≡ get_or xs i x → AllZip R (map f (take i xs)) (map g row) → R (f x) (g y)
    → more ≡ row ++ y ∷ [] → AllZip R (map f (take (i + 1) xs)) (map g more)
images_more R f g xs row i {x = x} y l is before r e =
    subst (λ zs. AllZip R (map f (take (i + 1) xs)) zs) (sym (ap (map g) e ∙ map_push g row y))
    (subst (λ zs. AllZip R zs (map g row ++ g y ∷ []))
    (ap (λ z. map f (take i xs) ++ f z ∷ []) is ∙ sym (map_push f (take i xs) (get_or xs i x))
    ∙ ap (map f) (sym (take_more xs i x l)))
    (zip_push R (map f (take i xs)) (map g row) (f x) (g y) before r))

pub some_item : {X : Type 0} (P : X → Type 0) (xs : List X) (i : ℕ) {x : X} → i < length xs
    → x ≡ get_or xs i x → P x → Any P xs
some_item P xs i {x = x} l is h = (i, x, l, sym is, h)

module _ (q : ℤ) where
  pub term_modulo : (x : Term Frac) (y : Term Residue) → y.mono ≡ x.mono
      → IsResidueOf q (fraction_of x.coef) (number_of y.coef)
      → IsTermModulo q (term_of fraction_of x) (term_of number_of y)
  term_modulo x y e r = record { monomial = e; number = r }

  pub no_residues : (p : FracPoly) (i : ℕ) (x : Term Frac) → i < length p.terms.items
      → x ≡ get_or p.terms.items i x → (HasPivot q (pos (fraction_of x.coef).den) → ⊥)
      → HasNoResidues q (terms_in p)
  no_residues p i x l is none =
      let t = term_of fraction_of x in
      let among : In t (terms_in p) =
      map-in (term_of fraction_of) p.terms.items x
      (subst (λ y. In y p.terms.items) (sym is) (in_get p.terms.items i x l)) in
      record {
        monomial = x.mono;
        none =
            subst (λ f. HasPivot q (pos f.den) → ⊥)
            (sym (coefficient_of ℚ_field grevlex grevlex_order p.arity t (terms_in p) among
            (polynomial_over p.arity p refl).falls)) none;
      }

  pub images_modulo : (m : ℕ) (ps : List FracPoly) (images : List (Terms Fraction))
      (rs : List (Terms ℤ)) → AllStandFor m ps images
      → AllZip (AreTermsModulo q) (terms_each ps) rs → AllZip (IsPolynomialModulo q) images rs
  images_modulo m [] [] [] a h = tt
  images_modulo m [] [] (r ∷ rs) a h = absurd h
  images_modulo m [] (x ∷ images) rs a h = absurd a
  images_modulo m (p ∷ ps) [] rs a h = absurd a
  images_modulo m (p ∷ ps) (x ∷ images) [] a h = absurd h
  images_modulo m (p ∷ ps) (x ∷ images) (r ∷ rs) a h = (
    record { terms = terms_in p; is = a.0.same; residues = h.0 },
    images_modulo m ps images rs a.1 h.1,
  )

  abbrev IsUndefined : FracPoly → Type 0
  IsUndefined p = HasNoResidues q (terms_in p)

  undefined_image : (m : ℕ) (ps : List FracPoly) (images : List (Terms Fraction))
      → AllStandFor m ps images → Any IsUndefined ps
      → (x : Terms Fraction) × In x images × HasNoResidues q x
  undefined_image m [] images a (i, d, l, e, h) = absurd (omega (arith, l))
  undefined_image m (p ∷ ps) [] a h = absurd a
  undefined_image m (p ∷ ps) (x ∷ images) a (zero, d, l, e, h) = (
    x,
    inl refl,
    record {
      monomial = h.monomial;
      none =
          subst (λ f. HasPivot q (pos f.den) → ⊥)
          (ap (λ y. coefficient ℚ (terms_in y) h.monomial) (sym e) ∙ a.0.same.at h.monomial) h.none;
    },
  )
  undefined_image m (p ∷ ps) (x ∷ images) a (suc i, d, l, e, h) =
      let (y, k, n) = undefined_image m ps images a.1 (i, d, omega (arith, l), e, h) in
      (y, inr k, n)

  module _ (program : Program (Expr ℕ)) where
    pub start_undefined : (ps : List FracPoly)
        → AllStandFor (length program.names) ps (start_map program)
        → Any (λ p. HasNoResidues q (terms_in p)) ps → HasNoMapsModulo program q
    start_undefined ps a h =
        let (x, i, n) = undefined_image (length program.names) ps (start_map program) a h in
        record { image = x; is = inl i; none = n }

    undefined_branch : (maps : List (Vec FracPoly)) (bs : List (List (Statement (Expr ℕ))))
        → AreBranchMaps program maps bs → Any (λ map. Any IsUndefined map.items) maps
        → (b : List (Statement (Expr ℕ))) × In b bs × (x : Terms Fraction)
        × In x (branch_map program b) × HasNoResidues q x
    undefined_branch [] bs a (i, d, l, e, h) = absurd (omega (arith, l))
    undefined_branch (map ∷ maps) [] a h = absurd a
    undefined_branch (map ∷ maps) (b ∷ bs) a (zero, d, l, e, h) =
        let (x, i, n) =
        undefined_image (length program.names) map.items (branch_map program b) a.0
        (subst (λ (v : Vec FracPoly). Any IsUndefined v.items) (sym e) h) in
        (b, inl refl, x, i, n)
    undefined_branch (map ∷ maps) (b ∷ bs) a (suc i, d, l, e, h) =
        let (c, k, x, j, n) = undefined_branch maps bs a.1 (i, d, omega (arith, l), e, h) in
        (c, inr k, x, j, n)

    pub branches_undefined : (maps : List (Vec FracPoly))
        → AreBranchMaps program maps program.branches
        → Any (λ map. Any (λ p. HasNoResidues q (terms_in p)) map.items) maps
        → HasNoMapsModulo program q
    branches_undefined maps a h =
        let (b, k, x, i, n) = undefined_branch maps program.branches a h in
        record { image = x; is = inr (b, k, i); none = n }

pub branches_modulo : (program : Program (Expr ℕ)) (maps : List (Vec FracPoly))
    (bs : List (List (Statement (Expr ℕ)))) (rs : List (Vec ResiduePolynomial))
    → AreBranchMaps program maps bs → AllZip IsMapModulo maps rs
    → AllZip (IsBranchModulo program) bs rs
branches_modulo program [] [] [] a h = tt
branches_modulo program [] [] (r ∷ rs) a h = absurd h
branches_modulo program [] (b ∷ bs) rs a h = absurd a
branches_modulo program (map ∷ maps) [] rs a h = absurd a
branches_modulo program (map ∷ maps) (b ∷ bs) [] a h = absurd h
branches_modulo program (map ∷ maps) (b ∷ bs) (r ∷ rs) a h = (
  images_modulo (pos modulus) (length program.names) map.items (branch_map program b)
      (modular_terms_each r.items) a.0 h.0,
  branches_modulo program maps bs rs a.1 h.1,
)
