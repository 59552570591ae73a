-- What is found of a row of cofactors, in the words of the list that they are of.
--   row_is          the row at its place
--   like_images, over_images     polynomials like one of them
--   monic_each      monic polynomials aren't 0
--   past_at         where a combination is too wide, in other words
--   pair_is, pair_tells, pair_past     what is told of a pair, in other words
--   widths          rows of so many polynomials, as lists of terms
--   row_fits, row_has     one of them has as many as the list, and each of it has what all have
--   ok_holds, unless_err     what is known of a result that is well
use Rattle.std.proofs.Math.Path.{subst₃}
use Rattle.std.proofs.Common.{◌≡◌, ◌≢◌, ◌↔◌, ℕ, ◌<◌, Bool, List, [], length, get_or, map, refl, sym, ap, subst, subst₂, ◌∙◌, arith, IsTrue, Result, Ok, Err, true≢false}
use Rattle.std.specs.Prelude.{◌⊎◌, All, IfOk, OnOk, IsOk, IsErrOf, Vec, vec_len}
use Rattle.std.specs.declared.alloc.Global.{Global}
use Rattle.std.proofs.lemmas.List.{get_or-map, get_or_default, length-map}
use Rattle.std.specs.declared.cmp.PartialEq as PartialEq
use Rattle.algebra.specs.Fraction.{Fraction, ℚ, rationals, fractions}
use Rattle.polynomials.specs.Order.{Rank}
use Rattle.polynomials.specs.Terms.{Terms}
use Rattle.machines.specs.Cut.{lead_number}
use Rattle.machines.specs.Past.{IsPastPair}
use Rattle.ring_laws.specs.declared.Ring as Ring
use Rattle.monos.specs.declared.order.Order as Order
use Rattle.poly.specs.declared.Poly.{Poly}
use Rattle.poly.specs.Seen.{IsImage, terms_in, terms_each}
use Rattle.poly.specs.Standing.{IsInVariables}
use Rattle.ring_laws.specs.declared.ArithmeticError.{ArithmeticError}
use Rattle.ring_laws.specs.declared.ArithmeticError.TheVariants as arithmetic_error
use Rattle.task_lists.specs.Rows.{rows_of, HaveWidth}
use Rattle.corollaries.specs.Representation.{pairs_of, IsLcmRepresentation}
use Rattle.task_lists.specs.Past.{IsPastCombination}
use Rattle.task_lists.proofs.Combining.{place_in}
use Rattle.task_lists.proofs.Monic.{monic_some}
use Rattle.cert_checker.specs.StageParts.{IsMonicAt}

-- a row at its place among the rows, as lists of terms
module _ {X : Type 0} (see : X → List (Terms Fraction)) (rows : List X) (i : ℕ) {row : X}
    (within : i < length rows) (is : row ≡ get_or rows i row) where
  pub row_is : see row ≡ get_or (map see rows) i []
  row_is = (place_in see rows i within).1 row is

-- ---- polynomials of the code
module _ {K O : Type 0} {g : Ring.Ghosts K} {h : PartialEq.Ghosts K} {b : Order.Ghosts O}
    {e : PartialEq.Ghosts O} where
  pub like_images : {o : O} {m : ℕ} (p : Poly K O g h b e) (qs : List (Poly K O g h b e))
      → IsImage o m p → All (IsImage o m) qs → All (IsImage p.order p.arity) qs
  like_images p qs is all i d l = record {
    order = (all i d l).order ∙ sym is.order;
    arity = (all i d l).arity ∙ sym is.arity;
  }

  pub over_images : ((x y : O) → x ≡ y)
      → {m : ℕ} (p : Poly K O g h b e) (qs : List (Poly K O g h b e)) → IsInVariables m p
      → All (IsInVariables m) qs → All (IsImage p.order p.arity) qs
  over_images same p qs is all i d l = record { order = same _ _; arity = all i d l ∙ sym is }

pub monic_each : {X : Type 0} (see : X → Terms Fraction) (xs : List X)
    → ((i : ℕ) → i < length xs → IsMonicAt (map see xs) i) → All (λ x. see x ≢ []) xs
monic_each see xs h i d l = monic_some (see (get_or xs i d))
    (subst (λ p. lead_number rationals p ≡ ℚ.one) (get_or-map see xs i d [] l) (h i l))

-- ---- combinations
pub past_at : (found : Result Bool ArithmeticError) (qs : List (Terms Fraction))
    {rs : List (Terms Fraction)} (gs : List (Terms Fraction)) {ks : List (Terms Fraction)}
    → qs ≡ rs → gs ≡ ks → (IsErrOf found arithmetic_error.Wide → IsPastCombination qs gs)
    → IsErrOf found arithmetic_error.Wide → IsPastCombination rs ks
past_at found qs gs e f h w = subst₂ IsPastCombination e f (h w)

-- ---- pairs
pub pair_is : (all : List (ℕ × ℕ)) (m n i : ℕ) (a : ℕ × ℕ) → a ≡ get_or all i a → all ≡ pairs_of m
    → m ≡ n → i < length (pairs_of n) → a ≡ get_or (pairs_of n) i (0, 0)
pair_is all m n i a is e f l =
    let same : all ≡ pairs_of n = e ∙ ap pairs_of f in
    let within : i < length all = (let k = ap length same in omega (arith, l, k)) in
    is ∙ get_or_default all i a (0, 0) within ∙ ap (λ ps. get_or ps i (0, 0)) same

pub pair_tells : (found : Result Bool ArithmeticError) (O : Rank) (gs ks : List (Terms Fraction))
    (a : ℕ × ℕ) {c : ℕ × ℕ} (qs : List (Terms Fraction)) {rs : List (Terms Fraction)}
    → gs ≡ ks → a ≡ c → qs ≡ rs
    → IfOk found (λ t. IsTrue t ↔ IsLcmRepresentation rationals O gs a qs)
    → IfOk found (λ t. IsTrue t ↔ IsLcmRepresentation rationals O ks c rs)
pair_tells found O gs ks a qs e f k told = subst₃ (λ x y z. IfOk found (λ t. IsTrue t
    ↔ IsLcmRepresentation rationals O x y z)) e f k told

pub pair_past : (found : Result Bool ArithmeticError) (gs ks : List (Terms Fraction)) (a : ℕ × ℕ)
    {c : ℕ × ℕ} (qs : List (Terms Fraction)) {rs : List (Terms Fraction)}
    → gs ≡ ks → a ≡ c → qs ≡ rs
    → (IsErrOf found arithmetic_error.Wide → IsPastPair fractions rationals gs a ⊎ IsPastCombination
    qs gs)
    → IsErrOf found arithmetic_error.Wide
    → IsPastPair fractions rationals ks c ⊎ IsPastCombination rs ks
pair_past found gs ks a qs e f k past wide = subst₃ (λ x y z.
    IsPastPair fractions rationals x y ⊎ IsPastCombination z x) e f k (past wide)

-- ---- rows
module _ {K O : Type 0} {g : Ring.Ghosts K} {h : PartialEq.Ghosts K} {b : Order.Ghosts O}
    {e : PartialEq.Ghosts O} where
  pub widths : (rows : List (Vec (Poly K O g h b e) Global)) (n k : ℕ)
      → All (λ row. length row ≡ n) (rows_of rows) → n ≡ k → HaveWidth k rows
  widths rows n k all is i d l =
      let row = get_or rows i d in
      let size = row.ok.0 in
      let seen = length-map row.items terms_in in
      let at : length (get_or (rows_of rows) i []) ≡ length (terms_each row.items) =
      ap length (get_or-map (λ (r : Vec (Poly K O g h b e) Global). terms_each r.items) rows i d []
      l) in
      let long : i < length (rows_of rows) = (let m = length-map rows
      (λ (r : Vec (Poly K O g h b e) Global). terms_each r.items) in omega (arith, l, m)) in
      let width = all i [] long in
      size ∙ sym seen ∙ sym at ∙ width ∙ is

  module _ (rows : List (Vec (Poly K O g h b e) Global)) where
    pub row_fits : (list : Vec (Poly K O g h b e) Global)
        → All (λ row. length row ≡ length (terms_each list.items)) (rows_of rows)
        → (i : ℕ) {row : Vec (Poly K O g h b e) Global} → i < length rows → row ≡ get_or rows i row
        → {ps qs : List (Poly K O g h b e)} → ps ≡ row.items → qs ≡ list.items
        → length ps ≡ length qs
    row_fits list all i {row = row} l at is are =
        ap length is ∙ sym row.ok.0 ∙ subst (λ (r : Vec (Poly K O g h b e) Global). vec_len r
        ≡ vec_len list) (sym at) (widths rows _ (vec_len list) all
        (length-map list.items terms_in ∙ sym list.ok.0) i row l) ∙ list.ok.0 ∙ sym (ap length are)

    pub row_has : (P : Poly K O g h b e → Type 0)
        → All (λ (r : Vec (Poly K O g h b e) Global). All P r.items) rows
        → (i : ℕ) {row : Vec (Poly K O g h b e) Global} → i < length rows → row ≡ get_or rows i row
        → All P row.items
    row_has P all i {row = row} l at =
        subst (λ (r : Vec (Poly K O g h b e) Global). All P r.items) (sym at) (all i row l)

-- ---- results
pub ok_holds : {T E : Type 0} (P : Type 0) (r : Result T E) → IsOk r → OnOk r P → P
ok_holds P (Ok x) is h = h
ok_holds P (Err e) is h = absurd (true≢false (sym is))

pub unless_err : {T E : Type 0} (P : Type 0) (r : Result T E) → ((e : E) → r ≡ Err e → ⊥)
    → OnOk r P → P
unless_err P (Ok x) never h = h
unless_err P (Err e) never h = absurd (never e refl)
