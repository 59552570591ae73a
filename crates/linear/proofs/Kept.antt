-- An `Rref` before and after a row, over what the code has.
use Rattle.std.proofs.Common.{◌≡◌, ◌<◌, ℕ, List, [], ◌∷◌, ◌++◌, length, All, true, false, IsTrue, refl, sym, ap, subst, ◌∙◌, Vec, Global}
use Rattle.algebra.specs.Each.{Each}
use Rattle.algebra.specs.Fraction.{Fraction}
use Rattle.vectors.specs.Adding.{lead, reduce_row, IsEchelonOf, IsCombinationOf}
use Rattle.std.proofs.lemmas.List.Elements.{All-nil, All-cons}
use Rattle.frac128.specs.declared.fraction.Frac.{Frac}
use Rattle.linear.specs.Rows.{fractions_of, rows_of}
use Rattle.linear.specs.View.{Echelon}
use Rattle.linear.specs.Parts.{IsAdded}
use Rattle.linear.proofs.Lists.{fractions-length}
use Rattle.linear.proofs.Echelon.{echelon_none, echelon_own, echelon_same, echelon_added, same_old, added_new, kept_leads}

all_of : {P : Vec Frac Global → Type 0} (Q : List Fraction → Type 0) (rows : List (Vec Frac Global))
    → ((v : Vec Frac Global) → Q (fractions_of v.items) → P v) → Each Q (rows_of rows) → All P rows
unfolding Each
all_of {P} Q [] f e = All-nil P
all_of {P} Q (v ∷ rows) f e = All-cons P v rows (f v e.0) (all_of Q rows f e.1)

pub kept_widths : {n m : ℕ} {rows slice : List (Vec Frac Global)} → m ≡ n → slice ≡ rows
    → IsEchelonOf n (rows_of rows) (rows_of rows) → All (λ v. length v.items ≡ m) slice
kept_widths {n = n} {m = m} {rows = rows} e q k =
    subst (λ (l : List (Vec Frac Global)). All (λ v. length v.items ≡ m) l) (sym q)
    (all_of (λ r. length r ≡ n) rows (λ v w. sym (fractions-length v.items) ∙ w ∙ sym e) k.widths)

pub kept_below : {n : ℕ} (m : ℕ) {rows slice : List (Vec Frac Global)} → m ≡ n → slice ≡ rows
    → IsEchelonOf n (rows_of rows) (rows_of rows) → All (λ v. lead (fractions_of v.items) < m) slice
kept_below {n = n} m {rows = rows} e q k =
    subst (λ (l : List (Vec Frac Global)). All (λ v. lead (fractions_of v.items) < m) l) (sym q)
    (all_of (λ r. lead r < n) rows (λ v w. subst (λ x. lead (fractions_of v.items) < x) (sym e) w)
    (kept_leads n (rows_of rows) k))

pub kept_none : (n : ℕ) {rows : List (Vec Frac Global)} → rows ≡ []
    → IsEchelonOf n (rows_of rows) (rows_of rows)
kept_none n e = subst (λ (l : List (Vec Frac Global)). IsEchelonOf n (rows_of l) (rows_of l))
    (sym e) (echelon_none n)

module _ {e : Echelon} {n : ℕ} {rows slice : List (Vec Frac Global)} (row : List Frac)
    (view : record { width = n; rows = rows_of rows } ≡ e) (s : slice ≡ rows)
    (w : length row ≡ e.width) (k : IsEchelonOf n (rows_of rows) (rows_of rows)) where
  pub same_width : length row ≡ n
  same_width = w ∙ sym (ap (λ (x : Echelon). x.width) view)

  width_is : length (fractions_of row) ≡ n
  width_is = fractions-length row ∙ same_width

  module _ (more : List (Vec Frac Global)) (added : IsAdded (rows_of slice) (fractions_of row)
      (rows_of more)) where
    here : IsAdded (rows_of rows) (fractions_of row) (rows_of more)
    here = subst (λ (l : List (Vec Frac Global)). IsAdded (rows_of l) (fractions_of row)
        (rows_of more)) s added

    pub kept_more : IsEchelonOf n (rows_of more) (rows_of more)
    kept_more = echelon_own n
        (echelon_added n (rows_of rows) (rows_of rows) (fractions_of row) width_is k here.within
        (rows_of more) here.is)

    pub rows_more : (given : List (List Fraction)) → IsEchelonOf e.width given e.rows
        → IsEchelonOf e.width (given ++ fractions_of row ∷ []) (rows_of more)
    rows_more =
        subst (λ (x : Echelon). (given : List (List Fraction)) → IsEchelonOf x.width given x.rows
        → IsEchelonOf x.width (given ++ fractions_of row ∷ []) (rows_of more)) view
        (λ given g. echelon_added n given (rows_of rows) (fractions_of row) width_is g here.within
        (rows_of more) here.is)

    pub new_more : (IsTrue true → IsCombinationOf e.rows (fractions_of row) → ⊥)
        × ((IsCombinationOf e.rows (fractions_of row) → ⊥) → IsTrue true)
    new_more = (
      (λ t. subst (λ (x : Echelon). IsCombinationOf x.rows (fractions_of row) → ⊥) view
          (added_new n (rows_of rows) (rows_of rows) (fractions_of row) width_is k here.within)),
      (λ f. refl),
    )

  module _ (nothing : lead (reduce_row (rows_of slice) (fractions_of row)) ≡ length row) where
    none : lead (reduce_row (rows_of rows) (fractions_of row)) ≡ length (fractions_of row)
    none = ap (λ (l : List (Vec Frac Global)). lead (reduce_row (rows_of l) (fractions_of row)))
        (sym s) ∙ nothing ∙ sym (fractions-length row)

    pub rows_same : (given : List (List Fraction)) → IsEchelonOf e.width given e.rows
        → IsEchelonOf e.width (given ++ fractions_of row ∷ []) e.rows
    rows_same =
        subst (λ (x : Echelon). (given : List (List Fraction)) → IsEchelonOf x.width given x.rows
        → IsEchelonOf x.width (given ++ fractions_of row ∷ []) x.rows) view
        (λ given g. echelon_same n given (rows_of rows) (fractions_of row) width_is g none)

    pub new_same : (IsTrue false → IsCombinationOf e.rows (fractions_of row) → ⊥)
        × ((IsCombinationOf e.rows (fractions_of row) → ⊥) → IsTrue false)
    new_same =
        let old : IsCombinationOf e.rows (fractions_of row) =
        subst (λ (x : Echelon). IsCombinationOf x.rows (fractions_of row)) view
        (same_old n (rows_of rows) (rows_of rows) (fractions_of row) width_is k none) in
        ((λ t. absurd (differ t)), (λ f. absurd (f old)))
      where
        differ : IsTrue false → ⊥
        differ t = cc
