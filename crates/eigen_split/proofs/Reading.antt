-- What the code reads of a matrix, and what its numbers are.
--   list_row                 a row
--   ready_width              the rows of a matrix that is ready
--   ready_entry              an entry's whole multiple is at most the limit;  candidate_small: so is a candidate
--   fits_over                p over d fits
use Rattle.std.proofs.Common.{◌≡◌, inl, inr, ℕ, zero, suc, ◌^◌, ◌<◌, ◌≤◌, ℤ, pos, true, false, Bool, leb, cond, List, [], ◌∷◌, length, get_or, Err, IsErrOf, ◌≢◌, refl, sym, ap, subst, ◌∙◌, arith, Vec, Global}
use Rattle.std.proofs.Math.Nat.{div-le_self}
use lib.IntN.{nat_abs}
use Rattle.std.proofs.lemmas.List.{length-map}
use Rattle.algebra.specs.Each.{Each}
use Rattle.algebra.specs.Fraction.{Fraction, over, fraction_size}
use Rattle.algebra.specs.Gcd.{gcd}
use Rattle.algebra.specs.Ratio.{Ratio, ratio, reduce}
use Rattle.algebra.specs.Size.{IsPast}
use Rattle.algebra.proofs.RatioLaws as Q
use Rattle.algebra.proofs.Fractions.{ratio-fraction}
use Rattle.frac128.specs.Sums as Sums
use Rattle.frac128.specs.declared.fraction.FracError.{FracError}
use Rattle.frac128.specs.declared.fraction.FracError.TheVariants.{ZeroDenominator, Wide}
use Rattle.frac128.specs.FracMeaning.{fraction_of}
use Rattle.frac128.specs.declared.fraction.Frac.{Frac}
use Rattle.vectors.specs.Adding.{entry}
use Rattle.vectors.specs.Matrices.{denominator, whole_number, sum_of_column, greatest_sum}
use Rattle.vectors.specs.Causes.{limit, row_at}
use Rattle.linear.specs.Rows.{fractions_of, rows_of}
use Rattle.linear.proofs.Lists.{entry_at}
use Rattle.eigen_split.specs.Ints.{IsReady}
use Rattle.eigen_split.specs.Refusal.{IsCandidate}
use Rattle.vectors.proofs.SplitDecided.{at_most_greatest}
use Rattle.eigen_split.proofs.Multiples.{entry_in_sum}

pub list_row : (rows : List (Vec Frac Global)) (i : ℕ) (row : Vec Frac Global) → i < length rows
    → row ≡ get_or rows i row → row_at (rows_of rows) i ≡ fractions_of row.items
list_row [] i row l e = absurd (omega arith)
list_row (r ∷ rows) zero row l e = ap (λ (v : Vec Frac Global). fractions_of v.items) (sym e)
list_row (r ∷ rows) (suc i) row l e = list_row rows i row (omega arith) e

pub list_width : (n : ℕ) (rows : List (Vec Frac Global)) (i : ℕ) {row : Vec Frac Global}
    → Each (λ r. length r ≡ n) (rows_of rows) → i < length rows → row ≡ get_or rows i row
    → length row.items ≡ n
unfolding Each
list_width n [] i w l e = absurd (omega arith)
list_width n (r ∷ rows) zero w l e = ap (λ (v : Vec Frac Global). length v.items) e
    ∙ sym (length-map r.items fraction_of) ∙ w.0
list_width n (r ∷ rows) (suc i) {row = row} w l e = list_width n rows i w.1 (omega arith) e

pub limit_small : (n : ℕ) → limit n ≤ 4096
limit_small n = go (leb n 8)
  where
    go : (b : Bool) → cond b 4096 512 ≤ 4096
    go true = omega arith
    go false = omega arith

pub candidate_small : {n : ℕ} {rows : List (List Fraction)} {d : ℕ} {p : ℤ} → IsReady n rows d
    → IsCandidate n rows p → nat_abs p ≤ limit n
candidate_small ready c = (let l = ready.within in let w = c.within in
    omega (arith, l, w))

pub ready_entry : {n : ℕ} {rows : List (List Fraction)} {d : ℕ} → IsReady n rows d → (i j : ℕ)
    → i < n → j < n → nat_abs (whole_number d (entry (row_at rows i) j)) ≤ 4096
ready_entry {n = n} {rows = rows} {d = d} ready i j l h =
    subst (λ d. nat_abs (whole_number d (entry (row_at rows i) j)) ≤ 4096) (sym ready.least)
    (let a = entry_in_sum (denominator rows) rows i j (subst (λ m. i < m) (sym ready.count) l) in
    let b = at_most_greatest n (sum_of_column (denominator rows) rows) j h in
    let c : greatest_sum n rows ≤ limit n = ready.within in
    let e = limit_small n in
    omega (arith, a, b, c, e))

-- p over d has no number greater than these
pub fits_over : (p : ℤ) (d : ℕ) → 0 < d → d < 2 ^ 127 → nat_abs p < 2 ^ 127
    → IsPast (fraction_size (over p d)) → ⊥
unfolding reduce
fits_over p d some small h past =
    let r : (over p d).ratio ≡ reduce (ratio p d) = ratio-fraction (reduce (ratio p d))
    (Q.reduce-value (ratio p d) some) in
    let g = gcd (nat_abs p) d in
    let top : nat_abs (over p d).num ≤ nat_abs p =
    subst (λ (q : Ratio). nat_abs q.num ≤ nat_abs p) (sym r)
    (subst (λ m. m ≤ nat_abs p) (sym (Q.nat_abs-exact p g)) (div-le_self (nat_abs p) g)) in
    let bottom : (over p d).den ≤ d = subst (λ (q : Ratio). q.den ≤ d) (sym r) (div-le_self d g) in
    elim past [ inl l ↦ omega (arith, l, top, h) | inr l ↦ omega (arith, l, bottom, small) ]

pub at_entry : (rows : List (Vec Frac Global)) (i j : ℕ) {row : Vec Frac Global} {x : Frac}
    → i < length rows → row ≡ get_or rows i row → j < length row.items → x ≡ get_or row.items j x
    → entry (row_at (rows_of rows) i) j ≡ fraction_of x
at_entry rows i j {row = row} {x = x} l e h q = ap (λ r. entry r j) (list_row rows i row l e)
    ∙ entry_at row.items j x h q

pub num_small : (f : Frac) → nat_abs (fraction_of f).num < 2 ^ 127
unfolding fraction_of
num_small f = f.num.in_range

pub den_small : (f : Frac) → (fraction_of f).den < 2 ^ 127
unfolding fraction_of
den_small f = f.den.in_range

pub small_fractions_have_no_error : (e : FracError) (num den : ℤ) (d : ℕ) → den ≡ pos d → 0 < d
    → d < 2 ^ 127
    → nat_abs num < 2 ^ 127
    → (IsErrOf {T = Frac} (Err e) ZeroDenominator → den ≡ pos 0) → (IsErrOf {T = Frac} (Err e) Wide
    → (den ≢ pos 0) × IsPast (fraction_size (Sums.over num den))) → ⊥
small_fractions_have_no_error ZeroDenominator num den d q some small h none wide =
    (let z : den ≡ pos 0 = none refl in
    let e : pos d ≡ pos 0 = sym q ∙ z in let k : d ≡ 0 = cc in omega (arith, k, some))
small_fractions_have_no_error Wide num den d q some small h none wide =
    fits_over num d some small h (subst (λ den. IsPast (fraction_size (Sums.over num den))) q
    (wide refl).1)
