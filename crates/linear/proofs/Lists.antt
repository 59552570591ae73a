-- Rows as lists: where they lead, and what adding a row computes.
--   fractions-length, entry_at     a row as fractions is as long, and has the same entries
use Rattle.std.proofs.Common.{◌≡◌, ◌≢◌, ◌⊎◌, inl, inr, ◌<◌, ◌≤◌, ℕ, zero, suc, ◌+◌, ℤ, pos, negsuc, List, [], ◌∷◌, ◌++◌, length, get_or, take, drop, All, refl, sym, ap, ap₂, subst, ◌∙◌, arith, drop-cons, add-one, Vec, Global}
use Rattle.std.proofs.lemmas.List.{drop_all}
use Rattle.algebra.specs.In.{In}
use Rattle.algebra.specs.Ring.{CommRing}
use Rattle.algebra.proofs.Basics.{abs_zero}
use Rattle.algebra.proofs.RingLaws as L
use Rattle.algebra.proofs.Lists.{take_one}
use Rattle.algebra.specs.Ratio.{Ratio}
use Rattle.algebra.specs.Fraction.{Fraction, ℚ, inverse, fraction_size, fraction_arithmetic}
use Rattle.algebra.specs.Size.{Size, size, sum_size, product_size, times_size, quotient_size, IsPast, IsUnder}
use Rattle.algebra.proofs.Fractions.{ℚ_ring, fractions_ring, top_zero, ratio-zero}
use Rattle.algebra.proofs.LcmLaws.{lcm-pos}
use Rattle.algebra.proofs.SizeLaws.{under_trans, under_refl, under-sum, sum-left, sum-right, past_under, zero_or_some, sum_size_comm, sum_size_assoc, difference_within, fractions_bounded}
use Rattle.algebra.proofs.ProductSizes.{product_den-pos, times_under_product, under_sum-times, past_product, fraction_quotients_bounded}
use Rattle.vectors.specs.Adding.{lead, after_zero, entry, less, reduced_by, reduce_row, reduced_size, quotient, scale_row, row_size}
use Rattle.frac128.specs.FracMeaning.{fraction_of}
use Rattle.frac128.specs.declared.fraction.Frac.{Frac}
use Rattle.linear.specs.Rows.{fractions_of, rows_of}
use Rattle.linear.specs.Parts.{IsPastLess, IsPastScaled, IsFresh, IsPastFresh}
use Rattle.linear.proofs.Weights.{weigh, some, clean, row_clean, row_some, times-some}

abbrev R : CommRing Fraction
R = ℚ_ring

-- ---- where a row leads
pub lead-zero : {a : Fraction} (n : ℕ) → a ≡ R.zero → after_zero a.num n ≡ suc n
lead-zero n e = ap (λ (z : ℤ). after_zero z n) (ap (λ (x : Fraction). x.num) e
    ∙ ap (λ (p : Ratio). p.num) ratio-zero)

pub lead-some : (a : Fraction) (n : ℕ) → a ≢ R.zero → after_zero a.num n ≡ 0
lead-some a n ne = go a.num refl
  where
    go : (z : ℤ) → a.num ≡ z → after_zero z n ≡ 0
    go (pos zero) e = absurd (ne (top_zero a e))
    go (pos (suc k)) e = refl
    go (negsuc k) e = refl

drop_fractions : (i : ℕ) (row : List Frac) (x : Frac) → i < length row → x ≡ get_or row i x
    → fractions_of (drop i row) ≡ fraction_of x ∷ fractions_of (drop (i + 1) row)
drop_fractions i row x h e = ap fractions_of (drop-cons row i x h
    ∙ ap (λ y. y ∷ drop (suc i) row) (sym e))
    ∙ ap (λ j. fraction_of x ∷ fractions_of (drop j row)) (sym (add-one i))

pub lead_here : (i : ℕ) {all : ℕ} (row : List Frac) (x : Frac) → i < length row → x ≡ get_or row i x
    → fraction_of x ≢ R.zero → all ≡ i + lead (fractions_of (drop i row)) → i ≡ all
lead_here i row x h e ne s = (let z : lead (fractions_of (drop i row)) ≡ 0 =
    ap lead (drop_fractions i row x h e)
    ∙ lead-some (fraction_of x) (lead (fractions_of (drop (i + 1) row))) ne in
    omega (arith, s, z))

pub lead_next : (i : ℕ) {all : ℕ} (row : List Frac) (x : Frac) → i < length row → x ≡ get_or row i x
    → fraction_of x ≡ R.zero → all ≡ i + lead (fractions_of (drop i row))
    → all ≡ i + 1 + lead (fractions_of (drop (i + 1) row))
lead_next i row x h e z s =
    (let q : lead (fractions_of (drop i row)) ≡ suc (lead (fractions_of (drop (i + 1) row))) =
    ap lead (drop_fractions i row x h e) ∙ lead-zero (lead (fractions_of (drop (i + 1) row))) z in
    omega (arith, s, q))

pub entry_at : (row : List Frac) (i : ℕ) (x : Frac) → i < length row → x ≡ get_or row i x
    → entry (fractions_of row) i ≡ fraction_of x
entry_at [] i x h e = absurd (omega arith)
entry_at (y ∷ row) zero x h e = ap fraction_of (sym e)
entry_at (y ∷ row) (suc i) x h e = entry_at row i x (omega arith) e

pub fractions-length : (row : List Frac) → length (fractions_of row) ≡ length row
fractions-length [] = refl
fractions-length (x ∷ row) = ap suc (fractions-length row)

-- ---- a row less a multiple
pub less-length : (row : List Fraction) (c : Fraction) (other : List Fraction)
    → length (less row c other) ≡ length row
less-length [] c other = refl
less-length (a ∷ row) c [] = refl
less-length (a ∷ row) c (b ∷ other) = ap suc (less-length row c other)

less-zero_of : (a b : Fraction) → R.add a (R.neg (R.mul R.zero b)) ≡ a
less-zero_of a b = ap (λ z. R.add a (R.neg z)) (L.zero-mul R b) ∙ ap (R.add a) (L.neg-zero R)
    ∙ R.add-zero a

pub less-none : (row : List Fraction) {c : Fraction} (other : List Fraction) → c ≡ R.zero
    → less row c other ≡ row
less-none [] other e = refl
less-none (a ∷ row) [] e = refl
less-none (a ∷ row) {c = c} (b ∷ other) e = ap₂ ◌∷◌ (ap (λ z. R.add a (R.neg (R.mul z b))) e
    ∙ less-zero_of a b) (less-none row other e)

-- its weight
sum-some : (s t : Size) → 0 < s.den → 0 < t.den → 0 < (sum_size s t).den
sum-some s t h k = lcm-pos s.den t.den h k

swap_sums : (a p x q : Size) → 0 < a.den → 0 < p.den → 0 < x.den → 0 < q.den
    → sum_size (sum_size a p) (sum_size x q) ≡ sum_size (sum_size a x) (sum_size p q)
swap_sums a p x q ha hp hx hq =
    sum_size_assoc a p (sum_size x q) ha hp (sum-some x q hx hq)
    ∙ ap (sum_size a) (sym (sum_size_assoc p x q hp hx hq)
    ∙ ap (λ s. sum_size s q) (sum_size_comm p x hp hx) ∙ sum_size_assoc x p q hx hp hq)
    ∙ sym (sum_size_assoc a x (sum_size p q) ha hx (sum-some p q hp hq))

pub less-under : (row : List Fraction) (c : Fraction) (other : List Fraction)
    → length row ≡ length other → IsUnder (row_size (less row c other))
    (sum_size (row_size row) (times_size (row_size other) (weigh c)))
less-under [] c [] l = sum-left (size 0 1) (times_size (size 0 1) (weigh c)) (omega arith)
    (times-some (size 0 1) (weigh c) (omega arith) (some c))
less-under [] c (b ∷ other) l = absurd (omega arith)
less-under (a ∷ row) c [] l = absurd (omega arith)
less-under (a ∷ row) c (b ∷ other) l =
    let d = R.add a (R.neg (R.mul c b)) in
    let rest = less row c other in
    let first_bound = sum_size (weigh a) (times_size (weigh b) (weigh c)) in
    let rest_bound = sum_size (row_size row) (times_size (row_size other) (weigh c)) in
    let product_some = times-some (weigh b) (weigh c) (some b) (some c) in
    let others_some = times-some (row_size other) (weigh c) (row_some other) (some c) in
    let first : IsUnder (weigh d) first_bound =
    under_trans (weigh d) _ first_bound (some d) (sum-some (weigh a)
    (times_size (weigh b) (weigh c)) (some a) product_some) (difference_within fraction_arithmetic
    fraction_size fractions_bounded a (R.mul c b)) (under-sum (weigh a) (weigh (R.mul c b))
    (weigh a) _ (some a) (some (R.mul c b)) (some a) product_some (under_refl (weigh a) (some a))
    (subst (λ z. IsUnder (weigh z) (times_size (weigh b) (weigh c))) (fractions_ring.mul_comm b c)
    (fractions_bounded.mul_size b c))) in
    let both : IsUnder (sum_size (weigh d) (row_size rest)) (sum_size first_bound rest_bound) =
    under-sum (weigh d) (row_size rest) first_bound rest_bound (some d) (row_some rest)
    (sum-some (weigh a) (times_size (weigh b) (weigh c)) (some a) product_some)
    (sum-some (row_size row) (times_size (row_size other) (weigh c)) (row_some row) others_some)
    first (less-under row c other (omega arith)) in
    let rows = sum_size (weigh a) (row_size row) in
    let rows_some = sum-some (weigh a) (row_size row) (some a) (row_some row) in
    let products = sum_size (times_size (weigh b) (weigh c))
    (times_size (row_size other) (weigh c)) in
    let products_some = sum-some (times_size (weigh b) (weigh c))
    (times_size (row_size other) (weigh c)) product_some others_some in
    let others = times_size (sum_size (weigh b) (row_size other)) (weigh c) in
    let others_all = times-some (sum_size (weigh b) (row_size other)) (weigh c)
    (sum-some (weigh b) (row_size other) (some b) (row_some other)) (some c) in
    under_trans _ _ _ (sum-some (weigh d) (row_size rest) (some d) (row_some rest))
    (sum-some rows others rows_some others_all) (subst (IsUnder (sum_size (weigh d)
    (row_size rest))) (swap_sums (weigh a) (times_size (weigh b) (weigh c)) (row_size row)
    (times_size (row_size other) (weigh c)) (some a) product_some (row_some row) others_some) both)
    (under-sum rows products rows others rows_some products_some rows_some others_all
    (under_refl rows rows_some) (under_sum-times (weigh b) (row_size other) (weigh c) (some b)
    (row_some other) (some c)))

-- ---- less each of some rows
pub reduced-grows : (by : List Fraction) (rows : List (List Fraction)) (s : Size) → 0 < s.den
    → (0 < (reduced_size by rows s).den) × IsUnder s (reduced_size by rows s)
reduced-grows by [] s h = (h, under_refl s h)
reduced-grows by (e ∷ rows) s h =
    let p = product_size (row_size e) (weigh (entry by (lead e))) in
    let p_some : 0 < p.den = product_den-pos (row_size e) (weigh (entry by (lead e))) (row_some e)
    (some (entry by (lead e))) in
    let t = sum_size s p in
    let t_some = sum-some s p h p_some in
    let r = reduced-grows by rows t t_some in
    (r.0, under_trans s t _ h r.0 (sum-left s p h p_some) r.1)

pub record Going (by : List Fraction) (rows left : List (List Fraction))
    (rest : List Fraction) : Type 0 where
  pub bound : Size
  pub bound_some : 0 < bound.den
  pub under : IsUnder (row_size rest) bound
  pub sizes : reduced_size by rows (row_size by) ≡ reduced_size by left bound
  pub is : reduced_by by rows by ≡ reduced_by by left rest
  pub width : length rest ≡ length by

pub going_first : {by : List Fraction} (rows : List (List Fraction)) {rest : List Fraction}
    → rest ≡ by → Going by rows rows rest
going_first {by = by} rows e = subst (Going by rows rows) (sym e) (record {
  bound = row_size by;
  bound_some = row_some by;
  under = under_refl (row_size by) (row_some by);
  sizes = refl;
  is = refl;
  width = refl;
})

module _ (by : List Fraction) (rows left : List (List Fraction)) (e rest : List Fraction)
    (width : length e ≡ length by) (g : Going by rows (e ∷ left) rest) where
  abbrev factor : Fraction
  factor = entry by (lead e)

  product_some : 0 < (product_size (row_size e) (weigh (entry by (lead e)))).den
  product_some = product_den-pos (row_size e) (weigh factor) (row_some e) (some factor)

  times_some : 0 < (times_size (row_size e) (weigh (entry by (lead e)))).den
  times_some = times-some (row_size e) (weigh factor) (row_some e) (some factor)

  abbrev next_bound : Size
  next_bound = sum_size g.bound (product_size (row_size e) (weigh factor))

  next_some : 0 < (sum_size g.bound (product_size (row_size e) (weigh (entry by (lead e))))).den
  next_some = sum-some g.bound (product_size (row_size e) (weigh factor)) g.bound_some product_some

  within : IsUnder (sum_size (row_size rest) (times_size (row_size e) (weigh (entry by (lead e)))))
      next_bound
  within =
      under-sum (row_size rest) _ g.bound _ (row_some rest) times_some g.bound_some product_some
      g.under (times_under_product (row_size e) (weigh factor) (row_clean e) (clean factor))

  pub going_more : {more : List Fraction} → more ≡ less rest factor e → Going by rows left more
  going_more q =
      subst (Going by rows left) (sym q)
      (record {
        bound = next_bound;
        bound_some = next_some;
        under = under_trans _ _ next_bound
            (row_some (less rest factor e)) next_some
            (less-under rest factor e (g.width ∙ sym width)) within;
        sizes = g.sizes;
        is = g.is;
        width = less-length rest factor e ∙ g.width;
      })

  pub going_same : factor ≡ R.zero → Going by rows left rest
  going_same z = going_more (sym (less-none rest e z))

  pub going_wide : IsPastLess rest factor e → IsPast (reduced_size by rows (row_size by))
  going_wide h =
      let r = reduced-grows by left next_bound next_some in
      subst IsPast (sym g.sizes) (past_under _ _ r.0 (under_trans _ next_bound _
      (sum-some (row_size rest) (times_size (row_size e) (weigh factor)) (row_some rest) times_some)
      r.0 within r.1) h)

-- ---- over what the code has
next_rows : (i : ℕ) (rows : List (Vec Frac Global)) (e : Vec Frac Global) → i < length rows
    → e ≡ get_or rows i e → rows_of (drop i rows) ≡ fractions_of e.items
    ∷ rows_of (drop (i + 1) rows)
next_rows i rows e h q = ap rows_of (drop-cons rows i e h ∙ ap (λ y. y ∷ drop (suc i) rows) (sym q))
    ∙ ap (λ j. fractions_of e.items ∷ rows_of (drop j rows)) (sym (add-one i))

module _ (row : List Frac) (all : List (Vec Frac Global)) (i : ℕ) {e : Vec Frac Global}
    (rest : Vec Frac Global) (within_all : i < length all) (at : e ≡ get_or all i e)
    (widths : All (λ v. length v.items ≡ length row) all) (g : Going (fractions_of row)
    (rows_of all) (rows_of (drop i all)) (fractions_of rest.items)) where
  begun : Going (fractions_of row) (rows_of all) (fractions_of e.items ∷ rows_of (drop (i + 1) all))
      (fractions_of rest.items)
  begun = subst (λ l. Going (fractions_of row) (rows_of all) l (fractions_of rest.items))
      (next_rows i all e within_all at) g

  width_is : length (fractions_of e.items) ≡ length (fractions_of row)
  width_is = fractions-length e.items ∙ subst (λ (v : Vec Frac Global). length v.items ≡ length row)
      (sym at) (widths i e within_all) ∙ sym (fractions-length row)

  pub same_width : length rest.items ≡ length e.items
  same_width = sym (fractions-length rest.items) ∙ begun.width ∙ sym width_is
      ∙ fractions-length e.items

  module _ {lead_is : ℕ} {factor : Frac} (l : lead_is ≡ lead (fractions_of e.items))
      (h : lead_is < length row) (f : factor ≡ get_or row lead_is factor) where
    factor_is : entry (fractions_of row) (lead (fractions_of e.items)) ≡ fraction_of factor
    factor_is = ap (entry (fractions_of row)) (sym l) ∙ entry_at row lead_is factor h f

    pub iteration_less : (more : List Frac) → fractions_of more ≡ less (fractions_of rest.items)
        (fraction_of factor) (fractions_of e.items) → Going (fractions_of row) (rows_of all)
        (rows_of (drop (i + 1) all)) (fractions_of more)
    iteration_less more q =
        going_more (fractions_of row) (rows_of all) (rows_of (drop (i + 1) all))
        (fractions_of e.items) (fractions_of rest.items) width_is begun
        (q ∙ ap (λ c. less (fractions_of rest.items) c (fractions_of e.items)) (sym factor_is))

    pub iteration_same : fraction_of factor ≡ R.zero → Going (fractions_of row) (rows_of all)
        (rows_of (drop (i + 1) all)) (fractions_of rest.items)
    iteration_same z = going_same (fractions_of row) (rows_of all) (rows_of (drop (i + 1) all))
        (fractions_of e.items) (fractions_of rest.items) width_is begun (factor_is ∙ z)

    pub iteration_wide : IsPastLess (fractions_of rest.items) (fraction_of factor)
        (fractions_of e.items)
        → IsPast (reduced_size (fractions_of row) (rows_of all) (row_size (fractions_of row)))
    iteration_wide h =
        going_wide (fractions_of row) (rows_of all) (rows_of (drop (i + 1) all))
        (fractions_of e.items) (fractions_of rest.items) width_is begun
        (subst (λ c. IsPastLess (fractions_of rest.items) c (fractions_of e.items)) (sym factor_is)
        h)

pub going_done : (row : List Frac) (all : List (Vec Frac Global)) (i : ℕ) (rest : List Frac)
    → length all ≤ i → Going (fractions_of row) (rows_of all) (rows_of (drop i all))
    (fractions_of rest) → fractions_of rest ≡ reduced_by (fractions_of row) (rows_of all)
    (fractions_of row)
going_done row all i rest h g =
    sym (g.is ∙ ap (λ (l : List (Vec Frac Global)). reduced_by (fractions_of row) (rows_of l)
    (fractions_of rest)) (drop_all i all h))

pub going_width : (row : List Frac) {rows left : List (List Fraction)} (rest : List Frac)
    → Going (fractions_of row) rows left (fractions_of rest) → length rest ≡ length row
going_width row rest g = sym (fractions-length rest) ∙ g.width ∙ fractions-length row

-- ---- products
pub scaled-past : (row : List Frac) (i : ℕ) {x : Frac} (c : Frac) → i < length row
    → x ≡ get_or row i x → IsPast (fraction_size (ℚ.mul (fraction_of x) (fraction_of c)))
    → IsPastScaled (fractions_of row) (fraction_of c)
scaled-past row i {x = x} c h e p =
    record { number = fraction_of x; within = among row i h e; past = p }
  where
    among : (row : List Frac) (i : ℕ) → i < length row → x ≡ get_or row i x
        → In (fraction_of x) (fractions_of row)
    among [] i h e = absurd (omega arith)
    among (y ∷ row) zero h e = inl (ap fraction_of e)
    among (y ∷ row) (suc i) h e = inr (among row i (omega arith) e)

pub fractions-append : (xs ys : List Frac) → fractions_of (xs ++ ys) ≡ fractions_of xs
    ++ fractions_of ys
fractions-append [] ys = refl
fractions-append (x ∷ xs) ys = ap (λ l. fraction_of x ∷ l) (fractions-append xs ys)

scaled-append : (c : Fraction) (xs ys : List Fraction) → scale_row c (xs ++ ys) ≡ scale_row c xs
    ++ scale_row c ys
scaled-append c [] ys = refl
scaled-append c (x ∷ xs) ys = ap (λ l. R.mul x c ∷ l) (scaled-append c xs ys)

pub scaled_more : (c : Fraction) (row : List Frac) (i : ℕ) {x : Frac} (out : List Frac)
    {more : List Frac} (y : Frac)
    → i < length row → x ≡ get_or row i x → fraction_of y ≡ R.mul (fraction_of x) c
    → more ≡ out ++ y ∷ [] → fractions_of out ≡ scale_row c (fractions_of (take i row))
    → fractions_of more ≡ scale_row c (fractions_of (take (i + 1) row))
scaled_more c row i {x = x} out y h e m p s =
    ap fractions_of p ∙ fractions-append out (y ∷ []) ∙ ap₂ (λ l a. l ++ a ∷ []) s m
    ∙ sym (ap (λ l. scale_row c (fractions_of l)) (take_one row i x h e)
    ∙ ap (scale_row c) (fractions-append (take i row) (x ∷ []))
    ∙ scaled-append c (fractions_of (take i row)) (fraction_of x ∷ []))

-- ---- what is left, divided
entry-under : (row : List Fraction) (a : Fraction) → In a row → IsUnder (weigh a) (row_size row)
entry-under [] a i = absurd i
entry-under (x ∷ row) a (inl e) = subst (λ y. IsUnder (weigh y) (sum_size (weigh x) (row_size row)))
    (sym e) (sum-left (weigh x) (row_size row) (some x) (row_some row))
entry-under (x ∷ row) a (inr i) =
    under_trans (weigh a) (row_size row) _ (some a)
    (sum-some (weigh x) (row_size row) (some x) (row_some row)) (entry-under row a i)
    (sum-right (weigh x) (row_size row) (some x) (row_some row))

size_some : (b : Fraction) → b ≢ R.zero → 0 < (weigh b).size
size_some b ne = elim (zero_or_some (weigh b).size) [
  | inl z
      ↦ absurd (ne (top_zero b (abs_zero b.num z)))
  | inr s ↦ s
]

-- a product that is past makes the quotient's weight past
pub quotient_past : (row : List Fraction) (b : Fraction) → b ≢ R.zero → IsPastScaled row (inverse b)
    → IsPast (quotient_size (row_size row) (fraction_size b))
quotient_past row b ne p =
    let div = size (weigh b).den (weigh b).size in
    let div_some : 0 < div.den = size_some b ne in
    past_product (weigh p.number) div (row_size row) div (row_some row) div_some
    (entry-under row p.number p.within) (under_refl div div_some) (past_under _ _
    (product_den-pos (weigh p.number) div (some p.number) div_some)
    (fraction_quotients_bounded p.number b ne) p.past)

nonzero_some : (a : Fraction) (n : ℕ) → after_zero a.num n ≡ 0 → a ≢ R.zero
nonzero_some a n z e = (let s : after_zero a.num n ≡ suc n = lead-zero n e in
    absurd (omega (arith, z, s)))

pub after_cases : (z : ℤ) (n : ℕ) → (after_zero z n ≡ 0) ⊎ (after_zero z n ≡ suc n)
after_cases (pos zero) n = inr refl
after_cases (pos (suc k)) n = inl refl
after_cases (negsuc k) n = inl refl

pub lead_some : (row : List Fraction) → lead row < length row → entry row (lead row) ≢ R.zero
lead_some [] h e = absurd (omega arith)
lead_some (a ∷ row) h e =
    elim (after_cases a.num (lead row)) [
      | inl z ↦ nonzero_some a (lead row) z (sym (ap (λ n. entry (a ∷ row) n) z) ∙ e)
      | inr s ↦ lead_some row (let l : after_zero a.num (lead row) < suc (length row) = h in
          omega (arith, l, s)) (sym (ap (λ n. entry (a ∷ row) n) s) ∙ e)
    ]

pub lead_within : (row : List Fraction) → lead row ≤ length row
lead_within [] = omega arith
lead_within (a ∷ row) = (let h = lead_within row in elim (after_cases a.num (lead row)) [
  | inl z
      ↦ omega (arith, z)
  | inr s ↦ omega (arith, s, h)
])

-- ---- the row that is added, over what the code has
module _ (rows : List (List Fraction)) (row rest : List Frac) {column : ℕ} (is : fractions_of rest
    ≡ reduce_row rows (fractions_of row)) (width : length rest ≡ length row)
    (at : column ≡ lead (fractions_of rest)) (ne : column ≢ length rest) where
  pub column_within : column < length rest
  column_within = (let h = lead_within (fractions_of rest) in let l = fractions-length rest in
      not_equal column (length rest) (omega (arith, h, l, at)) ne)
    where
      not_equal : (a b : ℕ) → a ≤ b → a ≢ b → a < b
      not_equal a b h n = grind arith

  module _ (number : Frac) (f : number ≡ get_or rest column number) where
    number_is : entry (fractions_of rest) (lead (fractions_of rest)) ≡ fraction_of number
    number_is = ap (entry (fractions_of rest)) (sym at) ∙ entry_at rest column number column_within
        f

    pub number_some : fraction_of number ≢ R.zero
    number_some z = lead_some (fractions_of rest) (let h = column_within in let l =
        fractions-length rest in omega (arith, h, l, at)) (number_is ∙ z)

    pub fresh_wide : (by : Frac) → fraction_of by ≡ inverse (fraction_of number)
        → IsPastScaled (fractions_of rest) (fraction_of by) → IsPastFresh rows (fractions_of row)
    fresh_wide by r p =
        inr (subst (λ l. IsPast (quotient_size (row_size l) (fraction_size (entry l (lead l))))) is
        (subst (λ b. IsPast (quotient_size (row_size (fractions_of rest)) (fraction_size b)))
        (sym number_is)
        (quotient_past (fractions_of rest) (fraction_of number) number_some
        (subst (IsPastScaled (fractions_of rest)) r p))))

    pub fresh_is : (by : Frac) → fraction_of by ≡ inverse (fraction_of number) → (fresh : List Frac)
        → fractions_of fresh ≡ scale_row (fraction_of by) (fractions_of rest)
        → IsFresh rows (fractions_of row) column (fractions_of fresh)
    fresh_is by r fresh q = record {
      column = at ∙ ap lead is;
      within = (let h = column_within in let l = fractions-length row in
          omega (arith, h, l, width));
      is = q ∙ ap (λ c. scale_row c (fractions_of rest)) (r ∙ ap inverse (sym number_is))
          ∙ ap quotient is;
    }

pub below : (row : List Frac) (all : List (Vec Frac Global)) (i : ℕ) {e : Vec Frac Global} {l : ℕ}
    → i < length all → e ≡ get_or all i e → l ≡ lead (fractions_of e.items)
    → All (λ v. lead (fractions_of v.items) < length row) all → l < length row
below row all i {e = e} h at q a =
    subst (λ n. n < length row) (sym q) (subst (λ (v : Vec Frac Global).
    lead (fractions_of v.items) < length row) (sym at) (a i e h))
