-- What the checked operations on fractions give.
--   ok_or_none r          the number of an answer; none where it was too wide
--   sum_is, product_is    an answer with the clauses of an operation is that of the checked operation
use Rattle.std.proofs.Common.{List, length, get_or, ◌≡◌, ◌∙◌, sym, ap, refl, ℕ, zero, suc, ◌+◌, ◌-◌, add-one, ◌<◌, ◌≤◌, ◌^◌, Bool, true, false, ◌&&◌, ◌+ℤ◌, unsigned_abs, Option, Some, None, Result, Ok, Err, inl, inr, ⊎_elim, ◌↔◌, IfOk, IsErr, arith, if◌then◌else◌}
use native.Mathlib.Nat as N
use Rattle.std.specs.Prelude.{option_map}
use Rattle.std.specs.Result.{result_ok}
use Rattle.std.proofs.lemmas.Bool.Decides.{nat_tests}
use Rattle.algebra.specs.Fraction.{Fraction, ℚ, fraction_size}
use Rattle.algebra.specs.Size.{IsPast}
use Rattle.frac128.specs.Sums.{part, SumIsPast, left_past, right_past, parts_past, den_past}
use Rattle.frac128.specs.FracMeaning.{fraction_of}
use Rattle.frac128.specs.declared.fraction.Frac.{Frac}
use Rattle.ring_laws.specs.declared.Wide.{Wide}
use Rattle.loop_runs.specs.Checked.{fits, number_fits, sum_fits, checked_sum as sum, checked_product as product, checked_power as power}
use Rattle.loop_runs.specs.Seen.{numbers_of}
use Rattle.std.proofs.lemmas.List.{get_or-map}
use Rattle.std.proofs.lemmas.Bool.{and_parts}
use Rattle.loop_runs.proofs.CheckedValues.{on, power-suc}

abbrev pub ok_or_none : Result Frac Wide → Option Fraction
ok_or_none r = option_map fraction_of (result_ok r)

-- ---- the tests
fits_true : (n : ℕ) → fits n ≡ true → 2 ^ 127 ≤ n → ⊥
fits_true n e h = grind (arith, nat_tests)

not_fits : (n : ℕ) → fits n ≡ false → 2 ^ 127 ≤ n
not_fits n e = grind (arith, nat_tests)

sum_fits-past : (p q : Fraction) → sum_fits p q ≡ true → SumIsPast p q → ⊥
sum_fits-past p q e s =
    let (both_parts, rest) = and_parts _ _ e in
    let (left, right) = and_parts _ _ both_parts in
    let (parts, den) = and_parts _ _ rest in
    elim s [
      | left_past h ↦ fits_true _ left h
      | right_past h ↦ fits_true _ right h
      | parts_past h
          ↦ fits_true _ parts h
      | den_past h ↦ fits_true _ den h
    ]

not_sum_fits : (p q : Fraction) → sum_fits p q ≡ false → SumIsPast p q
not_sum_fits p q e = go (fits (unsigned_abs (part p q))) refl (fits (unsigned_abs (part q p))) refl
    (fits (unsigned_abs (part p q +ℤ part q p))) refl (fits (ℚ.add p q).den) refl e
  where
    go : (a : Bool) → fits (unsigned_abs (part p q)) ≡ a → (b : Bool)
        → fits (unsigned_abs (part q p)) ≡ b
        → (c : Bool) → fits (unsigned_abs (part p q +ℤ part q p)) ≡ c → (d : Bool)
        → fits (ℚ.add p q).den ≡ d
        → ((a && b) && (c && d)) ≡ false → SumIsPast p q
    go false ea b eb c ec d ed h = left_past (not_fits _ ea)
    go true ea false eb c ec d ed h = right_past (not_fits _ eb)
    go true ea true eb false ec d ed h = parts_past (not_fits _ ec)
    go true ea true eb true ec false ed h = den_past (not_fits _ ed)
    go true ea true eb true ec true ed h = absurd (cc)

number_fits-past : (p : Fraction) → number_fits p ≡ true → IsPast (fraction_size p) → ⊥
number_fits-past p e s =
    let (num, den) = and_parts _ _ e in
    ⊎_elim (λ h. fits_true (unsigned_abs p.num) num (omega arith))
    (λ h. fits_true p.den den (omega arith)) s

not_number_fits : (p : Fraction) → number_fits p ≡ false → IsPast (fraction_size p)
not_number_fits p e = go (fits (unsigned_abs p.num)) refl (fits p.den) refl e
  where
    go : (a : Bool) → fits (unsigned_abs p.num) ≡ a → (b : Bool) → fits p.den ≡ b → (a && b) ≡ false
        → IsPast (fraction_size p)
    go false ea b eb h = let k = not_fits _ ea in inl (omega arith)
    go true ea false eb h = let k = not_fits _ eb in inr (omega arith)
    go true ea true eb h = absurd (cc)

-- ---- an answer, by its two clauses
answer_is : (r : Result Frac Wide) (v : Fraction) (test : Bool) (Past : Type 0)
    → IfOk r (λ x. fraction_of x ≡ v) → (IsErr r ↔ Past)
    → (test ≡ true → Past → ⊥) → (test ≡ false → Past) → ok_or_none r ≡ (if test then Some v
    else None)
answer_is (Ok x) v true Past ok wide fit past = ap Some ok
answer_is (Ok x) v false Past ok wide fit past = absurd (let e = wide.1 (past refl) in cc)
answer_is (Err e) v true Past ok wide fit past = absurd (fit refl (wide.0 refl))
answer_is (Err e) v false Past ok wide fit past = refl

pub sum_is : (r : Result Frac Wide) (p q : Fraction) → IfOk r (λ x. fraction_of x ≡ ℚ.add p q)
    → (IsErr r ↔ SumIsPast p q) → ok_or_none r ≡ sum p q
sum_is r p q ok wide = answer_is r (ℚ.add p q) (sum_fits p q) (SumIsPast p q) ok wide
    (sum_fits-past p q) (not_sum_fits p q)

pub product_is : (r : Result Frac Wide) (p q : Fraction) → IfOk r (λ x. fraction_of x ≡ ℚ.mul p q)
    → (IsErr r ↔ IsPast (fraction_size (ℚ.mul p q))) → ok_or_none r ≡ product p q
product_is r p q ok wide = answer_is r (ℚ.mul p q) (number_fits (ℚ.mul p q)) _ ok wide
    (number_fits-past (ℚ.mul p q)) (not_number_fits (ℚ.mul p q))

-- ---- powers of b, of which k factors are multiplied
power_none : (b : Fraction) (k d : ℕ) → power b k ≡ None → power b (d + k) ≡ None
power_none b k zero e = rw N.zero-add e
power_none b k (suc d) e = rw N.suc-add (power-suc b (d + k)
    ∙ ap (on (λ q. product q b)) (power_none b k d e))

pub power_stops : (r : Result Frac Wide) (p b : Fraction) (k n : ℕ) → Some p ≡ power b k → k < n
    → IsErr r
    → IfOk r (λ z. fraction_of z ≡ ℚ.mul p b) → (IsErr r ↔ IsPast (fraction_size (ℚ.mul p b)))
    → None ≡ power b n
power_stops (Ok z) p b k n e h stops ok wide = absurd (cc)
power_stops (Err w) p b k n e h stops ok wide =
    let here : power b (suc k) ≡ None = power-suc b k ∙ ap (on (λ q. product q b)) (sym e)
    ∙ sym (product_is (Err w) p b ok wide) in
    let there : n ≡ (n - suc k) + suc k = omega arith in
    sym (ap (power b) there ∙ power_none b (suc k) (n - suc k) here)

pub power_goes_on : (r : Result Frac Wide) (z : Frac) (p b : Fraction) (k : ℕ) → Some p ≡ power b k
    → r ≡ Ok z
    → IfOk r (λ z. fraction_of z ≡ ℚ.mul p b) → (IsErr r ↔ IsPast (fraction_size (ℚ.mul p b)))
    → Some (fraction_of z) ≡ power b (k + 1)
power_goes_on r z p b k e is ok wide = rw add-one (ap ok_or_none (sym is) ∙ product_is r p b ok wide
    ∙ ap (on (λ q. product q b)) e ∙ sym (power-suc b k))

-- ---- the number at a place of a state
pub number_read : (xs : List Frac) (i : ℕ) (x : Frac) → i < length xs → x ≡ get_or xs i x
    → fraction_of x ≡ get_or (numbers_of xs) i ℚ.zero
number_read xs i x h e = ap fraction_of e ∙ sym (get_or-map fraction_of xs i x ℚ.zero h)
