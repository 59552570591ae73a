-- Rows at positions, and the combinations with them.
--   combination-row_of      the combination with a row is that of its cofactors with those that they belong to
--   position_in             a position is below the number
--   dropped_at              the rest from a place on
--   none_before             no place as yet
use Rattle.std.proofs.Common.{◌≡◌, ℕ, zero, suc, ◌+◌, ◌-◌, ◌<◌, ◌≤◌, List, [], ◌∷◌, ◌++◌, replicate, get_or, length, take, drop, refl, sym, ap, ap₂, subst, ◌∙◌, arith, add-one}
use Rattle.algebra.specs.Fraction.{Fraction, ℚ}
use Rattle.polynomials.specs.Algebra as Algebra
use Rattle.polynomials.specs.Terms.{Terms, Same, times, combination}
use Rattle.polynomials.proofs.Same.{Same-refl}
use Rattle.program_checker.specs.Rows.{PairRow, filled, row_of, chosen, Ascend, AscendFrom}

-- past places where the row is 0
skipped : (d : ℕ) (qs gs : List (Terms Fraction)) → d < length gs
    → combination ℚ (replicate d [] ++ qs) gs ≡ combination ℚ qs (drop d gs)
unfolding combination Algebra.times
skipped zero qs gs l = refl
skipped (suc d) qs [] l = absurd (omega arith)
skipped (suc d) qs (g ∷ gs) l = skipped d qs gs (omega arith)

pub dropped_at : (k : ℕ) (gs : List (Terms Fraction)) → k < length gs
    → drop k gs ≡ get_or gs k [] ∷ drop (suc k) gs
dropped_at k [] l = absurd (omega arith)
dropped_at zero (g ∷ gs) l = refl
dropped_at (suc k) (g ∷ gs) l = dropped_at k gs (omega arith)

dropped_none : (d : ℕ) → drop {A = Terms Fraction} d [] ≡ []
dropped_none zero = refl
dropped_none (suc d) = refl

dropped_twice : (d k : ℕ) (gs : List (Terms Fraction)) → drop d (drop k gs) ≡ drop (k + d) gs
dropped_twice d k [] = ap (drop d) (dropped_none k) ∙ dropped_none d ∙ sym (dropped_none (k + d))
dropped_twice d zero (g ∷ gs) = ap (λ n. drop n (g ∷ gs)) (let e : d ≡ 0 + d = omega arith in e)
dropped_twice d (suc k) (g ∷ gs) = dropped_twice d k gs
    ∙ ap (λ n. drop n (g ∷ gs)) (let e : suc (k + d) ≡ suc k + d = omega arith in e)

length_drop : (k : ℕ) (gs : List (Terms Fraction)) → length (drop k gs) ≡ length gs - k
length_drop zero gs = let e : length gs ≡ length gs - 0 = omega arith in e
length_drop (suc k) [] = let e : 0 ≡ 0 - suc k = omega arith in e
length_drop (suc k) (g ∷ gs) = length_drop k gs
    ∙ (let e : length gs - k ≡ suc (length gs) - suc k = omega arith in e)

filled_is : (k : ℕ) (js : List ℕ) (qs gs : List (Terms Fraction)) → AscendFrom k (length gs) js
    → combination ℚ (filled k js qs) (drop k gs) ≡ combination ℚ qs (chosen gs js)
unfolding combination filled AscendFrom
filled_is k [] [] gs a = refl
filled_is k [] (q ∷ qs) gs a = refl
filled_is k (j ∷ js) [] gs a = refl
filled_is k (j ∷ js) (q ∷ qs) gs a =
    let e : k + (j - k) ≡ j = omega (arith, a.0) in
    let l : j - k < length (drop k gs) = omega (arith, a.0, a.1, length_drop k gs) in
    skipped (j - k) (q ∷ filled (suc j) js qs) (drop k gs) l
    ∙ ap (combination ℚ (q ∷ filled (suc j) js qs))
    (dropped_twice (j - k) k gs ∙ ap (λ n. drop n gs) e ∙ dropped_at j gs a.1)
    ∙ ap (λ (r : Terms Fraction). times ℚ q (get_or gs j []) ++ r) (filled_is (suc j) js qs gs a.2)

ascend_past : (k n : ℕ) (js : List ℕ) → (0 < length js → k ≤ get_or js 0 0)
    → ((i : ℕ) → i < length js → get_or js i 0 < n)
    → ((i : ℕ) → suc i < length js → get_or js i 0 < get_or js (suc i) 0) → AscendFrom k n js
unfolding AscendFrom
ascend_past k n [] first within above = tt
ascend_past k n (j ∷ js) first within above = (
  first (omega arith),
  within 0 (omega arith),
  ascend_past (suc j) n js (λ l. let h : j < get_or js 0 0 = above 0 (omega arith) in omega arith)
      (λ i l. within (suc i) (omega arith)) (λ i l. above (suc i) (omega arith)),
)

ascend_from : (n : ℕ) (js : List ℕ) → Ascend n js → AscendFrom 0 n js
ascend_from n js a = ascend_past 0 n js (λ l. omega arith) a.within a.above

pub combination-row_of : (r : PairRow) (gs : List (Terms Fraction))
    → Ascend (length gs) r.positions
    → combination ℚ (row_of r) gs ≡ combination ℚ r.cofactors (chosen gs r.positions)
combination-row_of r gs a = filled_is 0 r.positions r.cofactors gs
    (ascend_from (length gs) r.positions a)

get_or_any : (js : List ℕ) (i d e : ℕ) → i < length js → get_or js i d ≡ get_or js i e
get_or_any [] i d e l = absurd (omega arith)
get_or_any (j ∷ js) zero d e l = refl
get_or_any (j ∷ js) (suc i) d e l = get_or_any js i d e (omega arith)

pub position_in : (n : ℕ) (js : List ℕ) → Ascend n js → (i d : ℕ) → i < length js
    → get_or js i d < n
position_in n js a i d l = subst (λ x. x < n) (get_or_any js i 0 d l) (a.within i l)

pub none_before : (qs gs : List (Terms Fraction)) (p : Terms Fraction) → p ≡ []
    → Same ℚ p (combination ℚ (take 0 qs) (take 0 gs))
unfolding combination
none_before qs gs p e = subst (λ x. Same ℚ x []) (sym e) (Same-refl ℚ [])

pub dropped_item : (gs : List (Terms Fraction)) (i : ℕ) (g : Terms Fraction) → i < length gs
    → g ≡ get_or gs i [] → drop i gs ≡ g ∷ drop (i + 1) gs
dropped_item gs i g l is = dropped_at i gs l
    ∙ ap₂ (λ (x : Terms Fraction) j. x ∷ drop j gs) (sym is) (sym (add-one i))

pub dropped_past : (gs : List (Terms Fraction)) (i : ℕ) → length gs ≤ i → drop i gs ≡ []
dropped_past [] i l = dropped_none i
dropped_past (g ∷ gs) zero l = absurd (omega arith)
dropped_past (g ∷ gs) (suc i) l = dropped_past gs i (omega arith)
