-- Greatest degrees.
--   degree_is                   the degree of a polynomial that has one
--   greatest_start, greatest_more, greatest_all     the steps of a loop over polynomials, and its end
use Rattle.std.proofs.Common.{◌≡◌, ℕ, zero, suc, ◌+◌, ◌<◌, ◌≤◌, List, [], ◌∷◌, length, get_or, drop, refl, sym, ap, subst, ◌∙◌, add-one, arith, All}
use Rattle.std.specs.Prelude.{max, sum}
use Rattle.std.proofs.Math.Seq.{drop-cons}
use Rattle.std.proofs.Math.Nat.{max-le, le-max_left}
use Rattle.std.proofs.lemmas.List.{drop_all}
use Rattle.std.proofs.lemmas.List.Elements.{All-head, All-tail}
use Rattle.algebra.specs.Fraction.{Fraction}
use Rattle.polynomials.specs.Terms.{Terms}
use Rattle.polynomials.specs.Degree.{IsDegree}
use Rattle.poly.specs.Seen.{terms_in, terms_each}
use Rattle.loop_model.specs.FracPoly.{FracPoly}
use Rattle.loop_text.specs.Family.{degree_of, greatest}

below : (d : ℕ) (p : Terms Fraction) → All (λ (t : List ℕ × Fraction). sum t.0 ≤ d) p
    → degree_of p ≤ d
unfolding degree_of
below d [] h = omega arith
below d (t ∷ p) h = max-le (All-head (λ (u : List ℕ × Fraction). sum u.0 ≤ d) t p h)
    (below d p (All-tail (λ (u : List ℕ × Fraction). sum u.0 ≤ d) t p h))

above : (p : Terms Fraction) (k : ℕ) (x : List ℕ × Fraction) → k < length p → get_or p k x ≡ x
    → sum x.0 ≤ degree_of p
unfolding degree_of
above [] k x within is = absurd (omega (arith, within))
above (t ∷ p) zero x within is = subst (λ (u : List ℕ × Fraction).
    sum u.0 ≤ max (sum t.0) (degree_of p)) is (le-max_left (sum t.0) (degree_of p))
above (t ∷ p) (suc k) x within is = let later : sum x.0 ≤ degree_of p =
    above p k x (omega (arith, within)) is in
    let whole : sum x.0 ≤ max (sum t.0) (degree_of p) = omega (arith, later) in
    whole

pub degree_is : (d : ℕ) (p : Terms Fraction) → IsDegree d p → d ≡ degree_of p
degree_is d p is =
    let most : degree_of p ≤ d = below d p is.at_most in
    let least : sum is.reached.1.0 ≤ degree_of p = above p is.reached.0 is.reached.1 is.reached.2
    is.reached.3 in
    let there : sum is.reached.1.0 ≡ d = is.reached.4 in
    omega (arith, most, least, there)

degree-nil : degree_of [] ≡ 0
unfolding degree_of
degree-nil = refl

pub degree_of_zero : (p : Terms Fraction) → p ≡ [] → 0 ≡ degree_of p
degree_of_zero p none = sym (ap degree_of none ∙ degree-nil)

greatest-cons : (g : Terms Fraction) (gs : List (Terms Fraction))
    → greatest (g ∷ gs) ≡ max (degree_of g) (greatest gs)
unfolding greatest
greatest-cons g gs = refl

greatest-nil : greatest [] ≡ 0
unfolding greatest
greatest-nil = refl

-- the greatest so far, and that of those from place i on
abbrev pub GreatestSoFar : List FracPoly → ℕ → ℕ → Type 0
GreatestSoFar gs i so_far = max so_far (greatest (terms_each (drop i gs)))
    ≡ greatest (terms_each gs)

pub greatest_start : (gs : List FracPoly) → GreatestSoFar gs 0 0
greatest_start gs = omega arith

pub greatest_more : (gs : List FracPoly) (i so_far next d : ℕ) (g : FracPoly) → i < length gs
    → g ≡ get_or gs i g → d ≡ degree_of (terms_in g) → next ≡ max d so_far
    → GreatestSoFar gs i so_far → GreatestSoFar gs (i + 1) next
greatest_more gs i so_far next d g within is degree more before =
    let rest : ℕ = greatest (terms_each (drop (i + 1) gs)) in
    let one : drop i gs ≡ g ∷ drop (i + 1) gs = drop-cons gs i g within
    ∙ ap (λ x. x ∷ drop (suc i) gs) (sym is) ∙ ap (λ n. g ∷ drop n gs) (sym (add-one i)) in
    let first : greatest (terms_each (drop i gs)) ≡ max (degree_of (terms_in g)) rest =
    ap (λ xs. greatest (terms_each xs)) one
    ∙ greatest-cons (terms_in g) (terms_each (drop (i + 1) gs)) in
    let joined : max next rest ≡ max so_far (greatest (terms_each (drop i gs))) =
    omega (arith, first, degree, more) in
    joined ∙ before

pub greatest_all : (gs : List FracPoly) (i so_far : ℕ) → length gs ≤ i → GreatestSoFar gs i so_far
    → so_far ≡ greatest (terms_each gs)
greatest_all gs i so_far past before =
    let end : greatest (terms_each (drop i gs)) ≡ 0 = ap (λ xs. greatest (terms_each xs))
    (drop_all i gs past) ∙ greatest-nil in
    let there : max so_far (greatest (terms_each (drop i gs))) ≡ greatest (terms_each gs) =
    before in
    omega (arith, end, there)
