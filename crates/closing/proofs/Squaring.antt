-- The search of vars x; branch { x=x*x; } up to degree 1: x is another number in the first two samples, so nothing is left, and nothing stops it.
--   two_monomials, two     1 and x
--   nothing_left      nothing is left to be closed
--   two_samples       no more samples are taken
--   always_sampled, never_missing     each sample tells something, and no element is missing
use Rattle.std.proofs.Common.{◌≡◌, inl, inr, ℕ, ◌<◌, ℤ, pos, ◌+ℤ◌, ◌*ℤ◌, neg_ℤ, Bool, true, false, cond, List, [], ◌∷◌, map, length, refl, sym, ap, subst, ◌∙◌, Some}
use Rattle.algebra.specs.Arithmetic.{power}
use Rattle.algebra.specs.Fraction as Fraction
use Rattle.algebra.specs.Fraction.{Fraction, fraction, whole, ℚ}
use Rattle.algebra.specs.Gcd.{gcd}
use Rattle.algebra.specs.In.{In}
use Rattle.algebra.specs.Ratio.{Ratio, is_lowest, reduce}
use Rattle.algebra.specs.Sum.{sum_over}
use Rattle.algebra.proofs.Fractions.{ℚ_ring}
use Rattle.algebra.proofs.Wholes.{ratio-whole, product-whole}
use Rattle.polynomials.specs.Algebra as Algebra
use Rattle.polynomials.specs.Exponent.{same, plus, unit_exponents}
use Rattle.polynomials.specs.Terms.{Terms, coefficient, variables, monomial_at}
use Rattle.machines.specs.Journal.{Entry}
use Rattle.loops.specs.Effect.{store, init_statement, value_of, after_statement, after_branch, start_from}
use Rattle.loops.specs.Map.{branch_map, start_map}
use Rattle.loops.specs.Program.{Expr, Statement, mul, variable}
use Rattle.loops.specs.Run.{branch_at, run_end}
use Rattle.loops.proofs.Maps.{start_map_values}
use Rattle.closures.specs.Modulo.{IsResidueOf, AreResidues, HasPivot}
use Rattle.closures.specs.Monomials.{join_below, monomials_up_to}
use Rattle.closures.proofs.Congruent.{congruent_from}
use Rattle.closures.proofs.Residues.{residue_whole, residues_agree}
use Rattle.residue_rows.specs.Modulus.{modulus}
use Rattle.closing.specs.SearchCauses.{IsClosing, IsOutOfSamples, IsNoSample, HasNoElement}
use Rattle.residue_rows.specs.Draws.{number_behind, draws_from, after_draws}
use Rattle.closing.specs.Modulo.{HasNoResidues, IsImage, HasNoMapsModulo}
use Rattle.closing.specs.Samples.{start_at, IsRowOf}
use Rattle.closing.specs.Search.{Part, counted, samples_of, state_of, numbers_of, word_of, monomials, IsRow}
use Rattle.closing.specs.Worked.{squaring}
use Rattle.closing.proofs.TwoRows.{IsRowTo}
use Rattle.closing.proofs.TwoSamples as samples

abbrev q : ℤ
q = pos modulus

abbrev es : List (List ℕ)
es = (0 ∷ []) ∷ (1 ∷ []) ∷ []

pub two_monomials : monomials squaring 1 ≡ (0 ∷ []) ∷ (1 ∷ []) ∷ []
unfolding monomials_up_to join_below
two_monomials = refl

-- ---- the values of x
one_start : (n : ℕ) → start_at squaring (n ∷ []) ≡ whole (pos n) ∷ []
unfolding start_from init_statement after_statement store
one_start n = start_map_values squaring (whole (pos n) ∷ []) refl

no_iteration : (w : Fraction) → run_end squaring [] (w ∷ []) ≡ Some (w ∷ [])
unfolding run_end
no_iteration w = refl

one_iteration : (w : Fraction) → run_end squaring (1 ∷ []) (w ∷ []) ≡ Some (ℚ.mul w w ∷ [])
unfolding run_end branch_at after_branch after_statement store value_of
one_iteration w = refl

monomial_one : (w : Fraction) → monomial_at ℚ (w ∷ []) (0 ∷ []) ≡ whole (pos 1)
unfolding monomial_at power
monomial_one w = ℚ_ring.mul-one (whole (pos 1))

monomial_self : (w : Fraction) → monomial_at ℚ (w ∷ []) (1 ∷ []) ≡ w
unfolding monomial_at power
monomial_self w = ap (λ v. ℚ.mul v (whole (pos 1))) (ℚ_ring.mul-one w) ∙ ℚ_ring.mul-one w

row_to : (z : ℤ) (row : List ℤ) → AreResidues q (map (monomial_at ℚ (whole z ∷ [])) es) row
    → IsRowTo q z row
unfolding AreResidues
row_to z [] r = absurd r
row_to z (u ∷ []) r = absurd r.1
row_to z (u ∷ v ∷ []) r = record {
  width = refl;
  first = residues_agree q (whole (pos 1)) u (pos 1)
      (subst (λ f. IsResidueOf q f u) (monomial_one (whole z)) r.0) (residue_whole q (pos 1));
  second = residues_agree q (whole z) v z
      (subst (λ f. IsResidueOf q f v) (monomial_self (whole z)) r.1.0) (residue_whole q z);
}
row_to z (u ∷ v ∷ w ∷ row) r = absurd r.1.1

module _ (n : ℕ) (row : List ℤ) where
  row_at : (word : List ℕ) (z : ℤ)
      → run_end squaring word (whole (pos n) ∷ []) ≡ Some (whole z ∷ [])
      → IsRowOf squaring q (monomials squaring 1) (n ∷ []) word row → IsRowTo q z row
  row_at word z ends h =
      let run = h.run in
      let from = h.from in
      let told : run_end squaring word (whole (pos n) ∷ []) ≡ Some run.end =
      subst (λ s. run_end squaring word s ≡ Some run.end) (from.start ∙ one_start n)
      (subst (λ w. run_end squaring w run.start ≡ Some run.end) from.is_word run.is_end) in
      let end : run.end ≡ whole z ∷ [] = (let both = sym told ∙ ends in cc) in
      row_to z row
      (subst (λ s. AreResidues q (map (monomial_at ℚ s) es) row) end
      (subst (λ ds. AreResidues q (map (monomial_at ℚ run.end) ds) row) two_monomials h.residues))

-- ---- the first two samples
abbrev first_number : ℕ
first_number = 167951807

abbrev second_number : ℕ
second_number = 218396424

abbrev second_value : ℤ
second_value = pos second_number *ℤ pos second_number

first_numbers : numbers_of squaring [] ≡ first_number ∷ []
unfolding state_of draws_from number_behind
first_numbers = refl

first_word : word_of squaring [] ≡ []
unfolding samples_of draws_from
first_word = refl

second_numbers : (one : List ℤ) → numbers_of squaring (counted one ∷ []) ≡ second_number ∷ []
unfolding state_of samples_of draws_from after_draws number_behind
second_numbers one = refl

second_word : (one : List ℤ) → word_of squaring (counted one ∷ []) ≡ 1 ∷ []
unfolding state_of samples_of draws_from after_draws number_behind
second_word one = refl

first_row : (row : List ℤ) → IsRow squaring 1 [] (word_of squaring []) row
    → IsRowTo q (pos first_number) row
first_row row h =
    row_at first_number row [] (pos first_number) (no_iteration (whole (pos first_number)))
    (subst (λ ns. IsRowOf squaring q (monomials squaring 1) ns [] row) first_numbers
    (subst (λ w. IsRow squaring 1 [] w row) first_word h))

second_row : (one row : List ℤ)
    → IsRow squaring 1 (counted one ∷ []) (word_of squaring (counted one ∷ [])) row
    → IsRowTo q second_value row
second_row one row h =
    let w = whole (pos second_number) in
    row_at second_number row (1 ∷ []) second_value
    (one_iteration w
    ∙ ap (λ v. Some (v ∷ [])) (product-whole (pos second_number) (pos second_number)))
    (subst (λ ns. IsRowOf squaring q (monomials squaring 1) ns (1 ∷ []) row) (second_numbers one)
    (subst (λ v. IsRow squaring 1 (counted one ∷ []) v row) (second_word one) h))

apart : HasPivot q (second_value +ℤ neg_ℤ (pos first_number))
apart = record {
  inverse = pos 85378318683599348861608561064373264540;
  is = congruent_from q
      ((second_value +ℤ neg_ℤ (pos first_number)) *ℤ pos 85378318683599348861608561064373264540)
      (pos 1) (pos 23934766408079717) refl;
}

-- ---- the maps
abbrev one_power : ℕ → Terms Fraction
one_power k = (k ∷ [], whole (pos 1)) ∷ []

abbrev squares : List (Statement (Expr ℕ))
squares = record { targets = 0 ∷ []; values = mul 20 (variable 0) (variable 0) ∷ [] } ∷ []

start_is : start_map squaring ≡ one_power 1 ∷ []
unfolding start_map start_from init_statement after_statement store variables unit_exponents
start_is = refl

branch_is : branch_map squaring squares ≡ one_power 2 ∷ []
unfolding branch_map after_branch after_statement store value_of variables unit_exponents
    Algebra.times Algebra.shift plus fraction Fraction.product is_lowest reduce gcd
branch_is = refl

den_one : (z : ℤ) → (whole z).den ≡ 1
den_one z = ap (λ (r : Ratio). r.den) (ratio-whole z)

pivot_one : (f : Fraction) → f.den ≡ 1 → HasPivot q (pos f.den)
pivot_one f is = subst (λ k. HasPivot q (pos k)) (sym is) (record {
  inverse = pos 1;
  is = congruent_from q (pos 1 *ℤ pos 1) (pos 1) (pos 0) refl;
})

number_whole : (k : ℕ) (e : List ℕ) → (coefficient ℚ (one_power k) e).den ≡ 1
unfolding Algebra.coefficient sum_over
number_whole k e = go (same e (k ∷ []))
  where
    go : (b : Bool) → (ℚ.add (cond b (whole (pos 1)) ℚ.zero) ℚ.zero).den ≡ 1
    go true =
        ap (λ (f : Fraction). f.den) (ℚ_ring.add-zero (whole (pos 1))) ∙ den_one (pos 1)
    go false =
        ap (λ (f : Fraction). f.den) (ℚ_ring.add-zero ℚ.zero) ∙ den_one (pos 0)

has_residues : (k : ℕ) (p : Terms Fraction) → In p (one_power k ∷ []) → HasNoResidues q p → ⊥
has_residues k p (inl e) h =
    let n = subst (HasNoResidues q) e h in
    n.none (pivot_one (coefficient ℚ (one_power k) n.monomial) (number_whole k n.monomial))
has_residues k p (inr i) h = i

has_maps : HasNoMapsModulo squaring q → ⊥
has_maps h = go h.is
  where
    go : IsImage squaring h.image → ⊥
    go (inl i) = has_residues 1 h.image (subst (In h.image) start_is i) h.none
    go (inr (branch, inl e, i)) =
        has_residues 2 h.image
        (subst (In h.image) (ap (branch_map squaring) e ∙ branch_is) i) h.none
    go (inr (branch, inr n, i)) = n

-- ---- what follows
pub two : length (monomials squaring 1) ≡ 2
two = ap length two_monomials

pub nothing_left : (before : List Entry) (ps : List Part) (gs : List (Terms Fraction))
    → IsClosing squaring 1 before ps gs → gs ≡ []
nothing_left =
    samples.closings_empty squaring 1 two (pos first_number) second_value apart first_row
    second_row

pub two_samples : (es : List Entry) (k : ℕ) → IsOutOfSamples squaring 1 es k → k < 2
two_samples =
    samples.samples_few squaring 1 two (pos first_number) second_value apart first_row second_row

pub always_sampled : (es : List Entry) → IsNoSample squaring 1 es → ⊥
always_sampled fs (inl h) = has_maps h
always_sampled fs (inr (inl h)) =
    samples.always_pivot squaring 1 two (pos first_number) second_value apart first_row second_row
    fs h
always_sampled fs (inr (inr h)) =
    samples.always_news squaring 1 two (pos first_number) second_value apart first_row second_row
    fs h

pub never_missing : (es : List Entry) (e : List ℕ) → HasNoElement squaring 1 es e → ⊥
never_missing =
    samples.never_missing squaring 1 two (pos first_number) second_value apart first_row second_row
