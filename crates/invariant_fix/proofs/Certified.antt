-- The basis that an analysis ends with, and the cofactors of its closing divisions: a valid certificate.
--   closed_valid
--   row_long           a closing division has as many cofactors as there are elements
use Rattle.std.proofs.Common.{◌≡◌, ◌≢◌, ℕ, ◌<◌, List, [], ◌++◌, length, get_or, Option, None, refl, sym, ap, subst, ◌∙◌, arith}
use Rattle.std.specs.Prelude.{Some, slice_get}
use Rattle.std.proofs.lemmas.List.{append-nil}
use Rattle.algebra.proofs.In.{in_get}
use Rattle.algebra.specs.Fraction.{Fraction, ℚ, rationals}
use Rattle.algebra.proofs.Fractions.{ℚ_field}
use Rattle.polynomials.specs.Order.{grevlex}
use Rattle.polynomials.specs.Polynomial.{IsPolynomial}
use Rattle.polynomials.specs.Terms.{Terms, Same, combination}
use Rattle.polynomials.proofs.Orders.{grevlex_order}
use Rattle.polynomials.proofs.Same.{Same-sym, Same-trans}
use Rattle.machines.specs.Basis.{AtPlaces}
use Rattle.machines.specs.Division as division
use Rattle.machines.specs.Reduced.{IsReducedFor}
use Rattle.machines.proofs.Dividing.{division_sum, kept_begun, kept_run}
use Rattle.machines.proofs.Elements.{IsElement}
use Rattle.machines.proofs.Places.{in_slice}
use Rattle.loops.specs.Certificate.{IsValid}
use Rattle.loops.specs.Inv.{Inv}
use Rattle.loops.specs.Map.{branch_map, composition}
use Rattle.loops.specs.Program.{Expr, Program}
use Rattle.loops.specs.Run.{run_end}
use Rattle.loops.specs.WellFormed.{IsWellFormed}
use Rattle.rounds.specs.Analysis.{Setting, pullback}
use Rattle.rounds.specs.Form.{Form}
use Rattle.rounds.specs.Journal.{setting_from}
use Rattle.rounds.specs.Word.{IsZeroAtStarts}
use Rattle.rounds.proofs.Start.{passes_start}
use Rattle.rounds.proofs.Turned.{turned_polynomial, turned_same}
use Rattle.invariant_fix.specs.Closing.{IsClosing, AreSteps}

module _ (program : Program (Expr ℕ)) (w : IsWellFormed program)
    (given : Option (List (Terms Fraction))) (forms : List Form) (count : length forms
    ≡ length program.branches) where
  abbrev A : Setting
  A = setting_from program given forms None

  abbrev m : ℕ
  m = length program.names

  abbrev the_map : ℕ → List (Terms Fraction)
  the_map b = branch_map program (get_or program.branches b [])

  -- ---- as many cofactors as elements
  module _ (gs : List (Terms Fraction)) (I : Terms Fraction → Type 0)
      (reduced : IsReducedFor rationals grevlex (length program.names) gs I) where
    pub row_long : {qs : List (Terms Fraction)} (b i : ℕ) → b < length program.branches
        → i < length gs → IsClosing A b i gs qs → length qs ≡ length gs
    row_long b i lb li c =
        let p = pullback A b (get_or gs i []) in
        let elements : (k : ℕ) (g : Terms Fraction) → slice_get gs k ≡ Some g
        → IsElement ℚ_field grevlex grevlex_order m g = λ k g at. (let i = in_slice gs k g at in
        record { polynomial = reduced.polynomials g i; nonzero = reduced.nonzero g i }) in
        ap length c.cofactors
        ∙ (kept_run ℚ_field grevlex grevlex_order m gs elements p (division.initial_state gs p)
        c.last
        c.leads.events c.leads.run (kept_begun ℚ_field grevlex grevlex_order m gs elements p
        (turned_polynomial program given forms None b (get_or gs i []) lb))).count

  -- ---- the certificate
  zero_at_starts : (p : Terms Fraction) → Inv program p → IsZeroAtStarts program p
  unfolding run_end
  zero_at_starts p i =
      record {
        zero = λ s is. i.zero (record {
          start = s;
          word = [];
          end = s;
          is_start = is;
          is_end = refl;
        });
      }

  module _ {gs : List (Terms Fraction)}
      (reduced : IsReducedFor rationals grevlex (length program.names) gs (Inv program)) where
    invariant_at : (i : ℕ) → i < length gs → Inv program (get_or gs i [])
    invariant_at i l = reduced.members (get_or gs i []) (in_get gs i [] l)

    places : AtPlaces (λ g. IsPolynomial ℚ grevlex m g × (g ≢ [])) gs
    places k g e = let i = in_slice gs k g e in (reduced.polynomials g i, reduced.nonzero g i)

    step_passes : {qs : List (Terms Fraction)} (b i : ℕ) → b < length program.branches
        → i < length gs → IsClosing A b i gs qs
        → Same ℚ (composition program (get_or gs i []) (the_map b)) (combination ℚ qs gs)
    step_passes {qs = qs} b i lb li c =
        let g = get_or gs i [] in
        let a = (invariant_at i li).arity in
        let sum = division_sum ℚ_field grevlex grevlex_order m gs (pullback A b g) c.last
        c.leads.events places (turned_polynomial program given forms None b g lb) c.leads.run in
        let rest : division.remainder c.last ≡ [] = ap division.remainder_of c.gone in
        let is : combination ℚ c.last.cofactors gs ++ division.remainder c.last ≡ combination ℚ qs
        gs =
        ap (λ r. combination ℚ c.last.cofactors gs ++ r) rest
        ∙ append-nil (combination ℚ c.last.cofactors gs)
        ∙ ap (λ l. combination ℚ l gs) (sym c.cofactors) in
        Same-trans ℚ (Same-sym ℚ (turned_same program given forms None b g a lb))
        (subst (Same ℚ (pullback A b g)) is sum)

    pub closed_valid : {qs : List (List (List (Terms Fraction)))}
        → AreSteps (setting_from program given forms None) gs qs
        → IsValid program (record { basis = gs; steps = qs })
    closed_valid {qs = qs} s = record {
      starts = λ i l. (let v = invariant_at i l in passes_start program w (get_or gs i []) v.arity
          (zero_at_starts (get_or gs i []) v));
      steps = λ b i lb li. step_passes b i lb li ((s.each b (omega (arith, lb, count))).each i li);
    }
