-- The listed polynomials of a valid certificate are invariants: all are zero at a start, and an iteration keeps that.
--   certificate_lists_invariants      each is an invariant
--   arity_at           each of a list of polynomials in m variables is one
use Rattle.std.proofs.Common.{◌≡◌, ℕ, ◌<◌, List, [], length, sym, ap, subst, ◌∙◌, Some}
use Rattle.std.proofs.lemmas.List.Elements.{All-from_get_or}
use Rattle.algebra.specs.Sum.{sum_over}
use Rattle.algebra.specs.Fraction.{Fraction, ℚ}
use Rattle.algebra.proofs.Fractions.{ℚ_ring}
use Rattle.polynomials.specs.Terms.{Same, combination, evaluate, value_at}
use Rattle.polynomials.proofs.ValueAt.{value_at_same, combination_zero}
pub use Rattle.polynomials.proofs.Arity.{arity_at}
use Rattle.loops.specs.Program.{Expr, Program, Statement}
use Rattle.loops.specs.Run.{effect, branch_at, IsState, IsStart}
use Rattle.loops.specs.Inv.{Inv}
use Rattle.loops.specs.Map.{branch_map, composition}
use Rattle.loops.specs.Certificate.{Certificate, IsValid, IsOver, element, cofactors}
use Rattle.loops.proofs.Starts.{start_from_start}
use Rattle.loops.proofs.Runs.{branch_at-some, run_keeps}
use Rattle.loops.proofs.Maps.{effect_keeps_state, value_after_branch, value_at_start}

module _ {At : Type 0} (program : Program (Expr At)) (c : Certificate) (over : IsOver program c)
    (valid : IsValid program c) where
  record AllZero (s : List Fraction) : Type 0 where
    state : IsState program s
    zeros : (i : ℕ) → i < length c.basis → value_at ℚ (element c i) s ≡ ℚ.zero

  zero_at_start : (s : List Fraction) → IsStart program s → AllZero s
  unfolding evaluate sum_over
  zero_at_start s is = record {
    state = is.state;
    zeros = λ i l.
        ap (value_at ℚ (element c i)) (sym (start_from_start ℚ (λ c. c) program s is.holds))
        ∙ sym (value_at_start program (element c i) s is.state)
        ∙ value_at_same ℚ_ring _ [] s (valid.starts i l);
  }

  zero_after_iteration : (s : List Fraction) (b : ℕ) (branch : List (Statement (Expr At)))
      → branch_at program b ≡ Some branch → AllZero s → AllZero (effect program branch s)
  zero_after_iteration s b branch is z = record {
    state = effect_keeps_state program branch s z.state;
    zeros = λ i l.
        let (a, k, same) = branch_at-some program b branch is in
        let iteration =
        subst (λ x. Same ℚ (composition program (element c i) (branch_map program x))
        (combination ℚ (cofactors c a i) c.basis)) same (valid.steps a i k l) in
        sym (value_after_branch program (element c i) branch s z.state)
        ∙ value_at_same ℚ_ring _ _ s iteration
        ∙ combination_zero ℚ_ring (cofactors c a i) c.basis s
        (All-from_get_or (λ g. value_at ℚ g s ≡ ℚ.zero) c.basis [] z.zeros);
  }

  pub certificate_lists_invariants : (i : ℕ) → i < length c.basis → Inv program (element c i)
  certificate_lists_invariants i l = record {
    arity = arity_at (length program.names) c.basis over.arities i;
    zero = λ r. (run_keeps program AllZero zero_after_iteration r.word r.start r.end
        (zero_at_start r.start r.is_start) r.is_end).zeros i l;
  }
