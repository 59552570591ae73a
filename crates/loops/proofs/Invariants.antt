-- The invariants of a program are an ideal, and one isn't among them where each loop has a start.
--   end_is_state         the end of a run is a state
--   same_invariant, zero_invariant, sum_invariant, multiple_invariant
--   start_run, start_from_is      the run of no letters, from any state of a well-formed program; what start_from gives is a start
--   one_no_invariant     so one is no invariant of a well-formed program
use Rattle.std.proofs.Common.{List, [], ◌++◌, length, replicate, refl, sym, ap, ap₂, ◌∙◌}
use Rattle.std.proofs.lemmas.Simd.{length-replicate}
use Rattle.algebra.specs.Each.{Each}
use Rattle.algebra.specs.Sum.{sum_over}
use Rattle.algebra.proofs.RingLaws.{mul-zero}
use Rattle.algebra.specs.Fraction.{Fraction, ℚ}
use Rattle.algebra.proofs.Fractions.{ℚ_ring, fractions_field}
use Rattle.polynomials.specs.Terms.{Terms, Same, constant, times, evaluate, value_at}
use Rattle.polynomials.specs.Polynomial.{Arity}
use Rattle.polynomials.proofs.Arity.{arity-append, arity-times}
use Rattle.polynomials.proofs.ValueAt.{value_at_same, value_at-append, value_at-times, value_at-constant}
use Rattle.loops.specs.Program.{Expr, Program}
use Rattle.loops.specs.Effect.{start_from}
use Rattle.loops.specs.Run.{Run, run_end, IsState, IsStart}
use Rattle.loops.specs.Inv.{Inv}
use Rattle.loops.specs.WellFormed.{IsWellFormed}
use Rattle.loops.proofs.Starts.{start_from_holds}
use Rattle.loops.proofs.Runs.{run_keeps}
use Rattle.loops.proofs.Maps.{effect_keeps_state, start_keeps_state}

module _ {At : Type 0} (program : Program (Expr At)) where
  pub end_is_state : (r : Run program) → IsState program r.end
  end_is_state r = run_keeps program (IsState program) (λ s b branch is h.
      effect_keeps_state program branch s h) r.word r.start r.end r.is_start.state r.is_end

  pub same_invariant : (p q : Terms Fraction) → Arity (length program.names) q → Same ℚ p q
      → Inv program p → Inv program q
  same_invariant p q a h i = record {
    arity = a;
    zero = λ r. sym (value_at_same ℚ_ring p q r.end h)
        ∙ i.zero r;
  }

  pub zero_invariant : Inv program []
  unfolding Each evaluate sum_over
  zero_invariant = record { arity = tt; zero = λ r. refl }

  pub sum_invariant : (p q : Terms Fraction) → Inv program p → Inv program q → Inv program (p ++ q)
  sum_invariant p q i j = record {
    arity = arity-append (length program.names) p q i.arity j.arity;
    zero = λ r. value_at-append ℚ_ring p q r.end ∙ ap₂ ℚ.add (i.zero r) (j.zero r)
        ∙ ℚ_ring.add-zero ℚ.zero;
  }

  pub multiple_invariant : (p q : Terms Fraction) → Arity (length program.names) p → Inv program q
      → Inv program (times ℚ p q)
  multiple_invariant p q a j = record {
    arity = arity-times (length program.names) ℚ p q a j.arity;
    zero = λ r. value_at-times ℚ_ring p q r.end ∙ ap (ℚ.mul (value_at ℚ p r.end)) (j.zero r)
        ∙ mul-zero ℚ_ring (value_at ℚ p r.end);
  }

  pub start_from_is : IsWellFormed program → (s : List Fraction) → IsState program s
      → IsStart program (start_from ℚ (λ c. c) program s)
  start_from_is w s is = record {
    state = start_keeps_state program s is;
    holds = start_from_holds ℚ (λ c. c) program w s is;
  }

  pub start_run : IsWellFormed program → (s : List Fraction) → IsState program s → Run program
  unfolding run_end
  start_run w s is = record {
    start = start_from ℚ (λ c. c) program s;
    word = [];
    end = start_from ℚ (λ c. c) program s;
    is_start = start_from_is w s is;
    is_end = refl;
  }

  pub one_no_invariant : IsWellFormed program → Inv program (constant (length program.names) ℚ.one)
      → ⊥
  one_no_invariant w i =
      let r = start_run w (replicate (length program.names) ℚ.zero)
      (length-replicate (length program.names) ℚ.zero) in
      fractions_field.one-ne-zero (sym (value_at-constant ℚ_ring (length program.names) ℚ.one r.end)
      ∙ i.zero r)
