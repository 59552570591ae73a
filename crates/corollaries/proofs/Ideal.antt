-- The invariants of a chain are an ideal, and one is none of them.
--   same_invariant, zero_invariant, sum_invariant, multiple_invariant
--   some_run             a chain has a run, of words without letters
--   one_no_invariant
use Rattle.std.proofs.Common.{List, [], ◌++◌, length, map, replicate, refl, sym, ap, ap₂, ◌∙◌, arith}
use Rattle.std.proofs.lemmas.Simd.{length-replicate}
use Rattle.algebra.specs.Each.{Each}
use Rattle.algebra.specs.Sum.{sum_over}
use Rattle.algebra.proofs.RingLaws.{mul-zero}
use Rattle.algebra.specs.Fraction.{Fraction, ℚ}
use Rattle.algebra.proofs.Fractions.{ℚ_ring, fractions_field}
use Rattle.polynomials.specs.Terms.{Terms, Same, constant, times, evaluate, value_at}
use Rattle.polynomials.specs.Polynomial.{Arity}
use Rattle.polynomials.proofs.Arity.{arity-append, arity-times}
use Rattle.polynomials.proofs.ValueAt.{value_at_same, value_at-append, value_at-times, value_at-constant}
use Rattle.loops.specs.Effect.{start_from}
use Rattle.loops.specs.Program.{Expr}
use Rattle.loops.proofs.Invariants.{start_from_is}
use Rattle.loops.specs.Chain.{Chain, stages_of, ChainRun, ChainInv, IsChain}
use Rattle.loops.proofs.ChainRuns.{no_letters}

module _ {At : Type 0} (c : Chain (Expr At)) where
  pub same_invariant : (p q : Terms Fraction) → Arity (length c.first.names) q → Same ℚ p q
      → ChainInv c p → ChainInv c q
  same_invariant p q a h i = record {
    arity = a;
    zero = λ r. sym (value_at_same ℚ_ring p q r.end h)
        ∙ i.zero r;
  }

  pub zero_invariant : ChainInv c []
  unfolding Each evaluate sum_over
  zero_invariant = record { arity = tt; zero = λ r. refl }

  pub sum_invariant : (p q : Terms Fraction) → ChainInv c p → ChainInv c q → ChainInv c (p ++ q)
  sum_invariant p q i j = record {
    arity = arity-append (length c.first.names) p q i.arity j.arity;
    zero = λ r. value_at-append ℚ_ring p q r.end ∙ ap₂ ℚ.add (i.zero r) (j.zero r)
        ∙ ℚ_ring.add-zero ℚ.zero;
  }

  pub multiple_invariant : (p q : Terms Fraction) → Arity (length c.first.names) p → ChainInv c q
      → ChainInv c (times ℚ p q)
  multiple_invariant p q a j = record {
    arity = arity-times (length c.first.names) ℚ p q a j.arity;
    zero = λ r. value_at-times ℚ_ring p q r.end ∙ ap (ℚ.mul (value_at ℚ p r.end)) (j.zero r)
        ∙ mul-zero ℚ_ring (value_at ℚ p r.end);
  }

  pub some_run : IsChain c → ChainRun c
  some_run w =
      let zeros : List Fraction = replicate (length c.first.names) ℚ.zero in
      let s : List Fraction = start_from ℚ (λ x. x) c.first zeros in
      let mapped = no_letters c.first (stages_of c) s in
      record {
        start = s;
        words = map (λ g. []) (stages_of c);
        end = mapped.0;
        is_start = start_from_is c.first (w.formed 0 (omega arith)) zeros
            (length-replicate (length c.first.names) ℚ.zero);
        is_end = mapped.1;
      }

  pub one_no_invariant : IsChain c → ChainInv c (constant (length c.first.names) ℚ.one) → ⊥
  one_no_invariant w i =
      let r = some_run w in
      fractions_field.one-ne-zero (sym (value_at-constant ℚ_ring (length c.first.names) ℚ.one r.end)
      ∙ i.zero r)
