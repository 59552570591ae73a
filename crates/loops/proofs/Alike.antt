-- Effects at the same polynomials are the same polynomials.
--   same_value, same_branch     values of an expression, and states after a branch
use Rattle.std.proofs.Common.{ℕ, List, [], ◌∷◌}
use Rattle.std.specs.List.{AllZip}
use Rattle.algebra.specs.Fraction.{Fraction, ℚ}
use Rattle.algebra.proofs.Fractions.{ℚ_ring}
use Rattle.polynomials.specs.Terms.{Terms, Same, AllSame, constant, lists}
use Rattle.polynomials.proofs.Same.{Same-refl, same_append, same_times, same_negate}
use Rattle.loops.specs.Program.{Expr, Statement}
use Rattle.loops.specs.Effect.{value_of, after_branch}
use Rattle.loops.proofs.Effects.{Keeps, value-kept, branch-kept}

all_alike : (s t : List (Terms Fraction)) → AllSame ℚ s t → AllZip (Same ℚ) s t
unfolding AllSame
all_alike [] [] h = tt
all_alike [] (q ∷ t) h = absurd h
all_alike (p ∷ s) [] h = absurd h
all_alike (p ∷ s) (q ∷ t) h = (h.0, all_alike s t h.1)

all_same : (s t : List (Terms Fraction)) → AllZip (Same ℚ) s t → AllSame ℚ s t
unfolding AllSame
all_same [] [] h = tt
all_same [] (q ∷ t) h = absurd h
all_same (p ∷ s) [] h = absurd h
all_same (p ∷ s) (q ∷ t) h = (h.0, all_same s t h.1)

module _ (m : ℕ) where
  alike_kept : Keeps (lists ℚ m) (lists ℚ m) (constant m) (constant m) (Same ℚ)
  alike_kept = record {
    zero_kept = Same-refl ℚ [];
    one_kept = Same-refl ℚ (constant m ℚ.one);
    add_kept = λ a c b d h k. same_append ℚ_ring h k;
    mul_kept = λ a c b d h k. same_times ℚ_ring h k;
    neg_kept = λ a b h. same_negate ℚ_ring h;
    number_kept = λ c. Same-refl ℚ (constant m c);
  }

  module _ (s t : List (Terms Fraction)) (h : AllSame ℚ s t) where
    pub same_value : {At : Type 0} → (e : Expr At) → Same ℚ (value_of (lists ℚ m) (constant m) s e)
        (value_of (lists ℚ m) (constant m) t e)
    same_value e = value-kept _ _ _ _ (Same ℚ) alike_kept s t (all_alike s t h) e

    pub same_branch : {At : Type 0} → (cs : List (Statement (Expr At)))
        → AllSame ℚ (after_branch (lists ℚ m) (constant m) cs s)
        (after_branch (lists ℚ m) (constant m) cs t)
    same_branch cs = all_same _ _ (branch-kept _ _ _ _ (Same ℚ) alike_kept cs s t (all_alike s t h))
