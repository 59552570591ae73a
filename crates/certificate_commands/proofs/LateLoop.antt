-- The loop whose one branch is x = 0 begins late: from one iteration on its state is 0, and at the start it is any.
--   reset_form         the form of its branch
--   reset_forms        its closed form
--   reset_have_forms   so each branch has one;  reset_late: it is the first branch that begins late
use Rattle.std.proofs.Common.{◌≡◌, ℕ, zero, suc, ◌<◌, ◌≤◌, List, [], ◌∷◌, length, get_or, refl, sym, ap, subst, ◌∙◌, arith}
use Rattle.algebra.specs.Each.{Each}
use Rattle.algebra.specs.Ring.{CommRing}
use Rattle.algebra.specs.Sum.{sum_over}
use Rattle.algebra.proofs.Basics.{same_head}
use Rattle.algebra.proofs.RingSolver.{ring_rules, ring}
use Rattle.algebra.specs.Gcd.{gcd}
use Rattle.algebra.specs.Ratio.{is_lowest, reduce}
use Rattle.algebra.specs.Fraction as Fraction
use Rattle.algebra.specs.Fraction.{Fraction, fraction, ℚ}
use Rattle.algebra.proofs.Fractions.{ℚ_ring, ℚ_field}
use Rattle.polynomials.specs.Algebra as Algebra
use Rattle.polynomials.specs.Exponent.{same, unit_exponents}
use Rattle.polynomials.specs.Order.{compare, grevlex}
use Rattle.polynomials.specs.Polynomial.{Falls}
use Rattle.polynomials.specs.Terms.{constant, variables, evaluate, monomial_at}
use Rattle.machines.specs.Collect.{collect, insert, place}
use Rattle.loops.specs.Effect.{after_branch, after_statement, store, value_of}
use Rattle.loops.specs.Map.{branch_map}
use Rattle.solvable_maps.specs.Classes.{IsEigenvalue, IsFormBase}
use Rattle.solvable_maps.specs.Iterations.{IsClosedFormFrom, point, iterations, values_at}
use Rattle.rounds.specs.BranchMap.{map_of}
use Rattle.rounds.specs.Word.{branch_of}
use Rattle.rounds.specs.Form.{Form, IsClosedForm}
use Rattle.rounds.specs.Journal.{AreForms}
use Rattle.rounds.proofs.Alone.{own, eigenvalue_is_own}
use Rattle.invariant_fix.specs.Refusals.{AllHaveForms}
use Rattle.full_trace.specs.Late.{IsFirstLate}
use Rattle.analysis_commands.proofs.ResetMap.{gone, reset_loop, reset_splits}

reset_map : map_of reset_loop 1 ≡ gone
unfolding map_of branch_map after_branch after_statement store value_of variables unit_exponents
    constant collect insert place compare grevlex fraction is_lowest gcd
reset_map = refl

-- ---- its base: there is no eigenvalue but 0
eigenvalue_zero : (x : Fraction) → IsEigenvalue gone x → x ≡ ℚ.zero
unfolding Each Algebra.coefficient same sum_over fraction Fraction.sum Fraction.product is_lowest
    reduce gcd
eigenvalue_zero x e =
    let (i, l, is) = eigenvalue_is_own gone ((tt, tt)) tt x e in
    is ∙ go i l
  where
    go : (i : ℕ) → i < 1 → own gone i ≡ ℚ.zero
    go zero l = refl
    go (suc i) l = absurd (omega (arith, l))

gone_base : IsFormBase gone []
unfolding Each
gone_base = record {
  values = [];
  all = λ x e some. absurd (some (eigenvalue_zero x e));
  only = λ x i. absurd i;
  is = record {
    coarsest = record {
      base = record { coprime = tt; products = tt };
      coarsest = λ cs c. tt;
    };
    ascending = tt;
    divides = tt;
  };
}

-- ---- its form
abbrev pub reset_form : Form
reset_form = record { base = []; polys = [] ∷ []; since = 1 }

module _ {A : Type 0} (R : CommRing A) where
  open R use {zero as 𝟘, add as ◌⊕◌, mul as ◌⊗◌}

  infixl 60 ◌⊕◌
  infixl 70 ◌⊗◌
  zero_of : (x : A) → 𝟘 ≡ 𝟘 ⊗ x ⊕ 𝟘
  zero_of x = ring R (x ∷ []) (search ring_rules depth 40) refl

-- one iteration makes the state 0
made_zero : (s : List Fraction)
    → values_at (branch_map reset_loop (branch_of reset_loop 1)) s ≡ ℚ.zero ∷ []
unfolding branch_map after_branch after_statement store value_of variables unit_exponents constant
    fraction is_lowest gcd evaluate sum_over
made_zero s = ap (λ y. y ∷ []) (sym (zero_of ℚ_ring (monomial_at ℚ s (0 ∷ []))))

reset_iterations : (n : ℕ) (s : List Fraction) → length s ≡ 1 → 1 ≤ n
    → values_at ([] ∷ []) (point [] n s)
    ≡ iterations (branch_map reset_loop (branch_of reset_loop 1)) n s
unfolding evaluate sum_over
reset_iterations zero s l some = absurd (omega (arith, some))
reset_iterations (suc n) s l some =
    sym (made_zero (iterations (branch_map reset_loop (branch_of reset_loop 1)) n s))

not_at_start : IsClosedFormFrom [] (branch_map reset_loop (branch_of reset_loop 1)) 0 ([] ∷ []) → ⊥
unfolding evaluate sum_over branch_map after_branch after_statement store variables unit_exponents
not_at_start c = ℚ_field.one-ne-zero (sym (same_head (c.values 0 (ℚ.one ∷ []) refl (omega arith))))

reset_is_form : IsClosedForm reset_loop 1 reset_form
unfolding Each Falls branch_map after_branch after_statement store variables unit_exponents
reset_is_form = record {
  base = subst (λ ms. IsFormBase ms []) (sym reset_map) gone_base;
  polynomials = (record { nonzero = tt; arity = tt; falls = tt }, tt);
  normal = (tt, tt);
  form = record { arity = (tt, tt); values = reset_iterations };
  least = λ d c. least d c;
}
  where
    least : (d : ℕ)
        → IsClosedFormFrom [] (branch_map reset_loop (branch_of reset_loop 1)) d ([] ∷ [])
        → 1 ≤ d
    least zero c = absurd (not_at_start c)
    least (suc d) c = omega arith

pub reset_forms : AreForms reset_loop (reset_form ∷ [])
reset_forms = record { count = refl; each = λ b d l. go b d l }
  where
    go : (b : ℕ) (d : Form) → b < 1
        → IsClosedForm reset_loop (suc b) (get_or (reset_form ∷ []) b d)
    go zero d l = reset_is_form
    go (suc b) d l = absurd (omega (arith, l))

pub reset_have_forms : AllHaveForms reset_loop
reset_have_forms b l =
    let split = reset_splits b l in
    record {
      form = get_or (reset_form ∷ []) b reset_form;
      is = reset_forms.each b reset_form l;
      solvable = split.0;
      pass = split.1;
      short = split.2;
    }

pub reset_late : IsFirstLate reset_loop 0
reset_late = record {
  forms = reset_form ∷ [];
  are_forms = reset_forms;
  within = omega arith;
  late = omega arith;
  before = λ c l. absurd (omega (arith, l));
}
