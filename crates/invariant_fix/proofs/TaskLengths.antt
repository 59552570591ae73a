-- How long tasks are, by their states.
--   work_is, closing_is        a work's task, and a closing test
--   orbit_is, iteration_is          the works that are an orbit and one iteration
--   fresh_short, starts_short, turning_short     the beginning, the first task, and the beginning of a round
--   starts_few, meet_few, iteration_meet_few     the works that begin with no composition
--   work_short, closing_short  the states of a task that isn't too long
--   alike_length               settings that differ in their starts alone
use Rattle.std.proofs.Common.{◌≡◌, ◌<◌, ℕ, List, [], get_or, refl, sym, subst, arith}
use Rattle.algebra.specs.Fraction.{Fraction}
use Rattle.polynomials.specs.Terms.{Terms}
use Rattle.machines.specs.Division as division
use Rattle.machines.specs.Elimination as elimination
use Rattle.rounds.specs.Analysis.{Setting, Work, State, fresh, working, closing, turning, asking, starts, iteration, iteration_meet, orbit, meet, form_of}
use Rattle.rounds.proofs.Settings.{with_starts}
use Rattle.expansion.specs.Counts.{most_terms}
use Rattle.expansion.specs.Lengths.{composition_length}
use Rattle.invariant_fix.specs.Long.{orbit_length, iteration_length, work_length, task_length, IsLong}

module _ (A : Setting) where
  pub work_is : (w : Work) (s : elimination.State Fraction)
      → work_length A w ≡ task_length A (working w s)
  unfolding task_length
  work_is w s = refl

  pub closing_is : (k b i : ℕ) (gs : List (Terms Fraction)) (s : division.State Fraction)
      → composition_length (get_or gs i []) (get_or A.maps b [])
      ≡ task_length A (closing k b i gs s)
  unfolding task_length
  closing_is k b i gs s = refl

  pub orbit_is : (k b : ℕ) (gs hs : List (Terms Fraction))
      → orbit_length (form_of A b) A.arity gs ≡ work_length A (orbit k b gs hs)
  unfolding work_length
  orbit_is k b gs hs = refl

  pub iteration_is : (k b n : ℕ) (gs ks hs : List (Terms Fraction))
      → iteration_length (form_of A b) A.arity (get_or A.maps b []) ks
      ≡ work_length A (iteration k b n gs ks hs)
  unfolding work_length
  iteration_is k b n gs ks hs = refl

  pub fresh_short : IsLong A fresh → ⊥
  unfolding task_length
  fresh_short h = omega (arith, h)

  pub starts_short : (s : elimination.State Fraction) → IsLong A (working starts s) → ⊥
  unfolding task_length work_length
  starts_short s h = omega (arith, h)

  pub turning_short : (k : ℕ) (gs : List (Terms Fraction)) → IsLong A (turning k gs) → ⊥
  unfolding task_length
  turning_short k gs h = omega (arith, h)

  pub starts_few : most_terms < work_length A starts → ⊥
  unfolding work_length
  starts_few h = omega (arith, h)

  pub meet_few : (k b : ℕ) (gs hs ks : List (Terms Fraction))
      → most_terms < work_length A (meet k b gs hs ks) → ⊥
  unfolding work_length
  meet_few k b gs hs ks h = omega (arith, h)

  pub iteration_meet_few : (k b n : ℕ) (gs hs ks : List (Terms Fraction))
      → most_terms < work_length A (iteration_meet k b n gs hs ks) → ⊥
  unfolding work_length
  iteration_meet_few k b n gs hs ks h = omega (arith, h)

  pub work_short : (w : Work) (s : elimination.State Fraction)
      → (most_terms < work_length A w → ⊥) → IsLong A (working w s) → ⊥
  work_short w s few l = few (subst (λ n. most_terms < n) (sym (work_is w s)) l)

  pub closing_short : (k b i : ℕ) (gs : List (Terms Fraction)) (s : division.State Fraction)
      → (most_terms < composition_length (get_or gs i []) (get_or A.maps b []) → ⊥)
      → IsLong A (closing k b i gs s) → ⊥
  closing_short k b i gs s few l = few (subst (λ n. most_terms < n) (sym (closing_is k b i gs s)) l)

pub alike_length : (A : Setting) (ss : List (Terms Fraction)) (t : State)
    → task_length (with_starts A ss) t ≡ task_length A t
unfolding task_length work_length
alike_length A ss fresh = refl
alike_length A ss (working starts u) = refl
alike_length A ss (working (iteration k b n gs before so_far) u) = refl
alike_length A ss (working (iteration_meet k b n gs so_far ks) u) = refl
alike_length A ss (working (orbit k b gs so_far) u) = refl
alike_length A ss (working (meet k b gs so_far hs) u) = refl
alike_length A ss (closing k b i gs u) = refl
alike_length A ss (turning k gs) = refl
alike_length A ss (asking k gs u) = refl
