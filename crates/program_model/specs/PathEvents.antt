-- What is done to an open path: the operations that form its polynomials, and its unknowns, in order.
--   most_unknowns                the most unknowns of a path
--   places n cs k                of n variables, behind the steps cs: how many variables the polynomials have, with k unknowns of the next step
--   behind n cs j k              what the variables are there, and behind them the first j of the k unknowns
--   unknown_at m i               the variable i of m
--   side k                       the left side less the right side
--   goal_events n k              what an assertion of k forms: its side at n variables that may be anything
--   less_one at                  the variable 0 times the variable 1, less 1
--   inverse_events m at i h      the unknown i, and what has to be 0 where it is the inverse of h
--   divisor_events, divisors_events n cs j ..     one divisor, and some in turn, where j are done
--   assign_events n cs a, compare_events n cs k b, step_events n cs c     an assignment; that a comparison is true (b), or false; a step
--   asked b k                    the step that the comparison k is true (b), or false
--   true_steps ks, false_steps b ks          the steps that each of ks is true, and that the one comparison is false, where it stands alone (b)
--   true_events n cs ks, false_events n cs b ks     what is done there
use Rattle.std.specs.Prelude.{ℕ, suc, ◌+◌, pos, Bool, true, false, not, List, [], ◌∷◌, ◌++◌, map, get_or, take, drop, length}
use Rattle.algebra.specs.Fraction.{Fraction, ℚ}
use Rattle.polynomials.specs.Terms.{Terms, constant, variables, lists}
use Rattle.loops.specs.Program as loops
use Rattle.loops.specs.Program.{Expr}
use Rattle.flows.specs.Steps as steps
use Rattle.flows.specs.Guards as guards
use Rattle.flows.specs.Paths.{all_unknowns, after_all}
use Rattle.loop_model.specs.Operations.{value, operations, operations_all}
use Rattle.program_model.specs.Program.{Comparison, Divisor, Assignment, Step, assign, choose, assume}
use Rattle.program_model.specs.Code.{told}
use Rattle.program_model.specs.Events.{Event, counts, all_formed}

abbrev pub E : Type 0
E = Expr ℕ

abbrev pub most_unknowns : ℕ
most_unknowns = 16

abbrev pub unknown_at : ℕ → ℕ → Terms Fraction
unknown_at m i = get_or (variables ℚ m) i []

abbrev pub side : Comparison E → E
side k = loops.sub k.at k.left k.right

abbrev pub goal_events : ℕ → Comparison E → List Event
goal_events n k = all_formed n (operations n (variables ℚ n) (side k))

abbrev pub less_one : ℕ → E
less_one at = loops.sub at (loops.mul at (loops.variable 0) (loops.variable 1))
    (loops.number (pos 1))

abbrev pub inverse_events : ℕ → ℕ → ℕ → Terms Fraction → List Event
inverse_events m at i h =
    counts at (suc i) most_unknowns
    ∷ all_formed m (operations m (unknown_at m i ∷ h ∷ []) (less_one at))

-- whether the sides of a comparison are equal where it is true (b), or false
abbrev pub are_equal : Bool → Bool → Bool
are_equal true b = b
are_equal false b = not b

module _ (n : ℕ) (cs : List (steps.Step E)) where
  abbrev pub places : ℕ → ℕ
  places k = all_unknowns cs + k + n

  unfoldable pub behind : ℕ → ℕ → List (Terms Fraction)
  behind j k =
      let m = places k in
      let a = all_unknowns cs in
      let xs = variables ℚ m in
      after_all (lists ℚ m) (constant m) cs (take a xs) (drop (a + k) xs) ++ take j (drop a xs)

  abbrev pub at_path : ℕ → ℕ → E → List Event
  at_path j k e = all_formed (places k) (operations (places k) (behind j k) e)

  abbrev pub inverted : ℕ → ℕ → ℕ → E → List Event
  inverted j k at e =
      at_path j k e
      ++ inverse_events (places k) at (all_unknowns cs + j) (value (places k) (behind j k) e)

  abbrev pub divisor_events : ℕ → Divisor E → List Event
  divisor_events j d = inverted j (suc j) d.at d.value

  unfoldable pub divisors_events : ℕ → List (Divisor E) → List Event
  divisors_events j [] = []
  divisors_events j (d ∷ ds) = divisor_events j d ++ divisors_events (suc j) ds

  abbrev pub assign_events : Assignment E → List Event
  assign_events a =
      let k = length a.divisors in
      divisors_events 0 a.divisors
      ++ all_formed (places k) (operations_all (places k) (behind k k) a.values)

  -- that the sides are equal, or that they differ
  unfoldable pub sides_events : Bool → Comparison E → List Event
  sides_events true k = at_path 0 0 (side k)
  sides_events false k = inverted 0 1 k.at (side k)

  abbrev pub compare_events : Comparison E → Bool → List Event
  compare_events k b = sides_events (are_equal k.equal b) k

  unfoldable pub step_events : Step E → List Event
  step_events (assign a) = assign_events a
  step_events (choose at i) = counts at (suc (all_unknowns cs)) most_unknowns ∷ []
  step_events (assume k) = compare_events k true

-- ---- guards
abbrev pub asked : Bool → Comparison E → steps.Step E
asked true k = guards.true_step (told k)
asked false k = guards.false_step (told k)

abbrev pub true_steps : List (Comparison E) → List (steps.Step E)
true_steps ks = map (asked true) ks

unfoldable pub false_steps : Bool → List (Comparison E) → List (steps.Step E)
false_steps false ks = []
false_steps true [] = []
false_steps true (k ∷ []) = asked false k ∷ []
false_steps true (k ∷ j ∷ ks) = []

unfoldable pub true_events : ℕ → List (steps.Step E) → List (Comparison E) → List Event
true_events n cs [] = []
true_events n cs (k ∷ ks) = compare_events n cs k true ++ true_events n (cs ++ asked true k ∷ []) ks

unfoldable pub false_events : ℕ → List (steps.Step E) → Bool → List (Comparison E) → List Event
false_events n cs false ks = []
false_events n cs true [] = []
false_events n cs true (k ∷ []) = compare_events n cs k false
false_events n cs true (k ∷ j ∷ ks) = []
