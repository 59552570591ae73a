-- Paths of steps as transitions: the steps, computed with N, where unknowns stand for the inverses and for the values that are chosen. At numbers these say when the steps lead somewhere; at polynomials, with the variables as the state, they are zeros and images.
--   unknowns c              how many unknowns the step c has: one for each divisor, for a choice, and for the difference that isn't 0
--   inverse_zeros N of ds ys s      each of the ys times its divisor, less 1, where the ys before stand behind s
--   zeros_of N of c ys s    what has to be 0; after_step N of c ys s: the state behind it
--   all_unknowns, all_zeros, after_all    of steps, one after another
--   transition n u w cs     the transition of the steps from the node u to w, of n variables
use Rattle.std.specs.Prelude.{ℕ, ◌+◌, List, [], ◌∷◌, ◌++◌, map, set, get_or, take, drop, length}
use Rattle.algebra.specs.Arithmetic.{Arithmetic}
use Rattle.algebra.specs.Fraction.{Fraction, ℚ}
use Rattle.polynomials.specs.Terms.{constant, variables, lists}
use Rattle.loops.specs.Program.{Expr}
use Rattle.loops.specs.Effect.{store, value_of}
use Rattle.flows.specs.Graph.{Transition}
use Rattle.flows.specs.Steps.{Step, assign, choose, equal, differ}

unfoldable pub unknowns : {E : Type 0} → Step E → ℕ
unknowns (assign ds is es) = length ds
unknowns (choose i) = 1
unknowns (equal e f) = 0
unknowns (differ e f) = 1

unfoldable pub all_unknowns : {E : Type 0} → List (Step E) → ℕ
all_unknowns [] = 0
all_unknowns (c ∷ cs) = unknowns c + all_unknowns cs

abbrev pub less : {A : Type 0} → Arithmetic A → A → A → A
less N x y = N.add x (N.neg y)

module _ {A At : Type 0} (N : Arithmetic A) (of : Fraction → A) where
  unfoldable pub inverse_zeros : List (Expr At) → List A → List A → List A
  inverse_zeros [] ys s = []
  inverse_zeros (d ∷ ds) [] s = []
  inverse_zeros (d ∷ ds) (y ∷ ys) s =
      less N (N.mul y (value_of N of s d)) N.one ∷ inverse_zeros ds ys (s ++ y ∷ [])

  abbrev pub side_less : List A → Expr At → Expr At → A
  side_less t e f = less N (value_of N of t e) (value_of N of t f)

  unfoldable pub zeros_of : Step (Expr At) → List A → List A → List A
  zeros_of (assign ds is es) ys s = inverse_zeros ds ys s
  zeros_of (choose i) ys s = []
  zeros_of (equal e f) ys s = side_less s e f ∷ []
  zeros_of (differ e f) ys s = less N (N.mul (get_or ys 0 N.zero) (side_less s e f)) N.one ∷ []

  unfoldable pub after_step : Step (Expr At) → List A → List A → List A
  after_step (assign ds is es) ys s = store is (map (value_of N of (s ++ ys)) es) s
  after_step (choose i) ys s = set s i (get_or ys 0 N.zero)
  after_step (equal e f) ys s = s
  after_step (differ e f) ys s = s

  unfoldable pub all_zeros : List (Step (Expr At)) → List A → List A → List A
  all_zeros [] ys s = []
  all_zeros (c ∷ cs) ys s =
      let xs = take (unknowns c) ys in
      zeros_of c xs s ++ all_zeros cs (drop (unknowns c) ys) (after_step c xs s)

  unfoldable pub after_all : List (Step (Expr At)) → List A → List A → List A
  after_all [] ys s = s
  after_all (c ∷ cs) ys s =
      after_all cs (drop (unknowns c) ys) (after_step c (take (unknowns c) ys) s)

abbrev pub transition : {At : Type 0} → ℕ → ℕ → ℕ → List (Step (Expr At)) → Transition
transition n u w cs =
    let a = all_unknowns cs in
    let m = a + n in
    let xs = variables ℚ m in
    record {
      from = u;
      to = w;
      unknowns = a;
      zeros = all_zeros (lists ℚ m) (constant m) cs (take a xs) (drop a xs);
      images = after_all (lists ℚ m) (constant m) cs (take a xs) (drop a xs);
    }
