-- How the list of an orbit comes by elimination where iterations can't be undone: by the graph of what was and what is.
-- There are k variables in front (the number of iterations, and the powers that go with it), then t that tell what was, then the program's m.
--   IsBefore program i k t point times copied before     with the nth point, the values of `copied` at a state, and the state times n iterations later, the values of `before` are the state
--   images_behind k t before       `before` behind the variables in front: what is put for those of polynomials in k + m variables
--   less xs ys           the differences, place by place
--   graph_list k t m before fs rs gs     gs at what was; each variable less its form there; and the rs
--   AreWide k t m point before rs us     the us are the rs at what was, and zero at each point
use Rattle.std.specs.Prelude.{◌≡◌, ℕ, ◌+◌, List, [], ◌∷◌, ◌++◌, map, drop, take, length}
use Rattle.std.specs.List.{All}
use Rattle.algebra.specs.Fraction.{Fraction, ℚ}
use Rattle.polynomials.specs.Terms.{Terms, AllSame, variables, negate, compose, value_at}
use Rattle.polynomials.specs.Polynomial.{AllArity}
use Rattle.loops.specs.Program.{Expr, Program}
use Rattle.loops.specs.Run.{IsState}
use Rattle.rounds.specs.Orbit.{state_after}

module _ {At : Type 0} (program : Program (Expr At)) where
  pub record IsBefore (i k t : ℕ) (point : ℕ → List Fraction) (times : ℕ → ℕ)
      (copied before : List (Terms Fraction)) : Type 0 where
    pub count : length copied ≡ t
    pub copies : AllArity (length program.names) copied
    pub arities : AllArity (k + t + length program.names) before
    pub was : (n : ℕ) (s : List Fraction) → IsState program s
        → map
        (λ b. value_at ℚ b (point n ++ (map (λ c. value_at ℚ c s) copied
        ++ state_after program i (times n) s)))
        before
        ≡ s

abbrev pub images_behind : ℕ → ℕ → List (Terms Fraction) → List (Terms Fraction)
images_behind k w before = take k (variables ℚ w) ++ before

abbrev pub less : List (Terms Fraction) → List (Terms Fraction) → List (Terms Fraction)
less [] ys = []
less (x ∷ xs) [] = []
less (x ∷ xs) (y ∷ ys) = (x ++ negate ℚ y) ∷ less xs ys

module _ (k t m : ℕ) where
  abbrev pub at_before : List (Terms Fraction) → Terms Fraction → Terms Fraction
  at_before before f = compose ℚ (k + t + m) f (images_behind k (k + t + m) before)

  abbrev pub graph_list : List (Terms Fraction) → List (Terms Fraction) → List (Terms Fraction)
      → List (Terms Fraction) → List (Terms Fraction)
  graph_list before fs us gs =
      map (λ g. compose ℚ (k + t + m) g before) gs
      ++ (less (drop (k + t) (variables ℚ (k + t + m))) (map (at_before before) fs) ++ us)

  pub record AreWide (point : ℕ → List Fraction) (before rs us : List (Terms Fraction)) : Type
      0 where
    pub arities : AllArity (k + m) rs
    pub wide_arities : AllArity (k + t + m) us
    pub same : AllSame ℚ (map (at_before before) rs) us
    pub zero : (n : ℕ) (x : List Fraction) → length x ≡ t + m
        → All (λ r. value_at ℚ r (point n ++ x) ≡ ℚ.zero) us
