-- What sequences are given by recurrences. `fs j n` is the value at n of the sequence at place j.
--   values f n r        f(n), f(n + 1), .., r of them
--   window fs n qs      for each sequence in turn, its values from n on, as many as its order
--   at_index fs n qs    the value at n of each sequence
--   Satisfies f w q         f has the values that are given, and each later one is what the recurrence gives; w n are the values that it computes with
--   AreSatisfied fs w qs      each of them does
--   IsSolution qs fs    they do, with their own values
use Rattle.std.specs.Prelude.{◌≡◌, ℕ, zero, suc, ◌+◌, List, [], ◌∷◌, ◌++◌, map, ⊤}
use Rattle.algebra.specs.Fraction.{Fraction}
use Rattle.loops.specs.Program.{Expr}
use Rattle.loops.specs.Run.{value}
use Rattle.loops.specs.Sequences.{Sequence, order, given_values}

unfoldable pub values : (ℕ → Fraction) → ℕ → ℕ → List Fraction
values f n zero = []
values f n (suc r) = f n ∷ values f (suc n) r

module _ {E : Type 0} where
  unfoldable pub window : (ℕ → ℕ → Fraction) → ℕ → List (Sequence E) → List Fraction
  window fs n [] = []
  window fs n (q ∷ qs) = values (fs 0) n (order q) ++ window (λ j. fs (suc j)) n qs

  unfoldable pub at_index : (ℕ → ℕ → Fraction) → ℕ → List (Sequence E) → List Fraction
  at_index fs n [] = []
  at_index fs n (q ∷ qs) = fs 0 n ∷ at_index (λ j. fs (suc j)) n qs

module _ {At : Type 0} where
  pub record Satisfies (f : ℕ → Fraction) (w : ℕ → List Fraction)
      (q : Sequence (Expr At)) : Type 0 where
    pub starts : values f 0 (order q) ≡ map (λ e. value e []) (given_values q)
    pub goes : (n : ℕ) → f (n + order q) ≡ value q.next (w n)

  unfoldable pub AreSatisfied : (ℕ → ℕ → Fraction) → (ℕ → List Fraction) → List (Sequence (Expr At))
      → Type 0
  AreSatisfied fs w [] = ⊤
  AreSatisfied fs w (q ∷ qs) = Satisfies (fs 0) w q × AreSatisfied (λ j. fs (suc j)) w qs

  abbrev pub IsSolution : List (Sequence (Expr At)) → (ℕ → ℕ → Fraction) → Type 0
  IsSolution qs fs = AreSatisfied fs (λ n. window fs n qs) qs
