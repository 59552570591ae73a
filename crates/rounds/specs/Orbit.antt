-- Any number of iterations of a branch as one list of polynomials, and how the list of an orbit comes from it.
-- There are k variables in front of the program's m: the number of iterations, and the powers that go with it. `point n` are their values after n iterations.
--   state_after program i n s           the state after n iterations of branch i
--   at_point m point n e           e, with the values of the nth point for the variables in front
--   IsPoints k point               each point has k fractions
--   IsFormAt program i k point times fs     at the nth point the values of fs are the state after times n iterations of branch i
--   IsForm program i k point fs    after n iterations
--   AreRelations k m point rs      rs are zero at every point
--   Padded k m gs rs               the gs with k variables in front, and the rs
--   IsIndependent k m point rs     what is a member of an ideal at every point is one of that ideal padded and rs
--   Pulls back k m fs rs gs hs        p padded is a member of the ideal of hs exactly where p with fs for its variables is one of gs padded and rs
--   IsEliminated k m hs ks         ks generate the polynomials that are, padded, members of the ideal of hs
use Rattle.std.specs.Prelude.{◌≡◌, ℕ, zero, suc, ◌+◌, ◌↔◌, List, ◌++◌, map, length}
use Rattle.std.specs.List.{All}
use Rattle.algebra.specs.Fraction.{Fraction, ℚ}
use Rattle.polynomials.specs.Terms.{Terms, constant, variables, compose, value_at}
use Rattle.polynomials.specs.Polynomial.{Arity, AllArity}
use Rattle.ideals.specs.Members.{IsMember}
use Rattle.machines.specs.Elimination.{in_front}
use Rattle.loops.specs.Program.{Expr, Program}
use Rattle.loops.specs.Run.{effect, IsState}
use Rattle.rounds.specs.Word.{branch_of}
use Rattle.rounds.specs.Generate.{Generates}

unfoldable pub state_after : {At : Type 0} → Program (Expr At) → ℕ → ℕ → List Fraction
    → List Fraction
state_after program i zero s = s
state_after program i (suc n) s = state_after program i n (effect program (branch_of program i) s)

pub record IsPoints (k : ℕ) (point : ℕ → List Fraction) : Type 0 where
  pub size : (n : ℕ) → length (point n) ≡ k

pub record IsFormAt {At : Type 0} (program : Program (Expr At)) (i k : ℕ)
    (point : ℕ → List Fraction) (times : ℕ → ℕ) (fs : List (Terms Fraction)) : Type 0 where
  pub arities : AllArity (k + length program.names) fs
  pub iterations : (n : ℕ) (s : List Fraction) → IsState program s
      → map (λ f. value_at ℚ f (point n ++ s)) fs ≡ state_after program i (times n) s

abbrev pub IsForm : {At : Type 0} → Program (Expr At) → ℕ → ℕ → (ℕ → List Fraction)
    → List (Terms Fraction) → Type 0
IsForm program i k point fs = IsFormAt program i k point (λ n. n) fs

module _ (k m : ℕ) where
  abbrev pub at_point : (ℕ → List Fraction) → ℕ → Terms Fraction → Terms Fraction
  at_point point n e = compose ℚ m e (map (constant m) (point n) ++ variables ℚ m)

  pub record AreRelations (point : ℕ → List Fraction) (rs : List (Terms Fraction)) : Type 0 where
    pub arities : AllArity (k + m) rs
    pub zero : (n : ℕ) (s : List Fraction) → length s ≡ m
        → All (λ r. value_at ℚ r (point n ++ s) ≡ ℚ.zero) rs

  abbrev pub Padded : List (Terms Fraction) → List (Terms Fraction) → List (Terms Fraction)
  Padded gs rs = map (in_front k) gs ++ rs

  pub record IsIndependent (point : ℕ → List Fraction) (rs : List (Terms Fraction)) : Type 0 where
    pub member : (gs : List (Terms Fraction)) → AllArity m gs → (e : Terms Fraction)
        → Arity (k + m) e
        → ((n : ℕ) → IsMember ℚ m gs (at_point point n e)) → IsMember ℚ (k + m) (Padded gs rs) e

  pub record PullsBack (fs rs gs hs : List (Terms Fraction)) : Type 0 where
    pub exactly : (p : Terms Fraction) → Arity m p
        → IsMember ℚ (k + m) hs (in_front k p)
        ↔ IsMember ℚ (k + m) (Padded gs rs) (compose ℚ (k + m) p fs)

  abbrev pub IsEliminated : List (Terms Fraction) → List (Terms Fraction) → Type 0
  IsEliminated hs ks = Generates m ks (λ p. IsMember ℚ (k + m) hs (in_front k p))
