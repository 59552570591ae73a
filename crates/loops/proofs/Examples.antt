-- The definitions at small loops, by computation.
--   assign i e, given i e      the statement that sets the variable i to e, and the equation that it is e
--   squares                    vars a, s, t; init a=0, s=1, t=1; branch { a=a+1; t=t+2; s=s+t; }
use Rattle.std.proofs.Common.{◌≡◌, ℕ, pos, List, [], ◌∷◌, refl, Some, None}
use Rattle.std.specs.Prelude.{⊤}
use Rattle.algebra.specs.Gcd.{gcd}
use Rattle.algebra.specs.Ratio.{is_lowest, reduce}
use Rattle.algebra.specs.Fraction as Fraction
use Rattle.algebra.specs.Fraction.{Fraction, fraction, over, whole, ℚ}
use Rattle.loops.specs.Program.{Expr, number, variable, add, sub, mul, divide, Statement, Equation, Program}
use Rattle.loops.specs.Effect.{store, init_statement, value_of, after_statement, after_branch, start_from}
use Rattle.loops.specs.Run.{branch_at, run_end}
use Rattle.loops.specs.Expressions.{substitute, expressions_after, places, in_one}

abbrev pub assign : {E : Type 0} → ℕ → E → Statement E
assign i e = record { targets = i ∷ []; values = e ∷ [] }

abbrev pub given : {E : Type 0} → ℕ → E → Equation E
given i e = record { name = i; value = e }

abbrev state : ℕ → ℕ → ℕ → List Fraction
state a b c = whole (pos a) ∷ whole (pos b) ∷ whole (pos c) ∷ []

-- vars a, s, t; init a=0, s=1, t=1; branch { a=a+1; t=t+2; s=s+t; }
abbrev pub squares : Program (Expr ⊤)
squares = record {
  names = (97 ∷ []) ∷ (115 ∷ []) ∷ (116 ∷ []) ∷ [];
  locals = [];
  init = given 0 (number (pos 0)) ∷ given 1 (number (pos 1)) ∷ given 2 (number (pos 1)) ∷ [];
  branches = (assign 0 (add tt (variable 0) (number (pos 1)))
      ∷ assign 2 (add tt (variable 2) (number (pos 2)))
      ∷ assign 1 (add tt (variable 1) (variable 2)) ∷ []) ∷ [];
}

squares_twice : run_end squares (1 ∷ 1 ∷ []) (state 0 1 1) ≡ Some (state 2 9 5)
unfolding run_end branch_at after_branch after_statement store value_of fraction Fraction.sum
    Fraction.product Fraction.opposite Fraction.inverse is_lowest reduce gcd
squares_twice = refl

squares_start : start_from ℚ (λ c. c) squares (state 7 7 7) ≡ state 0 1 1
unfolding start_from init_statement after_statement store value_of fraction Fraction.sum
    Fraction.product Fraction.opposite Fraction.inverse is_lowest reduce gcd
squares_start = refl

no_branch : run_end squares (2 ∷ []) (state 0 1 1) ≡ None
unfolding run_end branch_at
no_branch = refl

-- vars a, b, x, y, z; init x=a, y=b, z=0; branch { x=x/2; y=2*y; } branch { x=x-1; z=z+y; }
abbrev pub product : Program (Expr ⊤)
product = record {
  names = (97 ∷ []) ∷ (98 ∷ []) ∷ (120 ∷ []) ∷ (121 ∷ []) ∷ (122 ∷ []) ∷ [];
  locals = [];
  init = given 2 (variable 0) ∷ given 3 (variable 1) ∷ given 4 (number (pos 0)) ∷ [];
  branches =
      (assign 2 (divide tt (variable 2) (pos 2)) ∷ assign 3 (mul tt (number (pos 2)) (variable 3))
      ∷ [])
      ∷ (assign 2 (sub tt (variable 2) (number (pos 1)))
      ∷ assign 4 (add tt (variable 4) (variable 3)) ∷ []) ∷ [];
}

product_start : start_from ℚ (λ c. c) product (whole (pos 3) ∷ whole (pos 5) ∷ whole (pos 8)
    ∷ whole (pos 8) ∷ whole (pos 8) ∷ []) ≡ whole (pos 3) ∷ whole (pos 5) ∷ whole (pos 3)
    ∷ whole (pos 5) ∷ whole (pos 0) ∷ []
unfolding start_from init_statement after_statement store value_of fraction Fraction.sum
    Fraction.product Fraction.opposite Fraction.inverse is_lowest reduce gcd
product_start = refl

-- z + x*y = a*b: 10 + 20/4 = 3*5
product_run : run_end product (1 ∷ 2 ∷ 1 ∷ []) (whole (pos 3) ∷ whole (pos 5) ∷ whole (pos 3)
    ∷ whole (pos 5) ∷ whole (pos 0) ∷ [])
    ≡ Some (whole (pos 3) ∷ whole (pos 5) ∷ over (pos 1) 4 ∷ whole (pos 20) ∷ whole (pos 10) ∷ [])
unfolding run_end branch_at after_branch after_statement store value_of fraction Fraction.sum
    Fraction.product Fraction.opposite Fraction.inverse is_lowest reduce gcd
product_run = refl

-- all right sides of a statement are computed before it stores: x and y change places
abbrev exchange : Statement (Expr ⊤)
exchange = record { targets = 0 ∷ 1 ∷ []; values = variable 1 ∷ variable 0 ∷ [] }

exchanged : after_statement ℚ (λ c. c) exchange (whole (pos 1) ∷ whole (pos 2) ∷ []) ≡ whole (pos 2)
    ∷ whole (pos 1) ∷ []
unfolding after_statement store value_of fraction Fraction.sum Fraction.product Fraction.opposite
    Fraction.inverse is_lowest reduce gcd
exchanged = refl

-- vars x, y; locals t; init x=1, y=0; branch { t=x; x=y; y=t; }
abbrev pub swap : Program (Expr ⊤)
swap = record {
  names = (120 ∷ []) ∷ (121 ∷ []) ∷ [];
  locals = (116 ∷ []) ∷ [];
  init = given 0 (number (pos 1)) ∷ given 1 (number (pos 0)) ∷ [];
  branches = (assign 2 (variable 0) ∷ assign 0 (variable 1) ∷ assign 1 (variable 2) ∷ []) ∷ [];
}

swap_run : run_end swap (1 ∷ []) (whole (pos 1) ∷ whole (pos 0) ∷ [])
    ≡ Some (whole (pos 0) ∷ whole (pos 1) ∷ [])
unfolding run_end branch_at after_branch after_statement store value_of fraction Fraction.sum
    Fraction.product Fraction.opposite Fraction.inverse is_lowest reduce gcd
swap_run = refl

-- what stands for its variables after an iteration
swap_in_one : in_one swap (assign 2 (variable 0) ∷ assign 0 (variable 1) ∷ assign 1 (variable 2)
    ∷ []) ≡ exchange ∷ []
unfolding expressions_after substitute store places
swap_in_one = refl
