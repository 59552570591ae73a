-- What a user takes away of `member`, over the bytes of the file and of the equation.
--   AreCofactors gs p qs            the division of p by the gs ends with nothing left, and the qs
--                                   are its cofactors
--   ShowsYes text equation said     the bytes are a loop and an equation that holds at the end of
--                                   every run; `yes` is said, and cofactors with which the reduced
--                                   basis of the loop's invariants makes the equation's polynomial,
--                                   one a line
--   ShowsNo text equation said      they are a loop and an equation that doesn't hold at the end of
--                                   every run, and `no` is said
use Rattle.std.specs.Prelude.{◌≡◌, ℕ, List, None, Ok, codes}
use Rattle.algebra.specs.Fraction.{Fraction, ℚ, rationals}
use Rattle.polynomials.specs.Order.{grevlex}
use Rattle.polynomials.specs.Terms.{Terms, Same, combination}
use Rattle.machines.specs.Division as division
use Rattle.machines.specs.Run.{Ends}
use Rattle.loops.specs.Program.{Expr, Program}
use Rattle.loop_text.specs.LoopReader.{loop_of}
use Rattle.analysis_commands.specs.AnalysisTexts.{yes_text}
use Rattle.command_parts.specs.Equations.{equation_in, polynomial_of, Holds}
use Rattle.analysis_commands.specs.Headline.{IsBasisOf}

pub record AreCofactors (gs : List (Terms Fraction)) (p : Terms Fraction)
    (qs : List (Terms Fraction)) : Type 0 where
  pub ends : Ends (division.next rationals grevlex gs) (division.initial_state gs p)
  pub gone : ends.last.current ≡ None
  pub are : qs ≡ ends.last.cofactors

pub record ShowsYes (text equation said : List ℕ) : Type 0 where
  pub loop : Program (Expr ℕ)
  pub is_loop : loop_of text ≡ Ok loop
  pub difference : Expr ℕ
  pub is_equation : equation_in loop.names equation ≡ Ok difference
  pub holds : Holds loop difference
  pub basis : List (Terms Fraction)
  pub is_basis : IsBasisOf loop basis
  pub cofactors : List (Terms Fraction)
  pub are_cofactors : AreCofactors basis (polynomial_of loop difference) cofactors
  pub sum : Same ℚ (polynomial_of loop difference) (combination ℚ cofactors basis)
  pub says : said ≡ yes_text loop.names cofactors

pub record ShowsNo (text equation said : List ℕ) : Type 0 where
  pub loop : Program (Expr ℕ)
  pub is_loop : loop_of text ≡ Ok loop
  pub difference : Expr ℕ
  pub is_equation : equation_in loop.names equation ≡ Ok difference
  pub fails : ¬ (Holds loop difference)
  pub says : said ≡ codes "no\n"
