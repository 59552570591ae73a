-- Sums to which polynomials come one after another.
--   terms_so_far s      the terms of the sum s: those that are collected, and those that came since
--   IsNothing m s       s is the sum of no polynomials, in m variables, and no term came
--   IsCollected s p     p is the sum s with like terms collected
--   IsSumWith q s r     r is the sum of s and q, which passes no limit, and the terms of q came
use Rattle.std.specs.Prelude.{◌≡◌, ℕ, ◌+◌, [], ◌∷◌, ◌++◌, length, min}
use Rattle.algebra.specs.Fraction.{Fraction, ℚ}
use Rattle.polynomials.specs.Terms.{Terms, Same}
use Rattle.frac128.specs.FracMeaning.{fraction_of}
use Rattle.poly.specs.Seen.{terms_in}
use Rattle.poly.specs.Standing.{StandsFor}
use Rattle.poly.specs.View.{terms_of}
use Rattle.loop_model.specs.FracPoly.{FracPoly}
use Rattle.loop_model.specs.Operations.{sum_at, IsFree}
use Rattle.counter_run.specs.Costs.{most_count}
use Rattle.counter_run.specs.declared.open_sum.OpenSum.{OpenSum}

abbrev pub terms_so_far : OpenSum → Terms Fraction
terms_so_far s = terms_in s.total ++ terms_of fraction_of s.terms.items

pub record IsNothing (m : ℕ) (s : OpenSum) : Type 0 where
  pub arity : s.total.arity ≡ m
  pub none : terms_so_far s ≡ []
  pub came : s.came ≡ 0

abbrev pub IsCollected : OpenSum → FracPoly → Type 0
IsCollected s p = StandsFor s.total.arity p (terms_so_far s)

pub record IsSumWith (q : FracPoly) (s r : OpenSum) : Type 0 where
  pub arity : r.total.arity ≡ s.total.arity
  pub same : Same ℚ (terms_so_far r) (terms_so_far s ++ terms_in q)
  pub free : IsFree s.total.arity (sum_at 0 (terms_so_far s) (terms_in q) ∷ [])
  pub came : r.came ≡ min (s.came + length q.terms.items) most_count
