-- A closing of nothing ends at once, and one that ends with a word has a unit.
--   nothing_next, nothing_follows, nothing_comes    at once it comes to its end, no entry follows, and its end comes next
--   countered_units      where it ends with a counterexample, its entries have a unit
use Rattle.std.proofs.Common.{◌≡◌, ℕ, zero, suc, ◌<◌, List, [], ◌∷◌, length, refl, sym, ap, ◌∙◌, Option, Some, None}
use Rattle.algebra.specs.Fraction.{Fraction}
use Rattle.polynomials.specs.Terms.{Terms}
use Rattle.machines.specs.Journal.{Entry, units_of}
use Rattle.machines.specs.Run.{IsRun}
use Rattle.loops.specs.Program.{Expr, Program}
use Rattle.closures.specs.Closing.{Candidate, State, Step, fresh, closed, countered, level_from, from_level, from_waiting, next, move_of, moves}
use Rattle.closures.specs.Ends.{ComesNext}
use Rattle.closures.proofs.Budgets.{more_units}

module _ (program : Program (Expr ℕ)) where
  none_from : (b n : ℕ) → level_from program b n [] ≡ []
  unfolding level_from
  none_from b zero = refl
  none_from b (suc n) = none_from (suc b) n

  pub nothing_next : next program [] fresh ≡ closed []
  unfolding next from_waiting from_level
  nothing_next = ap (from_level program 0 []) (none_from 1 (length program.branches))

  pub nothing_follows : (es : List Entry) (s : State) → IsRun (moves program []) fresh es s
      → fresh ≡ s
  unfolding IsRun
  nothing_follows [] s run = run
  nothing_follows (e ∷ es) s run =
      absurd (let none : ◌≡◌ {A = Option (Entry × State)} None (Some (e, run.0)) =
      sym (ap (move_of program []) nothing_next) ∙ run.1 in cc)

  pub nothing_comes : (es : List Entry) (step : Step) → ComesNext program [] es step
      → closed [] ≡ step
  nothing_comes es step c =
      sym nothing_next ∙ ap (next program []) (nothing_follows es c.state c.run) ∙ c.is

  pub countered_units : (P : List (Terms Fraction)) (es : List Entry) (x : Candidate)
      (q : Terms Fraction) → ComesNext program P es (countered x q) → 0 < units_of es
  unfolding next from_waiting units_of IsRun
  countered_units [] es x q c =
      absurd (let e : closed [] ≡ countered x q = nothing_comes es (countered x q) c in cc)
  countered_units (p ∷ P) es x q c =
      more_units (moves program (p ∷ P)) fresh c.state fresh _ es [] _ c.run
      (ap (move_of program (p ∷ P)) c.is) refl refl refl
