-- Budgets of closings.
--   more_units      a journal behind which a unit comes next has less units than one with an end
--   enough          so a closing that ends within a budget is never out of it
use Rattle.std.proofs.Common.{◌≡◌, ℕ, ◌<◌, ◌≤◌, true, List, [], ◌∷◌, ◌++◌, sym, ap, subst, ◌∙◌, Option, Some, None, arith}
use Rattle.algebra.specs.Fraction.{Fraction}
use Rattle.polynomials.specs.Terms.{Terms}
use Rattle.machines.specs.Journal.{Entry, counts, units_of}
use Rattle.machines.specs.Run.{IsRun, HasEnded}
use Rattle.loops.specs.Program.{Expr, Program}
use Rattle.rounds.proofs.Prefixes.{begins_ended, units-append, units-cons}
use Rattle.closures.specs.Closing.{Step, fresh, move_of, moves}
use Rattle.closures.specs.Ends.{ComesNext}
use Rattle.closures.specs.Follows.{IsOut}

pub more_units : {S : Type 0} (step : S → Option (Entry × S)) (s t u v : S) (es fs : List Entry)
    (e : Entry) → IsRun step s es t → HasEnded step t → IsRun step s fs u
    → step u ≡ Some (e, v) → counts e ≡ true → units_of fs < units_of es
unfolding IsRun
more_units {S} step s t u v es fs e r h k c unit =
    let g = begins_ended step es fs s t u r h k in go g.rest g.is g.run
  where
    go : (rest : List Entry) → es ≡ fs ++ rest → IsRun step u rest t → units_of fs < units_of es
    go [] is run =
        absurd (let z : ◌≡◌ {A = Option (Entry × S)} None (Some (e, v)) =
        sym h ∙ ap step (sym run) ∙ c in let f : ⊥ = cc in f)
    go (f ∷ rest) is run =
        let both : ◌≡◌ {A = Option (Entry × S)} (Some (f, run.0)) (Some (e, v)) =
        sym run.1 ∙ c in
        let pair : ◌≡◌ {A = Entry × S} (f, run.0) (e, v) = cc in
        let same : f ≡ e = ap (λ (x : Entry × S). x.0) pair in
        subst (λ x. units_of fs < units_of x) (sym is)
        (omega (arith, units-append fs (f ∷ rest), units-cons f rest (ap counts same ∙ unit)))

module _ {At : Type 0} (program : Program (Expr At)) (P : List (Terms Fraction)) where
  pub enough : (es fs : List Entry) (a : Step) (n : ℕ) → move_of program P a ≡ None
      → ComesNext program P es a → units_of es ≤ n → IsOut program P n fs → ⊥
  enough es fs a n e c few out =
      let less = more_units (moves program P) fresh c.state out.state out.following es fs out.entry
      c.run (ap (move_of program P) c.is ∙ e) out.follows.run
      (ap (move_of program P) out.comes) out.unit in
      omega (arith, less, few, out.exhausted)
