-- A loop has one trace of so many rounds, and none runs out of a budget that it keeps within.
--   more_units              behind some entries a unit, and others
--   ended_has_more          what has ended has more units than what goes on with a unit
--   traces_are_one, enough_budget
use Rattle.std.proofs.Common.{◌≡◌, ℕ, ◌<◌, ◌≤◌, true, cond, List, [], ◌∷◌, ◌++◌, map, Option, Some, None, sym, ap, subst, ◌∙◌, arith}
use Rattle.machines.specs.Journal.{Entry, counts, units_of}
use Rattle.machines.specs.Run.{IsRun, HasEnded}
use Rattle.machines.proofs.Runs.{ended_unique}
use Rattle.loops.specs.Program.{Expr, Program}
use Rattle.rounds.specs.Analysis.{Setting}
use Rattle.rounds.specs.Journal.{setting_of}
use Rattle.rounds.proofs.Forms.{forms_are_one}
use Rattle.corollaries.specs.Full.{as_form}
use Rattle.rounds.proofs.Prefixes.{begins_ended}
use Rattle.corollaries.specs.Followed.{IsFinished, IsOut}
use Rattle.corollaries.specs.Trace.{Results, fresh, goes, finished, next, move_of, moves}

more_units : (fs rest : List Entry) (e : Entry) → counts e ≡ true
    → units_of fs < units_of (fs ++ e ∷ rest)
unfolding units_of
more_units [] rest e unit =
    let one : cond {A = ℕ} (counts e) 1 0 ≡ 1 = ap (λ b. cond {A = ℕ} b 1 0) unit in
    omega (arith, one)
more_units (f ∷ fs) rest e unit = let i = more_units fs rest e unit in omega (arith, i)

module _ {S : Type 0} (step : S → Option (Entry × S)) where
  entry_or : Entry → Option (Entry × S) → Entry
  entry_or e None = e
  entry_or e (Some x) = x.0

  ended_has_more : (es fs : List Entry) (s t u v : S) (e : Entry) → IsRun step s es t
      → HasEnded step t → IsRun step s fs u → step u ≡ Some (e, v) → counts e ≡ true
      → units_of fs < units_of es
  unfolding IsRun entry_or
  ended_has_more es fs s t u v e r h k c unit =
      let g = begins_ended step es fs s t u r h k in
      go g.rest g.is g.run
    where
      go : (rest : List Entry) → es ≡ fs ++ rest → IsRun step u rest t
          → units_of fs < units_of es
      go [] is run =
          let z : None ≡ Some (e, v) = sym h ∙ ap step (sym run) ∙ c in
          absurd (let y : ⊥ = cc in y)
      go (f ∷ rest) is run =
          let same : f ≡ e = ap (entry_or f) (sym run.1 ∙ c) in
          subst (λ x. units_of fs < units_of x) (sym is)
          (more_units fs rest f (ap counts same ∙ unit))

module _ {At : Type 0} (program : Program (Expr At)) (k : ℕ) where
  pub traces_are_one : (es fs : List Entry) (d e : Results) → IsFinished program k es d
      → IsFinished program k fs e → (es ≡ fs) × (d ≡ e)
  traces_are_one es fs d e x y =
      let same = forms_are_one program _ _ y.follows.are_forms x.follows.are_forms in
      let A : Setting = setting_of program (map as_form x.follows.forms) None in
      let run = subst (λ l. IsRun (moves (setting_of program l None) k) fresh fs y.state) same
      y.follows.run in
      let is = subst (λ l. next (setting_of program l None) k y.state ≡ finished e) same y.is in
      let one = ended_unique (moves A k) fresh x.state y.state es fs x.follows.run
      (ap (move_of A k) x.is) run (ap (move_of A k) is) in
      (one.0, same_results (sym x.is ∙ ap (next A k) one.1 ∙ is))
    where
      same_results : finished d ≡ finished e → d ≡ e
      same_results h = cc

  pub enough_budget : (n : ℕ) (es fs : List Entry) (d : Results) → IsFinished program k es d
      → units_of es ≤ n → IsOut program k n fs → ⊥
  enough_budget n es fs d x few out =
      let same = forms_are_one program _ _ out.comes.follows.are_forms x.follows.are_forms in
      let A : Setting = setting_of program (map as_form x.follows.forms) None in
      let run = subst (λ l. IsRun (moves (setting_of program l None) k) fresh fs
      out.comes.state) same out.comes.follows.run in
      let is = subst (λ l. next (setting_of program l None) k out.comes.state
      ≡ goes out.entry out.state) same out.comes.is in
      let less = ended_has_more (moves A k) es fs fresh x.state out.comes.state out.state out.entry
      x.follows.run (ap (move_of A k) x.is) run (ap (move_of A k) is) out.unit in
      let exhausted = out.exhausted in
      omega (arith, less, few, exhausted)
