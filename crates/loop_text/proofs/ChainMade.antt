-- A chain that was read, as code makes its loops.
--   first_formed, rest_formed      the loops of its text are such as can be made, and its code
--   few_stages                     and few
use Rattle.std.proofs.Common.{◌≡◌, ℕ, suc, ◌≤◌, List, ◌∷◌, [], get_or, length, subst, arith, All, sym, ap, ◌∙◌}
use Rattle.std.proofs.lemmas.List.{get_or-map, length-map}
use Rattle.loops.specs.Program.{Expr, Program}
use Rattle.loops.specs.Chain.{no_stage, loop_of}
use Rattle.loops.specs.Chain as spec
use Rattle.loop_runs.specs.Limits.{most_loops}
use Rattle.loop_runs.specs.Parts.{IsLoop, CanFollow, stage_of, stages_in, stage_read, stages_read}
use Rattle.loop_runs.specs.declared.stage.Stage.{Stage}
use Rattle.loop_runs.specs.declared.stage.StageParts.{StageParts}
use Rattle.loop_text.specs.ChainReader.{of_stages}
use Rattle.loop_text.proofs.ChainWell.{IsReadWellChain}

module _ (p : Program (Expr ℕ)) (g : spec.Stage (Expr ℕ)) (ys : List StageParts)
    (w : IsReadWellChain (of_stages p (g ∷ stages_read ys))) where
  pub first_formed : IsLoop (record p { branches = g.branches })
  first_formed = w.loops 0 (omega arith)

  -- with any program that has the variables of the first
  pub rest_formed : (q : Program (Expr ℕ)) → q ≡ record p { branches = g.branches }
      → All (CanFollow q) ys
  rest_formed q e i d l =
      let long = length-map ys stage_read in
      let inside : suc i ≤ length (stages_read ys) = omega (arith, long, l) in
      let same = get_or-map stage_read ys i d no_stage l in
      subst (λ q. CanFollow q (get_or ys i d)) (sym e)
      (subst (λ (z : spec.Stage (Expr ℕ)). IsLoop (loop_of p (z.code ∷ []))
      × IsLoop (loop_of p z.branches)) same (w.codes i inside, w.loops (suc i) inside))

  pub few_stages : (gs : List Stage) → stages_in gs ≡ stages_read ys → suc (length gs) ≤ most_loops
  few_stages gs e =
      let f = w.few in
      let a = sym (length-map gs stage_of) ∙ ap length e in
      subst (λ n. suc n ≤ most_loops) (sym a) f
