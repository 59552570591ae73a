-- The loops of a chain, as code has them and as the chain has them.
--   stage_at          a stage, by its index
--   body_is, once_is  its loop, and its code as a loop of one branch
--   count_is, chain_formed      they are a chain
--   few_places        each place is at most 7
--   code_seen         the code of a stage, by its statements
use Rattle.std.proofs.Common.{◌≡◌, ℕ, zero, suc, ◌<◌, ◌≤◌, List, [], ◌∷◌, map, get_or, length, refl, arith, sym, ap, subst, ◌∙◌}
use Rattle.std.specs.Global.{Vec}
use Rattle.std.proofs.lemmas.List.{get_or-map, length-map}
use Rattle.loops.specs.Program.{Expr, Program, Statement}
use Rattle.loops.specs.WellFormed.{IsWellFormed}
use Rattle.loop_model.specs.Parts.{statement_of}
use Rattle.loop_model.specs.View.{program_of}
use Rattle.loop_model.specs.declared.statement.Statement as code
use Rattle.loop_model.specs.declared.loop_.Loop.{Loop}
use Rattle.loop_model.proofs.Formed.{formed}
use Rattle.loops.specs.Chain as spec
use Rattle.loops.specs.Chain.{Chain, no_stage, loop_of, loop_at, IsChain}
use Rattle.loop_runs.specs.Limits.{most_loops}
use Rattle.loop_runs.specs.Parts.{IsStageOf, AreStagesOf, statements_in, code_in, stage_of, stages_in}
use Rattle.loop_runs.specs.declared.stage.Stage.{Stage}
use Rattle.loop_runs.proofs.ChainParts.{loop_is_further}
use Rattle.invariant_fix.proofs.Forms.{item_at}

only_branch : {A : Type 0} (xs : List (List A)) → length xs ≡ 1 → xs ≡ get_or xs 0 [] ∷ []
only_branch [] e = absurd (omega (arith, e))
only_branch (x ∷ []) e = refl
only_branch (x ∷ y ∷ xs) e = absurd (omega (arith, e))

module _ (p : Program (Expr ℕ)) (g : Stage) (is : IsStageOf p g) where
  pub body_is : program_of g.body ≡ loop_of p (stage_of g).branches
  body_is = loop_is_further p g.body is.2

  pub once_is : program_of g.code ≡ loop_of p ((stage_of g).code ∷ [])
  once_is = loop_is_further p g.code is.0
      ∙ ap (loop_of p) (only_branch (program_of g.code).branches is.1)

module _ (c : Chain (Expr ℕ)) (gs : List Stage) (are : stages_in gs ≡ c.further)
    (alike : AreStagesOf c.first gs) where
  pub stage_at : (j : ℕ) (d : Stage) → j < length gs
      → stage_of (get_or gs j d) ≡ get_or c.further j no_stage
  stage_at j d l = sym (get_or-map stage_of gs j d no_stage l)
      ∙ ap (λ (ss : List (spec.Stage (Expr ℕ))). get_or ss j no_stage) are

  pub count_is : length gs ≡ length c.further
  count_is = sym (length-map gs stage_of) ∙ ap length are

  pub chain_formed : (l : Loop) → program_of l ≡ c.first → IsChain c
  chain_formed l is = record { formed = at }
    where
      at : (j : ℕ) → j ≤ length c.further → IsWellFormed (loop_at c j)
      at zero k = subst IsWellFormed is (formed l)
      at (suc j) k =
          let inside : j < length gs = (let e = count_is in omega (arith, e, k)) in
          let d = item_at gs j inside in
          let g = get_or gs j d in
          subst IsWellFormed (body_is c.first g (alike j d inside)
          ∙ ap (λ (s : spec.Stage (Expr ℕ)). loop_of c.first s.branches) (stage_at j d inside))
          (formed g.body)

pub few_places : (n j : ℕ) → suc n ≤ most_loops → j < n → suc j ≤ 7
unfolding most_loops
few_places n j few l = omega (arith, few, l)

-- the code that a loop of one branch is, as code has it
pub code_seen : (k : Loop) (bs : List (Vec code.Statement)) {b : Vec code.Statement}
    → map (λ (v : Vec code.Statement). map statement_of v.items) bs ≡ (program_of k).branches
    → 0 < length bs → b ≡ get_or bs 0 b → statements_in b.items ≡ code_in k
code_seen k bs {b = b} seen some at =
    ap (λ (v : Vec code.Statement). map statement_of v.items) at
    ∙ sym (get_or-map (λ (v : Vec code.Statement). map statement_of v.items) bs 0 b [] some)
    ∙ ap (λ (cs : List (List (Statement (Expr ℕ)))). get_or cs 0 []) seen
