-- Loops in sequence, as a chain.
--   statements_in b       statements, as programs have them
--   branches_in bs        branches, as programs have them
--   code_in k             the code that a loop of one branch is
--   stage_of g            a stage, as a chain has it;  stages_in gs: each of them
--   stage_read p          a stage whose statements were read, as a chain has it;  stages_read ps: each of them
--   chain_seen l gs       the loop l and the stages gs behind it, as a chain
--   IsFurther program k   the loop k is over the variables and the local names of the program, and sets none before it begins
--   IsStageOf program g   so are both loops of the stage g, and its code is one branch
--   AreStagesOf program gs     so are the stages gs;  AreFurther l gs: of the loop l
--   IsLoop program        the program has a variable, is well formed and within the limits of loops
--   CanFollow program p   the code and the branches of p make such loops over the program's variables
use Rattle.std.specs.Prelude.{◌≡◌, ◌<◌, ℕ, List, [], ◌∷◌, get_or, length, map}
use Rattle.std.specs.List.{All}
use Rattle.std.specs.Global.{Vec}
use Rattle.loops.specs.Program.{Expr, Program, Statement}
use Rattle.loops.specs.Limits.{IsWithinLimits}
use Rattle.loops.specs.WellFormed.{IsWellFormed}
use Rattle.loop_model.specs.Parts.{statement_of}
use Rattle.loop_model.specs.View.{program_of}
use Rattle.loop_model.specs.declared.statement.Statement as code
use Rattle.loop_model.specs.declared.loop_.Loop.{Loop}
use Rattle.loops.specs.Chain as spec
use Rattle.loops.specs.Chain.{loop_of}
use Rattle.loop_runs.specs.declared.stage.Stage.{Stage}
use Rattle.loop_runs.specs.declared.stage.StageParts.{StageParts}

abbrev pub statements_in : List code.Statement → List (Statement (Expr ℕ))
statements_in b = map statement_of b

abbrev pub branches_in : List (Vec code.Statement) → List (List (Statement (Expr ℕ)))
branches_in bs = map (λ (b : Vec code.Statement). statements_in b.items) bs

abbrev pub code_in : Loop → List (Statement (Expr ℕ))
code_in k = get_or (program_of k).branches 0 []

abbrev pub stage_of : Stage → spec.Stage (Expr ℕ)
stage_of g = record { code = code_in g.code; branches = (program_of g.body).branches }

abbrev pub stages_in : List Stage → List (spec.Stage (Expr ℕ))
stages_in gs = map stage_of gs

abbrev pub stage_read : StageParts → spec.Stage (Expr ℕ)
stage_read p = record { code = statements_in p.code.items; branches = branches_in p.branches.items }

abbrev pub stages_read : List StageParts → List (spec.Stage (Expr ℕ))
stages_read ps = map stage_read ps

abbrev pub chain_seen : Loop → List Stage → spec.Chain (Expr ℕ)
chain_seen l gs = record { first = program_of l; further = stages_in gs }

abbrev pub IsFurther : Program (Expr ℕ) → Loop → Type 0
IsFurther program k =
    ((program_of k).names ≡ program.names) × ((program_of k).locals ≡ program.locals)
    × (length (program_of k).init ≡ 0)

abbrev pub IsStageOf : Program (Expr ℕ) → Stage → Type 0
IsStageOf program g =
    IsFurther program g.code × (length (program_of g.code).branches ≡ 1)
    × IsFurther program g.body

abbrev pub AreStagesOf : Program (Expr ℕ) → List Stage → Type 0
AreStagesOf program gs = All (IsStageOf program) gs

abbrev pub AreFurther : Loop → List Stage → Type 0
AreFurther l gs = AreStagesOf (program_of l) gs

pub record IsLoop (program : Program (Expr ℕ)) : Type 0 where
  pub some_name : 0 < length program.names
  pub formed : IsWellFormed program
  pub limits : IsWithinLimits program

abbrev pub CanFollow : Program (Expr ℕ) → StageParts → Type 0
CanFollow program p =
    IsLoop (loop_of program (statements_in p.code.items ∷ []))
    × IsLoop (loop_of program (branches_in p.branches.items))
