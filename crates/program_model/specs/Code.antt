-- What a program does: its statements as code, each with what stands behind it.
--   told k, guard_code g, step_code c     a comparison, a guard and a step
--   code_behind b c                       the block b, and then the code c;  code_before s c: the statement s, and then c
--   code_of b                             the block b
use Rattle.std.specs.Prelude.{Bool, true, false, List, map}
use Rattle.flows.specs.Steps as steps
use Rattle.flows.specs.Guards as guards
use Rattle.flows.specs.Code as code
use Rattle.flows.specs.Code.{Code}
use Rattle.program_model.specs.Program.{Comparison, Divisor, Step, assign, choose, assume, Guard, Statement, step, assert, branch, loop, Block, empty, behind}

module _ {E : Type 0} where
  unfoldable pub compared : Bool → E → E → guards.Comparison E
  compared true e f = guards.equals e f
  compared false e f = guards.differs e f

  abbrev pub told : Comparison E → guards.Comparison E
  told k = compared k.equal k.left k.right

  abbrev pub guard_code : Guard E → guards.Guard E
  guard_code g = record { says = map told g.says; alone = g.alone }

  abbrev pub divisors_of : List (Divisor E) → List E
  divisors_of ds = map (λ (d : Divisor E). d.value) ds

  unfoldable pub step_code : Step E → steps.Step E
  step_code (assign a) = steps.assign (divisors_of a.divisors) a.targets a.values
  step_code (choose at target) = steps.choose target
  step_code (assume k) = guards.true_step (told k)

  unfoldable mutual
    pub code_behind : Block E → Code E → Code E
    code_behind empty c = c
    code_behind (behind b s) c = code_behind b (code_before s c)

    pub code_before : Statement E → Code E → Code E
    code_before (step g) c = code.step (step_code g) c
    code_before (assert at k) c = code.assert k.left k.right c
    code_before (branch at g a b) c =
        guards.if_else (guard_code g) (code_behind a code.done) (code_behind b code.done) c
    code_before (loop at g a) c = guards.while (guard_code g) (code_behind a code.done) c

  abbrev pub code_of : Block E → Code E
  code_of b = code_behind b code.done
