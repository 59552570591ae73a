use Rattle.std.proofs.Common.{◌≡◌, ◌∷◌, ◌++◌, [], List, ap, sym, subst, ◌∙◌}
use Rattle.std.specs.Global.{Vec}
use Rattle.loop_model.specs.View.{program_of}
use Rattle.loop_model.specs.declared.statement.Statement as code
use Rattle.loops.specs.Chain.{loop_of}
use Rattle.loop_runs.specs.Parts.{IsLoop, branches_in, statements_in}
use Rattle.loop_runs.specs.declared.stage.Stage.{Stage}
use Rattle.loop_runs.proofs.ChainParts.{stage_alike, stage_is}
use Rattle.loop_runs.proofs.parts.further_stage.Goals as goal
use Rattle.loop_runs.proofs.parts.further_stage.Goals.{In_ok-push, In_ok-body}

-- the one branch
one_branch : (xs ys : List (Vec code.Statement)) (b : Vec code.Statement) → xs ≡ []
    → ys ≡ xs ++ b ∷ [] → branches_in ys ≡ statements_in b.items ∷ []
one_branch xs ys b e is = ap branches_in (is ∙ ap (λ l. l ++ b ∷ []) e)

once_is : (c : In_ok-push)
    → branches_in c.push.new.self.items ≡ statements_in c.args.parts.code.items ∷ []
once_is c =
    one_branch c.new-once.result.items c.push.new.self.items c.args.parts.code
    c.new-once.ensures.items c.in_ok-push.ensures.items

pub further_loop-requires : goal.further_loop-requires
further_loop-requires c =
    subst (λ bs. IsLoop (loop_of (program_of c.args.first.now) bs)) (sym (once_is c)) c.requires.0

pub further_loop-requires-2 : goal.further_loop-requires-2
further_loop-requires-2 c = c.requires.1

abbrev made : In_ok-body → Stage
made c = record { code = c.in_ok-code.code; body = c.in_ok-body.body }

code_made : (c : In_ok-body) → program_of c.in_ok-code.code
    ≡ loop_of (program_of c.args.first.now) (statements_in c.args.parts.code.items ∷ [])
code_made c =
    c.in_ok-code.ensures
    ∙ ap (loop_of (program_of c.args.first.now))
    (one_branch c.new-once.result.items c.push.new.self.items c.args.parts.code
    c.new-once.ensures.items c.in_ok-push.ensures.items)

pub returns-clause-alike : goal.returns-clause-alike
returns-clause-alike c =
    stage_alike (program_of c.args.first.now) (made c) (statements_in c.args.parts.code.items)
    (branches_in c.args.parts.branches.items) (code_made c) c.in_ok-body.ensures

pub returns-clause-stage : goal.returns-clause-stage
returns-clause-stage c =
    stage_is (program_of c.args.first.now) (made c) (statements_in c.args.parts.code.items)
    (branches_in c.args.parts.branches.items) (code_made c) c.in_ok-body.ensures
