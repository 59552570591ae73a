use Rattle.std.proofs.Common.{◌≡◌, ℕ, suc, List, [], ◌∷◌, ◌++◌, length, vec_len, rules, sym, refl, ap, ◌∙◌, true, false, Ok, arith}
use Rattle.std.specs.Global.{Vec}
use Rattle.std.proofs.lemmas.List.{map_push, length_push}
use Rattle.std.proofs.lemmas.Result.{err_from_is_err_and}
use Rattle.loops.specs.Program.{Expr, Statement}
use Rattle.grammars.specs.Grammar.{sequence, many, optional, some}
use Rattle.poly_text.specs.CursorView.{rest}
use Rattle.poly_text.specs.Faults.{fault_of}
use Rattle.poly_text.specs.Lexemes.{Placed, is_end_of}
use Rattle.poly_text.specs.NextToken.{seen_lexeme}
use Rattle.poly_text.specs.declared.cursor.Cursor.{Cursor}
use Rattle.poly_text.proofs.Paths.{GoesOn, start, on, over, ends, in_parts}
use Rattle.loop_model.specs.declared.statement.Statement as code
use Rattle.loop_text.specs.Loops.{branch}
use Rattle.loop_text.specs.LoopReader.{program_in}
use Rattle.loop_text.specs.States as loops
use Rattle.loop_text.specs.States.{Inits, in_branches, with_init, branches_of}
use Rattle.loop_text.specs.declared.begun.Begun.{Begun}
use Rattle.loop_text.specs.ChainReader.{of_stages}
use Rattle.loop_text.specs.Chains.{Earlier, ChainState, Rule, none_before, begin_loop, with_loop, with_stage, with_code, then_token, code as code_rule, stage, the_branches, further, chain_end, chain_language}
use Rattle.loop_text.specs.Raising.{in_chain, told_in_chain}
use Rattle.loop_runs.specs.Parts.{statements_in, stage_read, stages_read}
use Rattle.loop_runs.specs.declared.stage.StageParts.{StageParts}
use Rattle.loop_text.specs.ChainStates.{reading, whole}
use Rattle.loop_text.proofs.ChainReads.{whole_read, whole_fails, no_more, one_more, same_stages}
use Rattle.loop_text.proofs.RaisedReading.{reading_raised, fault_raised}
use Rattle.loop_text.proofs.chain_reading.read_stages.Goals as goal

abbrev Branches : Type 0
Branches = List (List (Statement (Expr ℕ)))

abbrev loops_due : Rule
loops_due = sequence the_branches (many further)

-- behind a loop others may come, or the end
abbrev more_due : Rule
more_due = sequence (many further) chain_end

-- behind the branches before, a loop's branches are due, and then others or the end
abbrev due : Rule
due = sequence the_branches more_due

module _ (vs ls : List (List ℕ)) (init : Inits) (os : List Placed) where
  abbrev first : ChainState
  first = in_chain 1 none_before (with_init vs ls init)

  -- the way from there
  abbrev Way : Rule → ChainState → List Placed → Type 0
  Way g s ts = GoesOn chain_language (sequence loops_due chain_end) first os g s ts

  begins : GoesOn chain_language (sequence loops_due chain_end) first os due first os
  begins = over (start chain_language _ _ _) _ _ _ (in_parts chain_language the_branches
      (many further) first os chain_end)

  module _ (n : ℕ) (e : Earlier) (b : Begun) (c : Cursor)
      (path : GoesOn chain_language (sequence loops_due chain_end) first os due
      (in_chain n e (in_branches vs ls b init [])) (rest c)) where
    module _ (d : Begun) (bs : Branches) (end : Cursor)
        (read : Ok (in_branches vs ls d init bs, rest end)
        ≡ loops.reading (some branch) (in_branches vs ls b init []) (rest c)) where
      abbrev t : ChainState
      t = in_chain n e (in_branches vs ls d init bs)

      behind : Way more_due (in_chain n e (in_branches vs ls d init bs)) (rest end)
      behind = on path (ap (told_in_chain n e) read
          ∙ sym (reading_raised n e (some branch) (in_branches vs ls b init []) (rest c)))

      all_read : is_end_of (seen_lexeme end.token.lexeme) ≡ true
          → Ok (of_stages (program_in (with_init vs ls init)) (with_stage e bs).stages)
          ≡ whole loops_due first os
      all_read ended = sym (ap Ok (same_stages (program_in (with_init vs ls init)) bs
          (record { code = e.code; branches = bs }) e.stages))
          ∙ whole_read loops_due first os t (ends behind (no_more t end ended))

      then_due : is_end_of (seen_lexeme end.token.lexeme) ≡ false
          → Way (sequence then_token (sequence stage more_due))
          (in_chain n e (in_branches vs ls d init bs)) (rest end)
      then_due other = over behind _ _ _ (one_more t end other)

      module _ (other : is_end_of (seen_lexeme end.token.lexeme) ≡ false) (at : Cursor)
          (goes : Ok (record { context = begin_loop t.context; value = with_loop t.value }, rest at)
          ≡ reading then_token t (rest end)) where
        abbrev begun : ChainState
        begun = in_chain (suc n) (with_stage e bs)
            (in_branches vs ls (record d { branches = 0 }) init [])

        code_due : Way (sequence (optional code_rule) due)
            (in_chain (suc n) (with_stage e bs)
            (in_branches vs ls (record d { branches = 0 }) init [])) (rest at)
        code_due = over (on (then_due other) goes) _ _ _
            (in_parts chain_language (optional code_rule) the_branches begun (rest at) more_due)

        next : (f : Begun) (ss : List (Statement (Expr ℕ))) (last : Cursor)
            → Ok (
              in_chain (suc n) (with_code (with_stage e bs) ss) (in_branches vs ls f init []),
              rest last,
            ) ≡ reading (optional code_rule) begun (rest at)
            → Way due (in_chain (suc n) (with_code (with_stage e bs) ss)
            (in_branches vs ls f init [])) (rest last)
        next f ss last coded = on code_due coded

-- the stages of code, one more
module _ (xs : List StageParts) (x : StageParts) (ys : List StageParts) (more : ys ≡ xs ++ x ∷ [])
  where
    stages_more : stages_read ys ≡ stages_read xs ++ stage_read x ∷ []
    stages_more = ap stages_read more ∙ map_push stage_read xs x

    count_more : length ys ≡ suc (length xs)
    count_more = let a = ap length more in let b = length_push xs x in omega (arith, a, b)

pub loop-stages-init : goal.loop-stages-init
loop-stages-init c = λ init.
    rw (c.new-stages.ensures.items, c.new-code.ensures.items)
    (begins c.args.names.now.variables c.args.names.now.locals init (rest c.args.cursor))

-- what was read when the branches of a loop are due
abbrev earlier : List StageParts → Vec code.Statement → Earlier
earlier xs ss = record { stages = stages_read xs; code = statements_in ss.items }

pub returns-in_err-branches-clause-stages : goal.returns-in_err-branches-clause-stages
returns-in_err-branches-clause-stages c = λ init.
    let p = err_from_is_err_and c.from_residual.result c.from_residual.ensures.1 in
    let e = c.in_err-branches.field-0.0 in
    let vs = c.args.names.now.variables in
    let ls = c.args.names.now.locals in
    rw (p.1, p.2)
    (whole_fails loops_due (in_chain 1 none_before (with_init vs ls init)) (rest c.args.cursor)
    (c.loop-stages.invariant init) e
    (fault_raised (suc (length c.loop-stages.stages.items))
    (earlier c.loop-stages.stages.items c.loop-stages.code) (some branch)
    (in_branches vs ls c.loop-stages.begun init []) (rest c.loop-stages.at) (fault_of e)
    (c.in_err-branches.ensures.reads init)))

-- a stage more
abbrev new_stage : Vec code.Statement → Vec (Vec code.Statement) → StageParts
new_stage ss bs = record { code = ss; branches = bs }

pub returns-then-is_end-clause-stages : goal.returns-then-is_end-clause-stages
returns-then-is_end-clause-stages c = λ init.
    let vs = c.args.names.now.variables in
    let ls = c.args.names.now.locals in
    let xs = c.loop-stages.stages.items in
    let more = stages_more xs (new_stage c.loop-stages.code c.in_ok-branches.branches)
    c.push.new.self.items c.in_ok-push.ensures.items in
    ap (λ gs. Ok (of_stages (program_in (with_init vs ls init)) gs)) more
    ∙ all_read vs ls init (rest c.args.cursor) (suc (length xs)) (earlier xs c.loop-stages.code)
    c.loop-stages.begun c.loop-stages.at (c.loop-stages.invariant init)
    c.read_branches.new.begun (branches_of c.in_ok-branches.branches.items) c.in_ok-branches.end
    (c.in_ok-branches.ensures.reads init) (sym c.if-is_end.ensures)

pub returns-then-is_end-clause-some : goal.returns-then-is_end-clause-some
returns-then-is_end-clause-some c =
    let more = count_more c.loop-stages.stages.items
    (new_stage c.loop-stages.code c.in_ok-branches.branches) c.push.new.self.items
    c.in_ok-push.ensures.items in
    omega (arith, more)

pub returns-in_err-behind-clause-stages : goal.returns-in_err-behind-clause-stages
returns-in_err-behind-clause-stages c = λ init.
    let p = err_from_is_err_and c.from_residual-in_err-behind.result
    c.from_residual-in_err-behind.ensures.1 in
    let e = c.in_err-behind.field-0.0 in
    let vs = c.args.names.now.variables in
    let ls = c.args.names.now.locals in
    let xs = c.loop-stages.stages.items in
    let more = count_more xs (new_stage c.loop-stages.code c.in_ok-branches.branches)
    c.push.new.self.items c.in_ok-push.ensures.items in
    let long : length c.push.new.self.items ≡ vec_len c.push.new.self = search rules in
    let t = in_chain (suc (length xs)) (earlier xs c.loop-stages.code) (in_branches vs ls
    c.read_branches.new.begun init (branches_of c.in_ok-branches.branches.items)) in
    rw (p.1, p.2)
    (whole_fails loops_due (in_chain 1 none_before (with_init vs ls init)) (rest c.args.cursor)
    (then_due vs ls init (rest c.args.cursor) (suc (length xs)) (earlier xs c.loop-stages.code)
    c.loop-stages.begun c.loop-stages.at (c.loop-stages.invariant init)
    c.read_branches.new.begun (branches_of c.in_ok-branches.branches.items) c.in_ok-branches.end
    (c.in_ok-branches.ensures.reads init) (sym c.if-is_end.ensures)) e
    (c.in_err-behind.ensures.goes t (sym more ∙ long ∙ sym c.len.ensures)))

pub returns-in_err-next-clause-stages : goal.returns-in_err-next-clause-stages
returns-in_err-next-clause-stages c = λ init.
    let p = err_from_is_err_and c.from_residual-in_err-next.result
    c.from_residual-in_err-next.ensures.1 in
    let e = c.in_err-next.field-0.0 in
    let vs = c.args.names.now.variables in
    let ls = c.args.names.now.locals in
    let xs = c.loop-stages.stages.items in
    let ss = c.loop-stages.code in
    let bs = c.in_ok-branches.branches in
    let more = count_more xs (new_stage ss bs) c.push.new.self.items c.in_ok-push.ensures.items in
    let long : length c.push.new.self.items ≡ vec_len c.push.new.self = search rules in
    let t = in_chain (suc (length xs)) (earlier xs ss) (in_branches vs ls
    c.read_branches.new.begun init (branches_of bs.items)) in
    rw (p.1, p.2)
    (whole_fails loops_due (in_chain 1 none_before (with_init vs ls init)) (rest c.args.cursor)
    (code_due vs ls init (rest c.args.cursor) (suc (length xs)) (earlier xs ss)
    c.loop-stages.begun c.loop-stages.at (c.loop-stages.invariant init)
    c.read_branches.new.begun (branches_of bs.items) c.in_ok-branches.end
    (c.in_ok-branches.ensures.reads init) (sym c.if-is_end.ensures) c.in_ok-behind.behind
    (c.in_ok-behind.ensures.goes t (sym more ∙ long ∙ sym c.len.ensures))) e
    (c.in_err-next.ensures.reads init (suc (suc (length xs)))
    (with_stage (earlier xs ss) (branches_of bs.items)) refl))

pub loop-stages-preserved : goal.loop-stages-preserved
loop-stages-preserved c = λ init.
    let vs = c.args.names.now.variables in
    let ls = c.args.names.now.locals in
    let xs = c.loop-stages.stages.items in
    let ys = c.push.new.self.items in
    let ss = c.loop-stages.code in
    let bs = c.in_ok-branches.branches in
    let more = count_more xs (new_stage ss bs) ys c.in_ok-push.ensures.items in
    let stages_are = stages_more xs (new_stage ss bs) ys c.in_ok-push.ensures.items in
    let long : length c.push.new.self.items ≡ vec_len c.push.new.self = search rules in
    let t = in_chain (suc (length xs)) (earlier xs ss) (in_branches vs ls
    c.read_branches.new.begun init (branches_of bs.items)) in
    rw (more, stages_are) (next vs ls init (rest c.args.cursor) (suc (length xs)) (earlier xs ss)
    c.loop-stages.begun c.loop-stages.at (c.loop-stages.invariant init)
    c.read_branches.new.begun (branches_of bs.items) c.in_ok-branches.end
    (c.in_ok-branches.ensures.reads init) (sym c.if-is_end.ensures)
    c.in_ok-behind.behind (c.in_ok-behind.ensures.goes t (sym more ∙ long ∙ sym c.len.ensures))
    c.read_code.new.begun (statements_in c.in_ok-next.next.items) c.in_ok-next.first
    (c.in_ok-next.ensures.reads init (suc (suc (length xs)))
    (with_stage (earlier xs ss) (branches_of bs.items)) refl))
