use Rattle.std.proofs.Common.{ap, [], ◌∷◌, ◌∙◌, Ok, map}
use Rattle.program_model.specs.Program.{behind}
use Rattle.program_text.specs.Programs.{set}
use Rattle.program_text.proofs.BlockViews.{block_push, set_statement}
use Rattle.program_text.proofs.Answering.{err_from_is_err_and, rest, on, start, ends, stops_going, stops_last_going, end_statement, with_set, program_language, at_statement, with_block, block_of, expr_of, divisor_of}
use Rattle.program_text.proofs.assignments.Reader.set_value.Goals as goal

pub returns-in_err-divisors-clause-goes : goal.returns-in_err-divisors-clause-goes
returns-in_err-divisors-clause-goes c = λ n d w.
    let v = with_block (block_of c.args.block.now.items) w in
    stops_going (start program_language _ _ _) _
    (err_from_is_err_and c.from_residual.result c.from_residual.ensures.1)
    (rw (c.new-values.ensures.items, c.new.ensures.items) at c.in_err-divisors.ensures.reads n d v
    (c.args.target ∷ []))

pub returns-in_err-end-clause-goes : goal.returns-in_err-end-clause-goes
returns-in_err-end-clause-goes c = λ n d w.
    let v = with_block (block_of c.args.block.now.items) w in
    stops_last_going (on (start program_language _ _ _) (rw (
      c.new-values.ensures.items,
      c.new.ensures.items,
    ) at c.in_ok-divisors.ensures.reads n d v (c.args.target ∷ []))) _
    (err_from_is_err_and c.from_residual-in_err-end.result c.from_residual-in_err-end.ensures.1)
    (c.in_err-end.ensures.goes end_statement with_set _)

pub returns-clause-goes : goal.returns-clause-goes
returns-clause-goes c = λ n d w.
    let names = c.args.self.now.names.now in
    let b = block_of c.args.block.now.items in
    let v = with_block b w in
    let ds = map divisor_of c.in_ok-divisors.divisors.items in
    let es = map expr_of c.right_side.new.values.items in
    let end = rest c.in_ok-end.end in
    ap (λ b. Ok (at_statement names n d (with_block b w), end))
    (ap block_of c.in_ok-push.ensures.items ∙ block_push c.args.block.now.items _
    ∙ ap (behind b) (set_statement _))
    ∙ ap (λ is. Ok (at_statement names n d (with_block (behind b (set ds is es)) w), end))
    c.in_ok-targets.ensures.items
    ∙ ends (on (start program_language _ _ _) (rw (
      c.new-values.ensures.items,
      c.new.ensures.items,
    ) at c.in_ok-divisors.ensures.reads n d v (c.args.target ∷ [])))
    (c.in_ok-end.ensures.goes end_statement with_set _)
