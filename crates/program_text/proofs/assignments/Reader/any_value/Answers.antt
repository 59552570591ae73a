use Rattle.std.proofs.Common.{refl, ap, [], ◌∷◌, ◌∙◌, Ok, None}
use Rattle.program_model.specs.Program.{behind}
use Rattle.program_text.specs.Words.{any_word}
use Rattle.program_text.proofs.BlockViews.{block_push, any_statement}
use Rattle.program_text.proofs.Answering.{err_from_is_err_and, rest, on, start, ends, stops_last_going, noted_read, end_statement, with_unknown, program_language, in_set, at_statement, with_block, block_of}
use Rattle.program_text.proofs.assignments.Reader.any_value.Goals as goal

pub returns-in_err-end-clause-goes : goal.returns-in_err-end-clause-goes
returns-in_err-end-clause-goes c = λ n d w.
    let k = c.args.cursor in
    let s = in_set c.args.self.now.names.now n d (with_block (block_of c.args.block.now.items) w)
    (c.args.target ∷ []) [] [] in
    stops_last_going (on (start program_language _ s (rest k)) (noted_read any_word (λ c. None)
    (λ c. c) s k c.requires refl (rest c.next.result) c.next.ensures.tokens)) _
    (err_from_is_err_and c.from_residual.result c.from_residual.ensures.1)
    (c.in_err-end.ensures.goes end_statement with_unknown _)

pub returns-clause-goes : goal.returns-clause-goes
returns-clause-goes c = λ n d w.
    let k = c.args.cursor in
    let names = c.args.self.now.names.now in
    let b = block_of c.args.block.now.items in
    let s = in_set names n d (with_block b w) (c.args.target ∷ []) [] [] in
    ap (λ b. Ok (at_statement names n d (with_block b w), rest c.in_ok-end.end))
    (ap block_of c.in_ok-push.ensures.items ∙ block_push c.args.block.now.items _
    ∙ ap (behind b) (any_statement k.token.at c.args.target))
    ∙ ends (on (start program_language _ s (rest k)) (noted_read any_word (λ c. None) (λ c. c) s k
    c.requires refl (rest c.next.result) c.next.ensures.tokens))
    (c.in_ok-end.ensures.goes end_statement with_unknown _)
