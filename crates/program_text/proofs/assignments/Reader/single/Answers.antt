use Rattle.std.proofs.Common.{◌≡◌, ℕ, suc, List, refl, ap, sym, ◌∷◌, [], None, unwrap_or}
use Rattle.loop_model.specs.Names.{place_of}
use Rattle.program_text.specs.Words.{any_word}
use Rattle.program_text.specs.Kinds.{word_in}
use Rattle.program_text.proofs.Targets.{target_barred}
use Rattle.program_text.proofs.CursorReads.{named_here, faulty}
use Rattle.program_text.proofs.Answering.{err_from_is_err_and, sequence, either, rest, behind, here, seen_lexeme, or_else, limit, no_first, at_left, at_right, GoesOn, start, on, over, stops_going, continued_going, keyword_kind, no_keyword_kind, ProgramValue, keep, target_fault, only_target_fault, aim_only, word_keeps, only_target, any_value, set_value, sign, single, program_language, in_set, at_statement, with_block, block_of, IsTarget, target_told, statement_limit}
use Rattle.program_text.proofs.assignments.Reader.single.Goals as goal
use Rattle.program_text.proofs.assignments.Reader.single.Goals.{In_ok-target}

only : (names : List (List ℕ)) (n m d : ℕ) (w : ProgramValue)
    → statement_limit n ≡ None → m ≡ suc n
    → IsTarget names [] only_target_fault aim_only word_keeps (at_statement names n d w) (λ i.
    in_set names m d w (i ∷ []) [] [])
only names n m d w free more = record {
  faults = λ x. ap (λ o. or_else o (target_told names [] x)) free;
  goes = λ x. ap (λ m. in_set names m d w (unwrap_or (place_of names x) 0 ∷ []) [] []) (sym more);
}

pub returns-in_default : goal.returns-in_default
returns-in_default c = record {
  goes = λ d w.
      let k = c.args.cursor in
      let s = at_statement c.args.self.now.names.now c.args.begun.now d
      (with_block (block_of c.args.block.now.items) w) in
      rw c.syntax_fault.ensures
      (no_first program_language only_target (sequence (sign 61) (either any_value set_value)) s
      (rest k) _ (target_barred only_target_fault aim_only word_keeps s k c.in_default.not-Name));
  falls = tt;
}

pub returns-in_err-begin_statement-clause-goes : goal.returns-in_err-begin_statement-clause-goes
returns-in_err-begin_statement-clause-goes c = λ d w.
    let k = c.args.cursor in
    let s = at_statement c.args.self.now.names.now c.args.begun.now d
    (with_block (block_of c.args.block.now.items) w) in
    stops_going (start program_language _ _ _) _ (err_from_is_err_and c.from_residual.result
    c.from_residual.ensures.1)
    (rw c.in_err-begin_statement.ensures.limit.1 (faulty program_language only_target s (here k)
    (behind k) limit refl (named_here k c.in-Name.field-0 c.in-Name.is)
    (ap (λ o. or_else o (target_fault s.context (word_in (seen_lexeme k.token.lexeme))))
    c.in_err-begin_statement.ensures.limit.0)))

pub returns-in_err-target-clause-goes : goal.returns-in_err-target-clause-goes
returns-in_err-target-clause-goes c = λ d w.
    let names = c.args.self.now.names.now in
    let v = with_block (block_of c.args.block.now.items) w in
    let n = c.args.begun.now in
    let m = c.begin_statement.new.begun in
    let begun = c.in_ok-begin_statement.ensures in
    stops_going (start program_language _ _ _) _
    (err_from_is_err_and c.from_residual-in_err-target.result
    c.from_residual-in_err-target.ensures.1)
    (c.in_err-target.ensures.reads only_target_fault aim_only word_keeps (at_statement names n d v)
    (λ i. in_set names m d v (i ∷ []) [] []) (only names n m d v begun.limit begun.count))

-- behind the target
named : (c : In_ok-target) (d : ℕ) (w : ProgramValue)
    → GoesOn program_language single (at_statement c.args.self.now.names.now c.args.begun.now d w)
    (rest c.args.cursor) (sequence (sign 61) (either any_value set_value))
    (in_set c.args.self.now.names.now c.begin_statement.new.begun d w (c.in_ok-target.target ∷ [])
    [] []) (rest c.in_ok-target.behind)
named c d w =
    let names = c.args.self.now.names.now in
    let m = c.begin_statement.new.begun in
    let begun = c.in_ok-begin_statement.ensures in
    on (start program_language _ _ _) (c.in_ok-target.ensures.reads only_target_fault aim_only
    word_keeps (at_statement names c.args.begun.now d w) (λ i. in_set names m d w (i ∷ []) [] [])
    (only names c.args.begun.now m d w begun.limit begun.count))

pub returns-in_err-right-clause-goes : goal.returns-in_err-right-clause-goes
returns-in_err-right-clause-goes c = λ d w.
    stops_going (named (goal.at-returns-in_err-right-clause-goes c).In_ok-target d
    (with_block (block_of c.args.block.now.items) w)) _
    (err_from_is_err_and c.from_residual-in_err-right.result
    c.from_residual-in_err-right.ensures.1) (c.in_err-right.ensures.goes (λ c. c) keep _)

pub returns-then-is_keyword-clause-goes : goal.returns-then-is_keyword-clause-goes
returns-then-is_keyword-clause-goes c = λ d w.
    let names = c.args.self.now.names.now in
    let v = with_block (block_of c.args.block.now.items) w in
    let m = c.begin_statement.new.begun in
    let right = c.in_ok-right.right in
    let s = in_set names m d v (c.in_ok-target.target ∷ []) [] [] in
    continued_going program_language single any_value
    (at_statement names c.args.begun.now d v) s
    (at_statement names m d (with_block (block_of c.any_value.new.block.items) w)) c.args.cursor
    right c.any_value.result
    (over (on (named (goal.at-returns-then-is_keyword-clause-goes c).In_ok-target d v)
    (c.in_ok-right.ensures.goes (λ c. c) keep _)) any_value s (rest right)
    (at_left program_language any_value set_value s right
    (keyword_kind any_word (seen_lexeme right.token.lexeme) (sym c.if-is_keyword.ensures)))).same
    (c.any_value.ensures.goes m d w)

pub returns-else-is_keyword-clause-goes : goal.returns-else-is_keyword-clause-goes
returns-else-is_keyword-clause-goes c = λ d w.
    let names = c.args.self.now.names.now in
    let v = with_block (block_of c.args.block.now.items) w in
    let m = c.begin_statement.new.begun in
    let right = c.in_ok-right.right in
    let s = in_set names m d v (c.in_ok-target.target ∷ []) [] [] in
    continued_going program_language single set_value
    (at_statement names c.args.begun.now d v) s
    (at_statement names m d (with_block (block_of c.set_value.new.block.items) w)) c.args.cursor
    right c.set_value.result
    (over (on (named (goal.at-returns-else-is_keyword-clause-goes c).In_ok-target d v)
    (c.in_ok-right.ensures.goes (λ c. c) keep _)) set_value s (rest right)
    (at_right program_language any_value set_value s right
    (no_keyword_kind any_word (seen_lexeme right.token.lexeme) (sym c.if-is_keyword.ensures)))).same
    (c.set_value.ensures.goes m d w)
