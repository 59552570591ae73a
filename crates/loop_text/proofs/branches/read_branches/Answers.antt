use Rattle.std.proofs.Common.{◌≡◌, false, true, refl, sym, ◌∙◌, arith, Ok}
use Rattle.loop_model.specs.Words.{branch_word}
use Rattle.poly_text.specs.CursorView.{behind}
use Rattle.poly_text.proofs.Paths.{reading_more, reading_none, reading_sequence}
use Rattle.loop_text.proofs.LoopChecked.{loops_checked}
use Rattle.loop_text.proofs.Answering.{err_from_is_err_and, many, some, rest, seen_lexeme, Cursor, here, on, over, ends, start, stops, keyword_kind, no_keyword_kind, LoopState, branch, loop_language, reading, in_branches, branches_of, is_keyword_of}
use Rattle.loop_text.proofs.branches.read_branches.Goals as goal

module _ (t : LoopState) (c : Cursor) where
  one_more : is_keyword_of (seen_lexeme c.token.lexeme) branch_word ≡ true
      → reading (many branch) t (rest c) ≡ reading (some branch) t (rest c)
  one_more is =
      reading_more loop_language loops_checked branch refl t (here c) (behind c)
      (keyword_kind branch_word (seen_lexeme c.token.lexeme) is)
      ∙ sym (reading_sequence loop_language branch (many branch) t (rest c))

  no_more : is_keyword_of (seen_lexeme c.token.lexeme) branch_word ≡ false
      → Ok (t, rest c) ≡ reading (many branch) t (rest c)
  no_more other = sym (reading_none loop_language loops_checked branch refl t (here c) (behind c)
      (no_keyword_kind branch_word (seen_lexeme c.token.lexeme) other))

pub loop-branches-init : goal.loop-branches-init
loop-branches-init c = record {
  falls = omega arith;
  goes = λ init. rw c.new-branches.ensures.items
      (start loop_language _ _ _);
}

pub returns-in_err-at-clause-reads : goal.returns-in_err-at-clause-reads
returns-in_err-at-clause-reads c = λ init.
    stops (c.loop-branches.invariant.goes init) _ (err_from_is_err_and c.from_residual.result
    c.from_residual.ensures.1) (c.in_err-at.ensures.goes init)

pub returns-then-not-is_keyword-clause-reads : goal.returns-then-not-is_keyword-clause-reads
returns-then-not-is_keyword-clause-reads c = λ init.
    let t = in_branches c.args.names.now.variables c.args.names.now.locals c.read_branch.new.begun
    init (branches_of c.read_branch.new.branches.items) in
    ends (on (c.loop-branches.invariant.goes init) (c.in_ok-at.ensures.goes init))
    (no_more t c.in_ok-at.at (sym c.if-not-is_keyword.ensures))

pub returns-then-not-is_keyword-clause-falls : goal.returns-then-not-is_keyword-clause-falls
returns-then-not-is_keyword-clause-falls c =
    let a = c.in_ok-at.ensures.falls in
    let b = c.loop-branches.invariant.falls in
    omega (arith, a, b)

pub loop-branches-preserved : goal.loop-branches-preserved
loop-branches-preserved c = record {
  falls = let a = c.in_ok-at.ensures.falls in let b = c.loop-branches.invariant.falls in
      omega (arith, a, b);
  goes = λ init.
      let t = in_branches c.args.names.now.variables c.args.names.now.locals c.read_branch.new.begun
      init (branches_of c.read_branch.new.branches.items) in
      over (on (c.loop-branches.invariant.goes init) (c.in_ok-at.ensures.goes init)) _ _ _
      (one_more t c.in_ok-at.at (sym c.if-not-is_keyword.ensures));
}
