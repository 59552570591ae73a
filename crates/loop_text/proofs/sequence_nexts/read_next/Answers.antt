use Rattle.std.proofs.Common.{◌≡◌, ℕ, suc, List, [], ◌∷◌, ◌++◌, length, refl, sym, ap, subst, ◌∙◌, arith, Ok}
use Rattle.std.proofs.lemmas.Result.{err_from_is_err_and}
use Rattle.std.proofs.lemmas.List.{length_push}
use Rattle.loops.specs.Program.{Expr}
use Rattle.loop_model.specs.ExpressionView.{expr_of}
use Rattle.poly_text.specs.CursorView.{rest}
use Rattle.poly_text.proofs.Paths.{GoesOn, start, on, ends, stops, stops_last, stopped}
use Rattle.grammars.specs.Grammar.{sequence, rule}
use Rattle.poly_text.specs.Sums.{a_sum}
use Rattle.loop_text.specs.Seqs.{next, due_name, sign, next_end, end_next, with_next, of_nexts, in_nexts, sums_in_nexts, no_sum_value, keep, seq_language}
use Rattle.loop_text.proofs.SeqChecked.{nexts_embedded}
use Rattle.loop_text.specs.Firsts.{behind_all}
use Rattle.loop_text.specs.SequenceStates.{IsFault}
use Rattle.loop_text.specs.Standing.{AreTokens}
use Rattle.loop_text.proofs.Standing.{left_tokens}
use Rattle.loop_text.proofs.SequenceSumReads.{error_within, error_told}
use Rattle.loop_text.proofs.SequenceValueReads.{right_over}
use Rattle.loop_text.proofs.DueReads.{due_at}
use Rattle.loop_text.proofs.NextReads.{fillers, length-fillers, next_sum}
use Rattle.loop_text.proofs.sequence_nexts.read_next.Goals as goal
use Rattle.loop_text.proofs.sequence_nexts.read_next.Goals.{In_ok-named, In_ok-right}

module _ (ns : List (Expr ℕ)) where
  named : (c : In_ok-named) → length ns ≡ c.args.index
      → GoesOn seq_language next (behind_all c.args.firsts.now ns) (rest c.args.cursor)
      (sequence (sign 61) (sequence (rule (of_nexts a_sum)) next_end))
      (behind_all c.args.firsts.now ns) (rest c.in_ok-named.named)
  named c e = on (start seq_language _ _ _)
      (c.in_ok-named.ensures.goes (behind_all c.args.firsts.now ns)
      (due_at c.args.firsts.now ns e c.name-due.ensures c.as_bytes.ensures.value))

  equalled : (c : In_ok-right) → length ns ≡ c.args.index
      → GoesOn seq_language next (behind_all c.args.firsts.now ns) (rest c.args.cursor)
      (sequence (rule (of_nexts a_sum)) next_end)
      (behind_all c.args.firsts.now ns) (rest c.in_ok-right.right)
  equalled c e = on (on (start seq_language _ _ _)
      (c.in_ok-named.ensures.goes (behind_all c.args.firsts.now ns)
      (due_at c.args.firsts.now ns e c.name-due.ensures c.as_bytes.ensures.value)))
      (c.in_ok-right.ensures.goes (λ c. c) keep _)

stand : (c : In_ok-right) → AreTokens c.args.text.now (rest c.in_ok-right.right)
stand c =
    let f = c.args.firsts.now in
    let ns = fillers c.args.index in
    left_tokens c.args.text.now (sign 61) refl (behind_all f ns) (rest c.in_ok-named.named)
    (left_tokens c.args.text.now due_name refl (behind_all f ns) (rest c.args.cursor)
    c.requires.tokens (behind_all f ns) (rest c.in_ok-named.named)
    (c.in_ok-named.ensures.goes (behind_all f ns)
    (due_at f ns (length-fillers c.args.index) c.name-due.ensures c.as_bytes.ensures.value)))
    (behind_all f ns) (rest c.in_ok-right.right) (c.in_ok-right.ensures.goes (λ c. c) keep _)

pub returns-in_err-named-clause-reads : goal.returns-in_err-named-clause-reads
returns-in_err-named-clause-reads c = λ ns e.
    stops (start seq_language _ _ _) _
    (err_from_is_err_and c.from_residual.result c.from_residual.ensures.1)
    (c.in_err-named.ensures.goes (behind_all c.args.firsts.now ns)
    (due_at c.args.firsts.now ns e c.name-due.ensures c.as_bytes.ensures.value))

pub returns-in_err-right-clause-reads : goal.returns-in_err-right-clause-reads
returns-in_err-right-clause-reads c = λ ns e.
    stops (named ns (goal.at-returns-in_err-right-clause-reads c).In_ok-named e) _
    (err_from_is_err_and c.from_residual-in_err-right.result
    c.from_residual-in_err-right.ensures.1)
    (c.in_err-right.ensures.goes (λ c. c) keep _)

pub returns-in_err-end-in-Ok-clause-reads : goal.returns-in_err-end-in-Ok-clause-reads
returns-in_err-end-in-Ok-clause-reads c = λ ns e.
    let f = c.args.firsts.now in
    let d = expr_of c.in-Ok.sum.value.value in
    stops_last (on (equalled ns (goal.at-returns-in_err-end-in-Ok-clause-reads c).In_ok-right e)
    (next_sum f ns d c.in-Ok.sum.operators c.in_ok-right.right c.in-Ok.end
    (c.in-Ok.ensures.reads [] no_sum_value))) _
    (err_from_is_err_and c.from_residual-in_err-end-in-Ok.result
    c.from_residual-in_err-end-in-Ok.ensures.1)
    (c.in_err-end-in-Ok.ensures.goes end_next with_next _)

pub in_nexts-requires : goal.in_nexts-requires
in_nexts-requires c =
    error_within in_nexts (λ x. refl) sums_in_nexts nexts_embedded
    (behind_all c.args.firsts.now []) (rest c.in_ok-right.right) c.args.text.now
    (stand (goal.at-in_nexts-requires c).In_ok-right) c.in-Err.error
    (c.in-Err.ensures.reads [] no_sum_value)

pub returns-in_ok-end-in-Ok-clause-reads : goal.returns-in_ok-end-in-Ok-clause-reads
returns-in_ok-end-in-Ok-clause-reads c = λ ns e.
    let f = c.args.firsts.now in
    let d = expr_of c.in-Ok.sum.value.value in
    let more : length (ns ++ d ∷ []) ≡ suc (length ns) = length_push ns d ∙ omega arith in
    let t = behind_all f (ns ++ d ∷ []) in
    let end = rest c.in_ok-end-in-Ok.end in
    ap (λ e. Ok (behind_all f (ns ++ expr_of e ∷ []), end)) c.into_inner.ensures
    ∙ ap (λ k. Ok (record { context = record t.context { nexts = k }; value = t.value }, end)) more
    ∙ ends (on (equalled ns (goal.at-returns-in_ok-end-in-Ok-clause-reads c).In_ok-right e)
    (next_sum f ns d c.in-Ok.sum.operators c.in_ok-right.right c.in-Ok.end
    (c.in-Ok.ensures.reads [] no_sum_value)))
    (c.in_ok-end-in-Ok.ensures.goes end_next with_next _)

pub returns-in_ok-end-in-Ok-clause-over : goal.returns-in_ok-end-in-Ok-clause-over
returns-in_ok-end-in-Ok-clause-over c = rw c.into_inner.ensures
    (right_over c.args.firsts.now.variables (expr_of c.in-Ok.sum.value.value) c.in-Ok.sum.operators
    c.in_ok-right.right c.in-Ok.end (c.in-Ok.ensures.reads [] no_sum_value))

pub returns-in-Err-clause-reads : goal.returns-in-Err-clause-reads
returns-in-Err-clause-reads c = λ ns e.
    let f = c.args.firsts.now in
    let r = (goal.at-returns-in-Err-clause-reads c).In_ok-right in
    subst (IsFault c.in_nexts.result) (sym (equalled ns r e).same)
    (stopped seq_language (rule (of_nexts a_sum)) next_end (behind_all f ns)
    (rest c.in_ok-right.right) c.in_nexts.result
    (error_told in_nexts (λ x. refl) sums_in_nexts nexts_embedded (behind_all f ns)
    (rest c.in_ok-right.right) c.args.text.now (stand r) c.in-Err.error c.in_nexts.result
    (c.in-Err.ensures.reads [] no_sum_value) c.in_nexts.ensures))
