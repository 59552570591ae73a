use Rattle.std.proofs.Common.{sym, ap, ◌∙◌}
use Rattle.poly_text.specs.Reasons.{syntax, unknown}
use Rattle.loop_text.specs.Seqs.{due_fault}
use Rattle.loop_text.proofs.SequenceWordReads.{named_here, no_name_here, word_here, word_goes, word_fails, word_barred}
use Rattle.loop_text.proofs.DueReads.{due_free, due_barred, due_other}
use Rattle.loop_text.proofs.sequence_nexts.expect_due.Goals as goal

pub returns-in_default : goal.returns-in_default
returns-in_default c = record {
  goes = λ s is. rw c.syntax_fault.ensures
      (word_barred due_fault (λ c w. c) _ c.args.cursor
      (no_name_here c.args.cursor c.in_default.not-Name));
  falls = tt;
}

pub returns-then-eq-clause-goes : goal.returns-then-eq-clause-goes
returns-then-eq-clause-goes c = λ s is.
    let k = c.args.cursor in
    let w = c.in-Name.word in
    word_goes due_fault (λ c w. c) s k (named_here k w c.in-Name.is)
    (ap (due_fault s.context) (word_here k w c.in-Name.is)
    ∙ due_free s c.args.due.now is w.now (sym c.eq.ensures ∙ c.if-eq.true))
    c.next.result c.next.ensures.tokens

pub returns-then-is_sequences-clause-goes : goal.returns-then-is_sequences-clause-goes
returns-then-is_sequences-clause-goes c = λ s is.
    let k = c.args.cursor in
    let w = c.in-Name.word in
    rw c.syntax_fault-then-is_sequences.ensures
    (word_fails due_fault (λ c w. c) s k syntax (named_here k w c.in-Name.is)
    (ap (due_fault s.context) (word_here k w c.in-Name.is)
    ∙ due_barred s c.args.due.now is w.now (sym c.eq.ensures ∙ c.if-eq.false)
    (sym c.is_sequences.ensures ∙ c.if-is_sequences.true)))

pub returns-clause-goes : goal.returns-clause-goes
returns-clause-goes c = λ s is.
    let k = c.args.cursor in
    let w = c.in-Name.word in
    word_fails due_fault (λ c w. c) s k unknown (named_here k w c.in-Name.is)
    (ap (due_fault s.context) (word_here k w c.in-Name.is)
    ∙ due_other s c.args.due.now is w.now (sym c.eq.ensures ∙ c.if-eq.false)
    (sym c.is_sequences.ensures ∙ c.if-is_sequences.false))
