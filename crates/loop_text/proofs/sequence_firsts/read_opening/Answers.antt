use Rattle.std.proofs.Common.{ap, sym, ◌∙◌}
use Rattle.poly_text.specs.Reasons.{syntax, unless}
use Rattle.loop_text.specs.Seqs.{opening_fault}
use Rattle.loop_text.proofs.SequenceWordReads.{named_here, no_name_here, word_here, word_goes, word_fails, word_barred}
use Rattle.loop_text.proofs.sequence_firsts.read_opening.Goals as goal

pub returns-in_default : goal.returns-in_default
returns-in_default c = record {
  goes = λ s. rw c.syntax_fault.ensures
      (word_barred (λ c w. opening_fault w) (λ c w. c) s c.args.cursor
      (no_name_here c.args.cursor c.in_default.not-Name));
  falls = tt;
}

pub returns-then-not-is_sequences-clause-goes : goal.returns-then-not-is_sequences-clause-goes
returns-then-not-is_sequences-clause-goes c = λ s.
    let k = c.args.cursor in
    let w = c.in-Name.word in
    rw c.syntax_fault-then-not-is_sequences.ensures
    (word_fails (λ c w. opening_fault w) (λ c w. c) s k syntax (named_here k w c.in-Name.is)
    (ap opening_fault (word_here k w c.in-Name.is)
    ∙ ap (λ b. unless b syntax) (sym c.if-not-is_sequences.ensures)))

pub returns-clause-goes : goal.returns-clause-goes
returns-clause-goes c = λ s.
    let k = c.args.cursor in
    let w = c.in-Name.word in
    word_goes (λ c w. opening_fault w) (λ c w. c) s k (named_here k w c.in-Name.is)
    (ap opening_fault (word_here k w c.in-Name.is)
    ∙ ap (λ b. unless b syntax) (sym c.if-not-is_sequences.ensures)) c.next.result
    c.next.ensures.tokens
