use Rattle.std.proofs.Common.{true, false, [], ◌∷◌, ◌++◌, ap, sym, ◌∙◌, Ok}
use Rattle.poly_text.specs.CursorView.{rest}
use Rattle.poly_text.specs.Reasons.{syntax, limit, twice}
use Rattle.loop_text.specs.Seqs.{declared_fault, declare}
use Rattle.loop_text.specs.SequenceStates.{between}
use Rattle.loop_text.proofs.SequenceWordReads.{named_here, no_name_here, word_here, word_goes, word_fails, word_barred, declared_no_name, declared_long, declared_short}
use Rattle.loop_text.proofs.FirstReads.{declared_so}
use Rattle.loop_text.proofs.sequence_firsts.read_name.Goals as goal

pub returns-in_default : goal.returns-in_default
returns-in_default c = record {
  goes = λ vs rs es. rw c.syntax_fault.ensures
      (word_barred declared_fault declare (between c.args.sequences.now vs rs es) c.args.cursor
      (no_name_here c.args.cursor c.in_default.not-Name));
  declared = tt;
  falls = tt;
}

pub returns-then-not-is_seqname-clause-goes : goal.returns-then-not-is_seqname-clause-goes
returns-then-not-is_seqname-clause-goes c = λ vs rs es.
    let k = c.args.cursor in
    let w = c.in-Name.word in
    let s = between c.args.sequences.now vs rs es in
    rw c.syntax_fault-then-not-is_seqname.ensures
    (word_fails declared_fault declare s k syntax (named_here k w c.in-Name.is)
    (ap (declared_fault s.context) (word_here k w c.in-Name.is)
    ∙ declared_no_name s.context w.now (sym c.if-not-is_seqname.ensures)))

pub returns-then-word-gt-MOST_SEQNAME-clause-goes :
    goal.returns-then-word-gt-MOST_SEQNAME-clause-goes
returns-then-word-gt-MOST_SEQNAME-clause-goes c = λ vs rs es.
    let k = c.args.cursor in
    let w = c.in-Name.word in
    let s = between c.args.sequences.now vs rs es in
    word_fails declared_fault declare s k limit (named_here k w c.in-Name.is)
    (ap (declared_fault s.context) (word_here k w c.in-Name.is)
    ∙ declared_long s.context w.now
    (sym c.if-not-is_seqname.ensures) c.if-word-gt-MOST_SEQNAME.true)

pub returns-then-is_some-clause-goes : goal.returns-then-is_some-clause-goes
returns-then-is_some-clause-goes c = λ vs rs es.
    let k = c.args.cursor in
    let w = c.in-Name.word in
    let s = between c.args.sequences.now vs rs es in
    word_fails declared_fault declare s k twice (named_here k w c.in-Name.is)
    (ap (declared_fault s.context) (word_here k w c.in-Name.is)
    ∙ declared_short s.context w.now
    (sym c.if-not-is_seqname.ensures) c.if-word-gt-MOST_SEQNAME.false true
    (rw c.position.ensures.place at (sym c.if-is_some.ensures)))

pub returns-clause-goes : goal.returns-clause-goes
returns-clause-goes c = λ vs rs es.
    let k = c.args.cursor in
    let ws = c.args.sequences.now in
    let w = c.in-Name.word in
    rw c.in_ok-push_new.ensures.ok
    (ap (λ w. Ok (between (ws ++ w ∷ []) vs rs es, rest c.next.result))
    (sym (word_here k w c.in-Name.is))
    ∙ word_goes declared_fault declare (between ws vs rs es) k (named_here k w c.in-Name.is)
    (ap (declared_fault (between ws vs rs es).context) (word_here k w c.in-Name.is)
    ∙ declared_short (between ws vs rs es).context w.now
    (sym c.if-not-is_seqname.ensures) c.if-word-gt-MOST_SEQNAME.false false
    (rw c.position.ensures.place at (sym c.if-is_some.ensures)))
    c.next.result c.next.ensures.tokens)

pub returns-clause-declared : goal.returns-clause-declared
returns-clause-declared c =
    declared_so c.args.cursor c.in-Name.word c.in-Name.is c.args.sequences.now _
    c.in_ok-push_new.ensures.ok (sym c.if-not-is_seqname.ensures)
    c.if-word-gt-MOST_SEQNAME.false (rw c.position.ensures.place at (sym c.if-is_some.ensures))
