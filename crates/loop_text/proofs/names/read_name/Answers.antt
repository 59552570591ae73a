use Rattle.std.proofs.Common.{true, false, sym, arith}
use Rattle.loop_text.proofs.WordReads.{no_name_here, word_barred, new_limit, new_short, new_fails, new_reads}
use Rattle.loop_text.proofs.Answering.{limit, twice}
use Rattle.loop_text.proofs.names.read_name.Goals as goal

pub returns-in_default-clause-goes : goal.returns-in_default-clause-goes
returns-in_default-clause-goes c = λ fault next s after new.
    rw c.syntax_fault.ensures (word_barred fault next s c.args.cursor
    (no_name_here c.args.cursor c.in_default.not-Name))

pub returns-then-len-ge-MOST_NAMES-clause-goes : goal.returns-then-len-ge-MOST_NAMES-clause-goes
returns-then-len-ge-MOST_NAMES-clause-goes c = λ fault next s after new.
    new_fails new c.args.cursor c.in-Name.word c.in-Name.is limit
    (new_limit c.args.names.now c.args.all.now c.in-Name.word.now
    (rw c.len.ensures.len at c.then-len-ge-MOST_NAMES.either))

pub returns-then-is_some-clause-goes : goal.returns-then-is_some-clause-goes
returns-then-is_some-clause-goes c = λ fault next s after new.
    new_fails new c.args.cursor c.in-Name.word c.in-Name.is twice
    (new_short c.args.names.now c.args.all.now c.in-Name.word.now (omega arith)
    c.if-word-gt-MOST_BYTES.false true (rw c.position.ensures.place at
    (sym c.if-is_some.ensures)))

pub returns-clause-goes : goal.returns-clause-goes
returns-clause-goes c = λ fault next s after new.
    rw c.in_ok-push_new.ensures.ok
    (new_reads new c.args.cursor c.in-Name.word c.in-Name.is
    (new_short c.args.names.now c.args.all.now c.in-Name.word.now (omega arith)
    c.if-word-gt-MOST_BYTES.false false (rw c.position.ensures.place at
    (sym c.if-is_some.ensures)))
    c.next.result c.next.ensures.tokens)
