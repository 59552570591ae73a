use Rattle.std.proofs.Common.{suc, length, true, false, nat_le, is_some, sym, arith, refl}
use Rattle.std.proofs.lemmas.Bool.{le-leb, lt-leb}
use Rattle.loop_model.specs.Names.{place_of}
use Rattle.poly_text.specs.Reasons.{limit, twice}
use Rattle.program_text.proofs.CursorReads.{genuine_name}
use Rattle.program_text.proofs.NameReads.{plain_too, declared_is, name_fails, name_reads, name_barred}
use Rattle.program_text.proofs.reading.read_name.Goals as goal

pub returns-in_default : goal.returns-in_default
returns-in_default c = record {
  goes = rw c.syntax_fault.ensures (name_barred c.args.names.now c.args.cursor
      c.in_default.not-Name);
  falls = tt;
}

pub returns-then-len-ge-MOST_NAMES-clause-goes : goal.returns-then-len-ge-MOST_NAMES-clause-goes
returns-then-len-ge-MOST_NAMES-clause-goes c =
    let ns = c.args.names.now in
    let w = c.in-Name.word.now in
    name_fails ns c.args.cursor c.in-Name.word c.in-Name.is limit
    (declared_is ns w false (nat_le (length w) 32) (is_some (place_of ns w))
    (lt-leb (suc (length ns)) 16 (let l = c.len.ensures.len in let past =
    c.if-len-ge-MOST_NAMES.true in omega (arith, l, past))) refl refl)

pub returns-then-word-gt-MOST_BYTES-clause-goes : goal.returns-then-word-gt-MOST_BYTES-clause-goes
returns-then-word-gt-MOST_BYTES-clause-goes c =
    let ns = c.args.names.now in
    let w = c.in-Name.word.now in
    name_fails ns c.args.cursor c.in-Name.word c.in-Name.is limit
    (declared_is ns w true false (is_some (place_of ns w))
    (le-leb (suc (length ns)) 16 (let l = c.len.ensures.len in let room =
    c.if-len-ge-MOST_NAMES.false in omega (arith, l, room)))
    (lt-leb (length w) 32 c.if-word-gt-MOST_BYTES.true) refl)

pub returns-then-is_some-clause-goes : goal.returns-then-is_some-clause-goes
returns-then-is_some-clause-goes c =
    let ns = c.args.names.now in
    let w = c.in-Name.word.now in
    name_fails ns c.args.cursor c.in-Name.word c.in-Name.is twice
    (declared_is ns w true true true
    (le-leb (suc (length ns)) 16 (let l = c.len.ensures.len in let room =
    c.if-len-ge-MOST_NAMES.false in omega (arith, l, room)))
    (le-leb (length w) 32 c.if-word-gt-MOST_BYTES.false)
    (rw c.position.ensures.place at (sym c.if-is_some.ensures)))

pub push_new-requires-clause-plain : goal.push_new-requires-clause-plain
push_new-requires-clause-plain c = plain_too c.in-Name.word.now
    (genuine_name c.args.cursor c.in-Name.word c.in-Name.is)

pub returns-clause-goes : goal.returns-clause-goes
returns-clause-goes c =
    let ns = c.args.names.now in
    let w = c.in-Name.word.now in
    rw c.in_ok-push_new.ensures.ok (name_reads ns c.args.cursor c.in-Name.word c.in-Name.is
    (declared_is ns w true true false
    (le-leb (suc (length ns)) 16 (let l = c.len.ensures.len in let room =
    c.if-len-ge-MOST_NAMES.false in omega (arith, l, room)))
    (le-leb (length w) 32 c.if-word-gt-MOST_BYTES.false)
    (rw c.position.ensures.place at (sym c.if-is_some.ensures)))
    c.next.result c.next.ensures.tokens)
