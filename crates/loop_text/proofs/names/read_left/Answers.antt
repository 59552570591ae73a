use Rattle.std.proofs.Common.{◌≡◌, ℕ, true, false, refl, sym, ◌∙◌, map, Option, Some, None}
use Rattle.loop_model.specs.Names.{place_of}
use Rattle.loop_text.proofs.WordReads.{no_name_here, word_barred, left_long, left_short, left_found, left_fails, left_reads}
use Rattle.loop_text.proofs.Answering.{limit, unknown, twice, init_uses, equation_of, has_used, used_in}
use Rattle.loop_text.proofs.names.read_left.Goals as goal

nothing_found : (o : Option ℕ) → ((i : ℕ) → o ≡ Some i → ⊥) → o ≡ None
nothing_found None other = refl
nothing_found (Some i) other = absurd (other i refl)

pub returns-in_default-clause-reads : goal.returns-in_default-clause-reads
returns-in_default-clause-reads c = λ fault next s after is.
    rw c.syntax_fault.ensures (word_barred fault next s c.args.cursor
    (no_name_here c.args.cursor c.in_default.not-Name))

pub returns-then-word-gt-MOST_BYTES-clause-reads : goal.returns-then-word-gt-MOST_BYTES-clause-reads
returns-then-word-gt-MOST_BYTES-clause-reads c = λ fault next s after is.
    left_fails is c.args.cursor c.in-Name.word c.in-Name.is limit
    (left_long c.args.names.now c.args.taken.now (used_in (map equation_of c.args.start.now))
    c.in-Name.word.now c.if-word-gt-MOST_BYTES.true)

pub returns-in_default-position-clause-reads : goal.returns-in_default-position-clause-reads
returns-in_default-position-clause-reads c = λ fault next s after is.
    let none : place_of c.args.names.now c.in-Name.word.now ≡ None = sym c.position.ensures.place
    ∙ nothing_found c.position.result c.in_default-position.not-Some in
    left_fails is c.args.cursor c.in-Name.word c.in-Name.is unknown
    (left_short c.args.names.now c.args.taken.now (used_in (map equation_of c.args.start.now))
    c.in-Name.word.now c.if-word-gt-MOST_BYTES.false None none)

pub returns-then-contains-clause-reads : goal.returns-then-contains-clause-reads
returns-then-contains-clause-reads c = λ fault next s after is.
    left_fails is c.args.cursor c.in-Name.word c.in-Name.is twice
    (left_found c.args.names.now c.args.taken.now (used_in (map equation_of c.args.start.now))
    c.in-Name.word.now c.if-word-gt-MOST_BYTES.false
    c.in-Some.var (sym c.position.ensures.place ∙ c.in-Some.is) true _
    (sym c.if-contains.ensures.value) refl)

pub returns-then-is_used-clause-reads : goal.returns-then-is_used-clause-reads
returns-then-is_used-clause-reads c = λ fault next s after is.
    left_fails is c.args.cursor c.in-Name.word c.in-Name.is init_uses
    (left_found c.args.names.now c.args.taken.now (used_in (map equation_of c.args.start.now))
    c.in-Name.word.now c.if-word-gt-MOST_BYTES.false
    c.in-Some.var (sym c.position.ensures.place ∙ c.in-Some.is) false true
    (sym c.if-contains.ensures.value) (has_used c.args.start.now c.in-Some.var
    ∙ sym c.if-is_used.ensures))

pub returns-clause-reads : goal.returns-clause-reads
returns-clause-reads c = λ fault next s after is.
    let place = sym c.position.ensures.place ∙ c.in-Some.is in
    left_reads is c.args.cursor c.in-Name.word c.in-Name.is c.in-Some.var place
    (left_found c.args.names.now c.args.taken.now (used_in (map equation_of c.args.start.now))
    c.in-Name.word.now c.if-word-gt-MOST_BYTES.false
    c.in-Some.var place false false (sym c.if-contains.ensures.value)
    (has_used c.args.start.now c.in-Some.var ∙ sym c.if-is_used.ensures)) c.next.result
    c.next.ensures.tokens
