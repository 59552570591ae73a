use Rattle.std.proofs.Common.{◌≡◌, ℕ, true, false, refl, sym, ◌∙◌, Option, Some, None}
use Rattle.loop_model.specs.Names.{place_of}
use Rattle.poly_text.specs.Reasons.{limit, unknown, twice}
use Rattle.program_text.proofs.Targets.{told_long, told_unknown, told_found, target_fails, target_reads, target_barred}
use Rattle.program_text.proofs.assignments.Reader.variable.Goals as goal

nothing_found : (o : Option ℕ) → ((i : ℕ) → o ≡ Some i → ⊥) → o ≡ None
nothing_found None other = refl
nothing_found (Some i) other = absurd (other i refl)

pub returns-in_default : goal.returns-in_default
returns-in_default c = record {
  reads = λ fault next build s after is. rw c.syntax_fault.ensures (target_barred fault next build s
      c.args.cursor c.in_default.not-Name);
  falls = tt;
}

pub returns-then-word-gt-MOST_BYTES-clause-reads : goal.returns-then-word-gt-MOST_BYTES-clause-reads
returns-then-word-gt-MOST_BYTES-clause-reads c = λ fault next build s after is.
    target_fails is c.args.cursor c.in-Name.word c.in-Name.is limit
    (told_long c.args.self.now.names.now c.args.taken.now c.in-Name.word.now
    c.if-word-gt-MOST_BYTES.true)

pub returns-in_default-position-clause-reads : goal.returns-in_default-position-clause-reads
returns-in_default-position-clause-reads c = λ fault next build s after is.
    let none : place_of c.args.self.now.names.now c.in-Name.word.now ≡ None =
    sym c.position.ensures.place ∙ nothing_found c.position.result c.in_default-position.not-Some in
    target_fails is c.args.cursor c.in-Name.word c.in-Name.is unknown
    (told_unknown c.args.self.now.names.now c.args.taken.now c.in-Name.word.now
    c.if-word-gt-MOST_BYTES.false none)

pub returns-then-contains-clause-reads : goal.returns-then-contains-clause-reads
returns-then-contains-clause-reads c = λ fault next build s after is.
    target_fails is c.args.cursor c.in-Name.word c.in-Name.is twice
    (told_found c.args.self.now.names.now c.args.taken.now c.in-Name.word.now
    c.if-word-gt-MOST_BYTES.false c.in-Some.index (sym c.position.ensures.place ∙ c.in-Some.is) true
    (sym c.if-contains.ensures.value))

pub returns-clause-reads : goal.returns-clause-reads
returns-clause-reads c = λ fault next build s after is.
    let place = sym c.position.ensures.place ∙ c.in-Some.is in
    target_reads is c.args.cursor c.in-Name.word c.in-Name.is c.in-Some.index place
    (told_found c.args.self.now.names.now c.args.taken.now c.in-Name.word.now
    c.if-word-gt-MOST_BYTES.false c.in-Some.index place false (sym c.if-contains.ensures.value))
    c.next.result c.next.ensures.tokens
