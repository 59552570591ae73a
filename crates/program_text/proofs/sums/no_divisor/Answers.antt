use Rattle.std.proofs.Common.{inl, inr, arith}
use Rattle.program_text.specs.Reads.{state_in}
use Rattle.program_text.proofs.PartSteps.{divisor_deep, divisor_many, divisor_sign, divisor_no_sign}
use Rattle.program_text.proofs.sums.no_divisor.Goals as goal

pub returns-then-byte-ne45 : goal.returns-then-byte-ne45
returns-then-byte-ne45 c = λ a n ts depth few. divisor_no_sign (state_in a n) c.args.at ts
    c.args.byte c.if-byte-ne40.true c.if-byte-ne45.true

pub returns-then-depth-ge-MOST_DEPTH : goal.returns-then-depth-ge-MOST_DEPTH
returns-then-depth-ge-MOST_DEPTH c = λ a n ts depth few.
    let past = c.if-depth-ge-MOST_DEPTH.true in
    divisor_deep (state_in a n) c.args.at ts c.args.byte
    (elim c.else-byte-ne40.either [ inl h ↦ inr h.1 | inr h ↦ inl h ])
    (omega (arith, past, depth))

pub returns-then-operators-ge-MOST_OPERATORS : goal.returns-then-operators-ge-MOST_OPERATORS
returns-then-operators-ge-MOST_OPERATORS c = λ a n ts depth few.
    let room = c.if-depth-ge-MOST_DEPTH.false in
    divisor_many (state_in a n) c.args.at ts c.args.byte c.if-byte-eq45.true
    (omega (arith, room, depth))
    (let past = c.if-operators-ge-MOST_OPERATORS.true in omega (arith, past, few))

pub returns : goal.returns
returns c = λ a n ts depth few.
    let room = c.if-depth-ge-MOST_DEPTH.false in
    divisor_sign (state_in a n) c.args.at ts c.args.byte
    (elim c.else-byte-ne40.either [ inl h ↦ inr h.1 | inr h ↦ inl h ])
    (omega (arith, room, depth)) (elim c.else-byte-eq45.either [
      | inl h ↦ inl (h.0, let below = h.1 in omega (arith, below, few))
      | inr h ↦ inr h
    ])
