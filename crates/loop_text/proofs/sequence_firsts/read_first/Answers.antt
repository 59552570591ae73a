use Rattle.std.proofs.Common.{◌≡◌, ◌+◌, refl, sym, ap, subst, ◌∙◌, arith, Ok}
use Rattle.std.proofs.lemmas.Result.{err_from_is_err_and}
use Rattle.loop_model.specs.ExpressionView.{expr_of}
use Rattle.grammars.specs.Grammar.{sequence}
use Rattle.poly_text.specs.CursorView.{rest}
use Rattle.poly_text.proofs.CursorReads.{no_first}
use Rattle.poly_text.proofs.Paths.{GoesOn, start, on, ends, stops_going, stops_last_going}
use Rattle.loop_text.specs.Seqs.{first, declared_name, declared_fault, declare, sign, values, value, end_first, with_first, keep, seq_language}
use Rattle.loop_text.specs.SequenceStates.{in_first, reading}
use Rattle.loop_text.specs.Firsts.{values_in, opened, behind, IsDeclared}
use Rattle.loop_text.proofs.Standing.{left_tokens}
use Rattle.loop_text.proofs.SequenceTokenReads.{sign_read, sign_no_end}
use Rattle.loop_text.proofs.SequenceWordReads.{no_name_here, word_here, word_barred}
use Rattle.loop_text.proofs.SequenceListReads.{each, next_one, last_one}
use Rattle.loop_text.proofs.FirstReads.{few_sequences, opened_first, closed_last, value_on, one_later}
use Rattle.loop_text.proofs.sequence_firsts.read_first.Goals as goal
use Rattle.loop_text.proofs.sequence_firsts.read_first.Goals.{In_ok-named, In_ok-push_value}

pub returns-in_default : goal.returns-in_default
returns-in_default c = record {
  goes = rw c.syntax_fault.ensures
      (no_first seq_language declared_name (sequence (sign 61) (sequence (sign 40) values)) _ _ _
      (word_barred declared_fault declare (behind c.args.firsts.now) c.args.cursor
      (no_name_here c.args.cursor c.in_default.not-Name)));
  made = tt;
  some = tt;
  falls = tt;
}

pub read_name-requires : goal.read_name-requires
read_name-requires c = record { room = few_sequences c.args.firsts.now c.requires.made }

pub returns-in_err-named-clause-goes : goal.returns-in_err-named-clause-goes
returns-in_err-named-clause-goes c =
    let f = c.args.firsts.now in
    stops_going (start seq_language _ _ _) _
    (err_from_is_err_and c.from_residual.result c.from_residual.ensures.1)
    (c.in_err-named.ensures.goes f.variables f.orders.items (values_in f))

named : (c : In_ok-named) → GoesOn seq_language first (behind c.args.firsts.now)
    (rest c.args.cursor) (sequence (sign 61) (sequence (sign 40) values))
    (in_first c.read_name.new.sequences c.args.firsts.now.variables
    c.args.firsts.now.orders.items (values_in c.args.firsts.now) 0) (rest c.in_ok-named.named)
named c =
    let f = c.args.firsts.now in
    on (start seq_language _ _ _)
    (c.in_ok-named.ensures.goes f.variables f.orders.items (values_in f))

pub returns-in_err-equals-clause-goes : goal.returns-in_err-equals-clause-goes
returns-in_err-equals-clause-goes c =
    stops_going (named (goal.at-returns-in_err-equals-clause-goes c).In_ok-named) _
    (err_from_is_err_and c.from_residual-in_err-equals.result
    c.from_residual-in_err-equals.ensures.1)
    (c.in_err-equals.ensures.goes (λ c. c) keep _)

pub returns-in_err-at-clause-goes : goal.returns-in_err-at-clause-goes
returns-in_err-at-clause-goes c =
    stops_going (on (named (goal.at-returns-in_err-at-clause-goes c).In_ok-named)
    (c.in_ok-equals.ensures.goes (λ c. c) keep _)) _
    (err_from_is_err_and c.from_residual-in_err-at.result c.from_residual-in_err-at.ensures.1)
    (c.in_err-at.ensures.goes (λ c. c) keep _)

pub loop-value-init : goal.loop-value-init
loop-value-init c =
    let f = c.args.firsts.now in
    let k = c.args.cursor in
    let w = c.in-Name.name in
    let text = c.args.text.now in
    let s = in_first c.read_name.new.sequences f.variables f.orders.items (values_in f) 0 in
    let a = c.in_ok-named.ensures.falls in
    let b = c.in_ok-equals.ensures.falls in
    let d = c.in_ok-at.ensures.falls in
    record {
      path = on (on (named (goal.at-loop-value-init c).In_ok-named)
          (c.in_ok-equals.ensures.goes (λ c. c) keep _)) (c.in_ok-at.ensures.goes (λ c. c) keep _);
      opens = opened_first f c.requires.made w.now c.read_name.new.sequences
          (subst (λ v. IsDeclared v f.sequences c.read_name.new.sequences)
          (word_here k w c.in-Name.is) c.in_ok-named.ensures.declared);
      tokens = left_tokens text (sign 40) refl s (rest c.in_ok-equals.equals)
          (left_tokens text (sign 61) refl s (rest c.in_ok-named.named)
          (left_tokens text declared_name refl (behind f) (rest k) c.requires.tokens s
          (rest c.in_ok-named.named)
          (c.in_ok-named.ensures.goes f.variables f.orders.items (values_in f)))
          s (rest c.in_ok-equals.equals) (c.in_ok-equals.ensures.goes (λ c. c) keep _))
          s (rest c.in_ok-at.at) (c.in_ok-at.ensures.goes (λ c. c) keep _);
      falls = omega (arith, a, b, d);
    }

pub returns-in_err-value-clause-goes : goal.returns-in_err-value-clause-goes
returns-in_err-value-clause-goes c =
    let f = c.loop-value.firsts in
    stops_going (each c.loop-value.invariant.path) _
    (err_from_is_err_and c.from_residual-in_err-value.result
    c.from_residual-in_err-value.ensures.1)
    (c.in_err-value.ensures.reads f.sequences f.variables f.orders.items (values_in f)
    c.loop-value.order (sym c.len.ensures.len))

-- a value is read
read : (c : In_ok-push_value) → Ok (
  opened c.push_value.new.self (c.loop-value.order + 1),
  rest c.in_ok-value.end,
) ≡ reading value (opened c.loop-value.firsts c.loop-value.order)
    (rest c.loop-value.at)
read c =
    let f = c.loop-value.firsts in
    value_on f c.push_value.new.self c.loop-value.order c.in-Name.name.now
    c.loop-value.invariant.opens (expr_of c.in_ok-value.value) (rest c.loop-value.at)
    (rest c.in_ok-value.end)
    (c.in_ok-value.ensures.reads f.sequences f.variables f.orders.items (values_in f)
    c.loop-value.order (sym c.len.ensures.len)) c.in_ok-push_value.ensures.state

pub returns-in_err-end-clause-goes : goal.returns-in_err-end-clause-goes
returns-in_err-end-clause-goes c =
    stops_last_going (last_one c.loop-value.invariant.path c.in_ok-value.end
    (read (goal.at-returns-in_err-end-clause-goes c).In_ok-push_value)
    (sym c.if-not-is_sign.ensures)) _
    (err_from_is_err_and c.from_residual-in_err-end.result c.from_residual-in_err-end.ensures.1)
    (c.in_err-end.ensures.goes end_first with_first _)

pub returns-then-not-is_sign-clause-goes : goal.returns-then-not-is_sign-clause-goes
returns-then-not-is_sign-clause-goes c =
    let g = c.push_value.new.self in
    ap (λ os. Ok (in_first g.sequences g.variables os (values_in g) 0, rest c.in_ok-end.end))
    c.in_ok-push.ensures.items
    ∙ ends (last_one c.loop-value.invariant.path c.in_ok-value.end
    (read (goal.at-returns-then-not-is_sign-clause-goes c).In_ok-push_value)
    (sym c.if-not-is_sign.ensures)) (c.in_ok-end.ensures.goes end_first with_first _)

pub returns-then-not-is_sign-clause-made : goal.returns-then-not-is_sign-clause-made
returns-then-not-is_sign-clause-made c =
    let i = c.loop-value.order in
    closed_last c.push_value.new.self (i + 1) c.in-Name.name.now
    (one_later c.push_value.new.self i c.in-Name.name.now c.in_ok-push_value.ensures.open)
    (omega arith) c.push.new.self c.in_ok-push.ensures.items

pub loop-value-preserved : goal.loop-value-preserved
loop-value-preserved c =
    let i = c.loop-value.order in
    let f = c.loop-value.firsts in
    let g = c.push_value.new.self in
    let text = c.args.text.now in
    let comma = sym c.if-not-is_sign.ensures in
    let r = read (goal.at-loop-value-preserved c).In_ok-push_value in
    let s = opened g (i + 1) in
    let end = c.in_ok-value.end in
    let a = c.loop-value.invariant.falls in
    let b = c.in_ok-value.ensures.falls in
    let d = c.next-at.ensures.falls (sign_no_end end.token.lexeme 44 comma) in
    record {
      path = next_one c.loop-value.invariant.path end r comma c.next-at.result
          c.next-at.ensures.tokens;
      opens = one_later g i c.in-Name.name.now c.in_ok-push_value.ensures.open;
      tokens = left_tokens text (sign 44) refl s (rest end)
          (left_tokens text value refl (opened f i) (rest c.loop-value.at)
          c.loop-value.invariant.tokens s (rest end) r)
          s (rest c.next-at.result)
          (sign_read 44 (λ c. c) keep s end refl comma c.next-at.result c.next-at.ensures.tokens);
      falls = omega (arith, a, b, d);
    }
