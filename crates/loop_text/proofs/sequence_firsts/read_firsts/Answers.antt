use Rattle.std.proofs.Common.{refl, sym}
use Rattle.std.proofs.lemmas.Result.{err_from_is_err_and}
use Rattle.poly_text.specs.CursorView.{rest}
use Rattle.poly_text.proofs.Paths.{ends, stops, stops_last}
use Rattle.loop_text.specs.Seqs.{first, firsts, sign, end_firsts, keep}
use Rattle.loop_text.specs.Firsts.{behind}
use Rattle.loop_text.proofs.Standing.{left_tokens}
use Rattle.loop_text.proofs.SequenceTokenReads.{sign_read}
use Rattle.loop_text.proofs.SequenceListReads.{each, next_one, last_one}
use Rattle.loop_text.proofs.sequence_firsts.read_firsts.Goals as goal

pub returns-in_err-end-clause-reads : goal.returns-in_err-end-clause-reads
returns-in_err-end-clause-reads c =
    stops (each c.loop-firsts.invariant.path) _
    (err_from_is_err_and c.from_residual.result c.from_residual.ensures.1)
    c.in_err-end.ensures.goes

pub returns-in_err-end-2-clause-reads : goal.returns-in_err-end-2-clause-reads
returns-in_err-end-2-clause-reads c =
    stops_last (last_one c.loop-firsts.invariant.path c.in_ok-end.end c.in_ok-end.ensures.goes
    (sym c.if-not-is_sign.ensures)) _
    (err_from_is_err_and c.from_residual-in_err-end-2.result
    c.from_residual-in_err-end-2.ensures.1)
    (c.in_err-end-2.ensures.goes end_firsts keep _)

pub returns-then-not-is_sign-clause-reads : goal.returns-then-not-is_sign-clause-reads
returns-then-not-is_sign-clause-reads c =
    ends (last_one c.loop-firsts.invariant.path c.in_ok-end.end c.in_ok-end.ensures.goes
    (sym c.if-not-is_sign.ensures)) (c.in_ok-end-2.ensures.goes end_firsts keep _)

pub loop-firsts-preserved : goal.loop-firsts-preserved
loop-firsts-preserved c =
    let text = c.args.text.now in
    let comma = sym c.if-not-is_sign.ensures in
    let end = c.in_ok-end.end in
    let s = behind c.read_first.new.firsts in
    record {
      path = next_one c.loop-firsts.invariant.path end c.in_ok-end.ensures.goes comma
          c.next-at.result c.next-at.ensures.tokens;
      made = c.in_ok-end.ensures.made;
      tokens = left_tokens text (sign 44) refl s (rest end)
          (left_tokens text first refl (behind c.loop-firsts.firsts) (rest c.loop-firsts.at)
          c.loop-firsts.invariant.tokens s (rest end) c.in_ok-end.ensures.goes)
          s (rest c.next-at.result)
          (sign_read 44 (λ c. c) keep s end refl comma c.next-at.result c.next-at.ensures.tokens);
    }
