use Rattle.std.proofs.Common.{◌+◌, ◌∷◌, ◌++◌, [], drop, get_or, length, ap, sym, ◌∙◌, arith}
use Rattle.std.proofs.lemmas.List.{append_assoc}
use Rattle.std.proofs.lemmas.List.Elements.{All-push}
use Rattle.program_text.specs.Guards.{pieces_from, splits, counted, IsWithin}
use Rattle.program_text.proofs.GuardLaws.{few, piece_more, piece_split, piece_end as none_left, ended, whole}
use Rattle.program_text.proofs.guard_parts.pieces.Goals as goal

pub loop-at-preserved-then-splits : goal.loop-at-preserved-then-splits
loop-at-preserved-then-splits c =
    let l = c.loop-at in
    let seen = l.invariant in
    let text = c.args.text.now in
    let split = piece_split text l.at c.loop-at-test.true l.start l.opened l.closed
    (ap (splits l.opened l.closed) (sym (whole text l.at)) ∙ sym c.if-splits.ensures) in
    let later = pieces_from (l.at + 2) (l.at + 2) l.opened l.closed (drop (l.at + 2) text) in
    record {
      same = ap (λ xs. xs ++ later) c.in_ok-push.ensures.items
          ∙ append_assoc l.found.items ((l.start, l.at) ∷ []) later
          ∙ ap (λ ys. l.found.items ++ ys) (sym split.1) ∙ seen.same;
      within = rw c.in_ok-push.ensures.items (All-push (IsWithin (length text)) l.found.items
          (l.start, l.at) seen.within (record { order = seen.start; end = seen.end }));
      start = omega arith;
      end = split.0;
      opened = let o = seen.opened in omega (arith, o);
      closed = let o = seen.closed in omega (arith, o);
    }

pub loop-at-preserved : goal.loop-at-preserved
loop-at-preserved c =
    let l = c.loop-at in
    let seen = l.invariant in
    let text = c.args.text.now in
    record {
      same = ap (λ n. l.found.items ++ pieces_from (l.at + 1) l.start n c.counted-closed.result
          (drop (l.at + 1) text)) c.counted-opened.ensures
          ∙ ap (λ n. l.found.items ++ pieces_from (l.at + 1) l.start (counted (get_or text l.at 0)
          40 l.opened) n (drop (l.at + 1) text))
          c.counted-closed.ensures
          ∙ (ap (λ ys. l.found.items ++ ys)
          (sym (piece_more text l.at c.loop-at-test.true l.start l.opened l.closed
          (ap (splits l.opened l.closed) (sym (whole text l.at)) ∙ sym c.if-splits.ensures)))
          ∙ seen.same);
      within = seen.within;
      start = let s = seen.start in omega (arith, s);
      end = let room = c.loop-at-test.true in omega (arith, room);
      opened = few _ 40 l.opened l.at c.counted-opened.result c.counted-opened.ensures seen.opened;
      closed = few _ 41 l.closed l.at c.counted-closed.result c.counted-closed.ensures seen.closed;
    }

pub returns-clause-pieces : goal.returns-clause-pieces
returns-clause-pieces c =
    let l = c.loop-at in
    let text = c.args.text.now in
    c.in_ok-push-2.ensures.items
    ∙ ap (λ ys. l.found.items ++ ys) (sym (ap (pieces_from l.at l.start l.opened l.closed)
    (ended l.at text (let past = c.loop-at-test.false in omega (arith, past)))
    ∙ none_left l.at l.start l.opened l.closed)) ∙ l.invariant.same
