use Rattle.std.proofs.Common.{◌<◌, [], map, length, refl, ap, ◌∙◌}
use Rattle.std.proofs.lemmas.List.Elements.{All-nil, All-same}
use Rattle.algebra.proofs.Lists.{have_more}
use Rattle.poly.specs.Seen.{terms_each}
use Rattle.task_lists.specs.View.{round_in}
use Rattle.corollaries.specs.Rounds.{behind}
use Rattle.full_trace.specs.Tasks.{after_rows, fronts_of, AreBranchesOver}
use Rattle.full_trace.proofs.RowsMade.{passed}
use Rattle.full_trace.proofs.RoundsMade.{lost, round_due, round_over, known_over, rounds_begun, known_begun}
use Rattle.full_trace.proofs.each_round.all_rounds.Goals as goal

pub loop-round-init : goal.loop-round-init
loop-round-init c =
    let s = c.args.setting.now in
    let none = c.new-found.ensures.items in
    record {
      limit = refl;
      known = known_begun s c.args.meter.now c.args.start.now c.new-found.result.items none
          c.requires.start;
      some = All-same (λ row. 0 < length row.items) _ [] none
          (All-nil (λ row. 0 < length row.items));
      over = All-same (λ row. AreBranchesOver s.arity (fronts_of s) row.items) _ [] none
          (All-nil (λ row. AreBranchesOver s.arity (fronts_of s) row.items));
      next = λ links A i a. rounds_begun A c.args.rounds c.args.start.now links none a;
    }

pub returns-in_err-row-clause-refused : goal.returns-in_err-row-clause-refused
returns-in_err-row-clause-refused c = λ links A i a.
    passed _ _ _ c.from_residual.ensures.1
    (c.in_err-row.ensures.refused c.args.rounds (behind (terms_each c.args.start.now.items) links
    (map round_in c.loop-round.found.items)) A i (round_due A _ c.args.start.now links _
    (c.list_behind-basis.ensures ∙ ap (after_rows c.args.start.now) c.deref.ensures.value) _
    c.loop-round-test.true (c.loop-round.invariant.next links A i a)))

pub returns-in_err-push-clause-refused : goal.returns-in_err-push-clause-refused
returns-in_err-push-clause-refused c = λ links A i a.
    passed _ _ _ c.from_residual-in_err-push.ensures.1 (lost A c.args.rounds _
    (c.in_ok-row.ensures.next c.args.rounds (behind (terms_each c.args.start.now.items) links
    (map round_in c.loop-round.found.items)) A i (round_due A _ c.args.start.now links _
    (c.list_behind-basis.ensures ∙ ap (after_rows c.args.start.now) c.deref.ensures.value) _
    c.loop-round-test.true (c.loop-round.invariant.next links A i a))))

pub loop-round-preserved : goal.loop-round-preserved
loop-round-preserved c =
    let s = c.args.setting.now in
    let v = c.loop-round.invariant in
    let rows = c.loop-round.found.items in
    let row = c.in_ok-row.row in
    let news = c.push.new.self.items in
    let push = c.in_ok-push.ensures.items in
    let basis = c.list_behind-basis.result.now in
    let is = c.list_behind-basis.ensures ∙ ap (after_rows c.args.start.now) c.deref.ensures.value in
    let k = c.loop-round.round in
    record {
      limit = c.stages.ensures.limit ∙ v.limit;
      known = known_over s c.stages.new.meter c.args.start.now rows basis is row news push
          c.in_ok-row.ensures.list;
      some = have_more (λ r. 0 < length r.items) rows news row push v.some
          c.in_ok-row.ensures.some;
      over = have_more (λ r. AreBranchesOver s.arity (fronts_of s) r.items) rows news row push
          v.over c.in_ok-row.ensures.over;
      next = λ links A i a. round_over A c.args.rounds c.args.start.now links rows is k row
          news push c.stages.new.meter.entries (c.in_ok-row.ensures.next c.args.rounds
          (behind (terms_each c.args.start.now.items) links (map round_in rows)) A i (round_due A _
          c.args.start.now links rows is k c.loop-round-test.true (v.next links A i a)));
    }
