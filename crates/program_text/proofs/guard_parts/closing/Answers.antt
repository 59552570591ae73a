use Rattle.std.proofs.Common.{ap, ap₂, sym, ◌∙◌, arith, ◌&&◌, ◌+◌, drop, get_or}
use Rattle.std.proofs.lemmas.Bool.{eq-eqb}
use Rattle.program_text.specs.Guards.{closing_at}
use Rattle.program_text.proofs.GuardLaws.{closing_more, closing_here, closing_end, ended, no_closing, open_some, open_few}
use Rattle.program_text.proofs.guard_parts.closing.Goals as goal

pub returns-then-count-eq1-clause-at : goal.returns-then-count-eq1-clause-at
returns-then-count-eq1-clause-at c =
    let l = c.loop-at in
    let text = c.args.text.now in
    c.last.ensures.at
    ∙ sym (closing_here text l.at c.loop-at-test.true l.count
    (ap₂ ◌&&◌ (eq-eqb (get_or text l.at 0) 41 c.if-text-at-eq41.true)
    (eq-eqb l.count 1 c.if-count-eq1.true)))
    ∙ l.invariant.same

pub loop-at-preserved : goal.loop-at-preserved
loop-at-preserved c =
    let l = c.loop-at in
    let text = c.args.text.now in
    let b = get_or text l.at 0 in
    let either = c.else-text-at-eq41.either in
    let few = l.invariant.few in
    let more = open_few b l.count either in
    let is = c.open_behind-count.ensures in
    record {
      same = ap (λ n. closing_at (l.at + 1) n (drop (l.at + 1) text)) is
          ∙ sym (closing_more text l.at c.loop-at-test.true l.count (no_closing b l.count either))
          ∙ l.invariant.same;
      some = rw is (open_some b l.count either l.invariant.some);
      few = omega (arith, is, more, few);
    }

pub returns-clause-at : goal.returns-clause-at
returns-clause-at c =
    let l = c.loop-at in
    sym (ap (closing_at l.at l.count) (ended l.at c.args.text.now
    (let past = c.loop-at-test.false in omega (arith, past))) ∙ closing_end l.at l.count)
    ∙ l.invariant.same
