use Rattle.std.proofs.Common.{ap, sym, ◌∙◌, arith}
use Rattle.program_text.specs.Guards.{inside_from}
use Rattle.program_text.proofs.GuardLaws.{inside_here, inside_more, inside_end, ended}
use Rattle.program_text.proofs.guard_parts.inside.Goals as goal

pub returns-then-not-is_blank-clause-inside : goal.returns-then-not-is_blank-clause-inside
returns-then-not-is_blank-clause-inside c =
    c.opened_at.ensures.inside
    ∙ sym (inside_here c.args.text.now c.loop-at.at c.loop-at-test.true
    (sym c.if-not-is_blank.ensures))
    ∙ c.loop-at.invariant

pub loop-at-preserved : goal.loop-at-preserved
loop-at-preserved c =
    sym (inside_more c.args.text.now c.loop-at.at c.loop-at-test.true
    (sym c.if-not-is_blank.ensures)) ∙ c.loop-at.invariant

pub returns-clause-inside : goal.returns-clause-inside
returns-clause-inside c =
    sym (ap (inside_from c.loop-at.at) (ended c.loop-at.at c.args.text.now
    (let past = c.loop-at-test.false in omega (arith, past))) ∙ inside_end c.loop-at.at)
    ∙ c.loop-at.invariant
