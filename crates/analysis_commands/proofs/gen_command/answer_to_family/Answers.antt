use Rattle.std.proofs.Common.{◌+◌, rules, arith, ap, refl, inl}
use Rattle.loop_text.specs.Family.{Counts}
use Rattle.loop_text.specs.Family as family
use Rattle.command_parts.specs.Numerals.{usual_budget}
use Rattle.io_edge.specs.Views.{answer_view}
use Rattle.analysis_commands.specs.Causes.{IsUnanalysed}
use Rattle.analysis_commands.proofs.Tallying.{kept_more, one_more, stops_here, told_all, few_loops, at_refusal}
use Rattle.analysis_commands.proofs.gen_command.answer_to_family.Goals as goal

pub loop-place-init : goal.loop-place-init
loop-place-init c = record {
  loops = ap (λ (x : Counts). x.loops) c.new-counts.ensures;
  counted = c.new-counts.ensures;
  kept = inl refl;
}

pub count_loop-requires-clause-loops : goal.count_loop-requires-clause-loops
count_loop-requires-clause-loops c =
    few_loops c.loop-place.place c.args.number c.loop-place.counts c.loop-place.invariant.loops
    c.loop-place-test.true c.ranges.number

pub returns-in_err-refusal-clause-kept : goal.returns-in_err-refusal-clause-kept
returns-in_err-refusal-clause-kept c =
    kept_more c.args.number c.loop-place.place (c.loop-place.place + 1)
    (omega arith) c.args.meter.now c.loop-place.meter c.count_loop.new.meter c.loop-place-test.true
    c.loop-place.invariant.kept c.count_loop.ensures.kept

pub returns-in-Some-clause-answer : goal.returns-in-Some-clause-answer
returns-in-Some-clause-answer c =
    stops_here c.args.number c.loop-place.place (c.loop-place.place + 1)
    (omega arith) c.args.meter.now c.loop-place.meter c.count_loop.new.meter
    c.loop-place-test.true c.loop-place.counts
    (answer_view c.in-Some.refusal) c.loop-place.invariant
    (at_refusal (λ a. IsUnanalysed
    (family.loop_text (c.loop-place.place + 1)) usual_budget c.count_loop.new.meter (answer_view a))
    c.in_ok-refusal.field-0 c.in-Some.refusal c.in-Some.is c.in_ok-refusal.ensures.refused)

pub returns-in-Some-clause-kept : goal.returns-in-Some-clause-kept
returns-in-Some-clause-kept c =
    kept_more c.args.number c.loop-place.place (c.loop-place.place + 1)
    (omega arith) c.args.meter.now c.loop-place.meter c.count_loop.new.meter c.loop-place-test.true
    c.loop-place.invariant.kept c.count_loop.ensures.kept

pub loop-place-preserved : goal.loop-place-preserved
loop-place-preserved c =
    one_more c.args.number c.loop-place.place (c.loop-place.place + 1)
    (omega arith) c.args.meter.now c.loop-place.meter c.count_loop.new.meter
    c.loop-place-test.true c.loop-place.counts c.count_loop.new.counts c.loop-place.invariant
    (c.in_ok-refusal.ensures.next (search rules)) c.count_loop.ensures.kept

pub returns-in_err-text-clause-kept : goal.returns-in_err-text-clause-kept
returns-in_err-text-clause-kept c = c.loop-place.invariant.kept

pub returns-clause-answer : goal.returns-clause-answer
returns-clause-answer c =
    told_all c.args.number c.loop-place.place c.args.meter.now c.loop-place.meter
    c.loop-place.counts (answer_view c.new.result) (omega arith) c.loop-place.invariant
    (search rules)

pub returns-clause-kept : goal.returns-clause-kept
returns-clause-kept c = c.loop-place.invariant.kept
