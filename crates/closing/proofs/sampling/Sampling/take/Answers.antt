use Rattle.std.proofs.Common.{Ok, [], length, arith, refl, ap, ◌∙◌}
use Rattle.machines.specs.Journal.{Journal}
use Rattle.loop_model.specs.View.{program_of}
use Rattle.residue_rows.specs.Draws.{draws_from, after_draws}
use Rattle.closing.proofs.Taking.{draws_length, few_taken, not_counted, taken_units, taken_counts, taken_idle, taken_stuck}
use Rattle.closing.proofs.sampling.Sampling.take.Goals as goal

pub row_of-requires-clause-count : goal.row_of-requires-clause-count
row_of-requires-clause-count c =
    ap length (c.deref-2.ensures.value ∙ c.in_ok-numbers.ensures.numbers)
    ∙ (draws_length c.args.self.draws.number c.len.result
    ∙ (c.len.ensures.len ∙ ap length c.names.ensures.names))

pub overflow_add-sampling-in-Counts : goal.overflow_add-sampling-in-Counts
overflow_add-sampling-in-Counts c =
    let few = few_taken (program_of c.args.lp.now) c.requires.sampled.0 c.args.meter.now.entries []
    c.args.self c.requires.sampled.1 in
    omega (arith, few, c.begin.ensures.few)

pub overflow_add-sampling-in-Combination : goal.overflow_add-sampling-in-Combination
overflow_add-sampling-in-Combination c =
    let few = few_taken (program_of c.args.lp.now) c.requires.sampled.0 c.args.meter.now.entries []
    c.args.self c.requires.sampled.1 in
    omega (arith, few, c.begin.ensures.few)

pub returns-in-Counts-clause-units : goal.returns-in-Counts-clause-units
returns-in-Counts-clause-units c =
    taken_units (program_of c.args.lp.now) c.requires.sampled.0 c.args.meter.now.entries
    c.begin.new.self.entries c.args.self c.requires.sampled.1
    (ap (λ (j : Journal). j.entries) c.in-Ok.ensures.ok)

pub returns-in-Combination-clause-units : goal.returns-in-Combination-clause-units
returns-in-Combination-clause-units c =
    taken_units (program_of c.args.lp.now) c.requires.sampled.0 c.args.meter.now.entries
    c.begin.new.self.entries c.args.self c.requires.sampled.1
    (ap (λ (j : Journal). j.entries) c.in-Ok.ensures.ok)

pub returns-in-Counts-clause-takes : goal.returns-in-Counts-clause-takes
returns-in-Counts-clause-takes c = λ d u.
    let program = program_of c.args.lp.now in
    let x = c.args.self.draws.number in
    let names = c.len.ensures.len ∙ ap length c.names.ensures.names in
    taken_counts program d c.args.meter.now.entries c.begin.new.self.entries c.args.self u
    (ap (λ (j : Journal). j.entries) c.in-Ok.ensures.ok)
    (c.deref-2.ensures.value ∙ c.in_ok-numbers.ensures.numbers ∙ ap (draws_from x) names)
    (c.in_ok-numbers.ensures.state ∙ ap (after_draws x) names)
    (c.deref.ensures.value ∙ c.in_ok-letters.ensures.numbers) c.in_ok-letters.ensures.state
    (c.deref-3.ensures.value ∙ c.in_ok-word.ensures.word) c.in_ok-row.ensures.row
    (record { monomials = refl; maps = refl; width = c.in_ok-add_row.ensures.width })
    (omega arith) refl
    (c.in_ok-add_row.ensures.more (ap Ok c.in-Counts.is))
    (c.in_ok-add_row.ensures.new (ap Ok c.in-Counts.is)) (omega arith) refl

pub returns-in-Combination-clause-takes : goal.returns-in-Combination-clause-takes
returns-in-Combination-clause-takes c = λ d u.
    let program = program_of c.args.lp.now in
    let x = c.args.self.draws.number in
    let names = c.len.ensures.len ∙ ap length c.names.ensures.names in
    taken_idle program d c.args.meter.now.entries c.begin.new.self.entries c.args.self u
    (ap (λ (j : Journal). j.entries) c.in-Ok.ensures.ok)
    (c.deref-2.ensures.value ∙ c.in_ok-numbers.ensures.numbers ∙ ap (draws_from x) names)
    (c.in_ok-numbers.ensures.state ∙ ap (after_draws x) names)
    (c.deref.ensures.value ∙ c.in_ok-letters.ensures.numbers) c.in_ok-letters.ensures.state
    (c.deref-3.ensures.value ∙ c.in_ok-word.ensures.word) c.in_ok-row.ensures.row
    (record { monomials = refl; maps = refl; width = c.in_ok-add_row.ensures.width }) (omega arith)
    refl (c.in_ok-add_row.ensures.kept (λ counts. not_counted counts (c.in-Combination.is)))
    (c.in_ok-add_row.ensures.old (ap Ok c.in-Combination.is)) refl (omega arith)

pub returns-in-NoInverse-clause-takes : goal.returns-in-NoInverse-clause-takes
returns-in-NoInverse-clause-takes c = λ d u.
    let program = program_of c.args.lp.now in
    let x = c.args.self.draws.number in
    let names = c.len.ensures.len ∙ ap length c.names.ensures.names in
    taken_stuck program d c.args.meter.now.entries c.begin.new.self.entries c.args.self u
    (ap (λ (j : Journal). j.entries) c.in-Ok.ensures.ok)
    (c.deref-2.ensures.value ∙ c.in_ok-numbers.ensures.numbers ∙ ap (draws_from x) names)
    (c.in_ok-numbers.ensures.state ∙ ap (after_draws x) names)
    (c.deref.ensures.value ∙ c.in_ok-letters.ensures.numbers) c.in_ok-letters.ensures.state
    (c.deref-3.ensures.value ∙ c.in_ok-word.ensures.word) c.in_ok-row.ensures.row
    (c.in_ok-add_row.ensures.stuck (ap Ok c.in-NoInverse.is))
