use Rattle.std.proofs.Common.{Ok, inl, inr, length, arith, refl, ap, ◌∙◌}
use Rattle.loop_model.specs.View.{program_of}
use Rattle.residue_rows.specs.Draws.{draws_from, after_draws}
use Rattle.closing.proofs.Taking.{draws_length, refuted_counts, refuted_old, refuted_stuck}
use Rattle.closing.proofs.sampling.Sampling.refute.Goals as goal

pub row_of-requires-clause-count : goal.row_of-requires-clause-count
row_of-requires-clause-count c =
    ap length (c.deref.ensures.value ∙ c.in_ok-numbers.ensures.numbers)
    ∙ (draws_length c.args.self.draws.number c.len.result
    ∙ (c.len.ensures.len ∙ ap length c.names.ensures.names))

pub overflow_add-sampling : goal.overflow_add-sampling
overflow_add-sampling c = omega (arith, c.requires.few)

pub returns-in-Counts : goal.returns-in-Counts
returns-in-Counts c = λ d ps a.
    let program = program_of c.args.lp.now in
    let x = c.args.self.draws.number in
    let names = c.len.ensures.len ∙ ap length c.names.ensures.names in
    refuted_counts d ps a (c.deref.ensures.value ∙ c.in_ok-numbers.ensures.numbers
    ∙ ap (draws_from x) names) c.in_ok-row.ensures.row
    (record { monomials = refl; maps = refl; width = c.in_ok-add_row.ensures.width }) refl
    (c.in_ok-numbers.ensures.state ∙ ap (after_draws x) names)
    (c.in_ok-add_row.ensures.more (ap Ok c.in-Counts.is))
    (c.in_ok-add_row.ensures.new (ap Ok c.in-Counts.is)) (omega arith) refl

pub returns-in-Combination : goal.returns-in-Combination
returns-in-Combination c = λ d ps a.
    let program = program_of c.args.lp.now in
    let x = c.args.self.draws.number in
    let names = c.len.ensures.len ∙ ap length c.names.ensures.names in
    let drawn = c.deref.ensures.value ∙ c.in_ok-numbers.ensures.numbers ∙ ap (draws_from x) names in
    elim c.in-Combination.is [
      | inl e ↦ refuted_old d ps a drawn c.in_ok-row.ensures.row
          (c.in_ok-add_row.ensures.old (ap Ok e))
      | inr e ↦ refuted_stuck d ps a
          drawn c.in_ok-row.ensures.row (c.in_ok-add_row.ensures.stuck (ap Ok e))
    ]
