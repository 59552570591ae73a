use Rattle.std.proofs.Common.{ap, refl, rules, ◌∙◌, [], ◌∷◌, ◌≡◌, length}
use Rattle.std.proofs.lemmas.Result.{IfOk-weaker}
use Rattle.machines.specs.Journal.{Journal, units_of}
use Rattle.poly.specs.Seen.{terms_in, terms_each}
use Rattle.poly.proofs.Standing.{polynomial_over}
use Rattle.loop_model.proofs.Formed.{formed}
use Rattle.closing.specs.LoopMaps.{program_in}
use Rattle.closing.specs.Progress.{candidate_of}
use Rattle.io_edge.specs.Views.{answer_view}
use Rattle.closing_commands.proofs.DecideTold.{asked_none, stop_alone, counter_letters, counter_image, counter_told, closes_counter, counter_fits}
use Rattle.closing_commands.proofs.decide_command.Question.answer_by_closing.Goals as goal

pub returns-in_err-polynomials-clause-asked : goal.returns-in_err-polynomials-clause-asked
returns-in_err-polynomials-clause-asked c =
    let question = c.args.self.now in
    asked_none (program_in question.loop_maps) (terms_in question.polynomial) c.args.meter.now
    question.evidence question.budget.units (ap (λ (j : Journal). j.limit) c.requires.opened)
    (ap (λ (j : Journal). j.entries) c.requires.opened)

pub answer_by_list-requires-clause-one : goal.answer_by_list-requires-clause-one
answer_by_list-requires-clause-one c =
    ap terms_each c.deref-in-Ok-Basis.ensures.value ∙ c.in_ok-polynomials.ensures.terms

pub answer_by_run-requires-clause-letters : goal.answer_by_run-requires-clause-letters
answer_by_run-requires-clause-letters c =
    let question = c.args.self.now in
    let l = program_in question.loop_maps in
    let p = terms_in question.polynomial in
    let one : terms_each c.deref.result.now ≡ p ∷ [] =
    ap terms_each c.deref.ensures.value ∙ c.in_ok-polynomials.ensures.terms in
    counter_letters l p c.close.new.meter question.evidence question.budget.units
    (c.close.ensures.limit ∙ ap (λ (j : Journal). j.limit) c.requires.opened) c.requires.free
    (formed question.loop_maps.lp.now)
    (polynomial_over (length l.names) question.polynomial c.requires.arity)
    (candidate_of (p ∷ []) c.in-Ok-Counter.counter.candidate)
    (terms_in c.in-Ok-Counter.counter.image)
    (closes_counter l (terms_each c.deref.result.now) c.close.new.meter.entries
    c.in-Ok-Counter.field-0 c.in-Ok-Counter.counter (search rules) c.in-Ok-Counter.ensures.closes p
    one)

pub answer_by_run-requires-clause-image : goal.answer_by_run-requires-clause-image
answer_by_run-requires-clause-image c =
    let question = c.args.self.now in
    let l = program_in question.loop_maps in
    let p = terms_in question.polynomial in
    let one : terms_each c.deref.result.now ≡ p ∷ [] =
    ap terms_each c.deref.ensures.value ∙ c.in_ok-polynomials.ensures.terms in
    counter_image l p c.close.new.meter question.evidence question.budget.units
    (c.close.ensures.limit ∙ ap (λ (j : Journal). j.limit) c.requires.opened) c.requires.free
    (formed question.loop_maps.lp.now)
    (polynomial_over (length l.names) question.polynomial c.requires.arity)
    (candidate_of (p ∷ []) c.in-Ok-Counter.counter.candidate)
    (terms_in c.in-Ok-Counter.counter.image)
    (closes_counter l (terms_each c.deref.result.now) c.close.new.meter.entries
    c.in-Ok-Counter.field-0 c.in-Ok-Counter.counter (search rules) c.in-Ok-Counter.ensures.closes p
    one) c.in-Ok-Counter.counter.image
    (counter_fits l (terms_each c.deref.result.now) c.close.new.meter.entries
    c.in-Ok-Counter.field-0 c.in-Ok-Counter.counter (search rules) (length l.names)
    (units_of c.close.new.meter.entries) c.in-Ok-Counter.ensures.fits) refl

pub returns-in-Ok-Counter-clause-answer : goal.returns-in-Ok-Counter-clause-answer
returns-in-Ok-Counter-clause-answer c =
    let question = c.args.self.now in
    let l = program_in question.loop_maps in
    let p = terms_in question.polynomial in
    let one : terms_each c.deref.result.now ≡ p ∷ [] =
    ap terms_each c.deref.ensures.value ∙ c.in_ok-polynomials.ensures.terms in
    IfOk-weaker c.answer_by_run.result _ _
    (λ a t. counter_told l p c.close.new.meter question.evidence question.budget.units
    (c.close.ensures.limit ∙ ap (λ (j : Journal). j.limit) c.requires.opened) c.requires.free
    (formed question.loop_maps.lp.now)
    (polynomial_over (length l.names) question.polynomial c.requires.arity)
    (candidate_of (p ∷ []) c.in-Ok-Counter.counter.candidate)
    (terms_in c.in-Ok-Counter.counter.image)
    (closes_counter l (terms_each c.deref.result.now) c.close.new.meter.entries
    c.in-Ok-Counter.field-0 c.in-Ok-Counter.counter (search rules) c.in-Ok-Counter.ensures.closes p
    one) (answer_view a) t) c.answer_by_run.ensures

pub returns-clause-answer : goal.returns-clause-answer
returns-clause-answer c =
    let question = c.args.self.now in
    let l = program_in question.loop_maps in
    let p = terms_in question.polynomial in
    let one : terms_each c.deref.result.now ≡ p ∷ [] =
    ap terms_each c.deref.ensures.value ∙ c.in_ok-polynomials.ensures.terms in
    IfOk-weaker c.closing_refusal.result _ _
    (λ a says. stop_alone l p c.close.new.meter question.evidence question.budget.units
    (c.close.ensures.limit ∙ ap (λ (j : Journal). j.limit) c.requires.opened) c.requires.free
    (terms_each c.deref.result.now) one c.in-Err.error c.in-Err.ensures.stopped (answer_view a)
    says) c.closing_refusal.ensures
