use Rattle.std.proofs.Common.{◌≡◌, ◌⊎◌, length, refl, sym, ap, subst, ◌∙◌, arith}
use Rattle.std.proofs.lemmas.List.{length-map}
use Rattle.std.specs.Prelude.{IfOk}
use Rattle.poly.specs.Seen.{terms_in, terms_each}
use Rattle.loop_model.proofs.Formed.{formed}
use Rattle.io_edge.specs.Views.{answer_view}
use Rattle.command_parts.specs.ReadBack.{IsReadBack}
use Rattle.closures.specs.Closing.{closed}
use Rattle.closures.specs.Ends.{ComesNext}
use Rattle.closing.specs.LoopMaps.{program_in}
use Rattle.closing_commands.specs.ProvedLists.{AreBegun, TellsProving}
use Rattle.closing_commands.specs.DecideTexts.{closure_answer}
use Rattle.closing_commands.specs.Deciding.{Decides, HasAsked}
use Rattle.closing_commands.proofs.DecideTold.{closure_answered, proving_answered, begun_asked}
use Rattle.closing_commands.proofs.decide_command.Question.answer_by_list.Goals as goal

pub certificate_answer-requires-clause-few : goal.certificate_answer-requires-clause-few
certificate_answer-requires-clause-few c =
    let many = length-map c.args.polynomials.now terms_in in
    let one = ap length c.requires.one in
    let same = ap length c.deref-in-Certificate.ensures.value in
    let within = c.within_limit.ensures.within in
    let few = c.within_limit.ensures.few in
    omega (arith, many, one, same, within, few, c.requires.few)

pub returns-in-Basis-clause-answer : goal.returns-in-Basis-clause-answer
returns-in-Basis-clause-answer c =
    let question = c.args.self.now in
    let l = program_in question.loop_maps in
    let p = terms_in question.polynomial in
    subst
    (λ ev. IfOk c.closure_answer.result
    (λ a. Decides l p c.args.meter.now ev question.budget.units (answer_view a)))
    (sym c.in-Basis.is)
    (closure_answered l (formed question.loop_maps.lp.now) c.args.polynomials.now c.requires.over
    c.args.meter.now question.budget.units c.requires.limit c.requires.free
    (terms_each c.args.list.items) c.names.result.now c.names.ensures.names
    c.closure_answer.result p c.requires.one c.requires.closed
    (subst
    (λ qs. IfOk c.closure_answer.result
    (λ a. answer_view a ≡ closure_answer c.names.result.now (terms_each qs)))
    c.deref.ensures.value c.closure_answer.ensures.answer)
    (subst
    (λ qs. IfOk c.closure_answer.result (λ a. IsReadBack c.names.result.now (terms_each qs)))
    c.deref.ensures.value c.closure_answer.ensures.read_back))

pub returns-clause-answer : goal.returns-clause-answer
returns-clause-answer c =
    let question = c.args.self.now in
    let l = program_in question.loop_maps in
    let p = terms_in question.polynomial in
    let m = c.certificate_answer.new.meter in
    subst
    (λ ev. IfOk c.certificate_answer.result
    (λ a. Decides l p m ev question.budget.units (answer_view a))) (sym c.in-Certificate.is)
    (proving_answered l (formed question.loop_maps.lp.now) c.args.polynomials.now c.requires.over m
    question.budget.units (c.certificate_answer.ensures.limit ∙ c.requires.limit) c.requires.free
    (terms_each c.args.list.items) l.names refl c.certificate_answer.result p c.requires.one
    (subst
    (λ qs. IfOk c.certificate_answer.result (λ a. TellsProving l
    (terms_each c.args.polynomials.now) (terms_each qs) m question.budget.units (answer_view a)))
    c.deref-in-Certificate.ensures.value c.certificate_answer.ensures.answer))

pub returns-clause-asked : goal.returns-clause-asked
returns-clause-asked c =
    let question = c.args.self.now in
    let l = program_in question.loop_maps in
    let p = terms_in question.polynomial in
    let m = c.certificate_answer.new.meter in
    subst (λ ev. HasAsked l p m ev question.budget.units) (sym c.in-Certificate.is)
    (begun_asked l (formed question.loop_maps.lp.now) c.args.polynomials.now c.requires.over m
    question.budget.units (c.certificate_answer.ensures.limit ∙ c.requires.limit) c.requires.free
    (terms_each c.args.list.items) l.names refl c.certificate_answer.result p c.requires.one
    (subst
    (λ qs. ComesNext l (terms_each c.args.polynomials.now) m.entries (closed (terms_each qs))
    ⊎ AreBegun l (terms_each c.args.polynomials.now) m.entries (terms_each qs))
    c.deref-in-Certificate.ensures.value c.certificate_answer.ensures.begun))
