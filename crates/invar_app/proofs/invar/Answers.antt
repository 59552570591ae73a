use Rattle.std.proofs.Common.{ap, map, string_bytes}
use Rattle.io_edge.proofs.Going.{finishes, obeys_same}
use Rattle.invar_app.specs.Arguments.{command_of, command_in, course_of, usage_answer}
use Rattle.invar_app.proofs.TopPromises.{promises, refuted}
use Rattle.invar_app.proofs.invar.Goals as goal

pub returns-clause-promises : goal.returns-clause-promises
returns-clause-promises g c =
    let before = c.args.meter.now in
    let command = command_in c.args.arguments.now in
    promises _ command
    (finishes (course_of before) command usage_answer _ c.answer_to-answer.result
    (obeys_same (course_of before) (command_of (map string_bytes c.deref.result.now)) command _ _
    c.answer_to-answer.result (ap (λ ws. command_of (map string_bytes ws)) c.deref.ensures.value)
    c.answer_to-answer.ensures) c.finish.ensures)

pub returns-clause-basis : goal.returns-clause-basis
returns-clause-basis g c =
    λ request is yes. ((returns-clause-promises g c).finds request is).basis yes

pub returns-clause-up_to : goal.returns-clause-up_to
returns-clause-up_to g c =
    λ request is yes. ((returns-clause-promises g c).finds_up_to request is).found yes

pub returns-clause-finds_up_to : goal.returns-clause-finds_up_to
returns-clause-finds_up_to g c =
    λ request l is reads maps.
    ((returns-clause-promises g c).finds_up_to request is).decided l reads maps

pub returns-clause-bases : goal.returns-clause-bases
returns-clause-bases g c =
    λ request is yes. ((returns-clause-promises g c).finds_each request is).bases yes

pub returns-clause-holds : goal.returns-clause-holds
returns-clause-holds g c =
    λ request is yes. ((returns-clause-promises g c).decides request is).holds yes

pub returns-clause-closes : goal.returns-clause-closes
returns-clause-closes g c =
    λ request is yes. ((returns-clause-promises g c).decides_any request is).holds yes

pub returns-clause-decides_any : goal.returns-clause-decides_any
returns-clause-decides_any g c =
    λ request l e is reads formed maps.
    ((returns-clause-promises g c).decides_any request is).decided l e reads formed maps

pub returns-clause-refuted : goal.returns-clause-refuted
returns-clause-refuted g c = refuted _ (command_in c.args.arguments.now)
    (returns-clause-promises g c)

pub returns-clause-valid : goal.returns-clause-valid
returns-clause-valid g c =
    λ request is yes. ((returns-clause-promises g c).checks request is).valid yes

pub returns-clause-complete : goal.returns-clause-complete
returns-clause-complete g c =
    λ request is yes. ((returns-clause-promises g c).checks_full request is).complete yes

pub returns-clause-proved : goal.returns-clause-proved
returns-clause-proved g c =
    λ request yes is. ((returns-clause-promises g c).checks_proof request yes).valid is

pub returns-clause-none_up_to : goal.returns-clause-none_up_to
returns-clause-none_up_to g c =
    λ request is yes. ((returns-clause-promises g c).counters request is).none_up_to yes

pub returns-clause-certified : goal.returns-clause-certified
returns-clause-certified g c =
    λ request is yes. ((returns-clause-promises g c).finds_full request is).certified yes

pub returns-clause-relations : goal.returns-clause-relations
returns-clause-relations g c =
    λ request is yes. ((returns-clause-promises g c).finds_relations request is).basis yes

pub returns-clause-usage : goal.returns-clause-usage
returns-clause-usage g c =
    let p = returns-clause-promises g c in
    (p.usage, p.no_command)
