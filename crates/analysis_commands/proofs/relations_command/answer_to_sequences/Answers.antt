use Rattle.std.proofs.Common.{sym, subst, length}
use Rattle.loop_model.specs.View.{program_of}
use Rattle.ideal_ops.specs.Calls.{AreOver}
use Rattle.analysis_commands.proofs.RelationsAnswered.{names_count, has_related, found_said, refused_said, refused_named}
use Rattle.analysis_commands.proofs.relations_command.answer_to_sequences.Goals as goal

pub found_answer-requires : goal.found_answer-requires
found_answer-requires c =
    let r = c.requires in
    subst (λ ps. AreOver (length c.args.seqs.now.names) ps) (sym c.deref-in-Ok.ensures.value)
    (subst (λ n. AreOver n c.in-Ok.basis.items)
    (sym (names_count c.args.seqs.now c.deref.result.now c.deref.ensures.value r.sequences r.is))
    c.in-Ok.ensures.arity)

pub answer_to_no_relations-requires : goal.answer_to_no_relations-requires
answer_to_no_relations-requires c =
    refused_named (program_of c.args.seqs.now.lp) c.deref.result.now c.open.new.self
    c.relations.new.meter c.in-Err.error c.names.result.now c.names.ensures.names
    c.in-Err.ensures.refused

pub returns-in-Ok-clause-answer : goal.returns-in-Ok-clause-answer
returns-in-Ok-clause-answer c = λ qs is.
    found_said c.args.seqs.now c.deref.result.now c.deref.ensures.value qs is c.args.budget.units
    c.open.new.self c.relations.new.meter c.open.ensures c.in-Ok.ensures.limit
    c.found_answer.result c.in-Ok.basis.items c.deref-in-Ok.result.now c.deref-in-Ok.ensures.value
    c.in-Ok.ensures.free c.in-Ok.ensures.forms c.in-Ok.ensures.ended c.found_answer.ensures.text
    c.found_answer.ensures.read_back

pub returns-in-Err-clause-answer : goal.returns-in-Err-clause-answer
returns-in-Err-clause-answer c = λ qs is.
    refused_said c.args.seqs.now c.deref.result.now c.deref.ensures.value qs is c.args.budget.units
    c.open.new.self c.relations.new.meter c.open.ensures c.in-Err.ensures.limit
    c.answer_to_no_relations.result c.in-Err.error c.names.result.now c.names.ensures.names
    c.in-Err.ensures.refused c.answer_to_no_relations.ensures

pub returns-in-Ok-clause-related : goal.returns-in-Ok-clause-related
returns-in-Ok-clause-related c = λ qs is.
    has_related c.args.seqs.now c.deref.result.now c.deref.ensures.value qs is c.args.budget.units
    c.open.new.self c.relations.new.meter c.open.ensures c.in-Ok.ensures.limit
    c.in-Ok.ensures.follows

pub returns-in-Err-clause-related : goal.returns-in-Err-clause-related
returns-in-Err-clause-related c = λ qs is.
    has_related c.args.seqs.now c.deref.result.now c.deref.ensures.value qs is c.args.budget.units
    c.open.new.self c.relations.new.meter c.open.ensures c.in-Err.ensures.limit
    c.in-Err.ensures.follows
