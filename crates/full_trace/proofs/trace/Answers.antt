use Rattle.std.proofs.Common.{subst, get_or}
use Rattle.task_lists.specs.View.{start_in}
use Rattle.full_trace.specs.Tasks.{AreBranchesOver}
use Rattle.full_trace.proofs.RoundsMade.{zip_forms, fronts_are}
use Rattle.full_trace.proofs.Whole.{finished, going, lost, followed, refused}
use Rattle.full_trace.proofs.trace.Goals as goal

pub returns-in_err-first-clause-follows : goal.returns-in_err-first-clause-follows
returns-in_err-first-clause-follows c = followed c.args.setting c.requires.fits c.requires.at_zero
    c.args.rounds
    c.args.meter.now.entries c.requires.unbegun
    c.start.new.meter c.in_err-first.field-0.0 (c.in_err-first.ensures.refused c.args.rounds)

pub returns-in_err-first-clause-refused : goal.returns-in_err-first-clause-refused
returns-in_err-first-clause-refused c = refused c.args.setting c.requires.fits c.requires.at_zero
    c.args.rounds c.args.meter.now.entries c.requires.unbegun c.start.new.meter
    c.in_err-first.field-0.0 (c.in_err-first.ensures.refused c.args.rounds) _
    c.from_residual.ensures.1

pub returns-in_err-rounds-clause-follows : goal.returns-in_err-rounds-clause-follows
returns-in_err-rounds-clause-follows c = followed c.args.setting c.requires.fits c.requires.at_zero
    c.args.rounds
    c.args.meter.now.entries c.requires.unbegun
    c.all_rounds.new.meter c.in_err-rounds.field-0.0
    (λ A i b. c.in_err-rounds.ensures.refused (start_in c.in_ok-first.first).1 A i
    (c.in_ok-first.ensures.next c.args.rounds A i b))

pub returns-in_err-rounds-clause-refused : goal.returns-in_err-rounds-clause-refused
returns-in_err-rounds-clause-refused c = refused c.args.setting c.requires.fits c.requires.at_zero
    c.args.rounds c.args.meter.now.entries c.requires.unbegun c.all_rounds.new.meter
    c.in_err-rounds.field-0.0 (λ A i b. c.in_err-rounds.ensures.refused
    (start_in c.in_ok-first.first).1 A i (c.in_ok-first.ensures.next c.args.rounds A i b)) _
    c.from_residual-in_err-rounds.ensures.1

pub returns-in_err-forms-clause-follows : goal.returns-in_err-forms-clause-follows
returns-in_err-forms-clause-follows c = going c.args.setting c.requires.fits c.requires.at_zero
    c.args.rounds c.args.meter.now.entries c.requires.unbegun _ _ (λ A i b.
    c.in_ok-rounds.ensures.next (start_in c.in_ok-first.first).1 A i
    (c.in_ok-first.ensures.next c.args.rounds A i b))

pub returns-in_err-forms-clause-refused : goal.returns-in_err-forms-clause-refused
returns-in_err-forms-clause-refused c = lost c.args.setting c.requires.fits c.requires.at_zero
    c.args.rounds c.args.meter.now.entries c.requires.unbegun c.all_rounds.new.meter _ (λ A i b.
    c.in_ok-rounds.ensures.next (start_in c.in_ok-first.first).1 A i
    (c.in_ok-first.ensures.next c.args.rounds A i b)) _ c.from_residual-in_err-forms.ensures.1

pub returns-clause-follows : goal.returns-clause-follows
returns-clause-follows c = going c.args.setting c.requires.fits c.requires.at_zero c.args.rounds
    c.args.meter.now.entries c.requires.unbegun _ _ (λ A i b. c.in_ok-rounds.ensures.next
    (start_in c.in_ok-first.first).1 A i (c.in_ok-first.ensures.next c.args.rounds A i b))

pub returns-clause-traced : goal.returns-clause-traced
returns-clause-traced c = finished c.args.setting c.requires.fits c.requires.at_zero c.args.rounds
    c.args.meter.now.entries c.requires.unbegun _ (record {
      forms = c.in_ok-forms.forms;
      start = c.in_ok-first.first;
      rounds = c.in_ok-rounds.rounds;
    }) c.in_ok-forms.ensures.forms
    (λ A i b. c.in_ok-rounds.ensures.next (start_in c.in_ok-first.first).1 A i
    (c.in_ok-first.ensures.next c.args.rounds A i b))

pub returns-clause-over : goal.returns-clause-over
returns-clause-over c =
    let s = c.args.setting in
    let fs = c.in_ok-forms.forms.items in
    let rows = c.in_ok-rounds.rounds.items in
    record {
      forms = c.in_ok-forms.ensures.over s.arity c.requires.fits.branches;
      out = c.in_ok-first.ensures.list.over;
      links = c.in_ok-first.ensures.links;
      rounds = λ i d l. zip_forms s.arity fs _
          (subst (λ ks. AreBranchesOver s.arity ks (get_or rows i d).items)
          (fronts_are s fs c.in_ok-forms.ensures.forms) (c.in_ok-rounds.ensures.over i d l));
    }
