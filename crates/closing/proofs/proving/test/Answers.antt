use Rattle.divide.proofs.Refused.{unmade}
use Rattle.divide.specs.Division.{HasCofactors}
use Rattle.journal.specs.View.{task_of}
use Rattle.closing.specs.Proving.{iteration_test}
use Rattle.closing.proofs.Testing.{begun_runs, ran_turned}
use Rattle.closing.proofs.proving.test.Goals as goal

pub returns-in_err-turned : goal.returns-in_err-turned
returns-in_err-turned c =
    let g = c.args.element.now in
    let M = iteration_test g c.args.images.now.items c.args.closure.now in
    record {
      ran =
          begun_runs (task_of c.args.task) M (HasCofactors g.order g.arity) c.args.meter.now _
          c.in_ok-begin.ensures.ok (unmade M _ _ c.from_residual-in_err-turned.ensures.1
          c.in_err-turned.ensures.wide);
    }

pub returns : goal.returns
returns c =
    let g = c.args.element.now in
    record {
      ran =
          begun_runs (task_of c.args.task) _ (HasCofactors g.order g.arity) c.args.meter.now _
          c.in_ok-begin.ensures.ok (ran_turned g c.args.images.now.items c.requires.some
          c.requires.images c.requires.count c.in_ok-turned.turned
          c.in_ok-turned.ensures.composition c.args.closure.now c.begin.new.self c.divide.new.meter
          _ c.divide.ensures.ran);
    }
