use Rattle.std.proofs.Common.{rules, refl, sym, subst}
use Rattle.journal.specs.declared.Task.TheVariants as task
use Rattle.rounds.specs.Form.{front}
use Rattle.divide.specs.Outcomes.{refusal_of}
use Rattle.corollaries.specs.Making.{IsStageMade}
use Rattle.task_lists.specs.View.{stage_in}
use Rattle.invariant_fix.specs.Orbits.{numbers_of, pulled_back_list, IsPastPulledBack}
use Rattle.full_trace.specs.Tasks.{Stops, IsBegunRefused}
use Rattle.full_trace.proofs.TasksMade.{orbit_over, orbit_next, orbit_known, orbit_units, orbit_stops}
use Rattle.full_trace.proofs.round_in_work.RoundInWork.orbit.Goals as goal

pub returns-in-Ok : goal.returns-in-Ok
returns-in-Ok c =
    let w = c.args.self.now in
    let b = c.index.result.now in
    let x = c.in-Ok.stage in
    let fits = c.requires.round.fits in
    let made = subst (λ gs. IsStageMade (front (numbers_of b)) (pulled_back_list b gs) (stage_in x)
    c.begin.new.self.entries c.orbit_stage.new.meter.entries) c.deref.ensures.value
    c.in-Ok.ensures.made in
    record {
      limit = search rules;
      next = λ R d hs A i a. orbit_next fits c.args.place c.requires.place c.index.ensures
          w.basis.now.items w.round c.args.meter.now c.orbit_stage.new.meter
          c.number_of_place.ensures c.in_ok-begin.ensures.ok A R d hs i a (stage_in x) made;
      over = orbit_over fits c.args.place c.requires.place c.index.ensures x c.in-Ok.ensures.over;
      list = orbit_known fits c.args.place c.requires.place c.index.ensures w.basis.now.items
          w.round c.args.meter.now c.orbit_stage.new.meter c.number_of_place.ensures
          c.in_ok-begin.ensures.ok (stage_in x) made x.out.items refl c.in-Ok.ensures.over.out
          c.requires.round.basis;
      units = orbit_units fits c.args.place c.requires.place c.index.ensures w.basis.now.items
          w.round c.args.meter.now c.orbit_stage.new.meter c.number_of_place.ensures
          c.in_ok-begin.ensures.ok (stage_in x) made;
      refused = λ R d hs A i a. tt;
    }

pub returns-in-Err-clause-refused : goal.returns-in-Err-clause-refused
returns-in-Err-clause-refused c = λ R d hs A i a.
    let w = c.args.self.now in
    let b = c.index.result.now in
    subst (Stops A R c.orbit_stage.new.meter) (sym c.in_task.ensures)
    (orbit_stops c.requires.round.fits c.args.place c.requires.place c.index.ensures
    w.basis.now.items w.round c.args.meter.now c.orbit_stage.new.meter c.number_of_place.ensures
    c.in_ok-begin.ensures.ok A R d hs i a (task.Orbit w.round c.number_of_place.result) refl
    c.in-Err.error (subst (λ gs. IsBegunRefused (IsPastPulledBack b gs) (front (numbers_of b))
    (pulled_back_list b gs) c.begin.new.self c.orbit_stage.new.meter (refusal_of c.in-Err.error))
    c.deref.ensures.value c.in-Err.ensures.refused))
