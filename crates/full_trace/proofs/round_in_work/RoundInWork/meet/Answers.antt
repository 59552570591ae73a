use Rattle.std.proofs.Common.{rules, inl, inr, refl, sym, ap, subst, ◌∙◌}
use Rattle.journal.specs.declared.Task.TheVariants as task
use Rattle.poly.specs.Seen.{terms_each}
use Rattle.divide.specs.declared.EngineError.TheVariants.{Memory}
use Rattle.divide.specs.Outcomes.{refusal_of}
use Rattle.corollaries.specs.Making.{IsStageMade, IsStageRefused}
use Rattle.task_lists.specs.View.{stage_in}
use Rattle.full_trace.specs.Tasks.{Stops}
use Rattle.full_trace.proofs.TasksMade.{meet_next, meet_known, meet_units, meet_stops}
use Rattle.full_trace.proofs.round_in_work.RoundInWork.meet.Goals as goal

pub returns-in_default-clause-refused : goal.returns-in_default-clause-refused
returns-in_default-clause-refused c = λ R d gs A i a.
    let w = c.args.self.now in
    meet_stops w.setting.now c.args.place c.args.so_far.now c.args.next.now w.round c.args.meter.now
    c.begin.new.self c.number_of_place.ensures c.in_ok-begin.ensures.ok A R d gs a
    (task.Meet w.round c.number_of_place.result) refl Memory (inl (refl, tt))

pub returns-in-Ok-stage : goal.returns-in-Ok-stage
returns-in-Ok-stage c =
    let w = c.args.self.now in
    let x = stage_in c.in-Ok-stage.stage in
    let made = subst (λ hs. IsStageMade 1 hs x c.begin.new.self.entries c.stage.new.meter.entries)
    (ap terms_each c.deref.ensures.value ∙ c.in-Ok.ensures.blend) c.in-Ok-stage.ensures.made in
    record {
      limit = search rules;
      met = λ R d gs A i a. meet_next w.setting.now c.args.place c.args.so_far.now c.args.next.now
          w.round c.args.meter.now c.stage.new.meter c.number_of_place.ensures
          c.in_ok-begin.ensures.ok A R d gs a x made;
      over = c.in-Ok-stage.ensures.over;
      list = meet_known w.setting.now c.args.place c.args.so_far.now c.args.next.now w.round
          c.args.meter.now c.stage.new.meter c.number_of_place.ensures c.in_ok-begin.ensures.ok x
          made refl c.in-Ok-stage.ensures.over.out c.requires.next.over;
      units = meet_units w.setting.now c.args.place c.args.so_far.now c.args.next.now w.round
          c.args.meter.now c.stage.new.meter c.number_of_place.ensures c.in_ok-begin.ensures.ok x
          made;
      refused = λ R d gs A i a. tt;
    }

pub returns-clause-refused : goal.returns-clause-refused
returns-clause-refused c = λ R d gs A i a.
    let w = c.args.self.now in
    subst (Stops A R c.stage.new.meter) (sym c.in_task.ensures) (meet_stops w.setting.now
    c.args.place c.args.so_far.now c.args.next.now w.round c.args.meter.now c.stage.new.meter
    c.number_of_place.ensures c.in_ok-begin.ensures.ok A R d gs a
    (task.Meet w.round c.number_of_place.result) refl c.in-Err.error (inr (subst (λ hs.
    IsStageRefused 1 hs c.stage.new.meter (refusal_of c.in-Err.error) c.begin.new.self)
    (ap terms_each c.deref.ensures.value ∙ c.in-Ok.ensures.blend) c.in-Err.ensures.refused)))
