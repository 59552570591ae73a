use Rattle.std.proofs.Common.{◌+◌, refl, sym, subst}
use Rattle.std.proofs.lemmas.Result.{err_from_is_err_and}
use Rattle.poly.specs.Seen.{terms_in, terms_each}
use Rattle.ideal_ops.specs.Calls.{AreOver}
use Rattle.closing.specs.LoopMaps.{program_in}
use Rattle.closing.specs.Progress.{IfStops}
use Rattle.closing.proofs.Lists.{extended_units, extended_few, fits_joined}
use Rattle.closing.proofs.Steps.{is_none, is_some, extended_along, start_stopped, join_counters, join_refused, join_goes, join_ends}
use Rattle.closing.proofs.Tied.{ran_grows}
use Rattle.closing.proofs.loop_maps.LoopMaps.join.Goals as goal

pub returns-in_err-image-clause-takes : goal.returns-in_err-image-clause-takes
returns-in_err-image-clause-takes c = λ P whole waiting h j.
    let p = err_from_is_err_and c.from_residual.result c.from_residual.ensures.1 in
    rw (p.1, p.2) (start_stopped (program_in c.args.self.now) P c.args.progress c.args.rest whole
    waiting c.args.meter.now c.args.meter.now h _ c.in_err-image.ensures.stopped)

pub returns-then-not-is_zero-clause-takes : goal.returns-then-not-is_zero-clause-takes
returns-then-not-is_zero-clause-takes c = λ P whole waiting h j.
    join_counters (program_in c.args.self.now) P c.args.progress c.args.rest whole waiting
    c.args.meter.now c.args.meter.now h c.in_ok-image.ensures.image
    (is_some c.is_zero.ensures c.if-not-is_zero.true)

pub returns-in-Err-clause-takes : goal.returns-in-Err-clause-takes
returns-in-Err-clause-takes c = λ P whole waiting h j.
    let program = program_in c.args.self.now in
    subst (IfStops program P c.extended_list.new.meter.limit c.extended_list.new.meter.entries)
    (sym c.in_task.ensures) (join_refused program P c.args.progress c.args.rest whole waiting
    c.args.meter.now c.extended_list.new.meter h c.in_ok-image.ensures.image
    (is_none c.is_zero.ensures c.if-not-is_zero.false) c.in-Err.error (extended_along _
    c.args.rest.polynomial c.deref.ensures.value _ _ c.in-Err.ensures.ran))

pub returns-in_err-push-clause-takes : goal.returns-in_err-push-clause-takes
returns-in_err-push-clause-takes c = λ P whole waiting h j.
    let p = err_from_is_err_and c.from_residual-in_err-push.result
    c.from_residual-in_err-push.ensures.1 in
    rw (p.1, p.2) (join_goes (program_in c.args.self.now) P c.args.progress c.args.rest whole
    waiting c.args.meter.now c.extended_list.new.meter h c.in_ok-image.ensures.image
    (is_none c.is_zero.ensures c.if-not-is_zero.false) _ (extended_along _ c.args.rest.polynomial
    c.deref.ensures.value _ _ c.in-Ok.ensures.ran))

pub returns-clause-units : goal.returns-clause-units
returns-clause-units c =
    extended_units c.args.meter.now c.extended_list.new.meter c.args.progress.number
    (terms_each c.deref.result.now) (terms_in c.args.rest.polynomial) c.in-Ok.list
    c.in-Ok.ensures.ran

pub returns-clause-grows : goal.returns-clause-grows
returns-clause-grows c =
    ran_grows _ _ _ _ c.in-Ok.list c.in-Ok.ensures.ran

pub returns-clause-fits : goal.returns-clause-fits
returns-clause-fits c =
    let ran = extended_along _ c.args.rest.polynomial c.deref.ensures.value _ _
    c.in-Ok.ensures.ran in
    fits_joined _ (record {
      number = c.args.progress.number + 1;
      list = c.in-Ok.list;
      kept = c.push.new.self;
    }) _ _ c.requires.fits c.in-Ok.list c.args.rest
    (subst (λ n. AreOver n c.in-Ok.list.items) c.requires.arity c.in-Ok.ensures.arity)
    c.in-Ok.ensures.nonzero c.requires.arity
    (extended_few c.args.meter.now c.extended_list.new.meter c.args.progress.number
    (terms_each c.args.progress.list.items) (terms_in c.args.rest.polynomial) c.in-Ok.list ran)
    c.requires.few c.requires.number
    (extended_units c.args.meter.now c.extended_list.new.meter c.args.progress.number
    (terms_each c.args.progress.list.items) (terms_in c.args.rest.polynomial) c.in-Ok.list ran)
    refl refl c.in_ok-push.ensures.items

pub returns-clause-takes : goal.returns-clause-takes
returns-clause-takes c = λ P whole waiting h j.
    join_ends (program_in c.args.self.now) P c.args.progress c.args.rest whole waiting
    c.args.meter.now c.extended_list.new.meter h c.in_ok-image.ensures.image
    (is_none c.is_zero.ensures c.if-not-is_zero.false) _ (extended_along _ c.args.rest.polynomial
    c.deref.ensures.value _ _ c.in-Ok.ensures.ran) j (record {
      number = c.args.progress.number + 1;
      list = c.in-Ok.list;
      kept = c.push.new.self;
    }) refl refl c.in_ok-push.ensures.items
