use Rattle.std.proofs.Common.{◌+◌, refl, sym, subst, arith}
use Rattle.std.proofs.lemmas.Result.{IfOk-weaker}
use Rattle.poly.specs.Seen.{terms_in}
use Rattle.closing.specs.LoopMaps.{program_in}
use Rattle.closing.specs.Progress.{IfStops}
use Rattle.closing.proofs.Lists.{divided_units, fits_later, fits_next}
use Rattle.closing.proofs.Steps.{grown, is_none, is_some, joined_later, divided_along, take_refused, take_goes, take_rest}
use Rattle.closing.proofs.Tied.{ran_grows}
use Rattle.closing.proofs.loop_maps.LoopMaps.take.Goals as goal

pub returns-in-Err-clause-takes : goal.returns-in-Err-clause-takes
returns-in-Err-clause-takes c = λ P waiting h.
    let program = program_in c.args.self.now in
    subst (IfStops program P c.rest_of.new.meter.limit c.rest_of.new.meter.entries)
    (sym c.in_task.ensures) (take_refused program P c.args.progress c.args.candidate waiting
    c.args.meter.now c.rest_of.new.meter h _ c.in-Err.error (divided_along _
    c.args.candidate.polynomial c.deref.ensures.value _ _ _ c.in-Err.ensures.ran))

pub returns-then-is_zero-clause-units : goal.returns-then-is_zero-clause-units
returns-then-is_zero-clause-units c =
    divided_units c.args.meter.now c.rest_of.new.meter c.args.progress.number _ _ _ c.in-Ok.division
    c.in-Ok.ensures.ran

pub returns-then-is_zero-clause-fits : goal.returns-then-is_zero-clause-fits
returns-then-is_zero-clause-fits c =
    fits_next _ (record {
      number = c.args.progress.number + 1;
      list = c.args.progress.list;
      kept = c.args.progress.kept;
    }) _ _ c.requires.fits refl refl refl (divided_units c.args.meter.now c.rest_of.new.meter
    c.args.progress.number _ _ _ c.in-Ok.division c.in-Ok.ensures.ran)

pub returns-then-is_zero-clause-takes : goal.returns-then-is_zero-clause-takes
returns-then-is_zero-clause-takes c = λ P waiting h.
    take_goes (program_in c.args.self.now) P c.args.progress c.args.candidate waiting
    c.args.meter.now c.rest_of.new.meter h _ c.in-Ok.division (divided_along _
    c.args.candidate.polynomial c.deref.ensures.value _ _ _ c.in-Ok.ensures.ran) _
    (λ s g. g.remainder) (is_none c.is_zero.ensures c.if-is_zero.true) (record {
      number = c.args.progress.number + 1;
      list = c.args.progress.list;
      kept = c.args.progress.kept;
    }) refl refl refl

pub join-requires-clause-fits : goal.join-requires-clause-fits
join-requires-clause-fits c =
    let u = divided_units c.args.meter.now c.rest_of.new.meter c.args.progress.number _ _ _
    c.in-Ok.division c.in-Ok.ensures.ran in
    fits_later _ _ c.args.progress c.requires.fits (omega (arith, u))

pub join-requires-clause-few : goal.join-requires-clause-few
join-requires-clause-few c =
    let u = divided_units c.args.meter.now c.rest_of.new.meter c.args.progress.number _ _ _
    c.in-Ok.division c.in-Ok.ensures.ran in
    let f = c.requires.fits.few in
    omega (arith, u, f)

pub join-requires-clause-number : goal.join-requires-clause-number
join-requires-clause-number c =
    let u = divided_units c.args.meter.now c.rest_of.new.meter c.args.progress.number _ _ _
    c.in-Ok.division c.in-Ok.ensures.ran in
    let f = c.requires.fits.number in
    omega (arith, u, f)

pub returns-clause-units : goal.returns-clause-units
returns-clause-units c =
    let u = divided_units c.args.meter.now c.rest_of.new.meter c.args.progress.number _ _ _
    c.in-Ok.division c.in-Ok.ensures.ran in
    IfOk-weaker c.join.result _ _ (λ s h. omega (arith, u, h)) c.join.ensures.units

pub returns-clause-takes : goal.returns-clause-takes
returns-clause-takes c = λ P waiting h.
    c.join.ensures.takes P (terms_in c.args.candidate.polynomial) waiting
    (take_rest (program_in c.args.self.now) P c.args.progress c.args.candidate waiting
    c.args.meter.now c.rest_of.new.meter h _ c.in-Ok.division (divided_along _
    c.args.candidate.polynomial c.deref.ensures.value _ _ _ c.in-Ok.ensures.ran) _
    (λ s g. g.remainder) (is_some c.is_zero.ensures c.if-is_zero.false)) (joined_later _ P _
    (ran_grows _ _ _ _ c.in-Ok.division c.in-Ok.ensures.ran) _ h.joined)

pub returns-then-is_zero-clause-grows : goal.returns-then-is_zero-clause-grows
returns-then-is_zero-clause-grows c =
    ran_grows _ _ _ _ c.in-Ok.division c.in-Ok.ensures.ran

pub returns-clause-grows : goal.returns-clause-grows
returns-clause-grows c =
    IfOk-weaker c.join.result _ _ (λ s g. grown _ _ _
    (ran_grows _ _ _ _ c.in-Ok.division c.in-Ok.ensures.ran) g) c.join.ensures.grows
