use Rattle.std.proofs.Common.{◌≡◌, Ok, length, subst, arith}
use Rattle.std.proofs.lemmas.Bool.Decides.{nat_tests}
use Rattle.std.proofs.lemmas.List.{nil_from_length}
use Rattle.std.proofs.lemmas.Result.{err_from_is_err_and}
use Rattle.machines.specs.Journal.{units_of}
use Rattle.poly.specs.Seen.{terms_each}
use Rattle.closing.specs.LoopMaps.{program_in}
use Rattle.closing.specs.Progress.{FitsSequel, Takes}
use Rattle.closing.proofs.Onward.{ends}
use Rattle.closing.proofs.loop_maps.LoopMaps.close.Goals as goal

pub returns-in_err-progress-clause-stopped : goal.returns-in_err-progress-clause-stopped
returns-in_err-progress-clause-stopped c =
    let e = err_from_is_err_and c.from_residual.result c.from_residual.ensures.1 in
    rw (e.1, e.2) c.in_err-progress.ensures.takes

pub returns-in-Counter-clause-closes : goal.returns-in-Counter-clause-closes
returns-in-Counter-clause-closes c =
    subst (λ s. Takes (program_in c.args.self.now) (terms_each c.args.polynomials.now) _
    c.first_level.new.meter.limit c.first_level.new.meter.entries (Ok s)) c.in-Counter.is
    c.in_ok-progress.ensures.takes

pub returns-in-Counter-clause-fits : goal.returns-in-Counter-clause-fits
returns-in-Counter-clause-fits c =
    subst (FitsSequel _ (units_of c.first_level.new.meter.entries)) c.in-Counter.is
    c.in_ok-progress.ensures.fits

pub loop-alloc-init : goal.loop-alloc-init
loop-alloc-init c = record {
  limit = c.first_level.ensures.limit;
  fits = subst (FitsSequel _ (units_of c.first_level.new.meter.entries)) c.in-On.is
      c.in_ok-progress.ensures.fits;
  awaits =
      subst (λ s. Takes (program_in c.args.self.now) (terms_each c.args.polynomials.now) _
      c.first_level.new.meter.limit c.first_level.new.meter.entries (Ok s)) c.in-On.is
      c.in_ok-progress.ensures.takes;
}

pub returns-clause-closes : goal.returns-clause-closes
returns-clause-closes c =
    let none : length c.loop-alloc.progress.kept.items ≡ 0 =
    grind (arith, nat_tests, c.loop-alloc-test.ensures) in
    ends _ _ _ c.loop-alloc.progress (nil_from_length _ none) c.loop-alloc.invariant.awaits
