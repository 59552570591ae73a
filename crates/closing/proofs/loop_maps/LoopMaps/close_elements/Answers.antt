use Rattle.std.proofs.Common.{rules, inr, refl, ap, arith}
use Rattle.std.proofs.lemmas.Result.{err_from_is_err_and}
use Rattle.journal.specs.View.{most_units}
use Rattle.machines.specs.Journal.{Journal}
use Rattle.closing.specs.LoopMaps.{program_in}
use Rattle.closing.proofs.ElementsLeft.{width_at}
use Rattle.closing.proofs.Sequels.{few_counted, found, left_stops, counter_letters, counter_begun, counter_units, counter_sampled, counter_none, stop_begun, stop_told}
use Rattle.closing.proofs.loop_maps.LoopMaps.close_elements.Goals as goal

pub returns-in_err-elements-clause-sequel : goal.returns-in_err-elements-clause-sequel
returns-in_err-elements-clause-sequel c = λ d e.
    let r = err_from_is_err_and c.from_residual.result c.from_residual.ensures.1 in
    rw (r.1, r.2) (left_stops (program_in c.args.self.now) d c.args.meter.now c.args.sampling e _
    (c.in_err-elements.ensures.stopped d e.parts e.at e.enough c.args.meter.now.limit))

pub returns-in-Ok-Basis-clause-sequel : goal.returns-in-Ok-Basis-clause-sequel
returns-in-Ok-Basis-clause-sequel c = λ d e.
    let opened = ap (λ (j : Journal). j.limit) c.open.ensures in
    let limit = c.close-verdict.ensures.limit in
    let left = c.left.ensures in
    let within = c.within_limit.ensures.within in
    found (program_in c.args.self.now) d c.args.meter.now c.args.sampling e
    (c.in_ok-elements.ensures.left d e.parts e.at) c.deref.ensures.value (record {
      elements = c.in_ok-elements.elements;
      closure = c.in-Ok-Basis.closure;
      closing = c.close-verdict.new.meter;
    }) refl c.in_ok-elements.ensures.over c.in_ok-elements.ensures.few
    (search rules) c.in-Ok-Basis.ensures.closes c.in-Ok-Basis.ensures.fits
    (omega (arith, opened, limit, left, within))

pub returns-in_err-append-in-Ok-Counter-clause-sequel :
    goal.returns-in_err-append-in-Ok-Counter-clause-sequel
returns-in_err-append-in-Ok-Counter-clause-sequel c = λ d e.
    let r = err_from_is_err_and c.from_residual-in_err-append-in-Ok-Counter.result
    c.from_residual-in_err-append-in-Ok-Counter.ensures.1 in
    let begun = counter_begun (program_in c.args.self.now) d c.args.meter.now.entries
    c.args.sampling e c.in_ok-elements.elements.items (c.in_ok-elements.ensures.left d e.parts e.at)
    c.deref.result.now c.deref.ensures.value c.close-verdict.new.meter.entries
    c.in-Ok-Counter.field-0 c.in-Ok-Counter.counter (search rules) c.in-Ok-Counter.ensures.closes
    c.append.ensures.begun in
    rw (r.1, r.2) (begun, begun)

pub refute-requires-clause-few : goal.refute-requires-clause-few
refute-requires-clause-few c =
    let e = c.requires.enough in
    let within = c.within_limit.ensures.within in
    let few = c.within_limit.ensures.few in
    few_counted (program_in c.args.self.now) e.0 c.args.sampling e.1
    most_units (omega (arith, within, few))

pub refute-requires-clause-maps : goal.refute-requires-clause-maps
refute-requires-clause-maps c = c.requires.enough.1.at.maps

pub refute-requires-clause-width : goal.refute-requires-clause-width
refute-requires-clause-width c =
    let e = c.requires.enough in
    width_at e.1.at

pub refute-requires-clause-letters : goal.refute-requires-clause-letters
refute-requires-clause-letters c =
    let e = c.requires.enough in
    counter_letters (program_in c.args.self.now) e.0 c.args.meter.now.entries c.args.sampling e.1
    c.in_ok-elements.elements.items (c.in_ok-elements.ensures.left e.0 e.1.parts e.1.at)
    c.deref.result.now c.deref.ensures.value c.close-verdict.new.meter.entries
    c.in-Ok-Counter.field-0 c.in-Ok-Counter.counter (search rules) c.in-Ok-Counter.ensures.closes
    c.deref-in-Ok-Counter.ensures.value

pub returns-in_err-more-in-Ok-Counter-clause-sequel :
    goal.returns-in_err-more-in-Ok-Counter-clause-sequel
returns-in_err-more-in-Ok-Counter-clause-sequel c = λ d e.
    let r = err_from_is_err_and c.from_residual-in_err-more-in-Ok-Counter.result
    c.from_residual-in_err-more-in-Ok-Counter.ensures.1 in
    let begun = counter_begun (program_in c.args.self.now) d c.args.meter.now.entries
    c.args.sampling e c.in_ok-elements.elements.items (c.in_ok-elements.ensures.left d e.parts e.at)
    c.deref.result.now c.deref.ensures.value c.close-verdict.new.meter.entries
    c.in-Ok-Counter.field-0 c.in-Ok-Counter.counter (search rules) c.in-Ok-Counter.ensures.closes
    c.append.ensures.begun in
    rw (r.1, r.2) (begun, begun)

pub returns-in-Some-clause-units : goal.returns-in-Some-clause-units
returns-in-Some-clause-units c = λ on.
    let e = c.requires.enough in
    counter_units (program_in c.args.self.now) e.0 c.args.meter.now.entries c.args.sampling e.1
    c.in_ok-elements.elements.items (c.in_ok-elements.ensures.left e.0 e.1.parts e.1.at)
    c.deref.result.now c.deref.ensures.value c.close-verdict.new.meter.entries
    c.in-Ok-Counter.field-0 c.in-Ok-Counter.counter (search rules) c.in-Ok-Counter.ensures.closes
    c.deref-in-Ok-Counter.ensures.value c.in_ok-append-in-Ok-Counter.ensures.entries

pub returns-in-Some-clause-sequel : goal.returns-in-Some-clause-sequel
returns-in-Some-clause-sequel c = λ d e.
    counter_sampled (program_in c.args.self.now) d c.args.meter.now.entries c.args.sampling e
    c.in_ok-elements.elements.items (c.in_ok-elements.ensures.left d e.parts e.at)
    c.deref.result.now c.deref.ensures.value c.close-verdict.new.meter.entries
    c.in-Ok-Counter.field-0 c.in-Ok-Counter.counter (search rules) c.in-Ok-Counter.ensures.closes
    c.deref-in-Ok-Counter.ensures.value c.in_ok-append-in-Ok-Counter.ensures.entries
    (c.in_ok-more-in-Ok-Counter.ensures d e.parts e.at) c.in-Some.more c.in-Some.is

pub returns-in-Ok-Counter-clause-sequel : goal.returns-in-Ok-Counter-clause-sequel
returns-in-Ok-Counter-clause-sequel c = λ d e. (
  counter_begun (program_in c.args.self.now) d c.args.meter.now.entries
      c.args.sampling e c.in_ok-elements.elements.items
      (c.in_ok-elements.ensures.left d e.parts e.at) c.deref.result.now c.deref.ensures.value
      c.close-verdict.new.meter.entries c.in-Ok-Counter.field-0 c.in-Ok-Counter.counter
      (search rules) c.in-Ok-Counter.ensures.closes c.append.ensures.begun,
  inr (inr
      (counter_none (program_in c.args.self.now) d c.args.meter.now.entries c.args.sampling e
      c.in_ok-elements.elements.items (c.in_ok-elements.ensures.left d e.parts e.at)
      c.deref.result.now c.deref.ensures.value c.close-verdict.new.meter.entries
      c.in-Ok-Counter.field-0 c.in-Ok-Counter.counter (search rules) c.in-Ok-Counter.ensures.closes
      c.deref-in-Ok-Counter.ensures.value c.in_ok-append-in-Ok-Counter.ensures.entries
      (c.in_ok-more-in-Ok-Counter.ensures d e.parts e.at) c.in-None.is)),
)

pub returns-in_err-append-in-Err-clause-sequel : goal.returns-in_err-append-in-Err-clause-sequel
returns-in_err-append-in-Err-clause-sequel c = λ d e.
    let r = err_from_is_err_and c.from_residual-in_err-append-in-Err.result
    c.from_residual-in_err-append-in-Err.ensures.1 in
    let begun = stop_begun (program_in c.args.self.now) d c.args.meter.now.entries
    c.args.sampling e c.in_ok-elements.elements.items
    (c.in_ok-elements.ensures.left d e.parts e.at) c.deref.result.now c.deref.ensures.value
    c.close-verdict.new.meter.limit c.close-verdict.new.meter.entries c.in-Err.error
    c.in-Err.ensures.stopped c.append-in-Err.ensures.begun in
    rw (r.1, r.2) (begun, begun)

pub returns-clause-sequel : goal.returns-clause-sequel
returns-clause-sequel c = λ d e.
    let opened = ap (λ (j : Journal). j.limit) c.open.ensures in
    let limit = c.close-verdict.ensures.limit in
    let left = c.left.ensures in
    let within = c.within_limit.ensures.within in
    let kept = c.append-in-Err.ensures.limit in
    stop_told (program_in c.args.self.now) d c.args.meter.now.entries c.args.sampling e
    c.in_ok-elements.elements.items (c.in_ok-elements.ensures.left d e.parts e.at)
    c.deref.result.now c.deref.ensures.value c.close-verdict.new.meter.limit
    c.close-verdict.new.meter.entries c.in-Err.error c.in-Err.ensures.stopped
    c.append-in-Err.new.meter c.in_ok-append-in-Err.ensures.entries
    (omega (arith, opened, limit, left, within, kept)) c.refusal_of.ensures
