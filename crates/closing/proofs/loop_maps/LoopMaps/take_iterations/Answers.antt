use Rattle.std.proofs.Common.{◌≡◌, ◌+◌, ◌++◌, [], Ok, drop, map, length, refl, sym, subst, ◌∙◌, arith}
use Rattle.std.proofs.lemmas.List.{append-nil}
use Rattle.std.proofs.lemmas.Result.{err_from_is_err_and}
use Rattle.machines.specs.Journal.{units_of}
use Rattle.loop_model.proofs.Items.{in_list, past_list, item_of, item_has}
use Rattle.closures.specs.Closing.{turned}
use Rattle.closing.specs.LoopMaps.{program_in}
use Rattle.closing.specs.Progress.{candidates_of, FitsSequel, Takes}
use Rattle.closing.specs.declared.candidates.Candidate.{Candidate}
use Rattle.closing.proofs.Steps.{grown, joined_later}
use Rattle.closing.proofs.Onward.{iteration_joined, iterations_next, iteration_begins, iterations_over, iteration_stopped}
use Rattle.closing.proofs.loop_maps.LoopMaps.take_iterations.Goals as goal

pub loop-from-init : goal.loop-from-init
loop-from-init c = record {
  limit = refl;
  fits = c.requires.fits;
  grows = ([], sym (append-nil c.args.meter.now.entries));
  units = omega arith;
  awaits = λ P waiting h. h;
}

pub after_iteration-requires-clause-arity : goal.after_iteration-requires-clause-arity
after_iteration-requires-clause-arity c =
    item_has _ _ c.deref-from-items.ensures.value _ (λ (x : Candidate). x.polynomial.arity ≡ length
    (program_in c.args.self.now).names) _ c.requires.level c.loop-from-test.true c.from-item.is

pub returns-in_err-candidate-clause-limit : goal.returns-in_err-candidate-clause-limit
returns-in_err-candidate-clause-limit c = c.loop-from.invariant.limit

pub returns-in_err-candidate-clause-takes : goal.returns-in_err-candidate-clause-takes
returns-in_err-candidate-clause-takes c = λ P waiting j h.
    let program = program_in c.args.self.now in
    let ts = c.args.level.now.items in
    let inside = in_list ts _ c.deref-from-items.ensures.value _ c.loop-from-test.true in
    let at = item_of ts _ c.deref-from-items.ensures.value _ _ c.from-item.is in
    let e = err_from_is_err_and c.from_residual.result c.from_residual.ensures.1 in
    rw (e.1, e.2) (iteration_stopped program P _ c.loop-from.meter.limit c.args.letter
    c.loop-from.progress c.from-item.result _ _ (iteration_joined program P
    c.loop-from.meter.entries c.loop-from.progress c.args.letter ts waiting c.loop-from.from-index
    c.from-item.result inside at (joined_later program P _ c.loop-from.invariant.grows _ j))
    (iterations_next program P c.loop-from.meter.entries c.loop-from.progress c.args.letter ts
    waiting c.loop-from.from-index c.from-item.result inside at
    (c.loop-from.invariant.awaits P waiting h)) c.in_err-candidate.ensures.stopped)

pub take-requires-clause-arity : goal.take-requires-clause-arity
take-requires-clause-arity c = c.in_ok-candidate.ensures.turned.arity

pub take-requires-clause-fits : goal.take-requires-clause-fits
take-requires-clause-fits c = c.loop-from.invariant.fits

pub returns-in_err-next-clause-limit : goal.returns-in_err-next-clause-limit
returns-in_err-next-clause-limit c = c.take.ensures.limit ∙ c.loop-from.invariant.limit

pub returns-in_err-next-clause-takes : goal.returns-in_err-next-clause-takes
returns-in_err-next-clause-takes c = λ P waiting j h.
    let program = program_in c.args.self.now in
    let ts = c.args.level.now.items in
    let inside = in_list ts _ c.deref-from-items.ensures.value _ c.loop-from-test.true in
    let at = item_of ts _ c.deref-from-items.ensures.value _ _ c.from-item.is in
    let e = err_from_is_err_and c.from_residual-in_err-next.result
    c.from_residual-in_err-next.ensures.1 in
    rw (e.1, e.2) (c.in_err-next.ensures.takes P _ (iteration_begins program P
    c.loop-from.meter.entries c.loop-from.progress c.args.letter ts waiting c.loop-from.from-index
    c.from-item.result inside at c.in_ok-candidate.ensures.turned
    (c.loop-from.invariant.awaits P waiting h)))

pub returns-in-Counter-clause-limit : goal.returns-in-Counter-clause-limit
returns-in-Counter-clause-limit c = c.take.ensures.limit ∙ c.loop-from.invariant.limit

pub returns-in-Counter-clause-units : goal.returns-in-Counter-clause-units
returns-in-Counter-clause-units c = λ on. absurd on

pub returns-in-Counter-clause-grows : goal.returns-in-Counter-clause-grows
returns-in-Counter-clause-grows c =
    grown _ _ _ c.loop-from.invariant.grows c.in_ok-next.ensures.grows

pub returns-in-Counter-clause-fits : goal.returns-in-Counter-clause-fits
returns-in-Counter-clause-fits c =
    subst (FitsSequel _ (units_of c.take.new.meter.entries)) c.in-Counter.is
    c.in_ok-next.ensures.fits

pub returns-in-Counter-clause-takes : goal.returns-in-Counter-clause-takes
returns-in-Counter-clause-takes c = λ P waiting j h.
    let program = program_in c.args.self.now in
    let ts = c.args.level.now.items in
    let inside = in_list ts _ c.deref-from-items.ensures.value _ c.loop-from-test.true in
    let at = item_of ts _ c.deref-from-items.ensures.value _ _ c.from-item.is in
    subst (λ s. Takes program P (map (turned program c.args.letter)
    (candidates_of P (drop (c.loop-from.from-index + 1) ts)) ++ waiting) c.take.new.meter.limit
    c.take.new.meter.entries (Ok s)) c.in-Counter.is (c.in_ok-next.ensures.takes P _
    (iteration_begins program P c.loop-from.meter.entries c.loop-from.progress c.args.letter ts
    waiting c.loop-from.from-index c.from-item.result inside at c.in_ok-candidate.ensures.turned
    (c.loop-from.invariant.awaits P waiting h)))

pub loop-from-preserved : goal.loop-from-preserved
loop-from-preserved c =
    let program = program_in c.args.self.now in
    let ts = c.args.level.now.items in
    let inside = in_list ts _ c.deref-from-items.ensures.value _ c.loop-from-test.true in
    let at = item_of ts _ c.deref-from-items.ensures.value _ _ c.from-item.is in
    record {
      limit = c.take.ensures.limit ∙ c.loop-from.invariant.limit;
      fits = subst (FitsSequel _ (units_of c.take.new.meter.entries)) c.in-On.is
          c.in_ok-next.ensures.fits;
      grows = grown _ _ _ c.loop-from.invariant.grows c.in_ok-next.ensures.grows;
      units = (let a = c.in_ok-next.ensures.units in
          let b = c.loop-from.invariant.units in
          omega (arith, a, b));
      awaits = λ P waiting h.
          subst (λ s. Takes program P (map (turned program c.args.letter)
          (candidates_of P (drop (c.loop-from.from-index + 1) ts)) ++ waiting)
          c.take.new.meter.limit c.take.new.meter.entries (Ok s)) c.in-On.is
          (c.in_ok-next.ensures.takes P _ (iteration_begins program P c.loop-from.meter.entries
          c.loop-from.progress c.args.letter ts waiting c.loop-from.from-index c.from-item.result
          inside at c.in_ok-candidate.ensures.turned (c.loop-from.invariant.awaits P waiting h)));
    }

pub returns-clause-units : goal.returns-clause-units
returns-clause-units c = λ on.
    let past = past_list _ _ c.deref-from-items.ensures.value _ c.loop-from-test.false in
    let a = c.loop-from.invariant.units in
    omega (arith, a, past)

pub returns-clause-takes : goal.returns-clause-takes
returns-clause-takes c = λ P waiting j h.
    iterations_over (program_in c.args.self.now) P c.loop-from.meter.entries c.loop-from.progress
    c.args.letter c.args.level.now.items waiting c.loop-from.from-index (past_list _ _
    c.deref-from-items.ensures.value _ c.loop-from-test.false)
    (c.loop-from.invariant.awaits P waiting h)
