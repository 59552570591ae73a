use Rattle.std.proofs.Common.{◌+◌, ◌-◌, ◌≤◌, suc, [], Ok, length, arith, refl, sym, subst, ◌∙◌}
use Rattle.std.proofs.lemmas.List.{append-nil}
use Rattle.std.proofs.lemmas.Result.{err_from_is_err_and}
use Rattle.machines.specs.Journal.{units_of}
use Rattle.loop_model.proofs.BranchMaps.{inside_seen, past_seen}
use Rattle.loop_model.proofs.Formed.{formed}
use Rattle.closures.specs.Closing.{level_from}
use Rattle.closing.specs.LoopMaps.{program_in}
use Rattle.closing.specs.Progress.{candidates_of, IsOn, FitsSequel, Takes}
use Rattle.closing.specs.declared.joining.Progress.{Progress}
use Rattle.closing.proofs.Lists.{begun_fits, some_longer}
use Rattle.closing.proofs.Steps.{grown, joined_later}
use Rattle.closing.proofs.Onward.{level_begins, branches_all, branch_next, branches_over}
use Rattle.closing.proofs.KeptMaps.{letter_of}
use Rattle.closing.proofs.loop_maps.LoopMaps.next_level.Goals as goal

pub loop-index-init : goal.loop-index-init
loop-index-init c =
    let first : Progress = record {
      number = c.args.last.number;
      list = c.args.last.list;
      kept = c.new-kept.result;
    } in
    record {
      limit = refl;
      fits = begun_fits _ _ c.args.last first c.requires.fits refl refl c.new-kept.ensures.items;
      grows = ([], sym (append-nil c.args.meter.now.entries));
      later = omega arith;
      units = λ n. omega arith;
      awaits = λ P h.
          branches_all (program_in c.args.self.now) P c.args.meter.now.entries first _
          (level_begins _ P _ c.args.last first refl refl c.new-kept.ensures.items h);
    }

pub take_iterations-requires-clause-letter : goal.take_iterations-requires-clause-letter
take_iterations-requires-clause-letter c =
    letter_of (program_in c.args.self.now) _
    (inside_seen _ _ _ _ c.branches-index-end.ensures.branches c.loop-index-test.true)

pub take_iterations-requires-clause-level : goal.take_iterations-requires-clause-level
take_iterations-requires-clause-level c = c.requires.fits.kept

pub take_iterations-requires-clause-fits : goal.take_iterations-requires-clause-fits
take_iterations-requires-clause-fits c = c.loop-index.invariant.fits

pub returns-in_err-next-clause-limit : goal.returns-in_err-next-clause-limit
returns-in_err-next-clause-limit c = c.take_iterations.ensures.limit ∙ c.loop-index.invariant.limit

pub returns-in_err-next-clause-takes : goal.returns-in_err-next-clause-takes
returns-in_err-next-clause-takes c = λ P h.
    let program = program_in c.args.self.now in
    let inside = inside_seen _ _ _ _ c.branches-index-end.ensures.branches c.loop-index-test.true in
    let e = err_from_is_err_and c.from_residual.result c.from_residual.ensures.1 in
    rw (e.1, e.2) (c.in_err-next.ensures.takes P _ (joined_later program P _
    c.loop-index.invariant.grows _ h.joined) (branch_next program P c.loop-index.meter.entries
    c.loop-index.progress _ _ _ inside (c.loop-index.invariant.awaits P h)))

pub returns-in-Counter-clause-limit : goal.returns-in-Counter-clause-limit
returns-in-Counter-clause-limit c = c.take_iterations.ensures.limit ∙ c.loop-index.invariant.limit

pub returns-in-Counter-clause-units : goal.returns-in-Counter-clause-units
returns-in-Counter-clause-units c = λ on. absurd on

pub returns-in-Counter-clause-fits : goal.returns-in-Counter-clause-fits
returns-in-Counter-clause-fits c =
    subst (FitsSequel _ (units_of c.take_iterations.new.meter.entries)) c.in-Counter.is
    c.in_ok-next.ensures.fits

pub returns-in-Counter-clause-takes : goal.returns-in-Counter-clause-takes
returns-in-Counter-clause-takes c = λ P h.
    let program = program_in c.args.self.now in
    let inside = inside_seen _ _ _ _ c.branches-index-end.ensures.branches c.loop-index-test.true in
    subst (λ s. Takes program P (level_from program (suc (c.loop-index.index + 1))
    (length program.branches - (c.loop-index.index + 1)) (candidates_of P c.args.last.kept.items))
    c.take_iterations.new.meter.limit c.take_iterations.new.meter.entries (Ok s)) c.in-Counter.is
    (c.in_ok-next.ensures.takes P _ (joined_later program P _ c.loop-index.invariant.grows _
    h.joined) (branch_next program P c.loop-index.meter.entries c.loop-index.progress _ _ _ inside
    (c.loop-index.invariant.awaits P h)))

pub loop-index-preserved : goal.loop-index-preserved
loop-index-preserved c =
    let program = program_in c.args.self.now in
    let inside = inside_seen _ _ _ _ c.branches-index-end.ensures.branches c.loop-index-test.true in
    let more = subst (λ s. IsOn s → units_of c.loop-index.meter.entries
    + length c.args.last.kept.items ≤ units_of c.take_iterations.new.meter.entries) c.in-On.is
    c.in_ok-next.ensures.units tt in
    record {
      limit = c.take_iterations.ensures.limit ∙ c.loop-index.invariant.limit;
      fits = subst (FitsSequel _ (units_of c.take_iterations.new.meter.entries)) c.in-On.is
          c.in_ok-next.ensures.fits;
      grows = grown _ _ _ c.loop-index.invariant.grows c.in_ok-next.ensures.grows;
      later = (let a = c.loop-index.invariant.later in omega (arith, a, more));
      units = λ n.
          let a = c.loop-index.invariant.units n in
          let b = some_longer _ n in
          omega (arith, a, b, more);
      awaits = λ P h.
          subst (λ s. Takes program P (level_from program (suc (c.loop-index.index + 1))
          (length program.branches - (c.loop-index.index + 1))
          (candidates_of P c.args.last.kept.items)) c.take_iterations.new.meter.limit
          c.take_iterations.new.meter.entries (Ok s)) c.in-On.is (c.in_ok-next.ensures.takes P _
          (joined_later program P _ c.loop-index.invariant.grows _ h.joined) (branch_next program P
          c.loop-index.meter.entries c.loop-index.progress _ _ _ inside
          (c.loop-index.invariant.awaits P h)));
    }

pub returns-clause-units : goal.returns-clause-units
returns-clause-units c = λ on n.
    let program = program_in c.args.self.now in
    let past = past_seen _ _ _ _ c.branches-index-end.ensures.branches c.loop-index-test.false in
    let some = (formed c.args.self.now.lp.now).some_branch in
    let a = c.loop-index.invariant.units n in
    omega (arith, a, past, some)

pub returns-clause-takes : goal.returns-clause-takes
returns-clause-takes c = λ P h.
    let program = program_in c.args.self.now in
    branches_over program P c.loop-index.meter.entries c.loop-index.progress _ _ _ (past_seen _ _ _
    _ c.branches-index-end.ensures.branches c.loop-index-test.false)
    (c.loop-index.invariant.awaits P h)
