use Rattle.std.proofs.Common.{Ok, arith, refl, sym, subst, ◌∙◌}
use Rattle.std.proofs.lemmas.Result.{err_from_is_err_and}
use Rattle.closing.specs.LoopMaps.{program_in}
use Rattle.closing.specs.SearchCauses.{AreBegun}
use Rattle.closing.specs.Closings.{IsOn, IfClosed}
use Rattle.closing.specs.Sampling.{IsSampled}
use Rattle.closing.proofs.loop_maps.LoopMaps.search.Goals as goal

pub loop-sampling-init : goal.loop-sampling-init
loop-sampling-init c = record {
  limit = refl;
  sampled =
      subst (λ es. IsSampled (program_in c.args.self.now) c.args.degree es
      c.in_ok-sampling.sampling)
      (sym c.requires.unbegun) (c.in_ok-sampling.ensures.begins 0);
}

pub returns-in_err-sampling-clause-stopped : goal.returns-in_err-sampling-clause-stopped
returns-in_err-sampling-clause-stopped c =
    let e = err_from_is_err_and c.from_residual.result c.from_residual.ensures.1 in
    rw (e.1, e.2, c.requires.unbegun) (c.in_err-sampling.ensures.begins c.args.meter.now.limit).1

pub returns-in_err-sampling-clause-begun : goal.returns-in_err-sampling-clause-begun
returns-in_err-sampling-clause-begun c =
    let e = err_from_is_err_and c.from_residual.result c.from_residual.ensures.1 in
    rw e.1
    (subst (AreBegun (program_in c.args.self.now) c.args.degree) (sym c.requires.unbegun)
    (c.in_err-sampling.ensures.begins 0).0)

pub fill-requires : goal.fill-requires
fill-requires c = record { sampled = (c.args.degree, c.loop-sampling.invariant.sampled) }

pub returns-in_err-sampling-2-clause-stopped : goal.returns-in_err-sampling-2-clause-stopped
returns-in_err-sampling-2-clause-stopped c =
    let e = err_from_is_err_and c.from_residual-in_err-sampling-2.result
    c.from_residual-in_err-sampling-2.ensures.1 in
    rw (e.1, e.2)
    (c.in_err-sampling-2.ensures.fills c.args.degree c.loop-sampling.invariant.sampled).1

pub close_elements-requires : goal.close_elements-requires
close_elements-requires c = record {
  enough = (
    c.args.degree,
    c.in_ok-sampling-2.ensures.fills c.args.degree c.loop-sampling.invariant.sampled,
  );
}

pub returns-in_err-finding-clause-stopped : goal.returns-in_err-finding-clause-stopped
returns-in_err-finding-clause-stopped c =
    let e = err_from_is_err_and c.from_residual-in_err-finding.result
    c.from_residual-in_err-finding.ensures.1 in
    rw (e.1, e.2)
    (c.in_err-finding.ensures.sequel c.args.degree
    (c.in_ok-sampling-2.ensures.fills c.args.degree c.loop-sampling.invariant.sampled)).1

pub returns-in-Found-clause-finds : goal.returns-in-Found-clause-finds
returns-in-Found-clause-finds c =
    (subst (λ s. IfClosed (program_in c.args.self.now) c.args.degree c.close_elements.new.meter
    (Ok s))
    c.in-Found.is (c.in_ok-finding.ensures.sequel c.args.degree
    (c.in_ok-sampling-2.ensures.fills c.args.degree c.loop-sampling.invariant.sampled))).0

pub returns-in-Found-clause-fits : goal.returns-in-Found-clause-fits
returns-in-Found-clause-fits c =
    (subst (λ s. IfClosed (program_in c.args.self.now) c.args.degree c.close_elements.new.meter
    (Ok s))
    c.in-Found.is (c.in_ok-finding.ensures.sequel c.args.degree
    (c.in_ok-sampling-2.ensures.fills c.args.degree c.loop-sampling.invariant.sampled))).1

pub returns-in-Found-clause-reduced : goal.returns-in-Found-clause-reduced
returns-in-Found-clause-reduced c =
    (subst (λ s. IfClosed (program_in c.args.self.now) c.args.degree c.close_elements.new.meter
    (Ok s))
    c.in-Found.is (c.in_ok-finding.ensures.sequel c.args.degree
    (c.in_ok-sampling-2.ensures.fills c.args.degree c.loop-sampling.invariant.sampled))).2

pub loop-sampling-preserved : goal.loop-sampling-preserved
loop-sampling-preserved c = record {
  limit = c.close_elements.ensures.limit ∙ (c.fill.ensures.limit ∙ c.loop-sampling.invariant.limit);
  sampled =
      subst (λ s. IfClosed (program_in c.args.self.now) c.args.degree c.close_elements.new.meter
      (Ok s)) c.in-On.is (c.in_ok-finding.ensures.sequel c.args.degree
      (c.in_ok-sampling-2.ensures.fills c.args.degree c.loop-sampling.invariant.sampled));
}

pub loop-sampling-smaller : goal.loop-sampling-smaller
loop-sampling-smaller c =
    let more = c.in_ok-finding.ensures.units (subst IsOn (sym c.in-On.is) tt) in
    omega (
      arith,
      more,
      c.in_ok-sampling-2.ensures.units,
      c.within_limit.ensures.within,
      c.fill.ensures.limit,
      c.close_elements.ensures.limit,
    )
