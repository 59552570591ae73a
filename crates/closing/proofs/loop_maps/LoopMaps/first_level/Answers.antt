use Rattle.std.proofs.Common.{◌+◌, Ok, drop, map, refl, ap, subst, ◌∙◌, arith}
use Rattle.std.proofs.lemmas.Result.{err_from_is_err_and}
use Rattle.machines.specs.Journal.{units_of}
use Rattle.poly.specs.Seen.{terms_each}
use Rattle.loop_model.specs.FracPoly.{FracPoly}
use Rattle.closures.specs.Closing.{first_candidate}
use Rattle.closing.specs.LoopMaps.{program_in}
use Rattle.closing.specs.Progress.{FitsSequel, Takes}
use Rattle.closing.specs.declared.joining.Progress.{Progress}
use Rattle.closing.proofs.Lists.{nothing_fits}
use Rattle.closing.proofs.Onward.{going, given_begins, given_over, fresh_awaits}
use Rattle.closing.proofs.loop_maps.LoopMaps.first_level.Goals as goal

pub loop-of-init : goal.loop-of-init
loop-of-init c =
    let first : Progress = record {
      number = 0;
      list = c.new-list.result;
      kept = c.new-kept.result;
    } in
    record {
      limit = refl;
      fits = nothing_fits _ _ first refl c.new-list.ensures.items c.new-kept.ensures.items;
      awaits =
          fresh_awaits (program_in c.args.self.now) (terms_each c.args.polynomials.now) first
          c.requires.unbegun refl c.new-list.ensures.items c.new-kept.ensures.items;
    }

pub returns-in_err-polynomial-clause-limit : goal.returns-in_err-polynomial-clause-limit
returns-in_err-polynomial-clause-limit c = c.loop-of.invariant.limit

pub returns-in_err-polynomial-clause-takes : goal.returns-in_err-polynomial-clause-takes
returns-in_err-polynomial-clause-takes c =
    let e = err_from_is_err_and c.from_residual.result c.from_residual.ensures.1 in
    rw (e.1, e.2) (going _ _ _ _ c.loop-of.invariant.awaits.comes)

pub take-requires-clause-arity : goal.take-requires-clause-arity
take-requires-clause-arity c =
    c.in_ok-polynomial.ensures.arity
    ∙ ap (λ (p : FracPoly). p.arity) c.index-polynomials-of.is
    ∙ c.requires.over c.loop-of.of c.index-polynomials-of.result c.loop-of-test.true

pub take-requires-clause-fits : goal.take-requires-clause-fits
take-requires-clause-fits c = c.loop-of.invariant.fits

pub returns-in_err-next-clause-limit : goal.returns-in_err-next-clause-limit
returns-in_err-next-clause-limit c = c.take.ensures.limit ∙ c.loop-of.invariant.limit

pub returns-in_err-next-clause-takes : goal.returns-in_err-next-clause-takes
returns-in_err-next-clause-takes c =
    let P = terms_each c.args.polynomials.now in
    let e = err_from_is_err_and c.from_residual-in_err-next.result
    c.from_residual-in_err-next.ensures.1 in
    rw (e.1, e.2)
    (c.in_err-next.ensures.takes P _
    (given_begins (program_in c.args.self.now) P c.loop-of.meter.entries c.loop-of.progress
    c.args.polynomials.now refl c.loop-of.of c.index-polynomials-of.result c.loop-of-test.true
    c.index-polynomials-of.is
    (record {
      of = c.loop-of.of;
      word = c.new-word.result;
      polynomial = c.in_ok-polynomial.polynomial;
    }) refl c.new-word.ensures.items c.in_ok-polynomial.ensures.terms
    c.loop-of.invariant.awaits))

pub returns-in-Counter-clause-limit : goal.returns-in-Counter-clause-limit
returns-in-Counter-clause-limit c = c.take.ensures.limit ∙ c.loop-of.invariant.limit

pub returns-in-Counter-clause-fits : goal.returns-in-Counter-clause-fits
returns-in-Counter-clause-fits c =
    subst (FitsSequel _ (units_of c.take.new.meter.entries)) c.in-Counter.is
    c.in_ok-next.ensures.fits

pub returns-in-Counter-clause-takes : goal.returns-in-Counter-clause-takes
returns-in-Counter-clause-takes c =
    let P = terms_each c.args.polynomials.now in
    subst (λ s. Takes (program_in c.args.self.now) P
    (map first_candidate (drop (c.loop-of.of + 1) P)) c.take.new.meter.limit
    c.take.new.meter.entries (Ok s)) c.in-Counter.is
    (c.in_ok-next.ensures.takes P _
    (given_begins (program_in c.args.self.now) P c.loop-of.meter.entries c.loop-of.progress
    c.args.polynomials.now refl c.loop-of.of c.index-polynomials-of.result c.loop-of-test.true
    c.index-polynomials-of.is
    (record {
      of = c.loop-of.of;
      word = c.new-word.result;
      polynomial = c.in_ok-polynomial.polynomial;
    }) refl c.new-word.ensures.items c.in_ok-polynomial.ensures.terms
    c.loop-of.invariant.awaits))

pub loop-of-preserved : goal.loop-of-preserved
loop-of-preserved c =
    let P = terms_each c.args.polynomials.now in
    record {
      limit = c.take.ensures.limit ∙ c.loop-of.invariant.limit;
      fits = subst (FitsSequel _ (units_of c.take.new.meter.entries)) c.in-On.is
          c.in_ok-next.ensures.fits;
      awaits =
          subst (λ s. Takes (program_in c.args.self.now) P
          (map first_candidate (drop (c.loop-of.of + 1) P)) c.take.new.meter.limit
          c.take.new.meter.entries (Ok s)) c.in-On.is
          (c.in_ok-next.ensures.takes P _
          (given_begins (program_in c.args.self.now) P c.loop-of.meter.entries c.loop-of.progress
          c.args.polynomials.now refl c.loop-of.of c.index-polynomials-of.result
          c.loop-of-test.true c.index-polynomials-of.is
          (record {
            of = c.loop-of.of;
            word = c.new-word.result;
            polynomial = c.in_ok-polynomial.polynomial;
          }) refl c.new-word.ensures.items
          c.in_ok-polynomial.ensures.terms c.loop-of.invariant.awaits));
    }

pub returns-clause-takes : goal.returns-clause-takes
returns-clause-takes c =
    given_over (program_in c.args.self.now) (terms_each c.args.polynomials.now)
    c.loop-of.meter.entries c.loop-of.progress _ refl c.loop-of.of
    (omega arith) c.loop-of.invariant.awaits
