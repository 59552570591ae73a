use Rattle.std.proofs.Common.{◌≡◌, inl, inr, [], ⊎_elim, rules, sym, ap, ap₂, subst, All}
use Rattle.std.proofs.lemmas.List.Elements.{All-tail}
use Rattle.std.proofs.lemmas.Slice.Zip.{Zip-more, either_empty_from_Zip}
use Rattle.std.specs.Iterator.Adapters.{zip_first, zip_second}
use Rattle.std.specs.Slice.Iter.{iter_rest}
use Rattle.polynomials.specs.Terms.{constant}
use Rattle.frac128.specs.FracMeaning.{fraction_of}
use Rattle.poly.specs.Seen.{terms_in, terms_each}
use Rattle.poly.specs.Standing.{IsInVariables}
use Rattle.loop_model.proofs.OperationLaws.{stops_front, handed_on}
use Rattle.counter_run.specs.Composition.{factors}
use Rattle.counter_run.proofs.Compositions.{factor_none, factor_arity, factor_more, factor_stop, factor_all}
use Rattle.counter_run.proofs.composition.multiple_of.Goals as goal

pub returns-in_err-total : goal.returns-in_err-total
returns-in_err-total c =
    handed_on c.args.arity _ _ c.in_err-total.field-0.0 c.from_residual.result
    c.from_residual.ensures.1
    (stops_front c.args.arity [] _ c.in_err-total.field-0.0 c.in_err-total.ensures)

pub loop-exponent-init : goal.loop-exponent-init
loop-exponent-init c =
    let first : iter_rest (zip_first c.into_iter-exponent-iterator.result) ≡ c.args.monomial.now =
    search rules in
    let second : iter_rest (zip_second c.into_iter-exponent-iterator.result) ≡ c.args.images.now =
    search rules in
    record {
      arity = c.in_ok-total.ensures.0.arity;
      over = subst (All (IsInVariables c.args.arity)) (sym second) c.requires.images;
      goes =
          factor_none c.args.arity (constant c.args.arity (fraction_of c.args.number.now))
          (factors (terms_each c.args.images.now) c.args.monomial.now) _ _ c.in_ok-total.total
          (ap₂ (λ ps e. factors (terms_each ps) e) second first) c.in_ok-total.ensures.0;
    }

pub returns-in_err-total-2 : goal.returns-in_err-total-2
returns-in_err-total-2 c =
    let m = Zip-more c.loop-exponent.exponent-iterator c.next.new.self c.next.result
    (c.in-Some.exponent, c.in-Some.image) c.in-Some.is c.next.ensures.steps in
    let i = rw (m.0, m.1) at c.loop-exponent.invariant in
    handed_on c.args.arity _ _ c.in_err-total-2.field-0.0 c.from_residual-in_err-total-2.result
    c.from_residual-in_err-total-2.ensures.1
    (factor_stop c.args.arity (constant c.args.arity (fraction_of c.args.number.now))
    (factors (terms_each c.args.images.now) c.args.monomial.now)
    (terms_in c.in-Some.image.now) _ c.in-Some.exponent.now _ c.loop-exponent.total i.arity
    i.goes c.in_err-total-2.field-0.0 c.in_err-total-2.ensures)

pub loop-exponent-preserved : goal.loop-exponent-preserved
loop-exponent-preserved c =
    let m = Zip-more c.loop-exponent.exponent-iterator c.next.new.self c.next.result
    (c.in-Some.exponent, c.in-Some.image) c.in-Some.is c.next.ensures.steps in
    let i = rw (m.0, m.1) at c.loop-exponent.invariant in
    let number = constant c.args.arity (fraction_of c.args.number.now) in
    let all = factors (terms_each c.args.images.now) c.args.monomial.now in
    record {
      arity =
          factor_arity c.args.arity number all
          (terms_in c.in-Some.image.now) _ c.in-Some.exponent.now _ c.loop-exponent.total i.arity
          i.goes c.in_ok-total-2.total c.in_ok-total-2.ensures;
      over = All-tail (IsInVariables c.args.arity) c.in-Some.image.now _ i.over;
      goes =
          factor_more c.args.arity number all
          (terms_in c.in-Some.image.now) _ c.in-Some.exponent.now _ c.loop-exponent.total i.arity
          i.goes c.in_ok-total-2.total c.in_ok-total-2.ensures;
    }

pub returns : goal.returns
returns c =
    let e = either_empty_from_Zip c.loop-exponent.exponent-iterator c.next.new.self c.next.result
    c.in-None.is c.next.ensures.steps in
    factor_all c.args.arity (constant c.args.arity (fraction_of c.args.number.now))
    (factors (terms_each c.args.images.now) c.args.monomial.now) _ _ c.loop-exponent.total
    (⊎_elim inl (λ q. inr (ap terms_each q)) e) c.loop-exponent.invariant.arity
    c.loop-exponent.invariant.goes
