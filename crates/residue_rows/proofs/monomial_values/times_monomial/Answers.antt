use Rattle.std.proofs.Common.{◌≡◌, inl, inr, pos, ⊎_elim, rules, ap}
use Rattle.std.proofs.lemmas.Slice.Zip.{Zip-more, either_empty_from_Zip}
use Rattle.std.specs.Iterator.Adapters.{zip_first, zip_second}
use Rattle.std.specs.Slice.Iter.{iter_rest}
use Rattle.residue_rows.specs.Modulus.{modulus}
use Rattle.residue_rows.specs.Numbers.{number_of, numbers_of}
use Rattle.residue_rows.proofs.Powers.{factor_begins, factor_goes, factor_ends}
use Rattle.residue_rows.proofs.monomial_values.times_monomial.Goals as goal

pub loop-exponent-init : goal.loop-exponent-init
loop-exponent-init c =
    let first : iter_rest (zip_first c.into_iter-exponent-iterator.result) ≡ c.args.monomial.now =
    search rules in
    let second : iter_rest (zip_second c.into_iter-exponent-iterator.result) ≡ c.args.state.now =
    search rules in
    factor_begins (pos modulus) (number_of c.args.number) _ _
    c.args.monomial.now (ap numbers_of second) first

pub loop-exponent-preserved : goal.loop-exponent-preserved
loop-exponent-preserved c =
    let m = Zip-more c.loop-exponent.exponent-iterator c.next.new.self _
    (c.in-Some.exponent, c.in-Some.value) c.in-Some.is c.next.ensures.steps in
    let before = rw (m.0, m.1) at c.loop-exponent.invariant in
    factor_goes (pos modulus) (number_of c.loop-exponent.product) (number_of c.in-Some.value.now)
    c.in-Some.exponent.now (numbers_of (iter_rest (zip_second c.next.new.self)))
    (iter_rest (zip_first c.next.new.self)) c.times_power-product.ensures before

pub returns : goal.returns
returns c =
    let e = either_empty_from_Zip c.loop-exponent.exponent-iterator c.next.new.self _
    c.in-None.is c.next.ensures.steps in
    factor_ends (pos modulus) _ _ _
    (⊎_elim inl (λ r. inr (ap numbers_of r)) e) c.loop-exponent.invariant
