use Rattle.std.proofs.Common.{◌<◌, ◌^◌, unsigned_abs, sym, ap, subst, map, ◌∙◌, arith}
use Rattle.std.proofs.lemmas.Int.{ints}
use Rattle.algebra.specs.Size.{IsPast, SomeIf}
use Rattle.ring_laws.specs.WeightSize.{size_of}
use Rattle.poly.specs.View.{term_of}
use Rattle.algebra.proofs.Lists.{nil_from_length, one_from_length}
use Rattle.poly.proofs.Halves.{parts, past_front, past_back}
use Rattle.poly.proofs.TermWeights.{few_fit, small_fits, weight_none, weight_one, weight_halves, none_past}
use Rattle.poly.proofs.measures.+weight_of.Goals as goal

pub returns-in-empty : goal.returns-in-empty
returns-in-empty g t c =
    let e = weight_none g.K.Ring.scalars _ (ap (map (term_of g.K.Ring.meaning))
    (nil_from_length _ c.in-empty.len_below)) in
    (e, λ past. few_fit (subst IsPast (sym e) past))

pub returns-in-len1 : goal.returns-in-len1
returns-in-len1 g t c =
    let one = one_from_length _ _ c.in-len1.len_at_least c.in-len1.len_below c.term-item.is in
    let e = c.weight.ensures ∙ weight_one g.K.Ring.scalars g.met.K.Ring.ring g.met.K.Ring.bounded _
    _ (ap (map (term_of g.K.Ring.meaning)) one) in
    let size : unsigned_abs c.weight.result.size < 2 ^ 127 =
    omega (arith, ints, c.weight.result.size_low) in
    let den : unsigned_abs c.weight.result.den < 2 ^ 127 =
    omega (arith, ints, c.weight.result.den_low) in
    (e, λ past. small_fits _ _ size den (subst IsPast (sym e) past))

pub returns-in_err-weight_of-in_default : goal.returns-in_err-weight_of-in_default
returns-in_err-weight_of-in_default g t c =
    none_past size_of c.from_residual.result _ c.from_residual.ensures
    (past_front g.K.Ring.scalars g.met.K.Ring.ring g.met.K.Ring.bounded _ _ _
    (parts (term_of g.K.Ring.meaning) _ _ _ c.split_at.ensures.front c.split_at.ensures.back)
    c.in_err-weight_of-in_default.ensures)

pub returns-in_err-weight_of-in_default-2 : goal.returns-in_err-weight_of-in_default-2
returns-in_err-weight_of-in_default-2 g t c =
    none_past size_of c.from_residual-in_err-weight_of-in_default-2.result _
    c.from_residual-in_err-weight_of-in_default-2.ensures
    (past_back g.K.Ring.scalars g.met.K.Ring.ring g.met.K.Ring.bounded _ _ _
    (parts (term_of g.K.Ring.meaning) _ _ _ c.split_at.ensures.front c.split_at.ensures.back)
    c.in_err-weight_of-in_default-2.ensures)

pub returns-in_ok-weight_of-in_default-2 : goal.returns-in_ok-weight_of-in_default-2
returns-in_ok-weight_of-in_default-2 g t c =
    let left = c.in_ok-weight_of-in_default.ensures in
    let right = c.in_ok-weight_of-in_default-2.ensures in
    subst (SomeIf c.plus.result size_of)
    (weight_halves g.K.Ring.scalars g.met.K.Ring.ring g.met.K.Ring.bounded _ _ _ _ _
    (parts (term_of g.K.Ring.meaning) _ _ _ c.split_at.ensures.front c.split_at.ensures.back)
    left.0 right.0)
    c.plus.ensures
