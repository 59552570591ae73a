use Rattle.std.proofs.Common.{◌<◌, inl, inr, sym, ap, subst, ◌∙◌}
use Rattle.std.proofs.lemmas.List.{length-map}
use Rattle.poly.specs.Seen.{terms_in, terms_each}
use Rattle.expansion.specs.Counts.{most_terms}
use Rattle.expansion.specs.Lengths.{power_length}
use Rattle.expansion.proofs.Counting.{of_first, none_above, some_is}
use Rattle.expansion.proofs.LengthLaws.{lengths_none}
use Rattle.invariant_fix.proofs.LongLaws.{some_terms, told_none, told_more, told_past}
use Rattle.invariant_fix.proofs.lengths.+product_before.Goals as goal

pub returns-in_default : goal.returns-in_default
returns-in_default t c =
    of_first _ (told_none _ _ c.args.exponents.now
    (inr (length-map c.args.back.now terms_in ∙ c.in_default.ensures''.cases)))

pub returns-in_default-2 : goal.returns-in_default-2
returns-in_default-2 t c =
    of_first _ (told_none _ _ c.args.exponents.now (inl c.in_default.ensures'.cases))

pub returns-in_default-3 : goal.returns-in_default-3
returns-in_default-3 t c = of_first _ (lengths_none _ _ (inr c.in_default.ensures.cases))

pub returns-in_default-product_before : goal.returns-in_default-product_before
returns-in_default-product_before t c =
    let s = c.in-Some-Some-Some in
    told_past s.passes.now s.passing.now c.args.passing.now (terms_in s.first.now)
    (terms_each s.back.now) (terms_each c.args.back.now) s.exponent.now s.exponents.now
    c.args.exponents.now s.ensures'.cases.0 (ap terms_each s.ensures''.cases.0) s.ensures.cases.0
    (inl (none_above _ _ c.product_before.ensures c.in_default-product_before.not-Some))

pub power_of-requires : goal.power_of-requires
power_of-requires t c = subst (λ n. 0 < n) (sym c.terms_before.ensures)
    (some_terms c.in-Some-Some-Some.passes.now (terms_in c.in-Some-Some-Some.first.now))

pub returns-in_default-power_of : goal.returns-in_default-power_of
returns-in_default-power_of t c =
    let s = c.in-Some-Some-Some in
    told_past s.passes.now s.passing.now c.args.passing.now (terms_in s.first.now)
    (terms_each s.back.now) (terms_each c.args.back.now) s.exponent.now s.exponents.now
    c.args.exponents.now s.ensures'.cases.0 (ap terms_each s.ensures''.cases.0) s.ensures.cases.0
    (inr (subst (λ n. most_terms < power_length n s.exponent.now)
    c.terms_before.ensures (none_above _ _ c.power_of.ensures c.in_default-power_of.not-Some)))

pub returns : goal.returns
returns t c =
    let s = c.in-Some-Some-Some in
    let rest = some_is _ _ _ c.product_before.ensures c.in-Some.is in
    let power = some_is _ _ _ c.power_of.ensures c.in-Some-power_of.is in
    let powers = ap (λ n. power_length n s.exponent.now) c.terms_before.ensures in
    told_more s.passes.now s.passing.now c.args.passing.now (terms_in s.first.now)
    (terms_each s.back.now) (terms_each c.args.back.now) s.exponent.now s.exponents.now
    c.args.exponents.now s.ensures'.cases.0 (ap terms_each s.ensures''.cases.0) s.ensures.cases.0
    c.in-Some.rest c.in-Some-power_of.power c.product.result rest.0 (power.0 ∙ powers)
    c.product.ensures
