use Rattle.std.proofs.Common.{inl, inr, rules}
use Rattle.expansion.proofs.Counting.{of_first, none_above, some_is}
use Rattle.expansion.proofs.LengthLaws.{lengths_none, lengths_more, product_past}
use Rattle.closed_forms.specs.Lengths.{IsLength}
use Rattle.closed_forms.proofs.LengthLaws.{lengths_some}
use Rattle.closed_forms.proofs.Mixing.{head_all, tail_all}
use Rattle.closed_forms.proofs.lengths.+product_length.Goals as goal

pub returns-in_default : goal.returns-in_default
returns-in_default t c =
    of_first _ (lengths_none _ _ (inr c.in_default.ensures'.cases))

pub returns-in_default-2 : goal.returns-in_default-2
returns-in_default-2 t c =
    of_first _ (lengths_none _ _ (inl c.in_default.ensures.cases))

pub product_length-requires : goal.product_length-requires
product_length-requires t c =
    (search rules, tail_all IsLength c.in-Some-Some.ensures.cases.0 c.requires)

pub returns-in_default-product_length : goal.returns-in_default-product_length
returns-in_default-product_length t c =
    product_past _ _ _ _ _ _ c.in-Some-Some.ensures.cases.0 c.in-Some-Some.ensures'.cases.0
    (lengths_some _ c.requires) (inl (none_above _ _ c.product_length.ensures
    c.in_default-product_length.not-Some))

pub products-requires-clause-some : goal.products-requires-clause-some
products-requires-clause-some t c = (head_all IsLength c.in-Some-Some.ensures.cases.0 c.requires).0

pub products-requires-clause-few : goal.products-requires-clause-few
products-requires-clause-few t c = (head_all IsLength c.in-Some-Some.ensures.cases.0 c.requires).1

pub returns-in_default-products : goal.returns-in_default-products
returns-in_default-products t c =
    product_past _ _ _ _ _ _ c.in-Some-Some.ensures.cases.0 c.in-Some-Some.ensures'.cases.0
    (lengths_some _ c.requires) (inr (none_above _ _ c.products.ensures
    c.in_default-products.not-Some))

pub returns : goal.returns
returns t c =
    let rest = some_is _ _ _ c.product_length.ensures c.in-Some.is in
    let power = some_is _ _ _ c.products.ensures c.in-Some-products.is in
    lengths_more _ _ _ _ _ _ _ _ _ c.in-Some-Some.ensures.cases.0 c.in-Some-Some.ensures'.cases.0
    rest.0 power.0 c.product.ensures
