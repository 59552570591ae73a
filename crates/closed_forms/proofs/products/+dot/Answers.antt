use Rattle.std.proofs.Common.{inl, inr, ◌<◌, ℕ, Vec, Global, length, rules, refl}
use Rattle.std.proofs.lemmas.Result.{IfOk-weaker}
use Rattle.frac128.specs.declared.fraction.Frac.{Frac}
use Rattle.closed_forms.proofs.Dots.{dot_none, dot_next, past_product, past_sum}
use Rattle.closed_forms.proofs.Mixing.{head_all, tail_all}
use Rattle.closed_forms.proofs.products.+dot.Goals as goal
use Rattle.closed_forms.proofs.products.+dot.Goals.{in_default-via-in-Some+in_default, in_default-via-in_default}

abbrev IsLong : ℕ → Vec Frac Global → Type 0
IsLong column row = column < length row.items

pub returns-in_default-clause-sum : goal.returns-in_default-clause-sum
returns-in_default-clause-sum t c = dot_none _ _ c.args.column
    c.zero.result c.zero.ensures
    (elim c.in_default.branch [
      | in_default-via-in-Some+in_default w ↦ inr w.in_default.ensures'.cases
      | in_default-via-in_default w ↦ inl w.in_default.ensures.cases
    ])

pub returns-in_err-product-clause-wide : goal.returns-in_err-product-clause-wide
returns-in_err-product-clause-wide t c = λ h.
    past_product _ c.in-Some-Some.ensures.cases.0 c.in-Some-Some.ensures'.cases.0
    (head_all (IsLong c.args.column) c.in-Some-Some.ensures'.cases.0 c.requires) c.index.ensures
    (c.in_err-product.ensures.wide.0 refl)

pub dot-requires : goal.dot-requires
dot-requires t c =
    (search rules, tail_all (IsLong c.args.column) c.in-Some-Some.ensures'.cases.0 c.requires)

pub returns-clause-sum : goal.returns-clause-sum
returns-clause-sum t c =
    IfOk-weaker c.add.result _ _ (λ s e. dot_next _ c.in-Some-Some.ensures.cases.0
    c.in-Some-Some.ensures'.cases.0
    (head_all (IsLong c.args.column) c.in-Some-Some.ensures'.cases.0 c.requires)
    c.index.ensures c.in_ok-product.product c.in_ok-dot.field-0 s c.in_ok-product.ensures.ok
    c.in_ok-dot.ensures.sum e) c.add.ensures.ok

pub returns-clause-wide : goal.returns-clause-wide
returns-clause-wide t c = λ h.
    past_sum _ c.in-Some-Some.ensures.cases.0 c.in-Some-Some.ensures'.cases.0
    (head_all (IsLong c.args.column) c.in-Some-Some.ensures'.cases.0 c.requires)
    c.index.ensures c.in_ok-product.product
    c.in_ok-dot.field-0 c.in_ok-product.ensures.ok c.in_ok-dot.ensures.sum (c.add.ensures.wide.0 h)
