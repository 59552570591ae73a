use Rattle.std.proofs.Common.{◌≡◌, ◌≢◌, ◌<◌, ◌∙◌, ℕ, length, ap, sym, subst}
use Rattle.std.proofs.lemmas.Result.{err_from_is_err_and}
use Rattle.linear.specs.Rows.{fractions_of, rows_of}
use Rattle.vectors.specs.Adding.{scale_row}
use Rattle.frac128.specs.FracMeaning.{fraction_of}
use Rattle.linear.specs.Parts.{IsPastScaled}
use Rattle.linear.proofs.Lists.{column_within, number_some, fresh_wide, fresh_is}
use Rattle.linear.proofs.rows.fresh_of.Goals as goal

-- the column is not the length
differs : (column len vec n : ℕ) → len ≡ vec → vec ≡ n → column ≢ len → column ≢ n
differs column len vec n e f ne q = ne (q ∙ sym (e ∙ f))

pub index-requires : goal.index-requires
index-requires c =
    subst (λ n. c.lead_of-column.result < n) (sym c.in_ok-rest.rest.ok.0)
    (column_within (rows_of c.args.rows.now) c.args.row.now.items c.in_ok-rest.rest.items
    c.in_ok-rest.ensures.row c.in_ok-rest.ensures.width c.lead_of-column.ensures
    (differs c.lead_of-column.result c.len.result _ (length c.in_ok-rest.rest.items) c.len.ensures
    c.in_ok-rest.rest.ok.0 c.if-column-len.false))

pub reciprocal-by-requires : goal.reciprocal-by-requires
reciprocal-by-requires c =
    number_some (rows_of c.args.rows.now) c.args.row.now.items c.in_ok-rest.rest.items
    c.in_ok-rest.ensures.row c.in_ok-rest.ensures.width c.lead_of-column.ensures
    (differs c.lead_of-column.result c.len.result _ (length c.in_ok-rest.rest.items) c.len.ensures
    c.in_ok-rest.rest.ok.0 c.if-column-len.false) c.index.result.now c.index.ensures

pub returns-clause-fresh : goal.returns-clause-fresh
returns-clause-fresh c =
    fresh_is (rows_of c.args.rows.now) c.args.row.now.items c.in_ok-rest.rest.items
    c.in_ok-rest.ensures.row c.in_ok-rest.ensures.width c.lead_of-column.ensures
    (differs c.lead_of-column.result c.len.result _ (length c.in_ok-rest.rest.items) c.len.ensures
    c.in_ok-rest.rest.ok.0 c.if-column-len.false) c.index.result.now c.index.ensures
    c.reciprocal-by.result c.reciprocal-by.ensures _ (c.in_ok-fresh.ensures.row ∙ ap (λ l. scale_row
    (fraction_of c.reciprocal-by.result) (fractions_of l)) c.as_slice.ensures.value)

pub returns-in_err-fresh-clause-wide : goal.returns-in_err-fresh-clause-wide
returns-in_err-fresh-clause-wide c =
    let p = err_from_is_err_and c.from_residual-in_err-fresh.result
    c.from_residual-in_err-fresh.ensures.1 in
    λ h. fresh_wide (rows_of c.args.rows.now) c.args.row.now.items c.in_ok-rest.rest.items
    c.in_ok-rest.ensures.row c.in_ok-rest.ensures.width c.lead_of-column.ensures
    (differs c.lead_of-column.result c.len.result _ (length c.in_ok-rest.rest.items) c.len.ensures
    c.in_ok-rest.rest.ok.0 c.if-column-len.false) c.index.result.now c.index.ensures
    c.reciprocal-by.result c.reciprocal-by.ensures (subst (λ l. IsPastScaled (fractions_of l)
    (fraction_of c.reciprocal-by.result)) c.as_slice.ensures.value
    (c.in_err-fresh.ensures.wide (cc (p.1, p.2, h))))
