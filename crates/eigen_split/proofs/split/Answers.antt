use Rattle.std.proofs.Common.{length, ◌∙◌, sym}
use Rattle.frac128.specs.FracMeaning.{fraction_of}
use Rattle.linear.specs.Rows.{fractions_of, rows_of}
use Rattle.eigen_split.proofs.OneNumber.{one_matrix, single_forms, single_searched, single_splits, single_ascends, single_found, at_least_two, clause_found, clause_within}
use Rattle.eigen_split.proofs.split.Goals as goal

pub returns-clause-within : goal.returns-clause-within
returns-clause-within c = λ k l. clause_within _ _ c.larger.result c.larger.ensures k

pub returns-clause-found : goal.returns-clause-found
returns-clause-found c =
    clause_found _ _ (at_least_two _ c.len.result c.requires.some
    (c.len.ensures ∙ c.args.matrix.now.ok.0) c.if-len-eq1.false) c.larger.result c.larger.ensures

pub returns-then-len-eq1-clause-forms : goal.returns-then-len-eq1-clause-forms
returns-then-len-eq1-clause-forms c =
    let one = sym c.args.matrix.now.ok.0 ∙ sym c.len.ensures ∙ c.if-len-eq1.true in
    single_forms (length c.args.matrix.now.items) (rows_of c.args.matrix.now.items)
    (rows_of c.in_ok-single.field-0.forms.items) (fractions_of c.in_ok-single.field-0.values.items)
    (fraction_of c.index-then-len-eq1.result.now) one (one_matrix _ one c.requires.square
    c.index.ensures c.index-then-len-eq1.ensures) c.in_ok-single.ensures

pub returns-then-len-eq1-clause-splits : goal.returns-then-len-eq1-clause-splits
returns-then-len-eq1-clause-splits c =
    let one = sym c.args.matrix.now.ok.0 ∙ sym c.len.ensures ∙ c.if-len-eq1.true in
    λ ok. single_splits (length c.args.matrix.now.items) (rows_of c.args.matrix.now.items)
    (rows_of c.in_ok-single.field-0.forms.items) (fractions_of c.in_ok-single.field-0.values.items)
    (fraction_of c.index-then-len-eq1.result.now) one (one_matrix _ one c.requires.square
    c.index.ensures c.index-then-len-eq1.ensures) c.in_ok-single.ensures

pub returns-then-len-eq1-clause-searched : goal.returns-then-len-eq1-clause-searched
returns-then-len-eq1-clause-searched c =
    let one = sym c.args.matrix.now.ok.0 ∙ sym c.len.ensures ∙ c.if-len-eq1.true in
    single_searched (length c.args.matrix.now.items) (rows_of c.args.matrix.now.items)
    (rows_of c.in_ok-single.field-0.forms.items) (fractions_of c.in_ok-single.field-0.values.items)
    (fraction_of c.index-then-len-eq1.result.now) one (one_matrix _ one c.requires.square
    c.index.ensures c.index-then-len-eq1.ensures) c.in_ok-single.ensures

pub returns-then-len-eq1-clause-ascending : goal.returns-then-len-eq1-clause-ascending
returns-then-len-eq1-clause-ascending c =
    let one = sym c.args.matrix.now.ok.0 ∙ sym c.len.ensures ∙ c.if-len-eq1.true in
    single_ascends (length c.args.matrix.now.items) (rows_of c.args.matrix.now.items)
    (rows_of c.in_ok-single.field-0.forms.items) (fractions_of c.in_ok-single.field-0.values.items)
    (fraction_of c.index-then-len-eq1.result.now) one (one_matrix _ one c.requires.square
    c.index.ensures c.index-then-len-eq1.ensures) c.in_ok-single.ensures

pub returns-then-len-eq1-clause-found : goal.returns-then-len-eq1-clause-found
returns-then-len-eq1-clause-found c =
    let one = sym c.args.matrix.now.ok.0 ∙ sym c.len.ensures ∙ c.if-len-eq1.true in
    single_found (length c.args.matrix.now.items) (rows_of c.args.matrix.now.items)
    (rows_of c.in_ok-single.field-0.forms.items) (fractions_of c.in_ok-single.field-0.values.items)
    (fraction_of c.index-then-len-eq1.result.now) one (one_matrix _ one c.requires.square
    c.index.ensures c.index-then-len-eq1.ensures) c.in_ok-single.ensures
