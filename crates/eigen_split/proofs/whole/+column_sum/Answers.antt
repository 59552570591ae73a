use Rattle.std.proofs.Common.{◌<◌, ◌+◌, length, All, subst, sym, ◌∙◌, List, Vec, Global}
use Rattle.std.proofs.lemmas.List.Elements.{All-head}
use lib.IntN.{nat_abs}
use Rattle.frac128.specs.FracMeaning.{fraction_of}
use Rattle.frac128.specs.declared.fraction.Frac.{Frac}
use Rattle.linear.specs.Rows.{fractions_of, rows_of}
use Rattle.linear.proofs.Echelon.{entry-is}
use Rattle.vectors.specs.Matrices.{sum_of_column, whole_number}
use Rattle.eigen_split.specs.Fitting.{Fitting}
use Rattle.linear.proofs.Lists.{entry_at}
use Rattle.eigen_split.proofs.whole.+column_sum.Goals as goal

pub returns : goal.returns
returns t c =
    let s = sum_of_column c.args.denominator (rows_of c.in-Some.rest.now) c.args.column in
    let within = All-head (λ (row : Vec Frac Global). c.args.column < length row.items)
    c.in-Some.first.now c.in-Some.rest.now (subst (λ (l : List (Vec Frac Global)).
    All (λ row. c.args.column < length row.items) l) c.in-Some.ensures.cases.0
    c.requires.widths) in
    let here = sym (entry_at c.in-Some.first.now.items c.args.column c.index.result.now within
    c.index.ensures) ∙ entry-is (fractions_of c.in-Some.first.now.items) c.args.column in
    subst (λ (l : List (Vec Frac Global)).
    Fitting c.add_size.result (sum_of_column c.args.denominator (rows_of l) c.args.column))
    (sym c.in-Some.ensures.cases.0)
    (subst (λ a. Fitting c.add_size.result (nat_abs (whole_number c.args.denominator a) + s)) here
    (c.add_size.ensures (whole_number c.args.denominator (fraction_of c.index.result.now)) s
    c.whole_number-entry.ensures c.column_sum.ensures))
