use Rattle.std.proofs.Common.{arith, Vec, Global}
use Rattle.std.proofs.lemmas.List.{length-map}
use Rattle.frac128.specs.declared.fraction.Frac.{Frac}
use Rattle.linear.specs.Rows.{fractions_of}
use Rattle.eigen_split.specs.Parts.{found_of}
use Rattle.eigen_split.specs.Search.{zero_last}
use Rattle.eigen_split.proofs.multiple.WholeMultiple.search.Goals as goal

pub returns-in-Ok-iteration-clause-searched : goal.returns-in-Ok-iteration-clause-searched
returns-in-Ok-iteration-clause-searched c =
    let few = c.if-len.false in
    let forms = c.len.ensures in
    let rows = c.len-2.ensures in
    let kept = c.in-Ok.found.forms.ok.0 in
    let given = c.args.self.now.matrix.now.ok.0 in
    let same = length-map c.in-Ok.found.forms.items (λ (v : Vec Frac Global).
    fractions_of v.items) in
    zero_last (found_of c.in-Ok.found) c.in-Ok.ensures.others
    (omega (arith, few, forms, rows, kept, given, same)) c.in-Ok-iteration.ensures.iteration
