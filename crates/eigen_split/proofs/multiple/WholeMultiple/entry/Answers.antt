use Rattle.std.proofs.Common.{◌<◌, ◌≤◌, ap, subst, sym, ◌∙◌, arith}
use lib.IntN.{nat_abs}
use Rattle.vectors.specs.Matrices.{whole_number}
use Rattle.eigen_split.proofs.Reading.{list_width, at_entry, ready_entry}
use Rattle.eigen_split.proofs.multiple.WholeMultiple.entry.Goals as goal

pub index-requires-2 : goal.index-requires-2
index-requires-2 c = subst (λ m. c.args.j < m) (sym (c.index.result.now.ok.0
    ∙ list_width _ _ c.args.i c.args.self.now.ready.widths c.requires.row c.index.ensures))
    c.requires.column

pub returns-clause-is : goal.returns-clause-is
returns-clause-is c =
    let w = list_width _ _ c.args.i c.args.self.now.ready.widths c.requires.row c.index.ensures in
    c.in-Some.ensures ∙ ap (whole_number c.args.self.now.denominator)
    (sym (at_entry _ c.args.i c.args.j
    c.requires.row c.index.ensures (subst (λ m. c.args.j < m) (sym w) c.requires.column)
    c.index-2.ensures))

pub returns-clause-small : goal.returns-clause-small
returns-clause-small c =
    let w = list_width _ _ c.args.i c.args.self.now.ready.widths c.requires.row c.index.ensures in
    let e = c.in-Some.ensures ∙ ap (whole_number c.args.self.now.denominator)
    (sym (at_entry _ c.args.i
    c.args.j c.requires.row c.index.ensures (subst (λ m. c.args.j < m) (sym w) c.requires.column)
    c.index-2.ensures)) in
    subst (λ z. nat_abs z ≤ 4096) (sym e) (ready_entry c.args.self.now.ready c.args.i c.args.j
    c.requires.row c.requires.column)

pub unreachable-requires : goal.unreachable-requires
unreachable-requires c =
    let w = list_width _ _ c.args.i c.args.self.now.ready.widths c.requires.row c.index.ensures in
    let e = ap (whole_number c.args.self.now.denominator) (at_entry _ c.args.i c.args.j
    c.requires.row
    c.index.ensures (subst (λ m. c.args.j < m) (sym w) c.requires.column) c.index-2.ensures) in
    let small = subst (λ z. nat_abs z ≤ 4096) e (ready_entry c.args.self.now.ready c.args.i c.args.j
    c.requires.row c.requires.column) in
    let past = c.in-None.ensures in
    omega (arith, small, past)
