use Rattle.std.proofs.Common.{[], ◌<◌, length, sym, ap, ap₂, ◌∙◌, arith, Vec, Global}
use Rattle.gf65521.specs.declared.Gf.{Gf}
use Rattle.gf65521.specs.GfMeaning.{residue_of}
use Rattle.eigen_split.specs.Residues.{GF, gfs, gf_rows, dot_in, next_entry}
use Rattle.eigen_split.proofs.Squares.{mapped_more}
use Rattle.eigen_split.proofs.Scheme.{get_mapped}
use Rattle.eigen_split.proofs.annihilator.next_row.Goals as goal

pub loop-j-preserved : goal.loop-j-preserved
loop-j-preserved c =
    let within : c.loop-j.j < length c.args.columns.now.items = (let l = c.loop-j-test.true in
    let e = c.len-j-end.ensures in let v = c.args.columns.now.ok.0 in
    omega (arith, l, e, v)) in
    mapped_more residue_of (λ j. next_entry GF (gf_rows c.args.columns.now.items)
    (residue_of c.args.coefficient.now) (gfs c.args.row.now) c.args.i j) c.loop-j.j _ _
    c.loop-j.invariant c.in_ok-push.ensures.items (c.sum.ensures ∙ ap₂ GF.add
    (c.dot-product.ensures ∙ ap (dot_in GF (gfs c.args.row.now)) (ap gfs c.as_slice.ensures.value
    ∙ sym (get_mapped (λ (v : Vec Gf Global). gfs v.items) _ c.loop-j.j [] within c.index.ensures)))
    c.on_diagonal.ensures)
