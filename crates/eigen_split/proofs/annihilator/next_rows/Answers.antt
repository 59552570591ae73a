use Rattle.std.proofs.Common.{ℕ, List, [], ◌<◌, map, get_or, length, sym, ap, ◌∙◌, arith, Vec, Global}
use Rattle.algebra.specs.Residue.{Residue}
use Rattle.gf65521.specs.declared.Gf.{Gf}
use Rattle.gf65521.specs.GfMeaning.{residue_of}
use Rattle.vectors.specs.Causes.{numbers_to}
use Rattle.eigen_split.specs.Residues.{GF, gfs, gf_rows, next_entry}
use Rattle.eigen_split.proofs.Squares.{mapped_more}
use Rattle.eigen_split.proofs.Scheme.{get_mapped}
use Rattle.eigen_split.proofs.annihilator.next_rows.Goals as goal

pub loop-i-preserved : goal.loop-i-preserved
loop-i-preserved c =
    let entries : List (Residue 65521) → ℕ → List (Residue 65521) = λ row i.
    map (λ j. next_entry GF (gf_rows c.args.columns.now.items)
    (residue_of c.args.coefficient.now) row i j)
    (numbers_to (length c.args.columns.now.items)) in
    let within : c.loop-i.i < length c.args.rows.now.items = (let l = c.loop-i-test.true in let e =
    c.len-i-end.ensures in let v = c.args.columns.now.ok.0 in let w = c.requires in
    omega (arith, l, e, v, w)) in
    mapped_more (λ (v : Vec Gf Global). gfs v.items)
    (λ i. entries (get_or (gf_rows c.args.rows.now.items) i []) i) c.loop-i.i _ _
    c.loop-i.invariant c.in_ok-push.ensures.items
    (c.in_ok-next_row.ensures ∙ ap (λ row. entries row c.loop-i.i) (ap gfs c.as_slice.ensures.value
    ∙ sym (get_mapped (λ (v : Vec Gf Global). gfs v.items) _ c.loop-i.i [] within c.index.ensures)))
