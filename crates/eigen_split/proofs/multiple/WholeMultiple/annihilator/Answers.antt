use Rattle.std.proofs.Common.{◌∷◌, [], List, All, ap, subst, sym, ◌∙◌, Vec, Global}
use Rattle.std.proofs.lemmas.List.{length-map, map-append}
use Rattle.gf65521.specs.declared.Gf.{Gf}
use Rattle.gf65521.specs.GfMeaning.{residue_of}
use Rattle.eigen_split.specs.Residues.{gfs, IsNone, IsAnnihilating}
use Rattle.eigen_split.specs.WholeMultiple.{rows_in, size_of}
use Rattle.eigen_split.proofs.Excluding.{none_annihilates}
use Rattle.eigen_split.proofs.Scheme.{scheme_count, columns_count, scheme_next, scheme_end, zero_rows_are}
use Rattle.eigen_split.proofs.multiple.WholeMultiple.annihilator.Goals as goal

pub next_rows-requires : goal.next_rows-requires
next_rows-requires c =
    sym (length-map c.loop-degree.rows.items (λ (v : Vec Gf Global). gfs v.items)) ∙ scheme_count _
    _ _ c.loop-degree.invariant ∙ sym (columns_count _ _ _ c.in_ok-columns.ensures) ∙ length-map
    c.in_ok-columns.columns.items (λ (v : Vec Gf Global). gfs v.items)

pub loop-degree-preserved : goal.loop-degree-preserved
loop-degree-preserved c =
    scheme_next _ _ _ (residue_of c.coefficient-coefficient.result) c.loop-degree.invariant
    c.in_ok-columns.ensures (sym (length-map c.in_ok-columns.columns.items
    (λ (v : Vec Gf Global). gfs v.items)) ∙ columns_count _ _ _ c.in_ok-columns.ensures)
    c.in_ok-rows-2.ensures (ap gfs c.in_ok-push.ensures.items ∙ map-append residue_of
    c.loop-degree.coefficients.items (c.coefficient-coefficient.result ∷ []))

pub returns-then-are_zero : goal.returns-then-are_zero
returns-then-are_zero c =
    scheme_end _ _ _ c.loop-degree.rows.items c.loop-degree.invariant (λ i l row e j. zero_rows_are
    c.loop-degree.rows.items (subst (λ (rs : List (Vec Gf Global)). All
    (λ row. All IsNone row.items) rs) c.as_slice-2.ensures.value
    (c.are_zero.ensures c.if-are_zero.true)) i row e j)

pub returns : goal.returns
returns c =
    subst (λ (l : List Gf). IsAnnihilating (size_of c.args.self.now) c.args.self.now.denominator
    (rows_in c.args.self.now) (gfs l)) (sym c.new.ensures.items)
    (none_annihilates (size_of c.args.self.now) c.args.self.now.denominator
    (rows_in c.args.self.now))
