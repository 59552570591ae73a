use Rattle.std.proofs.Common.{◌<◌, ◌^◌, unsigned_abs, ap, subst, sym, ◌∙◌, lit<}
use mir.Syntax.{w128}
use native.Mathlib.Nat as N
use Rattle.std.proofs.lemmas.Int.{to_z-of_z, fits_signed_from_abs}
use Rattle.algebra.specs.Integers.{integer_in}
use Rattle.gf65521.specs.GfMeaning.{residue_of}
use Rattle.eigen_split.specs.Residues.{GF, residue_at}
use Rattle.eigen_split.specs.WholeMultiple.{rows_in}
use Rattle.eigen_split.proofs.Squares.{mapped_more}
use Rattle.eigen_split.proofs.multiple.WholeMultiple.residue_column.Goals as goal

pub loop-i-preserved : goal.loop-i-preserved
loop-i-preserved c =
    let small : unsigned_abs c.value.result < 2 ^ 127 = subst (λ z. unsigned_abs z < 2 ^ 127)
    (sym c.value.ensures) (N.lt_of_le_of_lt c.entry.ensures.small (lit< tt)) in
    let same = to_z-of_z w128 c.value.result (fits_signed_from_abs w128 c.value.result small) in
    mapped_more residue_of (λ i. residue_at c.args.self.now.denominator (rows_in c.args.self.now) i
    c.args.j) c.loop-i.i _ _ c.loop-i.invariant c.in_ok-push.ensures.items
    (c.residue.ensures ∙ ap (integer_in GF) (same ∙ c.value.ensures ∙ c.entry.ensures.is))
