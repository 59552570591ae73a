use Rattle.std.proofs.Common.{◌∙◌}
use mir.Syntax.{w64, w128}
use Rattle.std.proofs.lemmas.Int.{to_z-of_z}
use Rattle.residue_rows.proofs.Fractions.{fits}
use Rattle.residue_rows.proofs.reconstruction.quotient.Goals as goal

pub unwrap-requires : goal.unwrap-requires
unwrap-requires c =
    fits c.new.result c.args.num _ _ c.args.den
    (to_z-of_z w128 _ (record { sfits = c.from.type_inv }) ∙ c.from.ensures
    ∙ to_z-of_z w64 c.args.num c.ranges.num)
    (to_z-of_z w128 _ (record { sfits = c.from-2.type_inv }) ∙ c.from-2.ensures)
    c.requires.some c.requires.num c.requires.den c.new.ensures.zero c.new.ensures.wide
