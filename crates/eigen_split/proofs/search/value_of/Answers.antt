use Rattle.std.proofs.Common.{rules}
use mir.Syntax.{w128}
use Rattle.std.proofs.lemmas.Int.{to_z_pos}
use Rattle.eigen_split.proofs.Reading.{small_fractions_have_no_error}
use Rattle.eigen_split.proofs.search.value_of.Goals as goal

pub unreachable-requires : goal.unreachable-requires
unreachable-requires c =
    small_fractions_have_no_error c.in-Err.field-0 _ _ c.args.denominator
    (to_z_pos w128 c.args.denominator
    c.requires.small) c.requires.some c.requires.small (search rules) c.in-Err.ensures.zero.0
    c.in-Err.ensures.wide.0
