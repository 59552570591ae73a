-- The parts of full certificates as the definitions see them.
--   row_name r, kind_name k        the names of the lists of a stage, and of the stages of a branch
--   place_of p, kind_of k, part_of p     the place, the stage, the part
--   place_at r i, stage_part r b k p     the place i of a list; the part at a place of a stage
--   in_forms, in_starts            why the judging of numbers has stopped, as parts
use Rattle.std.specs.Prelude.{ℕ, List, codes}
use Rattle.corollaries.specs.Stage as stage
use Rattle.corollaries.specs.Full as full
use Rattle.corollaries.specs.Parts as whole
use Rattle.cert_checker.specs.FullStops.{stop_map}
use Rattle.cert_checker.specs.declared.full_part.Row.{Row}
use Rattle.cert_checker.specs.declared.full_part.Row.TheVariants as row
use Rattle.cert_checker.specs.declared.full_part.Kind.{Kind}
use Rattle.cert_checker.specs.declared.full_part.Kind.TheVariants as kind
use Rattle.cert_checker.specs.declared.full_part.RowPlace.{RowPlace}
use Rattle.cert_checker.specs.declared.full_part.Part.{Part}
use Rattle.cert_checker.specs.declared.full_part.Part.TheVariants as part
use Rattle.cert_checker.specs.declared.full_stop.Stop.{Stop}

abbrev pub row_name : Row → List ℕ
row_name row.List = codes "list"
row_name row.Gens = codes "gens"
row_name row.Pairs = codes "pairs"
row_name row.Links = codes "links"

abbrev pub kind_name : Kind → List ℕ
kind_name kind.Orbit = codes "orbit"
kind_name kind.Meet = codes "meet"

abbrev pub in_place : Row → ℕ → stage.Place
in_place row.List i = stage.in_list i
in_place row.Gens i = stage.in_gens i
in_place row.Pairs i = stage.in_pairs i
in_place row.Links i = stage.in_links i

abbrev pub place_of : RowPlace → stage.Place
place_of p = in_place p.row p.index

abbrev pub kind_of : Kind → full.Kind
kind_of kind.Orbit = full.orbit
kind_of kind.Meet = full.meet

abbrev pub part_of : Part → whole.Part
part_of (part.Basis e) = whole.in_basis e
part_of (part.Step b e) = whole.in_steps b e
part_of (part.Form b) = whole.in_forms b
part_of (part.Start i) = whole.in_start i
part_of (part.Stage r b k p) = whole.in_round r b (kind_of k) (place_of p)
part_of part.End = whole.at_end

abbrev pub place_at : Row → ℕ → RowPlace
place_at r i = record { row = r; index = i }

abbrev pub stage_part : ℕ → ℕ → Kind → RowPlace → Part
stage_part r b k p = part.Stage r b k p

abbrev pub in_forms : Stop ℕ → Stop Part
in_forms e = stop_map (λ b. part.Form b) e

abbrev pub in_starts : Stop ℕ → Stop Part
in_starts e = stop_map (λ i. part.Start i) e
