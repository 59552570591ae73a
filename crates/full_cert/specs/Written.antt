-- How a full certificate is written: as an object, with the members of each object in the order of their names, and polynomials as lists of terms in descending order.
--   raws_data ps, rows_data rows     lists of polynomials, and lists of these
--   form_data f, start_data s, stage_data s     a form, a start, a stage
--   branch_data b, round_data bs     the stages of a branch, and those of a round
--   full_object ..           the object of these members
--   full_data names c        the full certificate;  full_text names c: its compact text
use Rattle.std.specs.Prelude.{ℕ, List, Option, Some, None, codes, decimal}
use Rattle.serde_json.specs.Data.{Data, number, string, object, unsigned, member, no_members}
use Rattle.serde_json.specs.Written.{compact_text}
use Rattle.algebra.specs.Fraction.{Fraction}
use Rattle.polynomials.specs.Terms.{Terms}
use Rattle.cert_form.specs.Written.{list_data}
use Rattle.full_cert.specs.RawWritten.{raw_data}
use Rattle.corollaries.specs.Stage.{Stage}
use Rattle.corollaries.specs.Full.{BranchStages, FullCertificate, WrittenForm}
use Rattle.full_cert.specs.PartsForm.{Start}

abbrev pub raws_data : List (Terms Fraction) → Data
raws_data ps = list_data raw_data ps

abbrev pub rows_data : List (List (Terms Fraction)) → Data
rows_data rows = list_data raws_data rows

abbrev pub steps_data : List (List (List (Terms Fraction))) → Data
steps_data steps = list_data rows_data steps

abbrev pub base_number_data : ℕ → Data
base_number_data n = string (decimal n)

abbrev pub base_data : List ℕ → Data
base_data base = list_data base_number_data base

abbrev pub form_object : Data → Data → Data
form_object base polys =
    object (member (codes "base") base (member (codes "polys") polys no_members))

abbrev pub form_data : WrittenForm → Data
form_data f = form_object (base_data f.base) (raws_data f.polys)

abbrev pub start_object : Data → Data → Data
start_object links out = object (member (codes "links") links (member (codes "out") out no_members))

abbrev pub start_data : Start → Data
start_data s = start_object (rows_data s.1) (raws_data s.0)

abbrev pub stage_object : Data → Data → Data → Data → Data → Data
stage_object gens links list out pairs =
    object (member (codes "gens") gens (member (codes "links") links
    (member (codes "list") list (member (codes "out") out
    (member (codes "pairs") pairs no_members)))))

abbrev pub stage_data : Stage → Data
stage_data s = stage_object (rows_data s.gens) (rows_data s.links) (raws_data s.list)
    (raws_data s.out) (rows_data s.pairs)

abbrev pub orbit_object : Data → Data
orbit_object orbit = object (member (codes "orbit") orbit no_members)

abbrev pub meet_object : Data → Data → Data
meet_object meet orbit =
    object (member (codes "meet") meet (member (codes "orbit") orbit no_members))

abbrev pub with_meet : Option Stage → Data → Data
with_meet None orbit = orbit_object orbit
with_meet (Some meet) orbit = meet_object (stage_data meet) orbit

abbrev pub branch_data : BranchStages → Data
branch_data b = with_meet b.meet_stage (stage_data b.orbit_stage)

abbrev pub round_data : List BranchStages → Data
round_data bs = list_data branch_data bs

abbrev pub full_object : Data → Data → Data → Data → Data → Data → Data
full_object basis forms rounds start steps vars =
    object (member (codes "basis") basis (member (codes "forms") forms
    (member (codes "kind") (string (codes "full")) (member (codes "rounds") rounds
    (member (codes "start") start (member (codes "steps") steps (member (codes "vars") vars
    (member (codes "version") (number (unsigned 1)) no_members))))))))

abbrev pub full_data : List (List ℕ) → FullCertificate → Data
full_data names c = full_object (raws_data c.basis) (list_data form_data c.forms)
    (list_data round_data c.rounds) (start_data (c.start_out, c.start_links))
    (steps_data c.steps) (list_data string names)

unfoldable pub full_text : List (List ℕ) → FullCertificate → List ℕ
full_text names c = compact_text (full_data names c)
