-- The paths of the parts of a full certificate.
--   path_of part     its text
use Rattle.std.specs.Prelude.{ℕ, List, ◌++◌, codes}
use Rattle.cert_form.specs.Form.{part}
use Rattle.corollaries.specs.Stage.{Place, in_list, in_gens, in_pairs, in_links}
use Rattle.corollaries.specs.Full.{Kind, orbit, meet}
use Rattle.corollaries.specs.Parts.{Part, in_basis, in_steps, in_forms, in_start, in_round, at_end}

abbrev pub kind_path : List ℕ → Kind → List ℕ
kind_path path orbit = path ++ codes "/" ++ codes "orbit"
kind_path path meet = path ++ codes "/" ++ codes "meet"

abbrev pub place_path : List ℕ → Place → List ℕ
place_path path (in_list i) = part (path ++ codes "/" ++ codes "list") i
place_path path (in_gens i) = part (path ++ codes "/" ++ codes "gens") i
place_path path (in_pairs i) = part (path ++ codes "/" ++ codes "pairs") i
place_path path (in_links i) = part (path ++ codes "/" ++ codes "links") i

abbrev pub path_of : Part → List ℕ
path_of (in_basis e) = part (codes "/basis") e
path_of (in_steps b e) = part (part (codes "/steps") b) e
path_of (in_forms b) = part (codes "/forms") b
path_of (in_start i) = part (codes "/start/links") i
path_of (in_round r b kind place) =
    place_path (kind_path (part (part (codes "/rounds") r) b) kind) place
path_of at_end = codes "/basis"
