-- The text of a path: the text that it begins with, and behind it the names of members and the places that lead to the part.
--   member_path path name     the path of the member with this name
--   path_bytes path     its text
use Rattle.std.specs.Prelude.{ℕ, List, ◌++◌, codes}
use Rattle.cert_form.specs.declared.fault.Path.{Path, fold-Path}
use Rattle.cert_form.specs.declared.fault.Path.TheOpen.{Path-F}
use Rattle.cert_form.specs.Form.{part}

abbrev pub member_path : List ℕ → List ℕ → List ℕ
member_path path name = path ++ codes "/" ++ name

abbrev pub path_step : Path-F (List ℕ) → List ℕ
path_step (Path-F.Root text) = text.now
path_step (Path-F.Member path name) = member_path path.now name.now
path_step (Path-F.Place path place) = part path.now place

abbrev pub path_bytes : Path → List ℕ
path_bytes = fold-Path (List ℕ) path_step
