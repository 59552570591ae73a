-- Paths, one member and one place further.
--   member_is, place_is     the path of a member of an object, and of a place in a list
use Rattle.std.proofs.Common.{◌≡◌, ℕ, List, Bor, rules}
use Rattle.cert_form.specs.declared.fault.Path.{Path, Member, Place, the_lemmas}
use Rattle.cert_form.specs.Form.{part}
use Rattle.cert_form.specs.Path.{path_bytes, member_path}

pub member_is : (object : Bor Path) (name : Bor (List ℕ))
    → path_bytes (Member object name) ≡ member_path (path_bytes object.now) name.now
member_is object name = search (rules, the_lemmas)

pub place_is : (list : Bor Path) (place : ℕ)
    → path_bytes (Place list place) ≡ part (path_bytes list.now) place
place_is list place = search (rules, the_lemmas)
