-- What the parts of a full certificate are in JSON, and where their first fault stands. Their polynomials are raw (Raw).
--   r >>= f                    f of what was read; in a block behind `do` one line after another
--   object_at path d r         r, where the value is an object
--   member_by f path name d    the member of this name, as f reads it
--   most_loop_variables        a loop has at most so many variables
--   base_number_at path d      a whole number in a text of digits, at most 2^127 - 1
--   base_at path d             the base in a list of at most most_bases such texts, where there is one
--   polys_at m r path d        the polynomials of a form over m variables and r numbers
--   form_at m path d           the form of a branch over m variables
--   stage_at k m gens path d   the stage that eliminates k variables in front of m and begins with so many polynomials
--   Start; start_at m n path d what n equations of init are made of;  start_there: so, where there is a value
--   block_at m n path d        the cofactors of a branch, by n elements
--   steps_at m n branches path d, forms_at m branches path d     the cofactors of so many branches, and their forms
use Rattle.std.specs.Prelude.{ℕ, ◌+◌, List, length, nat_le, Option, Some, None, Ok, codes, if◌then◌else◌, is_some, option_and_then}
use Rattle.std.specs.Option.{ok_or}
use Rattle.serde_json.specs.Data.{Data, Items}
use Rattle.serde_json.specs.Find.{get, as_object, as_array, as_str}
use Rattle.algebra.specs.Fraction.{Fraction}
use Rattle.polynomials.specs.Order.{grevlex}
use Rattle.polynomials.specs.Terms.{Terms}
use Rattle.machines.specs.Elimination.{free_part}
use Rattle.solvable_maps.specs.Iterations.{width}
use Rattle.poly_text.specs.Number.{numeral_of}
use Rattle.cert_form.specs.Form.{Reading, on, expect, count, list_with, parts, shape}
use Rattle.cert_form.specs.Path.{member_path}
use Rattle.full_cert.specs.Tables.{raws_at, row_at, table_at}
use Rattle.corollaries.specs.Full.{WrittenForm}
use Rattle.corollaries.specs.Representation.{pairs_of}
use Rattle.corollaries.specs.Stage.{Stage, block_order}
use Rattle.task_lists.specs.Images.{most_bases}

infixl 10 ◌>>=◌
abbrev pub ◌>>=◌ : {A B : Type 0} → Reading A → (A → Reading B) → Reading B
r >>= f = on f r

abbrev pub object_at : {A : Type 0} → List ℕ → Data → Reading A → Reading A
object_at path d r = expect (is_some (as_object d)) path r

abbrev pub member_by : {A : Type 0} → (List ℕ → Option Data → Reading A) → List ℕ → List ℕ → Data
    → Reading A
member_by f path name d = f (member_path path name) (get name d)

-- ---- forms
abbrev pub most_loop_variables : ℕ
most_loop_variables = 12

abbrev pub few : Items → Option Items
few ds = if nat_le (count ds) most_bases then Some ds else None

abbrev pub base_number_at : List ℕ → Data → Reading ℕ
base_number_at path d = ok_or (option_and_then numeral_of (as_str d)) (shape path)

abbrev pub base_at : List ℕ → Option Data → Reading (List ℕ)
base_at path d = parts base_number_at path (option_and_then few (option_and_then as_array d))

abbrev pub polys_at : ℕ → ℕ → List ℕ → Data → Reading (List (Terms Fraction))
polys_at m r path d = member_by (row_at m grevlex (width r m)) path (codes "polys") d

abbrev pub form_at : ℕ → List ℕ → Data → Reading WrittenForm
form_at m path d = object_at path d do
  base ← member_by base_at path (codes "base") d
  polys ← polys_at m (length base) path d
  Ok (record { base = base; polys = polys })

-- ---- stages
abbrev pub stage_at : ℕ → ℕ → ℕ → List ℕ → Data → Reading Stage
stage_at k m begins path d = object_at path d do
  list ← member_by (raws_at (block_order k) (k + m)) path (codes "list") d
  gens ← member_by (table_at begins (length list) (block_order k) (k + m)) path (codes "gens") d
  pairs ← member_by (table_at (length (pairs_of (length list))) (length list) (block_order k)
      (k + m)) path (codes "pairs") d
  out ← member_by (raws_at grevlex m) path (codes "out") d
  links ← member_by (table_at (length (free_part k list)) (length out) grevlex m) path
      (codes "links") d
  Ok (record { list = list; gens = gens; pairs = pairs; out = out; links = links })

-- ---- starts, and those of all branches
abbrev pub Start : Type 0
Start = List (Terms Fraction) × List (List (Terms Fraction))

abbrev pub start_at : ℕ → ℕ → List ℕ → Data → Reading Start
start_at m equations path d = object_at path d do
  out ← member_by (raws_at grevlex m) path (codes "out") d
  links ← member_by (table_at equations (length out) grevlex m) path (codes "links") d
  Ok (out, links)

abbrev pub start_there : ℕ → ℕ → List ℕ → Option Data → Reading Start
start_there m equations path d = on (start_at m equations path) (ok_or d (shape path))

abbrev pub block_at : ℕ → ℕ → List ℕ → Data → Reading (List (List (Terms Fraction)))
block_at m n path d = table_at n n grevlex m path (Some d)

abbrev pub steps_at : ℕ → ℕ → ℕ → List ℕ → Option Data
    → Reading (List (List (List (Terms Fraction))))
steps_at m n branches path d = parts (block_at m n) path (option_and_then (list_with branches) d)

abbrev pub forms_at : ℕ → ℕ → List ℕ → Option Data → Reading (List WrittenForm)
forms_at m branches path d = parts (form_at m) path (option_and_then (list_with branches) d)
