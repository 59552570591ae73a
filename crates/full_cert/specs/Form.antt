-- What a full certificate is in JSON, and where its first fault stands.
--   member_stage               a stage, the member of an object
--   meet_at m s n path d       the intersection, where the orbit gives n polynomials, and s is the number of those so far: none for the first branch
--   branch_at m before s f path d     the stages of a branch with the form f, where the list before the round has `before` polynomials; s is the number of those
--                              so far, and none for the first branch
--   branches_at, rounds_at     the stages of the branches with the forms, the first at place b; the rounds, the first at place r
--   given_bound                the lists that a stage gives have fewer polynomials
--   round_at, rounds_in        a round, and all of them, where the list before has so many polynomials
--   has_kind d                 whether the value has the kind of full certificates
--   parts_of program d         all parts;  full_value program d: behind the version, the kind and the names
--   full_in program bytes      the full certificate in the bytes
use Rattle.std.specs.Prelude.{Bool, ℕ, suc, ◌+◌, ◌^◌, List, [], ◌∷◌, length, Option, Some, None, Ok, Err, codes, is_some, option_and_then, false}
use Rattle.std.specs.Option.{ok_or, option_map_or}
use Rattle.serde_json.specs.Data.{Data, Items, no_items, item}
use Rattle.serde_json.specs.Find.{get, as_object, as_array}
use Rattle.polynomials.specs.Order.{grevlex}
use Rattle.loops.specs.Program.{Expr, Program}
use Rattle.rounds.specs.Form.{front}
use Rattle.cert_form.specs.Form.{Reading, on, after, part, expect, list_with, is_text, has_version, has_names, not_json, shape, document}
use Rattle.cert_form.specs.Path.{member_path}
use Rattle.full_cert.specs.Tables.{raws_at}
use Rattle.corollaries.specs.Stage.{Stage}
use Rattle.corollaries.specs.Full.{FullCertificate, WrittenForm, BranchStages}
use Rattle.full_cert.specs.PartsForm.{◌>>=◌, object_at, stage_at, start_there, steps_at, forms_at}

abbrev pub member_stage : ℕ → ℕ → ℕ → List ℕ → List ℕ → Data → Reading Stage
member_stage k m gens path name d =
    on (stage_at k m gens (member_path path name))
    (ok_or (get name d) (shape (member_path path name)))

-- ---- rounds
abbrev pub given_bound : ℕ
given_bound = 2 ^ 63

abbrev pub orbit_at : ℕ → ℕ → WrittenForm → List ℕ → Data → Reading Stage
orbit_at m before f path d =
    member_stage (front (length f.base)) m (before + suc (length f.base)) path (codes "orbit") d

abbrev pub meet_at : ℕ → Option ℕ → ℕ → List ℕ → Data → Reading (Option Stage)
meet_at m None given path d = Ok None
meet_at m (Some so_far) given path d = do
  meet ← member_stage 1 m (so_far + given) path (codes "meet") d
  Ok (Some meet)

abbrev pub branch_at : ℕ → ℕ → Option ℕ → WrittenForm → List ℕ → Data → Reading BranchStages
branch_at m before so_far f path d = object_at path d do
  orbit ← orbit_at m before f path d
  meet ← meet_at m so_far (length orbit.out) path d
  Ok (record { orbit_stage = orbit; meet_stage = meet })

-- how many polynomials the list so far has behind these stages
abbrev pub given_by : BranchStages → ℕ
given_by b = option_map_or (λ (s : Stage). length s.out) b.meet_stage (length b.orbit_stage.out)

abbrev pub branches_at : ℕ → ℕ → Option ℕ → List WrittenForm → List ℕ → ℕ → Items
    → Reading (List BranchStages)
branches_at m before so_far [] path b ds = Ok []
branches_at m before so_far (f ∷ forms) path b no_items = Err (shape path)
branches_at m before so_far (f ∷ forms) path b (item d ds) =
    on (λ s. after (s ∷ []) (branches_at m before (Some (given_by s)) forms path (suc b) ds))
    (branch_at m before so_far f (part path b) d)

-- how many the last list of a round has, where that before it has so many
abbrev pub last_given : ℕ → List BranchStages → ℕ
last_given before [] = before
last_given before (s ∷ more) = last_given (given_by s) more

abbrev pub round_at : ℕ → ℕ → List WrittenForm → List ℕ → Data → Reading (List BranchStages)
round_at m before forms path d =
    on (branches_at m before None forms path 0) (ok_or (list_with (length forms) d) (shape path))

abbrev pub rounds_at : ℕ → ℕ → List WrittenForm → List ℕ → ℕ → Items
    → Reading (List (List BranchStages))
rounds_at m before forms path r no_items = Ok []
rounds_at m before forms path r (item d ds) =
    on (λ row. after (row ∷ []) (rounds_at m (last_given before row) forms path (suc r) ds))
    (round_at m before forms (part path r) d)

abbrev pub rounds_in : ℕ → ℕ → List WrittenForm → List ℕ → Option Data
    → Reading (List (List BranchStages))
rounds_in m before forms path d =
    on (rounds_at m before forms path 0) (ok_or (option_and_then as_array d) (shape path))

-- ---- the whole
abbrev pub has_kind : Data → Bool
has_kind d = option_map_or (is_text (codes "full")) (get (codes "kind") d) false

module _ {At : Type 0} (program : Program (Expr At)) (d : Data) where
  abbrev pub parts_of : Reading FullCertificate
  parts_of = do
    let m = length program.names
    let n = length program.branches
    basis ← raws_at grevlex m (codes "/basis") (get (codes "basis") d)
    steps ← steps_at m (length basis) n (codes "/steps") (get (codes "steps") d)
    forms ← forms_at m n (codes "/forms") (get (codes "forms") d)
    (out, links) ← start_there m (length program.init) (codes "/start") (get (codes "start") d)
    rounds ← rounds_in m (length out) forms (codes "/rounds") (get (codes "rounds") d)
    Ok (record {
      basis = basis;
      steps = steps;
      forms = forms;
      start_out = out;
      start_links = links;
      rounds = rounds;
    })

  abbrev pub full_value : Reading FullCertificate
  full_value =
      expect (is_some (as_object d)) (codes "/")
      (expect (has_version 1 d) (codes "/version")
      (expect (has_kind d) (codes "/kind")
      (expect (has_names program.names d) (codes "/vars") parts_of)))

unfoldable pub full_in : {At : Type 0} → Program (Expr At) → List ℕ → Reading FullCertificate
full_in program bytes = on (full_value program) (ok_or (document bytes) not_json)
