-- LOOP CERT, by the arguments behind a command.
--   Request                the names of both files
--   request_in arguments       what the arguments ask for, if they are such arguments
use Rattle.std.specs.Prelude.{List, [], ◌∷◌, ℕ, Option, Some, None, ◌&&◌, if◌then◌else◌}
use Rattle.io_edge.specs.Arguments.{is_file}

pub record Request : Type 0 where
  pub file : List ℕ
  pub certificate : List ℕ

abbrev pub request_in : List (List ℕ) → Option Request
request_in [] = None
request_in (file ∷ []) = None
request_in (file ∷ certificate ∷ []) =
    if is_file file && is_file certificate
    then Some (record { file = file; certificate = certificate }) else None
request_in (file ∷ certificate ∷ more ∷ rest) = None
