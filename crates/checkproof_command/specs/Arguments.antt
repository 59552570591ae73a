-- PROGRAM CERT, by the arguments behind the command.
--   Request                     the names of both files
--   request_in arguments        what the arguments ask for, if they are such arguments
--   most_certificate_bytes      how long CERT may be;  certificate_at name: the file
use Rattle.std.specs.Prelude.{List, [], ◌∷◌, ℕ, Option, Some, None, ◌&&◌, if◌then◌else◌}
use Rattle.io_edge.specs.Arguments.{is_file}
use Rattle.io_edge.specs.Course.{File}

pub record Request : Type 0 where
  pub file : List ℕ
  pub certificate : List ℕ

abbrev pub request_in : List (List ℕ) → Option Request
request_in [] = None
request_in (file ∷ []) = None
request_in (file ∷ certificate ∷ []) =
    if is_file file && is_file certificate
    then Some (record { file = file; certificate = certificate }) else None
request_in (file ∷ certificate ∷ more ∷ rest) = None

abbrev pub most_certificate_bytes : ℕ
most_certificate_bytes = 1048576

abbrev pub certificate_at : List ℕ → File
certificate_at name = record { name = name; limit = most_certificate_bytes }
