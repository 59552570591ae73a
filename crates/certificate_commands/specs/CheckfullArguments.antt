-- The file CERT of `checkfull`.
--   most_certificate_bytes     how long CERT may be;  certificate_at name: the file
use Rattle.std.specs.Prelude.{ℕ, List}
use Rattle.io_edge.specs.Course.{File}

abbrev pub most_certificate_bytes : ℕ
most_certificate_bytes = 16777216

abbrev pub certificate_at : List ℕ → File
certificate_at name = record { name = name; limit = most_certificate_bytes }
