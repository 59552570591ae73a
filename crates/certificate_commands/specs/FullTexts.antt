-- What `full` answers, beside the refusals of an analysis.
--   certificate_answer names c     the full certificate c, and a line's end
--   late_answer b                  that the branch b, which counts from 0, is the first that begins late
use Rattle.std.specs.Prelude.{ℕ, ◌+◌, List, ◌++◌, codes, decimal}
use Rattle.corollaries.specs.Full.{FullCertificate}
use Rattle.io_edge.specs.declared.answer.Status.TheVariants as status
use Rattle.io_edge.specs.Texts.{Answer, answer}
use Rattle.full_cert.specs.Written.{full_text}

abbrev pub certificate_answer : List (List ℕ) → FullCertificate → Answer
certificate_answer names c = answer status.Yes (full_text names c)

abbrev pub late_answer : ℕ → Answer
late_answer b =
    answer status.Fault (codes "branch " ++ decimal (b + 1) ++ codes ": begins late")
