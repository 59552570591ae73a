-- Answers that `decide`, `prove` and those up to a degree share.
--   certificate_answer names c    yes: the certificate
--   wide_test_answer b i          to a number of the closing division of the element i, with the branch b, that may not fit
use Rattle.std.specs.Prelude.{ℕ, List, ◌++◌, codes, decimal}
use Rattle.loops.specs.Certificate.{Certificate}
use Rattle.cert_form.specs.Written.{text_of}
use Rattle.io_edge.specs.declared.answer.Status.TheVariants as status
use Rattle.io_edge.specs.Texts.{Answer, answer}

abbrev pub certificate_answer : List (List ℕ) → Certificate → Answer
certificate_answer names c = answer status.Yes (text_of names c)

abbrev pub wide_test_answer : ℕ → ℕ → Answer
wide_test_answer b i =
    answer status.Wide (codes "wide: branch " ++ decimal b ++ codes ", element " ++ decimal i)
