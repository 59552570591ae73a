-- What is answered to a fault of CERT.
--   certificate_refusal f    to its first fault
use Rattle.std.specs.Prelude.{◌++◌, codes}
use Rattle.cert_form.specs.Form as form
use Rattle.io_edge.specs.declared.answer.Status.TheVariants as status
use Rattle.io_edge.specs.Texts.{Answer, answer}

abbrev pub certificate_refusal : form.Fault → Answer
certificate_refusal form.not_json = answer status.Fault (codes "certificate: not json")
certificate_refusal (form.shape path) = answer status.Fault (codes "certificate: shape at " ++ path)
certificate_refusal (form.polynomial path) =
    answer status.Fault (codes "certificate: polynomial at " ++ path)
