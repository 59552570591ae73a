-- What `checkproof` answers.
--   Finding                  of a point: the offset of its token; of an assertion whether it is listed, of a loop's head nothing
--   place_text place         LINE:COLUMN
--   finding_text text f      the line that tells the finding of a point of the text: that the assertion holds, or is open; nothing of a loop's head
--   Judgement                what is said of a certificate: an operation that forms the program's transitions passes a limit or is too wide; CERT has a fault; it is
--                            valid, with what was found at each point; an identity fails, is too long, or too wide
--   judgement_answer text j    the answer to it, for a program with this text
--   certificate_refusal f    that to the first fault of CERT
use Rattle.std.specs.Prelude.{ℕ, ◌++◌, Bool, true, false, List, [], Option, Some, None, codes, decimal}
use Rattle.std.specs.List.{flat_map}
use Rattle.poly_text.specs.Reasons.{limit, wide}
use Rattle.cert_form.specs.Form as form
use Rattle.program_text.specs.Places.{place_of}
use Rattle.io_edge.specs.declared.answer.Status.TheVariants as status
use Rattle.io_edge.specs.Texts.{Answer, line, with_text, answer}
use Rattle.checkproof_command.specs.Sources.{program_refusal}

pub record Finding : Type 0 where
  pub at : ℕ
  pub listed : Option Bool

-- transitions and elements count from 0
pub data Judgement : Type 0 where
  forming_limit : (at : ℕ) → Judgement
  forming_wide : (at : ℕ) → Judgement
  certificate_fault : form.Fault → Judgement
  valid : List Finding → Judgement
  failure : (transition element : ℕ) → Judgement
  long_identity : (transition element : ℕ) → Judgement
  wide_identity : (transition element : ℕ) → Judgement

abbrev pub place_text : ℕ × ℕ → List ℕ
place_text place = decimal place.0 ++ codes ":" ++ decimal place.1

abbrev pub listed_text : Bool → List ℕ
listed_text true = codes "holds"
listed_text false = codes "open"

abbrev pub told_text : List ℕ → Option Bool → List ℕ
told_text place None = []
told_text place (Some b) = line (place ++ codes ": " ++ listed_text b)

abbrev pub finding_text : List ℕ → Finding → List ℕ
finding_text text f = told_text (place_text (place_of text f.at)) f.listed

abbrev pub step_path : ℕ → ℕ → List ℕ
step_path j i = codes "/steps/" ++ decimal j ++ codes "/" ++ decimal i

abbrev pub certificate_refusal : form.Fault → Answer
certificate_refusal form.not_json = answer status.Fault (codes "certificate: not json")
certificate_refusal (form.shape path) = answer status.Fault (codes "certificate: shape at " ++ path)
certificate_refusal (form.polynomial path) =
    answer status.Fault (codes "certificate: polynomial at " ++ path)

abbrev pub judgement_answer : List ℕ → Judgement → Answer
judgement_answer text (forming_limit at) = program_refusal (record { reason = limit; at = at })
judgement_answer text (forming_wide at) = program_refusal (record { reason = wide; at = at })
judgement_answer text (certificate_fault fault) = certificate_refusal fault
judgement_answer text (valid fs) =
    with_text status.Yes (line (codes "valid") ++ flat_map (finding_text text) fs)
judgement_answer text (failure j i) = answer status.No (codes "fails: " ++ step_path j i)
judgement_answer text (long_identity j i) = answer status.Fault (codes "limit: " ++ step_path j i)
judgement_answer text (wide_identity j i) = answer status.Wide (codes "wide: " ++ step_path j i)
