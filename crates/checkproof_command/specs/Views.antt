-- The values of `checkproof` as the definitions see them.
--   view request          what is asked for
--   source_view s         PROGRAM as it was read;  IsSourceOr name files result: it was read so, or refused
--   finding_view f        what was found at a point
--   fault_of e            the fault of a certificate; none where memory failed
--   refusal_of e          the answer to what stopped the checker; none where memory failed
use Rattle.std.specs.Prelude.{ℕ, List, ◌++◌, codes, Option, Some, None, Result, Ok, Err, string_bytes}
use Rattle.cert_form.specs.declared.error.CertError.{CertError}
use Rattle.cert_form.specs.declared.error.CertError.TheVariants as cert_error
use Rattle.cert_form.specs.Form as form
use Rattle.program_model.specs.ProgramView.{program_of}
use Rattle.program_checker.specs.declared.error.CheckError.{CheckError}
use Rattle.program_checker.specs.declared.error.CheckError.TheVariants as check_error
use Rattle.io_edge.specs.declared.answer.Status.TheVariants as status
use Rattle.io_edge.specs.Texts.{Answer, answer}
use Rattle.io_edge.specs.Outside.{FilesView}
use Rattle.io_edge.specs.Change.{Change}
use Rattle.io_edge.specs.Reading.{IsRefusedAt}
use Rattle.io_edge.specs.declared.refusal.Refusal.{Refusal}
use Rattle.checkproof_command.specs.Arguments.{Request}
use Rattle.checkproof_command.specs.Sources.{Source, source_of, program_refusal, program_at, HasReadProgram}
use Rattle.checkproof_command.specs.Texts.{Finding, step_path}
use Rattle.checkproof_command.specs.declared.arguments.Request as made
use Rattle.checkproof_command.specs.declared.sources.Source as made_source
use Rattle.checkproof_command.specs.declared.findings.Finding as made_finding

abbrev pub view : made.Request → Request
view request = record {
  file = string_bytes request.file.now;
  certificate = string_bytes request.certificate.now;
}

abbrev pub source_view : made_source.Source → Source
source_view s = record { text = s.text.items; program = program_of s.program }

abbrev pub IsSourceOr : List ℕ → Change FilesView → Result made_source.Source Refusal → Type 0
IsSourceOr name files (Ok s) = HasReadProgram name (source_view s) files
IsSourceOr name files (Err refusal) =
    IsRefusedAt source_of program_refusal (program_at name) files refusal

abbrev pub finding_view : made_finding.Finding → Finding
finding_view f = record { at = f.at; listed = f.listed }

abbrev pub fault_of : CertError → Option form.Fault
fault_of cert_error.NotJson = Some form.not_json
fault_of (cert_error.Shape path) = Some (form.shape (string_bytes path))
fault_of (cert_error.Poly path) = Some (form.polynomial (string_bytes path))
fault_of cert_error.Memory = None

abbrev pub refusal_of : CheckError → Option Answer
refusal_of (check_error.Limit j i) = Some (answer status.Fault (codes "limit: " ++ step_path j i))
refusal_of (check_error.Wide j i) = Some (answer status.Wide (codes "wide: " ++ step_path j i))
refusal_of check_error.Memory = None
