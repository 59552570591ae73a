-- Values of commands on certificates as the definitions see them.
--   view request          what is asked for
--   fault_of e            the fault of a certificate; none where memory failed
use Rattle.std.specs.Prelude.{Option, Some, None, string_bytes}
use Rattle.cert_form.specs.declared.error.CertError.{CertError}
use Rattle.cert_form.specs.declared.error.CertError.TheVariants as cert_error
use Rattle.cert_form.specs.Form as form
use Rattle.certificate_commands.specs.declared.certificate_arguments.Request as made
use Rattle.certificate_commands.specs.CertificateArguments.{Request}

abbrev pub view : made.Request → Request
view request = record {
  file = string_bytes request.file.now;
  certificate = string_bytes request.certificate.now;
}

abbrev pub fault_of : CertError → Option form.Fault
fault_of cert_error.NotJson = Some form.not_json
fault_of (cert_error.Shape path) = Some (form.shape (string_bytes path))
fault_of (cert_error.Poly path) = Some (form.polynomial (string_bytes path))
fault_of cert_error.Memory = None
