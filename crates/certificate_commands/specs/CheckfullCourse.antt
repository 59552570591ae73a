-- The course of `checkfull`: LOOP is read, then CERT, and the answer is to what CERT is for the loop.
use Rattle.io_edge.specs.Course.{Course}
use Rattle.certificate_commands.specs.CertificateArguments.{Request}
use Rattle.certificate_commands.specs.CertificateAsking.{certificate_course}
use Rattle.full_cert.specs.Form.{full_in}
use Rattle.certificate_commands.specs.CheckfullJudging.{Judges}
use Rattle.certificate_commands.specs.CheckfullArguments.{most_certificate_bytes}

abbrev pub course : Request → Course
course request = certificate_course full_in Judges most_certificate_bytes request
