-- The course of `checkproof`: PROGRAM is read, then CERT, and the answer is to what CERT is for the program.
use Rattle.io_edge.specs.Course.{Course, reads, silent}
use Rattle.checkproof_command.specs.Arguments.{Request, certificate_at}
use Rattle.checkproof_command.specs.Sources.{with_program}
use Rattle.checkproof_command.specs.Judging.{Judges}

abbrev pub course : Request → Course
course request =
    with_program request.file (λ s. reads (certificate_at request.certificate)
    (λ bytes. silent (λ a. Judges s bytes a)))
