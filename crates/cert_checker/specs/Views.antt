-- What the checker's answer is seen as.
--   verdict_of v     the verdict of a certificate;  place_view p: the place of an identity
use Rattle.loops.specs.Certificate as certificate
use Rattle.cert_checker.specs.Places.{Place, at_start, in_branch}
use Rattle.cert_checker.specs.declared.Verdict.{Verdict}
use Rattle.cert_checker.specs.declared.Verdict.TheVariants.{Valid, StartFails, StepFails}
use Rattle.cert_checker.specs.declared.error.Place as declared
use Rattle.cert_checker.specs.declared.error.Place.TheVariants.{Start, Branch}

abbrev pub verdict_of : Verdict → certificate.Verdict
verdict_of Valid = certificate.valid
verdict_of (StartFails i) = certificate.start_fails i
verdict_of (StepFails b i) = certificate.step_fails b i

abbrev pub place_view : declared.Place → Place
place_view Start = at_start
place_view (Branch b) = in_branch b
