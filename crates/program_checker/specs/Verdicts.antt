-- What the checker's answer is seen as.
--   verdict_of v        the verdict of a certificate
--   AreShort g c v      the identities of the transitions that v has looked at aren't too long: of all, or up to the one that fails
use Rattle.std.specs.Prelude.{ℕ, ◌<◌, ◌≤◌, length}
use Rattle.flows.specs.Certificate as certificate
use Rattle.program_checker.specs.Refusals.{ShortStep}
use Rattle.program_model.specs.declared.graph.Graph.{Graph}
use Rattle.program_checker.specs.declared.cert.ProgramCert.{ProgramCert}
use Rattle.program_checker.specs.declared.Verdict.{Verdict}
use Rattle.program_checker.specs.declared.Verdict.TheVariants.{Valid, Fails}

abbrev pub verdict_of : Verdict → certificate.Verdict
verdict_of Valid = certificate.valid
verdict_of (Fails j i) = certificate.step_fails j i

abbrev pub AreShort : Graph → ProgramCert → Verdict → Type 0
AreShort g c Valid = (j : ℕ) → j < length g.transitions.items → ShortStep g c j
AreShort g c (Fails j i) = (a : ℕ) → a ≤ j → ShortStep g c a
