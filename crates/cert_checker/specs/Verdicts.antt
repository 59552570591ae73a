-- What the judge's answer is seen as.
--   IsFailing path v         v is that the part with this path doesn't hold
--   IsVerdictOf program c v      v is complete, and all parts of c hold, or v has the path of the first part that doesn't
use Rattle.std.specs.Prelude.{◌≡◌, ℕ, List, string_bytes}
use Rattle.loops.specs.Program.{Expr, Program}
use Rattle.corollaries.specs.Full.{FullCertificate}
use Rattle.corollaries.specs.Parts.{Part, AllHold, IsFirst}
use Rattle.cert_checker.specs.Paths.{path_of}
use Rattle.cert_checker.specs.declared.full_verdict.FullVerdict.{FullVerdict}
use Rattle.cert_checker.specs.declared.full_verdict.FullVerdict.TheVariants.{Complete, Fails}

abbrev pub IsVerdictOf : {At : Type 0} → Program (Expr At) → FullCertificate → FullVerdict → Type 0
IsVerdictOf program c Complete = AllHold program c
IsVerdictOf program c (Fails path) =
    (part : Part) × (path_of part ≡ string_bytes path) × IsFirst program c part

abbrev pub IsFailing : List ℕ → FullVerdict → Type 0
IsFailing path Complete = ⊥
IsFailing path (Fails at) = string_bytes at ≡ path
