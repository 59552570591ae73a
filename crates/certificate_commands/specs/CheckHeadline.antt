-- What a user takes away of `check`, over the bytes of both files.
--   ShowsValid text certificate said     `valid` is said; the bytes are a loop and a certificate of it, the certificate's identities hold, none of them is too long, and each of its polynomials is zero at the end of every run of the loop
use Rattle.std.specs.Prelude.{◌≡◌, ◌<◌, ℕ, List, length, codes}
use Rattle.loops.specs.Certificate.{Certificate, valid, IsValid, element}
use Rattle.loops.specs.Inv.{Inv}
use Rattle.loops.specs.Program.{Expr, Program}
use Rattle.certificate_commands.specs.CertificateAsking.{IsQuestion}
use Rattle.certificate_commands.specs.CheckJudging.{FitsLimit, certificate_in}

pub record ShowsValid (text certificate said : List ℕ) : Type 0 where
  pub says : said ≡ codes "valid\n"
  pub loop : Program (Expr ℕ)
  pub listed : Certificate
  pub question : IsQuestion certificate_in text certificate loop listed
  pub identities : IsValid loop listed
  pub short : FitsLimit loop listed valid
  pub invariants : (i : ℕ) → i < length listed.basis → Inv loop (element listed i)
