-- What a user takes away of `checkfull`, over the bytes of both files.
--   ShowsComplete text certificate said     `complete` is said; the bytes are a loop and a full certificate of it all parts of which hold, and aren't too long, and its polynomials generate the invariants: each of them is one, and each invariant is a sum of products with them
use Rattle.std.specs.Prelude.{◌≡◌, ℕ, List, length, codes}
use Rattle.loops.specs.Inv.{Inv}
use Rattle.loops.specs.Program.{Expr, Program}
use Rattle.rounds.specs.Generate.{Generates}
use Rattle.corollaries.specs.Full.{FullCertificate}
use Rattle.corollaries.specs.Parts.{AllHold}
use Rattle.full_cert.specs.Form.{full_in}
use Rattle.certificate_commands.specs.CertificateAsking.{IsQuestion}
use Rattle.certificate_commands.specs.CheckfullJudging.{FitsLimit}

pub record ShowsComplete (text certificate said : List ℕ) : Type 0 where
  pub says : said ≡ codes "complete\n"
  pub loop : Program (Expr ℕ)
  pub listed : FullCertificate
  pub question : IsQuestion full_in text certificate loop listed
  pub holds : AllHold loop listed
  pub short : FitsLimit loop listed
  pub generates : Generates (length loop.names) listed.basis (Inv loop)
