-- What a user takes away of `full`, over the bytes of the file.
--   ShowsFull text said     the bytes are a loop, and a full certificate of it is said, all parts of which hold; its polynomials are the reduced basis of the loop's invariants and
--                           generate them all; what is said is read as this certificate
use Rattle.std.specs.Prelude.{◌≡◌, ℕ, List, length, Ok}
use Rattle.loops.specs.Inv.{Inv}
use Rattle.loops.specs.Program.{Expr, Program}
use Rattle.rounds.specs.Generate.{Generates}
use Rattle.loop_text.specs.LoopReader.{loop_of}
use Rattle.corollaries.specs.Full.{FullCertificate}
use Rattle.corollaries.specs.Parts.{AllHold}
use Rattle.full_cert.specs.Form.{full_in}
use Rattle.analysis_commands.specs.Headline.{IsBasisOf}
use Rattle.certificate_commands.specs.FullTexts.{certificate_answer}

pub record ShowsFull (text said : List ℕ) : Type 0 where
  pub loop : Program (Expr ℕ)
  pub is_loop : loop_of text ≡ Ok loop
  pub certificate : FullCertificate
  pub holds : AllHold loop certificate
  pub is_basis : IsBasisOf loop certificate.basis
  pub generates : Generates (length loop.names) certificate.basis (Inv loop)
  pub says : said ≡ (certificate_answer loop.names certificate).text
  pub reads_back : full_in loop said ≡ Ok certificate
