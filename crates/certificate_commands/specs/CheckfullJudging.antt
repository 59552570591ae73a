-- How `checkfull` answers a full certificate of a loop.
--   FailsFirst l c path       the part with this path is the first that doesn't hold
--   FitsLimit l c             where the certificate itself is valid, the parts behind it together aren't too long
--   IsJudgement l c j         where each judgement of the full certificate c may come
--   IsShort l c               no part of it is refused as too long
--   Judges l c a              the answer a tells a judgement of it
use Rattle.std.specs.Prelude.{◌≡◌, ℕ, List, length}
use Rattle.loops.specs.Inv.{Inv}
use Rattle.loops.specs.Program.{Expr, Program}
use Rattle.rounds.specs.Generate.{Generates}
use Rattle.loop_model.specs.Operations.{IsLimit, IsWide as IsWideOperation}
use Rattle.loop_model.specs.Maps.{maps_operations, AreFree}
use Rattle.loops.specs.Certificate.{IsValid}
use Rattle.corollaries.specs.Full.{FullCertificate, certificate}
use Rattle.corollaries.specs.Parts.{Part, AllHold, IsFirst}
use Rattle.cert_checker.specs.Paths.{path_of}
use Rattle.cert_checker.specs.FullWide.{IsLong, IsWide}
use Rattle.cert_checker.specs.LongParts.{AreFew}
use Rattle.io_edge.specs.Texts.{Answer}
use Rattle.certificate_commands.specs.CheckfullTexts.{Judgement, complete, fails, map_limit, map_wide, limit_part, wide_part, judgement_answer}

abbrev pub FailsFirst : Program (Expr ℕ) → FullCertificate → List ℕ → Type 0
FailsFirst l c path = (part : Part) × (path_of part ≡ path) × IsFirst l c part

abbrev pub FitsLimit : Program (Expr ℕ) → FullCertificate → Type 0
FitsLimit l c = IsValid l (certificate c) → AreFew l c

abbrev pub IsJudgement : Program (Expr ℕ) → FullCertificate → Judgement → Type 0
IsJudgement l c complete =
    AreFree l × AllHold l c × Generates (length l.names) c.basis (Inv l) × FitsLimit l c
IsJudgement l c (fails path) = AreFree l × FailsFirst l c path × FitsLimit l c
IsJudgement l c (map_limit at) = IsLimit (length l.names) (maps_operations l) at
IsJudgement l c (map_wide at) = IsWideOperation (length l.names) (maps_operations l) at
IsJudgement l c (limit_part path) = AreFree l × IsLong l c path
IsJudgement l c (wide_part path) = AreFree l × IsWide l c path

abbrev pub IsShort : Program (Expr ℕ) → FullCertificate → Type 0
IsShort l c = (path : List ℕ) → ¬ (IsLong l c path)

pub record Judges (l : Program (Expr ℕ)) (c : FullCertificate) (a : Answer) : Type 0 where
  pub judgement : Judgement
  pub is : IsJudgement l c judgement
  pub says : a ≡ judgement_answer judgement
