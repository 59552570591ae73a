-- What the judge says of a full certificate that was read.
--   verdict_said      a verdict on it answers `checkfull`
--   refused_said      a refusal of the judge answers `checkfull`
use Rattle.std.proofs.Common.{◌≡◌, ℕ, List, length, refl, sym, subst, Ok}
use Rattle.std.specs.Prelude.{Some, option_map, string_bytes}
use Rattle.loops.specs.Inv.{Inv}
use Rattle.loops.specs.Program.{Expr, Program}
use Rattle.rounds.specs.Generate.{Generates}
use Rattle.corollaries.specs.Full.{FullCertificate}
use Rattle.loop_model.specs.declared.map_error.MapError.TheVariants as map_error
use Rattle.loop_model.specs.Maps.{AreFree}
use Rattle.full_cert.specs.Form.{full_in}
use Rattle.cert_checker.specs.Verdicts.{IsVerdictOf}
use Rattle.cert_checker.specs.FullWide.{IfFullCheckRefused}
use Rattle.cert_checker.specs.declared.full_verdict.FullVerdict.{FullVerdict}
use Rattle.cert_checker.specs.declared.full_verdict.FullVerdict.TheVariants.{Complete, Fails}
use Rattle.cert_checker.specs.declared.full_error.FullError.{FullError}
use Rattle.cert_checker.specs.declared.full_error.FullError.TheVariants as full_error
use Rattle.io_edge.specs.Texts.{Answer}
use Rattle.certificate_commands.specs.CertificateAsking.{AnswersCertificate}
use Rattle.certificate_commands.specs.CheckfullTexts.{Judgement, complete, fails, map_limit, map_wide, limit_part, wide_part, judgement_answer}
use Rattle.certificate_commands.specs.CheckfullViews.{judgement_in, judgement_of}
use Rattle.certificate_commands.specs.CheckfullJudging.{FitsLimit, IsJudgement, Judges}

-- the bytes of CERT were read as this full certificate of the loop
module _ (l : Program (Expr ℕ)) (bytes : List ℕ) (c : FullCertificate) (a : Answer)
    (read : full_in l bytes ≡ Ok c) where
  judged_said : (j : Judgement) → IsJudgement l c j → a ≡ judgement_answer j
      → AnswersCertificate Judges l (full_in l bytes) a
  judged_said j is says = subst (λ r. AnswersCertificate Judges l r a) (sym read)
      (record { judgement = j; is = is; says = says })

  pub verdict_said : (v : FullVerdict) → AreFree l → IsVerdictOf l c v
      → (v ≡ Complete → Generates (length l.names) c.basis (Inv l)) → FitsLimit l c
      → a ≡ judgement_answer (judgement_in v) → AnswersCertificate Judges l (full_in l bytes) a
  verdict_said Complete free is generates fits says =
      judged_said complete (free, is, generates refl, fits) says
  verdict_said (Fails path) free is generates fits says =
      judged_said (fails (string_bytes path)) (free, is, fits) says

  pub refused_said : (e : FullError) → IfFullCheckRefused l c e
      → option_map judgement_answer (judgement_of e) ≡ Some a
      → AnswersCertificate Judges l (full_in l bytes) a
  refused_said (full_error.Map (map_error.Limit at)) cause says = judged_said (map_limit at) cause
      (cc)
  refused_said (full_error.Map (map_error.Wide at)) cause says = judged_said (map_wide at) cause
      (cc)
  refused_said (full_error.Map map_error.Memory) cause says = absurd (cc)
  refused_said (full_error.Limit path) cause says =
      judged_said (limit_part (string_bytes path)) cause (cc)
  refused_said (full_error.Wide path) cause says =
      judged_said (wide_part (string_bytes path)) cause (cc)
  refused_said full_error.Memory cause says = absurd (cc)
