-- The values of `checkfull` as the definitions see them.
--   judgement_in v          what the verdict says;  judgement_of e: what stopped the judge; none where memory failed
use Rattle.std.specs.Prelude.{Option, Some, None, string_bytes}
use Rattle.loop_model.specs.declared.map_error.MapError.TheVariants as map_error
use Rattle.cert_checker.specs.declared.full_verdict.FullVerdict.{FullVerdict}
use Rattle.cert_checker.specs.declared.full_verdict.FullVerdict.TheVariants as verdict
use Rattle.cert_checker.specs.declared.full_error.FullError.{FullError}
use Rattle.cert_checker.specs.declared.full_error.FullError.TheVariants as full_error
use Rattle.certificate_commands.specs.CheckfullTexts.{Judgement, complete, fails, map_limit, map_wide, limit_part, wide_part}

abbrev pub judgement_in : FullVerdict → Judgement
judgement_in verdict.Complete = complete
judgement_in (verdict.Fails path) = fails (string_bytes path)

abbrev pub judgement_of : FullError → Option Judgement
judgement_of (full_error.Map (map_error.Limit at)) = Some (map_limit at)
judgement_of (full_error.Map (map_error.Wide at)) = Some (map_wide at)
judgement_of (full_error.Map map_error.Memory) = None
judgement_of (full_error.Limit path) = Some (limit_part (string_bytes path))
judgement_of (full_error.Wide path) = Some (wide_part (string_bytes path))
judgement_of full_error.Memory = None
