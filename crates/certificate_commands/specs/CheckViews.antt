-- The values of `check` as the definitions see them.
--   judgement_of e          what stopped the checker; none where memory failed
use Rattle.std.specs.Prelude.{Option, Some, None}
use Rattle.loop_model.specs.declared.map_error.MapError.TheVariants as map_error
use Rattle.cert_checker.specs.Views.{place_view}
use Rattle.cert_checker.specs.declared.error.CheckError.{CheckError}
use Rattle.cert_checker.specs.declared.error.CheckError.TheVariants as check_error
use Rattle.certificate_commands.specs.CheckTexts.{Judgement, map_limit, map_wide, limit_identity, wide_identity}

abbrev pub judgement_of : CheckError → Option Judgement
judgement_of (check_error.Map (map_error.Limit at)) = Some (map_limit at)
judgement_of (check_error.Map (map_error.Wide at)) = Some (map_wide at)
judgement_of (check_error.Map map_error.Memory) = None
judgement_of (check_error.Limit place i) = Some (limit_identity (place_view place) i)
judgement_of (check_error.Wide place i) = Some (wide_identity (place_view place) i)
judgement_of check_error.Memory = None
