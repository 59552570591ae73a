-- How refusals of the layers below are passed on.
--   of_meter e                       that of an entry
--   in_ideal e                       that of the completion of a task
--   in_image k e, in_rest m e        those of the divisions of an element's image, and for a monomial
use Rattle.std.specs.Prelude.{ℕ, List}
use Rattle.journal.specs.declared.MeterError as meter
use Rattle.journal.specs.declared.MeterError.TheVariants as meter_error
use Rattle.divide.specs.declared.EngineError.{EngineError}
use Rattle.divide.specs.declared.EngineError.TheVariants as engine
use Rattle.program_families.specs.declared.error.TaskError.{TaskError}
use Rattle.program_families.specs.declared.error.TaskError.TheVariants.{WideIdeal, WideImage, WideRest, Budget, Memory}

abbrev pub of_meter : meter.MeterError → TaskError
of_meter meter_error.Budget = Budget
of_meter meter_error.Memory = Memory

abbrev pub in_ideal : EngineError → TaskError
in_ideal engine.Wide = WideIdeal
in_ideal engine.Budget = Budget
in_ideal engine.Memory = Memory

abbrev pub in_image : ℕ → EngineError → TaskError
in_image k engine.Wide = WideImage k
in_image k engine.Budget = Budget
in_image k engine.Memory = Memory

abbrev pub in_rest : List ℕ → EngineError → TaskError
in_rest m engine.Wide = WideRest m
in_rest m engine.Budget = Budget
in_rest m engine.Memory = Memory
