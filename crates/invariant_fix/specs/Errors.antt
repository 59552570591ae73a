-- How refusals of the layers below are passed on.
--   of_meter e         a meter's
--   in_task task e     a computation's with ideals, in a task
use Rattle.journal.specs.declared.MeterError as meter
use Rattle.journal.specs.declared.MeterError.TheVariants as meter_error
use Rattle.journal.specs.declared.Task.{Task}
use Rattle.divide.specs.declared.EngineError as engine
use Rattle.divide.specs.declared.EngineError.TheVariants as engine_error
use Rattle.invariant_fix.specs.declared.errors.AnalyseError.{AnalyseError}
use Rattle.invariant_fix.specs.declared.errors.AnalyseError.TheVariants.{Wide, Budget, Memory}

abbrev pub of_meter : meter.MeterError → AnalyseError
of_meter meter_error.Budget = Budget
of_meter meter_error.Memory = Memory

abbrev pub in_task : Task → engine.EngineError → AnalyseError
in_task task engine_error.Wide = Wide task
in_task task engine_error.Budget = Budget
in_task task engine_error.Memory = Memory
