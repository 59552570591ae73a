-- What a call of the engine answered, as data.
--   refusal_of e      why it gave no answer
--   outcome_of r      its result
use Rattle.std.specs.Prelude.{Result, Ok, Err}
use Rattle.machines.specs.Machine.{Refusal, Outcome, too_wide, out_of_units, out_of_memory, done, stopped}
use Rattle.divide.specs.declared.EngineError.{EngineError}
use Rattle.divide.specs.declared.EngineError.TheVariants.{Wide, Budget, Memory}

abbrev pub refusal_of : EngineError → Refusal
refusal_of Wide = too_wide
refusal_of Budget = out_of_units
refusal_of Memory = out_of_memory

abbrev pub outcome_of : {A : Type 0} → Result A EngineError → Outcome A
outcome_of (Ok a) = done a
outcome_of (Err e) = stopped (refusal_of e)
