-- What the checker answers to a map that isn't formed.
--   refused_map e                  its answer to the refusal e of a map
--   IfUnformed m os e              e is one of the operations os, in m variables, that can't be done, with none before it that passes a limit; want of memory is free
use Rattle.std.specs.Prelude.{ℕ, List}
use Rattle.loop_model.specs.Operations.{Operation, IsLimit, IsWide}
use Rattle.loop_model.specs.declared.map_error.MapError.{MapError}
use Rattle.loop_model.specs.declared.map_error.MapError.TheVariants as map_error
use Rattle.cert_checker.specs.declared.error.CheckError.{CheckError}
use Rattle.cert_checker.specs.declared.error.CheckError.TheVariants.{Map, Limit, Wide, Memory}

abbrev pub refused_map : MapError → CheckError
refused_map (map_error.Limit at) = Map (map_error.Limit at)
refused_map (map_error.Wide at) = Map (map_error.Wide at)
refused_map map_error.Memory = Memory

abbrev pub IfUnformed : ℕ → List Operation → CheckError → Type 0
IfUnformed m os (Map (map_error.Limit at)) = IsLimit m os at
IfUnformed m os (Map (map_error.Wide at)) = IsWide m os at
IfUnformed m os (Map map_error.Memory) = ⊥
IfUnformed m os (Limit place i) = ⊥
IfUnformed m os (Wide place i) = ⊥
IfUnformed m os Memory = Unit {0}
