-- A map that isn't formed, as the refusal of the checker.
--   stops_unformed      where the maps of the branches stop
--   maps_unformed       behind those of the start;  unformed_refused: the refusal of a map as that of a certificate
use Rattle.std.proofs.Common.{ℕ, List, length}
use Rattle.loops.specs.Program.{Expr, Program}
use Rattle.loops.specs.Certificate.{Certificate}
use Rattle.loop_model.specs.Operations.{Operation, IsFree}
use Rattle.loop_model.specs.Stops.{Stops}
use Rattle.loop_model.specs.declared.map_error.MapError.{MapError}
use Rattle.loop_model.specs.declared.map_error.MapError.TheVariants as map_error
use Rattle.loop_model.proofs.OperationLaws.{stops_behind}
use Rattle.loop_model.specs.Maps.{start_operations, branches_operations, maps_operations}
use Rattle.cert_checker.specs.declared.error.CheckError.{CheckError}
use Rattle.cert_checker.specs.declared.error.CheckError.TheVariants.{Map, Limit, Wide, Memory}
use Rattle.cert_checker.specs.Forming.{refused_map, IfUnformed}
use Rattle.cert_checker.specs.Wide.{IfCheckRefused}

pub stops_unformed : (m : ℕ) (os : List Operation) (e : MapError) → Stops m os e
    → IfUnformed m os (refused_map e)
stops_unformed m os (map_error.Limit at) h = h
stops_unformed m os (map_error.Wide at) h = h
stops_unformed m os map_error.Memory h = tt

pub maps_unformed : (program : Program (Expr ℕ)) (e : CheckError)
    → IsFree (length program.names) (start_operations program)
    → IfUnformed (length program.names) (branches_operations program) e
    → IfUnformed (length program.names) (maps_operations program) e
maps_unformed program (Map (map_error.Limit at)) free h = stops_behind (length program.names)
    (start_operations program) (branches_operations program) (map_error.Limit at) free h
maps_unformed program (Map (map_error.Wide at)) free h = stops_behind (length program.names)
    (start_operations program) (branches_operations program) (map_error.Wide at) free h
maps_unformed program (Map map_error.Memory) free h = absurd h
maps_unformed program (Limit place i) free h = absurd h
maps_unformed program (Wide place i) free h = absurd h
maps_unformed program Memory free h = tt

pub unformed_refused : (program : Program (Expr ℕ)) (c : Certificate) (e : CheckError)
    → IfUnformed (length program.names) (maps_operations program) e → IfCheckRefused program c e
unformed_refused program c (Map (map_error.Limit at)) h = h
unformed_refused program c (Map (map_error.Wide at)) h = h
unformed_refused program c (Map map_error.Memory) h = absurd h
unformed_refused program c (Limit place i) h = absurd h
unformed_refused program c (Wide place i) h = absurd h
unformed_refused program c Memory h = tt
