-- What the answers of a replay say. Nothing is said where memory failed.
--   numbers_of xs           the numbers of a state
--   fault_of e              the fault
--   IsWithin m e            the variable or the local name that it names is one of m
--   seen_start result       the fault of the start; none where it holds
--   seen_state result       the state's numbers, or the fault
--   states_or_fault result             the states' numbers, or the fault
use Rattle.std.specs.Prelude.{ℕ, ◌<◌, ⊤, List, map, Option, Some, None, Result, Ok, Err, option_map}
use Rattle.std.specs.Global.{Vec}
use Rattle.algebra.specs.Fraction.{Fraction}
use Rattle.frac128.specs.declared.fraction.Frac.{Frac}
use Rattle.frac128.specs.FracMeaning.{fraction_of}
use Rattle.loop_runs.specs.Replay as spec
use Rattle.loop_runs.specs.Replay.{RunFault}
use Rattle.loop_runs.specs.declared.error.RunError.{RunError}
use Rattle.loop_runs.specs.declared.error.RunError.TheVariants.{Count, Start, NoBranch, Wide, Memory}

abbrev pub numbers_of : List Frac → List Fraction
numbers_of xs = map fraction_of xs

abbrev pub fault_of : RunError → Option RunFault
fault_of (Count values variables) = Some (spec.count values variables)
fault_of (Start var) = Some (spec.start var)
fault_of (NoBranch index) = Some (spec.no_branch index)
fault_of (Wide step var) = Some (spec.wide step var)
fault_of Memory = None

abbrev pub IsWithin : ℕ → RunError → Type 0
IsWithin m (Count values variables) = ⊤
IsWithin m (Start var) = var < m
IsWithin m (NoBranch index) = ⊤
IsWithin m (Wide step var) = var < m
IsWithin m Memory = ⊤

abbrev pub seen_start : {A : Type 0} → Result A RunError → Option RunFault
seen_start (Ok x) = None
seen_start (Err e) = fault_of e

abbrev pub seen_state : Result (Vec Frac) RunError → Option (Result (List Fraction) RunFault)
seen_state (Ok state) = Some (Ok (numbers_of state.items))
seen_state (Err e) = option_map Err (fault_of e)

abbrev pub states_or_fault : Result (Vec (Vec Frac)) RunError
    → Option (Result (List (List Fraction)) RunFault)
states_or_fault (Ok states) = Some (Ok (map (λ s. numbers_of s.items) states.items))
states_or_fault (Err e) = option_map Err (fault_of e)
