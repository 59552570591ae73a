-- A task of a closing: its beginning, and a call of the engine.
--   IsRefused task before after r     the task can't begin: it is a unit, and the units equal the limit, or there is no memory; nothing is noted
--   RanTask task M G before after o   the task begins, and the call has run M, whose last state gives the answer (G); or it can't begin
--   IsExtendedList gs s               the gs are the list of the state s
--   in_task w e                       the refusal e of a task of the candidate with the word w
use Rattle.std.specs.Prelude.{◌≡◌, ◌⊎◌, true, ℕ}
use Rattle.machines.specs.Journal.{Journal, Task, Begin, begins_unit, units_of}
use Rattle.machines.specs.Machine.{Machine, Refusal, Outcome, out_of_units, out_of_memory, too_wide, done, stopped, Ran}
use Rattle.machines.specs.Elimination as elimination
use Rattle.algebra.specs.Fraction.{Fraction}
use Rattle.polynomials.specs.Order.{grevlex}
use Rattle.std.specs.Global.{Vec}
use Rattle.divide.specs.declared.EngineError.{EngineError}
use Rattle.divide.specs.declared.EngineError.TheVariants as engine
use Rattle.loop_model.specs.FracPoly.{FracPoly}
use Rattle.journal.specs.View.{with_entry}
use Rattle.poly.specs.Seen.{terms_each}
use Rattle.closing.specs.declared.error.ClosingError.{ClosingError}
use Rattle.closing.specs.declared.error.ClosingError.TheVariants.{Wide, Budget, Memory}

abbrev pub IsRefused : Task → Journal → Journal → Refusal → Type 0
IsRefused task before after too_wide = ⊥
IsRefused task before after out_of_units =
    (after ≡ before) × (begins_unit task ≡ true) × (units_of before.entries ≡ before.limit)
IsRefused task before after out_of_memory = after ≡ before

abbrev pub IsRefusedAs : {A : Type 0} → Task → Journal → Journal → Outcome A → Type 0
IsRefusedAs task before after (done a) = ⊥
IsRefusedAs task before after (stopped r) = IsRefused task before after r

abbrev pub RanTask : {S A : Type 0} → Task → (M : Machine S) → (A → S → Type 0) → Journal → Journal
    → Outcome A → Type 0
RanTask task M G before after o =
    IsRefusedAs task before after o ⊎ Ran M G (with_entry before (Begin task)) after o

abbrev pub IsExtendedList : Vec FracPoly → elimination.State Fraction → Type 0
IsExtendedList gs s = terms_each gs.items ≡ elimination.list_of grevlex (λ hs. hs) s

abbrev pub in_task : Vec ℕ → EngineError → ClosingError
in_task w engine.Wide = Wide w
in_task w engine.Budget = Budget
in_task w engine.Memory = Memory
