-- Branches that begin late: their forms aren't the state from 0 on, and no trace is of a loop with one.
--   is_late c, BeginsAtZero c      the branch c begins later than at 0, or at 0
--   AllBeginAtZero program         each branch begins at 0
--   IsFirstLate program b          the branch b, which counts from 0, is the first that begins later
--   IfUntraceable program e        what the refusal e tells of the program: a map or a branch is refused, or where none is a branch begins late, or memory is wanting
use Rattle.std.specs.Prelude.{◌≡◌, ◌<◌, ℕ, Bool, nat_lt, List, length}
use Rattle.loops.specs.Program.{Expr, Program}
use Rattle.loop_model.specs.Maps.{AreFree}
use Rattle.rounds.specs.Form.{Form}
use Rattle.rounds.specs.Journal.{AreForms, since_of}
use Rattle.invariant_fix.specs.Refusals.{AllHaveForms, IfUnformedLoop}
use Rattle.invariant_fix.specs.declared.branches.Branch.{Branch}
use Rattle.full_trace.specs.declared.errors.TraceError.{TraceError}
use Rattle.full_trace.specs.declared.errors.TraceError.TheVariants.{Analysis, Late}

abbrev pub is_late : Branch → Bool
is_late c = nat_lt 0 c.form.since

abbrev pub BeginsAtZero : Branch → Type 0
BeginsAtZero c = c.form.since ≡ 0

module _ (program : Program (Expr ℕ)) where
  abbrev pub AllBeginAtZero : Type 0
  AllBeginAtZero = (forms : List Form) → AreForms program forms → (b : ℕ) → since_of forms b ≡ 0

  pub record IsFirstLate (b : ℕ) : Type 0 where
    pub forms : List Form
    pub are_forms : AreForms program forms
    pub within : b < length program.branches
    pub late : 0 < since_of forms b
    pub before : (c : ℕ) → c < b → since_of forms c ≡ 0

  abbrev pub IfUntraceable : TraceError → Type 0
  IfUntraceable (Analysis e) = IfUnformedLoop program e
  IfUntraceable (Late b) = AreFree program × AllHaveForms program × IsFirstLate b
