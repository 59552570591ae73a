-- What an analysis gives, over the program.
--   certificate_of a       its basis with the cofactors of its closing divisions
--   AreShortFrom program given es      no task that the es come to, from what is given, is too long
--   IsClosedByFrom program given a es      the es follow the program from what is given to the end of the analysis, with the rounds and the basis of a, no task on the way is too long, and the steps of a are the
--                                cofactors of its closing divisions;  IsClosedBy program a es: from its starts
--   IsLeastLevel program k       the invariants of level k are all, and those of no level before
use Rattle.std.specs.Prelude.{◌≡◌, ℕ, ◌<◌, ◌↔◌, List, ◌++◌, Option, None}
use Rattle.algebra.specs.Fraction.{Fraction}
use Rattle.polynomials.specs.Terms.{Terms}
use Rattle.machines.specs.Journal.{Entry}
use Rattle.loops.specs.Certificate.{Certificate}
use Rattle.loops.specs.Inv.{Inv}
use Rattle.loops.specs.Program.{Expr, Program}
use Rattle.rounds.specs.Analysis.{State}
use Rattle.rounds.specs.Journal.{setting_from, FollowsFrom, IsFinishedBy}
use Rattle.rounds.specs.Level.{InvAt}
use Rattle.poly.specs.Seen.{terms_each}
use Rattle.invariant_fix.specs.Closing.{seen_steps, AreSteps}
use Rattle.invariant_fix.specs.Long.{IsLong}
use Rattle.invariant_fix.specs.declared.found.Analysis.{Analysis}

abbrev pub certificate_of : Analysis → Certificate
certificate_of a = record { basis = terms_each a.basis.items; steps = seen_steps a.steps.items }

module _ (program : Program (Expr ℕ)) where
  abbrev pub AreShortFrom : Option (List (Terms Fraction)) → List Entry → Type 0
  AreShortFrom given es = (fs gs : List Entry) (s : State) → es ≡ fs ++ gs
      → (f : FollowsFrom program given None fs s)
      → IsLong (setting_from program given f.forms None) s → ⊥

  pub record IsClosedByFrom (given : Option (List (Terms Fraction))) (a : Analysis)
      (es : List Entry) : Type 0 where
    pub finished : IsFinishedBy program given es a.rounds (terms_each a.basis.items)
    pub steps : AreSteps (setting_from program given finished.follows.forms None)
        (terms_each a.basis.items) (seen_steps a.steps.items)
    pub short : AreShortFrom given es

  abbrev pub IsClosedBy : Analysis → List Entry → Type 0
  IsClosedBy a es = IsClosedByFrom None a es

  pub record IsLeastLevel (k : ℕ) : Type 0 where
    pub all : (p : Terms Fraction) → InvAt program k p ↔ Inv program p
    pub least : (j : ℕ) → j < k → ((p : Terms Fraction) → InvAt program j p → Inv program p) → ⊥
