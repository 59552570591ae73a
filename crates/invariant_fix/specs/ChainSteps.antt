-- What the analysis of one loop of a chain gives.
--   HasList program firsts most left m gs    the journal m is that of the finished analysis of the program from the list firsts, or from its starts, with so many units, which ended with the gs; they are at most `most`, and the units
--   MappedFrom program code before budget m P    the code has made a list of the elements before; so many units of the budget are left, which is what m allows; P holds of these
--   HasStage program code bs before budget m gs     the code and the loop with the branches bs are formed, and m is the journal of the finished analysis of the loop from what the code has made, which ended with the gs
--   IsRefusedStage program code bs before budget m e    what the refusal e tells of these, and of the journal m
use Rattle.std.specs.Prelude.{◌≡◌, ◌⊎◌, ℕ, ◌+◌, ◌≤◌, List, [], ◌++◌, length, Option, Some, None}
use Rattle.algebra.specs.Fraction.{Fraction}
use Rattle.polynomials.specs.Terms.{Terms}
use Rattle.machines.specs.Journal.{Entry, Journal, units_of}
use Rattle.loops.specs.Program.{Expr, Program, Statement}
use Rattle.poly.specs.Seen.{terms_each}
use Rattle.loop_model.specs.FracPoly.{FracPoly}
use Rattle.loop_model.specs.Operations.{Operation, IsFree}
use Rattle.ideal_ops.specs.Calls.{AreOver}
use Rattle.journal.specs.View as view
use Rattle.rounds.specs.Journal.{IsFinishedBy, IsFinishedFrom, IsOutFrom}
use Rattle.corollaries.specs.Between.{IsMapped, IsExhaustedLeading, IsPastLeading, HasMapped}
use Rattle.loops.specs.Chain.{loop_of}
use Rattle.corollaries.specs.CodeBetween.{copies}
use Rattle.loop_model.specs.Maps.{maps_operations}
use Rattle.invariant_fix.specs.Refusals.{AllHaveForms, IfUnformedBy, HasLongFrom, HasStoppedFrom, HasFollowedFrom}
use Rattle.invariant_fix.specs.declared.errors.AnalyseError.TheVariants as error
use Rattle.invariant_fix.specs.Bases.{empty_journal, code_operations}
use Rattle.invariant_fix.specs.declared.refused.LoopError.{LoopError}
use Rattle.invariant_fix.specs.declared.refused.LoopError.TheVariants.{Analysis, Between}

pub record HasList (program : Program (Expr ℕ)) (firsts : Option (List (Terms Fraction)))
    (most left : ℕ) (m : Journal) (gs : List FracPoly) : Type 0 where
  pub rounds : ℕ
  pub finished : IsFinishedBy program firsts m.entries rounds (terms_each gs)
  pub units : units_of m.entries ≤ left
  pub over : AreOver (length program.names) gs
  pub few : length gs ≤ most + left

module _ (program : Program (Expr ℕ)) (code : List (Statement (Expr ℕ)))
    (bs : List (List (Statement (Expr ℕ)))) (before : List FracPoly) (budget : ℕ)
    (m : Journal) where
  abbrev pub stage_operations : List Operation
  stage_operations = code_operations program code ++ maps_operations (loop_of program bs)

  abbrev pub IsFormedStage : Type 0
  IsFormedStage = IsFree (length program.names) stage_operations × AllHaveForms (loop_of program bs)

  pub record MappedFrom (P : ℕ → List (Terms Fraction) → Type 0) : Type 0 where
    pub entries : List Entry
    pub list : List (Terms Fraction)
    pub mapped : IsMapped program code (terms_each before) entries list
    pub left : ℕ
    pub units : units_of entries + left ≡ budget
    pub limit : m.limit ≡ left
    pub so : P left list

  pub record HasStage (gs : List FracPoly) : Type 0 where
    pub formed : IsFormedStage
    pub rounds : ℕ
    pub done : MappedFrom (λ left list. IsFinishedFrom (loop_of program bs) list m.entries rounds
        (terms_each gs) × (units_of m.entries ≤ left))
    pub over : AreOver (length program.names) gs
    pub few : length gs ≤ length before + copies (length program.names) code + budget

  abbrev pub HasWorkedStage : Type 0
  HasWorkedStage =
      MappedFrom (λ left list. HasFollowedFrom (loop_of program bs) (Some list) m.entries)
      ⊎ ((m.limit ≡ budget) × ((m.entries ≡ [])
      ⊎ HasMapped program code (terms_each before) m.entries))

  abbrev pub IsRefusedStage : LoopError → Type 0
  IsRefusedStage (Analysis (error.Map e)) =
      (m ≡ empty_journal budget) × IfUnformedBy (loop_of program bs) stage_operations (error.Map e)
  IsRefusedStage (Analysis (error.Branch b e)) =
      (m ≡ empty_journal budget) × IfUnformedBy (loop_of program bs) stage_operations
      (error.Branch b e)
  IsRefusedStage (Analysis (error.Limit task)) =
      IsFormedStage × MappedFrom (λ left list. HasLongFrom (loop_of program bs) (Some list)
      (view.task_of task) m.entries)
  IsRefusedStage (Analysis (error.Wide task)) =
      IsFormedStage × MappedFrom (λ left list. HasStoppedFrom (loop_of program bs) (Some list)
      (view.task_of task) m.entries)
  IsRefusedStage (Analysis error.Budget) =
      IsFormedStage
      × (MappedFrom (λ left list. IsOutFrom (loop_of program bs) (Some list) None left m.entries)
      ⊎ ((m.limit ≡ budget) × IsExhaustedLeading program code (terms_each before) budget m.entries))
  IsRefusedStage (Analysis error.Memory) = HasWorkedStage
  IsRefusedStage Between =
      IsFormedStage
      × ((m.limit ≡ budget) × IsPastLeading program code (terms_each before) m.entries)
