-- A branch in a round of an analysis, as the code has it.
--   IsInWork w j           w is a branch of a setting that fits, and its list is known to the journal j
--   Awaits w j step, Knows w j gs, KnowsIterations w n j gs, Stops w j e     as of its setting
-- The steps of this branch, with its round and its list:
--   testing w i            the closing test of the element i;  tested w i: the closing tests from the element i on;  opened w: what comes where one fails
--   branching w hs         its first task, where hs is the list so far;  branched w ls: what comes behind the branch, where the list so far is ls then
--   iteration_begins w n ks hs, iteration_ends w n ks hs ls      of one iteration more than n
--   iteration_meets w n hs ks, iteration_met w n hs ks ls        of the meet with it
--   orbiting w hs, orbited w hs ls; meeting w hs ks, met w hs ks ls      of its orbit, and of the meet with that
use Rattle.std.specs.Prelude.{◌<◌, ℕ, suc, List, length}
use Rattle.algebra.specs.Fraction.{Fraction}
use Rattle.polynomials.specs.Terms.{Terms}
use Rattle.machines.specs.Journal.{Journal}
use Rattle.rounds.specs.Analysis.{Step}
use Rattle.poly.specs.Seen.{terms_each}
use Rattle.loop_model.specs.FracPoly.{FracPoly}
use Rattle.invariant_fix.specs.Setting.{FitsSetting}
use Rattle.invariant_fix.specs.Steps as step
use Rattle.invariant_fix.specs.declared.branch_in_work.BranchInWork.{BranchInWork}
use Rattle.invariant_fix.specs.declared.errors.AnalyseError.{AnalyseError}

module _ (w : BranchInWork) where
  abbrev pub Awaits : Journal → Step → Type 0
  Awaits j s = step.Awaits w.setting.now j s

  abbrev pub Knows : Journal → List FracPoly → Type 0
  Knows j gs = step.Knows w.setting.now j gs

  abbrev pub KnowsIterations : ℕ → Journal → List FracPoly → Type 0
  KnowsIterations n j gs = step.KnowsIterations w.setting.now n j gs

  abbrev pub Stops : Journal → AnalyseError → Type 0
  Stops j e = step.Stops w.setting.now j e

  pub record IsInWork (j : Journal) : Type 0 where
    pub fits : FitsSetting w.setting.now
    pub place : w.place < length w.setting.now.branches.items
    pub basis : Knows j w.basis.now

  abbrev pub testing : ℕ → Step
  testing i = step.testing w.setting.now w.round w.place i w.basis.now

  abbrev pub tested : ℕ → Step
  tested i = step.closing w.setting.now w.round w.place i w.basis.now

  abbrev pub opened : Step
  opened = step.turning (suc w.round) w.basis.now

  abbrev pub branching : List FracPoly → Step
  branching hs = step.branching w.setting.now w.round w.place w.basis.now (terms_each hs)

  abbrev pub branched : List FracPoly → Step
  branched ls = step.branched w.setting.now w.round w.place w.basis.now (terms_each ls)

  abbrev pub iteration_begins : ℕ → List FracPoly → List (Terms Fraction) → Step
  iteration_begins n ks hs =
      step.iteration_begins w.setting.now w.round w.place n (terms_each w.basis.now) ks hs

  abbrev pub iteration_ends : ℕ → List FracPoly → List (Terms Fraction) → List FracPoly → Step
  iteration_ends n ks hs ls =
      step.iteration_ends w.setting.now w.round w.place n (terms_each w.basis.now) ks hs ls

  abbrev pub iteration_meets : ℕ → (hs ks : List FracPoly) → Step
  iteration_meets n hs ks =
      step.iteration_meets w.setting.now w.round w.place n (terms_each w.basis.now) hs ks

  abbrev pub iteration_met : ℕ → (hs ks ls : List FracPoly) → Step
  iteration_met n hs ks ls =
      step.iteration_met w.setting.now w.round w.place n (terms_each w.basis.now) hs ks ls

  abbrev pub orbiting : List (Terms Fraction) → Step
  orbiting hs = step.orbiting w.setting.now w.round w.place w.basis.now hs

  abbrev pub orbited : List (Terms Fraction) → List FracPoly → Step
  orbited hs ls = step.orbited w.setting.now w.round w.place w.basis.now hs ls

  abbrev pub meeting : (hs ks : List FracPoly) → Step
  meeting hs ks = step.meeting w.setting.now w.round w.place (terms_each w.basis.now) hs ks

  abbrev pub met : (hs ks ls : List FracPoly) → Step
  met hs ks ls = step.met w.setting.now w.round w.place (terms_each w.basis.now) hs ks ls
