-- The steps of an analysis by the program's own lists. Rounds count from 0; branches b, elements i and iterations n count from 0.
--   Awaits s j step            the entries of the journal j are those of a run of the machine, and this step comes next
--   Knows s j gs               the gs are reduced for their own ideal, and no more than what the analysis begins with may have and the units of j
--   Stops s j e                what the refusal e tells of the journal j
--   Follow before after        the units of the journal before are among those after
--   starting s                 the step that begins the analysis;  started s gs: what comes when its first task has ended with gs
--   closing s k b i gs         the closing tests of round k from branch b and element i on;  testing s k b i gs: this one
--   closed k gs                the end, with round k and the gs
--   turning k gs               the beginning of round k, behind the list gs
--   KnowsIterations s n j gs       the same of a list of n iterations, which may have more elements
--   branching s k b gs hs      the first task of branch b, where hs is the list so far;  branched s k b gs hs: what comes behind branch b
--   HasWhole s b, HasIterations s b     the form of branch b is the state from the start on; it isn't before two iterations, so some are taken one by one
--   HasMeet s b                    the orbit of branch b meets the list so far: the branch isn't the first, or its form isn't the state from the start on
--   iteration_begins s k b n gs ks hs   the beginning of one iteration more of branch b than n, which have given the list ks, where hs is the list so far;  iteration_ends s k b n gs ks hs ls: what comes when it has ended with ls
--   iteration_meets s k b n gs hs ks    that of the meet of hs with the list ks of that iteration;  iteration_met s k b n gs hs ks ls: what comes when it has ended with ls
--   orbiting s k b gs hs       the beginning of the orbit of the gs along branch b, where hs is the list so far;  orbited s k b gs hs ls: what comes when it has ended with ls
--   meeting s k b gs hs ks     that of the meet of hs with the orbit ks along branch b;  met s k b gs hs ks ls: what comes when it has ended with ls
use Rattle.std.specs.Prelude.{◌≡◌, ◌⊎◌, ℕ, suc, ◌+◌, ◌*◌, ◌<◌, ◌≤◌, List}
use Rattle.algebra.specs.Fraction.{Fraction}
use Rattle.polynomials.specs.Terms.{Terms}
use Rattle.machines.specs.Journal as journal
use Rattle.machines.specs.Journal.{Journal, units_of}
use Rattle.rounds.specs.Analysis as analysis
use Rattle.rounds.specs.Analysis.{Step, goes, finished, start_of, after, after_branch, test, closing_from, begin_branch, begin_iteration, begin_orbit}
use Rattle.poly.specs.Seen.{terms_each}
use Rattle.loop_model.specs.FracPoly.{FracPoly}
use Rattle.invariant_fix.specs.Coming.{Comes, Refuses}
use Rattle.invariant_fix.specs.Lists.{IsList}
use Rattle.invariant_fix.specs.Setting.{setting_of, most_first}
use Rattle.invariant_fix.specs.declared.errors.AnalyseError.{AnalyseError}
use Rattle.invariant_fix.specs.declared.setting.Setting.{Setting}

abbrev pub closed : ℕ → List FracPoly → Step
closed k gs = finished k (terms_each gs)

abbrev pub turning : ℕ → List FracPoly → Step
turning k gs = goes (journal.Begin (journal.Round k)) (analysis.turning k (terms_each gs))

abbrev pub Follow : Journal → Journal → Type 0
Follow before after = units_of before.entries ≤ units_of after.entries

module _ (s : Setting) where
  abbrev pub Awaits : Journal → Step → Type 0
  Awaits j step = Comes (setting_of s) j.entries step

  abbrev pub Knows : Journal → List FracPoly → Type 0
  Knows j gs = IsList s.arity (most_first s.arity s.given) (units_of j.entries) gs

  abbrev pub KnowsIterations : ℕ → Journal → List FracPoly → Type 0
  KnowsIterations n j gs =
      IsList s.arity (most_first s.arity s.given + s.arity * n) (units_of j.entries) gs

  abbrev pub HasWhole : ℕ → Type 0
  HasWhole b = (analysis.form_of (setting_of s) b).since ≡ 0

  abbrev pub HasIterations : ℕ → Type 0
  HasIterations b = 2 ≤ (analysis.form_of (setting_of s) b).since

  abbrev pub HasMeet : ℕ → Type 0
  HasMeet b = (0 < b) ⊎ (0 < (analysis.form_of (setting_of s) b).since)

  abbrev pub Stops : Journal → AnalyseError → Type 0
  Stops j e = Refuses (setting_of s) j e

  abbrev pub starting : Step
  starting = goes (journal.Begin journal.Start) (start_of (setting_of s) analysis.starts)

  abbrev pub started : List FracPoly → Step
  started gs = after (setting_of s) analysis.starts (terms_each gs)

  abbrev pub closing : (k b i : ℕ) → List FracPoly → Step
  closing k b i gs = closing_from (setting_of s) k b i (terms_each gs)

  abbrev pub testing : (k b i : ℕ) → List FracPoly → Step
  testing k b i gs = test (setting_of s) k b i (terms_each gs)

  abbrev pub branching : (k b : ℕ) → List FracPoly → List (Terms Fraction) → Step
  branching k b gs hs = begin_branch (setting_of s) k b (terms_each gs) hs

  abbrev pub branched : (k b : ℕ) → List FracPoly → List (Terms Fraction) → Step
  branched k b gs hs = after_branch (setting_of s) k b (terms_each gs) hs

  abbrev pub iteration_begins : (k b n : ℕ) → List (Terms Fraction) → List FracPoly
      → List (Terms Fraction) → Step
  iteration_begins k b n gs ks hs = begin_iteration (setting_of s) k b n gs (terms_each ks) hs

  abbrev pub iteration_ends : (k b n : ℕ) → List (Terms Fraction) → List FracPoly
      → List (Terms Fraction) → List FracPoly → Step
  iteration_ends k b n gs ks hs ls =
      after (setting_of s) (analysis.iteration k b n gs (terms_each ks) hs) (terms_each ls)

  abbrev pub iteration_meets : (k b n : ℕ) → List (Terms Fraction) → (hs ks : List FracPoly) → Step
  iteration_meets k b n gs hs ks =
      goes (journal.Begin (journal.IterationMeet k (suc b) (suc n)))
      (start_of (setting_of s) (analysis.iteration_meet k b n gs (terms_each hs) (terms_each ks)))

  abbrev pub iteration_met : (k b n : ℕ) → List (Terms Fraction) → (hs ks ls : List FracPoly) → Step
  iteration_met k b n gs hs ks ls =
      after (setting_of s) (analysis.iteration_meet k b n gs (terms_each hs) (terms_each ks))
      (terms_each ls)

  abbrev pub orbiting : (k b : ℕ) → List FracPoly → List (Terms Fraction) → Step
  orbiting k b gs hs = begin_orbit (setting_of s) k b (terms_each gs) hs

  abbrev pub orbited : (k b : ℕ) → List FracPoly → List (Terms Fraction) → List FracPoly → Step
  orbited k b gs hs ls = after (setting_of s) (analysis.orbit k b (terms_each gs) hs)
      (terms_each ls)

  abbrev pub meeting : (k b : ℕ) → List (Terms Fraction) → (hs ks : List FracPoly) → Step
  meeting k b gs hs ks =
      goes (journal.Begin (journal.Meet k (suc b)))
      (start_of (setting_of s) (analysis.meet k b gs (terms_each hs) (terms_each ks)))

  abbrev pub met : (k b : ℕ) → List (Terms Fraction) → (hs ks ls : List FracPoly) → Step
  met k b gs hs ks ls =
      after (setting_of s) (analysis.meet k b gs (terms_each hs) (terms_each ks)) (terms_each ls)
