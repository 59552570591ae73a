-- Refusals of a trace behind an analysis that has ended.
--   as_analysed         an analysis that was refused, as `basis` answers it
--   unformed_wide       where all branches have closed forms, a map or a branch is refused for a number that doesn't fit
--   untraced_ends       a trace is refused for a number that doesn't fit, or for an exhausted budget
--   stopped_named       it names no variable;  unformed_named: those that a refusal of a map or a branch names are the loop's
use Rattle.std.proofs.Common.{◌≡◌, ◌≢◌, ℕ, List, [], length, refl, sym, subst, inl, inr}
use Rattle.std.specs.Prelude.{◌⊎◌, Some}
use Rattle.machines.specs.Journal.{Journal}
use Rattle.loops.specs.Program.{Expr, Program}
use Rattle.loop_model.specs.Maps.{AreFree}
use Rattle.invariant_fix.specs.Refusals.{AllHaveForms, IfUnformedLoop}
use Rattle.invariant_fix.specs.declared.errors.AnalyseError.{AnalyseError}
use Rattle.invariant_fix.specs.declared.errors.AnalyseError.TheVariants as error
use Rattle.analysis_commands.specs.Naming.{AreNamed}
use Rattle.analysis_commands.proofs.Naming.{named}
use Rattle.full_trace.specs.Traced as trace
use Rattle.io_edge.specs.declared.answer.Status.{Status}
use Rattle.io_edge.specs.declared.answer.Status.TheVariants as status
use Rattle.io_edge.specs.Texts.{Answer}
use Rattle.analysis_commands.specs.declared.kind.Kind.TheVariants as kinds
use Rattle.analysis_commands.specs.Analyses.{refused, IsUnfound, Analyses}
use Rattle.analysis_commands.specs.Statuses.{refusal_status}
use Rattle.analysis_commands.specs.RefusalTexts.{refusal_answer}
use Rattle.io_edge.proofs.OfStatuses.{no_answer}
use Rattle.analysis_commands.proofs.Analysing.{formed, status_told}
use Rattle.analysis_commands.proofs.Refused.{refusal_parts, refusal_kind, Refused, at_fault, too_wide, exhausted}
use Rattle.certificate_commands.specs.FullCertified.{IsUntraced}

pub as_analysed : (l : Program (Expr ℕ)) (budget : ℕ) (m : Journal) (a : Answer) (e : AnalyseError)
    → IsUnfound l budget m e → refusal_answer l.names budget e ≡ Some a
    → Analyses kinds.Basis l budget m a
as_analysed l budget m a e ends says = record { ending = refused e; ends = ends; says = says }

-- a refusal of another kind than an exhausted budget, where maps are formed and classes split
wide_alone : (e : AnalyseError) (s : Status) → e ≢ error.Budget → Refused e s
    → (s ≡ status.Yes) ⊎ ((s ≡ status.Wide) ⊎ (s ≡ status.Budget)) → s ≡ status.Wide
wide_alone e s other (at_fault is) (inl said) = absurd (cc)
wide_alone e s other (at_fault is) (inr (inl wide)) = wide
wide_alone e s other (at_fault is) (inr (inr budget)) = absurd (cc)
wide_alone e s other (too_wide is) h = is
wide_alone e s other (exhausted is same) h = absurd (other same)

not_exhausted : (l : Program (Expr ℕ)) (e : AnalyseError) → IfUnformedLoop l e → e ≢ error.Budget
not_exhausted l (error.Map e) h = λ same. cc
not_exhausted l (error.Branch b e) h = λ same. cc
not_exhausted l (error.Limit task) h = λ same. cc
not_exhausted l (error.Wide task) h = λ same. cc
not_exhausted l error.Budget h = absurd h
not_exhausted l error.Memory h = λ same. cc

refused_same : (e d : AnalyseError) → refused e ≡ refused d → e ≡ d
refused_same e d same = cc

module _ (l : Program (Expr ℕ)) (budget : ℕ) (m : Journal) (a : Answer) where
  pub unformed_wide : AreFree l → AllHaveForms l → (e : AnalyseError) → IsUnfound l budget m e
      → IfUnformedLoop l e → refusal_answer l.names budget e ≡ Some a → a.status ≡ status.Wide
  unformed_wide free forms e ends cause says =
      wide_alone e a.status (not_exhausted l e cause)
      (refusal_kind e a.status (refusal_parts l.names budget e a says).0)
      (formed kinds.Basis l budget m a free
      (λ b inside. let h = forms b inside in (h.solvable, h.pass, h.short)) (refused e)
      (λ task same. subst (IfUnformedLoop l) (refused_same e (error.Limit task) same) cause)
      ends says)

  abbrev EndsUntraced : AnalyseError → Type 0
  EndsUntraced e = (a.status ≡ status.Wide) ⊎ ((a.status ≡ status.Budget) × (e ≡ error.Budget))

  told : (e : AnalyseError) (s : Status) → refusal_status e ≡ Some s
      → refusal_answer l.names budget e ≡ Some a → a.status ≡ s
  told e s is says = status_told kinds.Basis l budget m a e s is says

  pub untraced_ends : (e : AnalyseError) → IsUntraced l budget m e
      → refusal_answer l.names budget e ≡ Some a → EndsUntraced e
  untraced_ends (error.Map e) u says = absurd u.stopped
  untraced_ends (error.Branch b e) u says = absurd u.stopped
  untraced_ends (error.Limit task) u says = absurd u.stopped
  untraced_ends (error.Wide task) u says = inl (told (error.Wide task) status.Wide refl says)
  untraced_ends error.Budget u says = inr (told error.Budget status.Budget refl says, refl)
  untraced_ends error.Memory u says = absurd (no_answer a says)

pub stopped_named : (l : Program (Expr ℕ)) (rounds : ℕ) (m : Journal) (e : AnalyseError) (n : ℕ)
    → trace.IsStopped l rounds m e → AreNamed n e
stopped_named l rounds m (error.Map e) n cause = absurd cause
stopped_named l rounds m (error.Branch b e) n cause = absurd cause
stopped_named l rounds m (error.Limit task) n cause = absurd cause
stopped_named l rounds m (error.Wide task) n cause = tt
stopped_named l rounds m error.Budget n cause = tt
stopped_named l rounds m error.Memory n cause = tt

-- the variables that a refusal of a map or a branch names are the loop's
pub unformed_named : (l : Program (Expr ℕ)) (e : AnalyseError) (names : List (List ℕ))
    → names ≡ l.names → IfUnformedLoop l e → AreNamed (length names) e
unformed_named l e names same cause = subst (λ ns. AreNamed (length ns) e) (sym same) (go e cause)
  where
    before : Journal
    before = record { limit = 0; entries = [] }

    go : (e : AnalyseError) → IfUnformedLoop l e → AreNamed (length l.names) e
    go (error.Map e) cause = tt
    go (error.Branch b e) cause = named l before before (error.Branch b e) (refl, cause)
    go (error.Limit task) cause = tt
    go (error.Wide task) cause = tt
    go error.Budget cause = tt
    go error.Memory cause = tt
