-- What `basis` and `cert` promise, from the outcome of their course.
--   settled      their answers are settled
--   finds        the clauses
use Rattle.std.proofs.Common.{ℕ, refl, inl}
use Rattle.std.specs.Prelude.{◌⊎◌}
use Rattle.machines.specs.Journal.{Journal}
use Rattle.poly_text.specs.Reasons.{Fault, limit}
use Rattle.loops.specs.Program.{Expr, Program}
use Rattle.io_edge.specs.declared.answer.Status.TheVariants as status
use Rattle.io_edge.specs.Settled.{IsSettled}
use Rattle.io_edge.specs.Course.{EachAnswer}
use Rattle.io_edge.specs.Outcome.{Call, IsCarriedOut}
use Rattle.io_edge.proofs.Outcomes.{or_wide, or_fault, or_yes}
use Rattle.io_edge.proofs.OneFile as one_file
use Rattle.io_edge.proofs.OneFile.{OneFile, concludes_yes, concludes_no, concludes_exhausted, answered, ends_at_fault, tells, writes, refused, never_ends, not_ended, left, long}
use Rattle.command_parts.specs.FaultTexts.{loop_refusal}
use Rattle.command_parts.specs.LoopReading.{IsLoopFault}
use Rattle.command_parts.proofs.LoopCourses.{reading_loop}
use Rattle.analysis_commands.specs.Analyses.{Analyses, HasAnalysed}
use Rattle.analysis_commands.specs.RefusalTexts.{branch_answer}
use Rattle.analysis_commands.specs.Headline.{ShowsAnalysis}
use Rattle.analysis_commands.specs.Causes.{HasFinished, IsClosed, IsExhausted, IsAnalysed, IsUnanalysed}
use Rattle.analysis_commands.proofs.Settling.{analyses_settled, analyses_not_no}
use Rattle.analysis_commands.proofs.Analysing.{found_shown, closed_shown, out_shown, unanalysed, limit_analysed, formed_analysed, unformed_analysed, long_analysed, all_analysed, branch_analysed}
use Rattle.analysis_commands.specs.LongTasks.{IsToldLong}
use Rattle.analysis_commands.proofs.LongTasks.{told_limit, analysis_limit, or_long}
use Rattle.analysis_commands.proofs.Endings.{or_found, not_exhausted}
use Rattle.analysis_commands.specs.BasisArguments.{Request}
use Rattle.analysis_commands.specs.BasisCourse.{course}
use Rattle.analysis_commands.specs.BasisClauses.{Finds}

module _ (request : Request) where
  abbrev path : OneFile (Program (Expr ℕ)) Fault
  path = reading_loop request.file (λ l. HasAnalysed l request.budget)
      (λ l. Analyses request.kind l request.budget)

  pub settled : EachAnswer (λ a. IsSettled a.status) (course request)
  settled = one_file.settled path
      (λ l m a h. analyses_settled request.kind l request.budget a m h)

  module _ (call : Call) (f : IsCarriedOut (course request) call) where
    abbrev m : Journal
    m = call.meter.after

    pub finds : Finds request call
    finds = record {
      basis = writes path call f concludes_yes (ShowsAnalysis request.kind)
          (λ text l a e h yes. (found_shown request.kind text l request.budget m a e h yes).0);
      finished = tells path call f concludes_yes (λ text. HasFinished text request.budget m)
          (λ text l a e h yes. (found_shown request.kind text l request.budget m a e h yes).1);
      closed = writes path call f concludes_yes (λ text. IsClosed request.kind text m)
          (λ text l a e h yes. closed_shown request.kind text l request.budget m a e h yes);
      why = λ is. refused path call f call.status is
          (λ text a. IsUnanalysed text request.budget m a)
          (λ text l a e h same refusing.
          unanalysed request.kind text l request.budget m a e h refusing.yes_not) refl;
      exhausted = writes path call f concludes_exhausted (λ text. IsExhausted text request.budget m)
          (λ text l a e h out. out_shown request.kind text l request.budget m a e h out);
      no = never_ends path call f concludes_no
          (λ l j a h. analyses_not_no request.kind l request.budget a j h);
      journal = left path call f (λ text. IsAnalysed text request.budget m)
          (λ text l e h. record { loop = l; is_loop = e; analysed = h });
      loop_fault = ends_at_fault path call f;
      limit_passed = λ l at r first. or_wide (course request) call f
          (loop_refusal (record { reason = limit; at = at }))
          (λ s. limit_analysed request.kind l request.budget at m s.answer first
          (answered path call f l r s));
      branch_refused = λ l b x r free exact first. or_wide (course request) call f
          (branch_answer l.names b x)
          (λ s. branch_analysed request.kind l request.budget m s.answer free b x exact first
          (answered path call f l r s));
      unformed = λ l r free not. or_fault (course request) call f
          (λ s. unformed_analysed request.kind l request.budget m s.answer free not
          (answered path call f l r s));
      limit_told = λ is. told_limit call request.file
          (λ text a. IsLoopFault text a ⊎ IsUnanalysed text request.budget m a)
          (λ text place. IsToldLong text m place) (analysis_limit request.budget m)
          (refused path call f status.Fault (inl refl)
          (λ text a. IsUnanalysed text request.budget m a)
          (λ text l a e h same refusing.
          unanalysed request.kind text l request.budget m a e h refusing.yes_not) is);
      task_limit = λ l r free forms long. or_long (course request) call l f
          (λ s. long_analysed request.kind l request.budget m s.answer free forms long
          (answered path call f l r s));
      found = λ l r free forms never. or_found (course request) call f
          (λ s. formed_analysed request.kind l request.budget m s.answer free forms never
          (answered path call f l r s));
      enough = λ l r within. not_ended path call f concludes_exhausted l r
          (λ a h out. not_exhausted r.text l request.budget m a.text r.reads within
          (out_shown request.kind r.text l request.budget m a r.reads h out));
      completes = λ l r never_refused within. or_yes (course request) call f
          (λ s. all_analysed request.kind l request.budget m s.answer never_refused within
          (answered path call f l r s));
      long = long path call f;
    }
