-- What `full` promises, from the outcome of its course.
--   settled      its answers are settled
--   finds_full   the clauses
use Rattle.std.proofs.Common.{ℕ, refl, inl, inr}
use Rattle.std.specs.Prelude.{◌⊎◌}
use Rattle.machines.specs.Journal.{Journal}
use Rattle.poly_text.specs.Reasons.{Fault, limit}
use Rattle.loops.specs.Program.{Expr, Program}
use Rattle.io_edge.specs.declared.answer.Status.TheVariants as status
use Rattle.io_edge.specs.Settled.{IsSettled}
use Rattle.io_edge.specs.Course.{EachAnswer}
use Rattle.io_edge.specs.Outcome.{Call, IsCarriedOut}
use Rattle.io_edge.proofs.Outcomes.{or_wide, or_fault, or_yes}
use Rattle.io_edge.proofs.OneFile as one_file
use Rattle.io_edge.proofs.OneFile.{OneFile, concludes_yes, concludes_no, concludes_exhausted, answered, ends_at_fault, tells, writes, refused, never_ends, not_ended, left, long}
use Rattle.command_parts.specs.FaultTexts.{loop_refusal}
use Rattle.command_parts.proofs.LoopCourses.{reading_loop}
use Rattle.command_parts.specs.FileRequests.{FileRequest}
use Rattle.analysis_commands.specs.Causes.{IsUnanalysed}
use Rattle.analysis_commands.specs.RefusalTexts.{branch_answer}
use Rattle.analysis_commands.proofs.Endings.{or_found}
use Rattle.certificate_commands.specs.FullTexts.{late_answer}
use Rattle.certificate_commands.specs.FullHeadline.{ShowsFull}
use Rattle.certificate_commands.specs.FullCertified.{Certifies, HasWorked}
use Rattle.certificate_commands.specs.FullCauses.{HasFinished, IsCertificateOf, IsExhausted, IsToldLate, HasBegun, IsRefusedTrace}
use Rattle.certificate_commands.specs.FullCourse.{course}
use Rattle.certificate_commands.specs.FullClauses.{FindsFull}
use Rattle.certificate_commands.proofs.FullCertifying as certifying
use Rattle.certificate_commands.proofs.FullCertifying.{not_no, certificate_shown, fault_told, wide_told, out_shown, limit_told, branch_told, unformed_told, late_told, formed_told, long_told, full_limit, within_told, all_told}
use Rattle.command_parts.specs.LoopReading.{IsLoopFault}
use Rattle.analysis_commands.specs.LongTasks.{IsToldLong}
use Rattle.analysis_commands.proofs.LongTasks.{told_limit, or_long}

module _ (request : FileRequest) where
  abbrev path : OneFile (Program (Expr ℕ)) Fault
  path = reading_loop request.file (λ l. HasWorked l request.budget)
      (λ l. Certifies l request.budget)

  pub settled : EachAnswer (λ a. IsSettled a.status) (course request)
  settled = one_file.settled path (λ l m a h. certifying.settled l request.budget m a h)

  module _ (call : Call) (f : IsCarriedOut (course request) call) where
    abbrev m : Journal
    m = call.meter.after

    pub finds_full : FindsFull request call
    finds_full = record {
      certified = writes path call f concludes_yes ShowsFull
          (λ text l a e h yes. (certificate_shown text l request.budget m a e h yes).0);
      finished = tells path call f concludes_yes (λ text. HasFinished text request.budget m)
          (λ text l a e h yes. (certificate_shown text l request.budget m a e h yes).1.0);
      made = writes path call f concludes_yes (λ text. IsCertificateOf text request.budget m)
          (λ text l a e h yes. (certificate_shown text l request.budget m a e h yes).1.1);
      fault = refused path call f status.Fault (inl refl)
          (λ text a. IsUnanalysed text request.budget m a ⊎ IsToldLate text request.budget m a)
          (λ text l a e h same refusing. fault_told text l request.budget m a e h same);
      wide = refused path call f status.Wide (inr refl)
          (λ text a. IsUnanalysed text request.budget m a ⊎ IsRefusedTrace text request.budget m a)
          (λ text l a e h same refusing. wide_told text l request.budget m a e h same);
      exhausted = writes path call f concludes_exhausted (λ text. IsExhausted text request.budget m)
          (λ text l a e h out. out_shown text l request.budget m a e h out);
      no = never_ends path call f concludes_no (λ l j a h. not_no l request.budget j a h);
      journal = left path call f (λ text. HasBegun text request.budget m)
          (λ text l e h. record { loop = l; is_loop = e; worked = h });
      loop_fault = ends_at_fault path call f;
      limit_passed = λ l at r first. or_wide (course request) call f
          (loop_refusal (record { reason = limit; at = at }))
          (λ s. limit_told l request.budget at m s.answer first (answered path call f l r s));
      branch_refused = λ l b x r free exact first. or_wide (course request) call f
          (branch_answer l.names b x)
          (λ s. branch_told l request.budget m s.answer free b x exact first
          (answered path call f l r s));
      unformed = λ l r free not. or_fault (course request) call f
          (λ s. unformed_told l request.budget m s.answer free not (answered path call f l r s));
      begins_late = λ l b r free forms first. or_wide (course request) call f (late_answer b)
          (λ s. late_told l request.budget m s.answer free forms b first
          (answered path call f l r s));
      limit_told = λ is. told_limit call request.file
          (λ text a. IsLoopFault text a ⊎ (IsUnanalysed text request.budget m a
          ⊎ IsToldLate text request.budget m a))
          (λ text place. IsToldLong text m place) (full_limit request.budget m)
          (refused path call f status.Fault (inl refl)
          (λ text a. IsUnanalysed text request.budget m a ⊎ IsToldLate text request.budget m a)
          (λ text l a e h same refusing. fault_told text l request.budget m a e h same) is);
      task_limit = λ l r free forms at_zero long. or_long (course request) call l f
          (λ s. long_told l request.budget m s.answer free forms at_zero long
          (answered path call f l r s));
      found = λ l r free split at_zero never. or_found (course request) call f
          (λ s. formed_told l request.budget m s.answer free split at_zero never
          (answered path call f l r s));
      enough = λ l r within. not_ended path call f concludes_exhausted l r
          (λ a h out. within_told r.text l request.budget m a.text r.reads within
          (out_shown r.text l request.budget m a r.reads h out));
      completes = λ l r within never. or_yes (course request) call f
          (λ s. all_told l request.budget m s.answer within never (answered path call f l r s));
      long = long path call f;
    }
