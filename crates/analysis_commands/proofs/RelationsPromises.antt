-- What `relations` promises, from the outcome of its course.
--   settled            its answers are settled
--   finds_relations    the clauses
use Rattle.std.proofs.Common.{ℕ, List, refl, inl}
use Rattle.std.specs.Prelude.{◌⊎◌}
use Rattle.machines.specs.Journal.{Journal}
use Rattle.poly_text.specs.Reasons.{Fault, limit}
use Rattle.loops.specs.Program.{Expr}
use Rattle.loops.specs.Sequences.{Sequence}
use Rattle.loops.specs.Turning.{names}
use Rattle.io_edge.specs.declared.answer.Status.TheVariants as status
use Rattle.io_edge.specs.Settled.{IsSettled}
use Rattle.io_edge.specs.Course.{EachAnswer}
use Rattle.io_edge.specs.Outcome.{Call, IsCarriedOut}
use Rattle.io_edge.proofs.Outcomes.{or_wide, or_fault, or_yes}
use Rattle.io_edge.proofs.OneFile as one_file
use Rattle.io_edge.proofs.OneFile.{OneFile, concludes_yes, concludes_no, concludes_exhausted, answered, ends_at_fault, tells, writes, refused, never_ends, not_ended, left, long}
use Rattle.analysis_commands.specs.RefusalTexts.{branch_answer}
use Rattle.analysis_commands.specs.RelationsTexts.{sequences_refusal}
use Rattle.analysis_commands.specs.RelationsAnswers.{Relates, HasRelated}
use Rattle.command_parts.specs.FileRequests.{FileRequest}
use Rattle.analysis_commands.specs.RelationsCourse.{course}
use Rattle.analysis_commands.specs.RelationsClauses.{HasEnded, IsExhaustedRelating, IsUnrelated, IsToldLongRelating, IsRelating, FindsRelations}
use Rattle.analysis_commands.specs.RelationsReading.{IsSequencesFault}
use Rattle.analysis_commands.specs.RelationsHeadline.{ShowsRelations}
use Rattle.analysis_commands.proofs.Endings.{or_found}
use Rattle.analysis_commands.proofs.LongTasks.{told_limit}
use Rattle.analysis_commands.proofs.LongRelations.{relations_limit}
use Rattle.analysis_commands.proofs.SequenceCourses.{reading_sequences}
use Rattle.analysis_commands.proofs.RelationsEndings.{relates_settled, relates_not_no, related_shown, exhausted_shown, unrelated, limit_related, formed_related, unformed_related, branch_related, all_related, related_within}

module _ (request : FileRequest) where
  abbrev path : OneFile (List (Sequence (Expr ℕ))) Fault
  path = reading_sequences request.file (λ qs. HasRelated qs request.budget)
      (λ qs. Relates qs request.budget)

  pub settled : EachAnswer (λ a. IsSettled a.status) (course request)
  settled = one_file.settled path (λ qs m a h. relates_settled qs request.budget m a h)

  module _ (call : Call) (f : IsCarriedOut (course request) call) where
    abbrev m : Journal
    m = call.meter.after

    pub finds_relations : FindsRelations request call
    finds_relations = record {
      basis = writes path call f concludes_yes ShowsRelations
          (λ text qs a e h yes. (related_shown qs request.budget m a h text e yes).0);
      ended = tells path call f concludes_yes (λ text. HasEnded text request.budget m)
          (λ text qs a e h yes. (related_shown qs request.budget m a h text e yes).1);
      why = λ is. refused path call f call.status is
          (λ text a. IsUnrelated text request.budget m a)
          (λ text qs a e h same refusing.
          unrelated qs request.budget m a h text e refusing.yes_not) refl;
      exhausted = writes path call f concludes_exhausted (λ text.
          IsExhaustedRelating text request.budget m)
          (λ text qs a e h out. exhausted_shown qs request.budget m a h text e out);
      no = never_ends path call f concludes_no
          (λ qs j a h. relates_not_no qs request.budget j a h);
      journal = left path call f (λ text. IsRelating text request.budget m)
          (λ text qs e h. record { sequences = qs; are_sequences = e; related = h });
      sequences_fault = ends_at_fault path call f;
      limit_passed = λ qs at r first. or_wide (course request) call f
          (sequences_refusal (record { reason = limit; at = at }))
          (λ s. limit_related qs request.budget m s.answer (answered path call f qs r s) at first);
      branch_refused = λ qs b x r free exact first. or_wide (course request) call f
          (branch_answer (names qs) b x)
          (λ s. branch_related qs request.budget m s.answer (answered path call f qs r s) free b x
          exact first);
      unformed = λ qs r free not. or_fault (course request) call f
          (λ s. unformed_related qs request.budget m s.answer (answered path call f qs r s) not);
      limit_told = λ is. told_limit call request.file
          (λ text a. IsSequencesFault text a ⊎ IsUnrelated text request.budget m a)
          (λ text place. IsToldLongRelating text m place) (relations_limit request.budget m)
          (refused path call f status.Fault (inl refl)
          (λ text a. IsUnrelated text request.budget m a)
          (λ text qs a e h same refusing.
          unrelated qs request.budget m a h text e refusing.yes_not) is);
      found = λ qs r free split never. or_found (course request) call f
          (λ s. formed_related qs request.budget m s.answer (answered path call f qs r s) free
          split never);
      enough = λ qs r within. not_ended path call f concludes_exhausted qs r
          (λ a h out. related_within r.text qs request.budget m a.text r.reads within
          (exhausted_shown qs request.budget m a h r.text r.reads out));
      completes = λ qs r never within. or_yes (course request) call f
          (λ s. all_related qs request.budget m s.answer (answered path call f qs r s) never
          within);
      long = long path call f;
    }
