-- What `chain` promises, from the outcome of its course.
--   settled      its answers are settled
--   finds_each   the clauses
use Rattle.std.proofs.Common.{ℕ, refl, inl}
use Rattle.std.specs.Prelude.{◌⊎◌}
use Rattle.machines.specs.Journal.{Journal}
use Rattle.poly_text.specs.Reasons.{Fault, limit}
use Rattle.loops.specs.Program.{Expr}
use Rattle.loops.specs.Chain.{Chain}
use Rattle.io_edge.specs.declared.answer.Status.TheVariants as status
use Rattle.io_edge.specs.Settled.{IsSettled}
use Rattle.io_edge.specs.Course.{EachAnswer}
use Rattle.io_edge.specs.Outcome.{Call, IsCarriedOut}
use Rattle.io_edge.proofs.Outcomes.{or_wide, or_fault, or_yes}
use Rattle.io_edge.proofs.OneFile as one_file
use Rattle.io_edge.proofs.OneFile.{OneFile, concludes_yes, concludes_no, concludes_exhausted, answered, ends_at_fault, tells, writes, refused, never_ends, not_ended, left, long}
use Rattle.command_parts.specs.FaultTexts.{loop_refusal}
use Rattle.command_parts.proofs.ChainCourses.{reading_chain}
use Rattle.analysis_commands.specs.ChainAnalyses.{Analyses, HasAnalysed}
use Rattle.analysis_commands.specs.RefusalTexts.{branch_answer}
use Rattle.analysis_commands.specs.ChainTexts.{in_loop}
use Rattle.analysis_commands.specs.ChainHeadline.{ShowsChain}
use Rattle.analysis_commands.specs.ChainCauses.{HasFinished, IsExhausted, IsAnalysed, IsUnanalysed, IsToldLong}
use Rattle.command_parts.specs.ChainReading.{IsChainFault}
use Rattle.analysis_commands.proofs.Endings.{or_found}
use Rattle.analysis_commands.proofs.LongChains.{limit_written_in, chain_limit}
use Rattle.analysis_commands.proofs.ChainAnalysing.{analyses_settled, analyses_not_no, found_shown, out_shown, unanalysed, limit_analysed, branch_analysed, unformed_analysed, formed_analysed, not_exhausted, all_analysed}
use Rattle.command_parts.specs.FileRequests.{FileRequest}
use Rattle.analysis_commands.specs.ChainCourse.{course}
use Rattle.analysis_commands.specs.ChainClauses.{FindsEach}

module _ (request : FileRequest) where
  abbrev path : OneFile (Chain (Expr ℕ)) Fault
  path = reading_chain request.file (λ c. HasAnalysed c request.budget)
      (λ c. Analyses c request.budget)

  pub settled : EachAnswer (λ a. IsSettled a.status) (course request)
  settled = one_file.settled path (λ c m a h. analyses_settled c request.budget a m h)

  module _ (call : Call) (f : IsCarriedOut (course request) call) where
    abbrev m : Journal
    m = call.meter.after

    pub finds_each : FindsEach request call
    finds_each = record {
      bases = writes path call f concludes_yes ShowsChain
          (λ text c a e h yes. (found_shown text c request.budget m a e h yes).0);
      finished = tells path call f concludes_yes (λ text. HasFinished text request.budget m)
          (λ text c a e h yes. (found_shown text c request.budget m a e h yes).1);
      why = λ is. refused path call f call.status is
          (λ text a. IsUnanalysed text request.budget m a)
          (λ text c a e h same refusing.
          unanalysed text c request.budget m a e h refusing.yes_not) refl;
      exhausted = writes path call f concludes_exhausted (λ text. IsExhausted text request.budget m)
          (λ text c a e h out. out_shown text c request.budget m a e h out);
      no = never_ends path call f concludes_no
          (λ c j a h. analyses_not_no c request.budget a j h);
      journal = left path call f (λ text. IsAnalysed text request.budget m)
          (λ text c e h. record { chain = c; is_chain = e; analysed = h });
      chain_fault = ends_at_fault path call f;
      limit_passed = λ c j at r within known before first. or_wide (course request) call f
          (in_loop j (loop_refusal (record { reason = limit; at = at })))
          (λ s. limit_analysed r.text c request.budget m s.answer r.reads j within known before at
          first (answered path call f c r s));
      branch_refused = λ c j b x r within known before free exact first.
          or_wide (course request) call f (in_loop j (branch_answer c.first.names b x))
          (λ s. branch_analysed r.text c request.budget m s.answer r.reads j within known before
          free b x exact first (answered path call f c r s));
      unformed = λ c j r within known before not. or_fault (course request) call f
          (λ s. unformed_analysed r.text c request.budget m s.answer r.reads j within known before
          not (answered path call f c r s));
      limit_told = λ is. limit_written_in call request.file
          (λ text a. IsChainFault text a ⊎ IsUnanalysed text request.budget m a)
          (λ text j place. IsToldLong text request.budget m j place)
          (chain_limit request.budget m)
          (refused path call f status.Fault (inl refl)
          (λ text a. IsUnanalysed text request.budget m a)
          (λ text c a e h same refusing.
          unanalysed text c request.budget m a e h refusing.yes_not) is);
      found = λ c r each. or_found (course request) call f
          (λ s. formed_analysed r.text c request.budget m s.answer r.reads each
          (answered path call f c r s));
      enough = λ c r within. not_ended path call f concludes_exhausted c r
          (λ a h out. not_exhausted r.text c request.budget m a r.reads within h out);
      completes = λ c r never_refused within. or_yes (course request) call f
          (λ s. all_analysed r.text c request.budget m s.answer r.reads never_refused within
          (answered path call f c r s));
      long = long path call f;
    }
