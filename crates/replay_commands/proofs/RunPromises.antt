-- What `run` promises, from the outcome of its course.
--   run_refuses, by_replay       what is answered to a refusal, and to a replay
--   settled                      its answers are settled
--   runs                         the clauses
use Rattle.std.proofs.Common.{◌≡◌, ◌≢◌, ℕ, List, refl, sym, ap, subst, ◌∙◌, Result, Ok, Err}
use Rattle.algebra.specs.Fraction.{Fraction}
use Rattle.loops.specs.Program.{Expr, Program}
use Rattle.poly_text.specs.Reasons.{Fault}
use Rattle.loop_text.specs.LoopReader.{loop_of}
use Rattle.loop_runs.specs.Replay as replay
use Rattle.loop_runs.specs.Replay.{RunFault, replay_of}
use Rattle.loop_runs.proofs.Runs.{replay_start, replay_ends, replay_states}
use Rattle.io_edge.specs.declared.answer.Status.TheVariants as status
use Rattle.io_edge.specs.Texts.{Answer}
use Rattle.io_edge.specs.Settled.{IsSettled, IsPlain, IsRefusing}
use Rattle.io_edge.specs.Course.{EachAnswer}
use Rattle.io_edge.specs.Outcome.{Call, IsCarriedOut}
use Rattle.io_edge.proofs.OfStatuses.{status_of, text_of, plain_yes, refusing_fault, refusing_wide}
use Rattle.io_edge.proofs.Outcomes.{ends_so}
use Rattle.io_edge.proofs.OneFile as one_file
use Rattle.io_edge.proofs.OneFile.{OneFile, concludes_yes, concludes_no, concludes_exhausted, answered, ends_at_fault, writes, refused, never_ends, kept, long}
use Rattle.command_parts.proofs.LoopCourses.{reading_loop}
use Rattle.replay_commands.specs.RunTexts.{run_answer}
use Rattle.replay_commands.specs.RunArguments.{Request}
use Rattle.replay_commands.specs.RunCourse.{course}
use Rattle.replay_commands.specs.RunClauses.{ShowsRun, IsRunFault, Runs}

-- ---- statuses
by_run : (names locals : List (List ℕ)) (fault : RunFault)
    → IsRefusing (run_answer names locals (Err fault)).status
by_run names locals (replay.count given wanted) = refusing_fault _ refl
by_run names locals (replay.start var) = refusing_fault _ refl
by_run names locals (replay.no_branch index) = refusing_fault _ refl
by_run names locals (replay.wide step var) = refusing_wide _ refl

pub run_refuses : (names locals : List (List ℕ)) (fault : RunFault) (a : Answer)
    → a ≡ run_answer names locals (Err fault) → IsRefusing a.status
run_refuses names locals fault a e = subst IsRefusing (sym (status_of e))
    (by_run names locals fault)

pub by_replay : (names locals : List (List ℕ)) (r : Result (List (List Fraction)) RunFault)
    → IsPlain (run_answer names locals r).status
by_replay names locals (Ok given) = plain_yes _ refl
by_replay names locals (Err fault) = (by_run names locals fault).plain

module _ (request : Request) where
  abbrev path : OneFile (Program (Expr ℕ)) Fault
  path = reading_loop request.file (λ l m. ⊥)
      (λ l m a. a ≡ run_answer l.names l.locals (replay_of l request.values request.word))

  answers_plain : (l : Program (Expr ℕ)) (a : Answer)
      → a ≡ run_answer l.names l.locals (replay_of l request.values request.word) → IsPlain a.status
  answers_plain l a h =
      subst IsPlain (sym (status_of h))
      (by_replay l.names l.locals (replay_of l request.values request.word))

  answer_no : (a : Answer) (l : Program (Expr ℕ)) → (r : Result (List (List Fraction)) RunFault)
      → a ≡ run_answer l.names l.locals r → a.status ≢ status.No
  answer_no a l (Ok found) e h = let x : status.Yes ≡ status.No = sym (status_of e) ∙ h in cc
  answer_no a l (Err fault) e h = (run_refuses l.names l.locals fault a e).no_not h

  pub settled : EachAnswer (λ a. IsSettled a.status) (course request)
  settled = one_file.settled path (λ l m a h. (answers_plain l a h).settled)

  -- ---- what is shown
  run_shown : (text : List ℕ) (a : Answer) (l : Program (Expr ℕ)) → loop_of text ≡ Ok l
      → (r : Result (List (List Fraction)) RunFault) → replay_of l request.values request.word ≡ r
      → a ≡ run_answer l.names l.locals r → a.status ≡ status.Yes → ShowsRun text request a.text
  run_shown text a l is (Ok found) e k h =
      let ended = replay_ends l request.values request.word found e in
      record {
        loop = l;
        is_loop = is;
        is_start = replay_start l request.values request.word found e;
        end = ended.0;
        is_end = ended.1;
        says = text_of k ∙ ap (λ ss. (run_answer l.names l.locals (Ok ss)).text)
            (replay_states l request.values request.word found e);
      }
  run_shown text a l is (Err fault) e k h =
      absurd ((run_refuses l.names l.locals fault a k).yes_not h)

  fault_shown : (text : List ℕ) (a : Answer) (l : Program (Expr ℕ)) → loop_of text ≡ Ok l
      → (r : Result (List (List Fraction)) RunFault) → replay_of l request.values request.word ≡ r
      → a ≡ run_answer l.names l.locals r → a.status ≢ status.Yes → IsRunFault text request a
  fault_shown text a l is (Ok found) e k not = absurd (not (status_of k))
  fault_shown text a l is (Err fault) e k not =
      record { loop = l; is_loop = is; fault = fault; is = e; says = k }

  module _ (call : Call) (f : IsCarriedOut (course request) call) where
    pub runs : Runs request call
    runs = record {
      states = writes path call f concludes_yes (λ text. ShowsRun text request)
          (λ text l a e h yes. run_shown text a l e (replay_of l request.values request.word) refl
          h yes);
      why = λ is. refused path call f call.status is (λ text a. IsRunFault text request a)
          (λ text l a e h same refusing. fault_shown text a l e
          (replay_of l request.values request.word) refl h refusing.yes_not) refl;
      no = never_ends path call f concludes_no
          (λ l m a h. answer_no a l (replay_of l request.values request.word) h);
      exhausted = never_ends path call f concludes_exhausted
          (λ l m a h. (answers_plain l a h).budget_not);
      journal = kept path call f (λ l m h. h);
      loop_fault = ends_at_fault path call f;
      ends = λ l r. ends_so (course request) call f
          (run_answer l.names l.locals (replay_of l request.values request.word))
          (answered path call f l r);
      long = long path call f;
    }
