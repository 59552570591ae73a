-- What `chainrun` promises, from the outcome of its course.
--   as_counted, as_miscounted    what is answered by how many words there are
--   settled                      its answers are settled
--   replays_chain                the clauses
use Rattle.std.proofs.Common.{◌≡◌, ◌≢◌, ℕ, Bool, true, false, List, length, refl, sym, ap, subst, ◌∙◌, Result, Ok, Err, inl, inr}
use Rattle.std.specs.Prelude.{◌⊎◌, ◌==◌, if◌then◌else◌}
use Rattle.std.proofs.lemmas.Bool.{eqb-true, false_from_ne_true}
use Rattle.std.proofs.Common.{eq-eqb}
use Rattle.algebra.specs.Fraction.{Fraction}
use Rattle.poly_text.specs.Reasons.{Fault}
use Rattle.loops.specs.Program.{Expr}
use Rattle.loops.specs.Chain.{Chain, stages_of}
use Rattle.loop_text.specs.ChainReader.{chain_of}
use Rattle.loop_runs.specs.Replay.{RunFault}
use Rattle.loop_runs.specs.ChainReplay.{chain_replay_of}
use Rattle.loop_runs.proofs.ChainRuns.{chain_replay_start, chain_replay_ends, chain_replay_states}
use Rattle.io_edge.specs.declared.answer.Status.TheVariants as status
use Rattle.io_edge.specs.Texts.{Answer}
use Rattle.io_edge.specs.Settled.{IsSettled, IsPlain, IsRefusing}
use Rattle.io_edge.specs.Course.{EachAnswer}
use Rattle.io_edge.specs.Outcome.{Call, IsCarriedOut}
use Rattle.io_edge.proofs.OfStatuses.{status_of, text_of, refusing_fault}
use Rattle.io_edge.proofs.Outcomes.{ends_so}
use Rattle.io_edge.proofs.OneFile as one_file
use Rattle.io_edge.proofs.OneFile.{OneFile, concludes_yes, concludes_no, concludes_exhausted, answered, ends_at_fault, writes, refused, never_ends, kept, long}
use Rattle.command_parts.proofs.ChainCourses.{reading_chain}
use Rattle.replay_commands.specs.RunTexts.{run_answer}
use Rattle.replay_commands.proofs.RunPromises.{run_refuses, by_replay}
use Rattle.replay_commands.specs.ChainrunTexts.{IsOfWords, count_answer, chain_run_answer}
use Rattle.replay_commands.specs.ChainrunArguments.{Request}
use Rattle.replay_commands.specs.ChainrunCourse.{course}
use Rattle.replay_commands.specs.ChainrunClauses.{ShowsChainRun, IsMiscounted, IsChainRunFault, ReplaysChain}

-- ---- what is answered to a chain
count_refuses : (given wanted : ℕ) (a : Answer) → a ≡ count_answer given wanted
    → IsRefusing a.status
count_refuses given wanted a e = subst IsRefusing (sym (status_of e)) (refusing_fault _ refl)

module _ (request : Request) (c : Chain (Expr ℕ)) where
  abbrev replay : Result (List (List Fraction)) RunFault
  replay = chain_replay_of c request.values request.words

  -- a word for each loop, or not
  data Answered (a : Answer) : Type 0 where
    counted : IsOfWords c request.words → a ≡ run_answer c.first.names c.first.locals replay
        → Answered a
    miscounted : ¬ (IsOfWords c request.words)
        → a ≡ count_answer (length request.words) (length (stages_of c)) → Answered a

  by_count : (a : Answer) → a ≡ chain_run_answer c request → Answered a
  by_count a e = go (length request.words == length (stages_of c)) refl e
    where
      go : (b : Bool) → (length request.words == length (stages_of c)) ≡ b
          → a ≡ (if b then run_answer c.first.names c.first.locals replay
          else count_answer (length request.words) (length (stages_of c))) → Answered a
      go true t k = counted (eqb-true _ _ t) k
      go false t k = miscounted
          (λ same. let yes = eq-eqb _ _ same in let no : true ≡ false = sym yes ∙ t in cc) k

  pub as_counted : IsOfWords c request.words
      → chain_run_answer c request ≡ run_answer c.first.names c.first.locals replay
  as_counted same = ap (λ b. if b then run_answer c.first.names c.first.locals replay
      else count_answer (length request.words) (length (stages_of c))) (eq-eqb _ _ same)

  pub as_miscounted : ¬ (IsOfWords c request.words)
      → chain_run_answer c request ≡ count_answer (length request.words) (length (stages_of c))
  as_miscounted other = ap (λ b. if b then run_answer c.first.names c.first.locals replay
      else count_answer (length request.words) (length (stages_of c)))
      (false_from_ne_true _ (λ t. other (eqb-true _ _ t)))

  answer_plain : (a : Answer) → a ≡ chain_run_answer c request → IsPlain a.status
  answer_plain a e = by (by_count a e)
    where
      by : Answered a → IsPlain a.status
      by (counted same k) =
          subst IsPlain (sym (status_of k)) (by_replay c.first.names c.first.locals replay)
      by (miscounted other k) = (count_refuses _ _ a k).plain

  replay_not_no : (r : Result (List (List Fraction)) RunFault) (a : Answer)
      → a ≡ run_answer c.first.names c.first.locals r → a.status ≢ status.No
  replay_not_no (Ok found) a e h = let x : status.Yes ≡ status.No = sym (status_of e) ∙ h in cc
  replay_not_no (Err fault) a e h = (run_refuses c.first.names c.first.locals fault a e).no_not h

  answer_not_no : (a : Answer) → a ≡ chain_run_answer c request → a.status ≢ status.No
  answer_not_no a e = by (by_count a e)
    where
      by : Answered a → a.status ≢ status.No
      by (counted same k) = replay_not_no replay a k
      by (miscounted other k) = (count_refuses _ _ a k).no_not

  module _ (text : List ℕ) (is : chain_of text ≡ Ok c) (a : Answer) where
    run_shown : (r : Result (List (List Fraction)) RunFault) → replay ≡ r
        → IsOfWords c request.words → a ≡ run_answer c.first.names c.first.locals r
        → a.status ≡ status.Yes → ShowsChainRun text request a.text
    run_shown (Ok found) e same k h =
        let ended = chain_replay_ends c request.values request.words same found e in
        record {
          chain = c;
          is_chain = is;
          run = record {
            start = request.values;
            words = request.words;
            end = ended.0;
            is_start = chain_replay_start c request.values request.words same found e;
            is_end = ended.1;
          };
          is_from = refl;
          is_along = refl;
          says = text_of k ∙ ap (λ ss. (run_answer c.first.names c.first.locals (Ok ss)).text)
              (chain_replay_states c request.values request.words same found e);
        }
    run_shown (Err fault) e same k h =
        absurd ((run_refuses c.first.names c.first.locals fault a k).yes_not h)

    shown : a ≡ chain_run_answer c request → a.status ≡ status.Yes
        → ShowsChainRun text request a.text
    shown e h = by (by_count a e)
      where
        by : Answered a → ShowsChainRun text request a.text
        by (counted same k) = run_shown replay refl same k h
        by (miscounted other k) = absurd ((count_refuses _ _ a k).yes_not h)

    run_fault : (r : Result (List (List Fraction)) RunFault) → replay ≡ r
        → IsOfWords c request.words → a ≡ run_answer c.first.names c.first.locals r
        → a.status ≢ status.Yes → IsChainRunFault text request a
    run_fault (Ok found) e same k not = absurd (not (status_of k))
    run_fault (Err fault) e same k not = record {
      chain = c;
      is_chain = is;
      of_words = same;
      fault = fault;
      is = e;
      says = k;
    }

    told_refused : a ≡ chain_run_answer c request → a.status ≢ status.Yes
        → IsMiscounted text request a ⊎ IsChainRunFault text request a
    told_refused e not = by (by_count a e)
      where
        by : Answered a → IsMiscounted text request a ⊎ IsChainRunFault text request a
        by (counted same k) = inr (run_fault replay refl same k not)
        by (miscounted other k) = inl (record { chain = c; is_chain = is; other = other; says = k })

module _ (request : Request) where
  abbrev path : OneFile (Chain (Expr ℕ)) Fault
  path = reading_chain request.file (λ c m. ⊥) (λ c m a. a ≡ chain_run_answer c request)

  pub settled : EachAnswer (λ a. IsSettled a.status) (course request)
  settled = one_file.settled path (λ c m a h. (answer_plain request c a h).settled)

  module _ (call : Call) (f : IsCarriedOut (course request) call) where
    pub replays_chain : ReplaysChain request call
    replays_chain = record {
      states = writes path call f concludes_yes (λ text. ShowsChainRun text request)
          (λ text c a e h yes. shown request c text e a h yes);
      why = λ is. refused path call f call.status is
          (λ text a. IsMiscounted text request a ⊎ IsChainRunFault text request a)
          (λ text c a e h same refusing. told_refused request c text e a h refusing.yes_not) refl;
      no = never_ends path call f concludes_no (λ c m a h. answer_not_no request c a h);
      exhausted = never_ends path call f concludes_exhausted
          (λ c m a h. (answer_plain request c a h).budget_not);
      journal = kept path call f (λ c m h. h);
      chain_fault = ends_at_fault path call f;
      miscounted = λ c r other. ends_so (course request) call f
          (count_answer (length request.words) (length (stages_of c)))
          (λ s. answered path call f c r s ∙ as_miscounted request c other);
      ends = λ c r same. ends_so (course request) call f
          (run_answer c.first.names c.first.locals
          (chain_replay_of c request.values request.words))
          (λ s. answered path call f c r s ∙ as_counted request c same);
      long = long path call f;
    }
