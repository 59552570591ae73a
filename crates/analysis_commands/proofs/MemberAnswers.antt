-- Answers to `member`, from what the analysis and the division gave.
--   basis_arity        the division's polynomial has the variables of the basis
--   cofactors_arity    the cofactors have those of the loop
--   told_said          what the division says
--   undivided_said     where it was refused
--   unanalysed_said    where the analysis was
--   analysed_asked, divided_asked    the meter behind it
--   formed_says        how the course goes on where the equation has a polynomial
--   unformed_says      where it has none
use Rattle.std.proofs.Common.{◌≡◌, ◌↔◌, ℕ, List, [], length, refl, sym, ap, subst, ◌∙◌, Ok, Err, Result, inl, inr}
use Rattle.std.specs.Prelude.{◌⊎◌, All, Some, IfOk}
use Rattle.std.specs.declared.alloc.AllocError.{AllocError}
use Rattle.std.proofs.lemmas.Result.{IfOk-weaker}
use Rattle.algebra.specs.Fraction.{Fraction}
use Rattle.polynomials.specs.Terms.{Terms}
use Rattle.machines.specs.Journal.{Journal}
use Rattle.loops.specs.Inv.{Inv}
use Rattle.loops.specs.Program.{Expr, Program}
use Rattle.rounds.specs.Journal.{IsOut}
use Rattle.poly.specs.Seen.{terms_in, terms_each}
use Rattle.loop_model.specs.FracPoly.{FracPoly}
use Rattle.divide.specs.declared.EngineError.{EngineError}
use Rattle.divide.specs.declared.EngineError.TheVariants as engine_error
use Rattle.invariant_fix.specs.Membership.{SaysYes, HasAsked as HasWorked, Answers, HasAnswered, HasCofactorsOver, HasSum, IsWideAsking, IsAskingOutOfUnits}
use Rattle.invariant_fix.specs.Refusals.{HasFollowed, IsRefused}
use Rattle.invariant_fix.specs.declared.errors.AnalyseError.{AnalyseError}
use Rattle.invariant_fix.specs.declared.membership.Membership as declared
use Rattle.invariant_fix.specs.declared.membership.Membership.TheVariants as membership
use Rattle.poly_text.specs.Reasons.{Fault}
use Rattle.io_edge.specs.declared.answer.Answer as made
use Rattle.io_edge.specs.Texts.{Answer}
use Rattle.io_edge.specs.Views.{answer_view, seen_answer}
use Rattle.io_edge.specs.Course.{ends}
use Rattle.io_edge.specs.Change.{Change, ◌⟶◌}
use Rattle.io_edge.specs.Outcome.{Says}
use Rattle.io_edge.proofs.Going.{at_end, replied}
use Rattle.io_edge.specs.Outside.{FilesView}
use Rattle.analysis_commands.specs.Analyses.{empty_journal, HasFound, HasAnalysed}
use Rattle.command_parts.specs.Equations.{equation_in}
use Rattle.analysis_commands.specs.MemberCourse.{HasAskedFor, AnswersEquation, by_equation, with_question}
use Rattle.analysis_commands.specs.Questions.{unanalysed, undivided, yes, no, Divides, IsUndivided, Asks, IsFollowingAsked, HasAsked, undivided_answer, membership_answer}
use Rattle.analysis_commands.specs.RefusalTexts.{refusal_answer}
use Rattle.analysis_commands.proofs.BasisElements.{elements_over}
use Rattle.analysis_commands.proofs.MemberJournals.{follows_asked, asking_stopped, asking_out, asking_worked}
use Rattle.command_parts.specs.EquationReading.{equation_refusal, IsPolynomialOf, IsUnread}

pub basis_arity : (l : Program (Expr ℕ)) (m : Journal) (gs : List FracPoly) (n : ℕ)
    → n ≡ length l.names → HasFound l m (terms_each gs)
    → All (λ (p : FracPoly). p.arity ≡ n) gs
basis_arity l m gs n same f =
    subst (λ k. All (λ (p : FracPoly). p.arity ≡ k) gs) (sym same)
    (elements_over (length l.names) gs (Inv l) f.basis)

pub cofactors_arity : (l : Program (Expr ℕ)) (n : ℕ) (names : List (List ℕ))
    (a : declared.Membership)
    → n ≡ length l.names → names ≡ l.names → HasCofactorsOver n a
    → HasCofactorsOver (length names) a
cofactors_arity l n names a size same h =
    subst (λ k. HasCofactorsOver k a) (size ∙ sym (ap length same)) h

-- ---- behind an analysis that has a basis
module _ (l : Program (Expr ℕ)) (p : Terms Fraction) (budget : ℕ) (before after : Journal)
    (opened_with : before.limit ≡ budget) (kept : after.limit ≡ before.limit) where
  limit : after.limit ≡ budget
  limit = kept ∙ opened_with

  module _ (gs : List FracPoly) (f : HasFound l before (terms_each gs)) where
    abbrev HasDone : declared.Membership → Type 0
    HasDone a = HasAnswered l p f.rounds (terms_each gs) after.entries a

    abbrev divides : (a : declared.Membership) → HasDone a → Divides l p after (terms_each gs)
    divides a h = record {
      free = f.free;
      forms = f.forms;
      rounds = f.rounds;
      least = f.least;
      basis = f.basis;
      analysis = before.entries;
      finished = f.finished;
      short = f.short;
      last = h.last;
      answered = h.answered;
    }

    abbrev follows : HasWorked (terms_each gs) p before after → IsFollowingAsked l p after
    follows h = asking_worked l p f.rounds (terms_each gs) before after f.finished h

    pub divided_asked : HasWorked (terms_each gs) p before after → HasAsked l p budget after
    divided_asked h = record { limit = limit; follows = inr (follows h) }

    module _ (r : Result made.Answer AllocError) where
      abbrev IsAnswered : Type 0
      IsAnswered = IfOk r (λ x. Asks l p budget after (answer_view x))

      module _ (names : List (List ℕ)) (same : names ≡ l.names) where
        pub told_said : (a : declared.Membership) → HasDone a
            → Answers (terms_each gs) p before after a
            → HasSum (terms_each gs) p a → (SaysYes a ↔ Inv l p)
            → IfOk r (λ x. answer_view x ≡ membership_answer names a) → IsAnswered
        told_said (membership.Yes qs) h t sum is told =
            IfOk-weaker r _ _ (λ x says. record {
              decision = yes (terms_each qs.items);
              ends = (
                limit,
                record {
                  list = terms_each gs;
                  divides = divides (membership.Yes qs) h;
                  gone = h.tells.0;
                  cofactors = record {
                    ends = record {
                      events = t.finished.work.events;
                      last = t.last;
                      run = t.finished.work.run;
                      ended = t.finished.ended;
                    };
                    gone = t.tells.0;
                    are = t.tells.1;
                  };
                  sum = sum;
                  invariant = is.0 tt;
                },
              );
              says =
                  ap Some (sym (says ∙ ap (λ ns. membership_answer ns (membership.Yes qs)) same));
            }) told
        told_said membership.No h t sum is told =
            IfOk-weaker r _ _ (λ x says. record {
              decision = no;
              ends = (
                limit,
                record {
                  list = terms_each gs;
                  divides = divides membership.No h;
                  left = h.tells;
                  none = is.1;
                },
              );
              says = ap Some (sym says);
            }) told

      -- a refusal
      abbrev HasStopped : Type 0
      HasStopped = IsWideAsking (terms_each gs) p before after

      abbrev IsWithout : Type 0
      IsWithout = IsAskingOutOfUnits (terms_each gs) p before after

      module _ (x : EngineError) (wide : x ≡ engine_error.Wide → HasStopped)
          (exhausted : x ≡ engine_error.Budget → IsWithout) where
        stopped : HasStopped → IsUndivided l p budget after engine_error.Wide
        stopped h =
            let at = asking_stopped l p f.rounds (terms_each gs) before after f.finished h in
            (f.free, f.forms, at)

        out : IsWithout → IsUndivided l p budget after engine_error.Budget
        out h = (
          f.free,
          f.forms,
          subst (λ n. IsOut l (Some p) n after.entries) limit
              (asking_out l p f.rounds (terms_each gs) before after f.finished h),
        )

        undivided_is : (y : EngineError) → x ≡ y → IsUndivided l p budget after y
        undivided_is engine_error.Wide e = stopped (wide e)
        undivided_is engine_error.Budget e = out (exhausted e)
        undivided_is engine_error.Memory e = tt

        pub undivided_said : IfOk r (λ a. undivided_answer budget x ≡ Some (answer_view a))
            → IsAnswered
        undivided_said told =
            IfOk-weaker r _ _ (λ a says. record {
              decision = undivided x;
              ends = (limit, undivided_is x refl);
              says = says;
            }) told

-- ---- behind an analysis that has none
pub unanalysed_said : (l : Program (Expr ℕ)) (p : Terms Fraction) (budget : ℕ) (before m : Journal)
    → before ≡ empty_journal budget → m.limit ≡ before.limit
    → (r : Result made.Answer AllocError) (names : List (List ℕ)) → names ≡ l.names
    → (e : AnalyseError) → IsRefused l before m e
    → IfOk r (λ x. refusal_answer names budget e ≡ Some (answer_view x))
    → IfOk r (λ x. Asks l p budget m (answer_view x))
unanalysed_said l p budget before m is kept r names same e cause told =
    IfOk-weaker r _ _ (λ x says. record {
      decision = unanalysed e;
      ends = (kept ∙ ap (λ (j : Journal). j.limit) is, subst (λ j. IsRefused l j m e) is cause);
      says = subst (λ ns. refusal_answer ns budget e ≡ Some (answer_view x)) same says;
    }) told

pub analysed_asked : (l : Program (Expr ℕ)) (p : Terms Fraction) (budget : ℕ) (m : Journal)
    → HasAnalysed l budget m → HasAsked l p budget m
analysed_asked l p budget m h = record { limit = h.limit; follows = go h.follows }
  where
    go : HasFollowed l m.entries → (m.entries ≡ []) ⊎ IsFollowingAsked l p m
    go (inl none) = inl none
    go (inr f) = inr (record {
      state = f.state;
      follows = follows_asked l p m.entries f.state f.follows;
    })

-- ---- the equation
module _ (l : Program (Expr ℕ)) (text : List ℕ) (budget : ℕ) (before : Journal)
    (files : Change FilesView) (idle : files.after.reads ≡ files.before.reads)
    (untried : files.after.tries ≡ files.before.tries)
    (result : Result made.Answer AllocError) where
  abbrev Goes : Result (Expr ℕ) Fault → Journal → Type 0
  Goes said m =
      Says
      (by_equation said (λ e. ends (HasAskedFor l e budget) (AnswersEquation l e budget before)))
      files (before ⟶ m) (seen_answer result)

  abbrev IfAnswered : (Answer → Type 0) → Type 0
  IfAnswered P = IfOk result (λ a. P (answer_view a))

  pub formed_says : (p : FracPoly) → IsPolynomialOf l text p → (m : Journal)
      → HasAsked l (terms_in p) budget m → IfAnswered (Asks l (terms_in p) budget m)
      → Says (with_question before budget text l) files (before ⟶ m) (seen_answer result)
  formed_says p is m asked told =
      subst (λ said. Goes said m) (sym is.is_equation)
      (at_end files _ _ before m (seen_answer result) idle untried
      (inr (is.free, subst (λ q. HasAsked l q budget m) is.terms asked))
      (replied result (AnswersEquation l is.equation budget before m)
      (IfOk-weaker result _ _
      (λ a asks. inr (is.free, subst (λ q. Asks l q budget m (answer_view a)) is.terms asks))
      told)))

  -- the meter is as it was
  pub unformed_says : IfAnswered (IsUnread l (equation_in l.names text))
      → Says (with_question before budget text l) files (before ⟶ before) (seen_answer result)
  unformed_says told = go (equation_in l.names text) told
    where
      go : (said : Result (Expr ℕ) Fault) → IfAnswered (IsUnread l said) → Goes said before
      go (Err fault) says =
          at_end files _ _ before before (seen_answer result) idle untried (inl refl)
          (replied result (λ a. a ≡ equation_refusal fault) says)
      go (Ok e) says =
          at_end files _ _ before before (seen_answer result) idle untried (inl refl)
          (replied result (AnswersEquation l e budget before before)
          (IfOk-weaker result _ _ (λ a stop. inl (stop, refl)) says))
