-- Answers to an analysis, from what it gave.
--   limit_opened     the limit of the meter behind it
--   closed_of        an analysis that has a basis, with its cofactors;  finds_of: without;  found_said: what is answered then
--   refused_analysed, refused_said     where it was refused;  refused_named: its variables are the loop's
use Rattle.std.proofs.Common.{◌≡◌, ℕ, List, length, sym, ap, subst, ◌∙◌, Result}
use Rattle.std.specs.Prelude.{Some, IfOk}
use Rattle.std.specs.declared.alloc.AllocError.{AllocError}
use Rattle.std.proofs.lemmas.Result.{IfOk-weaker}
use Rattle.algebra.specs.Fraction.{rationals}
use Rattle.polynomials.specs.Order.{grevlex}
use Rattle.machines.specs.Journal.{Journal}
use Rattle.machines.specs.Reduced.{IsReducedFor}
use Rattle.loops.specs.Certificate.{IsValid}
use Rattle.loops.specs.Inv.{Inv}
use Rattle.loops.specs.Program.{Expr, Program}
use Rattle.loop_model.specs.Maps.{AreFree}
use Rattle.poly.specs.Seen.{terms_each}
use Rattle.invariant_fix.specs.Answers.{certificate_of, IsClosedBy, IsLeastLevel}
use Rattle.invariant_fix.specs.Refusals.{AllHaveForms, HasFollowed, IsRefused}
use Rattle.invariant_fix.specs.declared.errors.AnalyseError.{AnalyseError}
use Rattle.invariant_fix.specs.declared.found.Analysis.{Analysis}
use Rattle.analysis_commands.specs.Naming.{AreNamed}
use Rattle.invariant_fix.proofs.Options.{if_ok_two}
use Rattle.analysis_commands.proofs.Naming.{named}
use Rattle.io_edge.specs.declared.answer.Answer as made
use Rattle.analysis_commands.specs.declared.kind.Kind.{Kind}
use Rattle.analysis_commands.specs.Headline.{IsToldBack}
use Rattle.analysis_commands.specs.Texts.{found_answer}
use Rattle.analysis_commands.specs.RefusalTexts.{refusal_answer}
use Rattle.io_edge.specs.Views.{answer_view}
use Rattle.analysis_commands.specs.Analyses.{empty_journal, HasFound, HasClosed, found, refused, Analyses, HasAnalysed}

-- the meter is opened before the analysis, and its limit kept
module _ (l : Program (Expr ℕ)) (budget : ℕ) (before m : Journal)
    (is : before ≡ empty_journal budget)
    (kept : m.limit ≡ before.limit) where
  limit : m.limit ≡ budget
  limit = kept ∙ ap (λ (j : Journal). j.limit) is

  pub has_analysed : HasFollowed l m.entries → HasAnalysed l budget m
  has_analysed follows = record { limit = limit; follows = follows }

  -- the names and the elements are the loop's and the basis's
  module _ (r : Result made.Answer AllocError) (names : List (List ℕ))
      (same : names ≡ l.names) where
    pub found_said : (kind : Kind) (a : Analysis) → HasClosed l m (certificate_of a)
        → IsValid l (certificate_of a)
        → IfOk r (λ x. answer_view x ≡ found_answer kind names (certificate_of a))
        → IfOk r (λ x. IsToldBack kind names (length (certificate_of a).steps) (certificate_of a))
        → IfOk r (λ x. Analyses kind l budget m (answer_view x))
    found_said kind a closed valid told reads =
        let c = certificate_of a in
        let branches : length c.steps ≡ length l.branches = closed.steps.count
        ∙ closed.ended.finished.follows.are_forms.count in
        if_ok_two _ _ _ r (λ x says read. record {
          ending = found c;
          ends = (
            limit,
            closed,
            valid,
            subst (λ n. IsToldBack kind l.names n c) branches
                (subst (λ ns. IsToldBack kind ns (length c.steps) c) same read),
          );
          says = ap Some (sym (says ∙ ap (λ ns. found_answer kind ns c) same));
        }) told reads

    pub refused_analysed : (kind : Kind) (e : AnalyseError) (x : made.Answer)
        → IsRefused l before m e → refusal_answer names budget e ≡ Some (answer_view x)
        → Analyses kind l budget m (answer_view x)
    refused_analysed kind e x cause says = record {
      ending = refused e;
      ends = (limit, subst (λ j. IsRefused l j m e) is cause);
      says = subst (λ ns. refusal_answer ns budget e ≡ Some (answer_view x)) same says;
    }

    pub refused_said : (kind : Kind) (e : AnalyseError) → IsRefused l before m e
        → IfOk r (λ x. refusal_answer names budget e ≡ Some (answer_view x))
        → IfOk r (λ x. Analyses kind l budget m (answer_view x))
    refused_said kind e cause told =
        IfOk-weaker r _ _ (λ x says. refused_analysed kind e x cause says) told

pub closed_of : (l : Program (Expr ℕ)) (m : Journal) (a : Analysis) → AreFree l → AllHaveForms l
    → IsClosedBy l a m.entries → IsLeastLevel l a.rounds
    → IsReducedFor rationals grevlex (length l.names) (terms_each a.basis.items) (Inv l)
    → HasClosed l m (certificate_of a)
closed_of l m a free forms closed least reduced =
    record {
      ended = record {
        free = free;
        forms = forms;
        rounds = a.rounds;
        finished = closed.finished;
        least = least;
        basis = reduced;
        short = closed.short;
      };
      steps = closed.steps;
    }

pub finds_of : (l : Program (Expr ℕ)) (m : Journal) (a : Analysis) → AreFree l → AllHaveForms l
    → IsClosedBy l a m.entries → IsLeastLevel l a.rounds
    → IsReducedFor rationals grevlex (length l.names) (terms_each a.basis.items) (Inv l)
    → HasFound l m (terms_each a.basis.items)
finds_of l m a free forms closed least reduced =
    (closed_of l m a free forms closed least reduced).ended

pub refused_named : (l : Program (Expr ℕ)) (before m : Journal) (e : AnalyseError)
    (names : List (List ℕ)) → names ≡ l.names → IsRefused l before m e → AreNamed (length names) e
refused_named l before m e names same cause =
    subst (λ ns. AreNamed (length ns) e) (sym same) (named l before m e cause)
