-- Analyses by computation.
--   Run l given forms asked n es end      from what is given, with these forms the entries of at most n steps are es, then comes the end, and no state on the way is past, by the test
--   never_past, never_too_long      of a loop with these forms, no state of the analysis is past, and no task is too long
--   comes_by                        its entries are a journal, behind which the end comes
use Rattle.std.proofs.Common.{◌≡◌, ℕ, List, subst, Option, true}
use Rattle.polynomials.specs.Terms.{Terms}
use Rattle.algebra.specs.Fraction.{Fraction}
use Rattle.machines.specs.Journal.{Entry}
use Rattle.machines.specs.Run.{IsRun}
use Rattle.machines.proofs.Runs.{trace, run_of}
use Rattle.loops.specs.Program.{Expr, Program}
use Rattle.rounds.specs.Analysis.{State, Step, fresh, next, moves}
use Rattle.rounds.specs.Form.{Form}
use Rattle.rounds.specs.Journal.{setting_from, AreForms, FollowsFrom, ComesFrom}
use Rattle.rounds.specs.Past.{IsPast}
use Rattle.rounds.proofs.Forms.{forms_are_one}
use Rattle.invariant_fix.specs.Long.{IsLong}
use Rattle.analysis_commands.proofs.Fitting.{all_fit, state_fits, never, never_long}

pub record Run (l : Program (Expr ℕ)) (given : Option (List (Terms Fraction))) (forms : List Form)
    (asked : Option (Terms Fraction)) (n : ℕ) (es : List Entry) (end : Step) : Type 0 where
  pub fits : all_fit (moves (setting_from l given forms asked))
      (state_fits (setting_from l given forms asked)) n
      fresh ≡ true
  pub entries : (trace (moves (setting_from l given forms asked)) n fresh).0 ≡ es
  pub ends : next (setting_from l given forms asked)
      (trace (moves (setting_from l given forms asked)) n fresh).1
      ≡ end

module _ (l : Program (Expr ℕ)) (given : Option (List (Terms Fraction))) (forms : List Form)
    (are : AreForms l forms) (asked : Option (Terms Fraction)) (n : ℕ) (es : List Entry)
    (end : Step) (r : Run l given forms asked n es end) where
  pub never_past : (fs : List Entry) (s : State) (f : FollowsFrom l given asked fs s)
      → IsPast (setting_from l given f.forms asked) s → ⊥
  never_past fs s f p =
      let same : f.forms ≡ forms = forms_are_one l f.forms forms f.are_forms are in
      never (setting_from l given forms asked) n fresh r.fits fs s
      (subst (λ gs. IsRun (moves (setting_from l given gs asked)) fresh fs s) same f.run)
      (subst (λ gs. IsPast (setting_from l given gs asked) s) same p)

  pub never_too_long : (fs : List Entry) (s : State) (f : FollowsFrom l given asked fs s)
      → IsLong (setting_from l given f.forms asked) s → ⊥
  never_too_long fs s f p =
      let same : f.forms ≡ forms = forms_are_one l f.forms forms f.are_forms are in
      never_long (setting_from l given forms asked) n fresh r.fits fs s
      (subst (λ gs. IsRun (moves (setting_from l given gs asked)) fresh fs s) same f.run)
      (subst (λ gs. IsLong (setting_from l given gs asked) s) same p)

  pub comes_by : ComesFrom l given asked es end
  comes_by =
      let m = moves (setting_from l given forms asked) in record {
        state = (trace m n fresh).1;
        follows = record {
          forms = forms;
          are_forms = are;
          run = subst (λ es. IsRun m fresh es (trace m n fresh).1) r.entries (run_of m n fresh);
        };
        is = r.ends;
      }
