-- Tests by computation that nothing of a trace is past, and traces by computation.
--   trace_fits A s                  nothing of the state is past
--   TraceRun l forms k n es done    with these forms the entries of at most n steps of the trace of k rounds are es, then it has given `done`, and no state on the way is past, by the test
--   trace_never_past                of a loop with these forms, no state of the trace is past
--   traced_by                       its entries are the finished trace
use Rattle.std.proofs.Common.{◌≡◌, inl, inr, ℕ, Bool, true, List, [], ◌∷◌, map, subst, Option, Some, None}
use Rattle.std.specs.Prelude.{◌&&◌}
use Rattle.algebra.specs.Fraction.{Fraction, rationals}
use Rattle.polynomials.specs.Order.{Rank, grevlex}
use Rattle.polynomials.specs.Terms.{Terms}
use Rattle.machines.specs.Completion as completion
use Rattle.machines.specs.Division as division
use Rattle.machines.specs.Elimination.{free_part}
use Rattle.machines.specs.Journal.{Entry}
use Rattle.machines.specs.Run.{IsRun}
use Rattle.machines.specs.Tidying as tidying
use Rattle.machines.proofs.Runs.{trace, run_of}
use Rattle.loops.specs.Program.{Expr, Program}
use Rattle.rounds.specs.Analysis.{Setting, Work, block, order}
use Rattle.rounds.specs.Journal.{setting_of, AreForms}
use Rattle.rounds.proofs.Forms.{forms_are_one}
use Rattle.corollaries.specs.Full.{WrittenForm, as_form}
use Rattle.corollaries.specs.Followed.{Follows, IsFinished, IsPast, IsPastDividing, IsPastDividends, IsPastTidying, IsPastDivided, IsPastCompleting}
use Rattle.corollaries.specs.Trace.{Dividend, Results, State, fresh, completing, dividing, tidying_up, linking, finished, list_dividends, link_dividends, next, moves}
use Rattle.analysis_commands.proofs.Fitting.{first_holds, second_holds, division_fits, division_holds, pair_fits, pair_holds, tidying_fits, tidying_holds, acting_fits, acting_holds, work_fits, work_holds, all_fit, each_fits_on}

-- behind what has ended
unfoldable pub ended_fits : {X : Type 0} → Option X → Bool → Bool
ended_fits None b = b
ended_fits (Some x) b = true

ended_holds : {X : Type 0} (o : Option X) (b : Bool) → ended_fits o b ≡ true → o ≡ None → b ≡ true
unfolding ended_fits
ended_holds o b e none = subst (λ o. ended_fits o b ≡ true) none e

module _ (O : Rank) (gs : List (Terms Fraction)) where
  unfoldable pub dividing_fits : division.State Fraction → Bool → Bool
  dividing_fits d later = division_fits gs d && ended_fits (division.next rationals O gs d) later

  dividing_holds : (d : division.State Fraction) (b : Bool) (P : Type 0) → (b ≡ true → P → ⊥)
      → dividing_fits d b ≡ true → IsPastDividing O gs d P → ⊥
  unfolding dividing_fits
  dividing_holds d b P h e (inl p) = division_holds gs d (first_holds _ _ e) p
  dividing_holds d b P h e (inr (ended, p)) =
      h (ended_holds (division.next rationals O gs d) b (second_holds _ _ e) ended) p

  unfoldable pub dividends_fit : List Dividend → Bool → Bool
  dividends_fit [] later = later
  dividends_fit ((Some a, p) ∷ left) later = pair_fits gs a
  dividends_fit ((None, p) ∷ left) later =
      dividing_fits (division.initial_state gs p) (dividends_fit left later)

  dividends_hold : (left : List Dividend) (b : Bool) (P : Type 0) → (b ≡ true → P → ⊥)
      → dividends_fit left b ≡ true → IsPastDividends O gs left P → ⊥
  unfolding dividends_fit IsPastDividends
  dividends_hold [] b P h e p = h e p
  dividends_hold ((Some a, q) ∷ left) b P h e p = pair_holds gs a e p
  dividends_hold ((None, q) ∷ left) b P h e p =
      dividing_holds (division.initial_state gs q) (dividends_fit left b)
      (IsPastDividends O gs left P) (λ f past. dividends_hold left b P h f past) e p

none_past : (b : Bool) → b ≡ true → ⊥ → ⊥
none_past b e p = p

module _ (A : Setting) where
  unfoldable pub trace_tidying_fits : Work → List (Terms Fraction) → List (Terms Fraction) → Bool
  trace_tidying_fits w list gs =
      tidying_fits gs
      && ended_fits (tidying.next rationals grevlex gs)
      (dividends_fit grevlex gs (link_dividends A w list) true)

  trace_tidying_holds : (w : Work) (list gs : List (Terms Fraction))
      → trace_tidying_fits w list gs ≡ true → IsPastTidying A w list gs → ⊥
  unfolding trace_tidying_fits
  trace_tidying_holds w list gs e (inl p) = tidying_holds gs (first_holds _ _ e) p
  trace_tidying_holds w list gs e (inr (ended, p)) =
      dividends_hold grevlex gs (link_dividends A w list) true ⊥
      (none_past true)
      (ended_holds (tidying.next rationals grevlex gs)
      (dividends_fit grevlex gs (link_dividends A w list) true)
      (second_holds _ _ e) ended) p

  unfoldable pub divided_fits : Work → List (Terms Fraction) → List Dividend → Bool
  divided_fits w gs left =
      dividends_fit (order A w) gs left
      (trace_tidying_fits w gs (tidying.by_lead grevlex (free_part (block A w) gs)))

  divided_holds : (w : Work) (gs : List (Terms Fraction)) (left : List Dividend)
      → divided_fits w gs left ≡ true → IsPastDivided A w gs left → ⊥
  unfolding divided_fits
  divided_holds w gs left e p =
      dividends_hold (order A w) gs left
      (trace_tidying_fits w gs (tidying.by_lead grevlex (free_part (block A w) gs)))
      (IsPastTidying A w gs (tidying.by_lead grevlex (free_part (block A w) gs)))
      (λ f past.
      trace_tidying_holds w gs (tidying.by_lead grevlex (free_part (block A w) gs)) f past) e p

  unfoldable pub completing_fits : Work → completion.State Fraction → Bool
  completing_fits w s =
      acting_fits s.basis s.waiting s.current
      && ended_fits (completion.next rationals (order A w) s)
      (divided_fits w s.basis (list_dividends A w s.basis))

  completing_holds : (w : Work) (s : completion.State Fraction) → completing_fits w s ≡ true
      → IsPastCompleting A w s → ⊥
  unfolding completing_fits
  completing_holds w s e (inl p) = acting_holds s.basis s.waiting s.current (first_holds _ _ e) p
  completing_holds w s e (inr (ended, p)) =
      divided_holds w s.basis (list_dividends A w s.basis)
      (ended_holds (completion.next rationals (order A w) s)
      (divided_fits w s.basis (list_dividends A w s.basis)) (second_holds _ _ e) ended) p

  unfoldable pub trace_fits : State → Bool
  trace_fits fresh = true
  trace_fits (completing done w s) = work_fits A w && completing_fits w s
  trace_fits (dividing done w gs row d) =
      work_fits A w && dividing_fits (order A w) gs d (divided_fits w gs row.left)
  trace_fits (tidying_up done w t gs) = work_fits A w && trace_tidying_fits w t.list gs
  trace_fits (linking done w t out row d) =
      work_fits A w && dividing_fits grevlex out d (dividends_fit grevlex out row.left true)

  trace_holds : (s : State) → trace_fits s ≡ true → IsPast A s → ⊥
  unfolding trace_fits
  trace_holds fresh e (inl p) = p
  trace_holds fresh e (inr p) = p
  trace_holds (completing done w s) e (inl p) = work_holds A w (first_holds _ _ e) p
  trace_holds (completing done w s) e (inr p) = completing_holds w s (second_holds _ _ e) p
  trace_holds (dividing done w gs row d) e (inl p) = work_holds A w (first_holds _ _ e) p
  trace_holds (dividing done w gs row d) e (inr p) =
      dividing_holds (order A w) gs d (divided_fits w gs row.left) (IsPastDivided A w gs row.left)
      (λ f past. divided_holds w gs row.left f past) (second_holds _ _ e) p
  trace_holds (tidying_up done w t gs) e (inl p) = work_holds A w (first_holds _ _ e) p
  trace_holds (tidying_up done w t gs) e (inr p) =
      trace_tidying_holds w t.list gs (second_holds _ _ e) p
  trace_holds (linking done w t out row d) e (inl p) = work_holds A w (first_holds _ _ e) p
  trace_holds (linking done w t out row d) e (inr p) =
      dividing_holds grevlex out d (dividends_fit grevlex out row.left true)
      (IsPastDividends grevlex out row.left ⊥)
      (λ f past. dividends_hold grevlex out row.left true ⊥ (none_past true) f past)
      (second_holds _ _ e) p

-- ---- a trace
pub record TraceRun (l : Program (Expr ℕ)) (forms : List WrittenForm) (k n : ℕ) (es : List Entry)
    (done : Results) : Type 0 where
  pub fits : all_fit (moves (setting_of l (map as_form forms) None) k)
      (trace_fits (setting_of l (map as_form forms) None)) n fresh ≡ true
  pub entries : (trace (moves (setting_of l (map as_form forms) None) k) n fresh).0 ≡ es
  pub ends : next (setting_of l (map as_form forms) None) k
      (trace (moves (setting_of l (map as_form forms) None) k) n fresh).1 ≡ finished done

module _ (l : Program (Expr ℕ)) (forms : List WrittenForm) (are : AreForms l (map as_form forms))
    (k n : ℕ) (es : List Entry) (done : Results) (r : TraceRun l forms k n es done) where
  pub trace_never_past : (fs : List Entry) (s : State) (f : Follows l k fs s)
      → IsPast (setting_of l (map as_form f.forms) None) s → ⊥
  trace_never_past fs s f p =
      let same : map as_form f.forms ≡ map as_form forms =
      forms_are_one l (map as_form f.forms) (map as_form forms) f.are_forms are in
      trace_holds (setting_of l (map as_form forms) None) s
      (each_fits_on (moves (setting_of l (map as_form forms) None) k)
      (trace_fits (setting_of l (map as_form forms) None)) n fresh r.fits fs s
      (subst (λ gs. IsRun (moves (setting_of l gs None) k) fresh fs s) same f.run))
      (subst (λ gs. IsPast (setting_of l gs None) s) same p)

  pub traced_by : IsFinished l k es done
  traced_by =
      let m = moves (setting_of l (map as_form forms) None) k in record {
        state = (trace m n fresh).1;
        follows = record {
          forms = forms;
          are_forms = are;
          run = subst (λ es. IsRun m fresh es (trace m n fresh).1) r.entries (run_of m n fresh);
        };
        is = r.ends;
      }
