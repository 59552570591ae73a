-- Along a trace: what each state has behind it.
--   AllDivided O gs js rows      the divisions of the list_dividends js by gs have ended, with the rows
--   WorkDone w s                 the task w has ended, with the stage s
--   Good s                       what holds at a state;  StepGood: at what comes next
--   good_run                     so it is along a run
use Rattle.std.proofs.Common.{◌≡◌, ℕ, suc, pred, ◌<◌, ◌≤◌, Bool, true, false, cond, ltb, ltb-true, ltb-false, List, [], ◌∷◌, ◌++◌, length, Option, Some, None, refl, sym, ap, subst, ◌∙◌, arith, append-nil, append_assoc}
use Rattle.algebra.specs.Fraction.{Fraction, rationals}
use Rattle.polynomials.specs.Terms.{Terms}
use Rattle.polynomials.specs.Order.{Rank, grevlex}
use Rattle.machines.specs.Event.{Event}
use Rattle.machines.specs.Elimination.{free_part}
use Rattle.machines.specs.Journal.{Entry}
use Rattle.machines.specs.Run.{IsRun, HasEnded, Ends}
use Rattle.machines.specs.Completion as completion
use Rattle.machines.specs.Tidying as tidying
use Rattle.machines.specs.Division as division
use Rattle.machines.proofs.Runs.{run_then}
use Rattle.rounds.specs.Analysis.{Setting, Work, starts, iteration, iteration_meet, orbit, meet, block, order, starting}
use Rattle.rounds.specs.Results.{LeadsTo}
use Rattle.corollaries.specs.Stage.{Stage}
use Rattle.corollaries.specs.Full.{BranchStages}
use Rattle.corollaries.specs.Traced.{IsDivided, IsCompleted, IsTidied}
use Rattle.corollaries.specs.Trace.{Dividend, CompletedList, Divisions, Results, no_results, with_stage, with_round, State, fresh, completing, dividing, tidying_up, linking, Step, goes, finished, start_of, list_dividends, link_dividends, stage_of, begin_orbit, after_round, after_branch, after, next_or, link_from, tidy_from, divide_from, next, move_of, moves}

-- ---- runs
begun_run : {S E : Type 0} (next : S → Option (E × S)) (s : S) → LeadsTo next s s
unfolding IsRun
begun_run next s = record { events = []; run = refl }

one_more : {S E : Type 0} (next : S → Option (E × S)) (s t u : S) (e : E) → LeadsTo next s t
    → next t ≡ Some (e, u) → LeadsTo next s u
one_more next s t u e l h = record {
  events = l.events ++ e ∷ [];
  run = run_then next s t u l.events e l.run h;
}

abbrev pub ended_at : {S E : Type 0} (next : S → Option (E × S)) (s t : S) → LeadsTo next s t
    → HasEnded next t → Ends next s
ended_at next s t l h = record { events = l.events; last = t; run = l.run; ended = h }

-- ---- divisions
module _ (O : Rank) (gs : List (Terms Fraction)) where
  abbrev pub AllDivided : List Dividend → List (List (Terms Fraction)) → Type 0
  AllDivided [] [] = Unit {0}
  AllDivided [] (r ∷ rows) = ⊥
  AllDivided (j ∷ js) [] = ⊥
  AllDivided (j ∷ js) (r ∷ rows) = IsDivided O gs j.1 r × AllDivided js rows

  divided_more : (js : List Dividend) (rows : List (List (Terms Fraction))) (j : Dividend)
      (r : List (Terms Fraction)) → AllDivided js rows → IsDivided O gs j.1 r
      → AllDivided (js ++ j ∷ []) (rows ++ r ∷ [])
  divided_more [] [] j r a d = (d, tt)
  divided_more [] (x ∷ rows) j r a d = absurd a
  divided_more (y ∷ js) [] j r a d = absurd a
  divided_more (y ∷ js) (x ∷ rows) j r a d = (a.0, divided_more js rows j r a.1 d)

  -- a division of the job `now`, behind those before it and before those left
  pub record Dividing (all : List Dividend) (row : Divisions) (d : division.State Fraction) : Type
      0 where
    pub past : List Dividend
    pub now : Dividend
    pub is : all ≡ past ++ now ∷ row.left
    pub done : AllDivided past row.rows
    pub run : LeadsTo (division.next rationals O gs) (division.initial_state gs now.1) d

shifted : {X : Type 0} (xs ys : List X) (x : X) → xs ++ x ∷ ys ≡ (xs ++ x ∷ []) ++ ys
shifted xs ys x = sym (append_assoc xs (x ∷ []) ys)

-- ---- what a task has given
module _ (A : Setting) where
  pub record WorkDone (w : Work) (s : Stage) : Type 0 where
    pub list : List (Terms Fraction)
    pub rows : List (List (Terms Fraction))
    pub out : List (Terms Fraction)
    pub links : List (List (Terms Fraction))
    pub completed : IsCompleted (order A w) (starting A w) list
    pub divided : AllDivided (order A w) list (list_dividends A w list) rows
    pub tidied : IsTidied (free_part (block A w) list) out
    pub linked : AllDivided grevlex out (link_dividends A w list) links
    pub is : s ≡ stage_of A w (record { list = list; rows = rows }) out links

  pub stage_out : (w : Work) (t : CompletedList) (out : List (Terms Fraction))
      (links : List (List (Terms Fraction))) → (stage_of A w t out links).out ≡ out
  unfolding stage_of
  stage_out starts t out links = refl
  stage_out (iteration k b n gs before so_far) t out links = refl
  stage_out (iteration_meet k b n gs so_far ks) t out links = refl
  stage_out (orbit k b gs so_far) t out links = refl
  stage_out (meet k b gs so_far hs) t out links = refl

  -- ---- where the tasks of rounds stand
  -- the branches of a round up to one, and the list so far
  pub data Branches (k : ℕ) (gs : List (Terms Fraction)) : List BranchStages → ℕ
      → List (Terms Fraction) → Type 0 where
    first : (s : Stage) → WorkDone (orbit k 0 gs []) s
        → Branches k gs (record { orbit_stage = s; meet_stage = None } ∷ []) 0 s.out
    further : (bs : List BranchStages) (b : ℕ) (so_far : List (Terms Fraction)) (s t : Stage)
        → Branches k gs bs b so_far → WorkDone (orbit k (suc b) gs so_far) s
        → WorkDone (meet k (suc b) gs so_far s.out) t
        → Branches k gs (bs ++ record { orbit_stage = s; meet_stage = Some t } ∷ []) (suc b) t.out

  pub data Rounds (first_list : List (Terms Fraction)) : List (List BranchStages) → ℕ
      → List (Terms Fraction) → Type 0 where
    none : Rounds first_list [] 0 first_list
    more : (rs : List (List BranchStages)) (k : ℕ) (gs : List (Terms Fraction))
        (bs : List BranchStages) (hs : List (Terms Fraction)) → Rounds first_list rs k gs
        → Branches (suc k) gs bs (pred (length A.forms)) hs
        → Rounds first_list (rs ++ bs ∷ []) (suc k) hs

  pub record Started (d : Results) : Type 0 where
    pub stage : Stage
    pub work : WorkDone starts stage
    pub out : d.start_out ≡ stage.out
    pub links : d.start_links ≡ stage.links

  -- in round k + 1, with the list gs before it
  pub record InRound (d : Results) (k : ℕ) (gs : List (Terms Fraction)) : Type 0 where
    pub started : Started d
    pub rounds : Rounds d.start_out d.rounds k gs

module _ (A : Setting) (R : ℕ) (some : 0 < length A.forms) where
  pub data Stands (d : Results) : Work → Type 0 where
    at_start : d ≡ no_results → Stands d starts
    at_first : (k : ℕ) (gs : List (Terms Fraction)) → InRound A d k gs → k < R
        → Stands d (orbit (suc k) 0 gs [])
    at_orbit : (k b : ℕ) (gs so_far : List (Terms Fraction)) → InRound A d k gs → k < R
        → Branches A (suc k) gs d.branches b so_far → suc b < length A.forms
        → Stands d (orbit (suc k) (suc b) gs so_far)
    at_meet : (k b : ℕ) (gs so_far : List (Terms Fraction)) → InRound A d k gs → k < R
        → Branches A (suc k) gs d.branches b so_far → suc b < length A.forms
        → WorkDone A (orbit (suc k) (suc b) gs so_far) d.orbit_stage
        → Stands d (meet (suc k) (suc b) gs so_far d.orbit_stage.out)

  pub record Ended (d : Results) : Type 0 where
    pub last : List (Terms Fraction)
    pub in_round : InRound A d R last

  -- ---- what holds at states
  abbrev pub Good : State → Type 0
  Good fresh = Unit {0}
  Good (completing done w s) = Stands done w × LeadsTo (completion.next rationals (order A w))
      (completion.initial_state rationals (order A w) (starting A w)) s
  Good (dividing done w gs row d) = Stands done w × IsCompleted (order A w) (starting A w) gs
      × Dividing (order A w) gs (list_dividends A w gs) row d
  Good (tidying_up done w t gs) =
      Stands done w × IsCompleted (order A w) (starting A w) t.list
      × AllDivided (order A w) t.list (list_dividends A w t.list) t.rows
      × LeadsTo (tidying.next rationals grevlex)
      (tidying.by_lead grevlex (free_part (block A w) t.list)) gs
  Good (linking done w t out row d) =
      Stands done w × IsCompleted (order A w) (starting A w) t.list
      × AllDivided (order A w) t.list (list_dividends A w t.list) t.rows
      × IsTidied (free_part (block A w) t.list) out
      × Dividing grevlex out (link_dividends A w t.list) row d

  abbrev pub StepGood : Step → Type 0
  StepGood (goes e s) = Good s
  StepGood (finished done) = Ended done

  -- ---- from one task to the next
  good_begun : (d : Results) (w : Work) → Stands d w → Good (start_of A d w)
  good_begun d w s = (s, begun_run _ _)

  good_round : (d : Results) (k : ℕ) (gs : List (Terms Fraction)) → InRound A d k gs → k ≤ R
      → StepGood (after_round A R d k gs)
  good_round d k gs i l = go (ltb k R) refl
    where
      go : (z : Bool) → ltb k R ≡ z
          → StepGood (cond z (begin_orbit A R d (suc k) 0 gs []) (finished d))
      go true e = good_begun d (orbit (suc k) 0 gs []) (at_first k gs i (ltb-true k R e))
      go false e =
          let h : R ≤ k = ltb-false k R e in
          let same : k ≡ R = omega (arith, l, h) in
          record { last = gs; in_round = subst (λ n. InRound A d n gs) same i }

  good_branch : (d : Results) (k b : ℕ) (gs hs : List (Terms Fraction)) → InRound A d k gs → k < R
      → Branches A (suc k) gs d.branches b hs → b < length A.forms
      → StepGood (after_branch A R d (suc k) b gs hs)
  unfolding after_branch
  good_branch d k b gs hs i l bs h = go (ltb (suc b) (length A.forms)) refl
    where
      go : (z : Bool) → ltb (suc b) (length A.forms) ≡ z
          → StepGood (cond z (begin_orbit A R d (suc k) (suc b) gs hs)
          (after_round A R (with_round d) (suc k) hs))
      go true e = good_begun d (orbit (suc k) (suc b) gs hs)
          (at_orbit k b gs hs i l bs (ltb-true (suc b) (length A.forms) e))
      go false e =
          let g : length A.forms ≤ suc b = ltb-false (suc b) (length A.forms) e in
          let same : b ≡ pred (length A.forms) = omega (arith, g, h, some) in
          good_round (with_round d) (suc k) hs (record {
            started = record {
              stage = i.started.stage;
              work = i.started.work;
              out = i.started.out;
              links = i.started.links;
            };
            rounds = more d.rounds k gs d.branches hs i.rounds
                (subst (λ n. Branches A (suc k) gs d.branches n hs) same bs);
          }) (omega (arith, l))

  good_after : (d : Results) (w : Work) (s : Stage) → Stands d w → WorkDone A w s
      → StepGood (after A R (with_stage d w s) w s.out)
  unfolding after
  good_after d _ s (at_start e) x = good_round (with_stage d starts s) 0 s.out (record {
    started = record { stage = s; work = x; out = refl; links = refl };
    rounds = subst (λ rs. Rounds A s.out rs 0 s.out) (sym (ap (λ (n : Results). n.rounds) e)) none;
  }) (omega arith)
  good_after d _ s (at_first k gs i l) x = good_branch (with_stage d (orbit (suc k) 0 gs []) s) k 0
      gs s.out (record {
        started = record {
          stage = i.started.stage;
          work = i.started.work;
          out = i.started.out;
          links = i.started.links;
        };
        rounds = i.rounds;
      }) l (first s x) some
  good_after d _ s (at_orbit k b gs so_far i l bs h) x =
      good_begun (with_stage d (orbit (suc k) (suc b) gs so_far) s) (meet (suc k) (suc b) gs so_far
      s.out)
      (at_meet k b gs so_far (record {
        started = record {
          stage = i.started.stage;
          work = i.started.work;
          out = i.started.out;
          links = i.started.links;
        };
        rounds = i.rounds;
      }) l bs h x)
  good_after d _ s (at_meet k b gs so_far i l bs h y) x =
      good_branch (with_stage d (meet (suc k) (suc b) gs so_far d.orbit_stage.out) s) k (suc b) gs
      s.out (record {
        started = record {
          stage = i.started.stage;
          work = i.started.work;
          out = i.started.out;
          links = i.started.links;
        };
        rounds = i.rounds;
      }) l
      (further d.branches b so_far d.orbit_stage s bs y x) h

  -- ---- the divisions by the list that is given
  module _ (d : Results) (w : Work) (t : CompletedList) (stands : Stands d w)
      (comp : IsCompleted (order A w) (starting A w) t.list) (divs : AllDivided (order A w) t.list
      (list_dividends A w t.list) t.rows) where
    done_work : (out : List (Terms Fraction)) (links : List (List (Terms Fraction)))
        → IsTidied (free_part (block A w) t.list) out
        → AllDivided grevlex out (link_dividends A w t.list) links
        → WorkDone A w (stage_of A w t out links)
    done_work out links tidy linked = record {
      list = t.list;
      rows = t.rows;
      out = out;
      links = links;
      completed = comp;
      divided = divs;
      tidied = tidy;
      linked = linked;
      is = refl;
    }

    good_link : (out : List (Terms Fraction)) → IsTidied (free_part (block A w) t.list) out
        → (left past : List Dividend) (rows : List (List (Terms Fraction)))
        → link_dividends A w t.list ≡ past ++ left → AllDivided grevlex out past rows
        → StepGood (link_from A R d w t out rows left)
    unfolding link_from
    good_link out tidy [] past rows e a =
        subst (λ o. StepGood (after A R (with_stage d w (stage_of A w t out rows)) w o))
        (stage_out A w t out rows)
        (good_after d w (stage_of A w t out rows) stands
        (done_work out rows tidy (subst (λ js. AllDivided grevlex out js rows)
        (sym (e ∙ append-nil past)) a)))
    good_link out tidy (j ∷ left) past rows e a =
        go (division.next rationals grevlex out (division.initial_state out j.1)) refl
        (λ ended. good_link out tidy left (past ++ j ∷ [])
        (rows ++ (division.initial_state out j.1).cofactors ∷ []) (e ∙ shifted past left j)
        (divided_more grevlex out past rows j (division.initial_state out j.1).cofactors a
        (record {
          ends = ended_at _ _ (division.initial_state out j.1) (begun_run _ _) ended;
          is = refl;
        })))
      where
        go : (o : Option (Event × division.State Fraction))
            → division.next rationals grevlex out (division.initial_state out j.1) ≡ o
            → (division.next rationals grevlex out (division.initial_state out j.1) ≡ None
            → StepGood (link_from A R d w t out (rows ++ (division.initial_state out j.1).cofactors
            ∷ []) left))
            → StepGood (next_or (linking d w t out (record { rows = rows; left = left })) o
            (link_from A R d w t out (rows ++ (division.initial_state out j.1).cofactors ∷ [])
            left))
        go None h later = later h
        go (Some (ev, u)) h later = (
          stands,
          comp,
          divs,
          tidy,
          record {
            past = past;
            now = j;
            is = e;
            done = a;
            run = one_more _ _ _ _ ev (begun_run _ _) h;
          },
        )

    -- a division by it goes on
    good_linking : (out : List (Terms Fraction)) → IsTidied (free_part (block A w) t.list) out
        → (row : Divisions) (u : division.State Fraction)
        → Dividing grevlex out (link_dividends A w t.list) row u
        → StepGood (next_or (linking d w t out row) (division.next rationals grevlex out u)
        (link_from A R d w t out (row.rows ++ u.cofactors ∷ []) row.left))
    good_linking out tidy row u x = go (division.next rationals grevlex out u) refl
      where
        go : (o : Option (Event × division.State Fraction)) → division.next rationals grevlex out u
            ≡ o → StepGood (next_or (linking d w t out row) o
            (link_from A R d w t out (row.rows ++ u.cofactors ∷ []) row.left))
        go None h = good_link out tidy row.left (x.past ++ x.now ∷ []) (row.rows ++ u.cofactors
            ∷ []) (x.is ∙ shifted x.past row.left x.now)
            (divided_more grevlex out x.past row.rows x.now u.cofactors x.done
            (record { ends = ended_at _ _ (u) (x.run) h; is = refl }))
        go (Some (ev, v)) h = (
          stands,
          comp,
          divs,
          tidy,
          record {
            past = x.past;
            now = x.now;
            is = x.is;
            done = x.done;
            run = one_more _ _ _ _ ev x.run h;
          },
        )

    -- ---- tidying
    good_tidy : (gs : List (Terms Fraction)) → LeadsTo (tidying.next rationals grevlex)
        (tidying.by_lead grevlex (free_part (block A w) t.list)) gs
        → StepGood (tidy_from A R d w t gs)
    good_tidy gs l = go (tidying.next rationals grevlex gs) refl
      where
        go : (o : Option (Event × List (Terms Fraction))) → tidying.next rationals grevlex gs ≡ o
            → StepGood (next_or (tidying_up d w t) o
            (link_from A R d w t gs [] (link_dividends A w t.list)))
        go None h = good_link gs (record {
          ends = ended_at _ _ (gs) (l) h;
          is = refl;
        }) (link_dividends A w t.list) [] [] refl tt
        go (Some (ev, hs)) h = (stands, comp, divs, one_more _ _ _ _ ev l h)

  -- ---- the divisions by the completed list
  module _ (d : Results) (w : Work) (gs : List (Terms Fraction)) (stands : Stands d w)
      (comp : IsCompleted (order A w) (starting A w) gs) where
    good_divide : (left past : List Dividend) (rows : List (List (Terms Fraction)))
        → list_dividends A w gs ≡ past ++ left → AllDivided (order A w) gs past rows
        → StepGood (divide_from A R d w gs rows left)
    unfolding divide_from
    good_divide [] past rows e a = good_tidy d w (record { list = gs; rows = rows }) stands comp
        (subst (λ js. AllDivided (order A w) gs js rows) (sym (e ∙ append-nil past)) a)
        (tidying.by_lead grevlex (free_part (block A w) gs)) (begun_run _ _)
    good_divide ((Some b, p) ∷ left) past rows e a = (
      stands,
      comp,
      record { past = past; now = (Some b, p); is = e; done = a; run = begun_run _ _ },
    )
    good_divide ((None, p) ∷ left) past rows e a =
        go (division.next rationals (order A w) gs (division.initial_state gs p)) refl
        (λ ended. good_divide left (past ++ (None, p) ∷ [])
        (rows ++ (division.initial_state gs p).cofactors
        ∷ []) (e ∙ shifted past left (None, p))
        (divided_more (order A w) gs past rows (None, p) (division.initial_state gs p).cofactors a
        (record {
          ends = ended_at _ _ (division.initial_state gs p) (begun_run _ _) ended;
          is = refl;
        })))
      where
        go : (o : Option (Event × division.State Fraction)) → division.next rationals (order A w) gs
            (division.initial_state gs p) ≡ o
            → (division.next rationals (order A w) gs (division.initial_state gs p) ≡ None
            → StepGood (divide_from A R d w gs (rows ++ (division.initial_state gs p).cofactors
            ∷ [])
            left))
            → StepGood (next_or (dividing d w gs (record { rows = rows; left = left })) o
            (divide_from A R d w gs (rows ++ (division.initial_state gs p).cofactors ∷ []) left))
        go None h later = later h
        go (Some (ev, u)) h later = (
          stands,
          comp,
          record {
            past = past;
            now = (None, p);
            is = e;
            done = a;
            run = one_more _ _ _ _ ev (begun_run _ _) h;
          },
        )

    good_dividing : (row : Divisions) (u : division.State Fraction)
        → Dividing (order A w) gs (list_dividends A w gs) row u
        → StepGood (next_or (dividing d w gs row) (division.next rationals (order A w) gs u)
        (divide_from A R d w gs (row.rows ++ u.cofactors ∷ []) row.left))
    good_dividing row u x = go (division.next rationals (order A w) gs u) refl
      where
        go : (o : Option (Event × division.State Fraction)) → division.next rationals (order A w) gs
            u ≡ o → StepGood (next_or (dividing d w gs row) o
            (divide_from A R d w gs (row.rows ++ u.cofactors ∷ []) row.left))
        go None h = good_divide row.left (x.past ++ x.now ∷ []) (row.rows ++ u.cofactors ∷ []) (x.is
            ∙ shifted x.past row.left x.now)
            (divided_more (order A w) gs x.past row.rows x.now u.cofactors x.done
            (record { ends = ended_at _ _ (u) (x.run) h; is = refl }))
        go (Some (ev, v)) h = (
          stands,
          comp,
          record {
            past = x.past;
            now = x.now;
            is = x.is;
            done = x.done;
            run = one_more _ _ _ _ ev x.run h;
          },
        )

  -- ---- completion
  good_completing : (d : Results) (w : Work) (s : completion.State Fraction) → Stands d w
      → LeadsTo (completion.next rationals (order A w)) (completion.initial_state rationals
      (order A w)
      (starting A w)) s → StepGood (next_or (completing d w)
      (completion.next rationals (order A w) s) (divide_from A R d w s.basis []
      (list_dividends A w s.basis)))
  good_completing d w s stands l = go (completion.next rationals (order A w) s) refl
    where
      go : (o : Option (Event × completion.State Fraction)) → completion.next rationals (order A w)
          s ≡ o → StepGood (next_or (completing d w) o
          (divide_from A R d w s.basis [] (list_dividends A w s.basis)))
      go None h = good_divide d w s.basis stands (record {
        ends = ended_at _ _ (s) (l) h;
        is = refl;
      }) (list_dividends A w s.basis) [] [] refl tt
      go (Some (ev, u)) h = (stands, one_more _ _ _ _ ev l h)

  -- ---- what comes next
  good_next : (s : State) → Good s → StepGood (next A R s)
  unfolding next
  good_next fresh g = good_begun no_results starts (at_start refl)
  good_next (completing d w s) g = good_completing d w s g.0 g.1
  good_next (dividing d w gs row u) g = good_dividing d w gs g.0 g.1 row u g.2
  good_next (tidying_up d w t gs) g = good_tidy d w t g.0 g.1 g.2 gs g.3
  good_next (linking d w t out row u) g = good_linking d w t g.0 g.1 g.2 out g.3 row u g.4

  good_moved : (x : Step) (e : Entry) (u : State) → StepGood x → move_of A R x ≡ Some (e, u)
      → Good u
  good_moved (goes f v) e u g h =
      let is : ◌≡◌ {A = Entry × State} (f, v) (e, u) = cc in
      subst Good (ap (λ (z : Entry × State). z.1) is) g
  good_moved (finished d) e u g h = absurd (let z : ⊥ = cc in z)

  pub good_run : (s u : State) (es : List Entry) → IsRun (moves A R) s es u → Good s → Good u
  unfolding IsRun
  good_run s u [] h g = subst Good h g
  good_run s u (e ∷ es) (v, n, h) g = good_run v u es h (good_moved (next A R s) e v (good_next s g)
      n)

  -- A TRACE THAT HAS ENDED
  pub finished_ended : (s : State) (es : List Entry) (d : Results) → IsRun (moves A R) fresh es s
      → next A R s ≡ finished d → Ended d
  finished_ended s es d h e = subst StepGood e (good_next s (good_run fresh s es h tt))
