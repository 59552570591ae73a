-- The parts of a task of a trace as the layers below do them: completions, divisions, tidyings. What a call has done leads from what is awaited before
-- it to what is awaited behind it, or tells why the trace stops.
--   awaits_work, awaits_ended      along a computation; behind one that has ended
--   awaits_refused                 a refusal of it
--   begun_awaits                   behind the beginning of a task its completion is awaited
--   list_awaits, list_refused      behind the completion the divisions by its list
--   dividend_awaits, dividend_refused      of a polynomial: behind its division the others
--   pair_awaits, pair_stopped, pair_out    of a pair: behind its entry the division of its S-polynomial
--   s_polynomial_awaits, s_polynomial_refused      and behind that the others
--   out_awaits, out_refused        behind the tidying the divisions by what is given
--   link_awaits, link_refused      behind each of these the others
use Rattle.std.proofs.Common.{◌≡◌, ◌⊎◌, inl, inr, ℕ, List, [], ◌∷◌, ◌++◌, map, Some, None, refl, sym, ap, subst, ◌∙◌, append-nil, append_assoc}
use Rattle.algebra.specs.Fraction.{Fraction, fractions, rationals}
use Rattle.polynomials.specs.Order.{grevlex}
use Rattle.polynomials.specs.Terms.{Terms}
use Rattle.machines.specs.Completion as completion
use Rattle.machines.specs.Cut.{monic}
use Rattle.machines.specs.Division as division
use Rattle.machines.specs.Elimination.{free_part}
use Rattle.machines.specs.Event.{Event, Pair}
use Rattle.machines.specs.Journal.{Entry, Begin, Did, Task, Journal, units_of}
use Rattle.machines.specs.Machine.{Machine, Refusal, too_wide, out_of_units, out_of_memory, Stops}
use Rattle.machines.specs.Machines as machines
use Rattle.machines.specs.Past as past
use Rattle.machines.specs.Run.{IsRun, HasEnded}
use Rattle.machines.specs.Tidying as tidying
use Rattle.machines.specs.Work.{Work as Done, WorkToEnd}
use Rattle.machines.proofs.Runs.{run_then}
use Rattle.rounds.specs.Analysis.{Setting, Work, starts, iteration, iteration_meet, orbit, meet, block, order, starting}
use Rattle.rounds.specs.Past.{IsPastStarting, task_of_work}
use Rattle.corollaries.specs.Coming.{Comes, Awaits, IsStopped, IsOutOf, Refuses}
use Rattle.corollaries.specs.Followed.{IsPastDividends, IsPastDivided, IsPastEvent, task_of}
use Rattle.corollaries.specs.Trace.{Dividend, CompletedList, Results, State, fresh, completing, dividing, tidying_up, linking, Step, goes, next_or, start_of, list_dividends, link_dividends, link_from, divide_from, next, move_of, moves}

module _ (A : Setting) (rounds : ℕ) where
  -- ---- a computation in a task
  module _ {S : Type 0} (M : Machine S) (task : Task) (at : S → State) (later : S → Step)
      (past_later : S → Type 0)
      (follows : (s : S) → next A rounds (at s) ≡ next_or at (M.next s) (later s))
      (in_task : (s : S) → task_of (at s) ≡ task)
      (weighs : (s : S) → M.IsPastNext s ⊎ (HasEnded M.next s × past_later s)
      → IsPastEvent A (at s)) where
    abbrev step : S → Step
    step s = next_or at (M.next s) (later s)

    abbrev past_at : S → Type 0
    past_at s = M.IsPastNext s ⊎ (HasEnded M.next s × past_later s)

    one_more : (s t : S) (e : Event) (es : List Entry)
        → Awaits A rounds es task (step s) (past_at s) → M.next s ≡ Some (e, t)
        → Awaits A rounds (es ++ Did e ∷ []) task (step t) (past_at t)
    one_more s t e es a h = record {
      state = at t;
      run = run_then (moves A rounds) fresh a.state (at t) es (Did e) a.run
          (ap (move_of A rounds) (a.is ∙ ap (λ o. next_or at o (later s)) h));
      in_task = in_task t;
      is = follows t;
      past_next = weighs t;
    }

    awaits_run : (s t : S) (events : List Event) (es : List Entry)
        → Awaits A rounds es task (step s) (past_at s) → IsRun M.next s events t
        → Awaits A rounds (es ++ map Did events) task (step t) (past_at t)
    unfolding IsRun
    awaits_run s t [] es a h =
        subst (λ l. Awaits A rounds l task (step t) (past_at t)) (sym (append-nil es))
        (subst (λ u. Awaits A rounds es task (step u) (past_at u)) h a)
    awaits_run s t (e ∷ events) es a (u, n, r) =
        subst (λ l. Awaits A rounds l task (step t) (past_at t))
        (append_assoc es (Did e ∷ []) (map Did events))
        (awaits_run u t events (es ++ Did e ∷ []) (one_more s u e es a n) r)

    pub awaits_work : (before after : List Entry) (s t : S)
        → Awaits A rounds before task (step s) (past_at s) → Done M.next s before after t
        → Awaits A rounds after task (step t) (past_at t)
    awaits_work before after s t a w =
        subst (λ l. Awaits A rounds l task (step t) (past_at t)) (sym w.entries)
        (awaits_run s t w.events before a w.run)

    pub awaits_ended : (before after : List Entry) (s t : S)
        → Awaits A rounds before task (step s) (past_at s) → WorkToEnd M.next s before after t
        → Awaits A rounds after task (later t) (past_later t)
    awaits_ended before after s t a f =
        let b = awaits_work before after s t a f.work in
        record {
          state = b.state;
          run = b.run;
          in_task = b.in_task;
          is = b.is ∙ ap (λ o. next_or at o (later t)) f.ended;
          past_next = λ p. b.past_next (inr (f.ended, p));
        }

    pub awaits_refused : (before after : Journal)
        → Awaits A rounds before.entries task (step M.start) (past_at M.start)
        → (M.IsPastStart → IsStopped A rounds task before.entries) → (r : Refusal)
        → Stops M before after r → Refuses A rounds task after r
    awaits_refused before after a start too_wide (inl p) =
        let b = awaits_work before.entries after.entries M.start p.at a p.work in
        record {
          state = b.state;
          run = b.run;
          in_task = b.in_task;
          past = inr (b.past_next (inl p.past));
        }
    awaits_refused before after a start too_wide (inr (n, p)) =
        subst (λ (j : Journal). IsStopped A rounds task j.entries) (sym n) (start p)
    awaits_refused before after a start out_of_units i =
        let b = awaits_work before.entries after.entries M.start i.at a i.work in
        record {
          entry = Did i.event;
          following = at i.following;
          comes = record {
            state = b.state;
            run = b.run;
            is = b.is ∙ ap (λ o. next_or at o (later i.at)) i.comes;
          };
          unit = i.unit;
          exhausted = i.exhausted;
        }
    awaits_refused before after a start out_of_memory g =
        let b = awaits_work before.entries after.entries M.start g.at a g.work in
        record { state = b.state; run = b.run }

  -- ---- the parts of a task
  past_start : (w : Work) → past.IsPastStart fractions rationals (starting A w)
      → IsPastStarting A w
  past_start starts p = p
  past_start (iteration k b n gs before so_far) p = inr p
  past_start (iteration_meet k b n gs so_far ks) p = inr (inr p)
  past_start (orbit k b gs so_far) p = inr p
  past_start (meet k b gs so_far hs) p = inr (inr p)

  module _ (done : Results) (w : Work) where
    abbrev completes : Machine (completion.State Fraction)
    completes = machines.completion fractions (order A w) (starting A w)

    abbrev list_coming : completion.State Fraction → Step
    list_coming s = divide_from A rounds done w s.basis [] (list_dividends A w s.basis)

    abbrev list_past : completion.State Fraction → Type 0
    list_past s = IsPastDivided A w s.basis (list_dividends A w s.basis)

    completing_next : (s : completion.State Fraction)
        → next A rounds (completing done w s)
        ≡ next_or (completing done w) (completion.next rationals (order A w) s) (list_coming s)
    unfolding next
    completing_next s = refl

    pub begun_awaits : (es : List Entry)
        → Comes A rounds es (goes (Begin (task_of_work w)) (start_of A done w))
        → Awaits A rounds (es ++ Begin (task_of_work w) ∷ []) (task_of_work w)
        (next_or (completing done w) (completes.next completes.start) (list_coming completes.start))
        (completes.IsPastNext completes.start
        ⊎ (HasEnded completes.next completes.start × list_past completes.start))
    begun_awaits es c = record {
      state = start_of A done w;
      run = run_then (moves A rounds) fresh c.state (start_of A done w) es (Begin (task_of_work w))
          c.run (ap (move_of A rounds) c.is);
      in_task = refl;
      is = completing_next completes.start;
      past_next = λ p. p;
    }

    begun_past : (es : List Entry)
        → Comes A rounds es (goes (Begin (task_of_work w)) (start_of A done w)) → IsPastStarting A w
        → IsStopped A rounds (task_of_work w) (es ++ Begin (task_of_work w) ∷ [])
    begun_past es c p =
        record {
          state = start_of A done w;
          run = run_then (moves A rounds) fresh c.state (start_of A done w) es
              (Begin (task_of_work w)) c.run (ap (move_of A rounds) c.is);
          in_task = refl;
          past = inl p;
        }

    -- the completion
    module _ (es : List Entry)
        (c : Comes A rounds es (goes (Begin (task_of_work w)) (start_of A done w))) where
      pub list_awaits : (after : List Entry) (s : completion.State Fraction)
          → WorkToEnd completes.next completes.start (es ++ Begin (task_of_work w) ∷ []) after s
          → Awaits A rounds after (task_of_work w) (list_coming s) (list_past s)
      list_awaits after s f = awaits_ended completes (task_of_work w) (completing done w)
          list_coming list_past completing_next (λ t. refl) (λ t p. p)
          (es ++ Begin (task_of_work w) ∷ []) after completes.start s (begun_awaits es c) f

      pub list_refused : (before after : Journal)
          → before.entries ≡ es ++ Begin (task_of_work w) ∷ [] → (r : Refusal)
          → Stops completes before after r → Refuses A rounds (task_of_work w) after r
      list_refused before after e r s =
          awaits_refused completes (task_of_work w) (completing done w) list_coming list_past
          completing_next (λ t. refl) (λ t p. p) before after
          (subst (λ l. Awaits A rounds l (task_of_work w) (next_or (completing done w)
          (completes.next completes.start) (list_coming completes.start))
          (completes.IsPastNext completes.start
          ⊎ (HasEnded completes.next completes.start × list_past completes.start))) (sym e)
          (begun_awaits es c))
          (λ p. subst (IsStopped A rounds (task_of_work w)) (sym e)
          (begun_past es c (past_start w p)))
          r s

    -- the divisions by the completed list
    module _ (gs : List (Terms Fraction)) (rows : List (List (Terms Fraction)))
        (left : List Dividend) (p : Terms Fraction) where
      abbrev divides : Machine (division.State Fraction)
      divides = machines.division fractions (order A w) gs p

      abbrev at_division : division.State Fraction → State
      at_division d = dividing done w gs (record { rows = rows; left = left }) d

      abbrev row_coming : division.State Fraction → Step
      row_coming d = divide_from A rounds done w gs (rows ++ d.cofactors ∷ []) left

      abbrev row_past : division.State Fraction → Type 0
      row_past d = IsPastDivided A w gs left

      abbrev DivisionAwaited : List Entry → Type 0
      DivisionAwaited es = Awaits A rounds es (task_of_work w)
          (next_or at_division (divides.next divides.start) (row_coming divides.start))
          (divides.IsPastNext divides.start
          ⊎ (HasEnded divides.next divides.start × row_past divides.start))

      dividing_next : (d : division.State Fraction)
          → next A rounds (at_division d)
          ≡ next_or at_division (division.next rationals (order A w) gs d) (row_coming d)
      unfolding next
      dividing_next d = refl

      division_ended : (before after : List Entry) (d : division.State Fraction)
          → DivisionAwaited before → WorkToEnd divides.next divides.start before after d
          → Awaits A rounds after (task_of_work w) (row_coming d) (row_past d)
      division_ended before after d a f = awaits_ended divides (task_of_work w) at_division
          row_coming row_past dividing_next (λ t. refl) (λ t q. q) before after divides.start d a f

      division_refused : (before after : Journal) → DivisionAwaited before.entries
          → (r : Refusal) → Stops divides before after r
          → Refuses A rounds (task_of_work w) after r
      division_refused before after a r s = awaits_refused divides (task_of_work w) at_division
          row_coming row_past dividing_next (λ t. refl) (λ t q. q) before after a (λ z. absurd z)
          r s

      -- of a polynomial
      dividend_coming : (es : List Entry) → Awaits A rounds es (task_of_work w)
          (divide_from A rounds done w gs rows ((None, p) ∷ left))
          (IsPastDivided A w gs ((None, p) ∷ left)) → DivisionAwaited es
      unfolding divide_from IsPastDividends
      dividend_coming es a = a

      pub dividend_awaits : (before after : List Entry) (d : division.State Fraction)
          → Awaits A rounds before (task_of_work w)
          (divide_from A rounds done w gs rows ((None, p) ∷ left))
          (IsPastDivided A w gs ((None, p) ∷ left))
          → WorkToEnd (machines.division fractions (order A w) gs p).next
          (division.initial_state gs p)
          before after d → Awaits A rounds after (task_of_work w)
          (divide_from A rounds done w gs (rows ++ d.cofactors ∷ []) left)
          (IsPastDivided A w gs left)
      dividend_awaits before after d a f = division_ended before after d (dividend_coming before a)
          f

      pub dividend_refused : (before after : Journal) → Awaits A rounds before.entries
          (task_of_work w) (divide_from A rounds done w gs rows ((None, p) ∷ left))
          (IsPastDivided A w gs ((None, p) ∷ left)) → (r : Refusal)
          → Stops (machines.division fractions (order A w) gs p) before after r
          → Refuses A rounds (task_of_work w) after r
      dividend_refused before after a r s =
          division_refused before after (dividend_coming before.entries a) r s

      -- of a pair
      module _ (ab : ℕ × ℕ) (es : List Entry) (a : Awaits A rounds es (task_of_work w)
          (divide_from A rounds done w gs rows ((Some ab, p) ∷ left))
          (IsPastDivided A w gs ((Some ab, p) ∷ left))) where
        pair_next : next A rounds a.state ≡ goes (Did (Pair ab.0 ab.1)) (at_division divides.start)
        unfolding divide_from
        pair_next = a.is

        pub pair_awaits : Awaits A rounds (es ++ Did (Pair ab.0 ab.1) ∷ []) (task_of_work w)
            (next_or at_division (divides.next divides.start) (row_coming divides.start))
            (divides.IsPastNext divides.start
            ⊎ (HasEnded divides.next divides.start × row_past divides.start))
        pair_awaits = record {
          state = at_division divides.start;
          run = run_then (moves A rounds) fresh a.state (at_division divides.start) es
              (Did (Pair ab.0 ab.1)) a.run (ap (move_of A rounds) pair_next);
          in_task = refl;
          is = dividing_next divides.start;
          past_next = λ q. q;
        }

        pub pair_stopped : past.IsPastPair fractions rationals gs ab
            → IsStopped A rounds (task_of_work w) es
        unfolding IsPastDividends
        pair_stopped q = record {
          state = a.state;
          run = a.run;
          in_task = a.in_task;
          past = inr (a.past_next q);
        }

        pub pair_out : (limit : ℕ) → units_of es ≡ limit → IsOutOf A rounds limit es
        pair_out limit exhausted = record {
          entry = Did (Pair ab.0 ab.1);
          following = at_division divides.start;
          comes = record { state = a.state; run = a.run; is = pair_next };
          unit = refl;
          exhausted = exhausted;
        }

        pub s_polynomial_awaits : (after : List Entry) (d : division.State Fraction)
            → WorkToEnd (machines.division fractions (order A w) gs p).next
            (division.initial_state gs p)
            (es ++ Did (Pair ab.0 ab.1) ∷ []) after d
            → Awaits A rounds after (task_of_work w)
            (divide_from A rounds done w gs (rows ++ d.cofactors ∷ []) left)
            (IsPastDivided A w gs left)
        s_polynomial_awaits after d f =
            division_ended (es ++ Did (Pair ab.0 ab.1) ∷ []) after d pair_awaits f

        pub s_polynomial_refused : (before after : Journal)
            → before.entries ≡ es ++ Did (Pair ab.0 ab.1) ∷ [] → (r : Refusal)
            → Stops (machines.division fractions (order A w) gs p) before after r
            → Refuses A rounds (task_of_work w) after r
        s_polynomial_refused before after e r s =
            division_refused before after (subst DivisionAwaited (sym e) pair_awaits) r s

    -- ---- the tidying, behind all divisions
    module _ (list : List (Terms Fraction)) (rows : List (List (Terms Fraction)))
        (gs : List (Terms Fraction)) where
      abbrev told : CompletedList
      told = record { list = list; rows = rows }

      abbrev tidies : Machine (List (Terms Fraction))
      tidies = machines.tidying fractions grevlex gs

      abbrev out_coming : List (Terms Fraction) → Step
      out_coming hs = link_from A rounds done w told hs [] (link_dividends A w list)

      abbrev out_past : List (Terms Fraction) → Type 0
      out_past hs = IsPastDividends grevlex hs (link_dividends A w list) ⊥

      tidying_next : (hs : List (Terms Fraction))
          → next A rounds (tidying_up done w told hs)
          ≡ next_or (tidying_up done w told) (tidying.next rationals grevlex hs) (out_coming hs)
      unfolding next
      tidying_next hs = refl

      abbrev TidyingAwaited : List Entry → Type 0
      TidyingAwaited es = Awaits A rounds es (task_of_work w)
          (divide_from A rounds done w list rows []) (IsPastDivided A w list [])

      -- where each element is monic already
      module _ (is : gs ≡ free_part (block A w) list) (ones : map (monic rationals) gs ≡ gs) where
        tidying_coming : (es : List Entry) → TidyingAwaited es → Awaits A rounds es
            (task_of_work w)
            (next_or (tidying_up done w told) (tidies.next tidies.start) (out_coming tidies.start))
            (tidies.IsPastNext tidies.start
            ⊎ (HasEnded tidies.next tidies.start × out_past tidies.start))
        unfolding divide_from IsPastDividends
        tidying_coming es a = subst (λ hs. Awaits A rounds es (task_of_work w)
            (next_or (tidying_up done w told) (tidies.next hs) (out_coming hs))
            (tidies.IsPastNext hs ⊎ (HasEnded tidies.next hs × out_past hs)))
            (sym (ap (tidying.by_lead grevlex) (ones ∙ is))) a

        pub out_awaits : (before after : List Entry) (hs : List (Terms Fraction))
            → TidyingAwaited before
            → WorkToEnd (machines.tidying fractions grevlex gs).next
            (machines.tidying fractions grevlex gs).start before after hs
            → Awaits A rounds after (task_of_work w) (out_coming hs) (out_past hs)
        out_awaits before after hs a f = awaits_ended tidies (task_of_work w)
            (tidying_up done w told) out_coming out_past tidying_next (λ t. refl) (λ t q. q) before
            after tidies.start hs (tidying_coming before a) f

        pub out_refused : (before after : Journal) → TidyingAwaited before.entries
            → (past.IsPastStart fractions rationals gs → ⊥) → (r : Refusal)
            → Stops (machines.tidying fractions grevlex gs) before after r
            → Refuses A rounds (task_of_work w) after r
        out_refused before after a none r s = awaits_refused tidies (task_of_work w)
            (tidying_up done w told) out_coming out_past tidying_next (λ t. refl) (λ t q. q) before
            after (tidying_coming before.entries a) (λ p. absurd (none p)) r s

      -- ---- the divisions by what is given
      module _ (out : List (Terms Fraction)) (links : List (List (Terms Fraction)))
          (left : List Dividend) (j : Dividend) where
        abbrev link_divides : Machine (division.State Fraction)
        link_divides = machines.division fractions grevlex out j.1

        abbrev at_link : division.State Fraction → State
        at_link d = linking done w told out (record { rows = links; left = left }) d

        abbrev link_coming : division.State Fraction → Step
        link_coming d = link_from A rounds done w told out (links ++ d.cofactors ∷ []) left

        abbrev link_past : division.State Fraction → Type 0
        link_past d = IsPastDividends grevlex out left ⊥

        linking_next : (d : division.State Fraction)
            → next A rounds (at_link d)
            ≡ next_or at_link (division.next rationals grevlex out d) (link_coming d)
        unfolding next
        linking_next d = refl

        abbrev LinkAwaited : List Entry → Type 0
        LinkAwaited es = Awaits A rounds es (task_of_work w)
            (next_or at_link (link_divides.next link_divides.start)
            (link_coming link_divides.start))
            (link_divides.IsPastNext link_divides.start
            ⊎ (HasEnded link_divides.next link_divides.start × link_past link_divides.start))

        module _ (alone : j.0 ≡ None) where
          linked_coming : (es : List Entry) → Awaits A rounds es (task_of_work w)
              (link_from A rounds done w told out links (j ∷ left))
              (IsPastDividends grevlex out (j ∷ left) ⊥) → LinkAwaited es
          unfolding link_from IsPastDividends
          linked_coming es a = record {
            state = a.state;
            run = a.run;
            in_task = a.in_task;
            is = a.is;
            past_next = λ p. a.past_next (subst (λ i. IsPastDividends grevlex out
                ((i, j.1) ∷ left) ⊥) (sym alone) p);
          }

          pub link_awaits : (before after : List Entry) (d : division.State Fraction)
              → Awaits A rounds before (task_of_work w)
              (link_from A rounds done w told out links (j ∷ left))
              (IsPastDividends grevlex out (j ∷ left) ⊥)
              → WorkToEnd (machines.division fractions grevlex out j.1).next
              (division.initial_state out j.1) before after d
              → Awaits A rounds after (task_of_work w)
              (link_from A rounds done w told out (links ++ d.cofactors ∷ []) left)
              (IsPastDividends grevlex out left ⊥)
          link_awaits before after d a f = awaits_ended link_divides (task_of_work w) at_link
              link_coming link_past linking_next (λ t. refl) (λ t q. q) before after
              link_divides.start d (linked_coming before a) f

          pub link_refused : (before after : Journal) → Awaits A rounds before.entries
              (task_of_work w) (link_from A rounds done w told out links (j ∷ left))
              (IsPastDividends grevlex out (j ∷ left) ⊥) → (r : Refusal)
              → Stops (machines.division fractions grevlex out j.1) before after r
              → Refuses A rounds (task_of_work w) after r
          link_refused before after a r s = awaits_refused link_divides (task_of_work w) at_link
              link_coming link_past linking_next (λ t. refl) (λ t q. q) before after
              (linked_coming before.entries a) (λ z. absurd z) r s
