-- What the works of a trace have shown.
--   orbit_traced, meet_traced     the stage of an orbit, and of an intersection, is traced
--   work_ends              the task as an elimination has ended (machine_of);  work_list: with what the work gives
use Rattle.std.proofs.Common.{◌≡◌, ℕ, zero, suc, ◌<◌, List, [], ◌∷◌, ◌++◌, map, take, drop, length, get_or, Some, None, refl, sym, ap, subst, ◌∙◌, arith}
use Rattle.std.proofs.lemmas.List.{length-map}
use Rattle.algebra.specs.Fraction.{Fraction, rationals}
use Rattle.polynomials.specs.Terms.{Terms}
use Rattle.polynomials.specs.Order.{Rank, grevlex}
use Rattle.machines.specs.Completion.{s_polynomial}
use Rattle.machines.specs.Elimination.{free_part, blend}
use Rattle.machines.specs.Completion as completion
use Rattle.machines.specs.Journal.{Did}
use Rattle.machines.specs.Tidying as tidying
use Rattle.machines.specs.Work.{WorkToEnd}
use Rattle.machines.proofs.Joined.{Ending, later_finished}
use Rattle.rounds.specs.Analysis.{Setting, Work, orbit, meet, block, order, starting, form_of, front_of, list_at}
use Rattle.rounds.specs.Form.{orbit_list}
use Rattle.rounds.specs.Results.{EndsWork}
use Rattle.corollaries.specs.Representation.{pairs_of}
use Rattle.corollaries.specs.Stage.{Stage, block_order}
use Rattle.corollaries.specs.Traced.{IsDivided, IsCompleted, IsTidied, IsTraced}
use Rattle.corollaries.specs.Trace.{Dividend, list_dividends, link_dividends, stage_of}
use Rattle.corollaries.proofs.Following.{AllDivided, WorkDone, stage_out}

module _ (O : Rank) (gs : List (Terms Fraction)) where
  pub divided_front : (js ks : List Dividend) (rows : List (List (Terms Fraction)))
      → AllDivided O gs (js ++ ks) rows → AllDivided O gs js (take (length js) rows)
  divided_front [] ks rows a = tt
  divided_front (j ∷ js) ks [] a = absurd a
  divided_front (j ∷ js) ks (r ∷ rows) a = (a.0, divided_front js ks rows a.1)

  pub divided_back : (js ks : List Dividend) (rows : List (List (Terms Fraction)))
      → AllDivided O gs (js ++ ks) rows → AllDivided O gs ks (drop (length js) rows)
  divided_back [] ks rows a = a
  divided_back (j ∷ js) ks [] a = absurd a
  divided_back (j ∷ js) ks (r ∷ rows) a = divided_back js ks rows a.1

  -- of polynomials alone
  pub polynomials_at : (ps : List (Terms Fraction)) (rows : List (List (Terms Fraction)))
      → AllDivided O gs (map (λ p. (None, p)) ps) rows → (i : ℕ) → i < length ps
      → IsDivided O gs (get_or ps i []) (get_or rows i [])
  polynomials_at [] rows a i l = absurd (omega (arith, l))
  polynomials_at (p ∷ ps) [] a i l = absurd a
  polynomials_at (p ∷ ps) (r ∷ rows) a zero l = a.0
  polynomials_at (p ∷ ps) (r ∷ rows) a (suc i) l = polynomials_at ps rows a.1 i (omega (arith, l))

  -- of S-polynomials
  pairs_at : (ab : List (ℕ × ℕ)) (rows : List (List (Terms Fraction)))
      → AllDivided O gs (map (λ a. (Some a, s_polynomial rationals O gs a)) ab) rows → (i : ℕ)
      → i < length ab → IsDivided O gs (s_polynomial rationals O gs (get_or ab i (0, 0)))
      (get_or rows i [])
  pairs_at [] rows a i l = absurd (omega (arith, l))
  pairs_at (p ∷ ab) [] a i l = absurd a
  pairs_at (p ∷ ab) (r ∷ rows) a zero l = a.0
  pairs_at (p ∷ ab) (r ∷ rows) a (suc i) l = pairs_at ab rows a.1 i (omega (arith, l))

-- a stage from its divisions
module _ (k : ℕ) (hs list : List (Terms Fraction)) (rows : List (List (Terms Fraction)))
    (out : List (Terms Fraction)) (links : List (List (Terms Fraction)))
    (comp : IsCompleted (block_order k) hs list)
    (divs : AllDivided (block_order k) list (map (λ p. (None, p)) hs ++ map
    (λ a. (Some a, s_polynomial rationals (block_order k) list a)) (pairs_of (length list)))
    rows)
    (tidy : IsTidied (free_part k list) out) (linked : AllDivided grevlex out
    (map (λ p. (None, p)) (free_part k list)) links) where
  alone : Terms Fraction → Dividend
  alone p = (None, p)

  gens_count : length {A = Dividend} (map (λ p. (None, p)) hs) ≡ length hs
  unfolding alone
  gens_count = length-map hs alone

  pub stage_traced : IsTraced k hs (record {
    list = list;
    gens = take (length hs) rows;
    pairs = drop (length hs) rows;
    out = out;
    links = links;
  })
  stage_traced = record {
    list = comp;
    gens = polynomials_at (block_order k) list hs (take (length hs) rows)
        (subst (λ n. AllDivided (block_order k) list (map (λ p. (None, p)) hs) (take n rows))
        gens_count (divided_front (block_order k) list (map (λ p. (None, p)) hs) _ rows divs));
    pairs = pairs_at (block_order k) list (pairs_of (length list)) (drop (length hs) rows)
        (subst (λ n. AllDivided (block_order k) list
        (map (λ a. (Some a, s_polynomial rationals (block_order k) list a))
        (pairs_of (length list))) (drop n rows)) gens_count (divided_back (block_order k) list
        (map (λ p. (None, p)) hs) _ rows divs));
    out = tidy;
    links = polynomials_at grevlex out (free_part k list) links linked;
  }

module _ (A : Setting) where
  pub orbit_traced : (k b : ℕ) (gs so_far : List (Terms Fraction)) (s : Stage)
      → WorkDone A (orbit k b gs so_far) s → IsTraced (front_of A b)
      (orbit_list (form_of A b) A.arity gs) s
  unfolding list_dividends link_dividends stage_of block starting
  orbit_traced k b gs so_far s x =
      subst (IsTraced (front_of A b) (orbit_list (form_of A b) A.arity gs))
      (sym x.is)
      (stage_traced (front_of A b) (orbit_list (form_of A b) A.arity gs) x.list
      x.rows x.out x.links x.completed x.divided x.tidied x.linked)

  pub meet_traced : (k b : ℕ) (gs so_far hs : List (Terms Fraction)) (s : Stage)
      → WorkDone A (meet k b gs so_far hs) s
      → IsTraced 1 (blend rationals (block_order 1) so_far hs) s
  unfolding list_dividends link_dividends stage_of block starting
  meet_traced k b gs so_far hs s x = subst (IsTraced 1 (blend rationals (block_order 1) so_far hs))
      (sym x.is)
      (stage_traced 1 (blend rationals (block_order 1) so_far hs) x.list x.rows x.out x.links
      x.completed x.divided x.tidied x.linked)

  pub work_out : (w : Work) (s : Stage) (x : WorkDone A w s) → s.out ≡ x.out
  work_out w s x = ap (λ (t : Stage). t.out) x.is
      ∙ stage_out A w (record { list = x.list; rows = x.rows }) x.out x.links

  -- ---- as an elimination
  module _ (w : Work) (s : Stage) (x : WorkDone A w s) where
    first : WorkToEnd (completion.next rationals (order A w))
        (completion.initial_state rationals (order A w) (starting A w)) []
        (map Did x.completed.ends.events) x.completed.ends.last
    first = record {
      work = record {
        events = x.completed.ends.events;
        entries = refl;
        run = x.completed.ends.run;
      };
      ended = x.completed.ends.ended;
    }

    second : WorkToEnd (tidying.next rationals grevlex)
        (tidying.by_lead grevlex (free_part (block A w) x.list))
        (map Did x.completed.ends.events)
        (map Did x.completed.ends.events ++ map Did x.tidied.ends.events) x.tidied.ends.last
    second = record {
      work = record { events = x.tidied.ends.events; entries = refl; run = x.tidied.ends.run };
      ended = x.tidied.ends.ended;
    }

    kept_is : tidying.by_lead grevlex (free_part (block A w) x.list)
        ≡ tidying.by_lead grevlex (free_part (block A w) x.completed.ends.last.basis)
    kept_is = ap (λ gs. tidying.by_lead grevlex (free_part (block A w) gs)) x.completed.is

    ending : Ending rationals (order A w) grevlex (free_part (block A w)) (starting A w) []
        (map Did x.completed.ends.events)
        (map Did x.completed.ends.events ++ map Did x.tidied.ends.events) x.completed.ends.last
        first (tidying.by_lead grevlex (free_part (block A w) x.list)) kept_is
        x.tidied.ends.last
    ending = later_finished rationals (order A w) grevlex (free_part (block A w)) (starting A w) []
        (map Did x.completed.ends.events)
        (map Did x.completed.ends.events ++ map Did x.tidied.ends.events) x.completed.ends.last
        first (tidying.by_lead grevlex (free_part (block A w) x.list)) kept_is
        x.tidied.ends.last second

    pub work_ends : EndsWork A w
    work_ends = record {
      events = ending.finished.work.events;
      last = ending.last;
      run = ending.finished.work.run;
      ended = ending.finished.ended;
    }

    pub work_list : list_at A w work_ends.last ≡ s.out
    unfolding work_ends
    work_list = ending.list ∙ sym (work_out w s x ∙ x.tidied.is)
