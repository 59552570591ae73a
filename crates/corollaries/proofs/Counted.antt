-- A full certificate of a trace has as many of all as it must (specs/Counts).
--   finished_counted     where a finished trace gives it
use Rattle.std.proofs.Common.{◌≡◌, ◌≢◌, ℕ, zero, suc, pred, ◌+◌, ◌<◌, ◌≤◌, Bool, true, false, eqb, List, [], ◌∷◌, ◌++◌, map, filter, length, get_or, None, refl, sym, ap, subst, ◌∙◌, arith}
use Rattle.std.specs.Prelude.{All, replicate, is_some}
use Rattle.std.proofs.lemmas.Bool.{eqb-true, eqb-false}
use Rattle.std.proofs.lemmas.List.{length-append, length-map, length-replicate, get_or_default, get_or-map}
use Rattle.std.proofs.lemmas.List.Elements.{All-head, All-tail}
use Rattle.algebra.proofs.Each.{each-map, each_weaker}
use Rattle.algebra.specs.Fraction.{Fraction, ℚ, rationals}
use Rattle.algebra.proofs.Fractions.{ℚ_field}
use Rattle.polynomials.specs.Order.{grevlex}
use Rattle.polynomials.specs.Polynomial.{Arity, IsPolynomial}
use Rattle.polynomials.specs.Terms.{Terms}
use Rattle.polynomials.proofs.Orders.{grevlex_order}
use Rattle.machines.specs.Basis.{AtPlaces}
use Rattle.machines.specs.Collect.{collect}
use Rattle.machines.specs.Elimination.{blend}
use Rattle.machines.specs.Journal.{Entry}
use Rattle.machines.proofs.Collecting.{collect-polynomial}
use Rattle.solvable_maps.specs.Iterations as iterations
use Rattle.loops.specs.Program.{Expr, Program, Equation}
use Rattle.loops.specs.WellFormed.{IsWellFormed}
use Rattle.loops.proofs.Maps.{length-branch_map}
use Rattle.rounds.specs.Analysis.{Setting, starts, starting}
use Rattle.rounds.specs.Form.{Form, front, orbit_front, orbit_list, IsClosedForm}
use Rattle.rounds.specs.Journal.{setting_of, AreForms}
use Rattle.rounds.specs.Start.{start_polynomial, in_order, start_list}
use Rattle.rounds.proofs.Start.{start_list_arity}
use Rattle.corollaries.specs.Counts.{IsStageCounted, IsSquare, IsBranchCounted, IsCounted}
use Rattle.corollaries.specs.Full.{BranchStages, WrittenForm, as_form, orbit, meet, of_kind, so_far, before}
use Rattle.corollaries.specs.Stage.{Stage, block_order}
use Rattle.corollaries.specs.Certified.{full_from}
use Rattle.corollaries.specs.Followed.{IsFinished}
use Rattle.corollaries.specs.Trace as trace
use Rattle.corollaries.specs.Trace.{Results}
use Rattle.corollaries.proofs.Certified as certified
use Rattle.corollaries.proofs.WrittenForms.{form_is}
use Rattle.corollaries.proofs.Chained.{branch_of, list_at, RoundsDone, AreDone}
use Rattle.corollaries.proofs.Following.{WorkDone, Ended, finished_ended}
use Rattle.corollaries.proofs.Over.{rows_count, rows_widths, orbit_counted, meet_counted}
use Rattle.rounds.proofs.StartOrder.{none_in_order, sets, passed, outside}

-- ---- the equations of init, in the order of the variables that they set
module _ {E : Type 0} where
  inside : (n : ℕ) (e : Equation E) (es : List (Equation E)) → e.name < n
      → length (in_order n (e ∷ es)) ≡ suc (length (in_order n es))
  unfolding in_order
  inside zero e es l = absurd (omega (arith, l))
  inside (suc n) e es l = go (eqb e.name n) refl (inside n e es)
    where
      old : length (in_order n es ++ filter (sets n) es)
          ≡ length (in_order n es) + length (filter (sets n) es)
      old = length-append (in_order n es) (filter (sets n) es)

      new : length (in_order n (e ∷ es) ++ filter (sets n) (e ∷ es))
          ≡ length (in_order n (e ∷ es)) + length (filter (sets n) (e ∷ es))
      new = length-append (in_order n (e ∷ es)) (filter (sets n) (e ∷ es))

      go : (b : Bool) → eqb e.name n ≡ b
          → (e.name < n → length (in_order n (e ∷ es)) ≡ suc (length (in_order n es)))
          → length (in_order n (e ∷ es) ++ filter (sets n) (e ∷ es))
          ≡ suc (length (in_order n es ++ filter (sets n) es))
      go true is ih =
          let same = eqb-true e.name n is in
          let k : length (in_order n (e ∷ es)) ≡ length (in_order n es) =
          ap length (outside n e es (omega (arith, same))) in
          let f : length (filter (sets n) (e ∷ es)) ≡ suc (length (filter (sets n) es)) =
          ap length (passed true n e es is) in
          omega (arith, old, new, k, f)
      go false is ih =
          let other : e.name ≢ n = eqb-false e.name n is in
          let f : length (filter (sets n) (e ∷ es)) ≡ length (filter (sets n) es) =
          ap length (passed false n e es is) in
          let h : e.name < n = below e.name n l other in
          let k = ih h in
          omega (arith, old, new, k, f)
        where
          below : (i j : ℕ) → i < suc j → i ≢ j → i < j
          below i j l other = grind (arith, l, other)

  all_in_order : (n : ℕ) (es : List (Equation E)) → All (λ (e : Equation E). e.name < n) es
      → length (in_order n es) ≡ length es
  all_in_order n [] h = none_in_order E n
  all_in_order n (e ∷ es) h =
      inside n e es (All-head (λ (x : Equation E). x.name < n) e es h)
      ∙ ap suc (all_in_order n es (All-tail (λ (x : Equation E). x.name < n) e es h))

module _ {At : Type 0} (program : Program (Expr At)) (w : IsWellFormed program) where
  starts_count : length (start_list program) ≡ length program.init
  unfolding start_list
  starts_count = length-map (in_order (length program.names) program.init)
      (start_polynomial program)
      ∙ all_in_order (length program.names) program.init w.set

-- ---- a form has a polynomial for each variable
closed_count : (base : List ℕ) (images ps : List (Terms Fraction))
    → iterations.IsClosedForm base images ps → length ps ≡ length images
closed_count base images ps c =
    let s : List Fraction = replicate (length images) ℚ.zero in
    let h : length s ≡ length images = length-replicate (length images) ℚ.zero in
    sym (length-map ps _) ∙ ap length (c.values 0 s h (omega arith)) ∙ h

module _ {At : Type 0} (program : Program (Expr At)) (w : IsWellFormed program)
    (written : List WrittenForm) (are : AreForms program (map as_form written)) where
  abbrev forms : List Form
  forms = map as_form written

  abbrev A : Setting
  A = setting_of program (map as_form written) None

  abbrev m : ℕ
  m = length program.names

  polys_counted : All (λ (f : WrittenForm). length f.polys ≡ m) written
  polys_counted b d l =
      let n = length-map written as_form in
      let here : b < length (map as_form written) = omega (arith, l, n) in
      let c : IsClosedForm program (suc b) (as_form (get_or written b d)) =
      subst (IsClosedForm program (suc b)) (get_or-map as_form written b d (as_form d) l)
      (are.each b (as_form d) here) in
      closed_count (get_or written b d).base _ (get_or written b d).polys c.form
      ∙ length-branch_map program _

  -- ---- the cofactors of the start
  module _ (s : Stage) (x : WorkDone A starts s) where
    dividends : List trace.Dividend
    dividends = map (λ p. (None, p)) (map (collect rationals grevlex) (start_list program))

    linked : length x.links ≡ length dividends
    unfolding dividends trace.link_dividends starting
    linked = rows_count grevlex x.out
        (map (λ p. (None, p)) (map (collect rationals grevlex) (start_list program))) x.links
        x.linked

    links_count : length s.links ≡ length program.init
    unfolding dividends
    links_count = ap length (certified.links_is program w written are s x) ∙ linked
        ∙ length-map (map (collect rationals grevlex) (start_list program)) (λ p. (None, p))
        ∙ length-map (start_list program) (collect rationals grevlex)
        ∙ starts_count program w

    links_widths : All (λ row. length row ≡ length s.out) s.links
    unfolding trace.link_dividends starting certified.out
    links_widths = subst (λ rows. All (λ row. length row ≡ length s.out) rows)
        (sym (certified.links_is program w written are s x))
        (subst (λ (out : List (Terms Fraction)). All (λ row. length row ≡ length out) x.links)
        (sym (certified.out_is program w written are s x))
        (rows_widths grevlex x.out grevlex_order m (λ i g at. record {
          polynomial = (certified.two program w written are s x i g at).0;
          nonzero = (certified.two program w written are s x i g at).1;
        })
        (map (λ p. (None, p)) (map (collect rationals grevlex) (start_list program))) x.links
        (each-map (λ (j : trace.Dividend). IsPolynomial ℚ grevlex m j.1) (λ p. (None, p))
        (map (collect rationals grevlex) (start_list program))
        (each-map (IsPolynomial ℚ grevlex m) (collect rationals grevlex) (start_list program)
        (each_weaker (Arity m) (λ p. IsPolynomial ℚ grevlex m (collect rationals grevlex p)) (λ p a.
        collect-polynomial ℚ_field grevlex grevlex_order m p a) (start_list program)
        (start_list_arity program)))) x.linked))

  -- ---- the certificate
  module _ (R : ℕ) (some : 0 < length forms) (d : Results) (ended : Ended A R some d)
      (basis : List (Terms Fraction)) (steps : List (List (List (Terms Fraction)))) where
    rounds : RoundsDone A d.start_out d.rounds R ended.last
    rounds = certified.rounds program w written are R some d ended basis steps

    round_done : (r : ℕ) → r < length d.rounds
        → AreDone A (suc r) (list_at (length forms) d.start_out d.rounds r) (get_or d.rounds r [])
        (pred (length forms)) (list_at (length forms) d.start_out d.rounds (suc r))
    round_done r l = rounds.each r (let c = rounds.count in omega (arith, c, l))

    rows_counted : All (λ row. length row ≡ length program.branches) d.rounds
    rows_counted r z l = row_count z (get_or_default d.rounds r z [] l)
      where
        row_count : (z : List BranchStages) → get_or d.rounds r z ≡ get_or d.rounds r []
            → length (get_or d.rounds r z) ≡ length program.branches
        row_count z same = ap length same ∙ (round_done r l).count
            ∙ (let c = are.count in omega (arith, c, some))

    module _ (r : ℕ) (k : r < length d.rounds) where
      row : List BranchStages
      row = get_or d.rounds r []

      orbit_many : (b : ℕ) → b < length program.branches
          → IsStageCounted
          (front (length (as_form (get_or written b (record { base = []; polys = [] }))).base))
          (length (orbit_list (as_form (get_or written b (record { base = []; polys = [] }))) m
          (before program (full_from basis steps written d) r)))
          (of_kind (branch_of (get_or d.rounds r []) b) orbit)
      orbit_many b l =
          let done = round_done r k in
          let short = certified.within program w written are R some d ended basis steps b l in
          let o = done.orbits b short in
          let h : r ≤ R = let c = rounds.count in omega (arith, c, k) in
          let before_it : List (Terms Fraction) = list_at (length forms) d.start_out d.rounds r in
          subst (λ gs. IsStageCounted
          (front (length (as_form (get_or written b (record { base = []; polys = [] }))).base))
          (length (orbit_list (as_form (get_or written b (record { base = []; polys = [] }))) m gs))
          (of_kind (branch_of (get_or d.rounds r []) b) orbit))
          (sym (certified.before_is program w written are R some d ended basis steps r))
          (subst (λ (g : Form). IsStageCounted (orbit_front g m) (length (orbit_list g m before_it))
          (of_kind (branch_of (get_or d.rounds r []) b) orbit)) (form_is written b)
          (orbit_counted A (suc r) b before_it o.0
          (of_kind (branch_of (get_or d.rounds r []) b) orbit)
          (subst (λ (g : Form). AtPlaces (IsPolynomial ℚ (block_order (orbit_front g m))
          (orbit_front g m + m)) (orbit_list g m before_it)) (sym (form_is written b))
          (certified.orbit_places program w written are (suc r) before_it
          (certified.list_reduced program w written are R some d ended basis steps r h)
          (get_or d.rounds r []) (pred (length forms))
          (certified.inside program w written are R some d ended basis steps)
          (list_at (length forms) d.start_out d.rounds (suc r)) done b short)) o.1))

      meet_many : (b : ℕ) → suc b < length program.branches
          → IsStageCounted 1
          (length (blend rationals (block_order 1) (so_far (full_from basis steps written d) r b)
          (of_kind (branch_of (get_or d.rounds r []) (suc b)) orbit).out))
          (of_kind (branch_of (get_or d.rounds r []) (suc b)) meet)
      meet_many b l =
          let done = round_done r k in
          let short = certified.within program w written are R some d ended basis steps (suc b) l in
          let h : r ≤ R = let c = rounds.count in omega (arith, c, k) in
          subst (λ ls. IsStageCounted 1 (length (blend rationals (block_order 1) ls
          (of_kind (branch_of (get_or d.rounds r []) (suc b)) orbit).out))
          (of_kind (branch_of (get_or d.rounds r []) (suc b)) meet))
          (sym (certified.so_far_is program w written are R some d ended basis steps r b))
          (meet_counted A (suc r) (suc b) (list_at (length forms) d.start_out d.rounds r) _
          (of_kind (branch_of (get_or d.rounds r []) (suc b)) orbit).out
          (of_kind (branch_of (get_or d.rounds r []) (suc b)) meet)
          (certified.meet_places program w written are (suc r)
          (list_at (length forms) d.start_out d.rounds r)
          (certified.list_reduced program w written are R some d ended basis steps r h)
          (get_or d.rounds r []) (pred (length forms))
          (certified.inside program w written are R some d ended basis steps)
          (list_at (length forms) d.start_out d.rounds (suc r)) done b short)
          (done.meets b short))

      branch_counted : (b : ℕ) → b < length program.branches
          → IsBranchCounted program (full_from basis steps written d) r b
      branch_counted zero l = record {
        orbit = orbit_many 0 l;
        meet = λ n. absurd (omega (arith, n));
      }
      branch_counted (suc b) l = record { orbit = orbit_many (suc b) l; meet = λ n. meet_many b l }

    pub trace_counted : length steps ≡ length program.branches
        → All (IsSquare (length basis)) steps
        → IsCounted program (full_from basis steps written d)
    trace_counted count squares = record {
      steps = count;
      squares = squares;
      forms = sym (length-map written as_form) ∙ are.count;
      polys = polys_counted;
      links = ap length ended.in_round.started.links
          ∙ links_count ended.in_round.started.stage ended.in_round.started.work;
      links_widths = subst (λ rows. All (λ row. length row ≡ length d.start_out) rows)
          (sym ended.in_round.started.links)
          (subst (λ (out : List (Terms Fraction)). All (λ row. length row ≡ length out)
          ended.in_round.started.stage.links) (sym ended.in_round.started.out)
          (links_widths ended.in_round.started.stage ended.in_round.started.work));
      rounds = rows_counted;
      first = λ r k n. (round_done r k).none;
      others = λ r b k n l. others r b k n l;
      stages = λ r b k l. branch_counted r k b l;
    }
      where
        others : (r b : ℕ) → r < length d.rounds → 0 < b → b < length program.branches
            → is_some (branch_of (get_or d.rounds r []) b).meet_stage ≡ true
        others r zero k n l = absurd (omega (arith, n))
        others r (suc b) k n l = (round_done r k).there b
            (certified.within program w written are R some d ended basis steps (suc b) l)

-- ---- a finished trace
pub finished_counted : {At : Type 0} (program : Program (Expr At)) → IsWellFormed program
    → (es : List Entry) (k : ℕ) (gs : List (Terms Fraction)) (d : Results)
    (t : IsFinished program k es d) (steps : List (List (List (Terms Fraction))))
    → length steps ≡ length program.branches → All (IsSquare (length gs)) steps
    → IsCounted program (full_from gs steps t.follows.forms d)
finished_counted program w es k gs d t steps count squares =
    let written : List WrittenForm = t.follows.forms in
    let are : AreForms program (map as_form written) = t.follows.are_forms in
    let some : 0 < length (map as_form written) = (let n = are.count in let b = w.some_branch in
    omega (arith, n, b)) in
    trace_counted program w written are k some d
    (finished_ended (setting_of program (map as_form written) None) k some t.state es d
    t.follows.run t.is) gs steps
    count squares
