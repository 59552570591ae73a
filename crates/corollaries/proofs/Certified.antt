-- What a trace that has ended gives is a full certificate (specs/Certified).
--   trace_certified        where it ends with the basis
--   certified_over         its polynomials are in order
--   last_is                its last list is that of the analysis
--   finished_full          so a finished trace gives one
use Rattle.std.proofs.Common.{◌≡◌, ◌≢◌, ◌⊎◌, inl, inr, ℕ, zero, suc, pred, ◌+◌, ◌<◌, ◌≤◌, List, [], ◌∷◌, map, length, get_or, None, refl, sym, ap, subst, ◌∙◌, arith}
use Rattle.std.proofs.lemmas.List.{length-map, get_or-map, get_or_past}
use Rattle.algebra.specs.Each.{Each}
use Rattle.algebra.proofs.Each.{each-map, each_weaker}
use Rattle.algebra.proofs.In.{each_from}
use Rattle.algebra.specs.Fraction.{Fraction, ℚ, rationals}
use Rattle.algebra.proofs.Fractions.{ℚ_field}
use Rattle.polynomials.specs.Order.{grevlex}
use Rattle.polynomials.specs.Polynomial.{Arity, AllArity, IsPolynomial}
use Rattle.polynomials.specs.Terms.{Terms, Same, AllSame, combination}
use Rattle.polynomials.proofs.Arity.{arity_at}
use Rattle.polynomials.proofs.Orders.{grevlex_order}
use Rattle.polynomials.proofs.Same.{Same-sym, Same-trans, AllSame-refl}
use Rattle.ideals.specs.Members.{IsMember}
use Rattle.ideals.proofs.FractionMembers.{member_at, member_same}
use Rattle.machines.specs.Basis.{AtPlaces, SomeLeadDivides}
use Rattle.machines.specs.Collect.{collect}
use Rattle.machines.specs.Elimination.{blend}
use Rattle.machines.proofs.Collecting.{collect-polynomial, collect-same}
use Rattle.machines.proofs.Meeting.{blend_polynomials}
use Rattle.machines.proofs.Places.{each_at, in_slice, slice_in}
use Rattle.machines.proofs.Reducing.{one_reduced}
use Rattle.machines.proofs.ReducedLists.{reduced_arity}
use Rattle.loops.specs.Map.{branch_map}
use Rattle.loops.specs.Program.{Expr, Program}
use Rattle.loops.proofs.Maps.{length-branch_map}
use Rattle.loops.specs.Certificate.{AreOver, IsValid}
use Rattle.loops.specs.WellFormed.{IsWellFormed}
use Rattle.rounds.specs.Analysis as analysis
use Rattle.rounds.specs.Analysis.{Setting, starts, starting}
use Rattle.rounds.specs.Form.{Form, front, orbit_front, orbit_list, IsClosedForm}
use Rattle.rounds.specs.Generate.{Generates}
use Rattle.machines.specs.Journal.{Entry}
use Rattle.machines.specs.Reduced.{IsReducedFor}
use Rattle.loops.specs.Inv.{Inv}
use Rattle.rounds.specs.Journal as journal
use Rattle.rounds.specs.Journal.{setting_of, AreForms}
use Rattle.rounds.proofs.Round.{round_generates}
use Rattle.rounds.proofs.Theorem.{finished_is, finished_generates}
use Rattle.corollaries.specs.Followed.{IsFinished}
use Rattle.rounds.specs.Orbit.{IsEliminated}
use Rattle.rounds.specs.Results.{IsReducedList, Laws}
use Rattle.rounds.specs.Start.{start_list}
use Rattle.rounds.specs.Word.{AtMost, Stays, IsZeroAtStarts}
use Rattle.rounds.proofs.Lawful.{lawful}
use Rattle.rounds.proofs.Invariants.{reduced_for}
use Rattle.rounds.proofs.Start.{start_list_arity}
use Rattle.rounds.proofs.PullBack.{starting_polynomials}
use Rattle.corollaries.specs.Stage.{Stage, block_order, StageHolds, IsStageOver}
use Rattle.corollaries.specs.FormIdentities.{IsRightForm}
use Rattle.corollaries.specs.Full.{BranchStages, FullCertificate, WrittenForm, as_form, orbit, meet, of_kind, of_option, certificate, stage_of, so_far, before, front_of, IsFullOver}
use Rattle.corollaries.specs.Full as full
use Rattle.corollaries.specs.Parts.{AllHold}
use Rattle.corollaries.proofs.AllParts.{all_parts}
use Rattle.corollaries.specs.Trace as trace
use Rattle.corollaries.specs.Trace.{Results}
use Rattle.corollaries.specs.Certified.{full_from}
use Rattle.corollaries.proofs.ClosedForms.{closed_form_passes}
use Rattle.corollaries.proofs.Traces.{divided_sum, traced_holds}
use Rattle.corollaries.proofs.Following.{WorkDone, Ended, finished_ended}
use Rattle.solvable_maps.specs.Iterations.{width}
use Rattle.corollaries.proofs.Over.{arities, rows_over, orbit_over, meet_over, no_over}
use Rattle.corollaries.proofs.Works.{polynomials_at, orbit_traced, meet_traced, work_out}
use Rattle.corollaries.proofs.Chained.{no_branch, branch_of, given, list_at, AreDone, RoundsDone, rounds_done}
use Rattle.corollaries.specs.Traced.{IsDivided, IsTraced}
use Rattle.corollaries.proofs.WrittenForms.{form_is}
use Rattle.corollaries.proofs.Sounding.{work_reduces, work_eliminates, orbit_reduced, start_reduced, started_sound, rounds_sound}

module _ {At : Type 0} (program : Program (Expr At)) (w : IsWellFormed program)
    (written : List WrittenForm) (are : AreForms program (map as_form written)) where
  abbrev forms : List Form
  forms = map as_form written

  abbrev A : Setting
  A = setting_of program (map as_form written) None

  abbrev m : ℕ
  m = length program.names

  abbrev bare : WrittenForm
  bare = record { base = []; polys = [] }

  -- the form of a branch is the one that is written
  closed : (b : ℕ) → b < length program.branches
      → IsClosedForm program (suc b) (as_form (get_or written b (record { base = []; polys = [] })))
  closed b l = subst (IsClosedForm program (suc b)) (form_is written b)
      (are.each b (record { base = []; polys = []; since = 0 }) (let c = are.count in
      omega (arith, c, l)))

  laws : Laws program (setting_of program (map as_form written) None)
  laws = lawful program None (map as_form written) None are

  reduced_each : (gs : List (Terms Fraction)) → IsReducedList m gs
      → Each (IsPolynomial ℚ grevlex m) gs
  reduced_each gs r = each_from gs r.polynomials

  -- ---- the start
  module _ (s : Stage) (x : WorkDone A starts s) where
    unfoldable pub out : List (Terms Fraction)
    out = x.out

    pub out_is : s.out ≡ out
    unfolding out
    out_is = work_out A starts s x

    pub links_is : s.links ≡ x.links
    unfolding trace.stage_of
    links_is = ap (λ (t : Stage). t.links) x.is

    reduced : IsReducedList m out
    reduced = subst (IsReducedList m) out_is (start_reduced program w written are s x)

    pub two : AtPlaces (λ g. IsPolynomial ℚ grevlex m g × (g ≢ [])) out
    two i g at = let j = in_slice out i g at in (reduced.polynomials g j, reduced.nonzero g j)

    out_leads : (u : List ℕ × Fraction) (q : Terms Fraction) → IsPolynomial ℚ grevlex m (u ∷ q)
        → IsMember ℚ m out (u ∷ q) → SomeLeadDivides out u.0
    out_leads u q hq i =
        let (g, among, d) = reduced.led u q hq i in
        let (n, at) = slice_in out g among in
        record { place = n; element = g; at = at; divided = d }

    eliminated : IsEliminated 0 m (starting A starts) s.out
    unfolding analysis.block
    eliminated = work_eliminates program w written are starts tt tt s x

    start_at : ℕ → Terms Fraction
    start_at i = get_or (start_list program) i []

    start_arity : (i : ℕ) → Arity m (start_at i)
    unfolding start_at
    start_arity i = arity_at m (start_list program) (start_list_arity program) i

    collected : (i : ℕ) → IsPolynomial ℚ grevlex m (collect rationals grevlex (start_at i))
    collected i = collect-polynomial ℚ_field grevlex grevlex_order m (start_at i) (start_arity i)

    start_member : (i : ℕ) → i < length (start_list program)
        → IsMember ℚ m out (collect rationals grevlex (start_at i))
    unfolding start_at
    start_member i l =
        let q : Terms Fraction = collect rationals grevlex (start_at i) in
        subst (λ gs. IsMember ℚ m gs q) out_is
        (eliminated.all q (collected i).arity ((laws.start_members q (collected i).arity).1
        (member_same m (start_list program) (start_at i) q (collect-same ℚ_field grevlex
        grevlex_order (start_at i)) (member_at m (start_list program)
        (start_list_arity program) i l))))

    divided : (i : ℕ) → i < length (start_list program)
        → IsDivided grevlex out (collect rationals grevlex (start_at i)) (get_or x.links i [])
    unfolding start_at out trace.link_dividends starting
    divided i l =
        subst (λ p. IsDivided grevlex x.out p (get_or x.links i []))
        (get_or-map (collect rationals grevlex) (start_list program) i [] [] l)
        (polynomials_at grevlex x.out (map (collect rationals grevlex) (start_list program)) x.links
        x.linked i
        (subst (λ n. i < n)
        (sym (length-map (start_list program) (collect rationals grevlex))) l))

    pub start_told : (i : ℕ) → i < length (start_list program)
        → Same ℚ (get_or (start_list program) i []) (combination ℚ (get_or s.links i []) s.out)
    unfolding start_at
    start_told i l =
        subst (λ gs. Same ℚ (start_at i) (combination ℚ (get_or s.links i []) gs)) (sym out_is)
        (subst (λ rows. Same ℚ (start_at i) (combination ℚ (get_or rows i []) out)) (sym links_is)
        (Same-trans ℚ (Same-sym ℚ (collect-same ℚ_field grevlex grevlex_order (start_at i)))
        (divided_sum grevlex grevlex_order m out two out_leads
        (collect rationals grevlex (start_at i)) (collected i) (start_member i l)
        (get_or x.links i []) (divided i l))))

    pub start_links_over : Each (AllArity (length program.names)) s.links
    unfolding out start_at trace.link_dividends starting
    start_links_over = subst (Each (AllArity m)) (sym links_is) (arities grevlex m x.links
        (rows_over grevlex grevlex_order m x.out (λ i g at. record {
          polynomial = (two i g at).0;
          nonzero = (two i g at).1;
        })
        (map (λ p. (None, p)) (map (collect rationals grevlex) (start_list program))) x.links
        (each-map (λ (j : trace.Dividend). IsPolynomial ℚ grevlex m j.1) (λ p. (None, p))
        (map (collect rationals grevlex) (start_list program))
        (each-map (IsPolynomial ℚ grevlex m) (collect rationals grevlex) (start_list program)
        (each_weaker (Arity m) (λ p. IsPolynomial ℚ grevlex m (collect rationals grevlex p)) (λ p a.
        collect-polynomial ℚ_field grevlex grevlex_order m p a) (start_list program)
        (start_list_arity program)))) x.linked))

  -- ---- the stages of branches
  unfoldable pub kind_front : ℕ → full.Kind → ℕ
  kind_front b orbit =
      front (length (as_form (get_or written b (record { base = []; polys = [] }))).base)
  kind_front b meet = 1

  module _ (k : ℕ) (gs : List (Terms Fraction)) (r : IsReducedList m gs) (bs : List BranchStages)
      (n : ℕ) (inside : n < length program.branches) (hs : List (Terms Fraction))
      (done : AreDone A k gs bs n hs) where
    out_reduced : (b : ℕ) → b ≤ n → IsReducedList m (of_kind (branch_of bs b) orbit).out
    out_reduced b l = let o = done.orbits b l in orbit_reduced program w written are k b gs o.0
        (of_kind (branch_of bs b) orbit) r (omega (arith, l, inside)) o.1

    given_reduced : (b : ℕ) → b ≤ n → IsReducedList m (given bs b)
    unfolding given
    given_reduced zero l = out_reduced 0 l
    given_reduced (suc b) l =
        work_reduces program w written are (analysis.meet k (suc b) gs (given bs b)
        (of_kind (branch_of bs (suc b)) orbit).out) tt (
          given_reduced b (omega (arith, l)),
          out_reduced (suc b) l,
        ) (of_kind (branch_of bs (suc b)) meet) (done.meets b l)

    pub orbit_holds : (b : ℕ) → b ≤ n
        → StageHolds
        (front (length (as_form (get_or written b (record { base = []; polys = [] }))).base))
        (orbit_list (as_form (get_or written b (record { base = []; polys = [] })))
        (length program.names) gs)
        (of_kind (branch_of bs b) orbit)
    orbit_holds b l =
        let f : Form = as_form (get_or written b bare) in
        let o = done.orbits b l in
        let e : IsClosedForm program (suc b) f = closed b (omega (arith, l, inside)) in
        traced_holds (front (length f.base)) m (orbit_list f m gs)
        (each_at (IsPolynomial ℚ (block_order (front (length f.base))) (front (length f.base)
        + m)) (orbit_list f m gs) (starting_polynomials program (suc b) f
        e.base.is.coarsest.base.coprime e.form gs (reduced_arity grevlex grevlex_order m gs
        (IsMember ℚ m gs) r)))
        (of_kind (branch_of bs b) orbit)
        (subst (λ (g : Form). IsTraced (orbit_front g m) (orbit_list g m gs)
        (of_kind (branch_of bs b) orbit)) (form_is written b)
        (orbit_traced A k b gs o.0 (of_kind (branch_of bs b) orbit) o.1))

    pub orbit_places : (b : ℕ) → b ≤ n
        → AtPlaces
        (IsPolynomial ℚ
        (block_order
        (front (length (as_form (get_or written b (record { base = []; polys = [] }))).base)))
        (front (length (as_form (get_or written b (record { base = []; polys = [] }))).base)
        + length program.names))
        (orbit_list (as_form (get_or written b (record { base = []; polys = [] })))
        (length program.names) gs)
    orbit_places b l =
        let f : Form = as_form (get_or written b bare) in
        let e : IsClosedForm program (suc b) f = closed b (omega (arith, l, inside)) in
        each_at (IsPolynomial ℚ (block_order (front (length f.base))) (front (length f.base) + m))
        (orbit_list f m gs) (starting_polynomials program (suc b) f
        e.base.is.coarsest.base.coprime e.form gs (reduced_arity grevlex grevlex_order m gs
        (IsMember ℚ m gs) r))

    pub meet_places : (b : ℕ) → suc b ≤ n
        → AtPlaces (IsPolynomial ℚ (block_order 1) (1 + length program.names))
        (blend rationals (block_order 1) (given bs b) (of_kind (branch_of bs (suc b)) orbit).out)
    meet_places b l =
        let ls : List (Terms Fraction) = given bs b in
        let os : List (Terms Fraction) = (of_kind (branch_of bs (suc b)) orbit).out in
        each_at (IsPolynomial ℚ (block_order 1) (1 + m)) (blend rationals (block_order 1) ls os)
        (blend_polynomials ℚ_field m grevlex grevlex grevlex_order grevlex_order ls os
        (reduced_each ls (given_reduced b (omega (arith, l))))
        (reduced_each os (out_reduced (suc b) l)))

    pub stages_over : (b : ℕ) → b ≤ n → (kind : full.Kind)
        → IsStageOver (kind_front b kind) (length program.names) (of_kind (branch_of bs b) kind)
    unfolding kind_front
    stages_over b l orbit = let o = done.orbits b l in
        subst (λ (g : Form). IsStageOver (orbit_front g m) m (of_kind (branch_of bs b) orbit))
        (form_is written b) (orbit_over A k b gs o.0 (of_kind (branch_of bs b) orbit)
        (subst (λ (g : Form). AtPlaces (IsPolynomial ℚ (block_order (orbit_front g m))
        (orbit_front g m + m)) (orbit_list g m gs)) (sym (form_is written b)) (orbit_places b l))
        o.1)
    stages_over zero l meet = subst (IsStageOver 1 m) (sym (ap of_option done.none)) (no_over 1 m)
    stages_over (suc b) l meet = meet_over A k (suc b) gs (given bs b)
        (of_kind (branch_of bs (suc b)) orbit).out (of_kind (branch_of bs (suc b)) meet)
        (meet_places b l) (done.meets b l)

    pub meet_holds : (b : ℕ) → suc b ≤ n
        → StageHolds 1 (blend rationals (block_order 1) (given bs b) (of_kind (branch_of bs (suc b))
        orbit).out) (of_kind (branch_of bs (suc b)) meet)
    meet_holds b l =
        let ls : List (Terms Fraction) = given bs b in
        let os : List (Terms Fraction) = (of_kind (branch_of bs (suc b)) orbit).out in
        traced_holds 1 m (blend rationals (block_order 1) ls os)
        (each_at (IsPolynomial ℚ (block_order 1) (1 + m)) (blend rationals (block_order 1) ls os)
        (blend_polynomials ℚ_field m grevlex grevlex grevlex_order grevlex_order ls os
        (reduced_each ls (given_reduced b (omega (arith, l))))
        (reduced_each os (out_reduced (suc b) l))))
        (of_kind (branch_of bs (suc b)) meet) (meet_traced A k (suc b) gs ls os
        (of_kind (branch_of bs (suc b)) meet) (done.meets b l))

  -- ---- the certificate
  module _ (R : ℕ) (some : 0 < length forms) (d : Results) (ended : Ended A R some d)
      (basis : List (Terms Fraction)) (steps : List (List (List (Terms Fraction)))) where
    c : FullCertificate
    c = full_from basis steps written d

    pub rounds : RoundsDone A d.start_out d.rounds R ended.last
    rounds = rounds_done A d.start_out d.rounds R ended.last ended.in_round.rounds

    n : ℕ
    n = length forms

    pub so_far_is : (r b : ℕ) → so_far (full_from basis steps written d) r b
        ≡ given (get_or d.rounds r []) b
    unfolding so_far given
    so_far_is r zero = refl
    so_far_is r (suc b) = refl

    pub before_is : (r : ℕ) → before program (full_from basis steps written d) r
        ≡ list_at (length forms) d.start_out d.rounds r
    unfolding before list_at
    before_is zero = refl
    before_is (suc r) = so_far_is r (pred (length program.branches))
        ∙ ap (λ z. given (get_or d.rounds r []) (pred z)) (sym are.count)

    pub inside : pred (length forms) < length program.branches
    inside = let c = are.count in omega (arith, c, some)

    pub list_reduced : (r : ℕ) → r ≤ R
        → IsReducedList m (list_at (length forms) d.start_out d.rounds r)
    unfolding list_at
    list_reduced zero l = subst (IsReducedList m) (sym ended.in_round.started.out)
        (start_reduced program w written are ended.in_round.started.stage
        ended.in_round.started.work)
    list_reduced (suc r) l = given_reduced (suc r) (list_at (length forms) d.start_out d.rounds r)
        (list_reduced r (omega (arith, l))) (get_or d.rounds r []) (pred (length forms)) inside
        (list_at (length forms) d.start_out d.rounds (suc r)) (rounds.each r (omega (arith, l)))
        (pred (length forms)) (omega arith)

    pub within : (b : ℕ) → b < length program.branches → b ≤ pred (length forms)
    within b l = let c = are.count in omega (arith, c, l)

    orbits : (r b : ℕ) → r < length d.rounds → b < length program.branches
        → StageHolds
        (front (length (as_form (get_or written b (record { base = []; polys = [] }))).base))
        (orbit_list (as_form (get_or written b (record { base = []; polys = [] })))
        (length program.names)
        (before program (full_from basis steps written d) r))
        (of_kind (branch_of (get_or d.rounds r []) b) orbit)
    orbits r b k l =
        let h : r < R = let e = rounds.count in omega (arith, e, k) in
        subst (λ gs. StageHolds (front (length (as_form (get_or written b bare)).base))
        (orbit_list (as_form (get_or written b bare)) m gs)
        (of_kind (branch_of (get_or d.rounds r []) b)
        orbit)) (sym (before_is r))
        (orbit_holds (suc r) (list_at (length forms) d.start_out d.rounds r)
        (list_reduced r (omega (arith, h))) (get_or d.rounds r []) (pred (length forms))
        inside (list_at (length forms) d.start_out d.rounds (suc r)) (rounds.each r h) b
        (within b l))

    meets : (r b : ℕ) → r < length d.rounds → suc b < length program.branches
        → StageHolds 1 (blend rationals (block_order 1) (so_far (full_from basis steps written d) r
        b)
        (of_kind (branch_of (get_or d.rounds r []) (suc b)) orbit).out)
        (of_kind (branch_of (get_or d.rounds r []) (suc b)) meet)
    meets r b k l =
        let h : r < R = let e = rounds.count in omega (arith, e, k) in
        subst (λ ls.
        StageHolds 1 (blend rationals (block_order 1) ls
        (of_kind (branch_of (get_or d.rounds r []) (suc b)) orbit).out)
        (of_kind (branch_of (get_or d.rounds r []) (suc b)) meet)) (sym (so_far_is r b))
        (meet_holds (suc r) (list_at (length forms) d.start_out d.rounds r)
        (list_reduced r (omega (arith, h))) (get_or d.rounds r []) (pred (length forms))
        inside (list_at (length forms) d.start_out d.rounds (suc r)) (rounds.each r h) b
        (within (suc b) l))

    start : (i : ℕ) → i < length (start_list program) → Same ℚ (get_or (start_list program) i [])
        (combination ℚ (get_or d.start_links i []) d.start_out)
    start i l =
        subst (λ gs. Same ℚ (get_or (start_list program) i [])
        (combination ℚ (get_or d.start_links i []) gs)) (sym ended.in_round.started.out)
        (subst (λ rows. Same ℚ (get_or (start_list program) i []) (combination ℚ (get_or rows i [])
        ended.in_round.started.stage.out)) (sym ended.in_round.started.links)
        (start_told ended.in_round.started.stage ended.in_round.started.work i l))

    judged : (b : ℕ) → b < length program.branches
        → IsRightForm (branch_map program (get_or program.branches b [])) (length program.names)
        (as_form (get_or written b (record { base = []; polys = [] })))
    judged b l =
        let e : IsClosedForm program (suc b) (as_form (get_or written b bare)) = closed b l in
        closed_form_passes (branch_map program (get_or program.branches b [])) m
        (length-branch_map program (get_or program.branches b [])) (as_form (get_or written b bare))
        e.base.is.coarsest.base.coprime e.base.is.ascending e.form e.normal

    end_is : before program (full_from basis steps written d) (length d.rounds) ≡ ended.last
    end_is = ap (before program (full_from basis steps written d)) rounds.count
        ∙ (before_is R ∙ sym rounds.last)

    -- WHAT A TRACE THAT HAS ENDED GIVES IS A FULL CERTIFICATE
    pub trace_certified : IsValid program (record { basis = basis; steps = steps })
        → ended.last ≡ basis → AllHold program (full_from basis steps written d)
    trace_certified valid last = all_parts program (full_from basis steps written d) valid judged
        start orbits meets (subst (λ gs. AllSame ℚ gs basis) (sym (end_is ∙ last))
        (AllSame-refl ℚ basis))

    -- its polynomials are in order
    forms_over : (b : ℕ) → (b < length forms) ⊎ (length forms ≤ b)
        → AllArity
        (width (length (as_form (get_or written b (record { base = []; polys = [] }))).base)
        (length program.names))
        (as_form (get_or written b (record { base = []; polys = [] }))).polys
    unfolding Each
    forms_over b (inl l) = let f : Form = as_form (get_or written b bare) in
        each_weaker (IsPolynomial ℚ grevlex (width (length f.base) m))
        (Arity (width (length f.base) m)) (λ q i. i.arity) f.polys (closed b (let c = are.count in
        omega (arith, c, l))).polynomials
    forms_over b (inr l) = subst (λ (f : WrittenForm). AllArity (width (length f.base) m) f.polys)
        (sym (get_or_past written b bare (let n = length-map written as_form in
        omega (arith, l, n)))) tt

    side : (i j : ℕ) → (i < j) ⊎ (j ≤ i)
    side i j = grind arith

    none_over : (b : ℕ) (kind : full.Kind) (z : BranchStages) → z ≡ no_branch
        → IsStageOver (front_of (full_from basis steps written d) b kind) (length program.names)
        (of_kind z kind)
    none_over b orbit z e =
        subst (λ (y : BranchStages).
        IsStageOver (front (length (as_form (get_or written b bare)).base)) m
        (of_kind y orbit)) (sym e) (no_over (front (length (as_form (get_or written b bare)).base))
        m)
    none_over b meet z e = subst (λ (y : BranchStages). IsStageOver 1 m (of_kind y meet)) (sym e)
        (no_over 1 m)

    kinds : (b : ℕ) (kind : full.Kind) (s : Stage)
        → IsStageOver (kind_front b kind) (length program.names) s
        → IsStageOver (front_of (full_from basis steps written d) b kind) (length program.names) s
    unfolding kind_front
    kinds b orbit s h = h
    kinds b meet s h = h

    each_over : (r b : ℕ) (kind : full.Kind) → (r < R) ⊎ (R ≤ r) → (b < length forms)
        ⊎ (length forms ≤ b) → IsStageOver (front_of (full_from basis steps written d) b kind)
        (length program.names) (of_kind (branch_of (get_or d.rounds r []) b) kind)
    each_over r b kind (inr h) l = none_over b kind (branch_of (get_or d.rounds r []) b)
        (ap (λ z. branch_of z b) (get_or_past d.rounds r [] (let e = rounds.count in
        omega (arith, e, h))) ∙ get_or_past [] b no_branch (omega arith))
    each_over r b kind (inl h) (inr l) = none_over b kind (branch_of (get_or d.rounds r []) b)
        (get_or_past (get_or d.rounds r []) b no_branch (let e = (rounds.each r h).count in
        omega (arith, e, l, some)))
    each_over r b kind (inl h) (inl l) =
        kinds b kind (of_kind (branch_of (get_or d.rounds r []) b) kind)
        (stages_over (suc r) (list_at (length forms) d.start_out d.rounds r)
        (list_reduced r (omega (arith, h))) (get_or d.rounds r []) (pred (length forms))
        inside (list_at (length forms) d.start_out d.rounds (suc r)) (rounds.each r h) b
        (omega (arith, l)) kind)

    pub certified_over : AreOver (length program.names) (record { basis = basis; steps = steps })
        → IsFullOver program (full_from basis steps written d)
    certified_over a = record {
      basis = a;
      forms = λ b. forms_over b (side b (length forms));
      start_out = subst (Each (IsPolynomial ℚ grevlex m)) (sym ended.in_round.started.out)
          (reduced_each ended.in_round.started.stage.out (start_reduced program w written are
          ended.in_round.started.stage ended.in_round.started.work));
      start_links = subst (Each (AllArity m)) (sym ended.in_round.started.links)
          (start_links_over ended.in_round.started.stage ended.in_round.started.work);
      stages = λ r b kind. each_over r b kind (side r R) (side b (length forms));
    }

    pub last_is : (gs : List (Terms Fraction)) → IsReducedList (length program.names) gs
        → Generates (length program.names) gs (Stays program (IsZeroAtStarts program) (AtMost R))
        → ended.last ≡ gs
    last_is gs r g =
        let l = rounds_sound program w written are d.start_out (started_sound program w written are
        d
        ended.in_round.started) d.rounds R ended.last ended.in_round.rounds in
        one_reduced ℚ_field grevlex grevlex_order m gs (λ i x at.
        r.polynomials x (in_slice gs i x at)) ended.last gs
        (reduced_for m (IsMember ℚ m ended.last) (IsMember ℚ m gs) ended.last (λ p a. (
          (λ i. g.all p a (l.generates.only p a i)),
          (λ i. l.generates.all p a (g.only p a i)),
        )) l.reduced) r

-- ---- a finished trace
module _ {At : Type 0} (program : Program (Expr At)) (w : IsWellFormed program) where
  pub finished_full : (es fs : List Entry) (k : ℕ) (gs : List (Terms Fraction))
      → journal.IsFinished program es k gs → (d : Results) (t : IsFinished program k fs d)
      → (steps : List (List (List (Terms Fraction))))
      → IsValid program (record { basis = gs; steps = steps })
      → AllHold program (full_from gs steps t.follows.forms d)
  finished_full es fs k gs c d t steps valid =
      let written : List WrittenForm = t.follows.forms in
      let are : AreForms program (map as_form written) = t.follows.are_forms in
      let some : 0 < length (map as_form written) = (let n = are.count in let b = w.some_branch in
      omega (arith, n, b)) in
      let ended : Ended (setting_of program (map as_form written) None) k some d =
      finished_ended (setting_of program (map as_form written) None) k some t.state fs d
      t.follows.run t.is in
      let f = finished_is program w es k gs c in
      trace_certified program w written are k some d ended gs steps valid
      (last_is program w written are k some d ended gs steps gs
      (made_for_itself gs f.2 (finished_generates program w es k gs c))
      (round_generates program (IsZeroAtStarts program) w.some_branch k gs f.0))
    where
      made_for_itself : (gs : List (Terms Fraction))
          → IsReducedFor rationals grevlex (length program.names) gs (Inv program)
          → Generates (length program.names) gs (Inv program)
          → IsReducedList (length program.names) gs
      made_for_itself gs r g = reduced_for (length program.names) (Inv program)
          (IsMember ℚ (length program.names) gs) gs (λ p a. (g.all p a, g.only p a)) r

  pub finished_over : (es : List Entry) (k : ℕ) (gs : List (Terms Fraction)) (d : Results)
      (t : IsFinished program k es d)
      → (steps : List (List (List (Terms Fraction))))
      → AreOver (length program.names) (record { basis = gs; steps = steps })
      → IsFullOver program (full_from gs steps t.follows.forms d)
  finished_over es k gs d t steps over =
      let written : List WrittenForm = t.follows.forms in
      let are : AreForms program (map as_form written) = t.follows.are_forms in
      let some : 0 < length (map as_form written) = (let n = are.count in let b = w.some_branch in
      omega (arith, n, b)) in
      certified_over program w written are k some d
      (finished_ended (setting_of program (map as_form written) None) k
      some t.state es d t.follows.run t.is) gs steps over

  pub finished_reduced : (es : List Entry) (k : ℕ) (gs : List (Terms Fraction))
      → journal.IsFinished program es k gs → IsReducedFor rationals grevlex (length program.names)
      gs (Inv program)
  finished_reduced es k gs c = (finished_is program w es k gs c).2
