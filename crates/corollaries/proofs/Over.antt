-- What a trace gives are polynomials, with their terms in order (IsFullOver), and as many as they must be (specs/Counts).
--   rows_over              the cofactors of divisions;  rows_count, rows_widths: as many rows as dividends, each as long as the list
--   stage_over             a stage;  orbit_over, meet_over: that of an orbit, and of an intersection;  links_over: the cofactors of the start
--   stage_counted, orbit_counted, meet_counted     how many they are
--   no_over                no stage
use Rattle.std.proofs.Common.{◌≡◌, ℕ, zero, suc, ◌+◌, ◌<◌, List, [], ◌∷◌, ◌++◌, map, take, drop, length, All, Some, None, refl, sym, ap, subst, ◌∙◌, arith}
use Rattle.std.proofs.lemmas.List.{length-map}
use Rattle.std.proofs.lemmas.List.Elements.{All-nil, All-cons, All-take, All-drop}
use Rattle.algebra.specs.Each.{Each}
use Rattle.algebra.proofs.Each.{each-append, each-drop, each-map, each_weaker}
use Rattle.algebra.proofs.In.{each_from}
use Rattle.algebra.specs.Fraction.{Fraction, ℚ, rationals}
use Rattle.algebra.proofs.Fractions.{ℚ_field}
use Rattle.polynomials.specs.Order.{Rank, IsMonomialOrder, grevlex}
use Rattle.polynomials.specs.Polynomial.{AllArity, IsPolynomial}
use Rattle.polynomials.specs.Terms.{Terms}
use Rattle.polynomials.proofs.Orders.{grevlex_order, blocks_order}
use Rattle.ideals.specs.Members.{IsMember}
use Rattle.machines.specs.Basis.{AtPlaces, IsBasisOf}
use Rattle.machines.specs.Completion.{s_polynomial}
use Rattle.machines.specs.Division as division
use Rattle.machines.specs.Elimination.{free_part, blend}
use Rattle.machines.specs.Reduced.{IsReducedFor}
use Rattle.machines.proofs.Cofactors.{cofactors_fall}
use Rattle.machines.proofs.Dividing.{kept_begun, kept_run}
use Rattle.machines.proofs.Elements.{IsElement}
use Rattle.machines.proofs.Places.{in_slice, at_each}
use Rattle.corollaries.specs.Representation.{pairs_of}
use Rattle.corollaries.specs.Stage.{Stage, no_stage, block_order, IsStageOver}
use Rattle.corollaries.proofs.AllParts.{pairs_below}
use Rattle.corollaries.specs.Counts.{IsStageCounted}
use Rattle.corollaries.specs.Traced.{IsDivided, IsCompleted, IsTidied, IsTraced}
use Rattle.rounds.specs.Analysis.{Setting, orbit, meet, block, starting, form_of, front_of}
use Rattle.rounds.specs.Form.{orbit_list}
use Rattle.corollaries.specs.Trace.{Dividend, list_dividends, link_dividends, stage_of}
use Rattle.corollaries.proofs.Following.{AllDivided, WorkDone}
use Rattle.corollaries.proofs.Traces.{basis, kept_is, out_reduced, s_treated}
use Rattle.corollaries.proofs.Works.{divided_front, divided_back, stage_traced}

each-take : {X : Type 0} (P : X → Type 0) (k : ℕ) (xs : List X) → Each P xs → Each P (take k xs)
unfolding Each
each-take P zero xs h = tt
each-take P (suc k) [] h = tt
each-take P (suc k) (x ∷ xs) h = (h.0, each-take P k xs h.1)

module _ (O : Rank) (o : IsMonomialOrder O) (n : ℕ) (gs : List (Terms Fraction))
    (el : AtPlaces (IsElement ℚ_field O o n) gs) where
  divided_over : (p : Terms Fraction) → IsPolynomial ℚ O n p → (qs : List (Terms Fraction))
      → IsDivided O gs p qs → Each (IsPolynomial ℚ O n) qs
  divided_over p h qs d = subst (Each (IsPolynomial ℚ O n)) (sym d.is) (at_each (IsPolynomial ℚ O n)
      d.ends.last.cofactors (cofactors_fall ℚ_field O o n gs el p h d.ends.last d.ends.events
      d.ends.run))

  pub rows_over : (js : List Dividend) (rows : List (List (Terms Fraction)))
      → Each (λ j. IsPolynomial ℚ O n j.1) js → AllDivided O gs js rows
      → Each (Each (IsPolynomial ℚ O n)) rows
  unfolding Each
  rows_over [] [] h a = tt
  rows_over [] (r ∷ rows) h a = absurd a
  rows_over (j ∷ js) [] h a = absurd a
  rows_over (j ∷ js) (r ∷ rows) h a = (divided_over j.1 h.0 r a.0, rows_over js rows h.1 a.1)

-- ---- how many
module _ (O : Rank) (gs : List (Terms Fraction)) where
  pub rows_count : (js : List Dividend) (rows : List (List (Terms Fraction)))
      → AllDivided O gs js rows → length rows ≡ length js
  rows_count [] [] a = refl
  rows_count [] (r ∷ rows) a = absurd a
  rows_count (j ∷ js) [] a = absurd a
  rows_count (j ∷ js) (r ∷ rows) a = ap suc (rows_count js rows a.1)

  module _ (o : IsMonomialOrder O) (n : ℕ) (el : AtPlaces (IsElement ℚ_field O o n) gs) where
    row_width : (p : Terms Fraction) → IsPolynomial ℚ O n p → (qs : List (Terms Fraction))
        → IsDivided O gs p qs → length qs ≡ length gs
    row_width p h qs d = ap length d.is
        ∙ (kept_run ℚ_field O o n gs el p (division.initial_state gs p) d.ends.last d.ends.events
        d.ends.run (kept_begun ℚ_field O o n gs el p h)).count

    pub rows_widths : (js : List Dividend) (rows : List (List (Terms Fraction)))
        → Each (λ (j : Dividend). IsPolynomial ℚ O n j.1) js → AllDivided O gs js rows
        → All (λ row. length row ≡ length gs) rows
    unfolding Each
    rows_widths [] [] h a = All-nil (λ (row : List (Terms Fraction)). length row ≡ length gs)
    rows_widths [] (r ∷ rows) h a = absurd a
    rows_widths (j ∷ js) [] h a = absurd a
    rows_widths (j ∷ js) (r ∷ rows) h a =
        All-cons (λ (row : List (Terms Fraction)). length row ≡ length gs) r rows
        (row_width j.1 h.0 r a.0) (rows_widths js rows h.1 a.1)

pub arities : (O : Rank) (n : ℕ) (rows : List (List (Terms Fraction)))
    → Each (Each (IsPolynomial ℚ O n)) rows → Each (AllArity n) rows
arities O n rows h = each_weaker (Each (IsPolynomial ℚ O n)) (AllArity n) (λ r g.
    each_weaker (IsPolynomial ℚ O n) _ (λ q i. i.arity) r g) rows h

module _ (k m : ℕ) (hs : List (Terms Fraction))
    (ph : AtPlaces (IsPolynomial ℚ (block_order k) (k + m)) hs) (list : List (Terms Fraction))
    (rows : List (List (Terms Fraction))) (out : List (Terms Fraction))
    (links : List (List (Terms Fraction)))
    (comp : IsCompleted (block_order k) hs list)
    (divs : AllDivided (block_order k) list (map (λ p. (None, p)) hs ++ map
    (λ a. (Some a, s_polynomial rationals (block_order k) list a)) (pairs_of (length list)))
    rows)
    (tidy : IsTidied (free_part k list) out) (linked : AllDivided grevlex out
    (map (λ p. (None, p)) (free_part k list)) links) where
  s : Stage
  s = record {
    list = list;
    gens = take (length hs) rows;
    pairs = drop (length hs) rows;
    out = out;
    links = links;
  }

  traced : IsTraced k hs (record {
    list = list;
    gens = take (length hs) rows;
    pairs = drop (length hs) rows;
    out = out;
    links = links;
  })
  traced = stage_traced k hs list rows out links comp divs tidy linked

  is_basis : IsBasisOf rationals (block_order k) (k + m) list hs
  is_basis = basis k m hs ph (record {
    list = list;
    gens = take (length hs) rows;
    pairs = drop (length hs) rows;
    out = out;
    links = links;
  }) traced

  list_elements : AtPlaces (IsElement ℚ_field (block_order k) (blocks_order k grevlex grevlex
      grevlex_order grevlex_order) (k + m)) list
  list_elements i g at = record {
    polynomial = is_basis.polynomials i g at;
    nonzero = is_basis.nonzero i g at;
  }

  reduced : IsReducedFor rationals grevlex m out (IsMember ℚ m (free_part k list))
  reduced = out_reduced k m hs ph (record {
    list = list;
    gens = take (length hs) rows;
    pairs = drop (length hs) rows;
    out = out;
    links = links;
  }) traced

  out_elements : AtPlaces (IsElement ℚ_field grevlex grevlex_order m) out
  out_elements i g at = let j = in_slice out i g at in
      record { polynomial = reduced.polynomials g j; nonzero = reduced.nonzero g j }

  is_kept : IsBasisOf rationals grevlex m (free_part k list) (free_part k list)
  is_kept = kept_is k m hs ph (record {
    list = list;
    gens = take (length hs) rows;
    pairs = drop (length hs) rows;
    out = out;
    links = links;
  }) traced

  dividends_are : Each (λ (j : Dividend). IsPolynomial ℚ (block_order k) (k + m) j.1)
      (map (λ p. (None, p)) hs ++ map
      (λ a. (Some a, s_polynomial rationals (block_order k) list a)) (pairs_of (length list)))
  dividends_are = each-append (λ (j : Dividend). IsPolynomial ℚ (block_order k) (k + m) j.1)
      (map (λ p. (None, p)) hs)
      (map (λ a. (Some a, s_polynomial rationals (block_order k) list a))
      (pairs_of (length list)))
      (each-map (λ (j : Dividend). IsPolynomial ℚ (block_order k) (k + m) j.1) (λ p. (None, p)) hs
      (at_each (IsPolynomial ℚ (block_order k) (k + m)) hs ph))
      (each-map (λ (j : Dividend). IsPolynomial ℚ (block_order k) (k + m) j.1)
      (λ a. (Some a, s_polynomial rationals (block_order k) list a)) (pairs_of (length list))
      (each_weaker (λ (a : ℕ × ℕ). (a.0 < a.1) × (a.1 < length list)) (λ (a : ℕ × ℕ).
      IsPolynomial ℚ (block_order k) (k + m) (s_polynomial rationals (block_order k) list
      a)) s_one (pairs_of (length list)) (pairs_below (length list))))
    where
      s_one : (a : ℕ × ℕ) → (a.0 < a.1) × (a.1 < length list)
          → IsPolynomial ℚ (block_order k) (k + m) (s_polynomial rationals (block_order k) list a)
      s_one a h =
          (s_treated k m hs ph (record {
            list = list;
            gens = take (length hs) rows;
            pairs = drop (length hs) rows;
            out = out;
            links = links;
          }) traced a (omega (arith, h))
          h.1).polynomial

  rows_are : Each (Each (IsPolynomial ℚ (block_order k) (k + m))) rows
  rows_are = rows_over (block_order k) (blocks_order k grevlex grevlex grevlex_order grevlex_order)
      (k + m) list list_elements _ rows dividends_are divs

  links_polynomials : Each (λ (j : Dividend). IsPolynomial ℚ grevlex m j.1)
      (map (λ p. (None, p)) (free_part k list))
  links_polynomials = each-map (λ (j : Dividend). IsPolynomial ℚ grevlex m j.1) (λ p. (None, p))
      (free_part k list) (at_each (IsPolynomial ℚ grevlex m) (free_part k list) is_kept.polynomials)

  links_are : Each (Each (IsPolynomial ℚ grevlex m)) links
  links_are = rows_over grevlex grevlex_order m out out_elements
      (map (λ p. (None, p)) (free_part k list)) links links_polynomials linked

  widths : All (λ row. length row ≡ length list) rows
  widths = rows_widths (block_order k) list
      (blocks_order k grevlex grevlex grevlex_order grevlex_order) (k + m) list_elements
      (map (λ p. (None, p)) hs ++ map
      (λ a. (Some a, s_polynomial rationals (block_order k) list a)) (pairs_of (length list)))
      rows dividends_are divs

  alone_count : (ps : List (Terms Fraction)) → length {A = Dividend} (map (λ p. (None, p)) ps)
      ≡ length ps
  alone_count ps = length-map {A = Terms Fraction} {B = Dividend} ps (λ p. (None, p))

  gens_count : length (take (length hs) rows) ≡ length hs
  gens_count = subst (λ n. length (take n rows) ≡ length hs) (alone_count hs)
      (rows_count (block_order k) list (map (λ p. (None, p)) hs) _
      (divided_front (block_order k) list (map (λ p. (None, p)) hs) _ rows divs) ∙ alone_count hs)

  pairs_count : length (drop (length hs) rows) ≡ length (pairs_of (length list))
  pairs_count = subst (λ n. length (drop n rows) ≡ length (pairs_of (length list)))
      (alone_count hs)
      (rows_count (block_order k) list _ _
      (divided_back (block_order k) list (map (λ p. (None, p)) hs) _ rows divs)
      ∙ length-map {A = ℕ × ℕ} {B = Dividend} (pairs_of (length list))
      (λ a. (Some a, s_polynomial rationals (block_order k) list a)))

  pub stage_counted : IsStageCounted k (length hs) (record {
    list = list;
    gens = take (length hs) rows;
    pairs = drop (length hs) rows;
    out = out;
    links = links;
  })
  stage_counted = record {
    gens = gens_count;
    gens_widths = All-take (λ (row : List (Terms Fraction)). length row ≡ length list)
        (length hs) rows widths;
    pairs = pairs_count;
    pairs_widths = All-drop (λ (row : List (Terms Fraction)). length row ≡ length list)
        (length hs) rows widths;
    links = rows_count grevlex out (map (λ p. (None, p)) (free_part k list)) links linked
        ∙ alone_count (free_part k list);
    links_widths = rows_widths grevlex out grevlex_order m out_elements
        (map (λ p. (None, p)) (free_part k list)) links links_polynomials linked;
  }

  pub stage_over : IsStageOver k m (record {
    list = list;
    gens = take (length hs) rows;
    pairs = drop (length hs) rows;
    out = out;
    links = links;
  })
  stage_over = record {
    list = at_each (IsPolynomial ℚ (block_order k) (k + m)) list is_basis.polynomials;
    gens = each-take (AllArity (k + m)) (length hs) rows (arities (block_order k) (k + m) rows
        rows_are);
    pairs = each-drop (Each (IsPolynomial ℚ (block_order k) (k + m))) (length hs) rows rows_are;
    out = each_from out reduced.polynomials;
    links = arities grevlex m links links_are;
  }

pub no_over : (k m : ℕ) → IsStageOver k m no_stage
unfolding Each
no_over k m = record { list = tt; gens = tt; pairs = tt; out = tt; links = tt }

module _ (A : Setting) where
  pub orbit_over : (k b : ℕ) (gs so_far : List (Terms Fraction)) (s : Stage)
      → AtPlaces (IsPolynomial ℚ (block_order (front_of A b))
      (front_of A b + A.arity)) (orbit_list (form_of A b) A.arity gs)
      → WorkDone A (orbit k b gs so_far) s → IsStageOver (front_of A b) A.arity
      s
  unfolding list_dividends link_dividends stage_of block starting
  orbit_over k b gs so_far s ph x = subst (IsStageOver (front_of A b) A.arity)
      (sym x.is)
      (stage_over (front_of A b) A.arity (orbit_list (form_of A b) A.arity gs)
      ph x.list x.rows x.out x.links x.completed x.divided x.tidied x.linked)

  pub meet_over : (k b : ℕ) (gs so_far hs : List (Terms Fraction)) (s : Stage)
      → AtPlaces (IsPolynomial ℚ (block_order 1) (1 + A.arity)) (blend rationals (block_order 1)
      so_far hs)
      → WorkDone A (meet k b gs so_far hs) s → IsStageOver 1 A.arity s
  unfolding list_dividends link_dividends stage_of block starting
  meet_over k b gs so_far hs s ph x = subst (IsStageOver 1 A.arity) (sym x.is)
      (stage_over 1 A.arity (blend rationals (block_order 1) so_far hs) ph x.list x.rows x.out
      x.links x.completed x.divided x.tidied x.linked)

  pub orbit_counted : (k b : ℕ) (gs so_far : List (Terms Fraction)) (s : Stage)
      → AtPlaces (IsPolynomial ℚ (block_order (front_of A b))
      (front_of A b + A.arity)) (orbit_list (form_of A b) A.arity gs)
      → WorkDone A (orbit k b gs so_far) s
      → IsStageCounted (front_of A b)
      (length (orbit_list (form_of A b) A.arity gs)) s
  unfolding list_dividends link_dividends stage_of block starting
  orbit_counted k b gs so_far s ph x =
      subst (IsStageCounted (front_of A b)
      (length (orbit_list (form_of A b) A.arity gs))) (sym x.is)
      (stage_counted (front_of A b) A.arity
      (orbit_list (form_of A b) A.arity gs) ph x.list x.rows x.out x.links x.completed x.divided
      x.tidied x.linked)

  pub meet_counted : (k b : ℕ) (gs so_far hs : List (Terms Fraction)) (s : Stage)
      → AtPlaces (IsPolynomial ℚ (block_order 1) (1 + A.arity)) (blend rationals (block_order 1)
      so_far hs)
      → WorkDone A (meet k b gs so_far hs) s
      → IsStageCounted 1 (length (blend rationals (block_order 1) so_far hs)) s
  unfolding list_dividends link_dividends stage_of block starting
  meet_counted k b gs so_far hs s ph x =
      subst (IsStageCounted 1 (length (blend rationals (block_order 1) so_far hs))) (sym x.is)
      (stage_counted 1 A.arity (blend rationals (block_order 1) so_far hs) ph x.list x.rows x.out
      x.links x.completed x.divided x.tidied x.linked)
