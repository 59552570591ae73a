-- From the identities of the code's polynomials to those of the certificate.
--   transition_stands      the transition with a number
--   step_found, step_refused, step_long, step_short      what the search among the identities of a transition finds
use Rattle.std.proofs.Common.{◌≡◌, ◌↔◌, ℕ, zero, suc, ◌<◌, ◌≤◌, ◌+◌, List, [], ◌∷◌, ◌++◌, map, get_or, length, refl, arith, sym, ap, ap₂, subst, ◌∙◌}
use Rattle.std.specs.Prelude.{Vec, Option, Some, None}
use Rattle.std.specs.declared.alloc.Global.{Global}
use Rattle.std.proofs.Math.Path.{subst₂}
use borrow.Author.Count.{below_more}
use Rattle.std.proofs.lemmas.List.{get_or-map, length-map, length-append}
use Rattle.algebra.specs.Fraction.{Fraction, ℚ}
use Rattle.algebra.proofs.Fractions.{ℚ_ring}
use Rattle.polynomials.specs.Terms.{Terms, Same, AllSame, combination, compose}
use Rattle.polynomials.specs.Order.{grevlex}
use Rattle.polynomials.specs.Polynomial.{IsPolynomial}
use Rattle.polynomials.proofs.Same.{Same-trans, AllSame-refl, AllSame-sym, same_combination}
use Rattle.machines.specs.Elimination.{in_front}
use Rattle.expansion.specs.Counts.{most_terms}
use Rattle.flows.specs.Graph as flows
use Rattle.flows.specs.Family.{after, generators}
use Rattle.flows.specs.Certificate.{family, cofactors, no_transition}
use Rattle.poly.specs.Seen.{terms_in, terms_each}
use Rattle.poly.specs.Standing.{IsInVariables, AllStandFor}
use Rattle.poly.proofs.Standing.{polynomial_over, stands_over, stands_same, stands_length}
use Rattle.loop_model.specs.FracPoly.{FracPoly}
use Rattle.cert_form.specs.Cert.{Polys, polys_in, HaveArity}
use Rattle.cert_form.proofs.Zip.{seen_all}
use Rattle.cert_checker.specs.Identities.{FirstFailure}
use Rattle.cert_checker.specs.Stops.{Stops}
use Rattle.cert_checker.specs.Long.{total, IsFirstLong}
use Rattle.cert_checker.specs.Wide.{IsMapOf}
use Rattle.program_checker.specs.Rows.{PairRow, filled, row_of}
use Rattle.program_model.specs.GraphView.{transition_of}
use Rattle.program_checker.specs.View.{rows_of, no_row, lists_of, pair_steps, certificate_of}
use Rattle.program_model.specs.Graphs.{IsTransitionIn, IsGraphOf}
use Rattle.program_checker.specs.Fits.{AreRows, Fits}
use Rattle.program_checker.specs.Identities.{StepHolds, StepIsPast, step_terms}
use Rattle.program_checker.specs.Stops.{IfStops, IfLong}
use Rattle.program_checker.specs.Refusals.{at, elements_at, rows_at, AreGenerators, Passes, WideHere, LongHere, ShortStep, IfHere}
use Rattle.program_model.specs.declared.graph.Transition.{Transition}
use Rattle.program_model.specs.declared.graph.Graph.{Graph}
use Rattle.program_checker.specs.declared.cert.Row.{Row}
use Rattle.program_checker.specs.declared.cert.ProgramCert.{ProgramCert}
use Rattle.program_checker.specs.declared.error.CheckError.{CheckError}
use Rattle.program_checker.specs.declared.error.CheckError.TheVariants.{Limit, Wide, Memory}

first_along : (P Q : ℕ → Type 0) (n k : ℕ) (o : Option ℕ) → ((i : ℕ) → P i ↔ Q i) → n ≡ k
    → FirstFailure P n o → FirstFailure Q k o
first_along P Q n k None h e f = λ i l. (h i).0 (f i (omega arith))
first_along P Q n k (Some i) h e f = record {
  within = let l : i < n = f.within in omega arith;
  fails = λ q. f.fails ((h i).1 q);
  before = λ j l. (h j).0 (f.before j l);
}

row_at : (rows : List PairRow) (i : ℕ) → get_or (map row_of rows) i []
    ≡ row_of (get_or rows i no_row)
unfolding filled
row_at [] i = refl
row_at (r ∷ rows) zero = refl
row_at (r ∷ rows) (suc i) = row_at rows i

same_in : (p : Terms Fraction) (qs gs hs : List (Terms Fraction)) → AllSame ℚ gs hs
    → Same ℚ p (combination ℚ qs gs) → Same ℚ p (combination ℚ qs hs)
same_in p qs gs hs s h = Same-trans ℚ h (same_combination ℚ_ring qs qs gs hs (AllSame-refl ℚ qs) s)

module _ (g : Graph) (c : ProgramCert) (is : IsGraphOf g) (fits : Fits g c) (j : ℕ)
    (l : j < length g.transitions.items) (t : Transition)
    (at_is : t ≡ get_or g.transitions.items j t) where
  pub transition_stands : IsTransitionIn g.variables g.nodes t
  transition_stands = subst (IsTransitionIn g.variables g.nodes) (sym at_is) (is.transitions j t l)

  transition_is : transition_of t ≡ at g c j
  transition_is = ap transition_of at_is
      ∙ sym (get_or-map transition_of g.transitions.items j t no_transition l)

  list_is : (v : ℕ) (list : Polys) → v < g.nodes → list ≡ get_or c.lists.items v list
      → polys_in list ≡ family (certificate_of c) v
  list_is v list w e = ap polys_in e
      ∙ sym (get_or-map polys_in c.lists.items v list [] (omega (arith, w, fits.nodes)))

  module _ (list elements : Polys) (rows : Vec Row Global)
      (from_is : list ≡ get_or c.lists.items t.from list)
      (to_is : elements ≡ get_or c.lists.items t.to elements)
      (rows_is : rows ≡ get_or c.steps.items j rows) where
    sources : polys_in list ≡ family (certificate_of c) t.from
    sources = list_is t.from list transition_stands.from_node from_is

    targets : polys_in elements ≡ family (certificate_of c) t.to
    targets = list_is t.to elements transition_stands.to_node to_is

    rows_are : rows_of rows ≡ rows_at g c j
    rows_are = ap rows_of rows_is
        ∙ sym (get_or-map rows_of c.steps.items j rows [] (omega (arith, l, fits.steps.count)))

    module _ (gens : List FracPoly) (stand : AllStandFor (t.unknowns + g.variables) gens
        (map (in_front t.unknowns) (polys_in list) ++ polys_in t.zeros)) where
      pub gens_count : length gens ≡ length (polys_in list) + length t.zeros.items
      gens_count = stands_length (t.unknowns + g.variables) gens _ stand
          ∙ length-append (map (in_front t.unknowns) (polys_in list)) (polys_in t.zeros)
          ∙ (let e = length-map (polys_in list) (in_front t.unknowns) in
          let f = length-map t.zeros.items terms_in in omega (arith, e, f))

      pub rows_fit : AreRows (t.unknowns + g.variables) (length gens) (length elements.items) rows
      rows_fit =
          let e : length (get_or (lists_of c) t.from []) + length t.zeros.items ≡ length gens =
          ap (λ ps. length ps + length t.zeros.items) (sym sources) ∙ sym gens_count in
          let f : length (get_or (lists_of c) t.to []) ≡ length elements.items =
          ap length (sym targets) ∙ length-map elements.items terms_in in
          subst₂ (λ x y. AreRows (t.unknowns + g.variables) x y rows) e f
          (fits.steps.each j rows l rows_is t at_is)

      same_gens : AllSame ℚ (terms_each gens)
          (generators (transition_of t) (family (certificate_of c)))
      same_gens =
          subst (λ ps. AllSame ℚ (terms_each gens)
          (map (in_front t.unknowns) ps ++ polys_in t.zeros)) sources
          (stands_same (t.unknowns + g.variables) gens _ stand)

      are_gens : AreGenerators g c j (terms_each gens)
      are_gens =
          subst (λ (x : flows.Transition). IsMapOf (x.unknowns + g.variables) (terms_each gens)
          (generators x (family (certificate_of c)))) transition_is (record {
            polynomials = seen_all (IsInVariables (t.unknowns + g.variables))
                (IsPolynomial ℚ grevlex (t.unknowns + g.variables)) terms_in
                (polynomial_over (t.unknowns + g.variables)) gens
                (stands_over (t.unknowns + g.variables) gens _ stand);
            same = same_gens;
          })

      cofactors_are : (i : ℕ) → row_of (get_or (rows_of rows) i no_row)
          ≡ cofactors (certificate_of c) j i
      cofactors_are i = ap (λ rs. row_of (get_or rs i no_row)) rows_are
          ∙ sym (row_at (rows_at g c j) i)
          ∙ ap (λ rs. get_or rs i []) (sym (get_or-map (map row_of) (pair_steps c) j [] []
          (omega (arith, l, fits.steps.count, length-map c.steps.items rows_of))))

      abbrev Holds : ℕ → Type 0
      Holds i = StepHolds (polys_in elements) (polys_in t.images) (terms_each gens) (rows_of rows)
          (t.unknowns + g.variables) i

      step_tells : (i : ℕ) → Holds i ↔ Passes g c j i
      step_tells i =
          let m = t.unknowns + g.variables in
          let F = family (certificate_of c) in
          let qs = cofactors (certificate_of c) j i in
          let p = compose ℚ m (get_or (F t.to) i []) (polys_in t.images) in
          let e : Holds i ≡ Same ℚ p (combination ℚ qs (terms_each gens)) =
          ap₂ (λ es xs. Same ℚ (compose ℚ m (get_or es i []) (polys_in t.images))
          (combination ℚ xs (terms_each gens))) targets (cofactors_are i) in
          subst (λ (x : flows.Transition). Holds i ↔ Same ℚ (after g.variables x
          (get_or (F x.to) i [])) (combination ℚ qs (generators x F))) transition_is
          (subst (λ T. T ↔ Same ℚ p (combination ℚ qs (generators (transition_of t) F))) (sym e) (
            same_in p qs (terms_each gens) (generators (transition_of t) F) same_gens,
            same_in p qs (generators (transition_of t) F) (terms_each gens)
                (AllSame-sym ℚ _ _ same_gens),
          ))

      same_count : length elements.items ≡ length (elements_at g c j)
      same_count = sym (length-map elements.items terms_in)
          ∙ ap length (targets ∙ ap (λ (x : flows.Transition). family (certificate_of c) x.to)
          transition_is)

      elements_are : polys_in elements ≡ elements_at g c j
      elements_are = targets
          ∙ ap (λ (x : flows.Transition). family (certificate_of c) x.to) transition_is

      images_are : polys_in t.images ≡ (at g c j).images
      images_are = ap (λ (x : flows.Transition). x.images) transition_is

      terms_are : step_terms (polys_in elements) (polys_in t.images) (terms_each gens)
          (rows_of rows) ≡ step_terms (elements_at g c j) (at g c j).images (terms_each gens)
          (rows_at g c j)
      terms_are = ap₂ (λ es is. step_terms es is (terms_each gens) (rows_of rows)) elements_are
          images_are ∙ ap (step_terms (elements_at g c j) (at g c j).images (terms_each gens))
          rows_are

      pub step_found : (o : Option ℕ) → FirstFailure Holds (length elements.items) o
          → FirstFailure (Passes g c j) (length (elements_at g c j)) o
      step_found o = first_along Holds (Passes g c j) _ _ o step_tells same_count

      pub step_short : total (step_terms (polys_in elements) (polys_in t.images) (terms_each gens)
          (rows_of rows)) (length elements.items) ≤ most_terms → ShortStep g c j
      step_short few = record {
        gens = terms_each gens;
        is = are_gens;
        few = subst₂ (λ f n. total f n ≤ most_terms) terms_are same_count few;
      }

      wide_here : (i : ℕ) → Stops Holds (StepIsPast (polys_in elements) (polys_in t.images)
          (terms_each gens) (rows_of rows)) (length elements.items) i → WideHere g c j i
      wide_here i s = record {
        within = subst (λ n. i < n) same_count s.within;
        before = λ k w. (step_tells k).0 (s.before k w);
        gens = terms_each gens;
        is = are_gens;
        past = subst (λ rs. StepIsPast (elements_at g c j) (at g c j).images (terms_each gens) rs i)
            rows_are (subst₂ (λ es is. StepIsPast es is (terms_each gens) (rows_of rows) i)
            elements_are images_are s.cause);
      }

      long_here : (i : ℕ) → IsFirstLong (step_terms (polys_in elements) (polys_in t.images)
          (terms_each gens) (rows_of rows)) (length elements.items) i → LongHere g c j i
      long_here i long = record {
        gens = terms_each gens;
        is = are_gens;
        long = subst₂ (λ f n. IsFirstLong f n i) terms_are same_count long;
      }

      pub step_refused : ShortStep g c j → (e : CheckError) → IfStops e j (Stops Holds (StepIsPast
          (polys_in elements) (polys_in t.images) (terms_each gens) (rows_of rows))
          (length elements.items)) → IfHere g c j e
      step_refused short (Limit k i) h = absurd h
      step_refused short (Wide k i) h = (h.0, short, wide_here i h.1)
      step_refused short Memory h = tt

      pub step_long : (e : CheckError) → IfLong e j (IsFirstLong (step_terms (polys_in elements)
          (polys_in t.images) (terms_each gens) (rows_of rows)) (length elements.items))
          → IfHere g c j e
      step_long (Limit k i) h = (h.0, long_here i h.1)
      step_long (Wide k i) h = absurd h
      step_long Memory h = absurd h

-- ---- what the identities of a transition stand on
module _ (g : Graph) (c : ProgramCert) (is : IsGraphOf g) (fits : Fits g c) (t : Transition)
    (stands : IsTransitionIn g.variables g.nodes t) where
  pub some_image : 0 < length t.images.items
  some_image = omega (arith, stands.count, is.some)

  pub elements_over : (elements : Polys) → elements ≡ get_or c.lists.items t.to elements
      → HaveArity (length t.images.items) elements
  elements_over elements e =
      subst (λ n. HaveArity n elements) (sym stands.count)
      (subst (HaveArity g.variables) (sym e)
      (fits.lists t.to elements (omega (arith, stands.to_node, fits.nodes))))

-- ---- the transitions in turn
pub none_from : {X : Type 0} (o : Option X) → ((x : X) → o ≡ Some x → ⊥) → o ≡ None
none_from (Some x) h = absurd (h x refl)
none_from None h = refl

pub passed_more : (g : Graph) (c : ProgramCert) (b : ℕ)
    → ((a k : ℕ) → a < b → k < length (elements_at g c a) → Passes g c a k)
    → FirstFailure (Passes g c b) (length (elements_at g c b)) None → (a k : ℕ) → a < b + 1
    → k < length (elements_at g c a) → Passes g c a k
passed_more g c b before here a k l m = below_more (λ a. (k : ℕ) → k < length (elements_at g c a)
    → Passes g c a k) b (λ a l k m. before a k l m) here a l k m
