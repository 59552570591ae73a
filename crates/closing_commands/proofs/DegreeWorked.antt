-- The search of vars x; branch { x=x*x; } up to degree 1: its two samples count, so nothing is left, and the closing of nothing ends at once.
--   squaring_read, squaring_free, squaring_narrow     its text, and its one product, which passes no limit and fits
--   not_composing, not_past, not_out     in the closing of nothing there is nothing to compose, and no task
--   never_past_proof, never_out_proof    nor is anything divided behind it
--   squaring_unlimited, squaring_fits, squaring_within     nothing stops the search
use Rattle.std.proofs.Common.{◌≡◌, ◌⊎◌, inl, inr, ℕ, zero, suc, ◌+◌, ◌<◌, ◌≤◌, pos, List, [], ◌∷◌, ◌++◌, length, get_or, sum, refl, sym, ap, subst, ◌∙◌, Option, Some, None, Ok, codes, arith, All}
use Rattle.std.specs.Prelude.{slice_index}
use Rattle.std.proofs.lemmas.List.Elements.{All-nil, All-cons}
use Rattle.algebra.specs.Each.{Each}
use Rattle.algebra.specs.Fraction as Fraction
use Rattle.algebra.specs.Fraction.{Fraction, fraction, fractions, whole, ℚ}
use Rattle.algebra.specs.Gcd.{gcd, lcm}
use Rattle.algebra.specs.Ratio.{is_lowest, reduce}
use Rattle.algebra.proofs.Fractions.{ℚ_field}
use Rattle.grammars.specs.Reader.{read}
use Rattle.polynomials.specs.Algebra as Algebra
use Rattle.polynomials.specs.Exponent as exponents
use Rattle.polynomials.specs.Exponent.{plus, unit_exponents}
use Rattle.polynomials.specs.Order.{grevlex}
use Rattle.polynomials.specs.Polynomial.{Falls, IsPolynomial}
use Rattle.polynomials.specs.Terms.{Terms, times, variables}
use Rattle.polynomials.specs.Weight.{weight, degrees, IsPastProduct}
use Rattle.polynomials.proofs.Same.{Same-refl}
use Rattle.machines.specs.Journal.{Entry, units_of}
use Rattle.machines.specs.Run.{IsRun}
use Rattle.loops.specs.Effect.{value_of}
use Rattle.loops.specs.Limits.{most_names, most_bytes, most_branches, most_statements, most_operators, most_exponent}
use Rattle.loops.specs.Program.{Expr, Program}
use Rattle.loops.specs.WellFormed.{local_places}
use Rattle.loop_model.specs.Maps.{maps_operations, statements_operations, AreFree}
use Rattle.loop_model.specs.Operations.{Operation, product_at, operations, operations_all, most_terms, PassesLimit, IsPastOperation, HoldsCollected, IsHigh, HasHighDegree, IsWide}
use Rattle.loop_model.specs.Words.{keyword_of}
use Rattle.loop_model.proofs.OperatorLaws.{only}
use Rattle.poly_text.specs.Lexemes.{lexeme_at, placed_behind}
use Rattle.poly_text.specs.Sums.{most_depth}
use Rattle.loop_text.specs.LoopReader.{loop_of}
use Rattle.closures.specs.Certified.{AreOthers, IsListOf}
use Rattle.closures.specs.Closing.{Candidate, goes, closed, next}
use Rattle.closures.specs.Ends.{ComesNext}
use Rattle.closures.specs.Follows as follows
use Rattle.closures.specs.Follows.{IsPastAt, IsPastTask}
use Rattle.closures.specs.Proving as proving
use Rattle.closures.specs.Proving.{testing, tests_of, tests_from, tests}
use Rattle.closing.specs.Causes.{IsComposing, IsLimitAt, IsWideAt}
use Rattle.closing.specs.Progress.{StopsAt}
use Rattle.closing.specs.SearchCauses.{IsInClosing, IsOut}
use Rattle.closing.specs.Worked.{squaring}
use Rattle.closing.proofs.Countered.{nothing_next, nothing_follows, nothing_comes}
use Rattle.closing.proofs.Squaring.{two, nothing_left, two_samples, always_sampled, never_missing}
use Rattle.closing_commands.specs.declared.evidence.Evidence.{Evidence}
use Rattle.closing_commands.specs.declared.evidence.Evidence.TheVariants as kinds
use Rattle.closing_commands.specs.Degrees.{IsOutOf, IsWideTest}
use Rattle.closing_commands.specs.DegreeClauses.{HasLimit, HasWide, IsWithin}
use Rattle.closing_commands.specs.ProvedLists.{AreExhausted, IsPastTest}

pub squaring_read : loop_of (codes "vars x; branch { x=x*x; }") ≡ Ok squaring
unfolding placed_behind lexeme_at read keyword_of most_names most_bytes most_branches
    most_statements most_operators most_exponent most_depth local_places
squaring_read = refl

-- ---- its one product
abbrev power_of_x : ℕ → Terms Fraction
power_of_x k = (k ∷ [], whole (pos 1)) ∷ []

abbrev x : Terms Fraction
x = power_of_x 1

abbrev product : Operation
product = product_at 20 x x

power_polynomial : (k : ℕ) → IsPolynomial ℚ grevlex 1 (power_of_x k)
unfolding Each Falls
power_polynomial k = record {
  nonzero = (ℚ_field.one-ne-zero, tt);
  arity = (refl, tt);
  falls = (tt, tt);
}

product_is : times ℚ x x ≡ power_of_x 2
unfolding Algebra.times Algebra.shift plus fraction Fraction.product is_lowest reduce gcd
product_is = refl

one_operation : maps_operations squaring ≡ product ∷ []
unfolding operations operations_all statements_operations value_of variables unit_exponents
one_operation = refl

product_low : IsHigh (power_of_x 2) → ⊥
product_low h =
    go h.is.reached.0 h.is.reached.1 h.is.reached.2 h.is.reached.3 h.is.reached.4
  where
    go : (place : ℕ) (t : List ℕ × Fraction) → place < 1 → get_or (power_of_x 2) place t ≡ t
        → sum t.0 ≡ h.degree → ⊥
    go zero t l is s =
        let same : sum (2 ∷ []) ≡ sum t.0 = ap (λ (u : List ℕ × Fraction). sum u.0) is in
        let high = h.high in omega (arith, same, s, high)
    go (suc place) t l is s = omega (arith, l)

product_free : PassesLimit 1 product → ⊥
product_free (inl h) =
    product_low (only 1 IsHigh (power_of_x 2) (power_of_x 2) (power_polynomial 2)
    (Same-refl ℚ (power_of_x 2)) (subst (HasHighDegree 1) product_is h))
product_free (inr c) =
    let long = only 1 (λ r. most_terms < length r) (power_of_x 2) (power_of_x 2)
    (power_polynomial 2) (Same-refl ℚ (power_of_x 2))
    (subst (HoldsCollected 1 (λ r. most_terms < length r)) product_is c) in
    omega (arith, long)

pub squaring_free : AreFree squaring
squaring_free =
    subst (All (λ o. ¬ (PassesLimit 1 o))) (sym one_operation)
    (All-cons (λ o. ¬ (PassesLimit 1 o)) product [] product_free
    (All-nil (λ o. ¬ (PassesLimit 1 o))))

product_fits : IsPastProduct fractions x x → ⊥
unfolding weight degrees plus exponents.lcm fraction is_lowest gcd lcm
product_fits (inl (inl p)) = omega (arith, p)
product_fits (inl (inr p)) = omega (arith, p)
product_fits (inr h) = h (λ k l. each k l)
  where
    each : (k : ℕ) → k < 1 → slice_index (2 ∷ []) k < 65536
    each zero l = omega arith
    each (suc k) l = absurd (omega (arith, l))

product_narrow : IsPastOperation 1 product → ⊥
product_narrow h =
    product_fits (only 1 (λ r. IsPastProduct fractions x r) x x (power_polynomial 1)
    (Same-refl ℚ x)
    (only 1 (λ p. HoldsCollected 1 (λ r. IsPastProduct fractions p r) x) x x (power_polynomial 1)
    (Same-refl ℚ x) h))

squaring_narrow : (at : ℕ) → IsWide 1 (maps_operations squaring) at → ⊥
squaring_narrow at w =
    product_narrow (subst (IsPastOperation 1)
    (sym (alone w.before w.behind w.operation (sym one_operation ∙ w.order))) w.holds.1)
  where
    alone : (before behind : List Operation) (o : Operation)
        → product ∷ [] ≡ before ++ o ∷ behind → product ≡ o
    alone [] behind o e = cc
    alone (b ∷ []) behind o e = absurd (let z = ap length e in omega (arith, z))
    alone (b ∷ c ∷ before) behind o e = absurd (let z = ap length e in omega (arith, z))

-- ---- the closing of nothing, of any loop
module _ (l : Program (Expr ℕ)) where
  not_composing : (es : List Entry) (y : Candidate) (os : List Operation)
      → IsComposing l [] es y os → ⊥
  not_composing es y os (inl c) = let e = nothing_comes l es _ c.comes in cc
  not_composing es y os (inr s) =
      let f = s.has.follows in
      let e = nothing_follows l es _ f.run in
      cc

  not_past : (es : List Entry) (y : Candidate) → IsPastTask l [] es y → ⊥
  not_past es y h =
      let f = h.follows in
      subst (IsPastAt l [] y) (sym (nothing_follows l es h.state f.run)) h.past

  not_out : (es : List Entry) (k : ℕ) → follows.IsOut l [] k es → ⊥
  not_out es k h =
      let f = h.follows in
      let e : closed [] ≡ goes h.entry h.following =
      sym (nothing_next l) ∙ ap (next l []) (nothing_follows l es h.state f.run) ∙ h.comes in
      cc

  -- ---- behind it
  list_none : (es : List Entry) (gs : List (Terms Fraction)) → ComesNext l [] es (closed gs)
      → gs ≡ []
  list_none es gs c = let e : closed [] ≡ closed gs = nothing_comes l es (closed gs) c in cc

  none_others : (gs bs : List (Terms Fraction)) → gs ≡ [] → IsListOf [] gs bs → bs ≡ []
  unfolding AreOthers
  none_others gs bs none h = h.is ∙ subst (λ ks. AreOthers [] ks h.others) none h.are

  none_tested : (b n : ℕ) → tests_from b n [] ≡ []
  unfolding tests_from tests_of
  none_tested b zero = refl
  none_tested b (suc n) = none_tested (suc b) n

  tests_end : (gs bs : List (Terms Fraction)) (es : List Entry) (s : proving.State) → bs ≡ []
      → IsRun (proving.next l gs) (testing (tests l bs)) es s → testing [] ≡ s
  unfolding proving.next proving.begin IsRun
  tests_end gs bs es s none run =
      go es (subst (λ w. IsRun (proving.next l gs) (testing w) es s)
      (ap (tests l) none ∙ none_tested 1 (length l.branches)) run)
    where
      go : (es : List Entry) → IsRun (proving.next l gs) (testing []) es s → testing [] ≡ s
      go [] r = r
      go (e ∷ es) r =
          absurd (let z : ◌≡◌ {A = Option (Entry × proving.State)} None (Some (e, r.0)) = r.1 in
          cc)

  never_past_proof : (es : List Entry) (gs : List (Terms Fraction)) (b i : ℕ)
      → IsPastTest l [] es gs b i → ⊥
  never_past_proof es gs b i h =
      let p = h.past in
      let f = p.follows in
      let e = tests_end gs h.elements f.behind _
      (none_others gs h.elements (list_none f.before gs f.closes) h.listed) f.run in
      cc

  never_out_proof : (es : List Entry) (gs : List (Terms Fraction)) (k : ℕ)
      → AreExhausted l [] es gs k → ⊥
  unfolding proving.next proving.begin
  never_out_proof es gs k h =
      let o = h.out in
      let f = o.follows in
      let at = tests_end gs h.elements f.behind o.state
      (none_others gs h.elements (list_none f.before gs f.closes) h.listed) f.run in
      let z : ◌≡◌ {A = Option (Entry × proving.State)} None (Some (o.entry, o.following)) =
      ap (proving.next l gs) at ∙ o.comes in
      cc

-- ---- what would stop the search
module _ (es : List Entry) (C : List Entry → List (Terms Fraction) → List Entry → Type 0)
    (h : IsInClosing squaring 1 es C) where
  in_nothing : C h.before [] h.behind
  in_nothing =
      subst (λ gs. C h.before gs h.behind) (nothing_left h.before h.parts h.elements h.closing)
      h.cause

pub squaring_unlimited : HasLimit squaring 1 → ⊥
squaring_unlimited (inl many) = omega (arith, many, two)
squaring_unlimited (inr (es, w, h)) =
    let s = in_nothing es
    (λ before gs behind. StopsAt squaring gs w (λ y. IsLimitAt squaring gs behind y)) h in
    let c = s.cause in
    not_composing squaring h.behind s.candidate c.operations c.composing

never_tested : (evidence : Evidence) (es : List Entry) (b i : ℕ)
    → IsWideTest squaring 1 es evidence b i → ⊥
never_tested kinds.Basis es b i h = h
never_tested kinds.Certificate es b i h =
    let p = in_nothing es
    (λ before gs behind. (hs : List (Terms Fraction)) × IsPastTest squaring gs behind hs b i) h in
    never_past_proof squaring h.behind p.0 b i p.1

pub squaring_fits : (evidence : Evidence) → HasWide squaring 1 evidence → ⊥
squaring_fits evidence (inl (at, w)) = squaring_narrow at w
squaring_fits evidence (inr (inl (es, h))) = always_sampled es h
squaring_fits evidence (inr (inr (inl (es, e, h)))) = never_missing es e h
squaring_fits evidence (inr (inr (inr (inl (es, w, h))))) =
    let s = in_nothing es
    (λ before gs behind. StopsAt squaring gs w
    (λ y. IsWideAt squaring gs behind y ⊎ IsPastTask squaring gs behind y)) h in
    elim s.cause [
      | inl c ↦ not_composing squaring h.behind s.candidate c.operations c.composing
      | inr p ↦ not_past squaring h.behind s.candidate p
    ]
squaring_fits evidence (inr (inr (inr (inr (es, b, i, h))))) = never_tested evidence es b i h

never_out : (evidence : Evidence) (budget : ℕ) → 2 ≤ budget → (es : List Entry)
    → IsOutOf squaring 1 es evidence budget → ⊥
never_out evidence budget more es h = by evidence h
  where
    search_out : IsOut squaring 1 es budget → ⊥
    search_out (inl o) = let few = two_samples es budget o in omega (arith, few, more)
    search_out (inr o) =
        let p = in_nothing es
        (λ before gs behind. (k : ℕ) × follows.IsOut squaring gs k behind
        × (units_of before + k ≡ budget)) o in
        not_out squaring o.behind p.0 p.1

    by : (evidence : Evidence) → IsOutOf squaring 1 es evidence budget → ⊥
    by kinds.Basis o = search_out o
    by kinds.Certificate (inl o) = search_out o
    by kinds.Certificate (inr o) =
        let p = in_nothing es
        (λ before gs behind. (hs : List (Terms Fraction))
        × ((k : ℕ) × AreExhausted squaring gs behind hs k × (units_of before + k ≡ budget))) o in
        never_out_proof squaring o.behind p.0 p.1.0 p.1.1

pub squaring_within : (evidence : Evidence) (budget : ℕ) → 2 ≤ budget
    → IsWithin squaring 1 evidence budget
squaring_within evidence budget more =
    record { never = λ es h. never_out evidence budget more es h }
