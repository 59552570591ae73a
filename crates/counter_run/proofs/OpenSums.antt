-- Sums to which polynomials come one after another.
--   put_behind         the terms of a polynomial behind those of the sum
--   put_arities        their exponents
--   added              the polynomial added to what is collected
--   collected_with     the terms that came since, collected and added
use Rattle.std.proofs.Common.{◌≡◌, inl, inr, ℕ, suc, ◌+◌, ◌≤◌, ◌<◌, Bool, true, false, cond, List, [], ◌∷◌, ◌++◌, length, min, refl, sym, ap, subst, ◌∙◌, arith, append_assoc, All, IfOk, Result, Ok, Err, Ordering, Less, Equal, Greater}
use Rattle.std.proofs.lemmas.List.{append-nil, length-append, length-map, map-append}
use Rattle.std.proofs.lemmas.List.Elements.{All-nil, All-cons, All-head, All-tail, All-append}
use Rattle.algebra.specs.Each.{Each}
use Rattle.algebra.specs.Fraction.{Fraction, ℚ, rationals}
use Rattle.algebra.proofs.Fractions.{ℚ_ring, ℚ_field}
use Rattle.polynomials.specs.Terms.{Terms, Same}
use Rattle.polynomials.specs.Order.{grevlex, compare}
use Rattle.polynomials.specs.Polynomial.{Arity}
use Rattle.polynomials.proofs.Arity.{arity-append}
use Rattle.polynomials.proofs.Orders.{grevlex_order}
use Rattle.polynomials.proofs.Same.{Same-refl, Same-trans, same_append}
use Rattle.machines.specs.Collect.{collect, insert, place}
use Rattle.machines.proofs.Collecting.{collect-is}
use Rattle.frac128.specs.declared.fraction.Frac.{Frac}
use Rattle.frac128.specs.FracMeaning.{fraction_of}
use Rattle.poly.specs.declared.Term.{Term}
use Rattle.poly.specs.Seen.{terms_in}
use Rattle.poly.specs.Standing.{StandsFor}
use Rattle.poly.specs.View.{terms_of}
use Rattle.poly.proofs.Standing.{arity_over}
use Rattle.loop_model.specs.FracPoly.{FracPoly}
use Rattle.loop_model.specs.Operations.{Operation, sum_at, most_terms, IsFree, PassesLimit}
use Rattle.loop_model.specs.Stops.{Does}
use Rattle.loop_model.specs.declared.map_error.MapError.{MapError}
use Rattle.loop_model.proofs.OperationLaws.{same_forms}
use Rattle.counter_run.specs.Costs.{most_count}
use Rattle.counter_run.specs.OpenSums.{terms_so_far, IsSumWith}
use Rattle.counter_run.specs.declared.open_sum.OpenSum.{OpenSum}

-- ---- no more terms than came
place_few : (o : Ordering) (b : Bool) (t u : List ℕ × Fraction) (p later : Terms Fraction)
    → length later ≤ suc (length p)
    → length (place rationals o b t u p later) ≤ suc (suc (length p))
unfolding place
place_few Less b t u p later h = omega arith
place_few Equal true t u p later h = omega arith
place_few Equal false t u p later h = omega arith
place_few Greater b t u p later h = omega arith

insert_few : (t : List ℕ × Fraction) (p : Terms Fraction)
    → length (insert rationals grevlex t p) ≤ suc (length p)
unfolding insert
insert_few t [] = omega arith
insert_few t (u ∷ p) =
    place_few (compare grevlex t.0 u.0) (rationals.is_zero (rationals.add t.1 u.1)) t u p
    (insert rationals grevlex t p) (insert_few t p)

collect_few : (p : Terms Fraction) → length (collect rationals grevlex p) ≤ length p
unfolding collect
collect_few [] = omega arith
collect_few (t ∷ p) =
    go (rationals.is_zero t.1) (insert_few t (collect rationals grevlex p)) (collect_few p)
  where
    go : (b : Bool)
        → length (insert rationals grevlex t (collect rationals grevlex p))
        ≤ suc (length (collect rationals grevlex p))
        → length (collect rationals grevlex p) ≤ length p
        → length (cond b (collect rationals grevlex p)
        (insert rationals grevlex t (collect rationals grevlex p))) ≤ suc (length p)
    go true h k = omega arith
    go false h k = omega arith

module _ (m : ℕ) (s q : Terms Fraction) (a : Arity m (s ++ q))
    (few : length s + length q ≤ most_terms) where
  abbrev IsFreeOne : Operation → Type 0
  IsFreeOne o = ¬ (PassesLimit m o)

  passes_none : PassesLimit m (sum_at 0 s q) → ⊥
  passes_none (inl h) = absurd h
  passes_none (inr h) =
      let is : length h.terms ≡ length (collect rationals grevlex (s ++ q)) =
      ap length (collect-is ℚ_field grevlex grevlex_order m (s ++ q) h.terms a h.is h.same) in
      let at_most = collect_few (s ++ q) in
      let both = length-append s q in
      let more : most_terms < length h.terms = h.holds in
      omega arith

  free_of_few : IsFree m (sum_at 0 s q ∷ [])
  free_of_few = All-cons IsFreeOne (sum_at 0 s q) [] passes_none (All-nil IsFreeOne)

-- ---- the exponents of terms
module _ (m : ℕ) where
  terms_arity : (ts : List (Term Frac)) → All (λ t. length t.mono ≡ m) ts
      → Arity m (terms_of fraction_of ts)
  unfolding Each
  terms_arity [] a = tt
  terms_arity (t ∷ ts) a = (
    All-head (λ (u : Term Frac). length u.mono ≡ m) t ts a,
    terms_arity ts (All-tail (λ (u : Term Frac). length u.mono ≡ m) t ts a),
  )

  of_arity : (ts : List (Term Frac)) → Arity m (terms_of fraction_of ts)
      → All (λ t. length t.mono ≡ m) ts
  unfolding Each
  of_arity [] a = All-nil _
  of_arity (t ∷ ts) a = All-cons (λ (u : Term Frac). length u.mono ≡ m) t ts a.0 (of_arity ts a.1)

pub put_arities : (s : OpenSum) (q : FracPoly) → q.arity ≡ s.total.arity
    → All (λ t. length t.mono ≡ s.total.arity) (s.terms.items ++ q.terms.items)
put_arities s q e =
    All-append (λ (t : Term Frac). length t.mono ≡ s.total.arity) s.terms.items q.terms.items
    s.arities (of_arity s.total.arity q.terms.items (arity_over s.total.arity q e))

-- ---- the polynomial behind the others
module _ (s : OpenSum) (q : FracPoly) (r : OpenSum) where
  pub put_behind : q.arity ≡ s.total.arity
      → length s.total.terms.items + length s.terms.items + length q.terms.items ≤ most_terms
      → r.total ≡ s.total → r.terms.items ≡ s.terms.items ++ q.terms.items
      → r.came ≡ min (s.came + length q.terms.items) most_count → IsSumWith q s r
  put_behind e few total terms came =
      let all : terms_so_far r ≡ terms_so_far s ++ terms_in q =
      ap (λ (p : FracPoly). terms_in p ++ terms_of fraction_of r.terms.items) total
      ∙ ap (λ ts. terms_in s.total ++ terms_of fraction_of ts) terms
      ∙ ap (λ ts. terms_in s.total ++ ts) (map-append _ s.terms.items q.terms.items)
      ∙ sym (append_assoc (terms_in s.total) (terms_of fraction_of s.terms.items) (terms_in q)) in
      record {
        arity = ap (λ (p : FracPoly). p.arity) total;
        same = subst (λ ts. Same ℚ ts (terms_so_far s ++ terms_in q)) (sym all) (Same-refl ℚ _);
        free =
            free_of_few s.total.arity (terms_so_far s) (terms_in q)
            (arity-append s.total.arity (terms_so_far s) (terms_in q)
            (arity-append s.total.arity (terms_in s.total) (terms_of fraction_of s.terms.items)
            (arity_over s.total.arity s.total refl)
            (terms_arity s.total.arity s.terms.items s.arities))
            (arity_over s.total.arity q e))
            (let one = length-append (terms_in s.total) (terms_of fraction_of s.terms.items) in
            let two : length (terms_in s.total) ≡ length s.total.terms.items = length-map _ _ in
            let three : length (terms_of fraction_of s.terms.items) ≡ length s.terms.items =
            length-map _ _ in
            let four : length (terms_in q) ≡ length q.terms.items = length-map _ _ in
            omega arith);
        came = came;
      }

  pub added : (total sum : FracPoly) → StandsFor s.total.arity total (terms_so_far s)
      → Does total.arity (sum_at 0 (terms_in total) (terms_in q)) (Ok sum) → r.total ≡ sum
      → r.terms.items ≡ [] → r.came ≡ min (s.came + length q.terms.items) most_count
      → IsSumWith q s r
  added total sum is d here none came =
      let all : terms_so_far r ≡ terms_in sum =
      ap (λ (p : FracPoly). terms_in p ++ terms_of fraction_of r.terms.items) here
      ∙ ap (λ ts. terms_in sum ++ terms_of fraction_of ts) none ∙ append-nil (terms_in sum) in
      let along = same_append ℚ_ring is.same (Same-refl ℚ (terms_in q)) in
      record {
        arity = ap (λ (p : FracPoly). p.arity) here ∙ d.0.arity ∙ is.arity;
        same =
            subst (λ ts. Same ℚ ts (terms_so_far s ++ terms_in q)) (sym all)
            (Same-trans ℚ d.0.same along);
        free =
            subst (λ k. IsFree k (sum_at 0 (terms_so_far s) (terms_in q) ∷ [])) is.arity
            (same_forms total.arity (sum_at 0 (terms_in total) (terms_in q) ∷ [])
            (sum_at 0 (terms_so_far s) (terms_in q) ∷ []) (terms_in total ++ terms_in q)
            (terms_so_far s ++ terms_in q) (Ok sum) (
              record {
                at = refl;
                kind = refl;
                left = is.same;
                right = Same-refl ℚ (terms_in q);
                result = along;
              },
              tt,
            ) along d).1;
        came = came;
      }

-- ---- like terms collected
module _ (s : OpenSum) where
  pub collected_with : (rest : FracPoly) (r : Result FracPoly MapError)
      → Same ℚ (terms_in rest) (terms_of fraction_of s.terms.items)
      → Does s.total.arity (sum_at 0 (terms_in s.total) (terms_in rest)) r
      → IfOk r (λ p. StandsFor s.total.arity p (terms_so_far s))
  collected_with rest (Ok p) is d = record {
    order = refl;
    arity = d.0.arity;
    same = Same-trans ℚ d.0.same (same_append ℚ_ring (Same-refl ℚ (terms_in s.total)) is);
  }
  collected_with rest (Err e) is d = tt
