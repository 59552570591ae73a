-- How many elements of what an orbit or an iteration begins with are free of the variables that are eliminated.
--   whole_few      of an orbit whose form is the state from 0 on: no more than the list has
--   orbit_few      of any: as many as variables more
--   iteration_few       so of an iteration
use Rattle.std.proofs.Common.{◌≡◌, ℕ, zero, suc, ◌+◌, ◌≤◌, List, [], ◌∷◌, ◌++◌, map, drop, length, arith, sym, ap, subst, ◌∙◌, append_assoc}
use Rattle.std.proofs.lemmas.List.{length-map, length-append, append-nil}
use Rattle.algebra.specs.Fraction.{Fraction, ℚ, rationals}
use Rattle.polynomials.specs.Order.{grevlex, blocks}
use Rattle.polynomials.specs.Terms.{Terms, variables, compose}
use Rattle.machines.specs.Collect.{collect}
use Rattle.machines.specs.Elimination.{free_part}
use Rattle.machines.proofs.Lengths.{made, NothingKept, kept_made}
use Rattle.rounds.specs.Form.{Form, front, inverse_of_form, normal, passes, passing, form_before, late_order, orbit_front, orbit_list, orbit_relations, front_since, list_since, relations, iteration_before, iteration_front, iteration_list, pulled_back_by}
use Rattle.rounds.specs.Graph.{less, at_before}
use Rattle.rounds.proofs.RelationTerms.{all_not_kept, relations_not_kept}

less_few : (xs ys : List (Terms Fraction)) → length (less xs ys) ≤ length ys
less_few [] ys = omega arith
less_few (x ∷ xs) [] = omega arith
less_few (x ∷ xs) (y ∷ ys) = let h = less_few xs ys in omega (arith, h)

module _ (f : Form) (m : ℕ) (gs : List (Terms Fraction)) where
  abbrev HasFew : ℕ → ℕ → Type 0
  HasFew d n = length (free_part (front_since d f m)
      (made rationals (front_since d f m) (list_since d f m gs))) ≤ n

  whole : HasFew 0 (length gs)
  whole =
      let r = length f.base in
      let pulled = pulled_back_by r m (inverse_of_form f) in
      let a = kept_made rationals (front r) (map pulled gs) (orbit_relations r m)
      (relations_not_kept r m) in
      let b = length-map gs pulled in
      omega (arith, a, b)

  pub whole_few : f.since ≡ 0 → length (free_part (orbit_front f m)
      (made rationals (orbit_front f m) (orbit_list f m gs))) ≤ length gs
  whole_few e = subst (λ d. HasFew d (length gs)) (sym e) whole

  late : (d : ℕ) → length f.polys ≡ m → HasFew (suc d) (length gs + m)
  late d count =
      let r = length f.base in
      let k = front r in
      let which = passes f m in
      let t = passing m which in
      let before = form_before f m which in
      let O = late_order f m which in
      let ks = map (normal O r) (map (λ g. compose ℚ (k + t + m) g before) gs) in
      let ds = less (drop (k + t) (variables ℚ (k + t + m))) (map (at_before k t m before)
      f.polys) in
      let us = map (collect rationals O) (relations r (t + m)) in
      let n : length (map (normal O r) ds) ≤ m = (let a = length-map ds (normal O r) in
      let b = less_few (drop (k + t) (variables ℚ (k + t + m))) (map (at_before k t m before)
      f.polys) in let c = length-map f.polys (at_before k t m before) in
      omega (arith, a, b, c, count)) in
      let j : length ks ≡ length gs = length-map (map (λ g. compose ℚ (k + t + m) g before) gs)
      (normal O r) ∙ length-map gs (λ g. compose ℚ (k + t + m) g before) in
      let all = kept_made rationals (k + t) (ks ++ map (normal O r) ds) us
      (all_not_kept (k + t) r (k + (t + m)) (omega arith) (omega arith)) in
      let e = length-append ks (map (normal O r) ds) in
      let z : length
      (free_part (k + t) (made rationals (k + t) ((ks ++ map (normal O r) ds) ++ us)))
      ≤ length gs + m = omega (arith, all, e, j, n) in
      subst (λ l. length (free_part (k + t) (made rationals (k + t) l)) ≤ length gs + m)
      (append_assoc ks (map (normal O r) ds) us) z

  pub orbit_few : length f.polys ≡ m → length (free_part (orbit_front f m)
      (made rationals (orbit_front f m) (orbit_list f m gs))) ≤ length gs + m
  orbit_few count = go f.since
    where
      go : (d : ℕ) → HasFew d (length gs + m)
      go zero = let a = whole in omega (arith, a)
      go (suc d) = late d count

  pub iteration_few : (images : List (Terms Fraction)) → length images ≡ m
      → length (free_part (iteration_front f m) (made rationals (iteration_front f m)
      (iteration_list f m images gs)))
      ≤ length gs + m
  unfolding NothingKept
  iteration_few images count =
      let t = iteration_front f m in
      let before = iteration_before f m (passes f m) in
      let ks = map (λ g. compose ℚ (0 + t + m) g before) gs in
      let ds = less (drop (0 + t) (variables ℚ (0 + t + m))) (map (at_before 0 t m before)
      images) in
      let all = kept_made rationals t (iteration_list f m images gs) [] tt in
      let a = length-map (ks ++ (ds ++ [])) (collect rationals (blocks t grevlex grevlex)) in
      let b = length-append ks (ds ++ []) in
      let c = length-append ds [] in
      let d = less_few (drop (0 + t) (variables ℚ (0 + t + m))) (map (at_before 0 t m before)
      images) in
      let e = length-map images (at_before 0 t m before) in
      let g = length-map gs (λ g. compose ℚ (0 + t + m) g before) in
      let none : length (free_part t (made rationals t (iteration_list f m images gs ++ [])))
      ≡ length (free_part t
      (made rationals t (iteration_list f m images gs))) =
      ap (λ l. length (free_part t (made rationals t l)))
      (append-nil (iteration_list f m images gs)) in
      omega (arith, all, a, b, c, d, e, g, none, count)
