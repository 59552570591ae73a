-- The elimination of what an orbit or an iteration begins with, as the code has the list.
--   AreStarting n m list gens     the gens are that list, with n variables to be eliminated and m behind these
--   block_first, block_arity      of the list, that isn't empty
--   way_is, ran_of                what is done
--   not_empty                     a list that isn't empty has elements
--   over_of, reduced_of           what it gives
--   gens_count, orbit_list_few, iteration_list_length     how many there are
use Rattle.std.proofs.Common.{◌≡◌, ℕ, zero, suc, ◌+◌, ◌-◌, ◌<◌, ◌≤◌, List, [], ◌∷◌, ◌++◌, map, drop, length, refl, ap, ap₂, subst, arith}
use Rattle.std.specs.Global.{Vec}
use Rattle.std.proofs.lemmas.List.{length-map, length-append, length-drop}
use Rattle.std.proofs.lemmas.List.Elements.{All-head}
use Rattle.algebra.specs.Fraction.{Fraction, ℚ, rationals, fractions}
use Rattle.polynomials.specs.Order.{grevlex, blocks}
use Rattle.polynomials.specs.Terms.{Terms, variables, compose}
use Rattle.machines.specs.Collect.{collect}
use Rattle.machines.specs.Elimination as elimination
use Rattle.machines.specs.Elimination.{free_part}
use Rattle.machines.specs.Journal.{Journal}
use Rattle.machines.specs.Machine.{Outcome, Ran}
use Rattle.machines.specs.Machines as machines
use Rattle.loops.proofs.Maps.{length-variables}
use Rattle.poly.specs.Seen.{arity_of, terms_in, terms_each}
use Rattle.rounds.specs.Form.{Form, front, inverse_of_form, normal, relations, pulled_back_by, passes, passing, form_before, late_order, list_since, orbit_list, iteration_before, iteration_front, iteration_list}
use Rattle.rounds.specs.Graph.{less, at_before}
use Rattle.rounds.specs.Results.{IsReducedList}
use Rattle.ideal_ops.specs.Calls as ideal
use Rattle.ideal_ops.specs.Calls.{Way, AreOver, IsListOf, first_block, IsEliminationOf, elimination_of}
use Rattle.ideal_ops.specs.Eliminating.{HaveBlock}
use Rattle.loop_model.specs.FracPoly.{FracPoly}
use Rattle.invariant_fix.specs.Blocked.{Blocked}
use Rattle.task_lists.proofs.Elements.{orbit_count, relations_count}
use Rattle.invariant_fix.proofs.Lists.{reduced_list}

pub not_empty : {X : Type 0} (xs : List X) → (xs ≡ [] → ⊥) → 0 < length xs
not_empty [] h = absurd (h refl)
not_empty (x ∷ xs) h = omega arith

pub record AreStarting (n m : ℕ) (ts : List (Terms Fraction)) (gens : List Blocked) : Type 0 where
  pub list : terms_each gens ≡ ts
  pub block : HaveBlock n (n + m) gens

module _ {n m : ℕ} {list : List (Terms Fraction)} {gens : List Blocked}
    (u : AreStarting n m list gens) where
  pub gens_count : length gens ≡ length list
  gens_count = let a = ap length u.list in let b = length-map gens terms_in in omega (arith, a, b)

  module _ (some : 0 < length list) where
    here : (gs : List Blocked) → HaveBlock n (n + m) gs → 0 < length gs → (first_block gs ≡ n)
        × (arity_of gs ≡ n + m)
    here [] a l = absurd (omega (arith, l))
    here (p ∷ gs) a l = All-head (λ (q : Blocked). (q.order.first ≡ n) × (q.arity ≡ n + m)) p gs a

    pub some_gens : 0 < length gens
    some_gens = let a = gens_count in omega (arith, a, some)

    pub block_first : first_block gens ≡ n
    block_first = (here gens u.block some_gens).0

    pub block_arity : arity_of gens ≡ n + m
    block_arity = (here gens u.block some_gens).1

    pub way_is : ideal.elimination_way (first_block gens) gens
        ≡ record { order = blocks n grevlex grevlex; part = free_part n; gens = list }
    way_is = ap₂ (λ (n : ℕ) (ts : List (Terms Fraction)). let w : Way fractions =
        record { order = blocks n grevlex grevlex; part = free_part n; gens = ts } in w) block_first
        u.list

    -- what is done
    pub ran_of : {before after : Journal} (o : Outcome (Vec FracPoly))
        → Ran (elimination_of (ideal.elimination_way (first_block gens) gens))
        (IsListOf (ideal.elimination_way (first_block gens) gens)) before after o
        → Ran (machines.elimination fractions (blocks n grevlex grevlex) grevlex (free_part n) list)
        (λ (hs : Vec FracPoly) s. terms_each hs.items ≡ elimination.list_of grevlex (free_part n) s)
        before after o
    ran_of {before} {after} o h =
        subst (λ V. Ran (elimination_of V) (IsListOf V) before after o) way_is h

    module _ {hs : List FracPoly} (h : IsEliminationOf gens hs) where
      rest : arity_of gens - first_block gens ≡ m
      rest = let a = block_first in let c = block_arity in omega (arith, a, c)

      pub over_of : AreOver m hs
      over_of = subst (λ n. AreOver n hs) rest h.arity

      pub reduced_of : IsReducedList m (terms_each hs)
      reduced_of = subst (λ n. IsReducedList n (terms_each hs)) rest (reduced_list _ h.reduced)

-- ---- how many there are
less_length : (xs ys : List (Terms Fraction)) → length xs ≡ length ys
    → length (less xs ys) ≡ length ys
less_length [] [] e = refl
less_length [] (y ∷ ys) e = absurd (omega (arith, e))
less_length (x ∷ xs) [] e = absurd (omega (arith, e))
less_length (x ∷ xs) (y ∷ ys) e = let h = less_length xs ys (omega (arith, e)) in omega (arith, h)

last_length : (k m : ℕ) → length (drop k (variables ℚ (k + m))) ≡ m
last_length k m =
    let a = length-drop k (variables ℚ (k + m)) in
    let b = length-variables (k + m) in
    omega (arith, a, b)

module _ (f : Form) (m : ℕ) (gs : List (Terms Fraction)) where
  abbrev r : ℕ
  r = length f.base

  module _ (count : length f.polys ≡ m) where
    late_list_length : (d : ℕ) → length (list_since (suc d) f m gs)
        ≡ length gs + m + suc (length f.base)
    late_list_length d =
        let k = front r in
        let which = passes f m in
        let t = passing m which in
        let before = form_before f m which in
        let O = late_order f m which in
        let ks = map (normal O r) (map (λ g. compose ℚ (k + t + m) g before) gs) in
        let ys = map (at_before k t m before) f.polys in
        let ds = less (drop (k + t) (variables ℚ (k + t + m))) ys in
        let us = map (collect rationals O) (relations r (t + m)) in
        let a = length-append ks (map (normal O r) ds ++ us) in
        let b = length-append (map (normal O r) ds) us in
        let c = length-map (map (λ g. compose ℚ (k + t + m) g before) gs) (normal O r) in
        let e = length-map gs (λ g. compose ℚ (k + t + m) g before) in
        let h = length-map ds (normal O r) in
        let i = length-map f.polys (at_before k t m before) in
        let l = last_length (k + t) m in
        let j : length ds ≡ length ys = less_length _ ys (omega (arith, l, i, count)) in
        let n = length-map (relations r (t + m)) (collect rationals O) in
        let o = relations_count r (t + m) in
        omega (arith, a, b, c, e, h, i, j, n, o, count)

    abbrev IsShort : ℕ → Type 0
    IsShort n = (0 < n) × (n ≤ length gs + m + suc (length f.base))

    pub orbit_list_few : IsShort (length (orbit_list f m gs))
    orbit_list_few = go f.since
      where
        go : (d : ℕ) → IsShort (length (list_since d f m gs))
        go zero =
            let a = orbit_count (pulled_back_by r m (inverse_of_form f)) gs r m in
            (omega (arith, a), omega (arith, a))
        go (suc d) = let a = late_list_length d in (omega (arith, a), omega (arith, a))

  pub iteration_list_length : (images : List (Terms Fraction)) → length images ≡ m
      → length (iteration_list f m images gs) ≡ length gs + m
  iteration_list_length images count =
      let t = iteration_front f m in
      let before = iteration_before f m (passes f m) in
      let ks = map (λ g. compose ℚ (0 + t + m) g before) gs in
      let ys = map (at_before 0 t m before) images in
      let ds = less (drop (0 + t) (variables ℚ (0 + t + m))) ys in
      let a = length-map (ks ++ (ds ++ [])) (collect rationals (blocks t grevlex grevlex)) in
      let b = length-append ks (ds ++ []) in
      let c = length-append ds [] in
      let d = length-map images (at_before 0 t m before) in
      let e = length-map gs (λ g. compose ℚ (0 + t + m) g before) in
      let l = last_length (0 + t) m in
      let j : length ds ≡ length ys = less_length _ ys (omega (arith, l, d, count)) in
      omega (arith, a, b, c, d, e, j, count)
