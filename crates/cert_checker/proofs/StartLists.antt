-- The equations of init, in the order of the variables that they set.
--   starts_few        there are no more polynomials in the start list than equations;  starts_all: as many, where each sets a variable
--   start_same        a polynomial of the code's list is that of the start list, collected
use Rattle.std.proofs.Common.{◌≡◌, ◌<◌, ◌≤◌, ◌+◌, ℕ, zero, suc, Bool, true, false, eqb, List, [], ◌∷◌, ◌++◌, map, filter, get_or, length, refl, sym, ap, subst, ◌∙◌, arith}
use Rattle.std.specs.Prelude.{All}
use Rattle.std.proofs.lemmas.Bool.{eqb-true, eqb-false}
use Rattle.std.proofs.lemmas.List.{get_or-map, length-append, length-map}
use Rattle.std.proofs.lemmas.List.Elements.{All-head, All-tail}
use Rattle.algebra.specs.Fraction.{Fraction, ℚ, rationals}
use Rattle.algebra.proofs.Fractions.{ℚ_field}
use Rattle.polynomials.specs.Order.{grevlex}
use Rattle.polynomials.specs.Terms.{Terms, Same}
use Rattle.polynomials.proofs.Orders.{grevlex_order}
use Rattle.machines.specs.Collect.{collect}
use Rattle.machines.proofs.Collecting.{collect-same}
use Rattle.loops.specs.Program.{Expr, Program, Equation}
use Rattle.loops.specs.WellFormed.{IsWellFormed}
use Rattle.rounds.specs.Start.{start_polynomial, in_order, start_list}
use Rattle.rounds.proofs.StartOrder.{none_in_order, sets, passed, outside}

module _ {E : Type 0} where
  inside : (n : ℕ) (e : Equation E) (es : List (Equation E))
      → length (in_order n (e ∷ es)) ≤ suc (length (in_order n es))
  unfolding in_order
  inside zero e es = omega arith
  inside (suc n) e es = go (eqb e.name n) refl (inside n e es)
    where
      old : length (in_order n es ++ filter (sets n) es)
          ≡ length (in_order n es) + length (filter (sets n) es)
      old = length-append (in_order n es) (filter (sets n) es)

      new : length (in_order n (e ∷ es) ++ filter (sets n) (e ∷ es))
          ≡ length (in_order n (e ∷ es)) + length (filter (sets n) (e ∷ es))
      new = length-append (in_order n (e ∷ es)) (filter (sets n) (e ∷ es))

      go : (b : Bool) → eqb e.name n ≡ b
          → length (in_order n (e ∷ es)) ≤ suc (length (in_order n es))
          → length (in_order n (e ∷ es) ++ filter (sets n) (e ∷ es))
          ≤ suc (length (in_order n es ++ filter (sets n) es))
      go true is before =
          let same = eqb-true e.name n is in
          let k : length (in_order n (e ∷ es)) ≡ length (in_order n es) =
          ap length (outside n e es (omega (arith, same))) in
          let f : length (filter (sets n) (e ∷ es)) ≡ suc (length (filter (sets n) es)) =
          ap length (passed true n e es is) in
          omega (arith, old, new, k, f)
      go false is before =
          let f : length (filter (sets n) (e ∷ es)) ≡ length (filter (sets n) es) =
          ap length (passed false n e es is) in
          omega (arith, old, new, before, f)

  order_few : (n : ℕ) (es : List (Equation E)) → length (in_order n es) ≤ length es
  order_few n [] = let e = none_in_order E n in omega (arith, e)
  order_few n (e ∷ es) =
      let a = inside n e es in
      let b = order_few n es in
      omega (arith, a, b)

  one_inside : (n : ℕ) (e : Equation E) (es : List (Equation E)) → e.name < n
      → length (in_order n (e ∷ es)) ≡ suc (length (in_order n es))
  unfolding in_order
  one_inside zero e es l = absurd (omega (arith, l))
  one_inside (suc n) e es l = go (eqb e.name n) refl (one_inside n e es)
    where
      old : length (in_order n es ++ filter (sets n) es)
          ≡ length (in_order n es) + length (filter (sets n) es)
      old = length-append (in_order n es) (filter (sets n) es)

      new : length (in_order n (e ∷ es) ++ filter (sets n) (e ∷ es))
          ≡ length (in_order n (e ∷ es)) + length (filter (sets n) (e ∷ es))
      new = length-append (in_order n (e ∷ es)) (filter (sets n) (e ∷ es))

      go : (b : Bool) → eqb e.name n ≡ b
          → (e.name < n → length (in_order n (e ∷ es)) ≡ suc (length (in_order n es)))
          → length (in_order n (e ∷ es) ++ filter (sets n) (e ∷ es))
          ≡ suc (length (in_order n es ++ filter (sets n) es))
      go true is before =
          let same = eqb-true e.name n is in
          let k : length (in_order n (e ∷ es)) ≡ length (in_order n es) =
          ap length (outside n e es (omega (arith, same))) in
          let f : length (filter (sets n) (e ∷ es)) ≡ suc (length (filter (sets n) es)) =
          ap length (passed true n e es is) in
          omega (arith, old, new, k, f)
      go false is before =
          let other = eqb-false e.name n is in
          let rest = before (omega (arith, l, other)) in
          let f : length (filter (sets n) (e ∷ es)) ≡ length (filter (sets n) es) =
          ap length (passed false n e es is) in
          omega (arith, old, new, rest, f)

  order_all : (n : ℕ) (es : List (Equation E)) → All (λ (e : Equation E). e.name < n) es
      → length (in_order n es) ≡ length es
  order_all n [] all = none_in_order E n
  order_all n (e ∷ es) all =
      one_inside n e es (All-head (λ (e : Equation E). e.name < n) e es all)
      ∙ ap suc (order_all n es (All-tail (λ (e : Equation E). e.name < n) e es all))

module _ {At : Type 0} (program : Program (Expr At)) where
  pub starts_all : IsWellFormed program → length (start_list program) ≡ length program.init
  unfolding start_list
  starts_all formed = length-map (in_order (length program.names) program.init)
      (start_polynomial program)
      ∙ order_all (length program.names) program.init formed.set

  pub starts_few : length (start_list program) ≤ length program.init
  unfolding start_list
  starts_few =
      let n = length-map (in_order (length program.names) program.init)
      (start_polynomial program) in
      let l = order_few (length program.names) program.init in
      omega (arith, n, l)

module _ (hs : List (Terms Fraction)) {gs : List (Terms Fraction)}
    (is : gs ≡ map (collect rationals grevlex) hs) where
  pub start_count : length gs ≡ length hs
  start_count = ap length is ∙ length-map hs (collect rationals grevlex)

  pub start_same : (i : ℕ) → i < length hs → Same ℚ (get_or gs i []) (get_or hs i [])
  start_same i l = subst (λ p. Same ℚ p (get_or hs i []))
      (sym (ap (λ xs. get_or xs i []) is ∙ get_or-map (collect rationals grevlex) hs i [] [] l))
      (collect-same ℚ_field grevlex grevlex_order (get_or hs i []))
