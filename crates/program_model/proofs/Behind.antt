-- Polynomials of a path stand for what the definition forms.
--   stands_behind        where their values are those of the variables behind the steps, and of the unknowns behind these
--   follows_stands       those that follow steps and divisors;  wide_stands: with one unknown more
use Rattle.std.proofs.Common.{◌≡◌, ◌≤◌, ℕ, suc, ◌+◌, List, [], ◌∷◌, ◌++◌, map, take, drop, length, arith, sym, ap, ap₂, subst, ◌∙◌, append_assoc, All, take-append-drop}
use Rattle.std.specs.List.{AllZip}
use Rattle.std.proofs.lemmas.List.{length-append, map-append, take-map, drop-map, take-append-le, take_all}
use Rattle.algebra.proofs.Each.{each-append, each-drop}
use Rattle.algebra.proofs.Lists.{length-front, length-back}
use Rattle.algebra.specs.Fraction.{Fraction, ℚ}
use Rattle.algebra.proofs.Fractions.{ℚ_ring}
use Rattle.polynomials.specs.Terms.{Terms, constant, lists, variables, value_at}
use Rattle.polynomials.specs.Polynomial.{Arity, AllArity}
use Rattle.polynomials.proofs.Arity.{arity-variables}
use Rattle.polynomials.proofs.ValueAt.{value_at-variables}
use Rattle.loops.proofs.Maps.{arity_closed, value_at_carries}
use Rattle.flows.specs.Steps.{Step}
use Rattle.flows.specs.Paths.{all_unknowns, after_all}
use Rattle.flows.proofs.Steps.{parted}
use Rattle.flows.proofs.Transitions.{each-take, all_after_in, map-after_all}
use Rattle.poly.specs.Standing.{IsInVariables, AllStandFor}
use Rattle.loop_model.specs.FracPoly.{FracPoly}
use Rattle.program_model.specs.PathEvents.{E, places, behind}
use Rattle.program_model.specs.Follows.{values, Follows}
use Rattle.program_model.specs.Widening.{IsWidened}
use Rattle.program_model.proofs.Following.{last_of, wide_images, wide_images_over}
use Rattle.program_model.proofs.Values.{stands_by_values}

module _ (n : ℕ) (cs : List (Step E)) (j k : ℕ) (few : j ≤ k) where
  abbrev a : ℕ
  a = all_unknowns cs

  abbrev m : ℕ
  m = places n cs k

  abbrev xs : List (Terms Fraction)
  xs = variables ℚ m

  behind_arity : AllArity m (behind n cs j k)
  unfolding behind
  behind_arity =
      let all = arity-variables m ℚ in
      each-append (Arity m)
      (after_all (lists ℚ m) (constant m) cs (take a xs) (drop (a + k) xs)) (take j (drop a xs))
      (all_after_in (lists ℚ m) (constant m) (Arity m) (arity_closed m) cs (take a xs)
      (drop (a + k) xs) (each-take (Arity m) a xs all) (each-drop (Arity m) (a + k) xs all))
      (each-take (Arity m) j (drop a xs) (each-drop (Arity m) a xs all))

  module _ (x y s : List Fraction) (lx : length x ≡ a) (ly : length y ≡ k)
      (ls : length s ≡ n) where
    abbrev w : List Fraction
    w = x ++ y ++ s

    abbrev at : Terms Fraction → Fraction
    at q = value_at ℚ q w

    whole : map at xs ≡ w
    whole =
        let l = length-append x y in
        let r = length-append (x ++ y) s in
        value_at-variables ℚ_ring m w (omega (arith, l, r, lx, ly, ls))

    regrouped : w ≡ x ++ (y ++ s)
    regrouped = append_assoc x y s

    front : map at (take a xs) ≡ x
    front = sym (take-map at a xs) ∙ ap (take a) (whole ∙ regrouped)
        ∙ (parted x (y ++ s) a lx).0

    back : map at (drop (a + k) xs) ≡ s
    back = sym (drop-map at (a + k) xs) ∙ ap (drop (a + k)) whole
        ∙ (parted (x ++ y) s (a + k) (let l = length-append x y in omega (arith, l, lx, ly))).1

    middle : map at (take j (drop a xs)) ≡ take j y
    middle = sym (take-map at j (drop a xs))
        ∙ ap (take j) (sym (drop-map at a xs) ∙ ap (drop a) (whole ∙ regrouped)
        ∙ (parted x (y ++ s) a lx).1)
        ∙ take-append-le j y s (omega (arith, few, ly))

    behind_values : map at (behind n cs j k) ≡ after_all ℚ (λ c. c) cs x s ++ take j y
    unfolding behind
    behind_values =
        map-append at (after_all (lists ℚ m) (constant m) cs (take a xs) (drop (a + k) xs))
        (take j (drop a xs))
        ∙ ap₂ ◌++◌ (map-after_all (lists ℚ m) ℚ (constant m) (λ c. c) at (value_at_carries m w) cs
        (take a xs) (drop (a + k) xs) ∙ ap₂ (after_all ℚ (λ c. c) cs) front back) middle

  pub stands_behind : (ps : List FracPoly) → All (IsInVariables m) ps
      → ((x y s : List Fraction) → length x ≡ a → length y ≡ k → length s ≡ n
      → values ps (x ++ y ++ s) ≡ after_all ℚ (λ c. c) cs x s ++ take j y)
      → AllStandFor m ps (behind n cs j k)
  stands_behind ps over h = stands_by_values m ps (behind n cs j k) over behind_arity go
    where
      go : (w : List Fraction) → length w ≡ places n cs k
          → values ps w ≡ map (λ q. value_at ℚ q w) (behind n cs j k)
      go w l =
          let t = take (all_unknowns cs + k) w in
          let s = drop (all_unknowns cs + k) w in
          let lt = length-front (all_unknowns cs + k) n w l in
          let ls = length-back (all_unknowns cs + k) n w l in
          let x = take (all_unknowns cs) t in
          let y = drop (all_unknowns cs) t in
          let lx = length-front (all_unknowns cs) k t lt in
          let ly = length-back (all_unknowns cs) k t lt in
          let e : w ≡ x ++ y ++ s = sym (ap (λ r. r ++ s) (take-append-drop (all_unknowns cs) t)
          ∙ take-append-drop (all_unknowns cs + k) w) in
          ap (values ps) e ∙ h x y s lx ly ls
          ∙ sym (behind_values x y s lx ly ls)
          ∙ ap (λ r. map (λ q. value_at ℚ q r) (behind n cs j k)) (sym e)

module _ (n : ℕ) (cs : List (Step E)) (ds : List E) (zs ps : List FracPoly)
    (h : Follows n cs ds zs ps) where
  pub follows_stands : AllStandFor (places n cs (length ds)) ps
      (behind n cs (length ds) (length ds))
  follows_stands = stands_behind n cs (length ds) (length ds) (omega arith) ps h.images_over
      (λ x y s lx ly ls. h.images x y s lx ly ls
      ∙ ap (λ t. after_all ℚ (λ c. c) cs x s ++ t)
      (sym (take_all (length ds) y (omega (arith, ly)))))

  pub wide_stands : (zs' ps' : List FracPoly) (b : ℕ) → b ≡ all_unknowns cs + length ds
      → AllZip (IsWidened b) zs zs' → AllZip (IsWidened b) ps ps'
      → AllStandFor (places n cs (suc (length ds))) ps' (behind n cs (length ds) (suc (length ds)))
  wide_stands zs' ps' b place wz wp =
      stands_behind n cs (length ds) (suc (length ds)) (omega arith) ps'
      (subst (λ k. All (IsInVariables k) ps') (omega arith)
      (wide_images_over n cs ds zs ps zs' ps' h b place wz wp)) go
    where
      go : (x y s : List Fraction) → length x ≡ all_unknowns cs → length y ≡ suc (length ds)
          → length s ≡ n
          → values ps' (x ++ y ++ s) ≡ after_all ℚ (λ c. c) cs x s ++ take (length ds) y
      go x y s lx ly ls =
          let r = last_of (length ds) y ly in
          ap (λ t. values ps' (x ++ t ++ s)) r.2
          ∙ wide_images n cs ds zs ps zs' ps' h b place wz wp x r.0 s r.1 lx r.3 ls
          ∙ ap (λ t. after_all ℚ (λ c. c) cs x s ++ t)
          (sym (ap (take (length ds)) r.2
          ∙ (parted r.0 (r.1 ∷ []) (length ds) r.3).0))
