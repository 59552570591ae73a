-- What is found at the points of the code.
--   NoneBefore list goal i       none of the first i polynomials of the list is the goal
--   stands_here, stands_nowhere     the goal is the one at a place, or none of them
--   nothing_found, found_more    what is found at none of the points, and at one more
use Rattle.std.proofs.Common.{◌≡◌, ◌↔◌, ℕ, suc, ◌+◌, ◌<◌, ◌≤◌, Bool, true, false, List, [], ◌∷◌, ◌++◌, length, map, get_or, take, refl, sym, ap, subst, ◌∙◌, arith}
use Rattle.std.specs.Prelude.{IsTrue}
use Rattle.std.proofs.lemmas.List.{get_or-map, length-map, length-take-le, take_more}
use Rattle.algebra.specs.Fraction.{Fraction, ℚ}
use Rattle.polynomials.specs.Terms.{Terms, Same}
use Rattle.poly.specs.Seen.{terms_in}
use Rattle.loop_model.specs.FracPoly.{FracPoly}
use Rattle.cert_form.specs.Cert.{Polys, polys_in}
use Rattle.program_model.specs.declared.graph.Point.{Point}
use Rattle.checkproof_command.specs.Texts.{Finding}
use Rattle.checkproof_command.specs.Judging.{IsListed}
use Rattle.checkproof_command.specs.Found.{IsFound, AreFound}

module _ (list : Polys) (goal : FracPoly) where
  abbrev pub NoneBefore : ℕ → Type 0
  NoneBefore i = (k : ℕ) → k < i → Same ℚ (get_or (polys_in list) k []) (terms_in goal) → ⊥

  here : (i : ℕ) (p : FracPoly) → i < length list.items → p ≡ get_or list.items i p
      → terms_in p ≡ get_or (polys_in list) i []
  here i p l at = ap terms_in at ∙ sym (get_or-map terms_in list.items i p [] l)

  pub stands_here : (i : ℕ) (p : FracPoly) (b : Bool) → i < length list.items
      → p ≡ get_or list.items i p → IsTrue b ↔ Same ℚ (terms_in p) (terms_in goal) → b ≡ true
      → IsTrue true ↔ IsListed (polys_in list) (terms_in goal)
  stands_here i p b l at tells is = (
    (λ t. record {
      place = i;
      within = let e = length-map list.items terms_in in omega (arith, l, e);
      same = subst (λ q. Same ℚ q (terms_in goal)) (here i p l at) (tells.0 is);
    }),
    (λ h. refl),
  )

  pub one_more : (i : ℕ) (p : FracPoly) (b : Bool) → i < length list.items
      → p ≡ get_or list.items i p → IsTrue b ↔ Same ℚ (terms_in p) (terms_in goal)
      → (b ≡ true → ⊥) → Same ℚ (get_or (polys_in list) i []) (terms_in goal) → ⊥
  one_more i p b l at tells not s =
      not (tells.1 (subst (λ q. Same ℚ q (terms_in goal)) (sym (here i p l at)) s))

  pub stands_nowhere : (i : ℕ) → length list.items ≤ i → NoneBefore i
      → IsTrue false ↔ IsListed (polys_in list) (terms_in goal)
  stands_nowhere i past none = (
    (λ t. absurd (let x : false ≡ true = t in let z : ⊥ = cc in z)),
    (λ h. absurd (none h.place
        (let e = length-map list.items terms_in in let w = h.within in omega (arith, past, e, w))
        h.same)),
  )

pub list_here : (lists : List Polys) (i : ℕ) (list : Polys) → i < length lists
    → list ≡ get_or lists i list → polys_in list ≡ get_or (map polys_in lists) i []
list_here lists i list l at = ap polys_in at ∙ sym (get_or-map polys_in lists i list [] l)

module _ (lists : List (List (Terms Fraction))) where
  found_behind : (v : ℕ) (ps : List Point) (fs : List Finding) (p : Point) (f : Finding)
      → AreFound lists v ps fs → IsFound (get_or lists (v + length ps) []) p f
      → AreFound lists v (ps ++ p ∷ []) (fs ++ f ∷ [])
  found_behind v [] [] p f h is =
      let e : v + 0 ≡ v = omega arith in
      (subst (λ k. IsFound (get_or lists k []) p f) e is, tt)
  found_behind v [] (g ∷ fs) p f h is = absurd h
  found_behind v (q ∷ ps) [] p f h is = absurd h
  found_behind v (q ∷ ps) (g ∷ fs) p f h is =
      let e : v + suc (length ps) ≡ suc v + length ps = omega arith in (
        h.0,
        found_behind (suc v) ps fs p f h.1
            (subst (λ k. IsFound (get_or lists k []) p f) e is),
      )

  pub found_more : (ps : List Point) (fs gs : List Finding) (i : ℕ) (p : Point) (f : Finding)
      → i < length ps → p ≡ get_or ps i p → gs ≡ fs ++ f ∷ []
      → AreFound lists 1 (take i ps) fs → IsFound (get_or lists (i + 1) []) p f
      → AreFound lists 1 (take (i + 1) ps) gs
  found_more ps fs gs i p f l at e h is =
      let n : length (take i ps) ≡ i = length-take-le i ps (omega (arith, l)) in
      let k : i + 1 ≡ 1 + length (take i ps) = omega (arith, n) in
      subst (λ qs. AreFound lists 1 qs gs) (sym (take_more ps i p l
      ∙ ap (λ q. take i ps ++ q ∷ []) (sym at)))
      (subst (AreFound lists 1 (take i ps ++ p ∷ [])) (sym e)
      (found_behind 1 (take i ps) fs p f h
      (subst (λ k. IsFound (get_or lists k []) p f) k is)))
