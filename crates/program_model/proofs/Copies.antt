-- Copies of polynomials, and of paths.
--   Copied ps qs         qs have the terms and the numbers of variables of ps;  copied_none, copied_more
--   copied_over          so they are in as many variables
--   ready_copy, way_copy     the copy of a path
use Rattle.std.proofs.Common.{◌≡◌, ◌<◌, ℕ, ◌+◌, List, [], ◌∷◌, ◌++◌, map, take, length, get_or, sym, ap, ap₂, subst, ◌∙◌, All, arith}
use Rattle.std.proofs.lemmas.List.{map_push, length-map}
use Rattle.std.proofs.lemmas.List.Elements.{All-cons, All-head, All-tail}
use Rattle.algebra.specs.Fraction.{Fraction, ℚ}
use Rattle.polynomials.specs.Terms.{value_at}
use Rattle.flows.specs.Steps.{Step}
use Rattle.poly.specs.Seen.{terms_in, terms_each}
use Rattle.poly.specs.Standing.{IsInVariables}
use Rattle.loop_model.specs.FracPoly.{FracPoly}
use Rattle.program_model.specs.PathEvents.{E}
use Rattle.program_model.specs.Follows.{values}
use Rattle.program_model.specs.UnderWay.{IsUnderWay, IsReady}
use Rattle.program_model.specs.declared.path.Path.{Path}
use Rattle.program_model.proofs.Cuts.{cut_more}

abbrev arity_in : FracPoly → ℕ
arity_in p = p.arity

pub record Copied (ps qs : List FracPoly) : Type 0 where
  pub terms : terms_each qs ≡ terms_each ps
  pub arities : map arity_in qs ≡ map arity_in ps

pub copied_more : (ps qs rs : List FracPoly) (i : ℕ) (p q : FracPoly) → i < length ps
    → p ≡ get_or ps i p → Copied (take i ps) qs → rs ≡ qs ++ q ∷ [] → q.arity ≡ p.arity
    → terms_in q ≡ terms_in p → Copied (take (i + 1) ps) rs
copied_more ps qs rs i p q l is h more a t = record {
  terms = ap terms_each more ∙ map_push terms_in qs q
      ∙ ap₂ (λ xs x. xs ++ x ∷ []) h.terms t ∙ sym (cut_more terms_in ps i p l is);
  arities = ap (map arity_in) more ∙ map_push arity_in qs q
      ∙ ap₂ (λ xs x. xs ++ x ∷ []) h.arities a ∙ sym (cut_more arity_in ps i p l is);
}

pub copied_over : (m : ℕ) (ps qs : List FracPoly) → map arity_in qs ≡ map arity_in ps
    → All (IsInVariables m) ps → All (IsInVariables m) qs
copied_over m [] [] e h = h
copied_over m [] (q ∷ qs) e h = absurd (cc)
copied_over m (p ∷ ps) [] e h = absurd (cc)
copied_over m (p ∷ ps) (q ∷ qs) e h =
    let a : q.arity ≡ p.arity = cc in
    let r : map arity_in qs ≡ map arity_in ps = cc in
    All-cons (IsInVariables m) q qs (a ∙ All-head (IsInVariables m) p ps h)
    (copied_over m ps qs r (All-tail (IsInVariables m) p ps h))

module _ (p q : Path) (v : q.variables ≡ p.variables) (f : q.from ≡ p.from)
    (k : q.unknowns ≡ p.unknowns) (zs : Copied p.zeros.items q.zeros.items)
    (ps : Copied p.images.items q.images.items) where
  same_length : length q.images.items ≡ length p.images.items
  same_length = sym (length-map q.images.items arity_in) ∙ ap length ps.arities
      ∙ length-map p.images.items arity_in

  pub ready_copy : (n : ℕ) → IsReady n p → IsReady n q
  ready_copy n h =
      let r = h.room in
      let a = r.some in
      let b = r.few_variables in
      let d = r.few_unknowns in
      let e = r.count in
      let l = same_length in
      let m : p.unknowns + p.variables ≡ q.unknowns + q.variables = omega (arith, v, k) in
      record {
        room = record {
          some = omega (arith, a, v);
          few_variables = omega (arith, b, v);
          few_unknowns = omega (arith, d, k);
          images = subst (λ m. All (IsInVariables m) q.images.items) m
              (copied_over (p.unknowns + p.variables) p.images.items q.images.items ps.arities
              r.images);
          zeros = subst (λ m. All (IsInVariables m) q.zeros.items) m
              (copied_over (p.unknowns + p.variables) p.zeros.items q.zeros.items zs.arities
              r.zeros);
          count = omega (arith, e, v, l);
        };
        whole = same_length ∙ h.whole ∙ sym v;
        variables = v ∙ h.variables;
      }

  same_values : (xs ys : List FracPoly) → terms_each ys ≡ terms_each xs → (w : List Fraction)
      → values ys w ≡ values xs w
  same_values xs ys e w = ap (map (λ t. value_at ℚ t w)) e

  pub way_copy : (n u : ℕ) (cs : List (Step E)) → IsUnderWay n u cs [] p → IsUnderWay n u cs [] q
  way_copy n u cs h = record {
    variables = v ∙ h.variables;
    from = f ∙ h.from;
    unknowns = k ∙ h.unknowns;
    follows = record {
      zeros_over = copied_over _ p.zeros.items q.zeros.items zs.arities h.follows.zeros_over;
      images_over = copied_over _ p.images.items q.images.items ps.arities h.follows.images_over;
      zeros = λ x y s l j i. same_values p.zeros.items q.zeros.items zs.terms (x ++ y ++ s)
          ∙ h.follows.zeros x y s l j i;
      images = λ x y s l j i. same_values p.images.items q.images.items ps.terms (x ++ y ++ s)
          ∙ h.follows.images x y s l j i;
    };
  }
