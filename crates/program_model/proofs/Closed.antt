-- Paths that begin and end.
--   follows_begin        the path of no step
--   same_transition      a path that ends has the polynomials of the transition of its steps
use Rattle.std.proofs.Common.{◌≡◌, ◌<◌, ◌≤◌, ℕ, suc, ◌+◌, List, [], ◌∷◌, ◌++◌, map, take, drop, length, arith, refl, sym, ap, subst, subst₂, ◌∙◌, All, take-append-drop}
use Rattle.std.proofs.lemmas.List.{append-nil}
use Rattle.std.proofs.lemmas.List.Elements.{All-nil}
use Rattle.algebra.specs.Fraction.{Fraction, ℚ}
use Rattle.algebra.proofs.Fractions.{ℚ_ring}
use Rattle.algebra.proofs.Lists.{length-front, length-back}
use Rattle.polynomials.specs.Terms.{Terms, AllSame, variables, value_at}
use Rattle.polynomials.specs.Polynomial.{AllArity}
use Rattle.polynomials.proofs.ValueAt.{value_at-variables}
use Rattle.loops.specs.Program.{Expr}
use Rattle.flows.specs.Steps.{Step}
use Rattle.flows.specs.Paths.{all_unknowns, inverse_zeros, all_zeros, after_all, transition}
use Rattle.flows.specs.Graph as flows
use Rattle.flows.specs.Same.{IsSameTransition}
use Rattle.flows.proofs.Transitions.{steps_transition, zeros_at, images_at}
use Rattle.poly.specs.Seen.{terms_each}
use Rattle.poly.specs.Standing.{IsInVariables, AllStandFor}
use Rattle.poly.proofs.Standing.{stands_over, stands_length, stands_same}
use Rattle.loops.proofs.Maps.{length-variables}
use Rattle.loop_model.specs.FracPoly.{FracPoly}
use Rattle.program_model.specs.Follows.{values, Follows}
use Rattle.program_model.specs.Limits.{most_names}
use Rattle.program_model.specs.UnderWay.{IsUnderWay, IsReady}
use Rattle.program_model.proofs.Following.{values_stand}
use Rattle.program_model.proofs.Values.{stands_by_values}
use Rattle.program_model.specs.Fronts.{IsEdge}
use Rattle.program_model.specs.declared.path.Path.{Path}
use Rattle.program_model.specs.declared.graph.Transition.{Transition}

-- ---- the path of no step
pub begin_over : (n : ℕ) (ps : List FracPoly) → AllStandFor n ps (variables ℚ n)
    → All (IsInVariables (0 + n)) ps
begin_over n ps h = subst (λ m. All (IsInVariables m) ps)
    (let p : n ≡ 0 + n = omega arith in p) (stands_over n ps (variables ℚ n) h)

pub none_over : (m : ℕ) (zs : List FracPoly) → zs ≡ [] → All (IsInVariables m) zs
none_over m zs e = subst (All (IsInVariables m)) (sym e) (All-nil (IsInVariables m))

pub follows_begin : (n : ℕ) (zs ps : List FracPoly) → zs ≡ [] → AllStandFor n ps (variables ℚ n)
    → Follows n [] [] zs ps
unfolding all_unknowns all_zeros after_all inverse_zeros
follows_begin n zs ps e h = subst (λ zs. Follows n [] [] zs ps) (sym e) (record {
  zeros_over = All-nil (IsInVariables (0 + n));
  images_over = begin_over n ps h;
  zeros = λ x y s l k i. refl;
  images = λ x y s l k i. here x y s l k i;
})
  where
    here : (x y s : List Fraction) → length x ≡ 0 → length y ≡ 0 → length s ≡ n
        → values ps (x ++ y ++ s) ≡ s ++ y
    here [] [] s l k i = values_stand n ps (variables ℚ n) s h
        ∙ value_at-variables ℚ_ring n s i ∙ sym (append-nil s)
    here [] (v ∷ y) s l k i = absurd (omega arith)
    here (v ∷ x) y s l k i = absurd (omega arith)

begin_length : (n : ℕ) (ps : List FracPoly) → AllStandFor n ps (variables ℚ n)
    → length ps ≡ n
begin_length n ps h = stands_length n ps (variables ℚ n) h ∙ length-variables n

pub begin_ready : (n : ℕ) (p : Path) → 0 < n → n ≤ most_names → p.variables ≡ n
    → p.unknowns ≡ 0 → p.zeros.items ≡ [] → AllStandFor n p.images.items (variables ℚ n)
    → IsReady n p
begin_ready n p some few v k z h =
    let l = begin_length n p.images.items h in
    let e : 0 + n ≡ p.unknowns + p.variables = omega (arith, v, k) in
    record {
      room = record {
        some = omega (arith, some, v);
        few_variables = omega (arith, few, v);
        few_unknowns = omega (arith, k);
        images = subst (λ m. All (IsInVariables m) p.images.items) e
            (begin_over n p.images.items h);
        zeros = none_over (p.unknowns + p.variables) p.zeros.items z;
        count = omega (arith, l, v);
      };
      whole = l ∙ sym v;
      variables = v;
    }

pub none_unknown : 0 ≡ all_unknowns {E = Expr ℕ} [] + 0
unfolding all_unknowns
none_unknown = refl

-- ---- the end
all_same : (m : ℕ) (ps : List FracPoly) (qs : List (Terms Fraction)) → All (IsInVariables m) ps
    → AllArity m qs → ((w : List Fraction) → length w ≡ m
    → values ps w ≡ map (λ q. value_at ℚ q w) qs) → AllSame ℚ (terms_each ps) qs
all_same m ps qs o a h = stands_same m ps qs (stands_by_values m ps qs o a h)

module _ (n u : ℕ) (cs : List (Step (Expr ℕ))) (p : Path) (h : IsUnderWay n u cs [] p)
    (to : ℕ) where
  abbrev a : ℕ
  a = all_unknowns cs

  same_size : a + 0 + n ≡ a + n
  same_size = omega arith

  zeros_here : (w : List Fraction) → length w ≡ a + n
      → map (λ q. value_at ℚ q w) (terms_each p.zeros.items)
      ≡ map (λ q. value_at ℚ q w) (transition n u to cs).zeros
  unfolding inverse_zeros
  zeros_here w l =
      let x = take a w in
      let s = drop a w in
      let lx = length-front a n w l in
      let ls = length-back a n w l in
      ap (values p.zeros.items) (sym (take-append-drop a w)
      ∙ ap (λ t. t ++ s) (sym (append-nil x)))
      ∙ h.follows.zeros x [] s lx refl ls
      ∙ append-nil _
      ∙ sym (zeros_at n u to cs s ls x lx)
      ∙ ap (λ t. map (λ q. value_at ℚ q t) (transition n u to cs).zeros)
      (take-append-drop a w)

  images_here : (w : List Fraction) → length w ≡ a + n
      → map (λ q. value_at ℚ q w) (terms_each p.images.items)
      ≡ map (λ q. value_at ℚ q w) (transition n u to cs).images
  images_here w l =
      let x = take a w in
      let s = drop a w in
      let lx = length-front a n w l in
      let ls = length-back a n w l in
      ap (values p.images.items) (sym (take-append-drop a w)
      ∙ ap (λ t. t ++ s) (sym (append-nil x)))
      ∙ h.follows.images x [] s lx refl ls
      ∙ append-nil _
      ∙ sym (images_at n u to cs s ls x lx)
      ∙ ap (λ t. map (λ q. value_at ℚ q t) (transition n u to cs).images)
      (take-append-drop a w)

  -- the path with its end
  abbrev seen : flows.Transition
  seen = record {
    from = p.from;
    to = to;
    unknowns = p.unknowns;
    zeros = terms_each p.zeros.items;
    images = terms_each p.images.items;
  }

  pub same_transition : IsSameTransition seen (transition n u to cs)
  same_transition =
      let k = steps_transition n u to cs (suc (u + to)) (omega arith) (omega arith) in
      let j = h.unknowns in
      record {
        from = h.from;
        to = refl;
        unknowns = omega (arith, j);
        zeros = all_same (a + n) p.zeros.items _
            (subst (λ m. All (IsInVariables m) p.zeros.items) same_size h.follows.zeros_over)
            k.zeros zeros_here;
        images = all_same (a + n) p.images.items _
            (subst (λ m. All (IsInVariables m) p.images.items) same_size h.follows.images_over)
            k.images images_here;
      }

pub closed_edge : (n u : ℕ) (cs : List (Step (Expr ℕ))) (p : Path) → IsUnderWay n u cs [] p
    → IsReady p.variables p → (to : ℕ) (t : Transition) → t.from ≡ p.from → t.to ≡ to
    → t.unknowns ≡ p.unknowns → t.zeros.items ≡ p.zeros.items → t.images.items ≡ p.images.items
    → IsEdge n (record { from = u; to = to; steps = cs }) t
closed_edge n u cs p h r to t f e k z i =
    let s = same_transition n u cs p h to in
    let m = r.room in
    let v : p.unknowns + p.variables ≡ t.unknowns + n =
    (let a = h.variables in omega (arith, a, k)) in
    let few = m.few_unknowns in
    record {
      same = record {
        from = f ∙ s.from;
        to = e ∙ s.to;
        unknowns = k ∙ s.unknowns;
        zeros = subst (λ xs. AllSame ℚ (terms_each xs) (transition n u to cs).zeros) (sym z)
            s.zeros;
        images = subst (λ xs. AllSame ℚ (terms_each xs) (transition n u to cs).images) (sym i)
            s.images;
      };
      few = omega (arith, few, k);
      zeros = subst₂ (λ a xs. All (IsInVariables a) xs) v (sym z) m.zeros;
      images = subst₂ (λ a xs. All (IsInVariables a) xs) v (sym i) m.images;
    }
