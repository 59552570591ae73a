-- Certificates with the same polynomials have the same verdict, on graphs with the same polynomials.
--   same_over            the polynomials of a certificate have the variables of both graphs
--   same_step, across_step     an identity of one certificate, or on one graph, holds where that of the other does
--   same_verdict, across_verdict     a verdict of one is a verdict of the other
use Rattle.std.proofs.Common.{◌≡◌, ◌↔◌, ℕ, zero, suc, ◌+◌, ◌<◌, List, [], ◌∷◌, ◌++◌, map, replicate, get_or, length, refl, sym, ap, subst, arith}
use Rattle.std.proofs.Math.Path.{subst₂}
use Rattle.algebra.proofs.In.{in_get}
use Rattle.algebra.specs.Fraction.{Fraction, ℚ}
use Rattle.algebra.proofs.Fractions.{ℚ_ring}
use Rattle.polynomials.specs.Terms.{Terms, Same, AllSame, combination, compose}
use Rattle.polynomials.specs.Polynomial.{Arity, AllArity}
use Rattle.polynomials.proofs.Arity.{arity_at}
use Rattle.polynomials.proofs.Same.{Same-refl, Same-sym, Same-trans, AllSame-refl, AllSame-sym, AllSame-at, AllSame-length, same_combination}
use Rattle.polynomials.proofs.Composition.{same_compose}
use Rattle.machines.specs.Elimination.{in_front}
use Rattle.solvable_maps.proofs.Retold.{same_retold}
use Rattle.flows.specs.Graph.{Transition, Graph, IsGraph}
use Rattle.flows.specs.Family.{after, generators}
use Rattle.flows.specs.Certificate.{Certificate, Verdict, valid, start_fails, step_fails, family, element, cofactors, no_transition, transition_at, elements, SameCertificate, AreOver, PassesStart, PassesStep, IsVerdict}
use Rattle.flows.specs.Same.{IsSameTransition, AreSameTransitions, IsSameGraph}
use Rattle.flows.proofs.Sound.{transition_is}
use Rattle.flows.proofs.SameGraph.{same_back, all_append}

pub same_certificate_sym : (c d : Certificate) → SameCertificate c d → SameCertificate d c
same_certificate_sym c d s = record {
  lists = λ v. AllSame-sym ℚ (family c v) (family d v) (s.lists v);
  steps = λ j i. AllSame-sym ℚ (cofactors c j i) (cofactors d j i) (s.steps j i);
}

all_in_front : (k : ℕ) (gs hs : List (Terms Fraction)) → AllSame ℚ gs hs
    → AllSame ℚ (map (in_front k) gs) (map (in_front k) hs)
unfolding AllSame
all_in_front k [] [] h = tt
all_in_front k [] (q ∷ hs) h = absurd h
all_in_front k (g ∷ gs) [] h = absurd h
all_in_front k (g ∷ gs) (q ∷ hs) h =
    (same_retold ℚ_ring (λ e. replicate k 0 ++ e) g q h.0, all_in_front k gs hs h.1)

-- ---- one graph
module _ (G : Graph) (is : IsGraph G) where
  module _ (c d : Certificate) (over : AreOver G c) (other : AreOver G d)
      (s : SameCertificate c d) where
    pub same_step : (j i : ℕ) → j < length G.transitions → PassesStep G c j i → PassesStep G d j i
    same_step j i l h =
        let t = transition_at G j in
        let n = G.variables in
        let images = (transition_is G is t (in_get G.transitions j no_transition l)).images in
        Same-trans ℚ (Same-sym ℚ (same_compose ℚ_ring n (t.unknowns + n) (element c t.to i)
        (element d t.to i) t.images t.images (arity_at n (family c t.to) (over.arities t.to) i)
        (arity_at n (family d t.to) (other.arities t.to) i) images images
        (AllSame-at ℚ (family c t.to) (family d t.to) (s.lists t.to) i) (AllSame-refl ℚ t.images)))
        (Same-trans ℚ h (same_combination ℚ_ring (cofactors c j i) (cofactors d j i)
        (generators t (family c)) (generators t (family d)) (s.steps j i)
        (all_append _ _ t.zeros t.zeros (all_in_front t.unknowns (family c t.from)
        (family d t.from) (s.lists t.from)) (AllSame-refl ℚ t.zeros))))

    same_elements : (j : ℕ) → elements G c j ≡ elements G d j
    same_elements j =
        let v = (transition_at G j).to in AllSame-length ℚ (family c v) (family d v) (s.lists v)

none_same : (gs : List (Terms Fraction)) → AllSame ℚ [] gs → gs ≡ []
unfolding AllSame
none_same [] h = refl
none_same (g ∷ gs) h = absurd h

same_start : (c d : Certificate) → SameCertificate c d → family c 0 ≡ [] → family d 0 ≡ []
same_start c d s e = none_same (family d 0) (subst (λ gs. AllSame ℚ gs (family d 0)) e (s.lists 0))

-- ---- where the same identities hold
module _ (G H : Graph) (c d : Certificate) (starts : PassesStart G c ↔ PassesStart H d)
    (steps : (j i : ℕ) → j < length G.transitions → PassesStep G c j i ↔ PassesStep H d j i)
    (many : length G.transitions ≡ length H.transitions)
    (counts : (j : ℕ) → elements G c j ≡ elements H d j) where
  back : (j : ℕ) → j < length H.transitions → j < length G.transitions
  back j l = omega (arith, many)

  inside : (j i : ℕ) → i < elements H d j → i < elements G c j
  inside j i l = subst (λ k. i < k) (sym (counts j)) l

  verdict_along : (v : Verdict) → IsVerdict G c v → IsVerdict H d v
  verdict_along valid h = record {
    start = starts.0 h.start;
    steps = λ j i l k. (steps j i (back j l)).0 (h.steps j i (back j l) (inside j i k));
  }
  verdict_along start_fails h = λ p. h (starts.1 p)
  verdict_along (step_fails j i) h = record {
    start = starts.0 h.start;
    transition_within = subst (λ k. j < k) many h.transition_within;
    within = subst (λ k. i < k) (counts j) h.within;
    fails = λ p. h.fails ((steps j i h.transition_within).1 p);
    transitions_before = λ a k l m.
        let w = h.transition_within in
        (steps a k (omega (arith, l, w))).0 (h.transitions_before a k l (inside a k m));
    before = λ k l. (steps j k h.transition_within).0 (h.before k l);
  }

pub same_verdict : (G : Graph) → IsGraph G → (c d : Certificate) → AreOver G c → AreOver G d
    → SameCertificate c d → (v : Verdict) → IsVerdict G c v → IsVerdict G d v
same_verdict G is c d over other s = verdict_along G G c d
    (same_start c d s, same_start d c (same_certificate_sym c d s))
    (λ j i l. (
      same_step G is c d over other s j i l,
      same_step G is d c other over (same_certificate_sym c d s) j i l,
    )) refl (same_elements G is c d over other s)

-- ---- two graphs
same_transition_refl : (t : Transition) → IsSameTransition t t
same_transition_refl t = record {
  from = refl;
  to = refl;
  unknowns = refl;
  zeros = AllSame-refl ℚ t.zeros;
  images = AllSame-refl ℚ t.images;
}

same_at : (ts us : List Transition) → AreSameTransitions ts us → (j : ℕ)
    → IsSameTransition (get_or ts j no_transition) (get_or us j no_transition)
unfolding AreSameTransitions
same_at [] [] h j = same_transition_refl no_transition
same_at [] (u ∷ us) h j = absurd h
same_at (t ∷ ts) [] h j = absurd h
same_at (t ∷ ts) (u ∷ us) h zero = h.0
same_at (t ∷ ts) (u ∷ us) h (suc j) = same_at ts us h.1 j

same_many : (ts us : List Transition) → AreSameTransitions ts us → length ts ≡ length us
unfolding AreSameTransitions
same_many [] [] h = refl
same_many [] (u ∷ us) h = absurd h
same_many (t ∷ ts) [] h = absurd h
same_many (t ∷ ts) (u ∷ us) h = ap suc (same_many ts us h.1)

-- with as many unknowns
holds_same : (n k : ℕ) (gs zs us fs hs qs : List (Terms Fraction)) (p : Terms Fraction)
    → Arity n p → AllArity (k + n) fs → AllArity (k + n) hs → AllSame ℚ zs us → AllSame ℚ fs hs
    → Same ℚ (compose ℚ (k + n) p fs) (combination ℚ qs (map (in_front k) gs ++ zs))
    → Same ℚ (compose ℚ (k + n) p hs) (combination ℚ qs (map (in_front k) gs ++ us))
holds_same n k gs zs us fs hs qs p a fa ha h f i =
    Same-trans ℚ
    (same_compose ℚ_ring n (k + n) p p hs fs a a ha fa (Same-refl ℚ p) (AllSame-sym ℚ fs hs f))
    (Same-trans ℚ i
    (same_combination ℚ_ring qs qs (map (in_front k) gs ++ zs) (map (in_front k) gs ++ us)
    (AllSame-refl ℚ qs)
    (all_append (map (in_front k) gs) (map (in_front k) gs) zs us
    (AllSame-refl ℚ (map (in_front k) gs)) h)))

abbrev Holds : ℕ → Transition → Certificate → List (Terms Fraction) → ℕ → Type 0
Holds n t c qs i = Same ℚ (after n t (element c t.to i))
    (combination ℚ qs (generators t (family c)))

holds_across : (n : ℕ) (t u : Transition) (c : Certificate) (qs : List (Terms Fraction)) (i : ℕ)
    → Arity n (element c t.to i) → AllArity (t.unknowns + n) t.images
    → AllArity (u.unknowns + n) u.images → IsSameTransition t u → Holds n t c qs i
    → Holds n u c qs i
holds_across n t u c qs i a fa ha h is =
    subst (λ w. Same ℚ (compose ℚ (u.unknowns + n) (element c w i) u.images)
    (combination ℚ qs (generators u (family c)))) h.to
    (subst (λ v. Same ℚ (compose ℚ (u.unknowns + n) (element c t.to i) u.images)
    (combination ℚ qs (map (in_front u.unknowns) (family c v) ++ u.zeros))) h.from
    (subst (λ k. AllArity (k + n) u.images
    → Same ℚ (compose ℚ (k + n) (element c t.to i) u.images)
    (combination ℚ qs (map (in_front k) (family c t.from) ++ u.zeros))) h.unknowns
    (λ ua. holds_same n t.unknowns (family c t.from) t.zeros u.zeros t.images u.images qs
    (element c t.to i) a fa ua h.zeros h.images is) ha))

module _ (G H : Graph) (g : IsGraph G) (k : IsGraph H) (h : IsSameGraph G H) (c : Certificate)
    (over : AreOver G c) where
  pub same_over : AreOver H c
  same_over = record {
    arities = λ v. subst (λ n. AllArity n (family c v)) h.variables (over.arities v);
    cofactor_arities = λ j i.
        subst₂ (λ a n. AllArity (a + n) (cofactors c j i))
        (same_at G.transitions H.transitions h.transitions j).unknowns h.variables
        (over.cofactor_arities j i);
  }

  pub across_step : (j i : ℕ) → j < length G.transitions → PassesStep G c j i → PassesStep H c j i
  across_step j i l p =
      let t = transition_at G j in
      let u = transition_at H j in
      let m : j < length H.transitions =
      omega (arith, same_many G.transitions H.transitions h.transitions) in
      let ti = transition_is G g t (in_get G.transitions j no_transition l) in
      let ui = transition_is H k u (in_get H.transitions j no_transition m) in
      subst (λ n. Holds n u c (cofactors c j i) i) h.variables
      (holds_across G.variables t u c (cofactors c j i) i
      (arity_at G.variables (family c t.to) (over.arities t.to) i) ti.images
      (subst (λ n. AllArity (u.unknowns + n) u.images) (sym h.variables) ui.images)
      (same_at G.transitions H.transitions h.transitions j) p)

pub across_verdict : (G H : Graph) → IsGraph G → IsGraph H → IsSameGraph G H → (c : Certificate)
    → AreOver G c → (v : Verdict) → IsVerdict G c v → IsVerdict H c v
across_verdict G H g k h c over = verdict_along G H c c ((λ e. e), (λ e. e))
    (λ j i l. (
      across_step G H g k h c over j i l,
      across_step H G k g (same_back G H h) c (same_over G H g k h c over) j i
          (omega (arith, l, same_many G.transitions H.transitions h.transitions)),
    )) (same_many G.transitions H.transitions h.transitions)
    (λ j. ap (λ w. length (family c w))
    (same_at G.transitions H.transitions h.transitions j).to)
