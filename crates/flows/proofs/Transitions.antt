-- The transition of steps leads where the steps do.
--   map-all_zeros, map-after_all     what carries operations carries the zeros of steps and the state behind them
--   transition_is                    it is a transition
--   each-take                        what holds of each holds of the first
--   all_after_in, all_zeros_in       what the operations keep holds of the state behind steps, and of their zeros
--   zeros_at, images_at              the values of its zeros and images at values of the unknowns and a state;  steps_transition: it joins its nodes, with polynomials in these
--   length-after_all                 how many there are behind steps
--   leads_does, does_leads           it leads exactly where the steps do
use Rattle.std.proofs.Common.{◌≡◌, ℕ, zero, suc, ◌+◌, ◌<◌, List, [], ◌∷◌, ◌++◌, map, set, get_or, take, drop, length, refl, sym, ap, ap₂, subst, ◌∙◌}
use Rattle.std.proofs.lemmas.List.{map-append, take-map, drop-map, map-set, length-append, length-set}
use Rattle.std.proofs.Math.ListN.{get_or-map}
use Rattle.algebra.specs.Arithmetic.{Arithmetic}
use Rattle.algebra.specs.Each.{Each}
use Rattle.algebra.proofs.Each.{each-append, each-map, each-drop}
use Rattle.algebra.proofs.Lists.{length-back}
use Rattle.algebra.specs.Fraction.{Fraction, ℚ}
use Rattle.algebra.proofs.Fractions.{ℚ_ring}
use Rattle.polynomials.specs.Terms.{Terms, constant, variables, lists, value_at}
use Rattle.polynomials.specs.Polynomial.{Arity, AllArity}
use Rattle.polynomials.proofs.Arity.{arity-variables}
use Rattle.polynomials.proofs.ValueAt.{value_at-variables}
use Rattle.loops.specs.Program.{Expr}
use Rattle.loops.specs.Effect.{store, value_of}
use Rattle.loops.proofs.Effects.{Closed, value_in, Carries, to-value_of, length-store}
use Rattle.loops.proofs.Substitution.{map_store}
use Rattle.loops.proofs.Maps.{arity_closed, value_at_carries, length-variables}
use Rattle.flows.specs.Graph.{IsTransition, Leads}
use Rattle.flows.specs.Steps.{Step, assign, choose, equal, differ, DoesAll}
use Rattle.flows.specs.Paths.{less, unknowns, all_unknowns, inverse_zeros, side_less, zeros_of, after_step, all_zeros, after_all, transition}
use Rattle.flows.proofs.Steps.{all_with, all_by, parted}

-- ---- lists
unmap_each : {A B : Type 0} (P : B → Type 0) (f : A → B) (xs : List A) → Each P (map f xs)
    → Each (λ x. P (f x)) xs
unfolding Each
unmap_each P f [] h = tt
unmap_each P f (x ∷ xs) h = (h.0, unmap_each P f xs h.1)

module _ {A : Type 0} (P : A → Type 0) where
  each-set : (s : List A) (i : ℕ) (x : A) → Each P s → P x → Each P (set s i x)
  unfolding Each
  each-set [] i x h p = tt
  each-set (y ∷ s) zero x h p = (p, h.1)
  each-set (y ∷ s) (suc i) x h p = (h.0, each-set s i x h.1 p)

  each-store : (is : List ℕ) (xs s : List A) → Each P xs → Each P s → Each P (store is xs s)
  unfolding Each store
  each-store [] xs s h k = k
  each-store (i ∷ is) [] s h k = k
  each-store (i ∷ is) (x ∷ xs) s h k = each-store is xs (set s i x) h.1 (each-set s i x k h.0)

  pub each-take : (n : ℕ) (xs : List A) → Each P xs → Each P (take n xs)
  unfolding Each
  each-take zero xs h = tt
  each-take (suc n) [] h = tt
  each-take (suc n) (x ∷ xs) h = (h.0, each-take n xs h.1)

  each-get : (xs : List A) (i : ℕ) (d : A) → Each P xs → P d → P (get_or xs i d)
  unfolding Each
  each-get [] i d h p = p
  each-get (x ∷ xs) zero d h p = h.0
  each-get (x ∷ xs) (suc i) d h p = each-get xs i d h.1 p

-- ---- what carries operations
module _ {A B : Type 0} (N : Arithmetic A) (M : Arithmetic B) (of : Fraction → A)
    (on : Fraction → B) (f : A → B) (c : Carries N M of on f) where
  to-less : (x y : A) → f (less N x y) ≡ less M (f x) (f y)
  to-less x y = c.to-add x (N.neg y) ∙ ap (M.add (f x)) (c.to-neg y)

  to-inverse : (x y : A) → f (less N (N.mul y x) N.one) ≡ less M (M.mul (f y) (f x)) M.one
  to-inverse x y = to-less (N.mul y x) N.one ∙ ap₂ (less M) (c.to-mul y x) c.to-one

  module _ {At : Type 0} where
    to-value : (s : List A) (e : Expr At) → f (value_of N of s e) ≡ value_of M on (map f s) e
    to-value s e = to-value_of N M of on f c s e

    pub to-side : (s : List A) (d e : Expr At) → f (side_less N of s d e)
        ≡ side_less M on (map f s) d e
    to-side s d e =
        to-less (value_of N of s d) (value_of N of s e)
        ∙ ap₂ (less M) (to-value s d) (to-value s e)

    map-values : (s : List A) (es : List (Expr At)) → map f (map (value_of N of s) es)
        ≡ map (value_of M on (map f s)) es
    map-values s [] = refl
    map-values s (e ∷ es) = ap₂ ◌∷◌ (to-value s e) (map-values s es)

    map-inverse_zeros : (ds : List (Expr At)) (ys s : List A)
        → map f (inverse_zeros N of ds ys s) ≡ inverse_zeros M on ds (map f ys) (map f s)
    unfolding inverse_zeros
    map-inverse_zeros [] ys s = refl
    map-inverse_zeros (d ∷ ds) [] s = refl
    map-inverse_zeros (d ∷ ds) (y ∷ ys) s =
        ap₂ ◌∷◌ (to-inverse (value_of N of s d) y
        ∙ ap (λ x. less M (M.mul (f y) x) M.one) (to-value s d))
        (map-inverse_zeros ds ys (s ++ y ∷ [])
        ∙ ap (inverse_zeros M on ds (map f ys)) (map-append f s (y ∷ [])))

    map-zeros_of : (g : Step (Expr At)) (ys s : List A)
        → map f (zeros_of N of g ys s) ≡ zeros_of M on g (map f ys) (map f s)
    unfolding zeros_of
    map-zeros_of (assign ds is es) ys s = map-inverse_zeros ds ys s
    map-zeros_of (choose i) ys s = refl
    map-zeros_of (equal d e) ys s = ap (λ x. x ∷ []) (to-side s d e)
    map-zeros_of (differ d e) ys s =
        ap (λ x. x ∷ []) (to-inverse (side_less N of s d e) (get_or ys 0 N.zero)
        ∙ ap₂ (λ u x. less M (M.mul u x) M.one)
        (sym (get_or-map f ys 0 N.zero) ∙ ap (get_or (map f ys) 0) c.to-zero) (to-side s d e))

    map-after_step : (g : Step (Expr At)) (ys s : List A)
        → map f (after_step N of g ys s) ≡ after_step M on g (map f ys) (map f s)
    unfolding after_step
    map-after_step (assign ds is es) ys s =
        map_store f is (map (value_of N of (s ++ ys)) es) s
        ∙ ap (λ xs. store is xs (map f s)) (map-values (s ++ ys) es
        ∙ ap (λ t. map (value_of M on t) es) (map-append f s ys))
    map-after_step (choose i) ys s =
        map-set f s i (get_or ys 0 N.zero)
        ∙ ap (set (map f s) i) (sym (get_or-map f ys 0 N.zero) ∙ ap (get_or (map f ys) 0) c.to-zero)
    map-after_step (equal d e) ys s = refl
    map-after_step (differ d e) ys s = refl

    pub map-after_all : (cs : List (Step (Expr At))) (ys s : List A)
        → map f (after_all N of cs ys s) ≡ after_all M on cs (map f ys) (map f s)
    unfolding after_all
    map-after_all [] ys s = refl
    map-after_all (g ∷ cs) ys s =
        map-after_all cs (drop (unknowns g) ys) (after_step N of g (take (unknowns g) ys) s)
        ∙ ap₂ (after_all M on cs) (sym (drop-map f (unknowns g) ys))
        (map-after_step g (take (unknowns g) ys) s
        ∙ ap (λ xs. after_step M on g xs (map f s)) (sym (take-map f (unknowns g) ys)))

    pub map-all_zeros : (cs : List (Step (Expr At))) (ys s : List A)
        → map f (all_zeros N of cs ys s) ≡ all_zeros M on cs (map f ys) (map f s)
    unfolding all_zeros
    map-all_zeros [] ys s = refl
    map-all_zeros (g ∷ cs) ys s =
        let xs = take (unknowns g) ys in
        map-append f (zeros_of N of g xs s)
        (all_zeros N of cs (drop (unknowns g) ys) (after_step N of g xs s))
        ∙ ap₂ ◌++◌ (map-zeros_of g xs s
        ∙ ap (λ us. zeros_of M on g us (map f s)) (sym (take-map f (unknowns g) ys)))
        (map-all_zeros cs (drop (unknowns g) ys) (after_step N of g xs s)
        ∙ ap₂ (all_zeros M on cs) (sym (drop-map f (unknowns g) ys))
        (map-after_step g xs s
        ∙ ap (λ us. after_step M on g us (map f s)) (sym (take-map f (unknowns g) ys))))

-- ---- what operations keep
module _ {A : Type 0} (N : Arithmetic A) (of : Fraction → A) (P : A → Type 0)
    (k : Closed N of P) where
  less_in : (x y : A) → P x → P y → P (less N x y)
  less_in x y p q = k.add_in x (N.neg y) p (k.neg_in y q)

  module _ {At : Type 0} where
    values_in : (s : List A) → Each P s → (es : List (Expr At)) → Each P (map (value_of N of s) es)
    unfolding Each
    values_in s h [] = tt
    values_in s h (e ∷ es) = (value_in N of P k s h e, values_in s h es)

    inverse_zeros_in : (ds : List (Expr At)) (ys s : List A) → Each P ys → Each P s
        → Each P (inverse_zeros N of ds ys s)
    unfolding Each inverse_zeros
    inverse_zeros_in [] ys s h i = tt
    inverse_zeros_in (d ∷ ds) [] s h i = tt
    inverse_zeros_in (d ∷ ds) (y ∷ ys) s h i = (
      less_in _ _ (k.mul_in y _ h.0 (value_in N of P k s i d)) k.one_in,
      inverse_zeros_in ds ys (s ++ y ∷ []) h.1 (each-append P s (y ∷ []) i (h.0, tt)),
    )

    pub side_in : (s : List A) → Each P s → (d e : Expr At) → P (side_less N of s d e)
    side_in s h d e = less_in _ _ (value_in N of P k s h d) (value_in N of P k s h e)

    zeros_in : (g : Step (Expr At)) (ys s : List A) → Each P ys → Each P s
        → Each P (zeros_of N of g ys s)
    unfolding Each zeros_of
    zeros_in (assign ds is es) ys s h i = inverse_zeros_in ds ys s h i
    zeros_in (choose j) ys s h i = tt
    zeros_in (equal d e) ys s h i = (side_in s i d e, tt)
    zeros_in (differ d e) ys s h i = (
      less_in _ _ (k.mul_in _ _ (each-get P ys 0 N.zero h k.zero_in) (side_in s i d e)) k.one_in,
      tt,
    )

    after_in : (g : Step (Expr At)) (ys s : List A) → Each P ys → Each P s
        → Each P (after_step N of g ys s)
    unfolding after_step
    after_in (assign ds is es) ys s h i =
        each-store P is _ s (values_in (s ++ ys) (each-append P s ys i h) es) i
    after_in (choose j) ys s h i = each-set P s j _ i (each-get P ys 0 N.zero h k.zero_in)
    after_in (equal d e) ys s h i = i
    after_in (differ d e) ys s h i = i

    pub all_after_in : (cs : List (Step (Expr At))) (ys s : List A) → Each P ys → Each P s
        → Each P (after_all N of cs ys s)
    unfolding after_all
    all_after_in [] ys s h i = i
    all_after_in (g ∷ cs) ys s h i =
        all_after_in cs (drop (unknowns g) ys) _ (each-drop P (unknowns g) ys h)
        (after_in g (take (unknowns g) ys) s (each-take P (unknowns g) ys h) i)

    pub all_zeros_in : (cs : List (Step (Expr At))) (ys s : List A) → Each P ys → Each P s
        → Each P (all_zeros N of cs ys s)
    unfolding Each all_zeros
    all_zeros_in [] ys s h i = tt
    all_zeros_in (g ∷ cs) ys s h i =
        let xs = take (unknowns g) ys in
        let xh = each-take P (unknowns g) ys h in
        each-append P (zeros_of N of g xs s)
        (all_zeros N of cs (drop (unknowns g) ys) (after_step N of g xs s))
        (zeros_in g xs s xh i)
        (all_zeros_in cs (drop (unknowns g) ys) (after_step N of g xs s)
        (each-drop P (unknowns g) ys h) (after_in g xs s xh i))

-- ---- lengths
module _ {A At : Type 0} (N : Arithmetic A) (of : Fraction → A) where
  length-step : (g : Step (Expr At)) (ys s : List A) → length (after_step N of g ys s) ≡ length s
  unfolding after_step
  length-step (assign ds is es) ys s = length-store is _ s
  length-step (choose i) ys s = length-set s i _
  length-step (equal d e) ys s = refl
  length-step (differ d e) ys s = refl

  pub length-after_all : (cs : List (Step (Expr At))) (ys s : List A)
      → length (after_all N of cs ys s) ≡ length s
  unfolding after_all
  length-after_all [] ys s = refl
  length-after_all (g ∷ cs) ys s =
      length-after_all cs (drop (unknowns g) ys) (after_step N of g (take (unknowns g) ys) s)
      ∙ length-step g (take (unknowns g) ys) s

-- ---- the transition
module _ {At : Type 0} (n u w : ℕ) (cs : List (Step (Expr At))) where
  abbrev pub a : ℕ
  a = all_unknowns cs

  abbrev pub m : ℕ
  m = a + n

  abbrev xs : List (Terms Fraction)
  xs = variables ℚ m

  front_arity : AllArity m (take a xs)
  front_arity = each-take (Arity m) a xs (arity-variables m ℚ)

  back_arity : AllArity m (drop a xs)
  back_arity = each-drop (Arity m) a xs (arity-variables m ℚ)

  pub steps_transition : (k : ℕ) → u < k → w < k → IsTransition n k (transition n u w cs)
  steps_transition k f t = record {
    from_node = f;
    to_node = t;
    zeros =
        all_zeros_in (lists ℚ m) (constant m) (Arity m) (arity_closed m) cs (take a xs)
        (drop a xs) front_arity back_arity;
    images =
        all_after_in (lists ℚ m) (constant m) (Arity m) (arity_closed m) cs (take a xs)
        (drop a xs) front_arity back_arity;
    count =
        length-after_all (lists ℚ m) (constant m) cs (take a xs) (drop a xs)
        ∙ length-back a n xs (length-variables m);
  }

  module _ (s : List Fraction) (l : length s ≡ n) (x : List Fraction) (k : length x ≡ a) where
    abbrev pub at : Terms Fraction → Fraction
    at p = value_at ℚ p (x ++ s)

    whole : map at xs ≡ x ++ s
    whole = value_at-variables ℚ_ring m (x ++ s) (length-append x s ∙ ap₂ ◌+◌ k l)

    front : map at (take a xs) ≡ x
    front = sym (take-map at a xs) ∙ ap (take a) whole ∙ (parted x s a k).0

    back : map at (drop a xs) ≡ s
    back = sym (drop-map at a xs) ∙ ap (drop a) whole ∙ (parted x s a k).1

    pub zeros_at : map at (transition n u w cs).zeros ≡ all_zeros ℚ (λ c. c) cs x s
    zeros_at =
        map-all_zeros (lists ℚ m) ℚ (constant m) (λ c. c) at (value_at_carries m (x ++ s)) cs
        (take a xs) (drop a xs)
        ∙ ap₂ (all_zeros ℚ (λ c. c) cs) front back

    pub images_at : map at (transition n u w cs).images ≡ after_all ℚ (λ c. c) cs x s
    images_at =
        map-after_all (lists ℚ m) ℚ (constant m) (λ c. c) at (value_at_carries m (x ++ s)) cs
        (take a xs) (drop a xs)
        ∙ ap₂ (after_all ℚ (λ c. c) cs) front back

  pub leads_does : (s z : List Fraction) → length s ≡ n → Leads (transition n u w cs) s z
      → DoesAll cs s z
  leads_does s z l h =
      all_by cs s z (record {
        values = h.values;
        count = h.count;
        null =
            subst (Each (λ x. x ≡ ℚ.zero)) (zeros_at s l h.values h.count)
            (each-map (λ x. x ≡ ℚ.zero) (λ p. value_at ℚ p (h.values ++ s))
            (transition n u w cs).zeros h.zeros);
        is = h.is ∙ images_at s l h.values h.count;
      })

  pub does_leads : (s z : List Fraction) → length s ≡ n → DoesAll cs s z
      → Leads (transition n u w cs) s z
  does_leads s z l h =
      let g = all_with cs s z h in
      record {
        values = g.values;
        count = g.count;
        zeros =
            unmap_each (λ x. x ≡ ℚ.zero) (λ p. value_at ℚ p (g.values ++ s))
            (transition n u w cs).zeros
            (subst (Each (λ x. x ≡ ℚ.zero)) (sym (zeros_at s l g.values g.count)) g.null);
        is = g.is ∙ sym (images_at s l g.values g.count);
      }
