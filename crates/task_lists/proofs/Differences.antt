-- The list of a graph, as the code makes it.
--   any_here, any_later          of one, or one of the others
--   pushed, along                one polynomial more; lists that go on
--   drop_variable                the variables from one on
--   composed_stands, difference_stands, past_sum      a composition, and a variable less one
--   composed_next, past_composed_next     the elements at what was
--   images_are                   what stands for the variables of a form
--   less_none, differences_next, past_difference_here, past_difference_next     each variable less its form
--   images_count, graph_rest, past_graph     the whole list
--   copy_next, told_next     what the variables were
use Rattle.std.proofs.Common.{◌≡◌, ◌⊎◌, inl, inr, ℕ, suc, ◌+◌, ◌-◌, ◌<◌, ◌≤◌, true, false, Bool, List, [], ◌∷◌, ◌++◌, map, take, drop, get_or, length, All, arith, refl, sym, ap, ap₂, subst, ◌∙◌, drop-cons, append_assoc}
use Rattle.std.specs.List.{Any}
use Rattle.std.proofs.lemmas.List.{append-nil, length-append, length-map, length-take, map-append}
use Rattle.algebra.proofs.Lists.{length-front, take_next}
use Rattle.algebra.specs.Fraction.{Fraction, ℚ, fractions, rationals}
use Rattle.algebra.proofs.Fractions.{ℚ_ring, ℚ_field}
use Rattle.polynomials.specs.Order.{grevlex}
use Rattle.polynomials.specs.Terms.{Terms, Same, variables, negate, compose}
use Rattle.polynomials.specs.Weight.{IsPastComposition, IsPastSum}
use Rattle.polynomials.proofs.Arity.{arity-compose}
use Rattle.polynomials.proofs.Orders.{grevlex_order}
use Rattle.polynomials.proofs.Same.{same_append, same_negate, Same-refl, Same-trans}
use Rattle.machines.specs.Collect.{collect}
use Rattle.machines.proofs.Collecting.{collect-is}
use Rattle.loops.proofs.Maps.{length-variables}
use Rattle.poly.specs.Seen.{arity_of, terms_in, terms_each, Is}
use Rattle.poly.specs.Standing.{IsInVariables, StandsFor, AllStandFor}
use Rattle.poly.proofs.Standing.{arities_over, first_arity, polynomial_over, stands_push}
use Rattle.rounds.specs.Form.{variable_at}
use Rattle.rounds.specs.Graph.{images_behind, less, at_before}
use Rattle.rounds.specs.Past.{IsPastLess, IsPastGraph}
use Rattle.loop_model.specs.FracPoly.{FracPoly}
use Rattle.task_lists.specs.Shapes.{passers, before_in}

-- ---- lists
pub any_here : {X : Type 0} (P : X → Type 0) (x : X) (xs : List X) → P x → Any P (x ∷ xs)
any_here P x xs p = (0, x, omega arith, refl, p)

pub any_later : {X : Type 0} (P : X → Type 0) (x : X) (xs : List X) → Any P xs → Any P (x ∷ xs)
any_later P x xs (i, y, l, e, p) = (suc i, y, omega (arith, l), e, p)

pub pushed : (w : ℕ) (olds : List FracPoly) {news : List FracPoly} {p : FracPoly}
    (qs : List (Terms Fraction)) (q : Terms Fraction)
    → news ≡ olds ++ p ∷ [] → AllStandFor w olds qs → StandsFor w p q
    → AllStandFor w news (qs ++ q ∷ [])
pushed w olds {p = p} qs q e a s = subst (λ ps. AllStandFor w ps (qs ++ q ∷ [])) (sym e)
    (stands_push w olds qs p q a s)

pub along : (w : ℕ) (news : List FracPoly) (qs rest : List (Terms Fraction)) (q : Terms Fraction)
    → AllStandFor w news ((qs ++ q ∷ []) ++ rest) → AllStandFor w news (qs ++ q ∷ rest)
along w news qs rest q a = subst (AllStandFor w news) (append_assoc qs (q ∷ []) rest) a

pub nothing_more : (w : ℕ) (ps : List FracPoly) (qs rest : List (Terms Fraction)) → rest ≡ []
    → AllStandFor w ps qs → AllStandFor w ps (qs ++ rest)
nothing_more w ps qs rest e a = subst (AllStandFor w ps) (sym (ap (λ r. qs ++ r) e
    ∙ append-nil qs)) a

pub drop_variable : (w n : ℕ) → n < w
    → drop n (variables ℚ w) ≡ variable_at w n ∷ drop (suc n) (variables ℚ w)
drop_variable w n l = drop-cons (variables ℚ w) n [] (let e = length-variables w in
    omega (arith, e, l))

-- ---- a composition, and a variable less one
module _ (w : ℕ) (images : List FracPoly) (over : All (IsInVariables w) images)
    (some : 0 < length images) (g : FracPoly) {p : FracPoly} (is : Is g.order (arity_of images)
    (compose ℚ (arity_of images) (terms_in g) (terms_each images)) p) where
  first : arity_of images ≡ w
  first = first_arity w images over some

  pub composed_stands : StandsFor w p (compose ℚ w (terms_in g) (terms_each images))
  composed_stands = record {
    order = refl;
    arity = is.arity ∙ first;
    same = subst (λ n. Same ℚ (terms_in p) (compose ℚ n (terms_in g) (terms_each images))) first
        is.same;
  }

  pub composed_collected : terms_in p ≡ collect rationals grevlex (compose ℚ w (terms_in g)
      (terms_each images))
  composed_collected = collect-is ℚ_field grevlex grevlex_order w _ (terms_in p)
      (arity-compose w ℚ (terms_in g) (terms_each images) (arities_over w images over))
      (polynomial_over w p composed_stands.arity) composed_stands.same

module _ {w : ℕ} (variable : FracPoly) {image : FracPoly} (p : FracPoly) (x y : Terms Fraction)
    (terms : terms_in variable ≡ x) (size : variable.arity ≡ w) (stands : StandsFor w image y) where
  pub difference_stands : Is variable.order variable.arity (terms_in variable
      ++ negate ℚ (terms_in image)) p → StandsFor w p (x ++ negate ℚ y)
  difference_stands is = record {
    order = refl;
    arity = is.arity ∙ size;
    same = Same-trans ℚ is.same (same_append ℚ_ring
        (subst (λ z. Same ℚ (terms_in variable) z) terms (Same-refl ℚ (terms_in variable)))
        (same_negate ℚ_ring stands.same));
  }

pub variable_stands : (w i : ℕ) (p : FracPoly) → terms_in p ≡ variable_at w i → p.arity ≡ w
    → StandsFor w p (variable_at w i)
variable_stands w i p e a = record {
  order = refl;
  arity = a;
  same = subst (Same ℚ (terms_in p)) e (Same-refl ℚ (terms_in p));
}

pub past_sum : (variable image : FracPoly) (x y : Terms Fraction) → terms_in variable ≡ x
    → terms_in image ≡ y → IsPastSum fractions (terms_in variable) (terms_in image)
    → IsPastSum fractions x y
past_sum variable image x y e f p = subst (λ z. IsPastSum fractions z y) e
    (subst (λ z. IsPastSum fractions (terms_in variable) z) f p)

-- ---- the elements at what was
pub composed_next : (F : Terms Fraction → Terms Fraction) (gs : List FracPoly) (i : ℕ)
    (g : FracPoly) → i < length gs → g ≡ get_or gs i g → (qs : List (Terms Fraction))
    → (qs ++ map F (terms_each (take i gs))) ++ F (terms_in g) ∷ []
    ≡ qs ++ map F (terms_each (take (i + 1) gs))
composed_next F gs i g l is qs =
    append_assoc qs (map F (terms_each (take i gs))) (F (terms_in g) ∷ [])
    ∙ ap (λ ts. qs ++ ts) (sym (ap (map F) (take_next terms_in gs i g l is)
    ∙ map-append F (terms_each (take i gs)) (terms_in g ∷ [])))

module _ (w : ℕ) (images : List (Terms Fraction)) (gs rest : List FracPoly) (g : FracPoly)
    (is : gs ≡ g ∷ rest) where
  abbrev at : Terms Fraction → Terms Fraction
  at t = compose ℚ w t images

  pub past_composed_here : IsPastComposition fractions (terms_in g) images
      → Any (λ t. IsPastComposition fractions t images) (terms_each gs)
  past_composed_here p = subst (λ l. Any (λ t. IsPastComposition fractions t images)
      (terms_each l)) (sym is)
      (any_here (λ t. IsPastComposition fractions t images) (terms_in g) (terms_each rest) p)

  pub past_composed_later : Any (λ t. IsPastComposition fractions t images) (terms_each rest)
      → Any (λ t. IsPastComposition fractions t images) (terms_each gs)
  past_composed_later p = subst (λ l. Any (λ t. IsPastComposition fractions t images)
      (terms_each l)) (sym is)
      (any_later (λ t. IsPastComposition fractions t images) (terms_in g) (terms_each rest) p)

-- ---- each variable less its form
pub less_none : (xs : List (Terms Fraction)) (fs : List FracPoly) (F : Terms Fraction
    → Terms Fraction) → length fs ≡ 0 → less xs (map F (terms_each fs)) ≡ []
less_none [] [] F e = refl
less_none (x ∷ xs) [] F e = refl
less_none xs (f ∷ fs) F e = absurd (omega (arith, e))

module _ (w n m : ℕ) (l : n < w) (next : m ≡ suc n) (fs rest : List FracPoly) (f : FracPoly)
    (is : fs ≡ f ∷ rest) where
  module _ (F : Terms Fraction → Terms Fraction) where
    less_is : less (drop n (variables ℚ w)) (map F (terms_each fs)) ≡ (variable_at w n
        ++ negate ℚ (F (terms_in f))) ∷ less (drop m (variables ℚ w)) (map F (terms_each rest))
    less_is = ap₂ (λ xs l. less xs (map F (terms_each l))) (drop_variable w n l) is
        ∙ ap (λ j. (variable_at w n ++ negate ℚ (F (terms_in f))) ∷ less (drop j (variables ℚ w))
        (map F (terms_each rest))) (sym next)

    pub differences_next : (news : List FracPoly) (qs : List (Terms Fraction))
        → AllStandFor w news ((qs ++ (variable_at w n ++ negate ℚ (F (terms_in f))) ∷ [])
        ++ less (drop m (variables ℚ w)) (map F (terms_each rest)))
        → AllStandFor w news (qs ++ less (drop n (variables ℚ w)) (map F (terms_each fs)))
    differences_next news qs a = subst (λ l. AllStandFor w news (qs ++ l)) (sym less_is)
        (along w news qs _ _ a)

    past_is : IsPastLess (drop n (variables ℚ w)) (map F (terms_each fs))
        ≡ (IsPastSum fractions (variable_at w n) (F (terms_in f))
        ⊎ IsPastLess (drop m (variables ℚ w)) (map F (terms_each rest)))
    past_is = ap₂ (λ xs l. IsPastLess xs (map F (terms_each l))) (drop_variable w n l) is
        ∙ ap (λ j. IsPastSum fractions (variable_at w n) (F (terms_in f))
        ⊎ IsPastLess (drop j (variables ℚ w)) (map F (terms_each rest))) (sym next)

  module _ (images : List (Terms Fraction)) where
    abbrev F : Terms Fraction → Terms Fraction
    F t = collect rationals grevlex (compose ℚ w t images)

    pub past_difference_here : IsPastComposition fractions (terms_in f) images
        ⊎ IsPastSum fractions (variable_at w n) (collect rationals grevlex
        (compose ℚ w (terms_in f) images))
        → Any (λ t. IsPastComposition fractions t images) (terms_each fs)
        ⊎ IsPastLess (drop n (variables ℚ w)) (map (λ t. collect rationals grevlex
        (compose ℚ w t images)) (terms_each fs))
    past_difference_here (inl p) = inl (past_composed_here w images fs rest f is p)
    past_difference_here (inr p) = inr (subst (λ T. T) (sym (past_is F)) (inl p))

    pub past_difference_later : Any (λ t. IsPastComposition fractions t images) (terms_each rest)
        ⊎ IsPastLess (drop m (variables ℚ w)) (map (λ t. collect rationals grevlex
        (compose ℚ w t images)) (terms_each rest))
        → Any (λ t. IsPastComposition fractions t images) (terms_each fs)
        ⊎ IsPastLess (drop n (variables ℚ w)) (map (λ t. collect rationals grevlex
        (compose ℚ w t images)) (terms_each fs))
    past_difference_later (inl p) = inl (past_composed_later w images fs rest f is p)
    past_difference_later (inr p) = inr (subst (λ T. T) (sym (past_is F)) (inr p))

-- ---- the whole list
pub images_count : (k m w : ℕ) (images before : List FracPoly) → k ≤ w → length before ≡ m
    → terms_each images ≡ images_behind k w (terms_each before) → length images ≡ k + m
images_count k m w images before l c e =
    let a = ap length e in
    let b = length-append (take k (variables ℚ w)) (terms_each before) in
    let d = length-map images terms_in in
    let f = length-map before terms_in in
    let g = length-take k (variables ℚ w) in
    let h = length-variables w in
    let i : length (take k (variables ℚ w)) ≡ k = length-front k (w - k) (variables ℚ w)
    (omega (arith, h, l)) in
    omega (arith, a, b, c, d, f, i)

module _ (k t m : ℕ) {images : List (Terms Fraction)} (before : List (Terms Fraction))
    (are : images ≡ images_behind k (k + t + m) before) where
  last_is : k + t + 0 ≡ k + t
  last_is = omega arith

  pub graph_rest : (fs : List (Terms Fraction))
      → less (drop (k + t + 0) (variables ℚ (k + t + m))) (map (λ f. compose ℚ (k + t + m) f images)
      fs) ≡ less (drop (k + t) (variables ℚ (k + t + m))) (map (at_before k t m before) fs) ++ []
  graph_rest fs =
      ap (λ i. less (drop (k + t + 0) (variables ℚ (k + t + m)))
      (map (λ f. compose ℚ (k + t + m) f i) fs)) are
      ∙ ap (λ n. less (drop n (variables ℚ (k + t + m))) (map (at_before k t m before) fs)) last_is
      ∙ sym (append-nil _)

  pub past_graph : (fs gs : List (Terms Fraction))
      → Any (λ f. IsPastComposition fractions f images) fs
      ⊎ IsPastLess (drop (k + t + 0) (variables ℚ (k + t + m)))
      (map (λ f. collect rationals grevlex (compose ℚ (k + t + m) f images)) fs)
      → IsPastGraph k t m before fs gs
  past_graph fs gs (inl p) = inr (inl (subst (λ i. Any (λ f. IsPastComposition fractions f i) fs)
      are p))
  past_graph fs gs (inr p) =
      inr (inr (subst (λ n. IsPastLess (drop n (variables ℚ (k + t + m)))
      (map (λ f. collect rationals grevlex (at_before k t m before f)) fs)) last_is
      (subst (λ i. IsPastLess (drop (k + t + 0) (variables ℚ (k + t + m)))
      (map (λ f. collect rationals grevlex (compose ℚ (k + t + m) f i)) fs)) are p)))

-- ---- what the variables were
module _ (w k : ℕ) (wide : Terms Fraction → Terms Fraction) where
  module _ {bs others : List Bool} {b : Bool} (is : bs ≡ b ∷ others) {ps rest : List FracPoly}
      {p : FracPoly} (are : ps ≡ p ∷ rest) (j i : ℕ) (news : List FracPoly)
      (qs : List (Terms Fraction)) where
    pub copy_next : b ≡ true → i ≡ suc j → AllStandFor w news ((qs ++ variable_at w (k + j) ∷ [])
        ++ before_in w k others i (map wide (terms_each rest)))
        → AllStandFor w news (qs ++ before_in w k bs j (map wide (terms_each ps)))
    copy_next t e a =
        let here : before_in w k bs j (map wide (terms_each ps)) ≡ variable_at w (k + j)
        ∷ before_in w k others i (map wide (terms_each rest)) =
        ap₂ (λ x l. before_in w k x j (map wide (terms_each l))) (is ∙ ap (λ c. c ∷ others) t) are
        ∙ ap (λ n. variable_at w (k + j) ∷ before_in w k others n (map wide (terms_each rest)))
        (sym e) in
        subst (λ l. AllStandFor w news (qs ++ l)) (sym here) (along w news qs _ _ a)

    pub told_next : b ≡ false → AllStandFor w news ((qs ++ wide (terms_in p) ∷ [])
        ++ before_in w k others j (map wide (terms_each rest)))
        → AllStandFor w news (qs ++ before_in w k bs j (map wide (terms_each ps)))
    told_next f a =
        let here : before_in w k bs j (map wide (terms_each ps)) ≡ wide (terms_in p)
        ∷ before_in w k others j (map wide (terms_each rest)) =
        ap₂ (λ x l. before_in w k x j (map wide (terms_each l))) (is ∙ ap (λ c. c ∷ others) f)
        are in
        subst (λ l. AllStandFor w news (qs ++ l)) (sym here) (along w news qs _ _ a)

pub passers_next : {bs : List Bool} (others : List Bool) {b : Bool} → bs ≡ b ∷ others → b ≡ true
    → passers bs ≡ suc (passers others)
passers_next others is t = ap passers (is ∙ ap (λ c. c ∷ others) t)

pub passers_same : {bs : List Bool} (others : List Bool) {b : Bool} → bs ≡ b ∷ others → b ≡ false
    → passers bs ≡ passers others
passers_same others is f = ap passers (is ∙ ap (λ c. c ∷ others) f)

pub tail_over : (m : ℕ) {ps rest : List FracPoly} {p : FracPoly} → ps ≡ p ∷ rest
    → All (IsInVariables m) ps → All (IsInVariables m) rest
tail_over m e all = λ k d l. subst (λ r. All (IsInVariables m) r) e all (suc k) d
    (omega (arith, l))

pub all_at : (P : FracPoly → Type 0) (ps : List FracPoly) (i : ℕ) (p : FracPoly) → i < length ps
    → p ≡ get_or ps i p → All P ps → P p
all_at P ps i p l is all = subst P (sym is) (all i p l)
