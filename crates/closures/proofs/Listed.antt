-- The list of a certificate, element by element, and the rows of its cofactors.
--   others_known, others_new     one element more, that is in P or isn't
--   stand_more, stand_longer     one element more at a place, and a longer list
--   get_longer, last_at          an item of a list that more follows, and the last of one
--   stand_at                     where an element stands
--   drop_item                    an item of a list that is walked through
--   stand_within                 the places are within the list
--   AreApart ks                  the numbers differ
--   places_apart                 those of elements whose leads ascend do
--   filled ks qs row             each of the qs put at its place, one after another
--   filled_next, filled_over     one step of that, and its end
--   filled_placed                in a row of zeros that gives the placed ones
--   zeros_none                   at each place of a row of zeros stands 0
use Rattle.std.proofs.Common.{◌≡◌, ◌≢◌, inl, inr, ℕ, zero, suc, ◌+◌, ◌<◌, ◌≤◌, List, [], ◌∷◌, ◌++◌, get_or, set, drop, length, replicate, slice_get, Some, refl, sym, ap, ap₂, subst, ◌∙◌, add-one, All, arith}
use Rattle.std.proofs.lemmas.List.{drop_all}
use Rattle.std.proofs.lemmas.List.Elements.{All-cons, All-nil}
use Rattle.std.proofs.lemmas.Option.{slice_get_within}
use Rattle.std.specs.declared.cmp.Ordering.TheVariants.{Less}
use Rattle.algebra.specs.In.{In}
use Rattle.algebra.specs.Fraction.{Fraction}
use Rattle.polynomials.specs.Terms.{Terms}
use Rattle.polynomials.specs.Order.{compare, grevlex}
use Rattle.polynomials.proofs.Order.{less_irrefl}
use Rattle.polynomials.proofs.Orders.{grevlex_order}
use Rattle.machines.specs.Cut.{lead_of}
use Rattle.machines.specs.Reduced.{AllAbove, Ascends}
use Rattle.closures.specs.Certified.{put, placed, StandAt, AreOthers}

module _ (P : List (Terms Fraction)) (g : Terms Fraction) where
  pub others_known : (gs qs : List (Terms Fraction)) → AreOthers P gs qs → In g P
      → AreOthers P (gs ++ g ∷ []) qs
  unfolding AreOthers
  others_known [] qs h i = subst (λ rs. AreOthers P (g ∷ []) rs) (sym h) (i, refl)
  others_known (x ∷ gs) [] h i = (h.0, others_known gs [] h.1 i)
  others_known (x ∷ gs) (q ∷ qs) (inl h) i = inl (h.0, others_known gs (q ∷ qs) h.1 i)
  others_known (x ∷ gs) (q ∷ qs) (inr h) i = inr (h.0, h.1, others_known gs qs h.2 i)

  pub others_new : (gs qs : List (Terms Fraction)) → AreOthers P gs qs → (In g P → ⊥)
      → AreOthers P (gs ++ g ∷ []) (qs ++ g ∷ [])
  unfolding AreOthers
  others_new [] qs h n =
      subst (λ rs. AreOthers P (g ∷ []) (rs ++ g ∷ [])) (sym h) (inr (n, refl, refl))
  others_new (x ∷ gs) [] h n = inl (h.0, others_new gs [] h.1 n)
  others_new (x ∷ gs) (q ∷ qs) (inl h) n = inl (h.0, others_new gs (q ∷ qs) h.1 n)
  others_new (x ∷ gs) (q ∷ qs) (inr h) n = inr (h.0, h.1, others_new gs qs h.2 n)

  pub others_in : (gs qs : List (Terms Fraction)) → AreOthers P gs qs → In g qs → In g gs
  unfolding AreOthers
  others_in [] qs h i = absurd (subst (In g) h i)
  others_in (x ∷ gs) [] h i = absurd i
  others_in (x ∷ gs) (q ∷ qs) (inl h) i = inr (others_in gs (q ∷ qs) h.1 i)
  others_in (x ∷ gs) (q ∷ qs) (inr h) (inl e) = inl (e ∙ h.1)
  others_in (x ∷ gs) (q ∷ qs) (inr h) (inr i) = inr (others_in gs qs h.2 i)

pub get_longer : {X : Type 0} (xs ys : List X) (k : ℕ) (x : X) → slice_get xs k ≡ Some x
    → slice_get (xs ++ ys) k ≡ Some x
get_longer [] ys k x h = absurd (let f : ⊥ = cc in f)
get_longer (y ∷ xs) ys zero x h = h
get_longer (y ∷ xs) ys (suc k) x h = get_longer xs ys k x h

pub last_at : {X : Type 0} (xs : List X) (x : X) (k : ℕ) → k ≡ length xs
    → slice_get (xs ++ x ∷ []) k ≡ Some x
last_at [] x k e = ap (slice_get (x ∷ [])) e
last_at (y ∷ xs) x k e = ap (slice_get ((y ∷ xs) ++ x ∷ [])) e ∙ last_at xs x (length xs) refl

pub stand_longer : (bs cs gs : List (Terms Fraction)) (ks : List ℕ) → StandAt bs gs ks
    → StandAt (bs ++ cs) gs ks
unfolding StandAt
stand_longer bs cs [] ks s = tt
stand_longer bs cs (g ∷ gs) [] s = absurd s
stand_longer bs cs (g ∷ gs) (k ∷ ks) s = (get_longer bs cs k g s.0, stand_longer bs cs gs ks s.1)

pub stand_more : (bs gs : List (Terms Fraction)) (ks : List ℕ) (g : Terms Fraction) (k : ℕ)
    → length gs ≡ length ks → StandAt bs gs ks → slice_get bs k ≡ Some g
    → StandAt bs (gs ++ g ∷ []) (ks ++ k ∷ [])
unfolding StandAt
stand_more bs [] [] g k e s h = (h, tt)
stand_more bs [] (j ∷ ks) g k e s h = absurd (omega (arith, e))
stand_more bs (x ∷ gs) [] g k e s h = absurd s
stand_more bs (x ∷ gs) (j ∷ ks) g k e s h = (s.0, stand_more bs gs ks g k (omega (arith, e)) s.1 h)

stand_at : (bs gs : List (Terms Fraction)) (ks : List ℕ) (k : ℕ) → length gs ≡ length ks
    → StandAt bs gs ks → In k ks
    → (g : Terms Fraction) × In g gs × (slice_get bs k ≡ Some g)
unfolding StandAt
stand_at bs gs [] k e s i = absurd i
stand_at bs [] (j ∷ ks) k e s i = absurd (omega (arith, e))
stand_at bs (x ∷ gs) (j ∷ ks) k e s (inl h) = (x, inl refl, ap (slice_get bs) h ∙ s.0)
stand_at bs (x ∷ gs) (j ∷ ks) k e s (inr i) =
    let (g, n, h) = stand_at bs gs ks k (omega (arith, e)) s.1 i in (g, inr n, h)

pub stand_within : (bs gs : List (Terms Fraction)) (ks : List ℕ) → length gs ≡ length ks
    → StandAt bs gs ks → All (λ k. k < length bs) ks
unfolding StandAt
stand_within bs [] [] e s = All-nil _
stand_within bs [] (k ∷ ks) e s = absurd (omega (arith, e))
stand_within bs (g ∷ gs) [] e s = absurd s
stand_within bs (g ∷ gs) (k ∷ ks) e s =
    All-cons (λ j. j < length bs) k ks (slice_get_within bs k g s.0)
    (stand_within bs gs ks (omega (arith, e)) s.1)

-- ---- places of elements whose leads ascend
pub AreApart : List ℕ → Type 0
AreApart [] = Unit {0}
AreApart (k ∷ ks) = (In k ks → ⊥) × AreApart ks

above_in : (e : List ℕ) (gs : List (Terms Fraction)) (g : Terms Fraction) → AllAbove grevlex e gs
    → In g gs → compare grevlex e (lead_of g) ≡ Less
unfolding AllAbove
above_in e [] g a i = absurd i
above_in e (x ∷ gs) g a (inl h) = subst (λ y. compare grevlex e (lead_of y) ≡ Less) (sym h) a.0
above_in e (x ∷ gs) g a (inr i) = above_in e gs g a.1 i

some_one : {X : Type 0} (x y : X) → Some x ≡ Some y → x ≡ y
some_one x y e = cc

pub places_apart : (bs gs : List (Terms Fraction)) (ks : List ℕ) → length gs ≡ length ks
    → StandAt bs gs ks → Ascends grevlex gs → AreApart ks
unfolding StandAt Ascends AreApart
places_apart bs gs [] e s a = tt
places_apart bs [] (k ∷ ks) e s a = absurd (omega (arith, e))
places_apart bs (g ∷ gs) (k ∷ ks) e s a = (
  (λ i. let (h, n, is) = stand_at bs gs ks k (omega (arith, e)) s.1 i in
      let same : h ≡ g = some_one h g (sym is ∙ s.0) in
      less_irrefl grevlex grevlex_order (lead_of g)
      (subst (λ x. compare grevlex (lead_of g) (lead_of x) ≡ Less) same
      (above_in (lead_of g) gs h a.0 n))),
  places_apart bs gs ks (omega (arith, e)) s.1 a.1,
)

-- ---- rows
pub drop_item : {X : Type 0} (xs : List X) (i : ℕ) (x : X) → i < length xs → x ≡ get_or xs i x
    → drop i xs ≡ x ∷ drop (suc i) xs
drop_item [] i x l e = absurd (omega (arith, l))
drop_item (y ∷ xs) zero x l e = ap (λ z. z ∷ xs) (sym e)
drop_item (y ∷ xs) (suc i) x l e = drop_item xs i x (omega (arith, l)) e

pub filled : List ℕ → List (Terms Fraction) → List (Terms Fraction) → List (Terms Fraction)
filled [] qs row = row
filled (k ∷ ks) [] row = row
filled (k ∷ ks) (q ∷ qs) row = filled ks qs (set row k q)

put_put : (j k : ℕ) (p q : Terms Fraction) (row : List (Terms Fraction)) → j ≢ k
    → put j p (put k q row) ≡ put k q (put j p row)
unfolding put
put_put j k p q [] n = refl
put_put zero zero p q (r ∷ row) n = absurd (n refl)
put_put zero (suc k) p q (r ∷ row) n = refl
put_put (suc j) zero p q (r ∷ row) n = refl
put_put (suc j) (suc k) p q (r ∷ row) n =
    ap (λ xs. r ∷ xs) (put_put j k p q row (λ e. n (ap suc e)))

put_placed : (k : ℕ) (q : Terms Fraction) (ks : List ℕ) (qs row : List (Terms Fraction))
    → (In k ks → ⊥) → placed ks qs (put k q row) ≡ put k q (placed ks qs row)
unfolding placed
put_placed k q [] qs row n = refl
put_placed k q (j ∷ ks) [] row n = refl
put_placed k q (j ∷ ks) (p ∷ qs) row n =
    ap (put j p) (put_placed k q ks qs row (λ i. n (inr i)))
    ∙ put_put j k p q (placed ks qs row) (λ e. n (inl (sym e)))

set_put : (row : List (Terms Fraction)) (k : ℕ) (q : Terms Fraction) → get_or row k [] ≡ []
    → set row k q ≡ put k q row
unfolding put
set_put [] k q e = refl
set_put (r ∷ row) zero q e = ap (λ x. (x ++ q) ∷ row) (sym e)
set_put (r ∷ row) (suc k) q e = ap (λ xs. r ∷ xs) (set_put row k q e)

set_other : (row : List (Terms Fraction)) (j k : ℕ) (q : Terms Fraction) → j ≢ k
    → get_or (set row k q) j [] ≡ get_or row j []
set_other [] j k q n = refl
set_other (r ∷ row) zero zero q n = absurd (n refl)
set_other (r ∷ row) (suc j) zero q n = refl
set_other (r ∷ row) zero (suc k) q n = refl
set_other (r ∷ row) (suc j) (suc k) q n = set_other row j k q (λ e. n (ap suc e))

pub filled_next : (ks : List ℕ) (qs row : List (Terms Fraction)) (i k : ℕ) (q : Terms Fraction)
    → i < length ks → i < length qs → k ≡ get_or ks i k → q ≡ get_or qs i q
    → filled (drop i ks) (drop i qs) row
    ≡ filled (drop (i + 1) ks) (drop (i + 1) qs) (set row k q)
unfolding filled
filled_next ks qs row i k q l m e f =
    ap₂ (λ js ps. filled js ps row) (drop_item ks i k l e) (drop_item qs i q m f)
    ∙ ap (λ j. filled (drop j ks) (drop j qs) (set row k q)) (sym (add-one i))

pub filled_over : (ks : List ℕ) (qs row : List (Terms Fraction)) (i : ℕ) → length ks ≤ i
    → filled (drop i ks) (drop i qs) row ≡ row
unfolding filled
filled_over ks qs row i l = ap (λ js. filled js (drop i qs) row) (drop_all i ks l)

pub filled_placed : (ks : List ℕ) (qs row : List (Terms Fraction)) → AreApart ks
    → ((k : ℕ) → In k ks → get_or row k [] ≡ []) → filled ks qs row ≡ placed ks qs row
unfolding placed filled AreApart
filled_placed [] qs row a z = refl
filled_placed (k ∷ ks) [] row a z = refl
filled_placed (k ∷ ks) (q ∷ qs) row a z =
    filled_placed ks qs (set row k q) a.1
    (λ j i. set_other row j k q (λ e. a.0 (subst (λ x. In x ks) e i)) ∙ z j (inr i))
    ∙ ap (placed ks qs) (set_put row k q (z k (inl refl)))
    ∙ put_placed k q ks qs row a.0

abbrev pub nothing : Terms Fraction
nothing = []

pub zeros_none : (n k : ℕ) → get_or (replicate n nothing) k [] ≡ []
zeros_none zero k = refl
zeros_none (suc n) zero = refl
zeros_none (suc n) (suc k) = zeros_none n k
