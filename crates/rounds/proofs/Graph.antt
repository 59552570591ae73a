-- The graph of what was and what is gives an orbit by elimination: the law of a round where iterations can't be undone.
--   graph_gives_orbit      what is left of the graph's list, where the numbers and copies in front are eliminated, is the orbit's
--   each-take              a fact of each polynomial is one of the first ones
use Rattle.std.proofs.Common.{◌≡◌, ℕ, zero, suc, ◌+◌, ◌<◌, List, [], ◌∷◌, ◌++◌, map, get_or, take, drop, replicate, length, arith, refl, sym, ap, ap₂, subst, ◌∙◌, All, append_assoc}
use Rattle.std.proofs.lemmas.List.{length-map, length-append, map-append, drop_at, length-drop}
use Rattle.std.proofs.lemmas.List.Elements.{All-head, All-tail}
use Rattle.algebra.specs.Each.{Each}
use Rattle.algebra.specs.Sum.{sum_over}
use Rattle.algebra.proofs.Each.{each-append, each-left, each-right, each-map, each_of}
use Rattle.algebra.proofs.Lists.{length-front}
use Rattle.algebra.proofs.RingSolver.{ring, ring_rules}
use Rattle.algebra.specs.Fraction.{Fraction, ℚ}
use Rattle.algebra.proofs.Fractions.{ℚ_ring}
use Rattle.polynomials.specs.Terms.{Terms, Same, AllSame, constant, variables, negate, compose, evaluate}
use Rattle.polynomials.specs.Polynomial.{Arity, AllArity}
use Rattle.polynomials.proofs.Arity.{arity-append, arity-negate, arity-compose, arity-constants, arity-variables}
use Rattle.polynomials.proofs.ByValues.{same_by_values}
use Rattle.polynomials.proofs.Same.{Same-sym}
use Rattle.polynomials.proofs.ValueAt.{value_at-append, value_at-negate, value_at-compose, values_at-constants, value_at-variables}
use Rattle.ideals.specs.Members.{IsMember}
use Rattle.ideals.proofs.FractionMembers.{member_same, member_nil, member_at, member_append, member_turned}
use Rattle.machines.specs.Elimination.{in_front}
use Rattle.machines.proofs.Padding.{at, arity-pad, arity-padded, inner-is, inner_arity, inner_at, in_front_at, compose-inner}
use Rattle.loops.specs.Program.{Expr, Program}
use Rattle.loops.specs.Run.{IsState}
use Rattle.loops.proofs.Maps.{length-variables}
use Rattle.rounds.specs.Word.{after_word}
use Rattle.rounds.specs.Orbit.{state_after, IsPoints, IsFormAt, at_point, Padded, IsIndependent, IsEliminated}
use Rattle.rounds.specs.Round.{IsOrbitAt}
use Rattle.rounds.proofs.Orbit.{value_turned, value_at_point, arity-at_point}
use Rattle.rounds.proofs.BranchIterations.{turned_keeps}
use Rattle.rounds.proofs.Word.{arity-after_word}
use Rattle.rounds.specs.Graph.{IsBefore, images_behind, less, at_before, graph_list, AreWide}
use Rattle.rounds.proofs.Congruent.{member_congruent}

-- ---- lists
pub each_place : (Q : Terms Fraction → Type 0) (xs : List (Terms Fraction)) → Each Q xs → (j : ℕ)
    → j < length xs → Q (get_or xs j [])
unfolding Each
each_place Q [] h j l = absurd (omega arith)
each_place Q (x ∷ xs) h zero l = h.0
each_place Q (x ∷ xs) h (suc j) l = each_place Q xs h.1 j (omega arith)

pub place_each : (Q : Terms Fraction → Type 0) (xs : List (Terms Fraction))
    → ((j : ℕ) → j < length xs → Q (get_or xs j [])) → Each Q xs
unfolding Each
place_each Q [] h = tt
place_each Q (x ∷ xs) h = (h 0 (omega arith), place_each Q xs (λ j l. h (suc j) (omega arith)))

pub members_each : (w : ℕ) (hs : List (Terms Fraction)) → AllArity w hs → Each (IsMember ℚ w hs) hs
members_each w hs a = place_each (IsMember ℚ w hs) hs (member_at w hs a)

pub each-take : (Q : Terms Fraction → Type 0) (n : ℕ) (xs : List (Terms Fraction)) → Each Q xs
    → Each Q (take n xs)
unfolding Each
each-take Q zero xs h = tt
each-take Q (suc n) [] h = tt
each-take Q (suc n) (x ∷ xs) h = (h.0, each-take Q n xs h.1)

pub map-take : (n : ℕ) (xs : List (Terms Fraction)) (s : List Fraction)
    → map (λ q. at q s) (take n xs) ≡ take n (map (λ q. at q s) xs)
map-take zero xs s = refl
map-take (suc n) [] s = refl
map-take (suc n) (x ∷ xs) s = ap (λ z. at x s ∷ z) (map-take n xs s)

less-arity : (w : ℕ) (xs ys : List (Terms Fraction)) → AllArity w xs → AllArity w ys
    → AllArity w (less xs ys)
unfolding Each
less-arity w [] ys a b = tt
less-arity w (x ∷ xs) [] a b = tt
less-arity w (x ∷ xs) (y ∷ ys) a b = (
  arity-append w x (negate ℚ y) a.0 (arity-negate w ℚ y b.0),
  less-arity w xs ys a.1 b.1,
)

less_at : (Q : Terms Fraction → Type 0) (xs ys : List (Terms Fraction)) → length xs ≡ length ys
    → Each Q (less xs ys) → (i : ℕ) → i < length xs
    → Q (get_or xs i [] ++ negate ℚ (get_or ys i []))
unfolding Each
less_at Q [] ys l h i k = absurd (omega (arith, k))
less_at Q (x ∷ xs) [] l h i k = absurd (omega (arith, l))
less_at Q (x ∷ xs) (y ∷ ys) l h zero k = h.0
less_at Q (x ∷ xs) (y ∷ ys) l h (suc i) k = less_at Q xs ys (omega (arith, l)) h.1 i
    (omega (arith, k))

pub difference_zero : (x y : Terms Fraction) (s : List Fraction) → at x s ≡ at y s
    → at (x ++ negate ℚ y) s ≡ ℚ.zero
difference_zero x y s h = value_at-append ℚ_ring x (negate ℚ y) s
    ∙ ap₂ ℚ.add h (value_at-negate ℚ_ring y s) ∙ ℚ_ring.add-neg (at y s)

-- a polynomial is its difference from another, and that
pub split_same : (w : ℕ) (x y : Terms Fraction) → Arity w x → Arity w y
    → Same ℚ x ((x ++ negate ℚ y) ++ y)
split_same w x y a c =
    same_by_values w x _ a (arity-append w _ y (arity-append w x _ a (arity-negate w ℚ y c)) c)
    (λ s l. both (at x s) (at y s)
    ∙ sym (value_at-append ℚ_ring (x ++ negate ℚ y) y s
    ∙ ap (λ z. ℚ.add z (at y s))
    (value_at-append ℚ_ring x (negate ℚ y) s
    ∙ ap (ℚ.add (at x s)) (value_at-negate ℚ_ring y s))))
  where
    both : (u v : Fraction) → u ≡ ℚ.add (ℚ.add u (ℚ.neg v)) v
    both u v = ring ℚ_ring (u ∷ v ∷ []) (search ring_rules depth 40) refl

-- ---- what is put for the variables
module _ (k w : ℕ) where
  pub put_arity : (us : List (Terms Fraction)) → AllArity w us → AllArity w (images_behind k w us)
  put_arity us a = each-append (Arity w) (take k (variables ℚ w)) us
      (each-take (Arity w) k (variables ℚ w) (arity-variables w ℚ)) a

  pub put_at : (us : List (Terms Fraction)) (s : List Fraction) → length s ≡ w
      → map (λ q. at q s) (images_behind k w us) ≡ take k s ++ map (λ q. at q s) us
  put_at us s l = map-append (λ q. at q s) (take k (variables ℚ w)) us
      ∙ ap (λ z. z ++ map (λ q. at q s) us) (map-take k (variables ℚ w) s
      ∙ ap (take k) (value_at-variables ℚ_ring w s l))

module _ {At : Type 0} (program : Program (Expr At)) (i k t : ℕ) (point : ℕ → List Fraction)
    (points : IsPoints k point) (times : ℕ → ℕ) (copied before fs rs us : List (Terms Fraction))
    (form : IsFormAt program i k point times fs) (was : IsBefore program i k t point times copied
    before) (wide : AreWide k t (length program.names) point before rs us)
    (gs : List (Terms Fraction)) (ga : AllArity (length program.names) gs) where
  abbrev m : ℕ
  m = length program.names

  abbrev w : ℕ
  w = k + t + m

  abbrev ys : List (Terms Fraction)
  ys = drop (k + t) (variables ℚ (k + t + length program.names))

  abbrev there : List (Terms Fraction)
  there = map (at_before k t (length program.names) before) fs

  abbrev elements : List (Terms Fraction)
  elements = map (λ g. compose ℚ (k + t + length program.names) g before) gs

  abbrev hs : List (Terms Fraction)
  hs = graph_list k t (length program.names) before fs us gs

  -- ---- arities
  ys_arity : AllArity w ys
  ys_arity = subst (AllArity w) (inner-is (k + t) m) (inner_arity (k + t) m)

  there_arity : AllArity w there
  there_arity = each-map (Arity w) (at_before k t m before) fs
      (each_of (λ f. Arity w (at_before k t m before f))
      (λ f. arity-compose w ℚ f (images_behind k w before)
      (put_arity k w before was.arities)) fs)

  elements_arity : AllArity w elements
  elements_arity = each-map (Arity w) (λ g. compose ℚ w g before) gs
      (each_of (λ g. Arity w (compose ℚ w g before)) (λ g. arity-compose w ℚ g before was.arities)
      gs)

  pub graph_arity : AllArity (k + t + length program.names) (graph_list k t (length program.names)
      before fs us gs)
  graph_arity = each-append (Arity w) elements _ elements_arity
      (each-append (Arity w) (less ys there) us (less-arity w ys there ys_arity there_arity)
      wide.wide_arities)

  -- ---- lengths
  ys-at : (s : List Fraction) → length s ≡ w → map (λ q. at q s) ys ≡ drop (k + t) s
  ys-at s l = ap (map (λ q. at q s)) (sym (inner-is (k + t) m)) ∙ inner_at (k + t) m s l

  before-length : length before ≡ m
  before-length = let s : List Fraction = map (λ x. ℚ.zero) program.names in let l : length s ≡ m =
      length-map program.names _ in
      sym (length-map before _) ∙ ap length (was.was 0 s l) ∙ l

  fs-length : length fs ≡ m
  fs-length = let s : List Fraction = map (λ x. ℚ.zero) program.names in let l : length s ≡ m =
      length-map program.names _ in
      sym (length-map fs _) ∙ ap length (form.iterations 0 s l)
      ∙ turned_keeps program i (times 0) s l

  ys-length : length ys ≡ m
  ys-length = length-drop (k + t) (variables ℚ w) ∙ (let e = length-variables w in omega (arith, e))

  -- ---- at a point: the values of the nth point, what was, and what is
  images : ℕ → List (Terms Fraction)
  images n = map (constant m) (point n) ++ (copied ++ map (at_point k m point n) fs)

  images_arity : (n : ℕ) → AllArity m (images n)
  unfolding images
  images_arity n = each-append (Arity m) (map (constant m) (point n)) _
      (arity-constants m (point n))
      (each-append (Arity m) copied _ was.copies (each-map (Arity m) (at_point k m point n) fs
      (each_of (λ f. Arity m (at_point k m point n f)) (arity-at_point k m point points n)
      fs)))

  abbrev place : ℕ → List Fraction → List Fraction
  place n s = point n ++ (map (λ c. at c s) copied ++ state_after program i (times n) s)

  forms_at : (n : ℕ) (s : List Fraction) → IsState program s → (es : List (Terms Fraction))
      → map (λ q. at q s) (map (at_point k m point n) es) ≡ map (λ f. at f (point n ++ s)) es
  forms_at n s is [] = refl
  forms_at n s is (e ∷ es) = ap₂ ◌∷◌ (value_at_point k m point points n e s is) (forms_at n s is es)

  images_at : (n : ℕ) (s : List Fraction) → IsState program s → map (λ q. at q s) (images n)
      ≡ place n s
  unfolding images
  images_at n s is =
      map-append (λ q. at q s) (map (constant m) (point n)) _
      ∙ ap₂ ◌++◌ (values_at-constants ℚ_ring m (point n) s)
      (map-append (λ q. at q s) copied _ ∙ ap (λ z. map (λ c. at c s) copied ++ z)
      (forms_at n s is fs ∙ form.iterations n s is))

  place-length : (n : ℕ) (s : List Fraction) → IsState program s → length (place n s) ≡ w
  place-length n s is =
      length-append (point n) _
      ∙ ap₂ ◌+◌ (points.size n) (length-append (map (λ c. at c s) copied) _
      ∙ ap₂ ◌+◌ (length-map copied _ ∙ was.count) (turned_keeps program i (times n) s is))
      ∙ omega arith

  place-drop : (n : ℕ) (s : List Fraction) → IsState program s → drop (k + t) (place n s)
      ≡ state_after program i (times n) s
  place-drop n s is =
      ap (drop (k + t))
      (sym (append_assoc (point n) (map (λ c. at c s) copied) (state_after program i (times n) s)))
      ∙ drop_at (point n ++ map (λ c. at c s) copied) (state_after program i (times n) s) (k + t)
      (length-append (point n) _ ∙ ap₂ ◌+◌ (points.size n) (length-map copied _ ∙ was.count))

  place-take : (n : ℕ) (s : List Fraction) → take k (place n s) ≡ point n
  place-take n s = take_front (point n) _ k (points.size n)
    where
      take_front : (xs ys : List Fraction) (k : ℕ) → length xs ≡ k → take k (xs ++ ys) ≡ xs
      take_front [] ys zero l = refl
      take_front [] ys (suc k) l = absurd (omega arith)
      take_front (x ∷ xs) ys zero l = absurd (omega arith)
      take_front (x ∷ xs) ys (suc k) l = ap (λ z. x ∷ z) (take_front xs ys k (omega (arith, l)))

  -- ---- each of the list is, at a point, in the ideal of gs
  at_images : (n : ℕ) (e : Terms Fraction) (s : List Fraction) → IsState program s
      → at (compose ℚ m e (images n)) s ≡ at e (place n s)
  at_images n e s is = value_at-compose ℚ_ring m e (images n) s ∙ ap (at e) (images_at n s is)

  same_there : (n : ℕ) (e g : Terms Fraction) → Arity m g → ((s : List Fraction) → IsState program s
      → at e (place n s) ≡ at g s) → Same ℚ (compose ℚ m e (images n)) g
  same_there n e g a h = same_by_values m _ g (arity-compose m ℚ e (images n) (images_arity n)) a
      (λ s is. at_images n e s is ∙ h s is)

  zero_there : (n : ℕ) (e : Terms Fraction) → ((s : List Fraction) → IsState program s
      → at e (place n s) ≡ ℚ.zero) → IsMember ℚ m gs (compose ℚ m e (images n))
  unfolding Each evaluate sum_over
  zero_there n e h = member_same m gs [] _ (same_there n e [] tt h) (member_nil m gs)

  elements_there : (n : ℕ) (xs : List (Terms Fraction)) → AllArity m xs → Each (IsMember ℚ m gs) xs
      → Each (λ e. IsMember ℚ m gs (compose ℚ m e (images n))) (map (λ g. compose ℚ w g before) xs)
  unfolding Each
  elements_there n [] a h = tt
  elements_there n (x ∷ xs) a h = (
    member_same m gs x _ (same_there n (compose ℚ w x before) x a.0 (λ s is.
        value_at-compose ℚ_ring w x before (place n s) ∙ ap (at x) (was.was n s is))) h.0,
    elements_there n xs a.1 h.1,
  )

  less_there : (n : ℕ) (xs zs : List (Terms Fraction)) → ((s : List Fraction) → IsState program s
      → map (λ q. at q (place n s)) xs ≡ map (λ q. at q (place n s)) zs)
      → Each (λ e. IsMember ℚ m gs (compose ℚ m e (images n))) (less xs zs)
  unfolding Each
  less_there n [] zs h = tt
  less_there n (x ∷ xs) [] h = tt
  less_there n (x ∷ xs) (z ∷ zs) h = (
    zero_there n (x ++ negate ℚ z) (λ s is. difference_zero x z (place n s)
        (let e : at x (place n s) ∷ map (λ q. at q (place n s)) xs ≡ at z (place n s)
        ∷ map (λ q. at q (place n s)) zs = h s is in cc)),
    less_there n xs zs (λ s is. let e : at x (place n s) ∷ map (λ q. at q (place n s)) xs
        ≡ at z (place n s) ∷ map (λ q. at q (place n s)) zs = h s is in cc),
  )

  there_at : (n : ℕ) (s : List Fraction) → IsState program s → (es : List (Terms Fraction))
      → map (λ q. at q (place n s)) (map (at_before k t m before) es)
      ≡ map (λ f. at f (point n ++ s)) es
  there_at n s is [] = refl
  there_at n s is (e ∷ es) = ap₂ ◌∷◌
      (value_at-compose ℚ_ring w e (images_behind k w before) (place n s)
      ∙ ap (at e) (put_at k w before (place n s) (place-length n s is)
      ∙ ap₂ ◌++◌ (place-take n s) (was.was n s is)))
      (there_at n s is es)

  ys_there : (n : ℕ) (s : List Fraction) → IsState program s → map (λ q. at q (place n s)) ys
      ≡ map (λ q. at q (place n s)) there
  ys_there n s is = ys-at (place n s) (place-length n s is) ∙ place-drop n s is
      ∙ sym (form.iterations n s is) ∙ sym (there_at n s is fs)

  relations_there : (n : ℕ) (xs : List (Terms Fraction)) → ((x : List Fraction) → length x ≡ t + m
      → All (λ r. at r (point n ++ x) ≡ ℚ.zero) xs)
      → Each (λ e. IsMember ℚ m gs (compose ℚ m e (images n))) xs
  unfolding Each
  relations_there n [] h = tt
  relations_there n (x ∷ xs) h = (
    zero_there n x (λ s is. All-head (λ r. at r (place n s) ≡ ℚ.zero) x xs
        (h (map (λ c. at c s) copied ++ state_after program i (times n) s) (rest_length n s is))),
    relations_there n xs (λ y l. All-tail (λ r. at r (point n ++ y) ≡ ℚ.zero) x xs (h y l)),
  )
    where
      rest_length : (n : ℕ) (s : List Fraction) → IsState program s
          → length (map (λ c. at c s) copied ++ state_after program i (times n) s) ≡ t + m
      rest_length n s is = length-append (map (λ c. at c s) copied) _ ∙ ap₂ ◌+◌ (length-map copied _
          ∙ was.count) (turned_keeps program i (times n) s is)

  all_there : (n : ℕ) → Each (λ e. IsMember ℚ m gs (compose ℚ m e (images n))) hs
  all_there n = each-append _ elements _ (elements_there n gs ga (members_each m gs ga))
      (each-append _ (less ys there) us (less_there n ys there (λ s is. ys_there n s is))
      (relations_there n us (λ x l. wide.zero n x l)))

  -- a padded polynomial at a point is it after the iterations
  pub graph_only : (p : Terms Fraction) → Arity (length program.names) p
      → IsMember ℚ (k + t + length program.names) (graph_list k t (length program.names) before fs
      us gs) (in_front (k + t) p)
      → (n : ℕ) → IsMember ℚ (length program.names) gs (after_word program (replicate (times n) i)
      p)
  graph_only p a h n = member_same m gs _ _
      (Same-sym ℚ (same_there n (in_front (k + t) p) (after_word program (replicate (times n) i) p)
      (arity-after_word program (replicate (times n) i) p a)
      (λ s is. in_front_at (k + t) m p (place n s) (place-length n s is)
      ∙ ap (at p) (place-drop n s is) ∙ sym (value_turned program i (times n) p s is))))
      (member_turned w m hs gs (images n) (in_front (k + t) p) graph_arity ga (images_arity n)
      (arity-pad (k + t) m p a) (each_place _ hs (all_there n)) h)

  -- ---- to the list
  abbrev back : List (Terms Fraction)
  back = images_behind k (k + t + length program.names) before

  back_arity : AllArity w back
  back_arity = put_arity k w before was.arities

  parts : Each (IsMember ℚ w hs) hs
  parts = members_each w hs graph_arity

  elements_in : Each (IsMember ℚ w hs) elements
  elements_in = each-left (IsMember ℚ w hs) elements _ parts

  less_in : Each (IsMember ℚ w hs) (less ys there)
  less_in = each-left (IsMember ℚ w hs) (less ys there) us (each-right (IsMember ℚ w hs) elements _
      parts)

  relations_in : Each (IsMember ℚ w hs) us
  relations_in = each-right (IsMember ℚ w hs) (less ys there) us (each-right (IsMember ℚ w hs)
      elements _ parts)

  -- a padded element with what was is the element with what was
  padded_same : (x : Terms Fraction) → Same ℚ (compose ℚ w (in_front k x) back)
      (compose ℚ w x before)
  padded_same x = same_by_values w _ _ (arity-compose w ℚ (in_front k x) back back_arity)
      (arity-compose w ℚ x before was.arities)
      (λ s l.
      value_at-compose ℚ_ring w (in_front k x) back s
      ∙ ap (at (in_front k x)) (put_at k w before s l)
      ∙ in_front_at k m x (take k s ++ map (λ q. at q s) before) (length-append (take k s) _
      ∙ ap₂ ◌+◌ (front-length s l) (length-map before _ ∙ before-length))
      ∙ ap (at x) (drop_at (take k s) (map (λ q. at q s) before) k (front-length s l))
      ∙ sym (value_at-compose ℚ_ring w x before s))
    where
      front-length : (s : List Fraction) → length s ≡ w → length (take k s) ≡ k
      front-length s l = length-front k (t + m) s (l ∙ omega arith)

  padded_in : (xs : List (Terms Fraction))
      → Each (IsMember ℚ w hs) (map (λ g. compose ℚ w g before) xs)
      → Each (λ e. IsMember ℚ w hs (compose ℚ w e back)) (map (in_front k) xs)
  unfolding Each
  padded_in [] h = tt
  padded_in (x ∷ xs) h = (
    member_same w hs (compose ℚ w x before) _ (padded_same x) h.0,
    padded_in xs h.1,
  )

  wide_in : (xs zs : List (Terms Fraction)) → AllSame ℚ (map (at_before k t m before) xs) zs
      → Each (IsMember ℚ w hs) zs → Each (λ e. IsMember ℚ w hs (compose ℚ w e back)) xs
  unfolding Each AllSame
  wide_in [] zs s h = tt
  wide_in (x ∷ xs) [] s h = absurd s
  wide_in (x ∷ xs) (z ∷ zs) s h = (member_same w hs z _ s.0 h.0, wide_in xs zs s.1 h.1)

  -- the last variables and the forms at what was
  after_forms : (p : Terms Fraction) → Arity m p
      → Same ℚ (compose ℚ w (compose ℚ (k + m) p fs) back) (compose ℚ w p there)
  after_forms p a = same_by_values w _ _ (arity-compose w ℚ (compose ℚ (k + m) p fs) back
      back_arity) (arity-compose w ℚ p there there_arity)
      (λ s l.
      value_at-compose ℚ_ring w (compose ℚ (k + m) p fs) back s
      ∙ value_at-compose ℚ_ring (k + m) p fs (map (λ q. at q s) back)
      ∙ ap (at p) (each_form s fs)
      ∙ sym (value_at-compose ℚ_ring w p there s))
    where
      each_form : (s : List Fraction) (es : List (Terms Fraction))
          → map (λ f. at f (map (λ q. at q s) back)) es ≡ map (λ q. at q s)
          (map (at_before k t m before) es)
      each_form s [] = refl
      each_form s (e ∷ es) = ap₂ ◌∷◌ (sym (value_at-compose ℚ_ring w e back s)) (each_form s es)

  pub graph_all : IsIndependent k (length program.names) point rs → (p : Terms Fraction)
      → Arity (length program.names) p
      → ((n : ℕ) → IsMember ℚ (length program.names) gs (after_word program (replicate (times n) i)
      p))
      → IsMember ℚ (k + t + length program.names) (graph_list k t (length program.names) before fs
      us gs) (in_front (k + t) p)
  graph_all independent p a h =
      let e : Terms Fraction = compose ℚ (k + m) p fs in
      let ea : Arity (k + m) e = arity-compose (k + m) ℚ p fs form.arities in
      let padded : IsMember ℚ (k + m) (Padded k m gs rs) e = independent.member gs ga e ea
      (λ n. member_same m gs _ _ (form_at n) (h n)) in
      let moved : IsMember ℚ w hs (compose ℚ w e back) = member_turned (k + m) w (Padded k m gs rs)
      hs back e
      (each-append (Arity (k + m)) (map (in_front k) gs) rs (arity-padded k m gs ga) wide.arities)
      graph_arity back_arity ea
      (each_place (λ x. IsMember ℚ w hs (compose ℚ w x back)) (Padded k m gs rs)
      (each-append _ (map (in_front k) gs) rs (padded_in gs elements_in)
      (wide_in rs us wide.same relations_in))) padded in
      let near : IsMember ℚ w hs (compose ℚ w p ys ++ negate ℚ (compose ℚ w p there)) =
      member_congruent w hs graph_arity m p a ys there ys_arity there_arity (ys-length
      ∙ sym (length-map fs _ ∙ fs-length)) (less_at (IsMember ℚ w hs) ys there (ys-length
      ∙ sym (length-map fs _ ∙ fs-length)) less_in) in
      let ya : Arity w (compose ℚ w p ys) = arity-compose w ℚ p ys ys_arity in
      let ta : Arity w (compose ℚ w p there) = arity-compose w ℚ p there there_arity in
      member_same w hs (compose ℚ w p ys) _
      (subst (λ l. Same ℚ (in_front (k + t) p) (compose ℚ w p l)) (inner-is (k + t) m)
      (Same-sym ℚ (compose-inner (k + t) m p a)))
      (member_same w hs _ _ (split_same w (compose ℚ w p ys) (compose ℚ w p there) ya ta)
      (member_append w hs graph_arity (compose ℚ w p ys ++ negate ℚ (compose ℚ w p there))
      (compose ℚ w p there) (arity-append w _ _ ya (arity-negate w ℚ _ ta)) ta near
      (member_same w hs _ _ (Same-sym ℚ (after_forms p a)) moved)))
    where
      form_at : (n : ℕ) → Same ℚ (at_point k m point n (compose ℚ (k + m) p fs))
          (after_word program (replicate (times n) i) p)
      form_at n = same_by_values m _ _ (arity-at_point k m point points n (compose ℚ (k + m) p fs))
          (arity-after_word program (replicate (times n) i) p a)
          (λ s is. value_at_point k m point points n (compose ℚ (k + m) p fs) s is
          ∙ value_at-compose ℚ_ring (k + m) p fs (point n ++ s)
          ∙ ap (at p) (form.iterations n s is) ∙ sym (value_turned program i (times n) p s is))

  pub graph_gives_orbit : IsIndependent k (length program.names) point rs
      → (ks : List (Terms Fraction)) → IsEliminated (k + t) (length program.names)
      (graph_list k t (length program.names) before fs us gs) ks
      → IsOrbitAt program gs i times ks
  graph_gives_orbit independent ks eliminated = record {
    arities = eliminated.arities;
    only = λ p a h. graph_only p a (eliminated.only p a h);
    all = λ p a h. eliminated.all p a (graph_all independent p a h);
  }
