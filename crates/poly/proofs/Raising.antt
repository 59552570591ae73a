-- A polynomial in two parts that is raised by a term (specs/Raised).
--   exceeds_push               a term more that is above
--   polynomial_front, polynomial_back     the parts are polynomials
--   over_parts                 the first of two parts in descending order is above the second
--   raised_less, raised_equal  by a term that is new; by one whose monomial is there
--   raised_none                by zero
--   like_number                the number of the term whose monomial is there
--   exceeds_next               the first part is above the next product
--   put_X                      the same, as the code has the lists
--   Raising, begin_raising, begin_cancelled, step_raising, next_above     one product after another
--   lead_multiple, first_and_rest   the leads that cancel
--   images, drop_next, cut_next     what a list's image is
use Rattle.std.proofs.Common.{◌≡◌, ◌≢◌, inl, inr, ℕ, Bool, true, false, Some, IsSomeAnd, slice_get, List, [], ◌∷◌, ◌++◌, length, map, take, drop, take-append-drop, get_or, ◌<◌, ◌+◌, append_assoc, refl, sym, ap, ap₂, subst, ◌∙◌, Ordering, Less, Equal, Greater}
use Rattle.std.proofs.lemmas.List.{append-nil, map-append, drop_more}
use Rattle.algebra.specs.Each.{Each}
use Rattle.algebra.proofs.Each.{each-append, each-left, each-right, each_weaker, each_of}
use Rattle.algebra.specs.Ring.{IsRing, ring as ring_of}
use Rattle.algebra.proofs.RingLaws.{zero-add, neg-mul}
use Rattle.algebra.specs.Scalars.{Scalars, IsPastAdd}
use Rattle.polynomials.specs.Exponent.{exponents, plus}
use Rattle.polynomials.specs.Order.{Rank, IsMonomialOrder, compare}
use Rattle.polynomials.specs.Polynomial.{Apart, Arity, Below, Falls, IsPolynomial}
use Rattle.polynomials.specs.Terms.{Terms, Same, coefficient, shift}
use Rattle.polynomials.proofs.Order.{less_trans, less_irrefl, compare_equal, greater_less, less_asymm}
use Rattle.polynomials.proofs.Algebra.{coefficient-append}
use Rattle.polynomials.proofs.Distinct.{apart_below, coefficient_apart, coefficient_first}
use Rattle.polynomials.proofs.AlgebraRing.{algebra-append, same_of_algebra}
use Rattle.polynomials.proofs.Exponent.{exponents_monoid, same_apart, length-plus}
use Rattle.polynomials.specs.Algebra as Algebra
use Rattle.polynomials.proofs.Same.{Same-refl, Same-trans, same_append}
use Rattle.poly.specs.Pushed.{Takes}
use Rattle.poly.specs.Raised.{Exceeds, Begins, IsRaised}
use Rattle.poly.proofs.GridHolds.{shift-next}
use Rattle.poly.proofs.Kept.{Over, polynomial_one, polynomial_tail, head_arity, below-tail}
use Rattle.poly.proofs.Steps.{compare-shift}
use Rattle.poly.proofs.Merging as merging
use Rattle.poly.proofs.Merging.{Merging, Merged}

pub exceeds_push : {A : Type 0} (O : Rank) (e : List ℕ) (p q : Terms A) (t : List ℕ × A)
    → q ≡ p ++ t ∷ [] → compare O t.0 e ≡ Greater → Exceeds O e p → Exceeds O e q
unfolding Each
exceeds_push O e p q t is g h =
    subst (Exceeds O e) (sym is) (each-append (λ u. compare O u.0 e ≡ Greater) p (t ∷ []) h (g, tt))

-- ---- parts of a polynomial
module _ (O : Rank) where
  falls_front : {A : Type 0} (p q : Terms A) → Falls O (p ++ q) → Falls O p
  unfolding Falls
  falls_front [] q f = tt
  falls_front (t ∷ p) q f = (each-left (λ u. compare O u.0 t.0 ≡ Less) p q f.0, falls_front p q f.1)

  falls_back : {A : Type 0} (p q : Terms A) → Falls O (p ++ q) → Falls O q
  unfolding Falls
  falls_back [] q f = f
  falls_back (t ∷ p) q f = falls_back p q f.1

  pub over_parts : {A : Type 0} (p q : Terms A) → Falls O (p ++ q) → Over O p q
  unfolding Falls Over
  over_parts [] q f = tt
  over_parts (t ∷ p) q f = (each-right (λ u. compare O u.0 t.0 ≡ Less) p q f.0, over_parts p q f.1)

  module _ (S : Scalars) (m : ℕ) (p q : Terms S.Elem) (h : IsPolynomial S.arithmetic O m
      (p ++ q)) where
    pub polynomial_front : IsPolynomial S.arithmetic O m p
    polynomial_front = record {
      nonzero = each-left (λ t. t.1 ≢ S.zero) p q h.nonzero;
      arity = each-left (λ t. length t.0 ≡ m) p q h.arity;
      falls = falls_front p q h.falls;
    }

    pub polynomial_back : IsPolynomial S.arithmetic O m q
    polynomial_back = record {
      nonzero = each-right (λ t. t.1 ≢ S.zero) p q h.nonzero;
      arity = each-right (λ t. length t.0 ≡ m) p q h.arity;
      falls = falls_back p q h.falls;
    }

over_exceeds : {A : Type 0} (O : Rank) (o : IsMonomialOrder O) (e : List ℕ) (a : A) (p : Terms A)
    → Exceeds O e p → Over O p ((e, a) ∷ [])
unfolding Each Over
over_exceeds O o e a [] h = tt
over_exceeds O o e a (t ∷ p) h = ((greater_less O o t.0 e h.0, tt), over_exceeds O o e a p h.1)

apart_exceeds : {A : Type 0} (O : Rank) (o : IsMonomialOrder O) (e : List ℕ) (p : Terms A)
    → Exceeds O e p → Apart e p
unfolding Each
apart_exceeds O o e [] h = tt
apart_exceeds O o e (t ∷ p) h = (
  same_apart e t.0 (λ is. less_irrefl O o e (subst (λ d. compare O e d ≡ Less) (sym is)
      (greater_less O o t.0 e h.0))),
  apart_exceeds O o e p h.1,
)

greater_not_less : (w : Ordering) → w ≡ Greater → w ≢ Less
greater_not_less w g l = cc

none_lower : {A : Type 0} (O : Rank) (e : List ℕ) (p : Terms A) → Exceeds O e p
    → Each (λ t. compare O t.0 e ≢ Less) p
none_lower O e p h = each_weaker (λ t. compare O t.0 e ≡ Greater) (λ t. compare O t.0 e ≢ Less)
    (λ t g. greater_not_less _ g) p h

less_greater : (O : Rank) (o : IsMonomialOrder O) (d e : List ℕ) → compare O d e ≡ Less
    → compare O e d ≡ Greater
less_greater O o d e l = go (compare O e d) refl
  where
    go : (w : Ordering) → compare O e d ≡ w → w ≡ Greater
    go Less h = absurd (less_asymm O o d e l h)
    go Equal h =
        absurd (less_irrefl O o d (subst (λ x. compare O d x ≡ Less) (compare_equal O o e d h) l))
    go Greater h = refl

pub exceeds_next : {A : Type 0} (O : Rank) (o : IsMonomialOrder O) (e f : List ℕ) (p : Terms A)
    → compare O f e ≡ Less → Each (λ t. compare O t.0 e ≢ Less) p → Exceeds O f p
exceeds_next O o e f p l h = each_weaker (λ t. compare O t.0 e ≢ Less)
    (λ t. compare O t.0 f ≡ Greater) (λ t n. go t.0 n (compare O t.0 e) refl) p h
  where
    go : (d : List ℕ) → compare O d e ≢ Less → (w : Ordering) → compare O d e ≡ w
        → compare O d f ≡ Greater
    go d n Less is = absurd (n is)
    go d n Equal is =
        less_greater O o f d (subst (λ x. compare O f x ≡ Less) (sym (compare_equal O o d e is)) l)
    go d n Greater is = less_greater O o f d (less_trans O o f e d l (greater_less O o d e is))

module _ (S : Scalars) (r : IsRing S.arithmetic) (O : Rank) (law : IsMonomialOrder O) where
  -- ---- one term more
  module _ (front back : Terms S.Elem) (e : List ℕ) (a : S.Elem) (h : IsPolynomial S.arithmetic O
      (length e) (front ++ back)) (x : Exceeds O e front) where
    start : a ≢ S.zero → Merging S r O law (length e) (front ++ back) ((e, a) ∷ []) front back
        ((e, a) ∷ [])
    start n = record {
      xs_are = h;
      ys_are = polynomial_one O S (length e) e a refl n;
      out_is = polynomial_front O S (length e) front back h;
      lefts_are = polynomial_back O S (length e) front back h;
      rights_are = polynomial_one O S (length e) e a refl n;
      over_lefts = over_parts O front back h.falls;
      over_rights = over_exceeds O law e a front x;
      lefts_in = (front, refl);
      rights_in = ([], refl);
      total =
          let p = merging.poly S r O law (length e) in
          let P = merging.P S r O law (length e) in
          sym (P.add_assoc (p front) (p back) (p ((e, a) ∷ [])))
          ∙ ap (λ z. P.add z (p ((e, a) ∷ [])))
          (sym (algebra-append exponents exponents_monoid (ring_of S.arithmetic r) front back));
    }

    lower : Each (λ t. compare O t.0 e ≢ Less) front
    lower = none_lower O e front x

    lower_push : (b : S.Elem) → Each (λ t. compare O t.0 e ≢ Less) (front ++ (e, b) ∷ [])
    unfolding Each
    lower_push b = each-append (λ t. compare O t.0 e ≢ Less) front ((e, b) ∷ []) lower
        (less_irrefl O law e, tt)

    raised : (news rest : Terms S.Elem) → Merged S r O law (length e) (front ++ back) ((e, a) ∷ [])
        (news ++ rest) → Each (λ t. compare O t.0 e ≢ Less) news
        → IsRaised S O e a (front ++ back) news rest
    raised news rest m n = record { descending = m.is; sum = m.sum; none_below = n }

    pub raised_none : a ≡ S.zero → IsRaised S O e a (front ++ back) front back
    raised_none z = record {
      descending = h;
      sum = same_of_algebra exponents exponents_monoid (ring_of S.arithmetic r) (front ++ back)
          ((front ++ back) ++ (e, a) ∷ [])
          (let p = merging.poly S r O law (length e) in
          let P = merging.P S r O law (length e) in
          sym (algebra-append exponents exponents_monoid (ring_of S.arithmetic r) (front ++ back)
          ((e, a) ∷ []) ∙ ap (P.add (p (front ++ back))) (ap (λ b. p ((e, b) ∷ [])) z
          ∙ merging.one_zero S r O law (length e) e) ∙ P.add-zero (p (front ++ back))));
      none_below = lower;
    }

    pub raised_less : a ≢ S.zero → Begins O e false back
        → IsRaised S O e a (front ++ back) (front ++ (e, a) ∷ []) back
    raised_less n b = go back refl b
      where
        go : (bs : Terms S.Elem) → back ≡ bs → Begins O e false bs
            → IsRaised S O e a (front ++ back) (front ++ (e, a) ∷ []) back
        go [] is b =
            raised (front ++ (e, a) ∷ []) back
            (merging.finish S r O law (length e) (front ++ back) ((e, a) ∷ []) front front
            ((front ++ (e, a) ∷ []) ++ back) back ((e, a) ∷ [])
            (sym (ap (λ (q : Terms S.Elem). front ++ q) is ∙ append-nil front))
            (ap (λ (q : Terms S.Elem). (front ++ (e, a) ∷ []) ++ q) is
            ∙ append-nil (front ++ (e, a) ∷ [])) (inl is) (start n))
            (lower_push a)
        go (t ∷ rest) is b =
            raised (front ++ (e, a) ∷ []) back
            (merging.finish S r O law (length e) (front ++ back) ((e, a) ∷ []) (front ++ (e, a)
            ∷ []) ((front ++ (e, a) ∷ []) ++ back) ((front ++ (e, a) ∷ []) ++ back) back []
            refl (sym (append-nil ((front ++ (e, a) ∷ []) ++ back))) (inr refl)
            (merging.step_less S r O law (length e) (front ++ back) ((e, a) ∷ []) front
            (front ++ (e, a) ∷ []) back ((e, a) ∷ []) rest [] t (e, a) is refl refl b
            (start n)))
            (lower_push a)

    pub raised_equal : (news rest : Terms S.Elem) (t : List ℕ × S.Elem) → a ≢ S.zero
        → back ≡ t ∷ rest → Begins O e true back → Takes S e (S.add t.1 a) front news
        → IsRaised S O e a (front ++ back) news rest
    raised_equal news rest t n is b takes =
        let eq : compare O t.0 e ≡ Equal = subst (Begins O e true) is b in
        raised news rest
        (merging.finish S r O law (length e) (front ++ back) ((e, a) ∷ []) news (news ++ rest)
        (news ++ rest) rest []
        refl (sym (append-nil (news ++ rest))) (inr refl)
        (merging.step_equal S r O law (length e) (front ++ back) ((e, a) ∷ []) front news back
        ((e, a) ∷ []) rest [] t (e, a) is refl
        (subst (λ d. Takes S d (S.add t.1 a) front news) (sym (compare_equal O law t.0 e eq)) takes)
        eq (start n)))
        (taken takes)
      where
        taken : Takes S e (S.add t.1 a) front news → Each (λ u. compare O u.0 e ≢ Less) news
        taken (inl none) = subst (Each (λ u. compare O u.0 e ≢ Less)) (sym none.1) lower
        taken (inr some) = subst (Each (λ u. compare O u.0 e ≢ Less)) (sym some.1)
            (lower_push (S.add t.1 a))

    -- the number of the like term
    pub like_number : (rest : Terms S.Elem) (t : List ℕ × S.Elem) → back ≡ t ∷ rest
        → Begins O e true back → t.1 ≡ coefficient S.arithmetic (front ++ back) e
    like_number rest t is b =
        let R = ring_of S.arithmetic r in
        let eq : t.0 ≡ e = compare_equal O law t.0 e (subst (Begins O e true) is b) in
        let last : IsPolynomial S.arithmetic O (length e) (t ∷ rest) =
        subst (IsPolynomial S.arithmetic O (length e)) is (polynomial_back O S (length e) front
        back h) in
        sym
        (coefficient-append exponents R front back e
        ∙ ap₂ S.add (coefficient_apart R e front (apart_exceeds O law e front x))
        (ap₂ (coefficient S.arithmetic) is (sym eq)
        ∙ coefficient_first R t rest
        (apart_below O law t.0 rest (below-tail O t rest last.falls)))
        ∙ zero-add R t.1)

  -- ---- the same, as the code has the lists
  module _ (olds front back : Terms S.Elem) (e : List ℕ) (a : S.Elem) (h : IsPolynomial S.arithmetic
      O (length e) olds) (is : front ++ back ≡ olds) (x : Exceeds O e front) where
    whole : IsPolynomial S.arithmetic O (length e) (front ++ back)
    whole = subst (IsPolynomial S.arithmetic O (length e)) (sym is) h

    pub put_less : (b : Bool) (news : Terms S.Elem) → a ≢ S.zero → b ≡ false → Begins O e b back
        → news ≡ front ++ (e, a) ∷ [] → IsRaised S O e a olds news back
    put_less b news n f begins k =
        subst (λ (q : Terms S.Elem). IsRaised S O e a q news back) is
        (subst (λ (q : Terms S.Elem). IsRaised S O e a (front ++ back) q back) (sym k)
        (raised_less front back e a whole x n (subst (λ z. Begins O e z back) f begins)))

    pub put_equal : (b : Bool) (news rest : Terms S.Elem) (t : List ℕ × S.Elem) → a ≢ S.zero
        → b ≡ true → Begins O e b back → back ≡ t ∷ rest → Takes S t.0 (S.add t.1 a) front news
        → IsRaised S O e a olds news rest
    put_equal b news rest t n f begins k takes =
        let first = subst (λ z. Begins O e z back) f begins in
        let like : t.0 ≡ e = compare_equal O law t.0 e (subst (Begins O e true) k first) in
        subst (λ (q : Terms S.Elem). IsRaised S O e a q news rest) is
        (raised_equal front back e a whole x news rest t n k first
        (subst (λ (d : List ℕ). Takes S d (S.add t.1 a) front news) like takes))

    pub put_past : (b : Bool) (rest : Terms S.Elem) (t : List ℕ × S.Elem) → b ≡ true
        → Begins O e b back → back ≡ t ∷ rest → IsPastAdd S t.1 a
        → IsPastAdd S (coefficient S.arithmetic olds e) a
    put_past b rest t f begins k past =
        subst (λ c. IsPastAdd S c a) (like_number front back e a whole x rest t k
        (subst (λ z. Begins O e z back) f begins)
        ∙ ap (λ (q : Terms S.Elem). coefficient S.arithmetic q e) is) past

pub images : {X Y : Type 0} (f : X → Y) (a b c d : List X) → a ++ b ≡ c ++ d
    → map f a ++ map f b ≡ map f c ++ map f d
images f a b c d h = sym (map-append f a b) ∙ ap (map f) h ∙ map-append f c d

-- ---- one product after another
-- of p and c times d times the terms that are done, with others left
pub record Raising (S : Scalars) (O : Rank) (m : ℕ) (d : List ℕ) (c : S.Elem)
    (p done left front back : Terms S.Elem) : Type 0 where
  pub descending : IsPolynomial S.arithmetic O m (front ++ back)
  pub sum : Same S.arithmetic (front ++ back) (p ++ shift S.arithmetic d c done)
  pub above : Each (λ t. Exceeds O (plus d t.0) front) left

pub begin_raising : (S : Scalars) (O : Rank) (m : ℕ) (d : List ℕ) (c : S.Elem)
    (p left front back : Terms S.Elem) → front ≡ [] → back ≡ p → IsPolynomial S.arithmetic O m p
    → Raising S O m d c p [] left front back
unfolding Algebra.shift Each
begin_raising S O m d c p left front back f b h =
    subst (λ (q : Terms S.Elem). Raising S O m d c p [] left q back) (sym f)
    (subst (λ (q : Terms S.Elem). Raising S O m d c p [] left [] q) (sym b)
    (record {
      descending = h;
      sum = subst (λ (q : Terms S.Elem). Same S.arithmetic p q) (sym (append-nil p))
          (Same-refl S.arithmetic p);
      above = each_of (λ (t : List ℕ × S.Elem). Exceeds O {A = S.Elem} (plus d t.0) []) (λ t. tt)
          left;
    }))

-- where the first product is the opposite of the first term, and neither is there
pub begin_cancelled : (S : Scalars) (r : IsRing S.arithmetic) (O : Rank) (law : IsMonomialOrder O)
    (m : ℕ) (d : List ℕ) (c f : S.Elem) (p rest left front back : Terms S.Elem)
    (t x : List ℕ × S.Elem) → c ≡ S.neg f → x ≡ (plus d t.0, S.mul f t.1) → p ≡ x ∷ rest
    → front ≡ [] → back ≡ rest → IsPolynomial S.arithmetic O m p
    → Raising S O m d c p (t ∷ []) left front back
unfolding Algebra.shift Each
begin_cancelled S r O law m d c f p rest left front back t x e is parts none same h =
    subst (λ (q : Terms S.Elem). Raising S O m d c p (t ∷ []) left q back) (sym none)
    (subst (λ (q : Terms S.Elem). Raising S O m d c p (t ∷ []) left [] q) (sym same)
    (record {
      descending = polynomial_tail O S m x rest (subst (IsPolynomial S.arithmetic O m) parts h);
      sum = subst (λ (q : Terms S.Elem). Same S.arithmetic rest (q ++ shift S.arithmetic d c
          (t ∷ []))) (sym (parts ∙ ap (λ (y : List ℕ × S.Elem). y ∷ rest) is))
          (merging.lead_cancels S r O law m (plus d t.0) (S.mul f t.1)
          (S.mul c t.1) rest opposite);
      above = each_of (λ (u : List ℕ × S.Elem). Exceeds O {A = S.Elem} (plus d u.0) []) (λ u. tt)
          left;
    }))
  where
    opposite : S.add (S.mul f t.1) (S.mul c t.1) ≡ S.zero
    opposite = ap (S.add (S.mul f t.1)) (ap (λ a. S.mul a t.1) e
        ∙ neg-mul (ring_of S.arithmetic r) f t.1) ∙ r.add-neg (S.mul f t.1)

-- the lead of p, where it is a multiple of the lead of q
pub lead_multiple : (S : Scalars) (p q ps qs : Terms S.Elem) (x t : List ℕ × S.Elem) (d : List ℕ)
    (f : S.Elem) → p ≡ x ∷ ps → q ≡ t ∷ qs → IsSomeAnd (slice_get q 0)
    (λ u. slice_get p 0 ≡ Some (plus d u.0, S.mul f u.1)) → x ≡ (plus d t.0, S.mul f t.1)
lead_multiple S p q ps qs x t d f hp hq h = go (subst (λ (z : Terms S.Elem).
    slice_get z 0 ≡ Some (plus d t.0, S.mul f t.1)) hp (subst (λ (z : Terms S.Elem).
    IsSomeAnd (slice_get z 0) (λ u. slice_get p 0 ≡ Some (plus d u.0, S.mul f u.1))) hq h))
  where
    go : {y : List ℕ × S.Elem} → Some x ≡ Some y → x ≡ y
    go e = cc

pub first_and_rest : {X : Type 0} (ts rest : List X) (t : X) → ts ≡ t ∷ rest
    → take 1 ts ++ rest ≡ ts
first_and_rest ts rest t e = ap (λ l. take 1 l ++ rest) e ∙ sym e

module _ (S : Scalars) (r : IsRing S.arithmetic) (O : Rank) (law : IsMonomialOrder O) (m : ℕ)
    (d : List ℕ) (c : S.Elem) (l : length d ≡ m) where
  above_later : (t : List ℕ × S.Elem) (later front : Terms S.Elem) → length t.0 ≡ m → Arity m later
      → Below O t.0 later → Each (λ u. compare O u.0 (plus d t.0) ≢ Less) front
      → Each (λ u. Exceeds O (plus d u.0) front) later
  unfolding Each
  above_later t [] front k a b h = tt
  above_later t (u ∷ later) front k a b h = (
    exceeds_next O law (plus d t.0) (plus d u.0) front (compare-shift O law m d l u.0 t.0 a.0 k
        ∙ b.0) h,
    above_later t later front k a.1 b.1 h,
  )

  pub step_raising : (p done left done' later front back front' back' : Terms S.Elem) (t : List ℕ
      × S.Elem) → left ≡ t ∷ later → done' ≡ done ++ t ∷ []
      → IsPolynomial S.arithmetic O m (t ∷ later)
      → IsRaised S O (plus d t.0) (S.mul c t.1) (front ++ back) front' back'
      → Raising S O m d c p done left front back → Raising S O m d c p done' later front' back'
  step_raising p done left done' later front back front' back' t is more h raised i =
      let long : length (plus d t.0) ≡ m = length-plus d t.0 m l (head_arity O S m t later h) in
      record {
        descending = subst (λ n. IsPolynomial S.arithmetic O n (front' ++ back')) long
            raised.descending;
        sum = Same-trans S.arithmetic raised.sum
            (subst (Same S.arithmetic ((front ++ back) ++ (plus d t.0, S.mul c t.1) ∷ []))
            (append_assoc p (shift S.arithmetic d c done) ((plus d t.0, S.mul c t.1) ∷ [])
            ∙ ap (λ (q : Terms S.Elem). p ++ q) (sym (shift-next S d c done done' t more)))
            (same_append (ring_of S.arithmetic r) i.sum
            (Same-refl S.arithmetic ((plus d t.0, S.mul c t.1) ∷ []))));
        above = above_later t later front' (head_arity O S m t later h)
            (polynomial_tail O S m t later h).arity (below-tail O t later h.falls)
            raised.none_below;
      }

  pub next_above : (p done left later front back : Terms S.Elem) (t : List ℕ × S.Elem)
      → left ≡ t ∷ later → Raising S O m d c p done left front back → Exceeds O (plus d t.0) front
  unfolding Each
  next_above p done left later front back t is i =
      (subst (Each (λ u. Exceeds O (plus d u.0) front)) is i.above).0

pub drop_next : {X Y : Type 0} (f : X → Y) (ts : List X) (i : ℕ) (x : X) → i < length ts
    → x ≡ get_or ts i x → map f (drop i ts) ≡ f x ∷ map f (drop (i + 1) ts)
drop_next f ts i x h is = ap (map f) (drop_more ts i x h) ∙ ap (λ y. f y ∷ map f (drop (i + 1) ts))
    (sym is)

pub cut_next : {X Y : Type 0} (f : X → Y) (ts : List X) (i : ℕ) (x : X) → i < length ts
    → x ≡ get_or ts i x → map f ts ≡ map f (take i ts) ++ f x ∷ map f (drop (i + 1) ts)
cut_next f ts i x h is = ap (map f) (sym (take-append-drop i ts))
    ∙ map-append f (take i ts) (drop i ts)
    ∙ ap (λ l. map f (take i ts) ++ l) (drop_next f ts i x h is)
