-- An array of numbers that holds a sum of terms, each at the place of its monomial (specs/Grid).
--   holds-nil, holds-term    an array of zeros; one term more
--   past_place               where the number at a place and a term's are past, so is the weight of the terms
--   shift-none, shift-next, shift-at      a row's terms, which are products with one term
--   product-none, product-one, product-next      a product, row by row
--   read-nil, read-zero, read-term        no number read; one number more
--   read-same                what is read is the same as what is held
--   arities_read             the number of exponents of what is read
use Rattle.std.proofs.Common.{◌≡◌, ◌≢◌, ◌<◌, ◌^◌, ◌⊎◌, inl, inr, ℕ, false, List, [], ◌∷◌, ◌++◌, length, get_or, set, replicate, refl, sym, ap, ap₂, subst, ◌∙◌, arith, true≢false, eq-or-lt_of_le, length-append}
use Rattle.std.specs.List.{All}
use Rattle.std.proofs.lemmas.List.{append-nil, get_or-replicate, length-replicate, length-set, get_or-set_other, get_or_append_left}
use Rattle.std.proofs.Math.Seq.{get_or-append_seam}
use Rattle.std.proofs.lemmas.List.Elements.{All-nil, All-cons, All-head, All-tail, All-append}
use Rattle.std.proofs.lemmas.Grind.{get_or-set_at}
use Rattle.algebra.specs.Each.{Each}
use Rattle.algebra.specs.Sum.{sum_over}
use Rattle.algebra.specs.Ring.{CommRing, IsRing, ring}
use Rattle.algebra.proofs.RingLaws.{zero-add}
use Rattle.algebra.specs.Scalars.{Scalars, IsBounded}
use Rattle.algebra.specs.Size.{IsPast, sum_size}
use Rattle.algebra.proofs.LcmLaws.{lcm-pos}
use Rattle.algebra.proofs.SizeLaws.{under-sum, past_under}
use Rattle.polynomials.specs.Algebra as Algebra
use Rattle.polynomials.specs.Exponent.{plus, same, exponents}
use Rattle.polynomials.specs.Terms.{Terms, coefficient, Same, shift, times}
use Rattle.polynomials.specs.Polynomial.{Apart, IsDistinct}
use Rattle.polynomials.specs.Weight.{weight}
use Rattle.polynomials.proofs.Exponent.{same_refl, same_cases, same_apart}
use Rattle.polynomials.proofs.Algebra.{coefficient-nil, coefficient-append}
use Rattle.polynomials.proofs.Weight.{weight-pos, weight-append, weight-term, coefficient_within}
use Rattle.polynomials.proofs.Distinct.{coefficient_apart, coefficient_first, coefficient_rest}
use Rattle.poly.specs.declared.Term.{Term}
use Rattle.poly.specs.View.{term_of, terms_of}
use Rattle.poly.specs.Pushed.{Takes}
use Rattle.poly.specs.Places.{place_of, exponents_at, IsInside}
use Rattle.poly.specs.Grid.{Holds, Read}
use Rattle.poly.proofs.Places.{at-place, place-at, place-bound, inside-at}
use Rattle.poly.proofs.Products.{times-append}

-- ---- one term more of a list whose monomials differ
same_turned : (d e : List ℕ) → same d e ≡ false → same e d ≡ false
same_turned d e other = go (same_cases e d)
  where
    go : (e ≡ d) ⊎ (same e d ≡ false) → same e d ≡ false
    go (inl is) = absurd (true≢false (sym (same_refl d) ∙ ap (same d) (sym is) ∙ other))
    go (inr apart) = apart

apart-push : {A : Type 0} (d : List ℕ) (t : List ℕ × A) (p : Terms A) → Apart d p
    → same d t.0 ≡ false → Apart d (p ++ t ∷ [])
unfolding Each
apart-push d t [] a other = (other, tt)
apart-push d t (u ∷ p) a other = (a.0, apart-push d t p a.1 other)

distinct-push : {A : Type 0} (t : List ℕ × A) (p : Terms A) → Apart t.0 p → IsDistinct p
    → IsDistinct (p ++ t ∷ [])
unfolding Each IsDistinct
distinct-push t [] a d = (tt, tt)
distinct-push t (u ∷ p) a d = (
  apart-push u.0 t p d.0 (same_turned t.0 u.0 a.0),
  distinct-push t p a.1 d.1,
)

module _ (S : Scalars) (r : IsRing S.arithmetic) where
  abbrev R : CommRing S.Elem
  R = ring S.arithmetic r

  coefficient_one : (e : List ℕ) (c : S.Elem) → coefficient S.arithmetic ((e, c) ∷ []) e ≡ c
  unfolding Each
  coefficient_one e c = coefficient_first R (e, c) [] tt

  coefficient_none : (e d : List ℕ) (c : S.Elem) → same d e ≡ false
      → coefficient S.arithmetic ((e, c) ∷ []) d ≡ S.zero
  coefficient_none e d c other = coefficient_rest R (e, c) [] d other
      ∙ coefficient-nil exponents R d

-- ---- what an array holds
module _ (S : Scalars) (b m : ℕ) where
  pub holds-nil : (grid : List S.Elem) (n : ℕ) → grid ≡ replicate n S.zero → n ≡ b ^ m
      → Holds S.arithmetic b m grid []
  unfolding Algebra.coefficient sum_over
  holds-nil grid n e s = record {
    size = ap length e ∙ length-replicate n S.zero ∙ s;
    each = λ k d h. ap (λ l. get_or l k d) e ∙ get_or-replicate n k S.zero d (omega (arith, s, h));
    inside = All-nil (λ (t : List ℕ × S.Elem). IsInside b m t.0);
  }

  module _ (r : IsRing S.arithmetic) where
    -- the coefficient at a place, with one term more
    with_term : (grid news : List S.Elem) (ts : Terms S.Elem) (e : List ℕ) (c old : S.Elem) (k : ℕ)
        → 0 < b → IsInside b m e → k ≡ place_of b e → old ≡ get_or grid k old
        → news ≡ set grid k (S.add old c)
        → Holds S.arithmetic b m grid ts → (j : ℕ) (d : S.Elem) → j < b ^ m
        → get_or news j d ≡ coefficient S.arithmetic (ts ++ (e, c) ∷ []) (exponents_at b m j)
    with_term grid news ts e c old k h i p o n g j d below = go (same_cases (exponents_at b m j) e)
      where
        at_j : List ℕ
        at_j = exponents_at b m j

        both : coefficient S.arithmetic (ts ++ (e, c) ∷ []) at_j
            ≡ S.add (coefficient S.arithmetic ts at_j) (coefficient S.arithmetic ((e, c) ∷ []) at_j)
        both = coefficient-append exponents (R S r) ts ((e, c) ∷ []) at_j

        go : (at_j ≡ e) ⊎ (same at_j e ≡ false) → get_or news j d ≡ coefficient S.arithmetic
            (ts ++ (e, c) ∷ []) at_j
        go (inl is) =
            let here : j ≡ k = sym (place-at b m j h below) ∙ ap (place_of b) is ∙ sym p in
            let was : old ≡ coefficient S.arithmetic ts at_j = o
            ∙ ap (λ x. get_or grid x old) (sym here) ∙ g.each j old below in
            let one : coefficient S.arithmetic ((e, c) ∷ []) at_j ≡ c =
            ap (coefficient S.arithmetic ((e, c) ∷ [])) is ∙ coefficient_one S r e c in
            ap (λ l. get_or l j d) n ∙ get_or-set_at grid k j (S.add old c) d here
            (subst (λ x. x < length grid) here (subst (λ x. j < x) (sym g.size) below))
            ∙ ap₂ S.add was (sym one) ∙ sym both
        go (inr other) =
            let apart : j ≢ k = λ here. true≢false (sym (same_refl e)
            ∙ ap (λ x. same x e) (sym (ap (exponents_at b m) (here ∙ p) ∙ at-place b m e i))
            ∙ other) in
            ap (λ l. get_or l j d) n ∙ get_or-set_other grid k j (S.add old c) d apart
            ∙ g.each j d below
            ∙ sym (r.add-zero (coefficient S.arithmetic ts at_j))
            ∙ ap (S.add (coefficient S.arithmetic ts at_j))
            (sym (coefficient_none S r e at_j c other)) ∙ sym both

    pub holds-term : (grid news : List S.Elem) (ts ts' : Terms S.Elem) (e : List ℕ) (c old : S.Elem)
        (k : ℕ) → 0 < b → IsInside b m e → k ≡ place_of b e → old ≡ get_or grid k old
        → news ≡ set grid k (S.add old c) → ts' ≡ ts ++ (e, c) ∷ [] → Holds S.arithmetic b m grid ts
        → Holds S.arithmetic b m news ts'
    holds-term grid news ts ts' e c old k h i p o n f g = subst (Holds S.arithmetic b m news)
        (sym f) (record {
          size = ap length n ∙ length-set grid k (S.add old c) ∙ g.size;
          each = with_term grid news ts e c old k h i p o n g;
          inside = All-append (λ (t : List ℕ × S.Elem). IsInside b m t.0) ts ((e, c) ∷ []) g.inside
              (All-cons (λ (t : List ℕ × S.Elem). IsInside b m t.0) (e, c) [] i
              (All-nil (λ (t : List ℕ × S.Elem). IsInside b m t.0)));
        })

    module _ (z : IsBounded S.arithmetic S.size) where
      past_place_term : (grid : List S.Elem) (ts rest : Terms S.Elem) (t : List ℕ × S.Elem)
          (old : S.Elem) (k : ℕ) → k < b ^ m → old ≡ get_or grid k old
          → Holds S.arithmetic b m grid ts → IsPast (sum_size (S.size old) (S.size t.1))
          → IsPast (weight S.size (ts ++ t ∷ rest))
      past_place_term grid ts rest t old k h o g past =
          let c = coefficient S.arithmetic ts (exponents_at b m k) in
          let was : old ≡ c = o ∙ g.each k old h in
          let hts = weight-pos (R S r) S.size z ts in
          let hrest = weight-pos (R S r) S.size z (t ∷ rest) in
          subst IsPast (sym (weight-append (R S r) S.size z ts (t ∷ rest)))
          (past_under (sum_size (S.size c) (S.size t.1))
          (sum_size (weight S.size ts) (weight S.size (t ∷ rest)))
          (lcm-pos (weight S.size ts).den (weight S.size (t ∷ rest)).den hts hrest)
          (under-sum (S.size c) (S.size t.1) (weight S.size ts) (weight S.size (t ∷ rest))
          (z.den_pos c) (z.den_pos t.1) hts hrest
          (coefficient_within (R S r) S.size z ts (exponents_at b m k))
          (weight-term (R S r) S.size z [] t rest))
          (subst (λ x. IsPast (sum_size (S.size x) (S.size t.1))) was past))

      pub past_place : (grid : List S.Elem) (ts rest ps : Terms S.Elem) (t : List ℕ × S.Elem)
          (old : S.Elem) (k : ℕ) → k < b ^ m → old ≡ get_or grid k old → ps ≡ ts ++ t ∷ rest
          → Holds S.arithmetic b m grid ts → IsPast (sum_size (S.size old) (S.size t.1))
          → IsPast (weight S.size ps)
      past_place grid ts rest ps t old k h o e g past =
          subst (λ (zs : Terms S.Elem). IsPast (weight S.size zs)) (sym e)
          (past_place_term grid ts rest t old k h o g past)

-- ---- a product, row by row
module _ (S : Scalars) where
  pub shift-none : (e : List ℕ) (c : S.Elem) → shift S.arithmetic e c [] ≡ []
  unfolding Algebra.shift
  shift-none e c = refl

  shift-append : (e : List ℕ) (c : S.Elem) (p q : Terms S.Elem) → shift S.arithmetic e c (p ++ q)
      ≡ shift S.arithmetic e c p ++ shift S.arithmetic e c q
  unfolding Algebra.shift
  shift-append e c [] q = refl
  shift-append e c (t ∷ p) q = ap (λ (zs : Terms S.Elem). (plus e t.0, S.mul c t.1) ∷ zs)
      (shift-append e c p q)

  shift-cons : (e : List ℕ) (c : S.Elem) (t : List ℕ × S.Elem) (q : Terms S.Elem)
      → shift S.arithmetic e c (t ∷ q) ≡ (plus e t.0, S.mul c t.1) ∷ shift S.arithmetic e c q
  unfolding Algebra.shift
  shift-cons e c t q = refl

  -- a row's terms, as a part of the row
  pub shift-at : (e : List ℕ) (c : S.Elem) (ps p back : Terms S.Elem) (t : List ℕ × S.Elem)
      → ps ≡ p ++ t ∷ back
      → shift S.arithmetic e c ps ≡ shift S.arithmetic e c p ++ (plus e t.0, S.mul c t.1)
      ∷ shift S.arithmetic e c back
  shift-at e c ps p back t h = ap (shift S.arithmetic e c) h ∙ shift-append e c p (t ∷ back)
      ∙ ap (λ (zs : Terms S.Elem). shift S.arithmetic e c p ++ zs) (shift-cons e c t back)

  pub shift-next : (e : List ℕ) (c : S.Elem) (p p' : Terms S.Elem) (t : List ℕ × S.Elem)
      → p' ≡ p ++ t ∷ [] → shift S.arithmetic e c p' ≡ shift S.arithmetic e c p ++ (
        plus e t.0,
        S.mul c t.1,
      ) ∷ []
  shift-next e c p p' t h = shift-at e c p' p [] t h
      ∙ ap (λ (zs : Terms S.Elem). shift S.arithmetic e c p ++ (plus e t.0, S.mul c t.1) ∷ zs)
      (shift-none e c)

  pub product-none : (q : Terms S.Elem) → times S.arithmetic [] q ≡ []
  unfolding Algebra.times
  product-none q = refl

  pub product-one : (t : List ℕ × S.Elem) (q : Terms S.Elem) → times S.arithmetic (t ∷ []) q
      ≡ shift S.arithmetic t.0 t.1 q
  unfolding Algebra.times
  product-one t q = append-nil (shift S.arithmetic t.0 t.1 q)

  pub product-next : (p p' q : Terms S.Elem) (t : List ℕ × S.Elem) → p' ≡ p ++ t ∷ []
      → times S.arithmetic p' q ≡ times S.arithmetic p q ++ shift S.arithmetic t.0 t.1 q
  product-next p p' q t h = ap (λ (zs : Terms S.Elem). times S.arithmetic zs q) h
      ∙ times-append S p (t ∷ []) q ∙ ap (λ (zs : Terms S.Elem). times S.arithmetic p q ++ zs)
      (product-one t q)

-- ---- what is read
module _ (S : Scalars) (b m : ℕ) where
  pub read-nil : (numbers : List S.Elem) (ts : Terms S.Elem) → numbers ≡ [] → ts ≡ []
      → Read S.arithmetic b m numbers ts
  unfolding Algebra.coefficient sum_over IsDistinct
  read-nil numbers ts e f = rw (e, f) (record {
    at = λ k d h. absurd (omega arith);
    before = All-nil (λ (t : List ℕ × S.Elem). place_of b t.0 < 0);
    inside = All-nil (λ (t : List ℕ × S.Elem). IsInside b m t.0);
    distinct = tt;
  })

  -- what stands before a place doesn't stand at it
  apart_before : (ts : Terms S.Elem) (k : ℕ) → 0 < b → k < b ^ m → All (λ t. place_of b t.0 < k) ts
      → Apart (exponents_at b m k) ts
  unfolding Each
  apart_before [] k h l a = tt
  apart_before (t ∷ ts) k h l a = (
    same_apart (exponents_at b m k) t.0
        (λ is. omega (
          arith,
          All-head (λ (u : List ℕ × S.Elem). place_of b u.0 < k) t ts a,
          sym (place-at b m k h l) ∙ ap (place_of b) is,
        )),
    apart_before ts k h l (All-tail (λ (u : List ℕ × S.Elem). place_of b u.0 < k) t ts a),
  )

  -- what isn't the exponents at its place stands nowhere
  apart_outside : (e : List ℕ) (ts : Terms S.Elem) → same e (exponents_at b m (place_of b e))
      ≡ false → All (λ t. IsInside b m t.0) ts → Apart e ts
  unfolding Each
  apart_outside e [] other a = tt
  apart_outside e (t ∷ ts) other a = (
    same_apart e t.0 inside_there,
    apart_outside e ts other (All-tail (λ (u : List ℕ × S.Elem). IsInside b m u.0) t ts a),
  )
    where
      inside : IsInside b m t.0
      inside = All-head (λ (u : List ℕ × S.Elem). IsInside b m u.0) t ts a

      inside_there : e ≢ t.0
      inside_there is =
          let back : exponents_at b m (place_of b e) ≡ e = ap (λ d. exponents_at b m (place_of b d))
          is ∙ at-place b m t.0 inside ∙ sym is in
          true≢false (sym (same_refl e) ∙ ap (same e) (sym back) ∙ other)

  -- places below one more
  last_or_before : (numbers : List S.Elem) (a : S.Elem) (k : ℕ) → k < length (numbers ++ a ∷ [])
      → (k ≡ length numbers) ⊎ (k < length numbers)
  last_or_before numbers a k h = eq-or-lt_of_le (omega (arith, length-append numbers (a ∷ []), h))

  before_more : (numbers : List S.Elem) (a : S.Elem) (ts : Terms S.Elem)
      → All (λ t. place_of b t.0 < length numbers) ts
      → All (λ t. place_of b t.0 < length (numbers ++ a ∷ [])) ts
  before_more numbers a ts h = λ k d below. omega (
    arith,
    length-append numbers (a ∷ []),
    h k d below,
  )

  last_number : (numbers : List S.Elem) (a : S.Elem) (k : ℕ) (d : S.Elem) → k ≡ length numbers
      → get_or (numbers ++ a ∷ []) k d ≡ a
  last_number numbers a k d is = ap (λ j. get_or (numbers ++ a ∷ []) j d) is
      ∙ get_or-append_seam numbers a [] d

  module _ (r : IsRing S.arithmetic) where
    pub read-zero : (numbers numbers' : List S.Elem) (ts : Terms S.Elem) (a : S.Elem) → 0 < b
        → length numbers < b ^ m → a ≡ S.zero → numbers' ≡ numbers ++ a ∷ []
        → Read S.arithmetic b m numbers ts → Read S.arithmetic b m numbers' ts
    read-zero numbers numbers' ts a h l z e g = subst (λ ns. Read S.arithmetic b m ns ts) (sym e)
        (record {
          at = λ k d below. go k d (last_or_before numbers a k below);
          before = before_more numbers a ts g.before;
          inside = g.inside;
          distinct = g.distinct;
        })
      where
        go : (k : ℕ) (d : S.Elem) → (k ≡ length numbers) ⊎ (k < length numbers)
            → coefficient S.arithmetic ts (exponents_at b m k) ≡ get_or (numbers ++ a ∷ []) k d
        go k d (inl is) =
            ap (λ j. coefficient S.arithmetic ts (exponents_at b m j)) is
            ∙ coefficient_apart (R S r) (exponents_at b m (length numbers)) ts
            (apart_before ts (length numbers) h l g.before)
            ∙ sym z ∙ sym (last_number numbers a k d is)
        go k d (inr below) = g.at k d below ∙ sym (get_or_append_left numbers (a ∷ []) d k below)

    read-push : (numbers : List S.Elem) (ts : Terms S.Elem) (a : S.Elem) → 0 < b
        → length numbers < b ^ m → Read S.arithmetic b m numbers ts
        → Read S.arithmetic b m (numbers ++ a ∷ []) (ts ++ (exponents_at b m (length numbers), a)
        ∷ [])
    read-push numbers ts a h l g = record {
      at = λ k d below. go k d (last_or_before numbers a k below);
      before = All-append (λ (t : List ℕ × S.Elem). place_of b t.0 < length (numbers ++ a ∷ [])) ts
          (last ∷ []) (before_more numbers a ts g.before)
          (All-cons (λ (t : List ℕ × S.Elem). place_of b t.0 < length (numbers ++ a ∷ [])) last []
          (omega (arith, length-append numbers (a ∷ []), place-at b m (length numbers) h l))
          (All-nil (λ (t : List ℕ × S.Elem). place_of b t.0 < length (numbers ++ a ∷ []))));
      inside = All-append (λ (t : List ℕ × S.Elem). IsInside b m t.0) ts (last ∷ []) g.inside
          (All-cons (λ (t : List ℕ × S.Elem). IsInside b m t.0) last []
          (inside-at b m (length numbers) h) (All-nil (λ (t : List ℕ × S.Elem).
          IsInside b m t.0)));
      distinct = distinct-push last ts apart g.distinct;
    }
      where
        last : List ℕ × S.Elem
        last = (exponents_at b m (length numbers), a)

        apart : Apart last.0 ts
        apart = apart_before ts (length numbers) h l g.before

        both : (e : List ℕ) → coefficient S.arithmetic (ts ++ last ∷ []) e
            ≡ S.add (coefficient S.arithmetic ts e) (coefficient S.arithmetic (last ∷ []) e)
        both e = coefficient-append exponents (R S r) ts (last ∷ []) e

        other : (k : ℕ) → k < length numbers → (exponents_at b m k ≡ last.0)
            ⊎ (same (exponents_at b m k) last.0 ≡ false) → same (exponents_at b m k) last.0 ≡ false
        other k below (inl is) =
            absurd (omega (
              arith,
              below,
              sym (place-at b m k h (omega (arith, below, l)))
                  ∙ ap (place_of b) is ∙ place-at b m (length numbers) h l,
            ))
        other k below (inr is) = is

        go : (k : ℕ) (d : S.Elem) → (k ≡ length numbers) ⊎ (k < length numbers)
            → coefficient S.arithmetic (ts ++ last ∷ []) (exponents_at b m k)
            ≡ get_or (numbers ++ a ∷ []) k d
        go k d (inl is) =
            ap (λ j. coefficient S.arithmetic (ts ++ last ∷ []) (exponents_at b m j)) is
            ∙ both last.0
            ∙ ap₂ S.add (coefficient_apart (R S r) last.0 ts apart) (coefficient_one S r last.0 a)
            ∙ zero-add (R S r) a ∙ sym (last_number numbers a k d is)
        go k d (inr below) =
            both (exponents_at b m k)
            ∙ ap (S.add (coefficient S.arithmetic ts (exponents_at b m k)))
            (coefficient_none S r last.0 (exponents_at b m k) a
            (other k below (same_cases (exponents_at b m k) last.0)))
            ∙ r.add-zero (coefficient S.arithmetic ts (exponents_at b m k)) ∙ g.at k d below
            ∙ sym (get_or_append_left numbers (a ∷ []) d k below)

    pub read-term : (numbers numbers' : List S.Elem) (ts ts' : Terms S.Elem) (es : List ℕ)
        (a : S.Elem) (k : ℕ) → 0 < b → k < b ^ m → k ≡ length numbers → es ≡ exponents_at b m k
        → numbers' ≡ numbers ++ a ∷ [] → Takes S es a ts ts' → Read S.arithmetic b m numbers ts
        → Read S.arithmetic b m numbers' ts'
    read-term numbers numbers' ts ts' es a k h l n e f (inl none) g =
        subst (Read S.arithmetic b m numbers') (sym none.1) (read-zero numbers numbers' ts a h
        (subst (λ j. j < b ^ m) n l) none.0 f g)
    read-term numbers numbers' ts ts' es a k h l n e f (inr some) g =
        let all : ts' ≡ ts ++ (exponents_at b m (length numbers), a) ∷ [] = some.1
        ∙ ap (λ (d : List ℕ). ts ++ (d, a) ∷ []) (e ∙ ap (exponents_at b m) n) in
        subst (Read S.arithmetic b m numbers') (sym all)
        (subst (λ ns. Read S.arithmetic b m ns (ts ++ (exponents_at b m (length numbers), a)
        ∷ [])) (sym f) (read-push numbers ts a h (subst (λ j. j < b ^ m) n l) g))

    pub read-same : (grid : List S.Elem) (read held : Terms S.Elem) → 0 < b
        → Read S.arithmetic b m grid read → Holds S.arithmetic b m grid held
        → Same S.arithmetic read held
    read-same grid read held h x y =
        record { at = λ e. go e (same_cases e (exponents_at b m (place_of b e))) }
      where
        go : (e : List ℕ) → (e ≡ exponents_at b m (place_of b e))
            ⊎ (same e (exponents_at b m (place_of b e)) ≡ false) → coefficient S.arithmetic read e
            ≡ coefficient S.arithmetic held e
        go e (inl is) =
            let below : place_of b e < b ^ m = subst (λ d. place_of b d < b ^ m) (sym is)
            (place-bound b m (exponents_at b m (place_of b e)) (inside-at b m (place_of b e) h))
            in
            ap (coefficient S.arithmetic read) is
            ∙ x.at (place_of b e) S.zero (subst (λ n. place_of b e < n) (sym y.size) below)
            ∙ y.each (place_of b e) S.zero below ∙ ap (coefficient S.arithmetic held) (sym is)
        go e (inr other) = coefficient_apart (R S r) e read (apart_outside e read other x.inside)
            ∙ sym (coefficient_apart (R S r) e held (apart_outside e held other y.inside))

  arities_inside : {K : Type 0} (meaning : K → S.Elem) (xs : List (Term K))
      → All (λ t. IsInside b m t.0) (terms_of meaning xs) → All (λ t. length t.mono ≡ m) xs
  arities_inside meaning [] h = All-nil (λ t. length t.mono ≡ m)
  arities_inside meaning (x ∷ xs) h =
      let i = All-head (λ (t : List ℕ × S.Elem). IsInside b m t.0) (term_of meaning x)
      (terms_of meaning xs) h in
      All-cons (λ t. length t.mono ≡ m) x xs i.arity
      (arities_inside meaning xs (All-tail (λ (t : List ℕ × S.Elem). IsInside b m t.0)
      (term_of meaning x) (terms_of meaning xs) h))

  pub arities_read : {K : Type 0} (meaning : K → S.Elem) (numbers : List S.Elem)
      (xs : List (Term K)) → Read S.arithmetic b m numbers (terms_of meaning xs)
      → All (λ t. length t.mono ≡ m) xs
  arities_read meaning numbers xs g = arities_inside meaning xs g.inside
