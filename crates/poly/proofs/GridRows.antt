-- Rows of a product on a grid: the products of one term with some terms.
--   grid_for_factors         a grid for terms whose exponents are bounded
--   grid_for_row             a grid for a product is one for each row
--   inside_own               exponents that are inside, by their own number
--   row_inside, row_place    a term of a row, and the place of its product
--   Row S b m t q front before now      where before holds some terms, now holds them and the products of t with front, which begins q
--   row_start, row_step, row_end        nothing, one product more, and the whole row
--   row_add_past, row_mul_past          where a sum or a product in a row is past, so is the product
--   past_so_far              where the product with a beginning is past, so is the product
--   number_at                a number of an array
use Rattle.std.proofs.Common.{◌≡◌, ◌<◌, ◌≤◌, ◌+◌, ◌^◌, inl, ℕ, List, [], ◌∷◌, ◌++◌, map, length, get_or, set, refl, sym, ap, subst, ◌∙◌, arith, append_assoc}
use Rattle.std.specs.List.{All}
use Rattle.std.proofs.Math.ListN.{get_or-map}
use Rattle.std.proofs.lemmas.List.{append-nil, length-set}
use Rattle.std.proofs.lemmas.List.Elements.{All-nil, All-cons, All-head, All-tail, All-append, All-map}
use Rattle.algebra.specs.Ring.{IsRing}
use Rattle.algebra.specs.Scalars.{Scalars, IsBounded}
use Rattle.algebra.specs.Size.{IsPast, sum_size, product_size}
use Rattle.polynomials.specs.Algebra as Algebra
use Rattle.polynomials.specs.Exponent.{plus}
use Rattle.polynomials.specs.Terms.{Terms, shift, times}
use Rattle.polynomials.specs.Weight.{IsPastProduct}
use Rattle.polynomials.proofs.Past.{past_terms_product, past_product_front, past_product_list}
use Rattle.poly.specs.declared.Term.{Term}
use Rattle.poly.specs.View.{term_of, terms_of}
use Rattle.poly.specs.Places.{place_of, IsInside, AreInside, IsGridFor}
use Rattle.poly.specs.Grid.{Holds}
use Rattle.poly.proofs.Places.{inside-below, inside-plus, place-bound, place-plus}
use Rattle.poly.proofs.Products.{times-append}
use Rattle.poly.proofs.GridHolds.{holds-term, past_place, shift-none, shift-next, shift-at, product-one, product-next}

pub number_at : {X Y : Type 0} (f : X → Y) (xs : List X) (i : ℕ) (x : X) → x ≡ get_or xs i x
    → f x ≡ get_or (map f xs) i (f x)
number_at f xs i x is = ap f is ∙ sym (get_or-map f xs i x)

pub inside_own : (b m : ℕ) (es : List ℕ) → IsInside b m es → IsInside b (length es) es
inside_own b m es i = record { arity = refl; each = i.each }

-- ---- grids
module _ {X : Type 0} (P : X → Type 0) where
  all_before : (xs ys : List X) → All P (xs ++ ys) → All P xs
  all_before [] ys a = All-nil P
  all_before (x ∷ xs) ys a = All-cons P x xs (All-head P x (xs ++ ys) a)
      (all_before xs ys (All-tail P x (xs ++ ys) a))

  all_after : (xs ys : List X) → All P (xs ++ ys) → All P ys
  all_after [] ys a = a
  all_after (x ∷ xs) ys a = all_after xs ys (All-tail P x (xs ++ ys) a)

  all_between : (xs ys : List X) (y : X) → All P (xs ++ y ∷ ys) → P y
  all_between xs ys y a = All-head P y ys (all_after xs (y ∷ ys) a)

module _ (S : Scalars) (b m : ℕ) where
  abbrev Inside : List ℕ × S.Elem → Type 0
  Inside t = IsInside b m t.0

  -- bounds of exponents
  module _ (x y : ℕ) (room : x + y < b) where
    inside_shift : (d : List ℕ) (c : S.Elem) (q : Terms S.Elem) → length d ≡ m → All (λ e. e ≤ x) d
        → All (λ u. length u.0 ≡ m) q → All (λ u. All (λ e. e ≤ y) u.0) q
        → AreInside b m (shift S.arithmetic d c q)
    unfolding Algebra.shift
    inside_shift d c [] l a k z = All-nil Inside
    inside_shift d c (u ∷ q) l a k z =
        let head = inside-plus b m x y d u.0 l (All-head (λ (v : List ℕ × S.Elem). length v.0 ≡ m) u
        q k) a (All-head (λ (v : List ℕ × S.Elem). All (λ e. e ≤ y) v.0) u q z) room in
        All-cons Inside (plus d u.0, S.mul c u.1) (shift S.arithmetic d c q) head
        (inside_shift d c q l a (All-tail (λ (v : List ℕ × S.Elem). length v.0 ≡ m) u q k)
        (All-tail (λ (v : List ℕ × S.Elem). All (λ e. e ≤ y) v.0) u q z))

    inside_times : (p q : Terms S.Elem) → All (λ t. length t.0 ≡ m) p
        → All (λ t. All (λ e. e ≤ x) t.0) p → All (λ u. length u.0 ≡ m) q
        → All (λ u. All (λ e. e ≤ y) u.0) q → AreInside b m (times S.arithmetic p q)
    unfolding Algebra.times
    inside_times [] q l a k z = All-nil Inside
    inside_times (t ∷ p) q l a k z =
        All-append Inside (shift S.arithmetic t.0 t.1 q) (times S.arithmetic p q)
        (inside_shift t.0 t.1 q (All-head (λ (v : List ℕ × S.Elem). length v.0 ≡ m) t p l)
        (All-head (λ (v : List ℕ × S.Elem). All (λ e. e ≤ x) v.0) t p a) k z)
        (inside_times p q (All-tail (λ (v : List ℕ × S.Elem). length v.0 ≡ m) t p l)
        (All-tail (λ (v : List ℕ × S.Elem). All (λ e. e ≤ x) v.0) t p a) k z)

  inside_all : (g : ℕ) (p : Terms S.Elem) → g < b → All (λ t. length t.0 ≡ m) p
      → All (λ t. All (λ e. e ≤ g) t.0) p → AreInside b m p
  inside_all g p h l a = λ k d n. inside-below b m g _ (l k d n) (a k d n) h

  pub grid_for_row : (p front back q : Terms S.Elem) (t : List ℕ × S.Elem) → p ≡ front ++ t ∷ back
      → IsGridFor S.arithmetic b m p q → IsGridFor S.arithmetic b m (t ∷ []) q
  grid_for_row p front back q t e g = record {
    positive = g.positive;
    narrow = g.narrow;
    small = g.small;
    left = All-cons Inside t [] (all_between Inside front back t (subst (AreInside b m) e g.left))
        (All-nil Inside);
    right = g.right;
    products = all_before Inside (times S.arithmetic (t ∷ []) q) (times S.arithmetic back q)
        (subst (AreInside b m) (times-append S (t ∷ []) back q)
        (all_after Inside (times S.arithmetic front q) (times S.arithmetic (t ∷ back) q) whole));
  }
    where
      whole : AreInside b m (times S.arithmetic front q ++ times S.arithmetic (t ∷ back) q)
      whole = subst (AreInside b m) (ap (λ (zs : Terms S.Elem). times S.arithmetic zs q) e
          ∙ times-append S front (t ∷ back) q) g.products

  -- ---- a row
  module _ (t : List ℕ × S.Elem) (q : Terms S.Elem) (g : IsGridFor S.arithmetic b m (t ∷ []) q)
      (front back : Terms S.Elem) (u : List ℕ × S.Elem) (is : q ≡ front ++ u ∷ back) where
    pub row_inside : IsInside b m t.0
    row_inside = All-head Inside t [] g.left

    pub other_inside : IsInside b m u.0
    other_inside = all_between Inside front back u (subst (AreInside b m) is g.right)

    product_inside : IsInside b m (plus t.0 u.0)
    product_inside = all_between Inside (shift S.arithmetic t.0 t.1 front)
        (shift S.arithmetic t.0 t.1 back) (plus t.0 u.0, S.mul t.1 u.1)
        (subst (AreInside b m) (product-one S t q ∙ shift-at S t.0 t.1 q front back u is)
        g.products)

    product_place : place_of b t.0 + place_of b u.0 ≡ place_of b (plus t.0 u.0)
    product_place = sym (place-plus b t.0 u.0 (row_inside.arity ∙ sym other_inside.arity))

    pub row_place : place_of b t.0 + place_of b u.0 < b ^ m
    row_place = subst (λ n. n < b ^ m) (sym product_place) (place-bound b m (plus t.0 u.0)
        product_inside)

  pub record Row (t : List ℕ × S.Elem) (q front : Terms S.Elem) (before now : List S.Elem) : Type
      0 where
    pub size : length now ≡ length before
    pub holds : (p : Terms S.Elem) → Holds S.arithmetic b m before (times S.arithmetic p q)
        → Holds S.arithmetic b m now (times S.arithmetic p q ++ shift S.arithmetic t.0 t.1 front)

  module _ (t : List ℕ × S.Elem) (q : Terms S.Elem) where
    pub row_start : (front : Terms S.Elem) (before now : List S.Elem) → front ≡ [] → now ≡ before
        → Row t q front before now
    row_start front before now e f = record {
      size = ap length f;
      holds = λ p h.
          subst (λ l. Holds S.arithmetic b m l (times S.arithmetic p q ++ shift S.arithmetic t.0 t.1
          front)) (sym f)
          (subst (Holds S.arithmetic b m before)
          (sym (ap (λ (zs : Terms S.Elem). times S.arithmetic p q ++ zs)
          (ap (shift S.arithmetic t.0 t.1) e ∙ shift-none S t.0 t.1)
          ∙ append-nil (times S.arithmetic p q))) h);
    }

    pub row_end : (front : Terms S.Elem) (before now : List S.Elem) → front ≡ q
        → Row t q front before now → (p : Terms S.Elem)
        → Holds S.arithmetic b m before (times S.arithmetic p q)
        → Holds S.arithmetic b m now (times S.arithmetic (p ++ t ∷ []) q)
    row_end front before now e row p h =
        subst (Holds S.arithmetic b m now) (ap (λ (zs : Terms S.Elem). times S.arithmetic p q
        ++ shift S.arithmetic t.0 t.1 zs) e ∙ sym (product-next S p (p ++ t ∷ []) q t refl))
        (row.holds p h)

    module _ (r : IsRing S.arithmetic) (front back : Terms S.Elem) (u : List ℕ × S.Elem)
        (old x : S.Elem) (k : ℕ) where
      pub row_step : (front' : Terms S.Elem) (before now news : List S.Elem)
          → IsGridFor S.arithmetic b m (t ∷ []) q → q ≡ front ++ u ∷ back → front' ≡ front ++ u ∷ []
          → k ≡ place_of b t.0 + place_of b u.0 → x ≡ S.mul t.1 u.1
          → old ≡ get_or now k old → news ≡ set now k (S.add old x) → Row t q front before now
          → Row t q front' before news
      row_step front' before now news g is e at mul o n row = record {
        size = ap length n ∙ length-set now k (S.add old x) ∙ row.size;
        holds = λ p h. holds-term S b m r now news (times S.arithmetic p q ++ shift S.arithmetic t.0
            t.1 front) (times S.arithmetic p q ++ shift S.arithmetic t.0 t.1 front')
            (plus t.0 u.0) x old k g.positive
            (product_inside t q g front back u is) (at ∙ product_place t q g front back u is) o n
            (more p) (row.holds p h);
      }
        where
          next : shift S.arithmetic t.0 t.1 front' ≡ shift S.arithmetic t.0 t.1 front
              ++ (plus t.0 u.0, x) ∷ []
          next = shift-next S t.0 t.1 front front' u e
              ∙ ap (λ (a : S.Elem). shift S.arithmetic t.0 t.1 front ++ (plus t.0 u.0, a) ∷ [])
              (sym mul)

          more : (p : Terms S.Elem) → times S.arithmetic p q ++ shift S.arithmetic t.0 t.1 front'
              ≡ (times S.arithmetic p q ++ shift S.arithmetic t.0 t.1 front) ++ (plus t.0 u.0, x)
              ∷ []
          more p = ap (λ (zs : Terms S.Elem). times S.arithmetic p q ++ zs) next
              ∙ sym (append_assoc (times S.arithmetic p q) (shift S.arithmetic t.0 t.1 front)
              ((plus t.0 u.0, x) ∷ []))

      module _ (z : IsBounded S.arithmetic S.size) where
        pub row_mul_past : q ≡ front ++ u ∷ back → IsPast (product_size (S.size t.1) (S.size u.1))
            → (p : Terms S.Elem) → IsPastProduct S (p ++ t ∷ []) q
        row_mul_past is past p = subst (IsPastProduct S (p ++ t ∷ [])) (sym is)
            (past_terms_product S r z p t [] front u back (inl past))

        pub row_add_past : (before now : List S.Elem) → IsGridFor S.arithmetic b m (t ∷ []) q
            → q ≡ front ++ u ∷ back → k ≡ place_of b t.0 + place_of b u.0 → x ≡ S.mul t.1 u.1
            → old ≡ get_or now k old
            → Row t q front before now → IsPast (sum_size (S.size old) (S.size x))
            → (p : Terms S.Elem) → Holds S.arithmetic b m before (times S.arithmetic p q)
            → IsPastProduct S (p ++ t ∷ []) q
        row_add_past before now g is at mul o row past p h =
            let done = shift S.arithmetic t.0 t.1 front in
            let rest = shift S.arithmetic t.0 t.1 back in
            let row_is : shift S.arithmetic t.0 t.1 q ≡ done ++ (plus t.0 u.0, x) ∷ rest =
            shift-at S t.0 t.1 q front back u is
            ∙ ap (λ (a : S.Elem). done ++ (plus t.0 u.0, a) ∷ rest) (sym mul) in
            let whole : times S.arithmetic (p ++ t ∷ []) q ≡ (times S.arithmetic p q ++ done)
            ++ (plus t.0 u.0, x) ∷ rest =
            product-next S p (p ++ t ∷ []) q t refl
            ∙ ap (λ (zs : Terms S.Elem). times S.arithmetic p q ++ zs) row_is
            ∙ sym (append_assoc (times S.arithmetic p q) done ((plus t.0 u.0, x) ∷ rest)) in
            past_product_list S r z (p ++ t ∷ []) q
            (past_place S b m r z now (times S.arithmetic p q ++ done) rest
            (times S.arithmetic (p ++ t ∷ []) q) (plus t.0 u.0, x) old k
            (subst (λ n. n < b ^ m) (sym at) (row_place t q g front back u is)) o whole
            (row.holds p h) past)

pub past_so_far : (S : Scalars) (r : IsRing S.arithmetic) (z : IsBounded S.arithmetic S.size)
    (ps p back q : Terms S.Elem) (t : List ℕ × S.Elem) → ps ≡ p ++ t ∷ back
    → IsPastProduct S (p ++ t ∷ []) q → IsPastProduct S ps q
past_so_far S r z ps p back q t e past =
    let is : ps ≡ (p ++ t ∷ []) ++ back = e ∙ sym (append_assoc p (t ∷ []) back) in
    subst (λ (zs : Terms S.Elem). IsPastProduct S zs q) (sym is)
    (past_product_front S r z (p ++ t ∷ []) back q past)

-- ---- a grid for two factors
module _ (S : Scalars) {K : Type 0} (meaning : K → S.Elem) (m : ℕ) where
  pub grid_for_factors : (left right : List (Term K)) (x y : ℕ) → All (λ t. length t.mono ≡ m) left
      → All (λ t. length t.mono ≡ m) right → All (λ t. All (λ e. e ≤ x) t.mono) left
      → All (λ t. All (λ e. e ≤ y) t.mono) right
      → x + y + 1 ≤ 65536 → (x + y + 1) ^ m ≤ 1048576
      → IsGridFor S.arithmetic (x + y + 1) m (terms_of meaning left) (terms_of meaning right)
  grid_for_factors left right x y l k a z narrow small = record {
    positive = omega arith;
    narrow = narrow;
    small = small;
    left = inside_all S (x + y + 1) m x (terms_of meaning left) (omega arith) left_arity left_bound;
    right = inside_all S (x + y + 1) m y (terms_of meaning right) (omega arith) right_arity
        right_bound;
    products = inside_times S (x + y + 1) m x y (omega arith) (terms_of meaning left)
        (terms_of meaning right) left_arity left_bound right_arity right_bound;
  }
    where
      left_arity : All (λ t. length t.0 ≡ m) (terms_of meaning left)
      left_arity = All-map (λ (t : List ℕ × S.Elem). length t.0 ≡ m) (term_of meaning) left l

      left_bound : All (λ t. All (λ e. e ≤ x) t.0) (terms_of meaning left)
      left_bound = All-map (λ (t : List ℕ × S.Elem). All (λ e. e ≤ x) t.0) (term_of meaning) left a

      right_arity : All (λ t. length t.0 ≡ m) (terms_of meaning right)
      right_arity = All-map (λ (t : List ℕ × S.Elem). length t.0 ≡ m) (term_of meaning) right k

      right_bound : All (λ t. All (λ e. e ≤ y) t.0) (terms_of meaning right)
      right_bound = All-map (λ (t : List ℕ × S.Elem). All (λ e. e ≤ y) t.0) (term_of meaning) right
          z
