-- The monomials up to a degree: all of them, each once, in ascending order.
--   all_within               each has its number of exponents, and at most the degree
--   in_monomials             each that has them is among them
--   all_ascend               each is below all later ones
--   distinct_ascending       so no two are the same
--   are_monomials_up_to      and the list is that of the monomials up to the degree
--   shorter_monomials, lower_monomials      those up to a lesser degree are the ones of the list that have it
--   fewer_monomials          there are no more in fewer variables
--   longer_below             the lists up to a lesser number, joined, are at most as long
use Rattle.std.proofs.Common.{◌≡◌, ◌⊎◌, inl, inr, ℕ, zero, suc, ◌+◌, ◌-◌, ◌≤◌, ◌<◌, List, [], ◌∷◌, ◌++◌, map, length, sum, refl, sym, ap, ap₂, subst, ◌∙◌, arith, Ordering, Less, Equal, nat_cmp, Bool, true, false, cond, nat_le, le-leb, zero-add, length-append}
use Rattle.std.proofs.lemmas.Bool.{cases_lt, lt-leb}
use Rattle.std.proofs.lemmas.List.{append-nil, length_push, length-map}
use Rattle.std.proofs.lemmas.List.Elements.{filter-append}
use Rattle.std.proofs.lemmas.List.Sums.{sum_by-cons, sum_by_push}
use Rattle.std.specs.Cmp.{nat_cmp_is}
use Rattle.std.specs.Cmp.Lexicographic.{slice_cmp}
use Rattle.std.specs.List.{filter}
use Rattle.std.specs.Ordering.{ordering_then}
use Rattle.algebra.specs.Each.{Each}
use Rattle.algebra.specs.In.{In}
use Rattle.algebra.proofs.Each.{each-append, each-map, each_weaker}
use Rattle.algebra.proofs.In.{in_left, in_right, map-in}
use Rattle.polynomials.specs.Exponent.{same}
use Rattle.polynomials.specs.Order.{compare, grevlex}
use Rattle.polynomials.proofs.Exponent.{same_cases}
use Rattle.polynomials.proofs.Order.{less_irrefl}
use Rattle.polynomials.proofs.Orders.{grevlex_order}
use Rattle.closures.specs.UpTo.{AreDistinct}
use Rattle.closures.specs.Monomials.{join_below, of_degree, monomials_up_to, AreAscending, AreMonomialsUpTo}

-- ---- lists behind one another
module _ {X : Type 0} (f : ℕ → List X) where
  each_below : (P : X → Type 0) (n : ℕ) → ((t : ℕ) → t < n → Each P (f t))
      → Each P (join_below f n)
  unfolding join_below Each
  each_below P zero h = tt
  each_below P (suc n) h =
      each-append P (join_below f n) (f n) (each_below P n (λ t l. h t (omega arith)))
      (h n (omega arith))

  in_below : (x : X) (t n : ℕ) → t < n → In x (f t) → In x (join_below f n)
  unfolding join_below
  in_below x t zero l i = absurd (omega arith)
  in_below x t (suc n) l i = go (cases_lt t n) (λ k. in_below x t n k i)
    where
      go : (t < n) ⊎ (n ≤ t) → (t < n → In x (join_below f n)) → In x (join_below f n ++ f n)
      go (inl k) h = in_left x (join_below f n) (f n) (h k)
      go (inr k) h =
          let e : t ≡ n = omega arith in
          in_right x (join_below f n) (f n) (subst (λ k. In x (f k)) e i)

  pub longer_below : (s t : ℕ) → s ≤ t → length (join_below f s) ≤ length (join_below f t)
  unfolding join_below
  longer_below s zero l = subst (λ k. length (join_below f k) ≤ 0) (let e : 0 ≡ s = omega arith in
      e) (omega arith)
  longer_below s (suc t) l = go (cases_lt t s) (λ k. longer_below s t k)
    where
      go : (t < s) ⊎ (s ≤ t) → (s ≤ t → length (join_below f s) ≤ length (join_below f t))
          → length (join_below f s) ≤ length (join_below f t ++ f t)
      go (inl k) h =
          let e : suc t ≡ s = omega arith in
          subst (λ k. length (join_below f k) ≤ length (join_below f t ++ f t)) e (omega arith)
      go (inr k) h = omega (arith, length-append (join_below f t) (f t), h k)

-- ---- one variable more
abbrev with_last : ℕ → List ℕ → List ℕ
with_last t e = e ++ (t - sum e) ∷ []

sum-last : (t : ℕ) (e : List ℕ) → sum e ≤ t → sum (with_last t e) ≡ t
sum-last t e l = sum_by_push (λ k. k) e (t - sum e) ∙ omega arith

abbrev Within : ℕ → ℕ → List ℕ → Type 0
Within m d e = (length e ≡ m) × (sum e ≤ d)

within_more : (m t d : ℕ) → t ≤ d → (e : List ℕ) → Within m t e → Within (suc m) d (with_last t e)
within_more m t d l e h = (
  length_push e (t - sum e) ∙ omega (arith, h.0),
  omega (arith, sum-last t e h.1, h.1, l),
)

pub all_within : (m d : ℕ) → Each (Within m d) (monomials_up_to m d)
unfolding monomials_up_to Each
all_within zero d = ((refl, omega arith), tt)
all_within (suc m) d =
    each_below (λ t. of_degree t (monomials_up_to m t)) (Within (suc m) d) (suc d)
    (λ t l. each-map (Within (suc m) d) (with_last t) (monomials_up_to m t)
    (each_weaker (Within m t) (λ e. Within (suc m) d (with_last t e))
    (within_more m t d (omega arith)) (monomials_up_to m t) (all_within m t)))

-- a list that isn't empty is one before its last number
pub record HasLast (m : ℕ) (e : List ℕ) : Type 0 where
  pub front : List ℕ
  pub last : ℕ
  pub is : e ≡ front ++ last ∷ []
  pub count : length front ≡ m

last_of : (m : ℕ) (e : List ℕ) → length e ≡ suc m → HasLast m e
last_of m [] l = absurd (omega arith)
last_of zero (n ∷ []) l = record { front = []; last = n; is = refl; count = refl }
last_of zero (n ∷ k ∷ e) l = absurd (omega arith)
last_of (suc m) (n ∷ e) l =
    let h = last_of m e (omega arith) in
    record { front = n ∷ h.front; last = h.last; is = ap (λ r. n ∷ r) h.is; count = ap suc h.count }

pub in_monomials : (m d : ℕ) (e : List ℕ) → length e ≡ m → sum e ≤ d → In e (monomials_up_to m d)
unfolding monomials_up_to
in_monomials zero d [] l s = inl refl
in_monomials zero d (n ∷ e) l s = absurd (omega arith)
in_monomials (suc m) d e l s =
    let h = last_of m e l in
    let total : sum e ≡ sum h.front + h.last =
    ap sum h.is ∙ sum_by_push (λ k. k) h.front h.last in
    let i : In h.front (monomials_up_to m (sum e)) =
    in_monomials m (sum e) h.front h.count (omega (arith, total)) in
    let same_last : with_last (sum e) h.front ≡ e =
    ap (λ k. h.front ++ k ∷ []) (omega (arith, total)) ∙ sym h.is in
    in_below (λ t. of_degree t (monomials_up_to m t)) e (sum e) (suc d) (omega arith)
    (subst (λ x. In x (of_degree (sum e) (monomials_up_to m (sum e)))) same_last
    (map-in (with_last (sum e)) (monomials_up_to m (sum e)) h.front i))

-- ---- the order
grevlex-last : (e : List ℕ) (n : ℕ) → grevlex (e ++ n ∷ []) ≡ (sum e + n) ∷ grevlex e
unfolding grevlex
grevlex-last [] n = ap (λ s. s ∷ []) (sym (zero-add n))
grevlex-last (m ∷ e) n =
    ap (λ r. map (λ k. m + k) r ++ m ∷ []) (grevlex-last e n)
    ∙ ap (λ s. s ∷ grevlex (m ∷ e)) (omega (arith, sum_by-cons (λ k. k) m e))

compare-last : (d e : List ℕ) (j k : ℕ)
    → compare grevlex (d ++ j ∷ []) (e ++ k ∷ [])
    ≡ ordering_then (nat_cmp (sum d + j) (sum e + k)) (compare grevlex d e)
unfolding compare
compare-last d e j k = ap₂ (slice_cmp nat_cmp) (grevlex-last d j) (grevlex-last e k)

same_sums : (s t : ℕ) (o : Ordering) → s ≡ t → ordering_then (nat_cmp s t) o ≡ o
same_sums s t o e = ap (λ r. ordering_then r o) (sym (nat_cmp_is s t Equal e))

lesser_sum : (s t : ℕ) (o : Ordering) → s < t → ordering_then (nat_cmp s t) o ≡ Less
lesser_sum s t o l = ap (λ r. ordering_then r o) (sym (nat_cmp_is s t Less l))

abbrev Below : List ℕ → List ℕ → Type 0
Below d e = compare grevlex d e ≡ Less

-- in one degree what they are without the last variable decides
below_last : (t : ℕ) (d e : List ℕ) → sum d ≤ t → sum e ≤ t → Below d e
    → Below (with_last t d) (with_last t e)
below_last t d e k l h =
    compare-last d e (t - sum d) (t - sum e)
    ∙ same_sums (sum d + (t - sum d)) (sum e + (t - sum e)) (compare grevlex d e) (omega arith) ∙ h

below_degree : (s t : ℕ) (d e : List ℕ) → s < t → sum d ≤ s → sum e ≤ t
    → Below (with_last s d) (with_last t e)
below_degree s t d e m k l =
    compare-last d e (s - sum d) (t - sum e)
    ∙ lesser_sum (sum d + (s - sum d)) (sum e + (t - sum e)) (compare grevlex d e) (omega arith)

ascending-append : (ds es : List (List ℕ)) → AreAscending ds → AreAscending es
    → Each (λ d. Each (Below d) es) ds → AreAscending (ds ++ es)
unfolding AreAscending Each
ascending-append [] es a b h = b
ascending-append (d ∷ ds) es a b h =
    (each-append (Below d) ds es a.0 h.0, ascending-append ds es a.1 b h.1)

abbrev AtMost : ℕ → List ℕ → Type 0
AtMost t e = sum e ≤ t

below_all : (t : ℕ) (d : List ℕ) (es : List (List ℕ)) → AtMost t d → Each (AtMost t) es
    → Each (Below d) es → Each (Below (with_last t d)) (of_degree t es)
unfolding Each
below_all t d [] k l h = tt
below_all t d (e ∷ es) k l h = (below_last t d e k l.0 h.0, below_all t d es k l.1 h.1)

degree_ascends : (t : ℕ) (es : List (List ℕ)) → Each (AtMost t) es → AreAscending es
    → AreAscending (of_degree t es)
unfolding AreAscending Each
degree_ascends t [] l a = tt
degree_ascends t (e ∷ es) l a = (below_all t e es l.0 l.1 a.0, degree_ascends t es l.1 a.1)

at_most : (m t : ℕ) → Each (AtMost t) (monomials_up_to m t)
at_most m t =
    each_weaker (Within m t) (AtMost t) (λ e h. h.1) (monomials_up_to m t) (all_within m t)

module _ (m : ℕ) where
  abbrev block : ℕ → List (List ℕ)
  block t = of_degree t (monomials_up_to m t)

  block_below : (s t : ℕ) → s < t → Each (λ d. Each (Below d) (block t)) (block s)
  block_below s t l =
      each-map (λ d. Each (Below d) (block t)) (with_last s) (monomials_up_to m s)
      (each_weaker (AtMost s) (λ d. Each (Below (with_last s d)) (block t))
      (λ d k. each-map (Below (with_last s d)) (with_last t) (monomials_up_to m t)
      (each_weaker (AtMost t) (λ e. Below (with_last s d) (with_last t e))
      (λ e j. below_degree s t d e l k j) (monomials_up_to m t) (at_most m t)))
      (monomials_up_to m s) (at_most m s))

  blocks_ascend : ((t : ℕ) → AreAscending (monomials_up_to m t)) → (n : ℕ)
      → AreAscending (join_below block n)
  unfolding join_below AreAscending
  blocks_ascend h zero = tt
  blocks_ascend h (suc n) =
      ascending-append (join_below block n) (block n) (blocks_ascend h n)
      (degree_ascends n (monomials_up_to m n) (at_most m n) (h n))
      (each_below block (λ e. Each (Below e) (block n)) n (λ t l. block_below t n l))

pub all_ascend : (m d : ℕ) → AreAscending (monomials_up_to m d)
unfolding monomials_up_to AreAscending Each
all_ascend zero d = (tt, tt)
all_ascend (suc m) d = blocks_ascend m (all_ascend m) (suc d)

below_differs : (e d : List ℕ) → Below e d → same d e ≡ false
below_differs e d h = go (same_cases d e)
  where
    go : (d ≡ e) ⊎ (same d e ≡ false) → same d e ≡ false
    go (inl is) = absurd (less_irrefl grevlex grevlex_order e (subst (λ x. Below e x) is h))
    go (inr other) = other

pub distinct_ascending : (es : List (List ℕ)) → AreAscending es → AreDistinct es
unfolding AreAscending AreDistinct
distinct_ascending [] a = tt
distinct_ascending (e ∷ es) a = (
  each_weaker (Below e) (λ d. same d e ≡ false) (below_differs e) es a.0,
  distinct_ascending es a.1,
)

pub are_monomials_up_to : (m d : ℕ) → AreMonomialsUpTo m d (monomials_up_to m d)
are_monomials_up_to m d = record {
  arities =
      each_weaker (Within m d) (λ e. length e ≡ m) (λ e h. h.0) (monomials_up_to m d)
      (all_within m d);
  degrees = at_most m d;
  ascend = all_ascend m d;
  covers = in_monomials m d;
}

-- ---- the ones of a lesser degree, and those in fewer variables
all_pass : {X : Type 0} (test : X → Bool) (xs : List X) → Each (λ x. test x ≡ true) xs
    → filter test xs ≡ xs
unfolding Each
all_pass test [] h = refl
all_pass test (x ∷ xs) h =
    ap (λ b. cond b (x ∷ filter test xs) (filter test xs)) h.0
    ∙ ap (λ ys. x ∷ ys) (all_pass test xs h.1)

none_passes : {X : Type 0} (test : X → Bool) (xs : List X) → Each (λ x. test x ≡ false) xs
    → filter test xs ≡ []
unfolding Each
none_passes test [] h = refl
none_passes test (x ∷ xs) h =
    ap (λ b. cond b (x ∷ filter test xs) (filter test xs)) h.0 ∙ none_passes test xs h.1

abbrev lower : ℕ → List (List ℕ) → List (List ℕ)
lower t es = filter (λ e. nat_le (sum e) t) es

all_lower : (m t : ℕ) → lower t (monomials_up_to m t) ≡ monomials_up_to m t
all_lower m t =
    all_pass (λ e. nat_le (sum e) t) (monomials_up_to m t)
    (each_weaker (AtMost t) (λ e. nat_le (sum e) t ≡ true) (λ e l. le-leb (sum e) t l)
    (monomials_up_to m t) (at_most m t))

none_lower : (m t u : ℕ) → t < u → lower t (block m u) ≡ []
none_lower m t u l =
    none_passes (λ e. nat_le (sum e) t) (block m u)
    (each-map (λ e. nat_le (sum e) t ≡ false) (with_last u) (monomials_up_to m u)
    (each_weaker (AtMost u) (λ e. nat_le (sum (with_last u e)) t ≡ false)
    (λ e k. lt-leb (sum (with_last u e)) t (omega (arith, sum-last u e k, l)))
    (monomials_up_to m u) (at_most m u)))

lower_below : (m t n : ℕ) → t < n
    → lower t (join_below (block m) n) ≡ join_below (block m) (suc t)
unfolding join_below monomials_up_to
lower_below m t zero l = absurd (omega arith)
lower_below m t (suc n) l = go (cases_lt t n) (λ k. lower_below m t n k)
  where
    go : (t < n) ⊎ (n ≤ t)
        → (t < n → lower t (join_below (block m) n) ≡ join_below (block m) (suc t))
        → lower t (join_below (block m) (suc n)) ≡ join_below (block m) (suc t)
    go (inl k) ih =
        filter-append (λ e. nat_le (sum e) t) (join_below (block m) n) (block m n)
        ∙ ap₂ ◌++◌ (ih k) (none_lower m t n k) ∙ append-nil (join_below (block m) (suc t))
    go (inr k) ih =
        let e : t ≡ n = omega arith in
        subst (λ k. lower t (join_below (block m) (suc k)) ≡ join_below (block m) (suc t)) e
        (all_lower (suc m) t)

pub lower_monomials : (m t d : ℕ) → t ≤ d
    → filter (λ e. nat_le (sum e) t) (monomials_up_to m d) ≡ monomials_up_to m t
unfolding monomials_up_to Each
lower_monomials zero t d l =
    all_pass (λ e. nat_le (sum e) t) ([] ∷ []) (le-leb 0 t (omega arith), tt)
lower_monomials (suc m) t d l = lower_below m t (suc d) (omega arith)

one_fewer : (m d : ℕ) → length (monomials_up_to m d) ≤ length (monomials_up_to (suc m) d)
unfolding join_below monomials_up_to
one_fewer m d =
    let longer : length (join_below (block m) d ++ block m d)
    ≡ length (join_below (block m) d) + length (block m d) =
    length-append (join_below (block m) d) (block m d) in
    let same : length (block m d) ≡ length (monomials_up_to m d) =
    length-map (monomials_up_to m d) (with_last d) in
    subst (λ n. length (monomials_up_to m d) ≤ n) (sym longer) (omega (arith, same))

pub fewer_monomials : (m n d : ℕ) → m ≤ n
    → length (monomials_up_to m d) ≤ length (monomials_up_to n d)
fewer_monomials m zero d l =
    let e : 0 ≡ m = omega arith in
    subst (λ k. length (monomials_up_to k d) ≤ length (monomials_up_to zero d)) e (omega arith)
fewer_monomials m (suc n) d l = go (cases_lt n m) (λ k. fewer_monomials m n d k)
  where
    go : (n < m) ⊎ (m ≤ n)
        → (m ≤ n → length (monomials_up_to m d) ≤ length (monomials_up_to n d))
        → length (monomials_up_to m d) ≤ length (monomials_up_to (suc n) d)
    go (inl k) ih =
        let e : suc n ≡ m = omega arith in
        subst (λ k. length (monomials_up_to k d) ≤ length (monomials_up_to (suc n) d)) e
        (omega arith)
    go (inr k) ih = omega (arith, ih k, one_fewer n d)
