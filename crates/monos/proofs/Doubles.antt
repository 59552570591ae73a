-- Exponents in two parts, of which the first has 16: what holds of the parts holds of the whole.
--   is_double, not_double         double lists, by their parts
--   compare_front                 by the first k variables, and then by all
--   plus_is .. front_after        two lists x and y of one length in parts a, b and c, d
use Rattle.std.proofs.Common.{◌≡◌, ◌<◌, ◌≤◌, ◌↔◌, ◌⊎◌, inl, inr, ℕ, ◌+◌, ◌-◌, ◌^◌, min, max, List, [], ◌∷◌, ◌++◌, length, sum, take, drop, reverse, get_or, refl, sym, ap, ap₂, ◌∙◌, subst, length-append, length-take, arith, nat_cmp, Ordering, Less, Equal, Greater}
use Rattle.std.specs.Prelude.{EachIndex, slice_index}
use Rattle.std.specs.Ordering.{ordering_then}
use Rattle.std.specs.Cmp.Lexicographic.{slice_cmp}
use Rattle.std.proofs.lemmas.Bool.{cases_lt}
use Rattle.std.proofs.lemmas.List.{get_or_append_left, get_or-append-add, reverse-append, length-reverse}
use Rattle.std.proofs.lemmas.List.Sums.{sum_by-append}
use Rattle.std.proofs.Math.Seq.{take-append_seam, drop-append_seam, take-append-add, get_or-append_right}
use Rattle.polynomials.specs.Exponent.{plus, lcm, Divides}
use Rattle.polynomials.specs.Order.{compare, lex, grevlex, blocks}
use Rattle.polynomials.proofs.Exponent.{length-plus_same, length-lcm}
use Rattle.polynomials.proofs.Order.{compare_equal}
use Rattle.polynomials.proofs.Orders.{compare_lex, compare_grevlex, compare_blocks, grevlex_order, slice_cmp-append, split_equal, plus-append, then_assoc}
use Rattle.monos.specs.Products.{ProductFits}
use Rattle.monos.specs.Coprime.{IsCoprime}
use Rattle.monos.specs.Lanes.{IsShort, IsDouble}
use Rattle.monos.specs.Variables.{most_inline}
use Rattle.monos.proofs.Words.{compare_rest}

lcm-append : (a b c d : List ℕ) → length a ≡ length c
    → lcm (a ++ b) (c ++ d) ≡ lcm a c ++ lcm b d
unfolding lcm
lcm-append [] b [] d l = refl
lcm-append [] b (y ∷ c) d l = absurd (omega arith)
lcm-append (x ∷ a) b [] d l = absurd (omega arith)
lcm-append (x ∷ a) b (y ∷ c) d l = ap (λ r. max x y ∷ r) (lcm-append a b c d (omega arith))

-- from the last place on
last-append : (a b c d : List ℕ) → length b ≡ length d
    → slice_cmp nat_cmp (reverse (c ++ d)) (reverse (a ++ b))
    ≡ ordering_then (slice_cmp nat_cmp (reverse d) (reverse b))
    (slice_cmp nat_cmp (reverse c) (reverse a))
last-append a b c d l = rw (reverse-append a b, reverse-append c d)
    (slice_cmp-append (reverse d) (reverse c) (reverse b) (reverse a)
    (length-reverse d ∙ sym l ∙ sym (length-reverse b)))

-- what holds at each place of two lists, in their parts
abbrev AtEach : (ℕ → ℕ → Type 0) → List ℕ → List ℕ → Type 0
AtEach P d e = EachIndex d (λ k. P (slice_index d k) (slice_index e k))

module _ (P : ℕ → ℕ → Type 0) (a b c d : List ℕ) (l : length a ≡ length c) where
  each_first : AtEach P (a ++ b) (c ++ d) → AtEach P a c
  each_first h i less =
      subst (λ z. P z (get_or c i 0)) (get_or_append_left a b 0 i less)
      (subst (P (get_or (a ++ b) i 0)) (get_or_append_left c d 0 i (subst (λ n. i < n) l less))
      (h i (let q = length-append a b in omega (arith, q, less))))

  each_other : AtEach P (a ++ b) (c ++ d) → AtEach P b d
  each_other h i less =
      subst (λ z. P z (get_or d i 0)) (get_or-append-add a b i 0)
      (subst (P (get_or (a ++ b) (length a + i) 0))
      (ap (λ n. get_or (c ++ d) (n + i) 0) l ∙ get_or-append-add c d i 0)
      (h (length a + i) (let q = length-append a b in omega (arith, q, less))))

  each_whole : AtEach P a c → AtEach P b d → AtEach P (a ++ b) (c ++ d)
  each_whole f g i less = go (cases_lt i (length a))
    where
      go : (i < length a) ⊎ (length a ≤ i) → P (get_or (a ++ b) i 0) (get_or (c ++ d) i 0)
      go (inl first) =
          subst (λ z. P z (get_or (c ++ d) i 0)) (sym (get_or_append_left a b 0 i first))
          (subst (P (get_or a i 0))
          (sym (get_or_append_left c d 0 i (subst (λ n. i < n) l first))) (f i first))
      go (inr past) =
          subst (λ z. P z (get_or (c ++ d) i 0)) (sym (get_or-append_right a b i 0 past))
          (subst (P (get_or b (i - length a) 0))
          (sym (get_or-append_right c d i 0 (subst (λ n. n ≤ i) l past)
          ∙ ap (λ n. get_or d (i - n) 0) (sym l)))
          (g (i - length a) (let q = length-append a b in omega (arith, q, less, past))))

module _ (a b : List ℕ) (full : length a ≡ most_inline) where
  pub first_is : take most_inline (a ++ b) ≡ a
  first_is = ap (λ n. take n (a ++ b)) (sym full) ∙ take-append_seam a b

  pub others_are : drop most_inline (a ++ b) ≡ b
  others_are = ap (λ n. drop n (a ++ b)) (sym full) ∙ drop-append_seam a b

  pub is_double : 0 < length b → IsShort a → IsShort b → IsDouble (a ++ b)
  is_double some short short_other = record {
    many = let q = length-append a b in omega (arith, q, full, some);
    first = subst IsShort (sym first_is) short;
    others = subst IsShort (sym others_are) short_other;
  }

  -- the first k of both parts
  pub front_past : (k : ℕ) → most_inline ≤ k → take k (a ++ b) ≡ a ++ take (k - most_inline) b
  front_past k h = ap (λ n. take n (a ++ b)) (omega (arith, h, full))
      ∙ take-append-add a b (k - most_inline)

-- by the first k variables, and then by all
pub compare_front : (k : ℕ) (d e : List ℕ) → length d ≡ length e
    → ordering_then (compare grevlex (take k d) (take k e)) (compare grevlex d e)
    ≡ compare (blocks k grevlex grevlex) d e
compare_front k d e l = go (compare grevlex (take k d) (take k e)) refl
  where
    whole : (o : Ordering) → compare grevlex (take k d) (take k e) ≡ o
        → ordering_then o (compare grevlex (drop k d) (drop k e))
        ≡ compare (blocks k grevlex grevlex) d e
    whole o is = sym (compare_blocks k grevlex grevlex grevlex_order grevlex_order d e l
        ∙ ap (λ o. ordering_then o (compare grevlex (drop k d) (drop k e))) is)

    go : (o : Ordering) → compare grevlex (take k d) (take k e) ≡ o
        → ordering_then o (compare grevlex d e) ≡ compare (blocks k grevlex grevlex) d e
    go Less is = whole Less is
    go Equal is = sym (compare_rest k d e l
        (compare_equal grevlex grevlex_order (take k d) (take k e) is))
    go Greater is = whole Greater is

module _ (a b c d x y : List ℕ) (full : length a ≡ most_inline) (full_other : length c
    ≡ most_inline) (is : a ++ b ≡ x) (other_is : c ++ d ≡ y) where
  pub first_same : length a ≡ length c
  first_same = full ∙ sym full_other

  pub same_is : (a ≡ c) × (b ≡ d) ↔ (x ≡ y)
  same_is = (
    (λ h. sym is ∙ ap₂ ◌++◌ h.0 h.1 ∙ other_is),
    (λ h. split_equal a b c d first_same (is ∙ h ∙ sym other_is)),
  )

  module _ (same : length x ≡ length y) where
    pub others_same : length b ≡ length d
    others_same =
        let whole = length-append a b in let whole_other = length-append c d in
        let e = ap length is in let f = ap length other_is in
        omega (arith, whole, whole_other, e, f, same, full, full_other)

    pub plus_is : plus a c ++ plus b d ≡ plus x y
    plus_is = sym (plus-append a b c d first_same) ∙ ap₂ plus is other_is

    pub sum_counts : 0 < length b → (p q : List ℕ) → p ≡ plus a c → q ≡ plus b d
        → (length p ≡ most_inline) × (0 < length q)
    sum_counts some p q at at_other =
        let rest = ap length at_other ∙ length-plus_same b d others_same ∙ sym others_same in
        (ap length at ∙ length-plus_same a c first_same ∙ full_other, omega (arith, rest, some))

    pub lcm_counts : 0 < length b → (p q : List ℕ) → p ≡ lcm a c → q ≡ lcm b d
        → (length p ≡ most_inline) × (0 < length q)
    lcm_counts some p q at at_other =
        let rest = ap length at_other ∙ length-lcm b d others_same in
        (ap length at ∙ length-lcm a c first_same ∙ full, omega (arith, rest, some))

    pub lcm_is : lcm a c ++ lcm b d ≡ lcm x y
    lcm_is = sym (lcm-append a b c d first_same) ∙ ap₂ lcm is other_is

    pub divides_is : Divides a c × Divides b d ↔ Divides x y
    divides_is = (
      (λ h. rw (sym is, sym other_is) (each_whole (λ m n. m ≤ n) a b c d first_same h.0 h.1)),
      (λ h.
          let whole : Divides (a ++ b) (c ++ d) = rw (is, other_is) h in (
            each_first (λ m n. m ≤ n) a b c d first_same whole,
            each_other (λ m n. m ≤ n) a b c d first_same whole,
          )),
    )

    pub coprime_is : IsCoprime a c × IsCoprime b d ↔ IsCoprime x y
    coprime_is = (
      (λ h. rw (sym is, sym other_is) (each_whole (λ m n. min m n ≡ 0) a b c d first_same h.0 h.1)),
      (λ h.
          let whole : IsCoprime (a ++ b) (c ++ d) = rw (is, other_is) h in (
            each_first (λ m n. min m n ≡ 0) a b c d first_same whole,
            each_other (λ m n. min m n ≡ 0) a b c d first_same whole,
          )),
    )

    pub product_fits : ProductFits a c → ProductFits b d → ProductFits x y
    product_fits h g = rw (sym is, sym other_is)
        (each_whole (λ m n. m + n < 2 ^ 16) a b c d first_same h g)

    last_is : slice_cmp nat_cmp (reverse y) (reverse x)
        ≡ ordering_then (slice_cmp nat_cmp (reverse d) (reverse b))
        (slice_cmp nat_cmp (reverse c) (reverse a))
    last_is = ap₂ (λ x y. slice_cmp nat_cmp (reverse y) (reverse x)) (sym is) (sym other_is)
        ∙ last-append a b c d others_same

    pub grevlex_is : ordering_then (ordering_then (nat_cmp (sum x) (sum y))
        (slice_cmp nat_cmp (reverse d) (reverse b))) (slice_cmp nat_cmp (reverse c) (reverse a))
        ≡ compare grevlex x y
    grevlex_is = sym (compare_grevlex x y same
        ∙ ap (ordering_then (nat_cmp (sum x) (sum y))) last_is
        ∙ then_assoc (nat_cmp (sum x) (sum y)) (slice_cmp nat_cmp (reverse d) (reverse b))
        (slice_cmp nat_cmp (reverse c) (reverse a)))

    pub lex_is : ordering_then (compare lex a c) (compare lex b d) ≡ compare lex x y
    lex_is = sym (compare_lex x y
        ∙ ap₂ (slice_cmp nat_cmp) (sym is) (sym other_is)
        ∙ slice_cmp-append a b c d first_same
        ∙ ap₂ ordering_then (sym (compare_lex a c)) (sym (compare_lex b d)))

    -- the first k of both, where k is 16 at least
    module _ (k : ℕ) (past : most_inline ≤ k) where
      front_is : take k x ≡ a ++ take (k - most_inline) b
      front_is = ap (take k) (sym is) ∙ front_past a b full k past

      front_other : take k y ≡ c ++ take (k - most_inline) d
      front_other = ap (take k) (sym other_is) ∙ front_past c d full_other k past

      pub front_degree : sum a + sum (take (k - most_inline) b) ≡ sum (take k x)
      front_degree = sym (ap sum front_is ∙ sum_by-append (λ n. n) a (take (k - most_inline) b))

      pub front_lasts : ordering_then (slice_cmp nat_cmp (reverse (take (k - most_inline) d))
          (reverse (take (k - most_inline) b))) (slice_cmp nat_cmp (reverse c) (reverse a))
          ≡ slice_cmp nat_cmp (reverse (take k y)) (reverse (take k x))
      front_lasts = sym (ap₂ (λ x y. slice_cmp nat_cmp (reverse y) (reverse x)) front_is front_other
          ∙ last-append a (take (k - most_inline) b) c (take (k - most_inline) d)
          (length-take (k - most_inline) b ∙ ap (min (k - most_inline)) others_same
          ∙ sym (length-take (k - most_inline) d)))

-- by the first k variables, by their degree and from the last of them on, and then by all
pub compare_parts : (k : ℕ) (x y : List ℕ) → length x ≡ length y
    → ordering_then (ordering_then (nat_cmp (sum (take k x)) (sum (take k y)))
    (slice_cmp nat_cmp (reverse (take k y)) (reverse (take k x)))) (compare grevlex x y)
    ≡ compare (blocks k grevlex grevlex) x y
compare_parts k x y same =
    ap (λ o. ordering_then o (compare grevlex x y))
    (sym (compare_grevlex (take k x) (take k y)
    (length-take k x ∙ ap (min k) same ∙ sym (length-take k y))))
    ∙ compare_front k x y same

-- a product with two parts
pub product_of : (c d q r a b x y : List ℕ) → length c ≡ length q → c ++ d ≡ y → a ++ b ≡ x
    → plus c q ≡ a → plus d r ≡ b → plus y (q ++ r) ≡ x
product_of c d q r a b x y l other_is is first others =
    ap (λ z. plus z (q ++ r)) (sym other_is) ∙ plus-append c d q r l ∙ ap₂ ◌++◌ first others ∙ is
