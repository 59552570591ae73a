-- Short monomials in one word: their sums, their quotients, and how they compare.
--   Pack n e         the word of n small exponents, with what is true of it
use Rattle.std.proofs.Common.{◌≡◌, ◌<◌, ◌≤◌, ◌↔◌, ℕ, suc, ◌+◌, ◌-◌, ◌*◌, ◌%◌, ◌^◌, List, [], ◌∷◌, length, length-take, take, reverse, sum, Bool, true, false, leb, refl, sym, ap, ap₂, ◌∙◌, subst, add-one, arith, nat_cmp, Equal}
use Rattle.std.specs.Cmp.{nat_cmp_is}
use Rattle.std.proofs.lemmas.Cmp.{ranked, by_ranked}
use Rattle.std.specs.Prelude.{cond}
use Rattle.std.specs.Int.Bits.{bit_and}
use Rattle.std.specs.Ordering.{ordering_then}
use Rattle.std.specs.Cmp.Lexicographic.{slice_cmp}
use Rattle.std.proofs.lemmas.Bool.{leb-true, leb-false}
use Rattle.std.proofs.lemmas.List.Sums.{sum_by-le}
use Rattle.std.proofs.lemmas.List.Elements.{All-cons, All-nil}
use Rattle.std.proofs.Math.Nat.{pow-le-pow_right, mul-le-mul_right, mul-le-mul_left, mul-suc}
use Rattle.polynomials.specs.Exponent.{plus, over, Divides}
use Rattle.polynomials.specs.Order.{compare, grevlex, blocks}
use Rattle.polynomials.proofs.Exponent.{length-plus_same, sum-plus}
use Rattle.polynomials.proofs.Orders.{compare_grevlex}
use Rattle.monos.specs.Lanes.{AreSmall, IsInLanes, lane_room, lane_count, lanes, word, guards}
use Rattle.monos.proofs.Words.{small_first, small_rest, small_more, double, length-lanes, lanes-word, word-lanes, word-plus, word_half, word_below, small_from_clear, word_guards, word_with_guards, test_of_divides, divides_of_test, word_cmp, word-take, small-take, small-lanes, compare_rest, compare_apart}

pub by_room : (n : ℕ) (P : ℕ → ℕ → Type 0) → (n ≤ 8 → P 15 8) → (8 < n → P 7 16)
    → P (lane_room n) (lane_count n)
unfolding lane_room lane_count
by_room n P low high = go (leb n 8) refl
  where
    go : (b : Bool) → leb n 8 ≡ b → P (cond b 15 7) (cond b 8 16)
    go true e = low (leb-true n 8 e)
    go false e = high (leb-false n 8 e)

pub guards_low : (n : ℕ) → n ≤ 8 → 170143779648513184874767057851898691584 ≡ guards (lane_room n)
    (lane_count n)
unfolding guards
guards_low n h = by_room n (λ r c. 170143779648513184874767057851898691584 ≡ guards r c) (λ low.
    refl)
    (λ high. absurd (omega (arith, h, high)))

pub guards_high : (n : ℕ) → 8 < n → 170808403787765189503184116671632670848 ≡ guards (lane_room n)
    (lane_count n)
unfolding guards
guards_high n h = by_room n (λ r c. 170808403787765189503184116671632670848 ≡ guards r c) (λ low.
    absurd (omega (arith, h, low)))
    (λ high. refl)

-- the lanes fill the word
pub all_lanes : (n : ℕ) → suc (lane_room n) * lane_count n ≡ 128
all_lanes n = by_room n (λ r c. suc r * c ≡ 128) (λ h. refl) (λ h. refl)

pub few_lanes : (n : ℕ) → n ≤ 16 → n ≤ lane_count n
few_lanes n h = by_room n (λ r c. n ≤ c) (λ low. low) (λ high. h)

pub room_fits : (n : ℕ) → n ≤ 16 → suc (lane_room n) * n ≤ 128
room_fits n h = by_room n (λ r c. suc r * n ≤ 128) (λ low. omega (arith, low)) (λ high.
    omega (arith, h))

pub room_small : (n : ℕ) → lane_room n ≤ 15
room_small n = by_room n (λ r c. r ≤ 15) (λ low. omega arith) (λ high. omega arith)

-- the first k of n lanes are less than the word
pub block_fits : (n k r : ℕ) → n ≤ 16 → k < n → r ≡ lane_room n → (r + 1) * k < 128
block_fits n k r few less is =
    let all = room_fits n few in
    let part = mul-le-mul_left (suc (lane_room n)) less in
    let one = mul-suc (suc (lane_room n)) k in
    let e : (r + 1) * k ≡ suc (lane_room n) * k = ap (λ j. j * k) (add-one r ∙ ap suc is) in
    omega (arith, all, part, one, e)

-- the word of n small exponents
pub word_in_lanes : (n : ℕ) (e : List ℕ) → length e ≡ n → n ≤ 16 → AreSmall (lane_room n) e
    → IsInLanes n (sum e) (word (lane_room n) e)
    × (lanes (lane_room n) n (word (lane_room n) e) ≡ e)
word_in_lanes n e l few s =
    let r = lane_room n in
    let is : lanes r n (word r e) ≡ e = ap (λ k. lanes r k (word r e)) (sym l)
    ∙ lanes-word r e (small_more r e s) in (
      record {
        few = few;
        all = subst (λ k. word r e < 2 ^ (suc r * k)) l (word_below r e (small_more r e s));
        small = subst (AreSmall r) (sym is) s;
        degree = ap sum (sym is);
      },
      is,
    )

pub small-plus : (b : ℕ) (d e : List ℕ) → length d ≡ length e → AreSmall b d → AreSmall b e
    → AreSmall (suc b) (plus d e)
unfolding plus
small-plus b [] [] l s t = All-nil (λ k. k < 2 ^ suc b)
small-plus b [] (y ∷ e) l s t = absurd (omega arith)
small-plus b (x ∷ d) [] l s t = absurd (omega arith)
small-plus b (x ∷ d) (y ∷ e) l s t =
    let small_x = small_first b x d s in
    let small_y = small_first b y e t in
    let twice = double b in
    All-cons (λ k. k < 2 ^ suc b) (x + y) (plus d e) (omega (arith, small_x, small_y, twice))
    (small-plus b d e (omega arith) (small_rest b x d s) (small_rest b y e t))

length-over : (d e : List ℕ) → length d ≡ length e → length (over e d) ≡ length e
unfolding over
length-over [] [] l = refl
length-over [] (y ∷ e) l = absurd (omega arith)
length-over (x ∷ d) [] l = absurd (omega arith)
length-over (x ∷ d) (y ∷ e) l = ap suc (length-over d e (omega arith))

plus-over : (d e : List ℕ) → length d ≡ length e → Divides d e → plus d (over e d) ≡ e
unfolding over plus
plus-over [] [] l h = refl
plus-over [] (y ∷ e) l h = absurd (omega arith)
plus-over (x ∷ d) [] l h = absurd (omega arith)
plus-over (x ∷ d) (y ∷ e) l h =
    let first : x ≤ y = h 0 (omega arith) in
    ap₂ ◌∷◌ (omega (arith, first)) (plus-over d e (omega arith) (λ i k. h (suc i) (omega arith)))

small-over : (b : ℕ) (d e : List ℕ) → length d ≡ length e → AreSmall b e → AreSmall b (over e d)
unfolding over
small-over b [] [] l s = s
small-over b [] (y ∷ e) l s = absurd (omega arith)
small-over b (x ∷ d) [] l s = absurd (omega arith)
small-over b (x ∷ d) (y ∷ e) l s =
    let small = small_first b y e s in
    All-cons (λ k. k < 2 ^ b) (y - x) (over e d) (omega (arith, small))
    (small-over b d e (omega arith) (small_rest b y e s))

module _ (n d w : ℕ) (p : IsInLanes n d w) where
  pub word_is : word (lane_room n) (lanes (lane_room n) n w) ≡ w
  word_is = word-lanes (lane_room n) n w p.all

  pub twice_fits : w + w < 2 ^ 128
  twice_fits =
      let half = word_half (lane_room n) (lanes (lane_room n) n w) p.small in
      let count = length-lanes (lane_room n) n w in
      let top = pow-le-pow_right {n = 2} (omega arith) (room_fits n p.few) in
      let is = word_is in
      let below : w + w < 2 ^ (suc (lane_room n) * n) = rw (is, count) at half in
      omega (arith, below, top)

  pub degree_fits : d ≤ 524288
  degree_fits =
      let top = pow-le-pow_right {n = 2} (omega arith) (room_small n) in
      let each = sum_by-le (λ k. k) 32768 (lanes (lane_room n) n w) (λ i e h.
      (let q = p.small i e h in omega (arith, q, top))) in
      let count = length-lanes (lane_room n) n w in
      omega (arith, each, count, p.few, p.degree, mul-le-mul_right {m = n} {n = 16} 32768 p.few)

-- two in as many variables
module _ (n d w f v : ℕ) (p : IsInLanes n d w) (q : IsInLanes n f v) where
  same_count : length (lanes (lane_room n) n w) ≡ length (lanes (lane_room n) n v)
  same_count = length-lanes (lane_room n) n w ∙ sym (length-lanes (lane_room n) n v)

  within : length (lanes (lane_room n) n w) ≤ lane_count n
  within = let c = length-lanes (lane_room n) n w in let m = few_lanes n p.few in
      omega (arith, c, m)

  pub guards_fit : v + guards (lane_room n) (lane_count n) < 2 ^ 128
  guards_fit =
      let g = word_with_guards (lane_room n) (lane_count n) (lanes (lane_room n) n v)
      (subst (λ k. k ≤ lane_count n) same_count within) q.small in
      let is = word_is n f v q in
      rw (is, all_lanes n) at g

  pub below_guards : w ≤ v + guards (lane_room n) (lane_count n)
  below_guards =
      let g = word_guards (lane_room n) (lane_count n) (lanes (lane_room n) n w) within p.small in
      let is = word_is n d w p in
      omega (arith, rw is at g)

  pub divides_is : bit_and (v + guards (lane_room n) (lane_count n) - w)
      (guards (lane_room n) (lane_count n))
      ≡ guards (lane_room n) (lane_count n)
      ↔ Divides (lanes (lane_room n) n w) (lanes (lane_room n) n v)
  divides_is = (
    (λ t. divides_of_test (lane_room n) (lane_count n) (lanes (lane_room n) n w)
        (lanes (lane_room n) n v)
        same_count within p.small q.small (rw (word_is n d w p, word_is n f v q) t)),
    (λ h. rw (word_is n d w p, word_is n f v q) at (test_of_divides (lane_room n) (lane_count n)
        (lanes (lane_room n) n w)
        (lanes (lane_room n) n v) same_count within p.small q.small h)),
  )

  -- the sum of the words
  sum_of_words : word (lane_room n) (plus (lanes (lane_room n) n w) (lanes (lane_room n) n v)) ≡ w
      + v
  sum_of_words = word-plus (lane_room n) (lanes (lane_room n) n w) (lanes (lane_room n) n v)
      same_count
      ∙ ap₂ ◌+◌ (word_is n d w p) (word_is n f v q)

  count_of_plus : length (plus (lanes (lane_room n) n w) (lanes (lane_room n) n v)) ≡ n
  count_of_plus = length-plus_same (lanes (lane_room n) n w) (lanes (lane_room n) n v) same_count
      ∙ length-lanes (lane_room n) n v

  pub sum_fits : w + v < 2 ^ 128
  sum_fits = let a = twice_fits n d w p in let b = twice_fits n f v q in omega (arith, a, b)

  pub short_product : bit_and (w + v) (guards (lane_room n) (lane_count n)) ≡ 0
      → IsInLanes n (d + f) (w + v)
      × (lanes (lane_room n) n (w + v) ≡ plus (lanes (lane_room n) n w)
      (lanes (lane_room n) n v))
  short_product clear =
      let e = plus (lanes (lane_room n) n w) (lanes (lane_room n) n v) in
      let small : AreSmall (lane_room n) e = small_from_clear (lane_room n) (lane_count n) e
      (let c = count_of_plus in let m = few_lanes n p.few in omega (arith, c, m))
      (small-plus (lane_room n) (lanes (lane_room n) n w) (lanes (lane_room n) n v) same_count
      p.small q.small)
      (ap (λ x. bit_and x (guards (lane_room n) (lane_count n))) sum_of_words ∙ clear) in
      let all = word_in_lanes n e count_of_plus p.few small in
      let degree : sum e ≡ d + f = sum-plus (lanes (lane_room n) n w) (lanes (lane_room n) n v)
      ∙ ap₂ ◌+◌ (sym p.degree) (sym q.degree) in
      rw (degree, sum_of_words) at all

  -- the difference of the words
  pub quotient_is : Divides (lanes (lane_room n) n v) (lanes (lane_room n) n w)
      → (f ≤ d) × (v ≤ w) × IsInLanes n (d - f) (w - v)
      × (plus (lanes (lane_room n) n v) (lanes (lane_room n) n (w - v)) ≡ lanes (lane_room n) n w)
  quotient_is h =
      let e = over (lanes (lane_room n) n w) (lanes (lane_room n) n v) in
      let whole : plus (lanes (lane_room n) n v) e ≡ lanes (lane_room n) n w =
      plus-over (lanes (lane_room n) n v) (lanes (lane_room n) n w) (sym same_count) h in
      let count : length e ≡ n = length-over (lanes (lane_room n) n v) (lanes (lane_room n) n w)
      (sym same_count)
      ∙ length-lanes (lane_room n) n w in
      let small : AreSmall (lane_room n) e = small-over (lane_room n) (lanes (lane_room n) n v)
      (lanes (lane_room n) n w)
      (sym same_count) p.small in
      let words : v + word (lane_room n) e ≡ w =
      ap (λ x. x + word (lane_room n) e) (sym (word_is n f v q))
      ∙ sym (word-plus (lane_room n) (lanes (lane_room n) n v) e (length-lanes (lane_room n) n v
      ∙ sym count))
      ∙ ap (word (lane_room n)) whole ∙ word_is n d w p in
      let degrees : f + sum e ≡ d =
      ap (λ x. x + sum e) q.degree ∙ sym (sum-plus (lanes (lane_room n) n v) e) ∙ ap sum whole
      ∙ sym p.degree in
      let all = word_in_lanes n e count p.few small in
      let word_off : word (lane_room n) e ≡ w - v = omega (arith, words) in
      let degree_off : sum e ≡ d - f = omega (arith, degrees) in
      let short : IsInLanes n (d - f) (w - v) × (lanes (lane_room n) n (w - v) ≡ e) =
      rw (word_off, degree_off) at all in (
        omega (arith, degrees),
        omega (arith, words),
        short.0,
        ap (plus (lanes (lane_room n) n v))
            short.1 ∙ whole,
      )

  -- from the last exponent on as the words
  pub compare_lasts : nat_cmp v w ≡ slice_cmp nat_cmp (reverse (lanes (lane_room n) n v))
      (reverse (lanes (lane_room n) n w))
  compare_lasts =
      ap₂ nat_cmp (sym (word_is n f v q)) (sym (word_is n d w p))
      ∙ word_cmp (lane_room n) (lanes (lane_room n) n v) (lanes (lane_room n) n w)
      (sym same_count)
      (small_more (lane_room n) (lanes (lane_room n) n v) q.small)
      (small_more (lane_room n) (lanes (lane_room n) n w) p.small)

  -- by degree, and then the lesser word is the greater monomial
  pub compare_is : compare grevlex (lanes (lane_room n) n w) (lanes (lane_room n) n v)
      ≡ ordering_then (nat_cmp d f) (nat_cmp v w)
  compare_is =
      compare_grevlex (lanes (lane_room n) n w) (lanes (lane_room n) n v) same_count
      ∙ ap₂ ordering_then (ap₂ nat_cmp (sym p.degree) (sym q.degree)) (sym compare_lasts)

  pub compare_words : d ≡ f → nat_cmp v w ≡ compare grevlex (lanes (lane_room n) n w)
      (lanes (lane_room n) n v)
  compare_words is =
      sym (compare_is ∙ ap (λ o. ordering_then o (nat_cmp v w)) (sym (nat_cmp_is d f Equal is)))

  pub compare_degrees : (d ≡ f → ⊥) → nat_cmp d f ≡ compare grevlex (lanes (lane_room n) n w)
      (lanes (lane_room n) n v)
  compare_degrees apart = sym (compare_is ∙ by_ranked (d < f) (d ≡ f) (f < d) (nat_cmp d f)
      (ranked d f _ refl)
      (λ o lt. rw o refl) (λ o is. absurd (apart is)) (λ o gt. rw o refl))

  pub same_word : w ≡ v → lanes (lane_room n) n w ≡ lanes (lane_room n) n v
  same_word is = ap (lanes (lane_room n) n) is

  pub same_lanes : lanes (lane_room n) n w ≡ lanes (lane_room n) n v → w ≡ v
  same_lanes is = sym (word_is n d w p) ∙ ap (word (lane_room n)) is ∙ word_is n f v q

  -- ---- the first k variables
  module _ (k : ℕ) (few : k ≤ n) where
    first_count : (x : ℕ) → length (take k (lanes (lane_room n) n x)) ≡ k
    first_count x = let a = length-take k (lanes (lane_room n) n x) in let b =
        length-lanes (lane_room n) n x in omega (arith, a, b, few)

    first_word : (x : ℕ) → word (lane_room n) (lanes (lane_room n) n x) ≡ x
        → word (lane_room n) (take k (lanes (lane_room n) n x)) ≡ x % 2 ^ (suc (lane_room n) * k)
    first_word x is = sym (word-take (lane_room n) k (lanes (lane_room n) n x)
        (let c = length-lanes (lane_room n) n x in omega (arith, c, few))
        (small-lanes (lane_room n) n x))
        ∙ ap (λ y. y % 2 ^ (suc (lane_room n) * k)) is

    first_lanes : (x : ℕ) → word (lane_room n) (lanes (lane_room n) n x) ≡ x
        → lanes (lane_room n) k (x % 2 ^ (suc (lane_room n) * k)) ≡ take k (lanes (lane_room n) n x)
    first_lanes x is =
        ap (lanes (lane_room n) k) (sym (first_word x is))
        ∙ ap (λ c. lanes (lane_room n) c (word (lane_room n) (take k (lanes (lane_room n) n x))))
        (sym (first_count x))
        ∙ lanes-word (lane_room n) (take k (lanes (lane_room n) n x))
        (small-take (suc (lane_room n)) k _ (small-lanes (lane_room n) n x))

    pub first_same : w % 2 ^ (suc (lane_room n) * k) ≡ v % 2 ^ (suc (lane_room n) * k)
        → compare grevlex (lanes (lane_room n) n w) (lanes (lane_room n) n v)
        ≡ compare (blocks k grevlex grevlex) (lanes (lane_room n) n w) (lanes (lane_room n) n v)
    first_same is = sym (compare_rest k (lanes (lane_room n) n w) (lanes (lane_room n) n v)
        same_count
        (sym (first_lanes w (word_is n d w p)) ∙ ap (lanes (lane_room n) k) is
        ∙ first_lanes v (word_is n f v q)))

    first_counts : length (take k (lanes (lane_room n) n v))
        ≡ length (take k (lanes (lane_room n) n w))
    first_counts = first_count v ∙ sym (first_count w)

    pub first_lasts : nat_cmp (v % 2 ^ (suc (lane_room n) * k)) (w % 2 ^ (suc (lane_room n) * k))
        ≡ slice_cmp nat_cmp (reverse (take k (lanes (lane_room n) n v)))
        (reverse (take k (lanes (lane_room n) n w)))
    first_lasts =
        ap₂ nat_cmp (sym (first_word v (word_is n f v q))) (sym (first_word w (word_is n d w p)))
        ∙ word_cmp (lane_room n) (take k (lanes (lane_room n) n v))
        (take k (lanes (lane_room n) n w)) first_counts
        (small-take (suc (lane_room n)) k _ (small-lanes (lane_room n) n v))
        (small-take (suc (lane_room n)) k _ (small-lanes (lane_room n) n w))

    pub first_apart : (w % 2 ^ (suc (lane_room n) * k) ≡ v % 2 ^ (suc (lane_room n) * k) → ⊥)
        → ordering_then (nat_cmp (sum (lanes (lane_room n) k (w % 2 ^ (suc (lane_room n) * k))))
        (sum (lanes (lane_room n) k (v % 2 ^ (suc (lane_room n) * k)))))
        (nat_cmp (v % 2 ^ (suc (lane_room n) * k)) (w % 2 ^ (suc (lane_room n) * k)))
        ≡ compare (blocks k grevlex grevlex) (lanes (lane_room n) n w) (lanes (lane_room n) n v)
    first_apart apart =
        ap₂ ordering_then (ap₂ nat_cmp (ap sum (first_lanes w (word_is n d w p)))
        (ap sum (first_lanes v (word_is n f v q)))) first_lasts
        ∙ sym (compare_grevlex (take k (lanes (lane_room n) n w)) (take k (lanes (lane_room n) n v))
        (sym first_counts))
        ∙ sym (compare_apart k (lanes (lane_room n) n w) (lanes (lane_room n) n v) same_count
        (λ is. apart (sym (first_word w (word_is n d w p)) ∙ ap (word (lane_room n)) is
        ∙ first_word v (word_is n f v q))))
