-- Two short monomials of as many variables, each in its word, seen as their exponents.
use Rattle.std.proofs.Common.{◌≡◌, ◌<◌, ◌≤◌, ◌↔◌, ℕ, suc, ◌+◌, ◌-◌, ◌*◌, ◌/◌, ◌%◌, ◌^◌, List, length, take, reverse, sum, sym, ap, ap₂, ◌∙◌, subst, add-one, arith, nat_cmp}
use Rattle.std.specs.Int.Bits.{bit_and}
use Rattle.std.specs.Ordering.{ordering_then}
use Rattle.polynomials.specs.Exponent.{plus, lcm, Divides}
use Rattle.polynomials.proofs.Exponent.{length-lcm}
use Rattle.polynomials.specs.Order.{compare, lex, grevlex, blocks}
use Rattle.polynomials.proofs.Orders.{compare_lex}
use Rattle.std.specs.Cmp.Lexicographic.{slice_cmp}
use Rattle.monos.specs.Products.{ProductFits}
use Rattle.monos.specs.Coprime.{IsCoprime}
use Rattle.std.proofs.Math.Nat.{pow-le-pow_right}
use Rattle.monos.specs.Lanes.{AreSmall, IsShort, IsInLanes, lane_room, lane_count, lanes, word, guards}
use Rattle.monos.proofs.ShortWords.{room_small}
use Rattle.monos.proofs.Words.{length-lanes, lanes-take}
use Rattle.monos.proofs.ShortWords as words
use Rattle.monos.proofs.LaneSteps.{word_fits}
use Rattle.monos.proofs.Maxima.{Marks, marks, small-lcm, coprime_is as coprime_of}
use Rattle.std.proofs.lemmas.Nat.{shl-shr}

pub bits_are : (n k r : ℕ) → r ≡ lane_room n → (r + 1) * k ≡ suc (lane_room n) * k
bits_are n k r is = ap (λ j. j * k) (add-one r ∙ ap suc is)

module _ (n d w : ℕ) (a : List ℕ) (p : IsInLanes n d w) (is : lanes (lane_room n) n w ≡ a) where
  pub count_is : n ≡ length a
  count_is = sym (length-lanes (lane_room n) n w) ∙ ap length is

  pub is_short : IsShort a
  is_short = record {
    few = subst (λ k. k ≤ 16) count_is p.few;
    small = subst (λ k. AreSmall (lane_room k) a) count_is (subst (AreSmall (lane_room n)) is
        p.small);
  }

  -- what is added to small exponents, and small too, has room in 16 bits
  pub fits_with : (m f v : ℕ) (b : List ℕ) → IsInLanes m f v → lanes (lane_room m) m v ≡ b
      → length a ≡ length b → ProductFits a b
  fits_with m f v b q js same i h =
      let top = pow-le-pow_right {n = 2} (omega arith) (room_small n) in
      let top_other = pow-le-pow_right {n = 2} (omega arith) (room_small m) in
      let x = subst (AreSmall (lane_room n)) is p.small i 0 h in
      let y = subst (AreSmall (lane_room m)) js q.small i 0 (subst (λ k. i < k) same h) in
      omega (arith, x, y, top, top_other)

  -- the guards above its own word
  pub above_fits : w + guards (lane_room n) (lane_count n) < 2 ^ 128
  above_fits = words.guards_fit n d w d w p p

  room_is : lane_room n ≡ lane_room (length a)
  room_is = ap lane_room count_is

  -- the first exponents
  pub first_degree : (k g r : ℕ) → k ≤ length a → r ≡ lane_room n → g ≡ sum (lanes r k w)
      → g ≡ sum (take k a)
  first_degree k g r few room at = at
      ∙ ap sum (ap (λ q. lanes q k w) room
      ∙ lanes-take (lane_room n) k n w (subst (λ m. k ≤ m) (sym count_is) few)
      ∙ ap (take k) is)

  -- the greater exponents
  pub lcm_is : (b : List ℕ) (g z : ℕ) → length a ≡ length b
      → AreSmall (lane_room (length a)) (lcm a b)
      → z ≡ word (lane_room (length a)) (lcm a b) → g ≡ sum (lanes (lane_room n) n z)
      → IsInLanes n g z × (lanes (lane_room n) n z ≡ lcm a b)
  lcm_is b g z same small at degree =
      let here : z ≡ word (lane_room n) (lcm a b) = at
      ∙ ap (λ k. word k (lcm a b)) (sym room_is) in
      let all = words.word_in_lanes n (lcm a b) (length-lcm a b same ∙ sym count_is) p.few
      (subst (λ k. AreSmall k (lcm a b)) (sym room_is) small) in
      let lanes_of : lanes (lane_room n) n z ≡ lcm a b = ap (lanes (lane_room n) n) here ∙ all.1 in
      (rw (sym here, sym (degree ∙ ap sum lanes_of)) at all.0, lanes_of)

-- the word of a list of small exponents
pub of_list : (n d w : ℕ) (e : List ℕ) → n ≡ length e → n ≤ 16 → AreSmall (lane_room n) e
    → d ≡ sum e → w ≡ word (lane_room n) e
    → IsInLanes n d w × (lanes (lane_room n) n w ≡ e)
of_list n d w e count few small degree is =
    rw (degree, is) (words.word_in_lanes n e (sym count) few small)

module _ (n m d f w v : ℕ) (a b : List ℕ) (p : IsInLanes n d w) (q : IsInLanes m f v)
    (is : lanes (lane_room n) n w ≡ a) (other_is : lanes (lane_room m) m v ≡ b) (same : length a
    ≡ length b) where
  count : m ≡ n
  count = sym (length-lanes (lane_room m) m v) ∙ ap length other_is ∙ sym same ∙ ap length (sym is)
      ∙ length-lanes (lane_room n) n w

  in_lanes : IsInLanes n f v
  in_lanes = subst (λ k. IsInLanes k f v) count q

  lanes_are : lanes (lane_room n) n v ≡ b
  lanes_are = ap (λ k. lanes (lane_room k) k v) (sym count) ∙ other_is

  pub length_of_quotient : length (lanes (lane_room n) n (w - v)) ≡ length a
  length_of_quotient = length-lanes (lane_room n) n (w - v) ∙ sym (length-lanes (lane_room n) n w)
      ∙ ap length is

  pub sum_fits : w + v < 2 ^ 128
  sum_fits = words.sum_fits n d w f v p in_lanes

  pub degrees_fit : d + f < 2 ^ 32
  degrees_fit = let x = words.degree_fits n d w p in let y = words.degree_fits n f v in_lanes in
      omega (arith, x, y)

  pub guards_fit : v + guards (lane_room n) (lane_count n) < 2 ^ 128
  guards_fit = words.guards_fit n d w f v p in_lanes

  pub below_guards : w ≤ v + guards (lane_room n) (lane_count n)
  below_guards = words.below_guards n d w f v p in_lanes

  pub other_below : v ≤ w + guards (lane_room n) (lane_count n)
  other_below = words.below_guards n f v d w in_lanes p

  pub divides_is : bit_and (v + guards (lane_room n) (lane_count n) - w)
      (guards (lane_room n) (lane_count n))
      ≡ guards (lane_room n) (lane_count n) ↔ Divides a b
  divides_is =
      let d = words.divides_is n d w f v p in_lanes in (
        (λ t. subst (λ x. Divides x b) is (subst (Divides (lanes (lane_room n) n w)) lanes_are
            (d.0 t))),
        (λ h. d.1 (subst (λ x. Divides x (lanes (lane_room n) n v)) (sym is)
            (subst (Divides a) (sym lanes_are) h))),
      )

  both : plus (lanes (lane_room n) n w) (lanes (lane_room n) n v) ≡ plus a b
  both = ap₂ plus is lanes_are

  pub short_product : bit_and (w + v) (guards (lane_room n) (lane_count n)) ≡ 0
      → IsInLanes n (d + f) (w + v) × (lanes (lane_room n) n (w + v) ≡ plus a b)
  short_product clear =
      let all = words.short_product n d w f v p in_lanes clear in
      (all.0, all.1 ∙ both)

  pub quotient_is : Divides b a → (f ≤ d) × (v ≤ w) × IsInLanes n (d - f) (w - v)
      × (plus b (lanes (lane_room n) n (w - v)) ≡ a)
  quotient_is h =
      let all = words.quotient_is n d w f v p in_lanes
      (subst (λ x. Divides x (lanes (lane_room n) n w)) (sym lanes_are)
      (subst (Divides b) (sym is) h)) in (
        all.0,
        all.1,
        all.2,
        ap (λ x. plus x (lanes (lane_room n) n (w - v))) (sym lanes_are) ∙ all.3
            ∙ is,
      )

  pub compare_lasts : nat_cmp v w ≡ slice_cmp nat_cmp (reverse b) (reverse a)
  compare_lasts = words.compare_lasts n d w f v p in_lanes
      ∙ ap₂ (λ x y. slice_cmp nat_cmp (reverse x) (reverse y)) lanes_are is

  pub compare_words : d ≡ f → nat_cmp v w ≡ compare grevlex a b
  compare_words e = words.compare_words n d w f v p in_lanes e ∙ ap₂ (compare grevlex) is lanes_are

  pub compare_degrees : (d ≡ f → ⊥) → nat_cmp d f ≡ compare grevlex a b
  compare_degrees apart = words.compare_degrees n d w f v p in_lanes apart
      ∙ ap₂ (compare grevlex) is lanes_are

  pub same_word : w ≡ v → a ≡ b
  same_word e = sym is ∙ words.same_word n d w f v p in_lanes e ∙ lanes_are

  pub same_lanes : a ≡ b → w ≡ v
  same_lanes e = words.same_lanes n d w f v p in_lanes (is ∙ e ∙ sym lanes_are)

  -- the greater exponents
  room : lane_room n ≡ lane_room (length a)
  room = room_is n d w a p is

  small : AreSmall (lane_room n) a
  small = subst (AreSmall (lane_room n)) is p.small

  small_other : AreSmall (lane_room n) b
  small_other = subst (AreSmall (lane_room n)) lanes_are in_lanes.small

  word_is : word (lane_room n) a ≡ w
  word_is = ap (word (lane_room n)) (sym is) ∙ words.word_is n d w p

  word_other : word (lane_room n) b ≡ v
  word_other = ap (word (lane_room n)) (sym lanes_are) ∙ words.word_is n f v in_lanes

  greater : Marks (lane_room n) (guards (lane_room n) (lane_count n)) w v
      (word (lane_room n) (lcm a b))
  greater = rw (word_is, word_other) at (marks (lane_room n) (lane_count n) a b same
      (subst (λ k. k ≤ lane_count n) (count_is n d w a p is) (words.few_lanes n p.few))
      small small_other)

  pub word_of_lcm : (r g u t : ℕ) → r ≡ lane_room n → g ≡ guards (lane_room n) (lane_count n)
      → u ≡ w + g - v → t ≡ bit_and u g
      → v + bit_and u (t - t / 2 ^ r) ≡ word (lane_room (length a)) (lcm a b)
  word_of_lcm r g u t bits at above mark =
      let over : u ≡ w + guards (lane_room n) (lane_count n) - v = above
      ∙ ap (λ k. w + k - v) at in
      let is_mark : t ≡ greater.mark * 2 ^ lane_room n = mark ∙ ap₂ bit_and over at
      ∙ greater.tests in
      let half : t / 2 ^ r ≡ greater.mark = ap₂ (λ k j. k / 2 ^ j) is_mark bits
      ∙ shl-shr greater.mark (lane_room n) in
      ap₂ (λ k j. v + bit_and k j) over (ap₂ ◌-◌ is_mark half) ∙ greater.most
      ∙ ap (λ k. word k (lcm a b)) room

  pub small_greater : AreSmall (lane_room (length a)) (lcm a b)
  small_greater = subst (λ k. AreSmall k (lcm a b)) room
      (small-lcm (lane_room n) a b small small_other)

  pub lcm_fits : word (lane_room (length a)) (lcm a b) < 2 ^ 128
  lcm_fits = word_fits (lane_room (length a)) (lcm a b)
      (subst (λ k. suc (lane_room (length a)) * k ≤ 128) (sym (length-lcm a b same))
      (words.room_fits (length a) (subst (λ k. k ≤ 16) (count_is n d w a p is) p.few)))
      small_greater

  pub coprime_is : word (lane_room (length a)) (lcm a b) ≡ w + v ↔ IsCoprime a b
  coprime_is = rw (sym room, sym word_is, sym word_other)
      (coprime_of (lane_room n) a b same small small_other)

  module _ (k : ℕ) (less : k < n) (j : ℕ) (bits : j ≡ suc (lane_room n) * k) where
    pub first_same : w % 2 ^ j ≡ v % 2 ^ j
        → compare grevlex a b ≡ compare (blocks k grevlex grevlex) a b
    first_same e = sym (ap₂ (compare grevlex) is lanes_are)
        ∙ words.first_same n d w f v p in_lanes k (omega (arith, less))
        (subst (λ i. w % 2 ^ i ≡ v % 2 ^ i) bits e)
        ∙ ap₂ (compare (blocks k grevlex grevlex)) is lanes_are

    pub first_lasts : (x y : ℕ) → x ≡ w % 2 ^ j → y ≡ v % 2 ^ j
        → nat_cmp y x ≡ slice_cmp nat_cmp (reverse (take k b)) (reverse (take k a))
    first_lasts x y at at_other =
        ap₂ nat_cmp (at_other ∙ ap (λ i. v % 2 ^ i) bits) (at ∙ ap (λ i. w % 2 ^ i) bits)
        ∙ words.first_lasts n d w f v p in_lanes k (omega (arith, less))
        ∙ ap₂ (λ x y. slice_cmp nat_cmp (reverse (take k x)) (reverse (take k y))) lanes_are is

    pub first_apart : (r x y g h : ℕ) → r ≡ lane_room n → x ≡ w % 2 ^ j → y ≡ v % 2 ^ j
        → (x ≡ y → ⊥)
        → g ≡ sum (lanes r k x) → h ≡ sum (lanes r k y)
        → ordering_then (nat_cmp g h) (nat_cmp y x) ≡ compare (blocks k grevlex grevlex) a b
    first_apart r x y g h room at at_other apart deg deg_other =
        let here : x ≡ w % 2 ^ (suc (lane_room n) * k) = at ∙ ap (λ i. w % 2 ^ i) bits in
        let there : y ≡ v % 2 ^ (suc (lane_room n) * k) = at_other ∙ ap (λ i. v % 2 ^ i) bits in
        ap₂ ordering_then (ap₂ nat_cmp (deg ∙ ap₂ (λ q z. sum (lanes q k z)) room here)
        (deg_other ∙ ap₂ (λ q z. sum (lanes q k z)) room there)) (ap₂ nat_cmp there here)
        ∙ words.first_apart n d w f v p in_lanes k (omega (arith, less))
        (λ e. apart (here ∙ e ∙ sym there))
        ∙ ap₂ (compare (blocks k grevlex grevlex)) is lanes_are

  pub other_fits : (r k : ℕ) → r ≡ lane_room n → k ≡ n → v < 2 ^ (suc r * k)
  other_fits r k room all = rw (room, all) in_lanes.all

  pub by_first : (r k : ℕ) → r ≡ lane_room n → k ≡ n → slice_cmp nat_cmp (lanes r k w) (lanes r k v)
      ≡ compare lex a b
  by_first r k room all =
      ap₂ (λ q z. slice_cmp nat_cmp (lanes q z w) (lanes q z v)) room all
      ∙ ap₂ (slice_cmp nat_cmp) is lanes_are ∙ sym (compare_lex a b)

-- two words of maybe different counts
module _ (n m d f w v : ℕ) (a b : List ℕ) (p : IsInLanes n d w) (q : IsInLanes m f v)
    (is : lanes (lane_room n) n w ≡ a) (other_is : lanes (lane_room m) m v ≡ b) where
  pub same_where_words : n ≡ m → w ≡ v ↔ (a ≡ b)
  same_where_words counts =
      let lengths : length a ≡ length b = sym (count_is n d w a p is) ∙ counts
      ∙ count_is m f v b q other_is in (
        same_word n m d f w v a b p q is other_is lengths,
        same_lanes n m d f w v a b p q is other_is
            lengths,
      )

  pub apart_where_counts : (n ≡ m → ⊥) → a ≡ b → ⊥
  apart_where_counts apart same = apart (count_is n d w a p is ∙ ap length same
      ∙ sym (count_is m f v b q other_is))
