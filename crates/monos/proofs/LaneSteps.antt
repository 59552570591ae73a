-- The steps of the functions that go from lane to lane.
use Rattle.std.proofs.Common.{◌≡◌, ◌<◌, ◌≤◌, ℕ, zero, suc, ◌+◌, ◌-◌, ◌*◌, ◌/◌, ◌%◌, ◌^◌, List, [], ◌∷◌, ◌++◌, inl, inr, length, take, set, sum, nat_cmp, Ordering, Equal, bit_xor, refl, sym, ap, ap₂, ◌∙◌, subst, append_assoc, add-one, arith}
use Rattle.std.specs.Int.{bit_at, trailing_zeros, w128}
use Rattle.std.specs.Cmp.{nat_cmp_is}
use Rattle.std.specs.Cmp.Lexicographic.{slice_cmp}
use Rattle.std.specs.Ordering.{ordering_then}
use Rattle.std.specs.Int.Bits.{bit_and}
use Rattle.std.proofs.lemmas.Cmp.{ranked, by_ranked}
use Rattle.std.proofs.lemmas.List.{append-nil, take_more_set}
use Rattle.std.proofs.lemmas.List.Sums.{sum_by-cons}
use Rattle.std.proofs.lemmas.Bool.{cases_lt}
use Rattle.std.proofs.lemmas.Nat.{one_shl, and_mask, shl_whole, pow_pos, mod_below, div-add-mod', shr-shr, shr_below, xor_lt}
use Rattle.std.proofs.lemmas.Nat.Bits.{bit_at-zero, bit_at-lt, bit_at_xor, bit_at_cat_low, bit_at-trailing_zeros, same_from_bits, same_from_bits_below}
use Rattle.std.proofs.Math.Nat.{pow-le-pow_right, mul-suc, mul-zero, zero-mul, suc-mul, add_comm, div-one, div-eq_of_lt, add-div_right, div-mul-le_self}
use Rattle.monos.specs.Lanes.{AreSmall, lanes, word}
use Rattle.monos.proofs.Words.{small_rest, small_more, word_below}

-- the lowest bits
pub mask_is : (w k : ℕ) → k < 128 → bit_and w ((1 * 2 ^ k) % 2 ^ 128 - 1) ≡ w % 2 ^ k
mask_is w k h = ap (λ m. bit_and w (m - 1)) (one_shl k 128 h) ∙ and_mask w k

pub one_fits : (k : ℕ) → k < 128 → 1 ≤ (1 * 2 ^ k) % 2 ^ 128
one_fits k h = rw (one_shl k 128 h) (pow_pos k)

-- the first of some lanes, and the others
lanes-suc : (b n w : ℕ) → 0 < n → lanes b n w ≡ (w % 2 ^ (b + 1)) ∷ lanes b (n - 1)
    (w / 2 ^ (b + 1))
unfolding lanes
lanes-suc b zero w h = absurd (omega arith)
lanes-suc b (suc n) w h = rw (add-one b) (ap (λ k. (w % 2 ^ suc b) ∷ lanes b k (w / 2 ^ suc b))
    (let e : n ≡ suc n - 1 = omega arith in e))

lanes-zero : (b n w : ℕ) → n ≡ 0 → lanes b n w ≡ []
unfolding lanes
lanes-zero b n w h = rw h refl

pub exponents_more : (b n i w : ℕ) (list e : List ℕ) → i < n → i < length list
    → take i list ++ lanes b (n - i) w ≡ e
    → take (i + 1) (set list i (w % 2 ^ (b + 1))) ++ lanes b (n - (i + 1)) (w / 2 ^ (b + 1)) ≡ e
exponents_more b n i w list e h l is =
    let less : n - (i + 1) ≡ n - i - 1 = omega arith in
    rw (take_more_set list i (w % 2 ^ (b + 1)), less)
    (append_assoc (take i list) ((w % 2 ^ (b + 1)) ∷ []) (lanes b (n - i - 1) (w / 2 ^ (b + 1)))
    ∙ ap (λ r. take i list ++ r) (sym (lanes-suc b (n - i) w (omega (arith, h)))) ∙ is)

pub exponents_all : (b n i w : ℕ) (list e : List ℕ) → n ≤ i → i ≤ n
    → take i list ++ lanes b (n - i) w ≡ e → take n list ≡ e
exponents_all b n i w list e h l is =
    let at : i ≡ n = omega (arith, h, l) in
    let none = lanes-zero b (n - i) w (omega (arith, h)) in
    let ends : take i list ≡ e = sym (append-nil (take i list))
    ∙ ap (λ r. take i list ++ r) (sym none) ∙ is in
    ap (λ k. take k list) (sym at) ∙ ends

pub degree_none : (b n w : ℕ) → n ≡ 0 → 0 ≡ sum (lanes b n w)
degree_none b n w h = sym (ap sum (lanes-zero b n w h))

pub degree_more : (b n w d : ℕ) → 0 < n → d ≡ sum (lanes b (n - 1) (w / 2 ^ (b + 1)))
    → w % 2 ^ (b + 1) + d ≡ sum (lanes b n w)
degree_more b n w d h is =
    let whole = ap sum (lanes-suc b n w h) in
    let split = sum_by-cons (λ k. k) (w % 2 ^ (b + 1)) (lanes b (n - 1) (w / 2 ^ (b + 1))) in
    omega (arith, is, whole, split)

-- the lowest bit in which two numbers differ
record DifferFrom (w v t : ℕ) : Type 0 where
  same : (i : ℕ) → i < t → bit_at w i ≡ bit_at v i
  apart : bit_at w t ≡ bit_at v t → ⊥

bit_at_rest : (w k i : ℕ) → i < k → bit_at (w % 2 ^ k) i ≡ bit_at w i
bit_at_rest w k i h = sym (bit_at_cat_low (w / 2 ^ k) k (w % 2 ^ k) i h)
    ∙ ap (λ x. bit_at x i) (div-add-mod' w (2 ^ k))

bit_at_quotient : (w k i : ℕ) → bit_at (w / 2 ^ k) i ≡ bit_at w (k + i)
bit_at_quotient w k i = ap (λ x. x % 2) (shr-shr w k i)

-- it lies in the first lane in which they differ
lane_apart : (k w v t : ℕ) → t < k → DifferFrom w v t → w % 2 ^ k ≡ v % 2 ^ k → ⊥
lane_apart k w v t h d same = d.apart (sym (bit_at_rest w k t h) ∙ ap (λ x. bit_at x t) same
    ∙ bit_at_rest v k t h)

lane_same : (k w v t : ℕ) → k ≤ t → DifferFrom w v t → w % 2 ^ k ≡ v % 2 ^ k
lane_same k w v t h d = same_from_bits_below k (w % 2 ^ k) (v % 2 ^ k)
    (mod_below w (2 ^ k) (pow_pos k)) (mod_below v (2 ^ k) (pow_pos k))
    (λ i l. bit_at_rest w k i l ∙ d.same i (omega (arith, h, l)) ∙ sym (bit_at_rest v k i l))

differ_later : (k w v t : ℕ) → DifferFrom w v (k + t) → DifferFrom (w / 2 ^ k) (v / 2 ^ k) t
differ_later k w v t d = record {
  same = λ i l. bit_at_quotient w k i ∙ d.same (k + i) (omega (arith, l))
      ∙ sym (bit_at_quotient v k i);
  apart = λ e. d.apart (sym (bit_at_quotient w k t) ∙ e ∙ bit_at_quotient v k t);
}

-- the first lanes, and the others
compare_first : (b n w v : ℕ) → (w % 2 ^ suc b ≡ v % 2 ^ suc b → ⊥)
    → nat_cmp (w % 2 ^ suc b) (v % 2 ^ suc b)
    ≡ slice_cmp nat_cmp (lanes b (suc n) w) (lanes b (suc n) v)
unfolding lanes
compare_first b n w v apart = sym (decided (w % 2 ^ suc b) (v % 2 ^ suc b)
    (slice_cmp nat_cmp (lanes b n (w / 2 ^ suc b)) (lanes b n (v / 2 ^ suc b))) apart)
  where
    decided : (x y : ℕ) (o : Ordering) → (x ≡ y → ⊥) → ordering_then (nat_cmp x y) o ≡ nat_cmp x y
    decided x y o ne = by_ranked (x < y) (x ≡ y) (y < x) (nat_cmp x y) (ranked x y _ refl)
        (λ r lt. rw r refl) (λ r is. absurd (ne is)) (λ r gt. rw r refl)

compare_others : (b n w v : ℕ) → w % 2 ^ suc b ≡ v % 2 ^ suc b
    → slice_cmp nat_cmp (lanes b n (w / 2 ^ suc b)) (lanes b n (v / 2 ^ suc b))
    ≡ slice_cmp nat_cmp (lanes b (suc n) w) (lanes b (suc n) v)
unfolding lanes
compare_others b n w v same =
    ap (λ o. ordering_then o (slice_cmp nat_cmp (lanes b n (w / 2 ^ suc b))
    (lanes b n (v / 2 ^ suc b))))
    (nat_cmp_is (w % 2 ^ suc b) (v % 2 ^ suc b) Equal same)

-- the lanes that have the lowest bit in which they differ decide
compare_lane : (b n w v t : ℕ) → w < 2 ^ (suc b * n) → v < 2 ^ (suc b * n) → DifferFrom w v t
    → nat_cmp (w / 2 ^ (t / suc b * suc b) % 2 ^ suc b) (v / 2 ^ (t / suc b * suc b) % 2 ^ suc b)
    ≡ slice_cmp nat_cmp (lanes b n w) (lanes b n v)
compare_lane b zero w v t h l d =
    let none : 2 ^ (suc b * 0) ≡ 1 = ap (λ k. 2 ^ k) (mul-zero (suc b)) in
    let w_is : w ≡ 0 = omega (arith, h, none) in
    let v_is : v ≡ 0 = omega (arith, l, none) in
    absurd (d.apart (ap (λ x. bit_at x t) (w_is ∙ sym v_is)))
compare_lane b (suc n) w v t h l d = elim (cases_lt t (suc b)) [
  | inl first ↦
      let at : t / suc b * suc b ≡ 0 = ap (λ q. q * suc b) (div-eq_of_lt first)
      ∙ zero-mul (suc b) in
      ap (λ k. nat_cmp (w / 2 ^ k % 2 ^ suc b) (v / 2 ^ k % 2 ^ suc b)) at
      ∙ ap₂ (λ x y. nat_cmp (x % 2 ^ suc b) (y % 2 ^ suc b)) (div-one w) (div-one v)
      ∙ compare_first b n w v (lane_apart (suc b) w v t first d)
  | inr behind ↦
      let rest = t - suc b in
      let up : suc b + rest ≡ t = omega (arith, behind) in
      let later = differ_later (suc b) w v rest (subst (DifferFrom w v) (sym up) d) in
      let fits : (x : ℕ) → x < 2 ^ (suc b * suc n) → x / 2 ^ suc b < 2 ^ (suc b * n) = (λ x below.
      shr_below x (suc b * n) (suc b) (subst (λ k. x < 2 ^ k) (mul-suc (suc b) n) below)) in
      let place : t / suc b * suc b ≡ suc b + rest / suc b * suc b
      = ap (λ k. k / suc b * suc b) (sym up ∙ add_comm (suc b) rest)
      ∙ ap (λ q. q * suc b) (add-div_right rest (omega arith) ∙ add-one (rest / suc b))
      ∙ suc-mul (rest / suc b) (suc b)
      ∙ add_comm (rest / suc b * suc b) (suc b) in
      let at : (x : ℕ) → x / 2 ^ (t / suc b * suc b) ≡ x / 2 ^ suc b / 2 ^ (rest / suc b * suc b)
      = (λ x. ap (λ k. x / 2 ^ k) place ∙ sym (shr-shr x (suc b) (rest / suc b * suc b))) in
      ap₂ (λ x y. nat_cmp (x % 2 ^ suc b) (y % 2 ^ suc b)) (at w) (at v)
      ∙ compare_lane b n (w / 2 ^ suc b) (v / 2 ^ suc b) rest (fits w h) (fits v l) later
      ∙ compare_others b n w v (lane_same (suc b) w v t behind d)
]

-- equal words
lanes_equal : (b n w : ℕ) → Equal ≡ slice_cmp nat_cmp (lanes b n w) (lanes b n w)
unfolding lanes
lanes_equal b zero w = refl
lanes_equal b (suc n) w = lanes_equal b n (w / 2 ^ suc b) ∙ compare_others b n w w refl

pub compare_same : (b n w v : ℕ) → w ≡ v → Equal ≡ slice_cmp nat_cmp (lanes b n w) (lanes b n v)
compare_same b n w v same = lanes_equal b n w
    ∙ ap (λ x. slice_cmp nat_cmp (lanes b n w) (lanes b n x)) same

-- two words that differ
module _ (b n w v : ℕ) (w_fits : w < 2 ^ 128) (v_fits : v < 2 ^ 128) (w_in : w < 2 ^ (suc b * n))
    (v_in : v < 2 ^ (suc b * n)) (apart : w ≡ v → ⊥) where
  abbrev pub lowest : ℕ
  lowest = trailing_zeros w128 (bit_xor w v)

  even : (x y : ℕ) → x < 2 → y < 2 → (x + y) % 2 ≡ 0 → x ≡ y
  even x y h l e = omega (arith, h, l, e)

  odd : (x y : ℕ) → (x + y) % 2 ≡ 1 → x ≡ y → ⊥
  odd x y e same = omega (arith, e, same)

  some : 0 < bit_xor w v
  some = elim (cases_lt 0 (bit_xor w v)) [
    | inl is ↦ is
    | inr none ↦
        let is : bit_xor w v ≡ 0 = omega (arith, none) in
        absurd (apart (same_from_bits w v (λ i. even (bit_at w i) (bit_at v i) (bit_at-lt w i)
        (bit_at-lt v i) (sym (bit_at_xor w v i) ∙ ap (λ x. bit_at x i) is ∙ bit_at-zero i))))
  ]

  differ : (lowest < 128) × DifferFrom w v lowest
  differ =
      let set = bit_at-trailing_zeros w128 (bit_xor w v) some (xor_lt 128 w v w_fits v_fits) in (
        set.0,
        record {
          same = λ i less. even (bit_at w i) (bit_at v i) (bit_at-lt w i) (bit_at-lt v i)
              (sym (bit_at_xor w v i) ∙ set.2 i less);
          apart = odd (bit_at w lowest) (bit_at v lowest) (sym (bit_at_xor w v lowest) ∙ set.1);
        },
      )

  pub lane_within : {at : ℕ} → at ≡ lowest / suc b * suc b → at < 128
  lane_within is =
      let set = differ.0 in
      let down = div-mul-le_self lowest (suc b) in
      omega (arith, set, down, is)

  pub lane_decides : {at x y : ℕ} → at ≡ lowest / suc b * suc b → x ≡ w / 2 ^ at % 2 ^ (b + 1)
      → y ≡ v / 2 ^ at % 2 ^ (b + 1) → nat_cmp x y ≡ slice_cmp nat_cmp (lanes b n w) (lanes b n v)
  lane_decides is x_is y_is = rw (x_is, y_is, is, add-one b)
      (compare_lane b n w v lowest w_in v_in differ.1)

-- a word by its exponents
pub word_none : (b : ℕ) (e : List ℕ) → length e ≡ 0 → 0 ≡ word b e
unfolding word
word_none b [] h = refl
word_none b (k ∷ e) h = absurd (omega arith)

pub fewer : (b k : ℕ) (d e : List ℕ) → e ≡ k ∷ d → suc b * length e ≤ 128 → suc b * length d + suc b
    ≤ 128
fewer b k d e is h =
    let count : length e ≡ suc (length d) = ap length is in
    let all = mul-suc (suc b) (length d) in
    let same : suc b * length e ≡ suc b * suc (length d) = ap (λ n. suc b * n) count in
    omega (arith, all, h, same)

pub word_more : (b k : ℕ) (d e : List ℕ) (w : ℕ) → e ≡ k ∷ d → suc b * length e ≤ 128 → AreSmall b e
    → w ≡ word b d
    → (w * 2 ^ (b + 1)) % 2 ^ 128 + k ≡ word b e
unfolding word
word_more b k d e w is h s at =
    let small : AreSmall b d = small_rest b k d (subst (AreSmall b) is s) in
    let below = word_below b d (small_more b d small) in
    let room = fewer b k d e is h in
    rw (is, at, add-one b)
    (ap (λ q. q + k) (shl_whole (word b d) (suc b * length d) (suc b) 128 below room))

pub word_fits : (b : ℕ) (e : List ℕ) → suc b * length e ≤ 128 → AreSmall b e → word b e < 2 ^ 128
word_fits b e h s =
    let below = word_below b e (small_more b e s) in
    let top = pow-le-pow_right {n = 2} (omega arith) {i = suc b * length e} {j = 128} h in
    omega (arith, below, top)
