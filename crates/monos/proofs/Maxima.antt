-- The greater exponent at each place, by words.
--   Marks b g v w z      of the words v and w in lanes with the guards g: a number with a 1 in each lane where v has no less, and by it the word z with the greater in each lane
--   marks                the words of two lists, and that of their least common multiple
--   coprime_is           nothing is in both exactly where the greater ones are the sums
use Rattle.std.proofs.Common.{◌≡◌, ◌<◌, ◌≤◌, ◌↔◌, ◌⊎◌, inl, inr, ℕ, zero, suc, ◌+◌, ◌-◌, ◌*◌, ◌%◌, ◌^◌, List, [], ◌∷◌, length, get_or, max, min, refl, sym, ap, ap₂, ◌∙◌, subst, arith}
use Rattle.std.specs.Int.Bits.{bit_and}
use Rattle.std.proofs.lemmas.Bool.{cases_lt}
use Rattle.std.proofs.lemmas.Nat.{and_block, and_mask, and_le_r, mod_low, pow_pos}
use Rattle.std.proofs.Math.Nat.{add-mul, mul_assoc, mul_comm, mul-one, one-mul, zero-mul, mul-le-mul_right, mul-le-mul_left}
use Rattle.std.proofs.lemmas.List.Elements.{All-cons}
use Rattle.polynomials.specs.Exponent.{plus, lcm}
use Rattle.polynomials.proofs.Exponent.{length-lcm, length-plus_same, get_or-lcm, get_or-plus}
use Rattle.monos.specs.Coprime.{IsCoprime}
use Rattle.monos.specs.Lanes.{AreSmall, lanes, word, guards}
use Rattle.monos.proofs.Words.{small_first, small_rest, small_more, double, lanes-word, word-plus, guard_clear, guard_set, left_of_guards}
use Rattle.monos.proofs.ShortWords.{small-plus}

pub record Marks (b g v w z : ℕ) : Type 0 where
  pub mark : ℕ
  pub below : w ≤ v + g
  pub tests : bit_and (v + g - w) g ≡ mark * 2 ^ b
  pub most : w + bit_and (v + g - w) (mark * 2 ^ b - mark) ≡ z

swap : (m p q k : ℕ) → m * q * p + k * q ≡ (m * p + k) * q
swap m p q k = ap (λ a. a + k * q) (mul_assoc m q p ∙ ap (λ a. m * a) (mul_comm q p)
    ∙ sym (mul_assoc m p q)) ∙ sym (add-mul (m * p) k q)

no_less : (m b : ℕ) → m ≤ m * 2 ^ b
no_less m b = let e = mul-le-mul_left m (pow_pos b) in let one = mul-one m in omega (arith, e, one)

-- one lane more
more : (b g v w z x y k : ℕ) → x < 2 ^ b → y < 2 ^ b → k ≤ 1
    → bit_and (x + 2 ^ b - y) (2 ^ b) ≡ k * 2 ^ b
    → y + bit_and (x + 2 ^ b - y) (k * 2 ^ b - k) ≡ max x y
    → x + 2 ^ b - y < 2 ^ suc b
    → Marks b g v w z
    → Marks b (g * 2 ^ suc b + 2 ^ b) (v * 2 ^ suc b + x) (w * 2 ^ suc b + y)
    (z * 2 ^ suc b + max x y)
more b g v w z x y k s t few test most within q =
    let p = 2 ^ suc b in
    let m = q.mark in
    let d = double b in
    let pos = pow_pos b in
    let apart = left_of_guards b g y x w v q.below (omega (arith, t)) in
    let room : 2 ^ b < p = omega (arith, d, pos) in
    let mask : (m * p + k) * 2 ^ b - (m * p + k) ≡ (m * 2 ^ b - m) * p + (k * 2 ^ b - k) =
    (let whole = swap m p (2 ^ b) k in
    let split = add-mul (m * 2 ^ b - m) m p in
    let back : (m * 2 ^ b - m) + m ≡ m * 2 ^ b = (let l = no_less m b in omega (arith, l)) in
    let wide = ap (λ a. a * p) back in
    let l = no_less k b in
    omega (arith, whole, split, wide, l)) in
    let one : k * 2 ^ b - k < p = (let l = mul-le-mul_right (2 ^ b) few in
    let o = one-mul (2 ^ b) in omega (arith, l, o, room)) in
    record {
      mark = m * p + k;
      below = (let l = mul-le-mul_right p q.below in let a = add-mul v g p in
          omega (arith, l, a, t));
      tests = ap (λ a. bit_and a (g * p + 2 ^ b)) apart
          ∙ and_block (suc b) (v + g - w) g (x + 2 ^ b - y) (2 ^ b) within room
          ∙ ap₂ (λ a c. a * p + c) q.tests test ∙ swap m p (2 ^ b) k;
      most =
          let split = ap₂ bit_and apart mask
          ∙ and_block (suc b) (v + g - w) (m * 2 ^ b - m) (x + 2 ^ b - y) (k * 2 ^ b - k) within
          one in
          let sum = add-mul w (bit_and (v + g - w) (m * 2 ^ b - m)) p in
          let high = ap (λ a. a * p) q.most in
          omega (arith, split, sum, high, most);
    }

next : (b g v w z x y : ℕ) → x < 2 ^ b → y < 2 ^ b → Marks b g v w z
    → Marks b (g * 2 ^ suc b + 2 ^ b) (v * 2 ^ suc b + x) (w * 2 ^ suc b + y)
    (z * 2 ^ suc b + max x y)
next b g v w z x y s t q = go (cases_lt x y)
  where
    go : (x < y) ⊎ (y ≤ x) → Marks b (g * 2 ^ suc b + 2 ^ b) (v * 2 ^ suc b + x)
        (w * 2 ^ suc b + y) (z * 2 ^ suc b + max x y)
    go (inl lt) =
        let none = zero-mul (2 ^ b) in
        more b g v w z x y 0 s t (omega arith)
        (guard_clear b (x + 2 ^ b - y) (omega (arith, lt, t)) ∙ sym none)
        (let l = and_le_r (x + 2 ^ b - y) (0 * 2 ^ b - 0) in omega (arith, l, none, lt))
        (let d = double b in omega (arith, lt, t, d)) q
    go (inr le) =
        let one = one-mul (2 ^ b) in
        let d = double b in
        let is : x + 2 ^ b - y ≡ 1 * 2 ^ b + (x - y) = omega (arith, le, one) in
        let low : bit_and (x + 2 ^ b - y) (1 * 2 ^ b - 1) ≡ x - y =
        ap (λ m. bit_and (x + 2 ^ b - y) (m - 1)) one ∙ and_mask (x + 2 ^ b - y) b
        ∙ ap (λ k. k % 2 ^ b) is ∙ mod_low 1 b (x - y) (omega (arith, s)) in
        more b g v w z x y 1 s t (omega arith)
        (guard_set b (x + 2 ^ b - y) (omega (arith, le)) (omega (arith, d, s, le)) ∙ sym one)
        (omega (arith, low, le)) (omega (arith, d, s, le)) q

pub marks : (b n : ℕ) (d e : List ℕ) → length d ≡ length e → length d ≤ n → AreSmall b d
    → AreSmall b e → Marks b (guards b n) (word b d) (word b e) (word b (lcm d e))
unfolding word guards lcm
marks b zero [] [] l h s t = record {
  mark = 0;
  below = omega arith;
  tests = sym (zero-mul (2 ^ b));
  most = refl;
}
marks b (suc n) [] [] l h s t =
    subst (λ k. Marks b (guards b n * 2 ^ suc b + 2 ^ b) (k + 0) (k + 0) (k + 0))
    (zero-mul (2 ^ suc b)) (next b (guards b n) 0 0 0 0 0 (pow_pos b) (pow_pos b)
    (marks b n [] [] refl (omega arith) s t))
marks b n [] (y ∷ e) l h s t = absurd (omega arith)
marks b n (x ∷ d) [] l h s t = absurd (omega arith)
marks b zero (x ∷ d) (y ∷ e) l h s t = absurd (omega arith)
marks b (suc n) (x ∷ d) (y ∷ e) l h s t =
    next b (guards b n) (word b d) (word b e) (word b (lcm d e)) x y (small_first b x d s)
    (small_first b y e t)
    (marks b n d e (omega arith) (omega arith) (small_rest b x d s) (small_rest b y e t))

pub small-lcm : (b : ℕ) (d e : List ℕ) → AreSmall b d → AreSmall b e → AreSmall b (lcm d e)
unfolding lcm
small-lcm b [] e s t = t
small-lcm b (x ∷ d) [] s t = s
small-lcm b (x ∷ d) (y ∷ e) s t =
    let first = small_first b x d s in
    let other = small_first b y e t in
    All-cons (λ k. k < 2 ^ b) (max x y) (lcm d e) (omega (arith, first, other))
    (small-lcm b d e (small_rest b x d s) (small_rest b y e t))

lcm_of_coprime : (d e : List ℕ) → length d ≡ length e → IsCoprime d e → lcm d e ≡ plus d e
unfolding lcm plus
lcm_of_coprime [] e l h = refl
lcm_of_coprime (x ∷ d) [] l h = refl
lcm_of_coprime (x ∷ d) (y ∷ e) l h =
    let first : min x y ≡ 0 = h 0 (omega arith) in
    ap₂ ◌∷◌ (omega (arith, first)) (lcm_of_coprime d e (omega arith)
    (λ k i. h (suc k) (omega (arith, i))))

pub coprime_is : (b : ℕ) (d e : List ℕ) → length d ≡ length e → AreSmall b d → AreSmall b e
    → word b (lcm d e) ≡ word b d + word b e ↔ IsCoprime d e
coprime_is b d e l s t = (
  (λ h k i.
      let greater = lanes-word b (lcm d e) (small_more b (lcm d e) (small-lcm b d e s t)) in
      let sums = lanes-word b (plus d e) (small-plus b d e l s t) in
      let lengths : length (lcm d e) ≡ length (plus d e) = length-lcm d e l ∙ l
      ∙ sym (length-plus_same d e l) in
      let same : lcm d e ≡ plus d e = sym greater
      ∙ ap₂ (lanes b) lengths (h ∙ sym (word-plus b d e l)) ∙ sums in
      let at = ap (λ x. get_or x k 0) same in
      let most = get_or-lcm d e k in
      let sum = get_or-plus d e k in
      omega (arith, at, most, sum)),
  (λ h. ap (word b) (lcm_of_coprime d e l h) ∙ word-plus b d e l),
)
