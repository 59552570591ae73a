-- Exponents in the lanes of one number (specs/Lanes).
use Rattle.std.proofs.Common.{◌≡◌, ◌<◌, ◌≤◌, ◌⊎◌, inl, inr, ℕ, zero, suc, ◌+◌, ◌-◌, ◌*◌, ◌/◌, ◌%◌, ◌^◌, List, [], ◌∷◌, ◌++◌, length, sum, take, drop, refl, sym, ap, ap₂, ◌∙◌, subst, add-zero, length-append, length-take, take-append-drop, length-drop, arith}
use Rattle.std.proofs.lemmas.Nat.{shr_high, mod_low, shr_split, shr_below, mul-add-lt, and_block, pow_pos, mod_below, same_from_place, pow-add, and_le_r}
use Rattle.std.proofs.lemmas.Nat.Bits.{and_pow}
use Rattle.std.proofs.lemmas.Bool.{cases_lt}
use Rattle.std.proofs.lemmas.List.Elements.{All-cons, All-nil, All-take}
use Rattle.std.proofs.Math.Nat.{mul-suc, add-mul, pow-suc, lt_of_le_of_lt, one-mul, mul-one, mul_assoc, zero-mul, div-eq_of_lt, div-eq_of_lt-le, suc-mul, mul-le-mul_right, mul_comm, add_comm}
use Rattle.std.proofs.Math.Numerals.{unary_clauses}
use Rattle.std.specs.Int.Bits.{bit_and, and_self}
use Rattle.std.proofs.Common.{reverse, nat_cmp, Ordering, Less, Equal, Greater}
use Rattle.std.proofs.lemmas.List.Sums.{sum_by-append}
use Rattle.std.proofs.lemmas.List.{reverse-append, length-reverse, take_all, drop_all}
use Rattle.std.specs.Cmp.Lexicographic.{slice_cmp}
use Rattle.std.specs.Cmp.{nat_cmp_is}
use Rattle.std.specs.Ordering.{ordering_then}
use Rattle.std.proofs.lemmas.Cmp.{ranked, by_ranked}
use Rattle.algebra.proofs.QuotientOrder.{nat_cmp-add}
use Rattle.polynomials.specs.Order.{compare, grevlex, blocks}
use Rattle.polynomials.proofs.Order.{compare_equal}
use Rattle.polynomials.proofs.Orders.{compare_grevlex, compare_blocks, grevlex_order, slice_cmp-append}
use Rattle.polynomials.specs.Exponent.{plus, Divides}
use Rattle.monos.specs.Lanes.{AreSmall, lanes, guards, word}

-- a list whose elements are small, taken apart
pub small_first : (b k : ℕ) (e : List ℕ) → AreSmall b (k ∷ e) → k < 2 ^ b
small_first b k e s = s 0 0 (omega arith)

pub small_rest : (b k : ℕ) (e : List ℕ) → AreSmall b (k ∷ e) → AreSmall b e
small_rest b k e s = λ i d h. s (suc i) d (omega arith)

pub double : (b : ℕ) → 2 ^ suc b ≡ 2 ^ b + 2 ^ b
double b = omega (arith, pow-suc 2 b)

pub small_more : (b : ℕ) (e : List ℕ) → AreSmall b e → AreSmall (suc b) e
small_more b e s = λ i d h. (let q = s i d h in omega (arith, q, double b))

pub length-lanes : (b n w : ℕ) → length (lanes b n w) ≡ n
unfolding lanes
length-lanes b zero w = refl
length-lanes b (suc n) w = omega (arith, length-lanes b n (w / 2 ^ suc b))

pub lanes-take : (b k n w : ℕ) → k ≤ n → lanes b k w ≡ take k (lanes b n w)
unfolding lanes
lanes-take b zero n w h = refl
lanes-take b (suc k) zero w h = absurd (omega arith)
lanes-take b (suc k) (suc n) w h = ap (λ r. (w % 2 ^ suc b) ∷ r)
    (lanes-take b k n (w / 2 ^ suc b) (omega arith))

pub small-lanes : (b n w : ℕ) → AreSmall (suc b) (lanes b n w)
unfolding lanes
small-lanes b zero w = All-nil (λ k. k < 2 ^ suc b)
small-lanes b (suc n) w = All-cons (λ k. k < 2 ^ suc b) _ _
    (mod_below w (2 ^ suc b) (pow_pos (suc b)))
    (small-lanes b n (w / 2 ^ suc b))

pub lanes-word : (b : ℕ) (e : List ℕ) → AreSmall (suc b) e → lanes b (length e) (word b e) ≡ e
unfolding lanes word
lanes-word b [] s = refl
lanes-word b (k ∷ e) s =
    ap₂ ◌∷◌ (mod_low (word b e) (suc b) k (small_first (suc b) k e s))
    (ap (lanes b (length e)) (shr_high (word b e) (suc b) k (small_first (suc b) k e s))
    ∙ lanes-word b e (small_rest (suc b) k e s))

below_one : (w : ℕ) → w < 1 → 0 ≡ w
below_one w h = omega arith

pub word-lanes : (b n w : ℕ) → w < 2 ^ (suc b * n) → word b (lanes b n w) ≡ w
unfolding lanes word
word-lanes b zero w h = below_one w (simp unary_clauses at h)
word-lanes b (suc n) w h =
    ap (λ q. q * 2 ^ suc b + w % 2 ^ suc b)
    (word-lanes b n (w / 2 ^ suc b) (shr_below w (suc b * n) (suc b) (rw (sym (mul-suc (suc b) n))
    h)))
    ∙ shr_split w (suc b)

pub word-plus : (b : ℕ) (d e : List ℕ) → length d ≡ length e → word b (plus d e) ≡ word b d
    + word b e
unfolding plus word
word-plus b [] [] l = refl
word-plus b [] (y ∷ e) l = absurd (omega arith)
word-plus b (x ∷ d) [] l = absurd (omega arith)
word-plus b (x ∷ d) (y ∷ e) l =
    rw (word-plus b d e (omega arith), add-mul (word b d) (word b e) (2 ^ suc b)) (omega arith)

-- one lane more
pub pow_lane : (b n : ℕ) → 2 ^ (suc b * suc n) ≡ 2 ^ (suc b * n) * 2 ^ suc b
pow_lane b n = ap (λ k. 2 ^ k) (mul-suc (suc b) n) ∙ pow-add 2 (suc b * n) (suc b)

-- twice the word of small exponents is below the power of their lanes
pub word_half : (b : ℕ) (e : List ℕ) → AreSmall b e → word b e + word b e < 2 ^ (suc b * length e)
unfolding word
word_half b [] s = pow_pos (suc b * 0)
word_half b (k ∷ e) s =
    let below = word_half b e (small_rest b k e s) in
    let first : k + k < 2 ^ suc b = (let q = small_first b k e s in omega (arith, q, double b)) in
    let all = mul-add-lt (word b e + word b e) (2 ^ suc b) (k + k) (2 ^ (suc b * length e)) below
    first in
    let split = add-mul (word b e) (word b e) (2 ^ suc b) in
    let power = pow_lane b (length e) in
    omega (arith, all, split, power, mul_comm (2 ^ suc b) (2 ^ (suc b * length e)))

-- ---- the guard of one lane

-- a number below twice a power of 2 has its bit exactly where it isn't below it
pub guard_clear : (b k : ℕ) → k < 2 ^ b → bit_and k (2 ^ b) ≡ 0
guard_clear b k h = and_pow k b ∙ ap (λ q. q % 2 * 2 ^ b) (div-eq_of_lt h) ∙ zero-mul (2 ^ b)

pub guard_set : (b k : ℕ) → 2 ^ b ≤ k → k < 2 ^ suc b → bit_and k (2 ^ b) ≡ 2 ^ b
guard_set b k low high =
    and_pow k b
    ∙ ap (λ q. q % 2 * 2 ^ b) (one_of k (2 ^ b) low (let d = double b in
    omega (arith, d, high)))
    ∙ one-mul (2 ^ b)
  where
    one_of : (n p : ℕ) → p ≤ n → n < p + p → n / p ≡ 1
    one_of n p h l = div-eq_of_lt-le p (omega (arith, h)) (omega (arith, l))

-- ---- all guards

pub guards_below : (b n : ℕ) → guards b n < 2 ^ (suc b * n)
unfolding guards
guards_below b zero = pow_pos (suc b * 0)
guards_below b (suc n) =
    let all = mul-add-lt (guards b n) (2 ^ suc b) (2 ^ b) (2 ^ (suc b * n)) (guards_below b n)
    (let d = double b in let p = pow_pos b in omega (arith, d, p)) in
    omega (arith, all, pow_lane b n, mul_comm (2 ^ suc b) (2 ^ (suc b * n)))

both_zero : (x p y : ℕ) → 0 < p → x * p + y ≡ 0 → (x ≡ 0) × (y ≡ 0)
both_zero zero p y l h = (refl, omega arith)
both_zero (suc x) p y l h = absurd (let e = suc-mul x p in omega (arith, e, h, l))

-- where the guards of a word of lanes are clear, its exponents are small
pub small_from_clear : (b n : ℕ) (e : List ℕ) → length e ≤ n → AreSmall (suc b) e
    → bit_and (word b e) (guards b n) ≡ 0 → AreSmall b e
unfolding word guards
small_from_clear b n [] l s h = All-nil (λ k. k < 2 ^ b)
small_from_clear b zero (k ∷ e) l s h = absurd (omega arith)
small_from_clear b (suc n) (k ∷ e) l s h =
    let small = small_first (suc b) k e s in
    let d = double b in
    let p = pow_pos b in
    let apart = sym (and_block (suc b) (word b e) (guards b n) k (2 ^ b) small
    (omega (arith, d, p))) ∙ h in
    let both = both_zero (bit_and (word b e) (guards b n)) (2 ^ suc b) (bit_and k (2 ^ b))
    (pow_pos (suc b)) apart in
    All-cons (λ k. k < 2 ^ b) k e (go (cases_lt k (2 ^ b)) both.1)
    (small_from_clear b n e (omega arith) (small_rest (suc b) k e s) both.0)
  where
    go : (k < 2 ^ b) ⊎ (2 ^ b ≤ k) → bit_and k (2 ^ b) ≡ 0 → k < 2 ^ b
    go (inl below) z = below
    go (inr above) z = absurd (let p = pow_pos b in let q =
        guard_set b k above (small_first (suc b) k e s) in omega (arith, p, q, z))

-- a word of small exponents and all guards have room in the lanes
pub word_with_guards : (b n : ℕ) (e : List ℕ) → length e ≤ n → AreSmall b e
    → word b e + guards b n < 2 ^ (suc b * n)
unfolding word guards
word_with_guards b n [] l s = let g = guards_below b n in omega (arith, g)
word_with_guards b zero (k ∷ e) l s = absurd (omega arith)
word_with_guards b (suc n) (k ∷ e) l s =
    let small = small_first b k e s in
    let all = mul-add-lt (word b e + guards b n) (2 ^ suc b) (k + 2 ^ b) (2 ^ (suc b * n))
    (word_with_guards b n e (omega arith) (small_rest b k e s)) (let d = double b in
    omega (arith, d, small)) in
    omega (
      arith,
      all,
      add-mul (word b e) (guards b n) (2 ^ suc b),
      pow_lane b n,
      mul_comm (2 ^ suc b) (2 ^ (suc b * n)),
    )

-- ---- the test of division

pub word_guards : (b n : ℕ) (e : List ℕ) → length e ≤ n → AreSmall b e → word b e ≤ guards b n
unfolding word guards
word_guards b n [] l s = omega arith
word_guards b zero (k ∷ e) l s = absurd (omega arith)
word_guards b (suc n) (k ∷ e) l s =
    let small = small_first b k e s in
    let rest = mul-le-mul_right (2 ^ suc b) (word_guards b n e (omega arith)
    (small_rest b k e s)) in
    omega (arith, rest, small)

divides_cons : (x y : ℕ) (d e : List ℕ) → x ≤ y → Divides d e → Divides (x ∷ d) (y ∷ e)
divides_cons x y d e le rest zero h = le
divides_cons x y d e le rest (suc i) h = rest i (omega arith)

-- one lane of the test
lane_test : (b k l : ℕ) → k < 2 ^ b → l < 2 ^ b → (k ≤ l → bit_and (l + 2 ^ b - k) (2 ^ b) ≡ 2 ^ b)
    × (bit_and (l + 2 ^ b - k) (2 ^ b) ≡ 2 ^ b → k ≤ l)
lane_test b k l s t = (
  (λ le. let d = double b in guard_set b (l + 2 ^ b - k) (omega (arith, le))
      (omega (arith, d, t, le))),
  (λ set. go set (cases_lt l k)),
)
  where
    go : bit_and (l + 2 ^ b - k) (2 ^ b) ≡ 2 ^ b → (l < k) ⊎ (k ≤ l) → k ≤ l
    go set (inr le) = le
    go set (inl lt) = absurd (let p = pow_pos b in
        let q = guard_clear b (l + 2 ^ b - k) (omega (arith, lt, s)) in omega (arith, p, q, set))

-- what is left of the guards, lane by lane
pub left_of_guards : (b g k l x y : ℕ) → x ≤ y + g → k ≤ l + 2 ^ b
    → (y * 2 ^ suc b + l) + (g * 2 ^ suc b + 2 ^ b) - (x * 2 ^ suc b + k)
    ≡ (y + g - x) * 2 ^ suc b + (l + 2 ^ b - k)
left_of_guards b g k l x y h guard =
    let z = y + g - x in
    let e : x + z ≡ y + g = omega (arith, h) in
    let both : x * 2 ^ suc b + z * 2 ^ suc b ≡ y * 2 ^ suc b + g * 2 ^ suc b
    = sym (add-mul x z (2 ^ suc b)) ∙ ap (λ q. q * 2 ^ suc b) e
    ∙ add-mul y g (2 ^ suc b) in
    take_off (x * 2 ^ suc b) (z * 2 ^ suc b) (y * 2 ^ suc b) (g * 2 ^ suc b) l (2 ^ b) k
    both guard
  where
    take_off : (p q r s l g k : ℕ) → p + q ≡ r + s → k ≤ l + g → (r + l) + (s + g) - (p + k) ≡ q
        + (l + g - k)
    take_off p q r s l g k e h = omega (arith, e, h)

pub test_of_divides : (b n : ℕ) (d e : List ℕ) → length d ≡ length e → length d ≤ n → AreSmall b d
    → AreSmall b e
    → Divides d e → bit_and (word b e + guards b n - word b d) (guards b n) ≡ guards b n
unfolding word guards
test_of_divides b n [] [] h l s t div = ap (λ q. bit_and q (guards b n)) (omega arith)
    ∙ and_self (guards b n)
test_of_divides b n [] (y ∷ e) h l s t div = absurd (omega arith)
test_of_divides b n (x ∷ d) [] h l s t div = absurd (omega arith)
test_of_divides b zero (x ∷ d) (y ∷ e) h l s t div = absurd (omega arith)
test_of_divides b (suc n) (x ∷ d) (y ∷ e) h l s t div =
    let small_x = small_first b x d s in
    let small_y = small_first b y e t in
    let g = word_guards b n d (omega arith) (small_rest b x d s) in
    let u = double b in
    let p = pow_pos b in
    let first : x ≤ y = div 0 (omega arith) in
    let rest : Divides d e = (λ i k. div (suc i) (omega arith)) in
    ap (λ q. bit_and q (guards b n * 2 ^ suc b + 2 ^ b))
    (left_of_guards b (guards b n) x y (word b d) (word b e) (omega (arith, g))
    (omega (arith, small_x)))
    ∙ and_block (suc b) (word b e + guards b n - word b d) (guards b n) (y + 2 ^ b - x) (2 ^ b)
    (omega (arith, u, small_y, first)) (omega (arith, u, p))
    ∙ ap₂ (λ q r. q * 2 ^ suc b + r)
    (test_of_divides b n d e (omega arith) (omega arith) (small_rest b x d s) (small_rest b y e t)
    rest)
    ((lane_test b x y small_x small_y).0 first)

pub divides_of_test : (b n : ℕ) (d e : List ℕ) → length d ≡ length e → length d ≤ n → AreSmall b d
    → AreSmall b e
    → bit_and (word b e + guards b n - word b d) (guards b n) ≡ guards b n → Divides d e
unfolding word guards
divides_of_test b n [] [] h l s t test = λ i k. absurd (omega arith)
divides_of_test b n [] (y ∷ e) h l s t test = absurd (omega arith)
divides_of_test b n (x ∷ d) [] h l s t test = absurd (omega arith)
divides_of_test b zero (x ∷ d) (y ∷ e) h l s t test = absurd (omega arith)
divides_of_test b (suc n) (x ∷ d) (y ∷ e) h l s t test =
    let small_x = small_first b x d s in
    let small_y = small_first b y e t in
    let g = word_guards b n d (omega arith) (small_rest b x d s) in
    let u = double b in
    let p = pow_pos b in
    let within : y + 2 ^ b - x < 2 ^ suc b = omega (arith, u, small_y) in
    let apart = sym (and_block (suc b) (word b e + guards b n - word b d) (guards b n)
    (y + 2 ^ b - x) (2 ^ b)
    within (omega (arith, u, p)))
    ∙ sym (ap (λ q. bit_and q (guards b n * 2 ^ suc b + 2 ^ b))
    (left_of_guards b (guards b n) x y (word b d) (word b e) (omega (arith, g))
    (omega (arith, small_x))))
    ∙ test in
    let both = same_from_place (bit_and (word b e + guards b n - word b d) (guards b n))
    (bit_and (y + 2 ^ b - x) (2 ^ b))
    (guards b n) (2 ^ b) (2 ^ suc b) (lt_of_le_of_lt (and_le_r (y + 2 ^ b - x) (2 ^ b))
    (omega (arith, u, p))) (omega (arith, u, p)) apart in
    divides_cons x y d e ((lane_test b x y small_x small_y).1 both.1)
    (divides_of_test b n d e (omega arith) (omega arith) (small_rest b x d s) (small_rest b y e t)
    both.0)

-- ---- comparing

then_nothing : (o : Ordering) → ordering_then o Equal ≡ o
then_nothing Less = refl
then_nothing Equal = refl
then_nothing Greater = refl

word_below_word : (p x y k l : ℕ) → k < p → x < y → x * p + k < y * p + l
word_below_word p x y k l h lt =
    let le = mul-le-mul_right p lt in
    let one = suc-mul x p in
    omega (arith, h, le, one)

-- of two words the greater is the one with the greater exponent in the last place where they differ
word_cmp-cons : (p x y k l : ℕ) → k < p → l < p
    → nat_cmp (x * p + k) (y * p + l) ≡ ordering_then (nat_cmp x y) (nat_cmp k l)
word_cmp-cons p x y k l h g =
    by_ranked (x < y) (x ≡ y) (y < x) (nat_cmp x y) (ranked x y _ refl)
    (λ o lt. rw o (sym (nat_cmp_is (x * p + k) (y * p + l) Less (word_below_word p x y k l h lt))))
    (λ o is. rw (o, is, add_comm (y * p) k, add_comm (y * p) l) (nat_cmp-add k l (y * p)))
    (λ o gt. rw o
    (sym (nat_cmp_is (x * p + k) (y * p + l) Greater (word_below_word p y x l k g gt))))

pub word_cmp : (b : ℕ) (d e : List ℕ) → length d ≡ length e → AreSmall (suc b) d
    → AreSmall (suc b) e
    → nat_cmp (word b d) (word b e) ≡ slice_cmp nat_cmp (reverse d) (reverse e)
unfolding word
word_cmp b [] [] l s t = refl
word_cmp b [] (y ∷ e) l s t = absurd (omega arith)
word_cmp b (x ∷ d) [] l s t = absurd (omega arith)
word_cmp b (x ∷ d) (y ∷ e) l s t =
    word_cmp-cons (2 ^ suc b) (word b d) (word b e) x y (small_first (suc b) x d s)
    (small_first (suc b) y e t)
    ∙ ap (λ o. ordering_then o (nat_cmp x y)) (word_cmp b d e (omega arith)
    (small_rest (suc b) x d s) (small_rest (suc b) y e t))
    ∙ sym (rw (reverse-append (x ∷ []) d, reverse-append (y ∷ []) e)
    (slice_cmp-append (reverse d) (x ∷ []) (reverse e) (y ∷ []) (length-reverse d ∙ (omega arith)
    ∙ sym (length-reverse e))
    ∙ ap (ordering_then (slice_cmp nat_cmp (reverse d) (reverse e))) (then_nothing (nat_cmp x y))))

-- ---- the first lanes

pub small-take : (b k : ℕ) (e : List ℕ) → AreSmall b e → AreSmall b (take k e)
small-take b k e s = All-take (λ k. k < 2 ^ b) k e s

pub word_below : (b : ℕ) (e : List ℕ) → AreSmall (suc b) e → word b e < 2 ^ (suc b * length e)
unfolding word
word_below b [] s = pow_pos (suc b * 0)
word_below b (k ∷ e) s =
    let all = mul-add-lt (word b e) (2 ^ suc b) k (2 ^ (suc b * length e))
    (word_below b e (small_rest (suc b) k e s))
    (small_first (suc b) k e s) in
    omega (arith, all, pow_lane b (length e), mul_comm (2 ^ suc b) (2 ^ (suc b * length e)))

one_lane : (x p : ℕ) → p ≡ 1 → x ≡ x * p + 0
one_lane x p h = rw h (sym (add-zero (x * 1) ∙ mul-one x))

pub word-append : (b : ℕ) (d e : List ℕ) → word b (d ++ e) ≡ word b e * 2 ^ (suc b * length d)
    + word b d
unfolding word
word-append b [] e = one_lane (word b e) (2 ^ (suc b * 0)) (simp unary_clauses refl)
word-append b (k ∷ d) e =
    ap (λ q. q * 2 ^ suc b + k) (word-append b d e)
    ∙ (rw (
      pow_lane b (length d),
      add-mul (word b e * 2 ^ (suc b * length d)) (word b d)
          (2 ^ suc b),
      mul_assoc (word b e) (2 ^ (suc b * length d)) (2 ^ suc b),
    ) (omega arith))

pub word-take : (b k : ℕ) (e : List ℕ) → k ≤ length e → AreSmall (suc b) e
    → word b e % 2 ^ (suc b * k) ≡ word b (take k e)
word-take b k e l s =
    let count : length (take k e) ≡ k = (let q = length-take k e in omega (arith, q, l)) in
    let small : AreSmall (suc b) (take k e) = small-take (suc b) k e s in
    let low = word_below b (take k e) small in
    let split = word-append b (take k e) (drop k e) in
    ap (λ r. word b r % 2 ^ (suc b * k)) (sym (take-append-drop k e))
    ∙ ap (λ q. q % 2 ^ (suc b * k)) (split
    ∙ ap (λ n. word b (drop k e) * 2 ^ (suc b * n) + word b (take k e)) count)
    ∙ mod_low (word b (drop k e)) (suc b * k) (word b (take k e))
    (subst (λ n. word b (take k e) < 2 ^ (suc b * n)) count low)

-- ---- the order by blocks

same_cmp : (a : List ℕ) → slice_cmp nat_cmp a a ≡ Equal
same_cmp [] = refl
same_cmp (x ∷ a) = ap (λ o. ordering_then o (slice_cmp nat_cmp a a))
    (sym (nat_cmp_is x x Equal refl)) ∙ same_cmp a

compare_same : (d : List ℕ) → compare grevlex d d ≡ Equal
unfolding compare
compare_same d = same_cmp (grevlex d)

compare_after : (t x y : List ℕ) → length x ≡ length y
    → compare grevlex (t ++ x) (t ++ y) ≡ compare grevlex x y
compare_after t x y l =
    let degrees : nat_cmp (sum (t ++ x)) (sum (t ++ y)) ≡ nat_cmp (sum x) (sum y) =
    rw (
      sum_by-append (λ k. k) t x,
      sum_by-append (λ k. k) t y,
      add_comm (sum t) (sum x),
      add_comm (sum t) (sum y),
    )
    (nat_cmp-add (sum x) (sum y) (sum t)) in
    let lasts : slice_cmp nat_cmp (reverse (t ++ y)) (reverse (t ++ x)) ≡ slice_cmp nat_cmp
    (reverse y) (reverse x) =
    rw (reverse-append t x, reverse-append t y)
    (slice_cmp-append (reverse y) (reverse t) (reverse x) (reverse t) (length-reverse y ∙ sym l
    ∙ sym (length-reverse x))
    ∙ ap (ordering_then (slice_cmp nat_cmp (reverse y) (reverse x))) (same_cmp (reverse t))
    ∙ then_nothing (slice_cmp nat_cmp (reverse y) (reverse x))) in
    compare_grevlex (t ++ x) (t ++ y) (let p = length-append t x in let q = length-append t y in
    omega (arith, p, q, l))
    ∙ ap₂ ordering_then degrees lasts
    ∙ sym (compare_grevlex x y l)

pub compare_all : (k : ℕ) (d e : List ℕ) → length d ≡ length e → length d ≤ k
    → compare (blocks k grevlex grevlex) d e ≡ compare grevlex d e
compare_all k d e l h =
    compare_blocks k grevlex grevlex grevlex_order grevlex_order d e l
    ∙ ap₂ ordering_then (ap₂ (compare grevlex) (take_all k d h) (take_all k e (omega arith)))
    (ap₂ (compare grevlex) (drop_all k d h) (drop_all k e (omega arith)) ∙ compare_same [])
    ∙ then_nothing (compare grevlex d e)

pub compare_apart : (k : ℕ) (d e : List ℕ) → length d ≡ length e → (take k d ≡ take k e → ⊥)
    → compare (blocks k grevlex grevlex) d e ≡ compare grevlex (take k d) (take k e)
compare_apart k d e l apart =
    compare_blocks k grevlex grevlex grevlex_order grevlex_order d e l
    ∙ go (compare grevlex (take k d) (take k e)) (compare grevlex (drop k d) (drop k e))
    (λ is. apart (compare_equal grevlex grevlex_order (take k d) (take k e) is))
  where
    go : (o r : Ordering) → (o ≡ Equal → ⊥) → ordering_then o r ≡ o
    go Less r n = refl
    go Equal r n = absurd (n refl)
    go Greater r n = refl

pub compare_rest : (k : ℕ) (d e : List ℕ) → length d ≡ length e → take k d ≡ take k e
    → compare (blocks k grevlex grevlex) d e ≡ compare grevlex d e
compare_rest k d e l same =
    compare_blocks k grevlex grevlex grevlex_order grevlex_order d e l
    ∙ ap (λ o. ordering_then o (compare grevlex (drop k d) (drop k e)))
    (ap (compare grevlex (take k d)) (sym same) ∙ compare_same (take k d))
    ∙ sym (compare_after (take k d) (drop k d) (drop k e) (let p = length-drop k d in let q =
    length-drop k e in omega (arith, p, q, l)))
    ∙ ap₂ (compare grevlex) (take-append-drop k d) (ap (λ t. t ++ drop k e) same
    ∙ take-append-drop k e)
