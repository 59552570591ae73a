-- Exponents in the lanes of one number: a lane has room for an exponent, and one bit more, its guard, which is 0.
--   lane_room n, lane_count n      how many bits an exponent of n has, and how many lanes there are: 15 and 8 up to 8 exponents, 7 and 16 above
--   most_room, word_bits, half_bits      the most bits of an exponent in a lane, the bits of a word and of a half of it
--   most_degree         no short monomial has a higher degree
--   AreSmall b e        each exponent is below 2^b
--   IsShort e           at most 16 exponents that have room in their lanes
--   IsDouble e          more than 16 exponents, of which the first 16 are short and the others too
--   lanes b n w         the last n digits of w to the base 2^(b + 1), the last first
--   word b e            the number whose digits are e, the last first
--   guards b n          the number whose n lanes have nothing but their guards
--   IsInLanes n d w     n exponents of degree d stand in the lanes of w
use Rattle.std.specs.Prelude.{◌≡◌, ◌<◌, ◌≤◌, ◌^◌, ◌+◌, ◌*◌, ◌/◌, ◌%◌, ℕ, zero, suc, List, [], ◌∷◌, All, cond, leb, length, sum, take, drop}
use Rattle.monos.specs.Variables.{most_inline}

abbrev pub most_room : ℕ
most_room = 15

abbrev pub word_bits : ℕ
word_bits = 128

abbrev pub half_bits : ℕ
half_bits = 64

abbrev pub most_degree : ℕ
most_degree = 1048576

unfoldable pub lane_room : ℕ → ℕ
lane_room n = cond (leb n 8) 15 7

unfoldable pub lane_count : ℕ → ℕ
lane_count n = cond (leb n 8) 8 16

abbrev pub AreSmall : ℕ → List ℕ → Type 0
AreSmall b e = All (λ k. k < 2 ^ b) e

pub record IsShort (e : List ℕ) : Type 0 where
  pub few : length e ≤ most_inline
  pub small : AreSmall (lane_room (length e)) e

pub record IsDouble (e : List ℕ) : Type 0 where
  pub many : most_inline < length e
  pub first : IsShort (take most_inline e)
  pub others : IsShort (drop most_inline e)

unfoldable pub lanes : ℕ → ℕ → ℕ → List ℕ
lanes b zero w = []
lanes b (suc n) w = (w % 2 ^ suc b) ∷ lanes b n (w / 2 ^ suc b)

unfoldable pub word : ℕ → List ℕ → ℕ
word b [] = 0
word b (k ∷ e) = word b e * 2 ^ suc b + k

unfoldable pub guards : ℕ → ℕ → ℕ
guards b zero = 0
guards b (suc n) = guards b n * 2 ^ suc b + 2 ^ b

pub record IsInLanes (n d w : ℕ) : Type 0 where
  pub few : n ≤ most_inline
  pub all : w < 2 ^ (suc (lane_room n) * n)
  pub small : AreSmall (lane_room n) (lanes (lane_room n) n w)
  pub degree : d ≡ sum (lanes (lane_room n) n w)
