-- Numbers that look random: the generator of Knuth's MMIX.
--   number_behind x     the number of 64 bits that follows x
--   drawn x             what is taken of it: its 31 upper bits
--   draws_from x n      the next n of what is taken, behind the number x
--   after_draws x n     the number behind which the next ones are then
use Rattle.std.specs.Prelude.{ℕ, zero, suc, List, [], ◌∷◌, ◌+◌, ◌*◌, ◌^◌, ◌/◌, ◌%◌}

abbrev pub multiplier : ℕ
multiplier = 6364136223846793005

abbrev pub increment : ℕ
increment = 1442695040888963407

unfoldable pub number_behind : ℕ → ℕ
number_behind x = (x * multiplier % 2 ^ 64 + increment) % 2 ^ 64

abbrev pub drawn : ℕ → ℕ
drawn x = x / 2 ^ 33

unfoldable pub draws_from : ℕ → ℕ → List ℕ
draws_from x zero = []
draws_from x (suc n) = drawn (number_behind x) ∷ draws_from (number_behind x) n

unfoldable pub after_draws : ℕ → ℕ → ℕ
after_draws x zero = x
after_draws x (suc n) = after_draws (number_behind x) n
