-- What words cost in a search: how many terms come together in their compositions, and more for each that is kept.
--   kept_cost                      what it costs to keep a term
--   most_cost                      the words up to one may not cost more together
--   most_count                     no number that counts is greater; one of these stands for all above
--   image_length m images t        how many terms the term t becomes with the images for its variables, like terms collected
--   composition_cost m images p    how many the terms of p become, one by one
--   letter_cost program p w        so many where p with all letters but the first is composed with the first one's map
--   start_cost program p w         so many where p with all letters is composed with the start's map
--   keeping_cost program p n w     what it costs to keep p with all letters, where these are fewer than n
--   cost program p n w             all these, together;  costs program p n ws: so of the words ws
--   IsTooCostly program p n w      of the words of at most n letters those up to w cost more than most_cost
use Rattle.std.specs.Prelude.{◌≡◌, ℕ, ◌+◌, ◌-◌, ◌*◌, ◌^◌, ◌<◌, List, [], ◌∷◌, ◌++◌, length, nat_lt, if◌then◌else◌}
use Rattle.std.specs.List.{sum_by}
use Rattle.algebra.specs.Fraction.{Fraction, rationals}
use Rattle.polynomials.specs.Terms.{Terms}
use Rattle.polynomials.specs.Order.{grevlex}
use Rattle.machines.specs.Collect.{collect}
use Rattle.loops.specs.Program.{Expr, Program}
use Rattle.loops.specs.Map.{start_map, branch_map}
use Rattle.rounds.specs.Word.{branch_of}
use Rattle.counter_run.specs.Composition.{term_product}
use Rattle.counter_run.specs.Images.{collected_after}
use Rattle.counter_run.specs.Words.{words_up_to}

abbrev pub kept_cost : ℕ
kept_cost = 8

unfoldable pub most_cost : ℕ
most_cost = 67108864

abbrev pub most_count : ℕ
most_count = 2 ^ 64 - 1

module _ (m : ℕ) (images : List (Terms Fraction)) where
  abbrev pub image_length : List ℕ × Fraction → ℕ
  image_length t = length (collect rationals grevlex (term_product m images t))

  abbrev pub composition_cost : Terms Fraction → ℕ
  composition_cost p = sum_by image_length p

module _ (program : Program (Expr ℕ)) (p : Terms Fraction) where
  unfoldable pub letter_cost : List ℕ → ℕ
  letter_cost [] = 0
  letter_cost (b ∷ w) =
      composition_cost (length program.names) (branch_map program (branch_of program b))
      (collected_after program p w)

  unfoldable pub start_cost : List ℕ → ℕ
  start_cost w =
      composition_cost (length program.names) (start_map program) (collected_after program p w)

  unfoldable pub keeping_cost : ℕ → List ℕ → ℕ
  keeping_cost n w =
      if nat_lt (length w) n then kept_cost * length (collected_after program p w) else 0

  abbrev pub cost : ℕ → List ℕ → ℕ
  cost n w = letter_cost w + start_cost w + keeping_cost n w

  abbrev pub costs : ℕ → List (List ℕ) → ℕ
  costs n ws = sum_by (cost n) ws

  pub record IsTooCostly (n : ℕ) (w : List ℕ) : Type 0 where
    pub before : List (List ℕ)
    pub behind : List (List ℕ)
    pub order : words_up_to (length program.branches) n ≡ before ++ w ∷ behind
    pub costly : most_cost < costs n (before ++ w ∷ [])
