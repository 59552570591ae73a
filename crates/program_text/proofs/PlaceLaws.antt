-- The place behind one byte more.
--   next_line, next_column     behind a line feed, and behind another byte
use Rattle.std.proofs.Common.{◌≡◌, ◌≢◌, ℕ, suc, ◌+◌, ◌<◌, List, [], ◌∷◌, ◌++◌, length, take, get_or, refl, ap, ◌∙◌, Bool, if◌then◌else◌, arith}
use Rattle.std.proofs.lemmas.Bool.{ne_eqb}
use Rattle.std.proofs.Math.Seq.{take-suc}
use Rattle.program_text.specs.Places.{step, place_behind}

one_more : (p : ℕ × ℕ) (text : List ℕ) (c : ℕ) → place_behind p (text ++ c ∷ [])
    ≡ step c (place_behind p text)
one_more p [] c = refl
one_more p (b ∷ bs) c = one_more (step b p) bs c

module _ (text : List ℕ) (i l k : ℕ) (within : i < length text)
    (before : place_behind (1, 1) (take i text) ≡ (l, k)) where
  next : place_behind (1, 1) (take (i + 1) text) ≡ step (get_or text i 0) (l, k)
  next =
      let e : i + 1 ≡ suc i = omega arith in
      ap (λ n. place_behind (1, 1) (take n text)) e
      ∙ ap (place_behind (1, 1)) (take-suc text i 0 within)
      ∙ one_more (1, 1) (take i text) (get_or text i 0) ∙ ap (step (get_or text i 0)) before

  pub next_line : get_or text i 0 ≡ 10 → place_behind (1, 1) (take (i + 1) text) ≡ (l + 1, 1)
  next_line is = let e : suc l ≡ l + 1 = omega arith in
      next ∙ ap (λ c. step c (l, k)) is ∙ ap (λ n. (n, 1)) e

  pub next_column : get_or text i 0 ≢ 10 → place_behind (1, 1) (take (i + 1) text) ≡ (l, k + 1)
  next_column other = let e : suc k ≡ k + 1 = omega arith in next
      ∙ ap (λ (b : Bool). if b then (suc l, 1) else (l, suc k)) (ne_eqb (get_or text i 0) 10 other)
      ∙ ap (λ n. (l, n)) e
