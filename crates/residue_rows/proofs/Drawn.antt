-- Draws, one after another.
--   draws_more, after_more     the next one, and the number behind which it stands
--   residues_more              the residues of one number more
use Rattle.std.proofs.Common.{◌≡◌, ℕ, zero, suc, ◌+◌, ◌<◌, pos, List, [], ◌∷◌, ◌++◌, map, take, get_or, length, refl, sym, ap, ap₂, ◌∙◌, arith}
use Rattle.std.proofs.lemmas.List.{map_push, take_more}
use Rattle.residue_rows.specs.declared.residue.Residue.{Residue}
use Rattle.residue_rows.specs.Numbers.{number_of, numbers_of}
use Rattle.residue_rows.specs.Draws.{number_behind, drawn, draws_from, after_draws}

next_draw : (x n : ℕ) → draws_from x (suc n)
    ≡ draws_from x n ++ drawn (number_behind (after_draws x n)) ∷ []
unfolding draws_from after_draws
next_draw x zero = refl
next_draw x (suc n) = ap (λ ns. drawn (number_behind x) ∷ ns) (next_draw (number_behind x) n)

next_number : (x n : ℕ) → after_draws x (suc n) ≡ number_behind (after_draws x n)
unfolding after_draws
next_number x zero = refl
next_number x (suc n) = next_number (number_behind x) n

pub no_draws : (x : ℕ) {ns : List ℕ} → ns ≡ [] → ns ≡ draws_from x 0
unfolding draws_from
no_draws x e = e

pub no_number : (x : ℕ) → x ≡ after_draws x 0
unfolding after_draws
no_number x = refl

pub draws_more : (x n : ℕ) {y z : ℕ} (d : ℕ) {ns more : List ℕ} → y ≡ after_draws x n
    → z ≡ number_behind y → d ≡ drawn z → ns ≡ draws_from x n → more ≡ ns ++ d ∷ []
    → more ≡ draws_from x (n + 1)
draws_more x n d before moved taken is e =
    let one_more : suc n ≡ n + 1 = omega arith in
    e
    ∙ ap₂ (λ ms c. ms ++ c ∷ []) is
    (taken ∙ ap drawn moved ∙ ap (λ k. drawn (number_behind k)) before)
    ∙ sym (next_draw x n) ∙ ap (draws_from x) one_more

pub after_more : (x n : ℕ) {y z : ℕ} → y ≡ after_draws x n → z ≡ number_behind y
    → z ≡ after_draws x (n + 1)
after_more x n before moved =
    let one_more : suc n ≡ n + 1 = omega arith in
    moved ∙ ap number_behind before ∙ sym (next_number x n) ∙ ap (after_draws x) one_more

pub residues_more : (ns : List ℕ) (row : List Residue) {more : List Residue} (i : ℕ) (r : Residue)
    → i < length ns → numbers_of row ≡ map pos (take i ns) → number_of r ≡ pos (get_or ns i 0)
    → more ≡ row ++ r ∷ [] → numbers_of more ≡ map pos (take (i + 1) ns)
residues_more ns row i r l before is e =
    ap numbers_of e ∙ map_push number_of row r ∙ ap₂ (λ xs x. xs ++ x ∷ []) before is
    ∙ sym (map_push pos (take i ns) (get_or ns i 0)) ∙ ap (map pos) (sym (take_more ns i 0 l))
