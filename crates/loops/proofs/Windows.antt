-- Windows of sequences.
--   length-values, length-window     how many values they have
--   values_more                      one value more at the end
--   picked_window                    the values of the sequences themselves
--   window_place                     the value at each place
use Rattle.std.proofs.Common.{◌≡◌, ℕ, zero, suc, ◌+◌, ◌<◌, List, [], ◌∷◌, ◌++◌, length, get_or, arith, refl, sym, ap, ap₂, ◌∙◌}
use Rattle.std.proofs.lemmas.List.{append_assoc, length-append}
use Rattle.std.proofs.lemmas.List.{get_or_append_left}
use Rattle.algebra.specs.Fraction.{Fraction, ℚ}
use Rattle.loops.specs.Sequences.{Sequence, order, size}
use Rattle.loops.specs.Turning.{first_places}
use Rattle.loops.specs.Solutions.{values, window, at_index}
use Rattle.loops.specs.Relations.{values_at_places}
use Rattle.loops.proofs.Lists.{behind_place}

pub length-values : (f : ℕ → Fraction) (n r : ℕ) → length (values f n r) ≡ r
unfolding values
length-values f n zero = refl
length-values f n (suc r) = ap suc (length-values f (suc n) r)

pub values_more : (f : ℕ → Fraction) (n r : ℕ) → values f n (suc r) ≡ values f n r ++ f (n + r) ∷ []
unfolding values
values_more f n zero = ap (λ k. f k ∷ []) (omega arith)
values_more f n (suc r) =
    ap (λ l. f n ∷ l) (values_more f (suc n) r
    ∙ ap (λ k. values f (suc n) r ++ f k ∷ []) (omega arith))

pub values_at : (f : ℕ → Fraction) (n r i : ℕ) (d : Fraction) → i < r
    → get_or (values f n r) i d ≡ f (n + i)
unfolding values
values_at f n zero i d l = absurd (omega arith)
values_at f n (suc r) zero d l = ap f (omega arith)
values_at f n (suc r) (suc i) d l = values_at f (suc n) r i d (omega arith) ∙ ap f (omega arith)

module _ {E : Type 0} where
  pub length-window : (fs : ℕ → ℕ → Fraction) (n : ℕ) (qs : List (Sequence E))
      → length (window fs n qs) ≡ size qs
  unfolding window size
  length-window fs n [] = refl
  length-window fs n (q ∷ qs) =
      length-append (values (fs 0) n (order q)) (window (λ j. fs (suc j)) n qs)
      ∙ ap₂ ◌+◌ (length-values (fs 0) n (order q)) (length-window (λ j. fs (suc j)) n qs)

  -- where a window stands behind others
  picked_behind : (fs : ℕ → ℕ → Fraction) (n : ℕ) (before : List Fraction) (i : ℕ)
      → i ≡ length before → (qs : List (Sequence E))
      → values_at_places (first_places i qs) (before ++ window fs n qs) ≡ at_index fs n qs
  unfolding window at_index first_places values
  picked_behind fs n before i e [] = refl
  picked_behind fs n before i e (q ∷ qs) =
      let w = window (λ j. fs (suc j)) n qs in
      let vs = values (fs 0) n (order q) in
      ap₂ ◌∷◌ (ap (λ k. get_or (before ++ (vs ++ w)) k ℚ.zero) (e ∙ omega arith)
      ∙ behind_place before (vs ++ w) 0 ℚ.zero)
      (ap (values_at_places (first_places (i + order q) qs)) (sym (append_assoc before vs w))
      ∙ picked_behind (λ j. fs (suc j)) n (before ++ vs) (i + order q) (ap (λ k. k + order q) e
      ∙ ap (λ k. length before + k) (sym (length-values (fs 0) n (order q)))
      ∙ sym (length-append before vs)) qs)

  pub picked_window : (fs : ℕ → ℕ → Fraction) (n : ℕ) (qs : List (Sequence E))
      → values_at_places (first_places 0 qs) (window fs n qs) ≡ at_index fs n qs
  picked_window fs n qs = picked_behind fs n [] 0 refl qs

  place_behind : (fs : ℕ → ℕ → Fraction) (n : ℕ) (before : List Fraction) (a : ℕ)
      → a ≡ length before → (qs : List (Sequence E)) (j i : ℕ) (q : Sequence E) → j < length qs
      → i < order (get_or qs j q)
      → get_or (before ++ window fs n qs) (get_or (first_places a qs) j 0 + i) ℚ.zero ≡ fs j (n + i)
  unfolding window first_places
  place_behind fs n before a e [] j i q l h = absurd (omega arith)
  place_behind fs n before a e (p ∷ qs) zero i q l h =
      let w = window (λ j. fs (suc j)) n qs in
      let vs = values (fs 0) n (order p) in
      ap (λ k. get_or (before ++ (vs ++ w)) (k + i) ℚ.zero) e
      ∙ behind_place before (vs ++ w) i ℚ.zero
      ∙ get_or_append_left vs w ℚ.zero i (let t = length-values (fs 0) n (order p) in omega arith)
      ∙ values_at (fs 0) n (order p) i ℚ.zero h
  place_behind fs n before a e (p ∷ qs) (suc j) i q l h =
      let w = window (λ j. fs (suc j)) n qs in
      let vs = values (fs 0) n (order p) in
      ap (λ s. get_or s (get_or (first_places (a + order p) qs) j 0 + i) ℚ.zero)
      (sym (append_assoc before vs w))
      ∙ place_behind (λ j. fs (suc j)) n (before ++ vs) (a + order p) (ap (λ k. k + order p) e
      ∙ ap (λ k. length before + k) (sym (length-values (fs 0) n (order p)))
      ∙ sym (length-append before vs)) qs j i q (omega arith) h

  pub window_place : (qs : List (Sequence E)) (fs : ℕ → ℕ → Fraction) (n j i : ℕ) (q : Sequence E)
      → j < length qs → i < order (get_or qs j q)
      → get_or (window fs n qs) (get_or (first_places 0 qs) j 0 + i) ℚ.zero ≡ fs j (n + i)
  window_place qs fs n j i q l h = place_behind fs n [] 0 refl qs j i q l h
