-- Values that are stored one after another.
--   Storing is xs s rest values state      the values that are left, stored at the targets that are left, give what all of them give
--   storing_begins, storing_goes, storing_ends
--   stands_store                           what stands for values is stored as they are
use Rattle.std.proofs.Common.{◌≡◌, ◌⊎◌, inl, inr, ℕ, suc, ◌+◌, ◌<◌, List, [], ◌∷◌, length, get_or, set as put, arith, refl, sym, ap, subst, ◌∙◌, All}
use Rattle.std.proofs.lemmas.List.{length-set}
use Rattle.std.proofs.lemmas.List.Elements.{All-head, All-tail}
use Rattle.algebra.specs.Fraction.{Fraction}
use Rattle.polynomials.specs.Terms.{Terms}
use Rattle.loops.specs.Effect.{store}
use Rattle.poly.specs.Standing.{AllStandFor}
use Rattle.loop_model.specs.FracPoly.{FracPoly}
use Rattle.poly.proofs.Standing.{stands_set}

-- `count` is the number of values that are left
pub record Storing {A : Type 0} (is : List ℕ) (xs s : List A) (rest : List ℕ) (values : List A)
    (count : ℕ) (state : List A) : Type 0 where
  pub stored : store rest values state ≡ store is xs s
  pub within : All (λ i. i < length state) rest
  pub counted : count ≡ length values

module _ {A : Type 0} (is : List ℕ) (xs s : List A) where
  pub storing_begins : (count : ℕ) → count ≡ length xs → All (λ i. i < length s) is
      → Storing is xs s is xs count s
  storing_begins count n h = record { stored = refl; within = h; counted = n }

  pub storing_goes : (rest rest' : List ℕ) (values values' : List A) (count count' : ℕ)
      (state : List A) (i : ℕ) (x : A) → Storing is xs s rest values count state
      → rest ≡ i ∷ rest' → values ≡ x ∷ values' → count' + 1 ≡ count
      → Storing is xs s rest' values' count' (put state i x)
  unfolding store
  storing_goes rest rest' values values' count count' state i x h e f n =
      let left : All (λ j. j < length state) (i ∷ rest') = subst (All (λ j. j < length state)) e
      h.within in
      let sizes : length values ≡ suc (length values') = ap length f in
      record {
        stored = sym (ap (λ r. store r (x ∷ values') state) e)
            ∙ sym (ap (λ v. store rest v state) f) ∙ h.stored;
        within = λ k d l. subst (λ n. get_or rest' k d < n) (sym (length-set state i x))
            (All-tail (λ j. j < length state) i rest' left k d l);
        counted = omega (arith, h.counted);
      }

  pub storing_within : (rest rest' : List ℕ) (values : List A) (count : ℕ) (state : List A) (i : ℕ)
      → Storing is xs s rest values count state → rest ≡ i ∷ rest' → i < length state
  storing_within rest rest' values count state i h e = All-head (λ j. j < length state) i rest'
      (subst (All (λ j. j < length state)) e h.within)

  none_left : (rest : List ℕ) (values state : List A) → (length rest ≡ 0) ⊎ (length values ≡ 0)
      → store rest values state ≡ state
  unfolding store
  none_left [] values state h = refl
  none_left (i ∷ rest) [] state h = refl
  none_left (i ∷ rest) (x ∷ values) state (inl h) = absurd (omega arith)
  none_left (i ∷ rest) (x ∷ values) state (inr h) = absurd (omega arith)

  pub storing_ends : (rest : List ℕ) (values : List A) (count : ℕ) (state : List A)
      → Storing is xs s rest values count state → (length rest ≡ 0) ⊎ (count ≡ 0)
      → state ≡ store is xs s
  storing_ends rest values count state h (inl e) = sym (none_left rest values state (inl e))
      ∙ h.stored
  storing_ends rest values count state h (inr e) =
      sym (none_left rest values state (inr (sym h.counted ∙ e))) ∙ h.stored

pub stands_store : (m : ℕ) (is : List ℕ) (ps : List FracPoly) (qs : List (Terms Fraction))
    (s : List FracPoly) (t : List (Terms Fraction)) → AllStandFor m ps qs → AllStandFor m s t
    → AllStandFor m (store is ps s) (store is qs t)
unfolding store
stands_store m [] ps qs s t h k = k
stands_store m (i ∷ is) [] [] s t h k = k
stands_store m (i ∷ is) [] (q ∷ qs) s t h k = absurd h
stands_store m (i ∷ is) (p ∷ ps) [] s t h k = absurd h
stands_store m (i ∷ is) (p ∷ ps) (q ∷ qs) s t h k = stands_store m is ps qs (put s i p) (put t i q)
    h.1 (stands_set m s t i p q k h.0)
