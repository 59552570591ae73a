-- The powers of a term, printed one after the other.
use Rattle.std.proofs.Common.{◌≡◌, ◌≢◌, ℕ, zero, suc, ◌+◌, ◌<◌, ◌≤◌, Bool, true, false, List, [], ◌∷◌, ◌++◌, length, drop, get_or, refl, sym, ap, ◌∙◌, append_assoc, append-nil, drop-cons, add-one, arith}
use Rattle.std.proofs.lemmas.List.{drop_all}
use Rattle.std.proofs.lemmas.Option.{slice_get_within, get_or_from_slice_get}
use Rattle.std.specs.Prelude.{if◌then◌else◌, codes, slice_get, Some}
use Rattle.poly_text.specs.Printed.{powers, power_text}
use Rattle.poly_text.specs.PrintedParts.{joined_behind}

joined_behind-cons : (between : Bool) (f : List ℕ) (fs : List (List ℕ))
    → joined_behind between (f ∷ fs) ≡ (if between then codes "*" else [])
    ++ (f ++ joined_behind true fs)
joined_behind-cons true f fs = append_assoc (codes "*") f (joined_behind true fs)
joined_behind-cons false f fs = refl

-- past the last exponent nothing is printed
powers-nil : (names : List (List ℕ)) → powers names [] ≡ []
unfolding powers
powers-nil [] = refl
powers-nil (x ∷ names) = refl

-- the step from place i, where the power of x with the exponent n stands
module _ (names : List (List ℕ)) (e : List ℕ) (i : ℕ) where
  here : (n : ℕ) → i < length e → i < length names → get_or e i 0 ≡ n
      → powers (drop i names) (drop i e) ≡ powers (get_or names i [] ∷ drop (i + 1) names)
      (n ∷ drop (i + 1) e)
  here n within few is = rw (drop-cons names i [] few, drop-cons e i 0 within, is, add-one i) refl

  powers_more : (x : List ℕ) (n : ℕ) → i < length e → slice_get names i ≡ Some x → get_or e i 0 ≡ n
      → n ≢ 0
      → powers (drop i names) (drop i e) ≡ power_text x n ∷ powers (drop (i + 1) names)
      (drop (i + 1) e)
  unfolding powers
  powers_more x zero within at is some = absurd (some refl)
  powers_more x (suc n) within at is some = here (suc n) within (slice_get_within names i x at) is
      ∙ ap (λ y. power_text y (suc n) ∷ powers (drop (i + 1) names) (drop (i + 1) e))
      (get_or_from_slice_get names i x [] at)

-- the text and the powers from place i on are the whole
pub record GoesOn (names : List (List ℕ)) (e : List ℕ) (i : ℕ) (text whole : List ℕ)
    (between : Bool) : Type 0 where
  pub so_far : text ++ joined_behind between (powers (drop i names) (drop i e)) ≡ whole

module _ {names : List (List ℕ)} {e : List ℕ} {i : ℕ} {text whole : List ℕ} {between : Bool}
    (go : GoesOn names e i text whole between) where
  pub on_skip : i < length e → length e ≤ length names → get_or e i 0 ≡ 0
      → GoesOn names e (i + 1) text whole between
  unfolding powers
  on_skip within few none = record {
    so_far = ap (λ fs. text ++ joined_behind between fs)
        (sym (here names e i 0 within (omega arith) none)) ∙ go.so_far;
  }

  pub on_more : (x : List ℕ) (n : ℕ) (news : List ℕ) → i < length e → slice_get names i ≡ Some x
      → get_or e i 0 ≡ n → n ≢ 0
      → news ≡ text ++ ((if between then codes "*" else []) ++ power_text x n)
      → GoesOn names e (i + 1) news whole true
  on_more x n news within at is some put = record {
    so_far = ap (λ bs. bs ++ joined_behind true (powers (drop (i + 1) names) (drop (i + 1) e))) put
        ∙ append_assoc text ((if between then codes "*" else []) ++ power_text x n)
        (joined_behind true (powers (drop (i + 1) names) (drop (i + 1) e)))
        ∙ ap (λ bs. text ++ bs) (append_assoc (if between then codes "*" else []) (power_text x n)
        (joined_behind true (powers (drop (i + 1) names) (drop (i + 1) e))))
        ∙ ap (λ bs. text ++ bs)
        (sym (joined_behind-cons between (power_text x n)
        (powers (drop (i + 1) names) (drop (i + 1) e))))
        ∙ ap (λ fs. text ++ joined_behind between fs)
        (sym (powers_more names e i x n within at is some)) ∙ go.so_far;
  }

  pub on_end : length e ≤ i → text ≡ whole
  on_end past = sym (append-nil text)
      ∙ ap (λ bs. text ++ bs) (elim between as (λ b. [] ≡ joined_behind b []) [
        | true ↦ refl
        | false
            ↦ refl
      ]) ∙ ap (λ fs. text ++ joined_behind between fs)
      (sym (ap (powers (drop i names)) (drop_all i e past) ∙ powers-nil (drop i names))) ∙ go.so_far
