-- What some exponents have more than others, one after another.
use Rattle.std.proofs.Common.{◌≡◌, ℕ, ◌-◌, List, [], ◌∷◌, ◌++◌, length, Result, Ok, Err, refl, sym, ap, ap₂, ◌∙◌, append_assoc, append-nil}
use Rattle.std.proofs.lemmas.List.{nil_from_length}
use Rattle.std.specs.Result.{OnOk}
use Rattle.exponentials.specs.Keys.{excess}

left-none : (d : List ℕ) → excess d [] ≡ []
unfolding excess
left-none [] = refl
left-none (m ∷ d) = refl

pub left_nothing : (out d e : List ℕ) → length e ≡ 0 → out ≡ out ++ excess d e
left_nothing out d e l = let h = nil_from_length e l in sym (ap (λ l. out ++ excess d l) h
    ∙ ap (λ l. out ++ l) (left-none d) ∙ append-nil out)

pub left_first : (out d e : List ℕ) → length d ≡ 0 → out ≡ out ++ excess d e
unfolding excess
left_first out d e l = let h = nil_from_length d l in sym (ap (λ l. out ++ excess l e) h
    ∙ append-nil out)

pub left_more : {T E : Type 0} (r : Result T E) (out pushed news d e d' e' : List ℕ) (m n k : ℕ)
    → d ≡ m ∷ d' → e ≡ n ∷ e' → k ≡ m - n → pushed ≡ out ++ k ∷ []
    → OnOk r (news ≡ pushed ++ excess d' e') → OnOk r (news ≡ out ++ excess d e)
unfolding excess
left_more (Ok x) out pushed news d e d' e' m n k h g f p s =
    s ∙ ap (λ l. l ++ excess d' e') p ∙ append_assoc out (k ∷ []) (excess d' e')
    ∙ ap (λ j. out ++ j ∷ excess d' e') f ∙ sym (ap₂ (λ x y. out ++ excess x y) h g)
left_more (Err x) out pushed news d e d' e' m n k h g f p s = tt
