-- A list of values as a list of texts.
--   Agreed texts vs i           they agree up to place i
--   agreed_start, agreed_more, agreed_all     the steps of such a comparison
--   not_agreed                  where two differ
--   other_count                 where there aren't as many
use Rattle.std.proofs.Common.{◌≡◌, ◌≢◌, ℕ, suc, ◌<◌, ◌≤◌, ◌+◌, List, [], ◌∷◌, length, get_or, drop, refl, sym, ap, ap₂, ◌∙◌, arith}
use Rattle.std.proofs.lemmas.List.{drop_more, drop_all}
use Rattle.std.proofs.lemmas.Option.{get_or_from_slice_get}
use Rattle.std.specs.Prelude.{Bool, true, false, ◌&&◌, slice_get, Some}
use Rattle.serde_json.specs.View.{view, items_view}
use Rattle.serde_json.specs.declared.value.Value.{Value}
use Rattle.cert_form.specs.Form.{is_text, are_texts}

unfoldable pub Agreed : List (List ℕ) → List Value → ℕ → Type 0
Agreed texts vs i = are_texts texts (items_view vs) ≡ are_texts (drop i texts)
    (items_view (drop i vs))

pub agreed_start : (texts : List (List ℕ)) (vs : List Value) → Agreed texts vs 0
unfolding Agreed
agreed_start texts vs = refl

module _ (texts : List (List ℕ)) (vs : List Value) (count : length vs ≡ length texts) (i : ℕ)
    (text : List ℕ) (v : Value) (lt : i < length vs) (at : slice_get texts i ≡ Some text)
    (is : v ≡ get_or vs i v) (h : Agreed texts vs i) where
  one : are_texts texts (items_view vs) ≡ (is_text text (view v) && are_texts (drop (i + 1) texts)
      (items_view (drop (i + 1) vs)))
  unfolding Agreed
  one = h ∙ ap₂ (λ ts xs. are_texts ts (items_view xs))
      (drop_more texts i text (omega arith)
      ∙ ap (λ t. t ∷ drop (i + 1) texts) (get_or_from_slice_get texts i text text at))
      (drop_more vs i v lt ∙ ap (λ x. x ∷ drop (i + 1) vs) (sym is))

  pub agreed_more : is_text text (view v) ≡ true → Agreed texts vs (i + 1)
  unfolding Agreed
  agreed_more same = one
      ∙ ap (λ b. b && are_texts (drop (i + 1) texts) (items_view (drop (i + 1) vs))) same

  pub not_agreed : is_text text (view v) ≡ false → false ≡ are_texts texts (items_view vs)
  not_agreed differs =
      sym (one ∙ ap (λ b. b && are_texts (drop (i + 1) texts) (items_view (drop (i + 1) vs)))
      differs)

pub agreed_all : (texts : List (List ℕ)) (vs : List Value) → length vs ≡ length texts → (i : ℕ)
    → length vs ≤ i → Agreed texts vs i → true ≡ are_texts texts (items_view vs)
unfolding Agreed
agreed_all texts vs count i past h =
    sym (h ∙ ap₂ (λ ts xs. are_texts ts (items_view xs)) (drop_all i texts (omega arith))
    (drop_all i vs past))

pub other_count : (texts : List (List ℕ)) (vs : List Value) → length vs ≢ length texts
    → are_texts texts (items_view vs) ≡ false
other_count [] [] h = absurd (h refl)
other_count [] (v ∷ vs) h = refl
other_count (t ∷ texts) [] h = refl
other_count (t ∷ texts) (v ∷ vs) h = ap (λ b. is_text t (view v) && b) (other_count texts vs
    (λ e. h (ap suc e))) ∙ and_false (is_text t (view v))
  where
    and_false : (b : Bool) → (b && false) ≡ false
    and_false true = refl
    and_false false = refl
