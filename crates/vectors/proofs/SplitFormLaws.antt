-- The forms of one value after those of others.
use Rattle.std.proofs.lemmas.List.{append-nil}
use Rattle.std.proofs.Common.{◌≡◌, ◌≢◌, true, false, cond, List, [], ◌∷◌, ◌++◌, append_assoc, refl, sym, ap, subst, ◌∙◌}
use Rattle.std.proofs.lemmas.Bool.{false_from_ne_true}
use Rattle.algebra.specs.Ring.{Field}
use Rattle.algebra.proofs.RingLaws as L
use Rattle.algebra.specs.Each.{Each}
use Rattle.vectors.specs.Space.{Space, IsCombination}
use Rattle.vectors.specs.Splitting.{shift, IsTriangular}
use Rattle.vectors.specs.SplitForms.{with_value, of_value, AreSplitForms}

module _ {A : Type 0} (F : Field A) where
  is_zero-difference : (c : A) → F.is_zero (F.add c (F.neg c)) ≡ true
  is_zero-difference c = ap F.is_zero (F.add-neg c) ∙ F.is_zero-zero

  not_zero-difference : (a c : A) → a ≢ c → F.is_zero (F.add a (F.neg c)) ≡ false
  not_zero-difference a c ne = false_from_ne_true (F.is_zero (F.add a (F.neg c)))
      (λ h. ne (L.eq_of_sub F.ring a c (F.is_zero_true (F.add a (F.neg c)) h)))

module _ {A V : Type 0} (F : Field A) where
  of_value-append : (c : A) (es fs : List (V × A)) → of_value F c (es ++ fs) ≡ of_value F c es
      ++ of_value F c fs
  of_value-append c [] fs = refl
  of_value-append c (e ∷ es) fs =
      elim (F.is_zero (F.add e.1 (F.neg c))) as (λ b. cond b (e.0 ∷ of_value F c (es ++ fs))
      (of_value F c (es ++ fs)) ≡ cond b (e.0 ∷ of_value F c es) (of_value F c es)
      ++ of_value F c fs) [
        | true ↦ ap (◌∷◌ e.0) (of_value-append c es fs)
        | false ↦ of_value-append c es fs
      ]

  of_value-valued : (c : A) (es : List V) → of_value F c (with_value c es) ≡ es
  of_value-valued c [] = refl
  of_value-valued c (e ∷ es) =
      ap (λ b. cond b (e ∷ of_value F c (with_value c es)) (of_value F c (with_value c es)))
      (is_zero-difference F c) ∙ ap (◌∷◌ e) (of_value-valued c es)

  pub of_value-none : (c : A) (forms : List (V × A)) → Each (λ f. f.1 ≢ c) forms
      → of_value F c forms ≡ []
  unfolding Each
  of_value-none c [] h = refl
  of_value-none c (f ∷ forms) h = ap (λ b. cond b (f.0 ∷ of_value F c forms) (of_value F c forms))
      (not_zero-difference F f.1 c h.0) ∙ of_value-none c forms h.1

  valued-append : (c : A) (es fs : List V) → with_value c (es ++ fs) ≡ with_value c es
      ++ with_value c fs
  valued-append c [] fs = refl
  valued-append c (e ∷ es) fs = ap (◌∷◌ (e, c)) (valued-append c es fs)

  module _ (S : Space F.ring V) (t : V → V) where
    pub split_forms-append : (es us vs : List (V × A)) → AreSplitForms F S t es us
        → AreSplitForms F S t (es ++ us) vs → AreSplitForms F S t es (us ++ vs)
    split_forms-append es [] vs h k = subst (λ l. AreSplitForms F S t l vs) (append-nil es) k
    split_forms-append es (u ∷ us) vs h k = (
      h.0,
      split_forms-append (es ++ (u ∷ [])) us vs h.1 (subst (λ l. AreSplitForms F S t l vs)
          (sym (append_assoc es (u ∷ []) us)) k),
    )

    -- forms of a new value
    pub split_forms-block : (c : A) (forms : List (V × A)) → Each (λ f. f.1 ≢ c) forms
        → (ds es : List V) → IsTriangular S t c ds es
        → AreSplitForms F S t (forms ++ with_value c ds)
        (with_value c es)
    split_forms-block c forms ne ds [] h = tt
    split_forms-block c forms ne ds (e ∷ es) h =
        let same : of_value F c (forms ++ with_value c ds) ≡ ds =
        of_value-append c forms (with_value c ds)
        ∙ ap (λ l. l ++ of_value F c (with_value c ds)) (of_value-none c forms ne)
        ∙ of_value-valued c ds in
        let join : forms ++ with_value c (ds ++ (e ∷ [])) ≡ (forms ++ with_value c ds)
        ++ ((e, c) ∷ []) =
        ap (λ l. forms ++ l) (valued-append c ds (e ∷ []))
        ∙ sym (append_assoc forms (with_value c ds) ((e, c) ∷ [])) in (
          subst (λ l. IsCombination S l (shift S t c e)) (sym same) h.0,
          subst (λ l. AreSplitForms F S t l (with_value c es)) join (split_forms-block c forms ne
              (ds ++ (e ∷ [])) es h.1),
        )
