-- The coefficients of vectors in forms that split a map.
--   glue, combine-glue       coefficients of one list before another
--   unique                   independent vectors make a vector in one way
--   split_row                a form's image: its value times it, and by its first coefficients the forms before it
use Rattle.std.proofs.Common.{◌≡◌, ℕ, zero, suc, ◌<◌, List, [], ◌∷◌, ◌++◌, length, append_assoc, refl, sym, ap, subst, ◌∙◌, arith}
use Rattle.std.proofs.lemmas.List.{append-nil, length-append}
use Rattle.algebra.specs.Ring.{CommRing, Field}
use Rattle.algebra.proofs.RingSolver.{ring_rules, ring, from_one}
use Rattle.vectors.specs.Space.{Space, combine, IsCombination, Independent}
use Rattle.vectors.specs.Splitting.{shift, vectors_of}
use Rattle.vectors.specs.SplitForms.{of_value, AreSplitForms}
use Rattle.vectors.proofs.Combinations as C
use Rattle.vectors.proofs.Combinations.{before}
use Rattle.vectors.proofs.VectorRing as VR
use Rattle.vectors.proofs.VectorRing.{scalar, vector, vector_rules, vectors, vfrom}
use Rattle.solvable_maps.proofs.Eigenvalues.{vectors-append, of_value-within}

abbrev pub glue : {A : Type 0} → ℕ → (ℕ → A) → (ℕ → A) → ℕ → A
glue zero f g i = g i
glue (suc k) f g zero = f 0
glue (suc k) f g (suc i) = glue k (λ i. f (suc i)) g i

glue-left : {A : Type 0} (k : ℕ) (f g : ℕ → A) (i : ℕ) → i < k → glue k f g i ≡ f i
glue-left zero f g i l = absurd (omega (arith, l))
glue-left (suc k) f g zero l = refl
glue-left (suc k) f g (suc i) l = glue-left k (λ i. f (suc i)) g i (omega (arith, l))

module _ {A V : Type 0} (F : Field A) (S : Space F.ring V) where
  abbrev R : CommRing A
  R = F.ring

  pub combine-glue : (f g : ℕ → A) (us vs : List V) → combine S (glue (length us) f g) (us ++ vs)
      ≡ S.add (combine S f us) (combine S g vs)
  combine-glue f g [] vs = sym (S.zero-add (combine S g vs))
  combine-glue f g (u ∷ us) vs = ap (S.add (S.scale (f 0) u)) (combine-glue (λ i. f (suc i)) g us
      vs) ∙ sym (S.add_assoc (S.scale (f 0) u) (combine S (λ i. f (suc i)) us) (combine S g vs))

  pub unique : (vs : List V) → Independent S vs → (f g : ℕ → A) → combine S f vs ≡ combine S g vs
      → (i : ℕ) → i < length vs → f i ≡ g i
  unique vs ind f g e i l = same (f i) (g i) (ind (λ i. R.add (f i) (R.mul (R.neg R.one) (g i)))
      zero_is i l)
    where
      same : (a b : A) → R.add a (R.mul (R.neg R.one) b) ≡ R.zero → a ≡ b
      same a b h = from_one R R.one h (ring R (a ∷ b ∷ []) (search ring_rules depth 40) refl)

      zero_is : combine S (λ i. R.add (f i) (R.mul (R.neg R.one) (g i))) vs ≡ S.zero
      zero_is =
          C.combine-add S f (λ i. R.mul (R.neg R.one) (g i)) vs
          ∙ ap (S.add (combine S f vs)) (C.combine-scale S (R.neg R.one) g vs)
          ∙ ap (λ v. S.add v (S.scale (R.neg R.one) (combine S g vs))) e
          ∙ vectors S (vector S (combine S g vs) ∷ []) (search vector_rules depth 40) refl

  module _ (t : V → V) where
    -- what the split says of one form among them
    split_at : (done us : List (V × A)) (f : V × A) (vs : List (V × A))
        → AreSplitForms F S t done (us ++ (f ∷ vs)) → IsCombination S (of_value F f.1 (done ++ us))
        (shift S t f.1 f.0)
    split_at done [] f vs h = subst (λ l. IsCombination S (of_value F f.1 l) (shift S t f.1 f.0))
        (sym (append-nil done)) h.0
    split_at done (u ∷ us) f vs h =
        subst (λ l. IsCombination S (of_value F f.1 l) (shift S t f.1 f.0))
        (append_assoc done (u ∷ []) us) (split_at (done ++ (u ∷ [])) us f vs h.1)

    pub split_row : (us : List (V × A)) (f : V × A) (vs : List (V × A))
        → AreSplitForms F S t [] (us ++ (f ∷ vs)) → Independent S (vectors_of (us ++ (f ∷ vs)))
        → (by : ℕ → A) → t f.0 ≡ combine S by (vectors_of (us ++ (f ∷ vs)))
        → t f.0 ≡ S.add (S.scale f.1 f.0) (combine S by (vectors_of us))
    split_row us f vs split ind by e =
        turned
        ∙ ap (S.add (S.scale f.1 f.0)) (C.combine-same S d.0 by (vectors_of us) (λ i l.
        sym (glue-left (length (vectors_of us)) d.0 own i l)
        ∙ sym (unique (vectors_of (us ++ (f ∷ vs))) ind by (glue (length (vectors_of us))
        d.0 own) same i (longer i l))))
      where
        d : IsCombination S (vectors_of us) (shift S t f.1 f.0)
        d = C.combination-trans S (vectors_of us) (of_value F f.1 us) (shift S t f.1 f.0)
            (of_value-within F S t f.1 us) (split_at [] us f vs split)

        own : ℕ → A
        own = before f.1 (λ i. R.zero)

        turned : t f.0 ≡ S.add (S.scale f.1 f.0) (combine S d.0 (vectors_of us))
        turned = vfrom S d.1 (vectors S (scalar S f.1 ∷ vector S f.0 ∷ vector S (t f.0)
            ∷ vector S (combine S d.0 (vectors_of us)) ∷ []) (search vector_rules depth 40)
            refl)

        at : vectors_of (us ++ (f ∷ vs)) ≡ vectors_of us ++ (f.0 ∷ vectors_of vs)
        at = vectors-append F S t us (f ∷ vs)

        same : combine S by (vectors_of (us ++ (f ∷ vs)))
            ≡ combine S (glue (length (vectors_of us)) d.0 own) (vectors_of (us ++ (f ∷ vs)))
        same =
            sym e ∙ turned ∙ S.add_comm (S.scale f.1 f.0) (combine S d.0 (vectors_of us))
            ∙ ap (S.add (combine S d.0 (vectors_of us)))
            (sym (ap (S.add (S.scale f.1 f.0)) (C.combine-none S (vectors_of vs))
            ∙ VR.add-zero S (S.scale f.1 f.0)))
            ∙ sym (ap (combine S (glue (length (vectors_of us)) d.0 own)) at
            ∙ combine-glue d.0 own (vectors_of us) (f.0 ∷ vectors_of vs))

        longer : (i : ℕ) → i < length (vectors_of us) → i < length (vectors_of (us ++ (f ∷ vs)))
        longer i l = (let p = ap length at in let q = length-append (vectors_of us)
            (f.0 ∷ vectors_of vs) in omega (arith, l, p, q))
