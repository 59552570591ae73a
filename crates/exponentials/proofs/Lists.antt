-- Facts on each element of a list, by recursion, and sums that have one term.
--   Distinct f xs       no two elements have the same f
--   each_map, each_both     what follows from a fact, or from two, at each element
--   sum_same, sum_alike     sums of functions that agree on the elements, or everywhere, are the same
--   sum_none, pick      a sum of zeros is zero; a sum with one term that may not be zero is that term
--   once E xs           the elements of xs without repetition: once-distinct; once-in, once-out: it has the same elements
use Rattle.std.proofs.Common.{◌≡◌, ◌≢◌, inl, inr, Bool, true, false, cond, List, [], ◌∷◌, refl, sym, ap, ap₂, subst, ◌∙◌}
use Rattle.algebra.specs.Each.{Each}
use Rattle.algebra.specs.In.{In}
use Rattle.algebra.specs.Ring.{CommRing, operations}
use Rattle.algebra.specs.Sum.{sum_over}
use Rattle.algebra.proofs.RingLaws as L
use Rattle.algebra.proofs.Sums as Sums
use Rattle.algebra.proofs.Each.{each_weaker}
use Rattle.algebra.proofs.In.{each_in}

-- no two elements have the same f
abbrev pub Distinct : {X Y : Type 0} → (X → Y) → List X → Type 0
Distinct f [] = Unit {0}
Distinct f (x ∷ xs) = Each (λ y. f y ≢ f x) xs × Distinct f xs

module _ {X : Type 0} where
  pub each_map : {P Q : X → Type 0} (xs : List X) → ((x : X) → P x → Q x) → Each P xs → Each Q xs
  each_map {P} {Q} xs h p = each_weaker P Q h xs p

  pub each_both : {P Q W : X → Type 0} (xs : List X) → ((x : X) → P x → Q x → W x) → Each P xs
      → Each Q xs → Each W xs
  unfolding Each
  each_both [] h p q = tt
  each_both (x ∷ xs) h p q = (h x p.0 q.0, each_both xs h p.1 q.1)

module _ {A : Type 0} (R : CommRing A) {X : Type 0} where
  pub sum_same : (f g : X → A) (xs : List X) → Each (λ x. f x ≡ g x) xs
      → sum_over (operations R) f xs ≡ sum_over (operations R) g xs
  unfolding sum_over Each
  sum_same f g [] e = refl
  sum_same f g (x ∷ xs) e = ap₂ R.add e.0 (sum_same f g xs e.1)

  pub sum_alike : (f g : X → A) (xs : List X) → ((x : X) → f x ≡ g x) → sum_over (operations R) f xs
      ≡ sum_over (operations R) g xs
  sum_alike f g xs e = Sums.sum_same R f g e xs

  pub sum_none : (f : X → A) (xs : List X) → Each (λ x. f x ≡ R.zero) xs
      → sum_over (operations R) f xs ≡ R.zero
  unfolding sum_over Each
  sum_none f [] e = refl
  sum_none f (x ∷ xs) e = ap₂ R.add e.0 (sum_none f xs e.1) ∙ L.zero-add R R.zero

  -- a sum with one term that may not be zero
  pub pick : {Y : Type 0} (k : X → Y) (f : X → A) (xs : List X) (x : X) → Distinct k xs → In x xs
      → ((y : X) → k y ≢ k x → f y ≡ R.zero) → sum_over (operations R) f xs ≡ f x
  unfolding sum_over
  pick k f [] x d i h = absurd i
  pick k f (y ∷ ys) x d i h =
      elim i [
        | inl e ↦ ap₂ R.add (ap f (sym e))
            (sum_none f ys (each_map ys (λ z n. h z (λ q. n (q ∙ ap k e))) d.0)) ∙ R.add-zero (f x)
        | inr j ↦ ap₂ R.add (h y (λ q. each_in (λ z. k z ≢ k y) ys x d.0 j (sym q)))
            (pick k f ys x d.1 j h) ∙ L.zero-add R (f x)
      ]

-- ---- the elements without repetition
-- an equality test
pub record Test (X : Type 0) : Type 0 where
  pub same : X → X → Bool
  pub same_true : (x y : X) → same x y ≡ true → x ≡ y
  pub same_refl : (x : X) → same x x ≡ true

module _ {X : Type 0} (E : Test X) where
  pub same_false : (x y : X) → x ≢ y → E.same x y ≡ false
  same_false x y n = go (E.same x y) refl
    where
      go : (b : Bool) → E.same x y ≡ b → b ≡ false
      go true e = absurd (n (E.same_true x y e))
      go false e = refl

  pub differ : (x y : X) → E.same x y ≡ false → x ≢ y
  differ x y e p = let t : E.same x y ≡ true = ap (E.same x) (sym p) ∙ E.same_refl x in cc

  abbrev pub has : X → List X → Bool
  has x [] = false
  has x (y ∷ ys) = cond (E.same x y) true (has x ys)

  abbrev pub once : List X → List X
  once [] = []
  once (x ∷ xs) = cond (has x (once xs)) (once xs) (x ∷ once xs)

  has_true : (x : X) (xs : List X) → has x xs ≡ true → In x xs
  has_true x [] h = cc
  has_true x (y ∷ ys) h = go (E.same x y) refl h (has_true x ys)
    where
      go : (b : Bool) → E.same x y ≡ b → cond b true (has x ys) ≡ true → (has x ys ≡ true → In x ys)
          → In x (y ∷ ys)
      go true e h r = inl (E.same_true x y e)
      go false e h r = inr (r h)

  has_false : (x : X) (xs : List X) → has x xs ≡ false → Each (λ y. y ≢ x) xs
  unfolding Each
  has_false x [] h = tt
  has_false x (y ∷ ys) h = go (E.same x y) refl h (has_false x ys)
    where
      go : (b : Bool) → E.same x y ≡ b → cond b true (has x ys) ≡ false
          → (has x ys ≡ false → Each (λ y. y ≢ x) ys) → Each (λ y. y ≢ x) (y ∷ ys)
      go true e h r = cc
      go false e h r = ((λ p. differ x y e (sym p)), r h)

  pub once-distinct : (xs : List X) → Distinct (λ (x : X). x) (once xs)
  once-distinct [] = tt
  once-distinct (x ∷ xs) = go (has x (once xs)) refl (once-distinct xs)
    where
      go : (b : Bool) → has x (once xs) ≡ b → Distinct (λ (x : X). x) (once xs)
          → Distinct (λ (x : X). x) (cond b (once xs) (x ∷ once xs))
      go true e r = r
      go false e r = (has_false x (once xs) e, r)

  pub once-in : (xs : List X) (x : X) → In x xs → In x (once xs)
  once-in [] x i = absurd i
  once-in (y ∷ ys) x i = go (has y (once ys)) refl i (once-in ys x)
    where
      go : (b : Bool) → has y (once ys) ≡ b → In x (y ∷ ys) → (In x ys → In x (once ys))
          → In x (cond b (once ys) (y ∷ once ys))
      go true e i r = elim i [
        | inl p ↦ subst (λ z. In z (once ys)) (sym p) (has_true y (once ys) e)
        | inr j ↦ r j
      ]
      go false e i r = elim i [ inl p ↦ inl p | inr j ↦ inr (r j) ]

  pub once-out : (xs : List X) (x : X) → In x (once xs) → In x xs
  once-out [] x i = absurd i
  once-out (y ∷ ys) x i = go (has y (once ys)) i (once-out ys x)
    where
      go : (b : Bool) → In x (cond b (once ys) (y ∷ once ys)) → (In x (once ys) → In x ys)
          → In x (y ∷ ys)
      go true i r = inr (r i)
      go false i r = elim i [ inl p ↦ inl p | inr j ↦ inr (r j) ]
