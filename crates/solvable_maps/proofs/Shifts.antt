-- Lemmas of the operations on points.
--   later-at, turned-at     at a point n, s, u, v and variables
--   IsHomomorphism h                h takes how to compute to how to compute
--   map-later, map-turned   such a function goes through
--   all-later, all-turned   what sums, products and opposites keep
use Rattle.std.proofs.Common.{◌≡◌, ℕ, List, [], ◌∷◌, ◌++◌, map, refl, ap, ap₂, ◌∙◌}
use Rattle.algebra.specs.Arithmetic.{Arithmetic}
use Rattle.algebra.specs.Each.{Each}
use Rattle.exponentials.proofs.Units.{at}
use Rattle.solvable_maps.specs.Shifts.{over, later, keep, on_variables}

module _ {A : Type 0} (N : Arithmetic A) where
  over-append : (bs : List ℕ) (k f : ℕ → A) (rest : List A → List A) (l : List A)
      → over N bs k rest (map f bs ++ l) ≡ map (λ b. N.mul (k b) (f b)) bs ++ rest l
  over-append [] k f rest l = refl
  over-append (b ∷ bs) k f rest l = ap (λ z. N.mul (k b) (f b) ∷ z) (over-append bs k f rest l)

keep-append : {A : Type 0} (bs : List ℕ) (f : ℕ → A) (rest : List A → List A) (l : List A)
    → keep bs rest (map f bs ++ l) ≡ map f bs ++ rest l
keep-append [] f rest l = refl
keep-append (b ∷ bs) f rest l = ap (λ z. f b ∷ z) (keep-append bs f rest l)

module _ {A : Type 0} (N : Arithmetic A) (bs : List ℕ) where
  pub later-at : (u v : ℕ → A) (xs : List A) (a e : A) (f g : ℕ → A)
      → later N bs u v (at bs xs a e f g) ≡ at bs xs (N.add N.one a) (N.neg e)
      (λ b. N.mul (u b) (f b)) (λ b. N.mul (v b) (g b))
  later-at u v xs a e f g =
      ap (λ z. N.add N.one a ∷ N.neg e ∷ z) (over-append N bs u f (over N bs v (λ l. l))
      (map g bs ++ xs) ∙ ap (λ z. map (λ b. N.mul (u b) (f b)) bs ++ z) (over-append N bs v g
      (λ l. l) xs))

module _ {A : Type 0} (bs : List ℕ) where
  pub turned-at : (t : List A → List A) (xs : List A) (a e : A) (f g : ℕ → A)
      → on_variables bs t (at bs xs a e f g) ≡ at bs (t xs) a e f g
  turned-at t xs a e f g = ap (λ z. a ∷ e ∷ z) (keep-append bs f (keep bs t) (map g bs ++ xs)
      ∙ ap (λ z. map f bs ++ z) (keep-append bs g t xs))

pub record IsHomomorphism {A B : Type 0} (N : Arithmetic A) (M : Arithmetic B) (h : A → B) : Type
    0 where
  pub at_one : h N.one ≡ M.one
  pub at_add : (a b : A) → h (N.add a b) ≡ M.add (h a) (h b)
  pub at_mul : (a b : A) → h (N.mul a b) ≡ M.mul (h a) (h b)
  pub at_neg : (a : A) → h (N.neg a) ≡ M.neg (h a)

module _ {A B : Type 0} (N : Arithmetic A) (M : Arithmetic B) (h : A
    → B) (is : IsHomomorphism N M h) where
  map-over : (bs : List ℕ) (k : ℕ → A) (k' : ℕ → B) → ((b : ℕ) → h (k b) ≡ k' b)
      → (rest : List A → List A) (rest' : List B → List B)
      → ((l : List A) → map h (rest l) ≡ rest' (map h l)) → (l : List A)
      → map h (over N bs k rest l) ≡ over M bs k' rest' (map h l)
  map-over [] k k' e rest rest' r l = r l
  map-over (b ∷ bs) k k' e rest rest' r [] = refl
  map-over (b ∷ bs) k k' e rest rest' r (x ∷ l) = ap₂ ◌∷◌ (is.at_mul (k b) x
      ∙ ap (λ z. M.mul z (h x)) (e b)) (map-over bs k k' e rest rest' r l)

  pub map-later : (bs : List ℕ) (u v : ℕ → A) (u' v' : ℕ → B) → ((b : ℕ) → h (u b) ≡ u' b)
      → ((b : ℕ) → h (v b) ≡ v' b) → (l : List A) → map h (later N bs u v l) ≡ later M bs u' v'
      (map h l)
  map-later bs u v u' v' p q [] = refl
  map-later bs u v u' v' p q (a ∷ []) = refl
  map-later bs u v u' v' p q (a ∷ e ∷ l) =
      ap₂ ◌∷◌ (is.at_add N.one a ∙ ap (λ z. M.add z (h a)) is.at_one)
      (ap₂ ◌∷◌ (is.at_neg e) (map-over bs u u' p (over N bs v (λ l. l)) (over M bs v' (λ l. l))
      (map-over bs v v' q (λ l. l) (λ l. l) (λ l. refl)) l))

module _ {A B : Type 0} (h : A → B) where
  map-keep : (bs : List ℕ) (rest : List A → List A) (rest' : List B → List B)
      → ((l : List A) → map h (rest l) ≡ rest' (map h l)) → (l : List A) → map h (keep bs rest l)
      ≡ keep bs rest' (map h l)
  map-keep [] rest rest' r l = r l
  map-keep (b ∷ bs) rest rest' r [] = refl
  map-keep (b ∷ bs) rest rest' r (x ∷ l) = ap (λ z. h x ∷ z) (map-keep bs rest rest' r l)

  pub map-turned : (bs : List ℕ) (t : List A → List A) (t' : List B → List B)
      → ((l : List A) → map h (t l) ≡ t' (map h l)) → (l : List A)
      → map h (on_variables bs t l) ≡ on_variables bs t' (map h l)
  map-turned bs t t' r [] = refl
  map-turned bs t t' r (a ∷ []) = refl
  map-turned bs t t' r (a ∷ e ∷ l) = ap (λ z. h a ∷ h e ∷ z) (map-keep bs (keep bs t) (keep bs t')
      (map-keep bs t t' r) l)

module _ {A : Type 0} (P : A → Type 0) where
  module _ (N : Arithmetic A) (one : P N.one) (add : (a b : A) → P a → P b → P (N.add a b))
      (mul : (a b : A) → P a → P b → P (N.mul a b)) (neg : (a : A) → P a → P (N.neg a)) where
    all-over : (bs : List ℕ) (k : ℕ → A) → ((b : ℕ) → P (k b)) → (rest : List A → List A)
        → ((l : List A) → Each P l → Each P (rest l)) → (l : List A) → Each P l
        → Each P (over N bs k rest l)
    unfolding Each
    all-over [] k p rest r l q = r l q
    all-over (b ∷ bs) k p rest r [] q = tt
    all-over (b ∷ bs) k p rest r (x ∷ l) q = (mul (k b) x (p b) q.0, all-over bs k p rest r l q.1)

    pub all-later : (bs : List ℕ) (u v : ℕ → A) → ((b : ℕ) → P (u b)) → ((b : ℕ) → P (v b))
        → (l : List A) → Each P l → Each P (later N bs u v l)
    unfolding Each
    all-later bs u v p q [] r = tt
    all-later bs u v p q (a ∷ []) r = tt
    all-later bs u v p q (a ∷ e ∷ l) r = (
      add N.one a one r.0,
      (
        neg e r.1.0,
        all-over bs u p (over N bs v (λ l. l)) (all-over bs v q (λ l. l) (λ l s. s))
            l r.1.1,
      ),
    )

  all-keep : (bs : List ℕ) (rest : List A → List A) → ((l : List A) → Each P l → Each P (rest l))
      → (l : List A) → Each P l → Each P (keep bs rest l)
  unfolding Each
  all-keep [] rest r l q = r l q
  all-keep (b ∷ bs) rest r [] q = tt
  all-keep (b ∷ bs) rest r (x ∷ l) q = (q.0, all-keep bs rest r l q.1)

  pub all-turned : (bs : List ℕ) (t : List A → List A) → ((l : List A) → Each P l → Each P (t l))
      → (l : List A) → Each P l → Each P (on_variables bs t l)
  unfolding Each
  all-turned bs t r [] q = tt
  all-turned bs t r (a ∷ []) q = tt
  all-turned bs t r (a ∷ e ∷ l) q =
      (q.0, (q.1.0, all-keep bs (keep bs t) (all-keep bs t r) l q.1.1))
