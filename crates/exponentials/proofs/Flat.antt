-- Functions of a natural number modulo an ideal: those that the difference operator takes into the ideal after so many iterations, and
-- sums of such functions times powers of different numbers.
--   IsIdeal R S     zero lies in S, and so do sums and multiples of its elements; moved: and what equals one of them
use Rattle.std.proofs.Common.{◌≡◌, ℕ, zero, suc, ◌≤◌, List, [], ◌∷◌, refl, ap, ap₂, subst, arith}
use Rattle.algebra.specs.Each.{Each}
use Rattle.algebra.specs.Arithmetic.{power}
use Rattle.algebra.proofs.RingLaws as L
use Rattle.algebra.specs.Ring.{CommRing, operations}
use Rattle.algebra.specs.Sum.{sum_over}
use Rattle.algebra.proofs.RingSolver.{ring_rules, ring, from}
use Rattle.exponentials.proofs.Lists.{each_both}

pub record IsIdeal {A : Type 0} (R : CommRing A) (S : A → Type 0) : Type 0 where
  pub zero_in : S R.zero
  pub add_in : (a b : A) → S a → S b → S (R.add a b)
  pub mul_in : (k a : A) → S a → S (R.mul k a)

-- s can be taken out of what lies in S
pub record Cancels {A : Type 0} (R : CommRing A) (S : A → Type 0) (s : A) : Type 0 where
  pub out : (x : A) → S (R.mul s x) → S x

abbrev pub step : {A : Type 0} → CommRing A → (ℕ → A) → ℕ → A
step R f n = R.add (f (suc n)) (R.neg (f n))

abbrev pub Within : {A : Type 0} → (A → Type 0) → (ℕ → A) → Type 0
Within S f = (n : ℕ) → S (f n)

-- m differences take f into S
abbrev pub Flat : {A : Type 0} → CommRing A → (A → Type 0) → ℕ → (ℕ → A) → Type 0
Flat R S zero f = Within S f
Flat R S (suc m) f = Flat R S m (step R f)

-- what the operator f(n+1) - σ f(n) leaves of g(n) ρ^n, over ρ^n
abbrev pub after : {A : Type 0} → CommRing A → A → A → (ℕ → A) → ℕ → A
after R ρ σ g n = R.add (R.mul ρ (g (suc n))) (R.mul (R.neg σ) (g n))

abbrev pub total : {A X : Type 0} → CommRing A → (X → A) → (X → ℕ → A) → List X → ℕ → A
total R ρ g xs n = sum_over (operations R) (λ x. R.mul (power (operations R) (ρ x) n) (g x n)) xs

-- the numbers of different places differ by what can be taken out
abbrev pub Apart : {A X : Type 0} → CommRing A → (A → Type 0) → (X → A) → List X → Type 0
Apart R S ρ [] = Unit {0}
Apart R S ρ (x ∷ xs) = Each (λ y. Cancels R S (R.add (ρ y) (R.neg (ρ x)))) xs × Apart R S ρ xs

module _ {A : Type 0} (R : CommRing A) (S : A → Type 0) (I : IsIdeal R S) where
  open R use {zero as 𝟘, one as 𝟙, add, mul, neg}

  pub moved : {a b : A} → a ≡ b → S a → S b
  moved e p = subst S e p

  pub neg_in : (a : A) → S a → S (neg a)
  neg_in a p = moved (ring R (a ∷ []) (search ring_rules depth 40) refl) (I.mul_in (neg 𝟙) a p)

  pub flat_same : (m : ℕ) (f g : ℕ → A) → ((n : ℕ) → f n ≡ g n) → Flat R S m f → Flat R S m g
  flat_same zero f g e p = λ n. moved (e n) (p n)
  flat_same (suc m) f g e p = flat_same m (step R f) (step R g)
      (λ n. ap₂ add (e (suc n)) (ap neg (e n))) p

  pub flat_add : (m : ℕ) (f g : ℕ → A) → Flat R S m f → Flat R S m g
      → Flat R S m (λ n. add (f n) (g n))
  flat_add zero f g p q = λ n. I.add_in (f n) (g n) (p n) (q n)
  flat_add (suc m) f g p q =
      flat_same m (λ n. add (step R f n) (step R g n)) (step R (λ n. add (f n) (g n)))
      (λ n. ring R (f (suc n) ∷ f n ∷ g (suc n) ∷ g n ∷ []) (search ring_rules depth 40) refl)
      (flat_add m (step R f) (step R g) p q)

  pub flat_mul : (m : ℕ) (k : A) (f : ℕ → A) → Flat R S m f → Flat R S m (λ n. mul k (f n))
  flat_mul zero k f p = λ n. I.mul_in k (f n) (p n)
  flat_mul (suc m) k f p =
      flat_same m (λ n. mul k (step R f n)) (step R (λ n. mul k (f n)))
      (λ n. ring R (f (suc n) ∷ f n ∷ k ∷ []) (search ring_rules depth 40) refl)
      (flat_mul m k (step R f) p)

  pub flat_next : (m : ℕ) (f : ℕ → A) → Flat R S m f → Flat R S m (λ n. f (suc n))
  flat_next zero f p = λ n. p (suc n)
  flat_next (suc m) f p = flat_next m (step R f) p

  pub flat_more : (m : ℕ) (f : ℕ → A) → Flat R S m f → Flat R S (suc m) f
  flat_more zero f p = λ n. I.add_in (f (suc n)) (neg (f n)) (p (suc n)) (neg_in (f n) (p n))
  flat_more (suc m) f p = flat_more m (step R f) p

  pub flat_within : (n : ℕ) (f : ℕ → A) → Within S f → Flat R S n f
  flat_within zero f p = p
  flat_within (suc n) f p = flat_within n (step R f) (flat_more zero f p)

  pub flat_le : (m n : ℕ) (f : ℕ → A) → m ≤ n → Flat R S m f → Flat R S n f
  flat_le zero n f h p = flat_within n f p
  flat_le (suc m) zero f h p = absurd (omega arith)
  flat_le (suc m) (suc n) f h p = flat_le m n (step R f) (omega arith) p

  pub flat_after : (m : ℕ) (ρ σ : A) (g : ℕ → A) → Flat R S m g → Flat R S m (after R ρ σ g)
  flat_after m ρ σ g p = flat_add m (λ n. mul ρ (g (suc n))) (λ n. mul (neg σ) (g n))
      (flat_mul m ρ (λ n. g (suc n)) (flat_next m g p)) (flat_mul m (neg σ) g p)

  -- the operator at another number takes nothing away
  pub back : (ρ σ : A) → Cancels R S (add ρ (neg σ)) → (m : ℕ) (g : ℕ → A) → Flat R S m g
      → Within S (after R ρ σ g) → Within S g
  unfolding power
  back ρ σ c zero g p q = p
  back ρ σ c (suc m) g p q =
      let differences : Within S (step R g) = back ρ σ c m (step R g) p
      (λ n. moved (ring R (g n ∷ g (suc n) ∷ g (suc (suc n)) ∷ ρ ∷ σ ∷ [])
      (search ring_rules depth 40) refl) (flat_more zero (after R ρ σ g) q n)) in
      λ n. c.out (g n) (moved (ring R (g n ∷ g (suc n) ∷ ρ ∷ σ ∷ []) (search ring_rules depth 40)
      refl) (I.add_in (after R ρ σ g n) (mul (neg ρ) (step R g n)) (q n)
      (I.mul_in (neg ρ) (step R g n) (differences n))))

  pub cancels_power : (s : A) → Cancels R S s → (n : ℕ) (x : A)
      → S (mul (power (operations R) s n) x) → S x
  unfolding power
  cancels_power s c zero x p = moved (L.one-mul R x) p
  cancels_power s c (suc n) x p = cancels_power s c n x (c.out (mul (power (operations R) s n) x)
      (moved (R.mul_assoc s (power (operations R) s n) x) p))

  -- ---- sums over several numbers
  module _ {X : Type 0} (ρ : X → A) (cancels : (x : X) → Cancels R S (ρ x)) where
    total-after : (σ : A) (g : X → ℕ → A) (xs : List X) (n : ℕ)
        → add (total R ρ g xs (suc n)) (mul (neg σ) (total R ρ g xs n)) ≡ total R ρ
        (λ x. after R (ρ x) σ (g x)) xs n
    unfolding power sum_over
    total-after σ g [] n = ring R (σ ∷ []) (search ring_rules depth 40) refl
    total-after σ g (x ∷ xs) n =
        from R (total-after σ g xs n)
        (ring R (σ ∷ ρ x ∷ power (operations R) (ρ x) n ∷ g x n ∷ g x (suc n) ∷ total R ρ g xs
        (suc n) ∷ total R ρ g xs n ∷ total R ρ (λ x. after R (ρ x) σ (g x)) xs n ∷ [])
        (search ring_rules depth 40) refl)

    total-in : (g : X → ℕ → A) (xs : List X) → Each (λ x. Within S (g x)) xs
        → Within S (total R ρ g xs)
    unfolding sum_over Each
    total-in g [] p = λ n. I.zero_in
    total-in g (x ∷ xs) p = λ n. I.add_in (mul (power (operations R) (ρ x) n) (g x n))
        (total R ρ g xs n) (I.mul_in (power (operations R) (ρ x) n) (g x n) (p.0 n))
        (total-in g xs p.1 n)

    -- one number's part is taken off, by its degree
    peel : (x : X) (xs : List X) (M : ℕ)
        → Each (λ y. Cancels R S (add (ρ y) (neg (ρ x)))) xs
        → ((g : X → ℕ → A) → ((y : X) → Flat R S M (g y)) → Within S (total R ρ g xs)
        → Each (λ y. Within S (g y)) xs)
        → (k : ℕ) (g : X → ℕ → A) → Flat R S k (g x) → ((y : X) → Flat R S M (g y))
        → Within S (total R ρ g (x ∷ xs))
        → Within S (g x) × Each (λ y. Within S (g y)) xs
    unfolding sum_over
    peel x xs M apart rest zero g p f q = (
      p,
      rest g f (λ n. moved (ring R (power (operations R) (ρ x) n ∷ g x n ∷ total R ρ g xs n ∷ [])
          (search ring_rules depth 40) refl)
          (I.add_in (total R ρ g (x ∷ xs) n) (mul (neg (power (operations R) (ρ x) n)) (g x n))
          (q n) (I.mul_in (neg (power (operations R) (ρ x) n)) (g x n) (p n)))),
    )
    peel x xs M apart rest (suc k) g p f q =
        let σ = ρ x in
        let h = λ (y : X). after R (ρ y) σ (g y) in
        let lowered : Flat R S k (h x) =
        flat_same k (λ n. mul σ (step R (g x) n)) (h x)
        (λ n. ring R (g x n ∷ g x (suc n) ∷ ρ x ∷ []) (search ring_rules depth 40) refl)
        (flat_mul k σ (step R (g x)) p) in
        let both = peel x xs M apart rest k h lowered (λ y. flat_after M (ρ y) σ (g y) (f y))
        (λ n. moved (total-after σ g (x ∷ xs) n) (I.add_in (total R ρ g (x ∷ xs) (suc n))
        (mul (neg σ) (total R ρ g (x ∷ xs) n)) (q (suc n))
        (I.mul_in (neg σ) (total R ρ g (x ∷ xs) n) (q n)))) in
        let others : Each (λ y. Within S (g y)) xs =
        each_both xs (λ y c w. back (ρ y) σ c M (g y) (f y) w) apart both.1 in (
          λ n. cancels_power σ (cancels x) n (g x n)
              (moved (ring R (power (operations R) (ρ x) n ∷ g x n ∷ total R ρ g xs n ∷ [])
              (search ring_rules depth 40) refl)
              (I.add_in (total R ρ g (x ∷ xs) n) (neg (total R ρ g xs n)) (q n)
              (neg_in (total R ρ g xs n) (total-in g xs others n)))),
          others,
        )

    pub independent : (M : ℕ) (xs : List X) → Apart R S ρ xs → (g : X → ℕ → A)
        → ((x : X) → Flat R S M (g x)) → Within S (total R ρ g xs) → Each (λ x. Within S (g x)) xs
    unfolding Each
    independent M [] d g f q = tt
    independent M (x ∷ xs) d g f q = peel x xs M d.0 (independent M xs d.1) M g (f x) f q
