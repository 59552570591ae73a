-- Sequences of numbers whose differences end, and what solves y(n + 1) = l y(n) + f(n) σ^n for such an f.
--   EndsAfter a f          the a-th difference of f is zero
--   ends_power             so of n^a, after one more
--   HasSums P              P holds of sums, multiples and later parts of sequences for which it holds, and of n times one
--   sum_exists             where P holds of f, it holds of a sequence whose difference is f
--   solution_exists        and of one that solves the recurrence
use Rattle.std.proofs.Common.{◌≡◌, ◌≢◌, ℕ, zero, suc, [], ◌∷◌, refl, sym, ap, ap₂, subst, ◌∙◌}
use mathlib.Core.Path.{fun_ext}
use Rattle.algebra.specs.Arithmetic.{power}
use Rattle.algebra.specs.Ring.{CommRing, Field, operations, of_nat}
use Rattle.algebra.proofs.FieldLaws as FL
use Rattle.algebra.proofs.RingLaws as L
use Rattle.algebra.proofs.RingSolver.{ring_rules, ring}
use Rattle.exponentials.proofs.Expo.{IsChar0}

module _ {A : Type 0} (R : CommRing A) where
  open R use {one as 𝟙, zero as 𝟘, add as ◌⊕◌, mul as ◌⊗◌, neg}

  infixl 60 ◌⊕◌
  infixl 70 ◌⊗◌
  abbrev pub difference : (ℕ → A) → ℕ → A
  difference f n = R.add (f (suc n)) (R.neg (f n))

  abbrev pub EndsAfter : ℕ → (ℕ → A) → Type 0
  EndsAfter zero f = (n : ℕ) → f n ≡ R.zero
  EndsAfter (suc a) f = EndsAfter a (difference f)

  ends_same : (a : ℕ) (f g : ℕ → A) → ((n : ℕ) → f n ≡ g n) → EndsAfter a f → EndsAfter a g
  ends_same a f g e h = subst (EndsAfter a) (fun_ext e) h

  ends_add : (a : ℕ) (f g : ℕ → A) → EndsAfter a f → EndsAfter a g
      → EndsAfter a (λ n. R.add (f n) (g n))
  ends_add zero f g h k = λ n. ap₂ R.add (h n) (k n) ∙ R.add-zero R.zero
  ends_add (suc a) f g h k =
      ends_same a (λ n. R.add (difference f n) (difference g n))
      (difference (λ n. R.add (f n) (g n)))
      (λ n. swap (f n) (f (suc n)) (g n) (g (suc n)))
      (ends_add a (difference f) (difference g) h k)
    where
      swap : (x x' y y' : A) → (x' ⊕ neg x) ⊕ (y' ⊕ neg y) ≡ (x' ⊕ y') ⊕ neg (x ⊕ y)
      swap x x' y y' = ring R (x ∷ x' ∷ y ∷ y' ∷ []) (search ring_rules depth 40) refl

  ends_shift : (a : ℕ) (f : ℕ → A) → EndsAfter a f → EndsAfter a (λ n. f (suc n))
  ends_shift zero f h = λ n. h (suc n)
  ends_shift (suc a) f h = ends_shift a (difference f) h

  -- x n is one more for each n
  abbrev Counts : (ℕ → A) → Type 0
  Counts x = (n : ℕ) → x (suc n) ≡ R.add R.one (x n)

  ends_times : (a : ℕ) (x : ℕ → A) → Counts x → (f : ℕ → A) → EndsAfter a f
      → EndsAfter (suc a) (λ n. R.mul (x n) (f n))
  ends_times zero x c f h =
      λ n. ap₂ (λ y z. R.add (R.mul (x (suc n)) y) (R.neg (R.mul (x n) z))) (h (suc n)) (h n)
      ∙ none (x (suc n)) (x n)
    where
      none : (x y : A) → x ⊗ 𝟘 ⊕ neg (y ⊗ 𝟘) ≡ 𝟘
      none x y = ring R (x ∷ y ∷ []) (search ring_rules depth 40) refl
  ends_times (suc a) x c f h =
      ends_same (suc a) (λ n. R.add (R.mul (x n) (difference f n)) (f (suc n)))
      (difference (λ n. R.mul (x n) (f n)))
      (λ n. parts (x n) (f n) (f (suc n))
      ∙ ap (λ z. R.add (R.mul z (f (suc n))) (R.neg (R.mul (x n) (f n)))) (sym (c n)))
      (ends_add (suc a) (λ n. R.mul (x n) (difference f n)) (λ n. f (suc n))
      (ends_times a x c (difference f) h) (ends_shift (suc a) f h))
    where
      parts : (x f g : A) → x ⊗ (g ⊕ neg f) ⊕ g ≡ (𝟙 ⊕ x) ⊗ g ⊕ neg (x ⊗ f)
      parts x f g = ring R (x ∷ f ∷ g ∷ []) (search ring_rules depth 40) refl

  counted : Counts (of_nat R)
  counted n = refl

  pub ends_power : (a : ℕ) → EndsAfter (suc a) (λ n. power (operations R) (of_nat R n) a)
  ends_power zero = λ n. ap₂ (λ x y. R.add x (R.neg y)) (L.power-zero R (of_nat R (suc n)))
      (L.power-zero R (of_nat R n)) ∙ R.add-neg R.one
  ends_power (suc a) =
      ends_same (suc (suc a)) (λ n. R.mul (of_nat R n) (power (operations R) (of_nat R n) a))
      (λ n. power (operations R) (of_nat R n) (suc a)) (λ n. sym (L.power-suc R (of_nat R n) a))
      (ends_times (suc a) (of_nat R) counted (λ n. power (operations R) (of_nat R n) a)
      (ends_power a))

  -- x times the difference, less a times the sequence, ends one earlier
  abbrev less_degree : ℕ → (ℕ → A) → (ℕ → A) → ℕ → A
  less_degree a x f n = R.add (R.mul (x n) (difference f n)) (R.neg (R.mul (of_nat R a) (f n)))

  ends_less : (a : ℕ) (x : ℕ → A) → Counts x → (f : ℕ → A) → EndsAfter (suc a) f
      → EndsAfter a (less_degree a x f)
  ends_less zero x c f h =
      λ n. ap₂ R.add (ap (R.mul (x n)) (h n) ∙ L.mul-zero R (x n))
      (ap R.neg (L.zero-mul R (f n)) ∙ L.neg-zero R) ∙ R.add-zero R.zero
  ends_less (suc a) x c f h =
      ends_same a (less_degree a (λ n. x (suc n)) (difference f))
      (difference (less_degree (suc a) x f))
      (λ n. ap (λ z. R.add (R.mul z (difference (difference f) n))
      (R.neg (R.mul (of_nat R a) (difference f n)))) (c n)
      ∙ step (x n) (of_nat R a) (f n) (f (suc n)) (f (suc (suc n)))
      ∙ ap (λ z. R.add
      (R.add (R.mul z (difference f (suc n))) (R.neg (R.mul (of_nat R (suc a)) (f (suc n)))))
      (R.neg (less_degree (suc a) x f n))) (sym (c n)))
      (ends_less a (λ n. x (suc n)) (λ n. c (suc n)) (difference f) h)
    where
      step : (x a f g h : A)
          → (𝟙 ⊕ x) ⊗ ((h ⊕ neg g) ⊕ neg (g ⊕ neg f)) ⊕ neg (a ⊗ (g ⊕ neg f))
          ≡ ((𝟙 ⊕ x) ⊗ (h ⊕ neg g) ⊕ neg ((𝟙 ⊕ a) ⊗ g))
          ⊕ neg (x ⊗ (g ⊕ neg f) ⊕ neg ((𝟙 ⊕ a) ⊗ f))
      step x a f g h = ring R (x ∷ a ∷ f ∷ g ∷ h ∷ []) (search ring_rules depth 40) refl

  pub record HasSums (P : (ℕ → A) → Type 0) : Type 0 where
    pub nothing : P (λ n. R.zero)
    pub sums : (f g : ℕ → A) → P f → P g → P (λ n. R.add (f n) (g n))
    pub multiples : (k : A) (f : ℕ → A) → P f → P (λ n. R.mul k (f n))
    pub later : (f : ℕ → A) → P f → P (λ n. f (suc n))
    pub times_n : (f : ℕ → A) → P f → P (λ n. R.mul (of_nat R n) (f n))

module _ {A : Type 0} (F : Field A) (char : IsChar0 F) (P : (ℕ → A) → Type 0)
    (closed : HasSums F.ring P) where
  abbrev R : CommRing A
  R = F.ring

  open R use {one as 𝟙, zero as 𝟘, add as ◌⊕◌, mul as ◌⊗◌, neg}

  infixl 60 ◌⊕◌
  infixl 70 ◌⊗◌
  minus : (x y : A) → x ⊕ neg 𝟙 ⊗ y ≡ x ⊕ neg y
  minus x y = ring R (x ∷ y ∷ []) (search ring_rules depth 40) refl

  lesser : (f g : ℕ → A) → P f → P g → P (λ n. R.add (f n) (R.neg (g n)))
  lesser f g p q = subst P (fun_ext (λ n. minus (f n) (g n)))
      (closed.sums f (λ n. R.mul (R.neg R.one) (g n)) p (closed.multiples (R.neg R.one) g q))

  differences : (f : ℕ → A) → P f → P (difference R f)
  differences f p = lesser (λ n. f (suc n)) f (closed.later f p) p

  -- ---- a sequence whose difference it is
  pub record IsSum (f g : ℕ → A) : Type 0 where
    pub has : P g
    pub is : (n : ℕ) → difference R g n ≡ f n

  pub sum_exists : (a : ℕ) (f : ℕ → A) → EndsAfter R a f → P f → (g : ℕ → A) × IsSum f g
  sum_exists zero f h p = (
    (λ n. R.zero),
    record { has = closed.nothing; is = λ n. R.add-neg R.zero ∙ sym (h n) },
  )
  sum_exists (suc a) f h p = made (sum_exists a e (ends_less R a (λ n. of_nat R (suc n)) (λ n. refl)
      f h) e_has)
    where
      d : ℕ → A
      d = difference R f

      e : ℕ → A
      e = less_degree R a (λ n. of_nat R (suc n)) f

      counted_once : (k d : A) → d ⊕ k ⊗ d ≡ (𝟙 ⊕ k) ⊗ d
      counted_once k d = ring R (k ∷ d ∷ []) (search ring_rules depth 40) refl

      e_has : P e
      e_has = lesser (λ n. R.mul (of_nat R (suc n)) (d n)) (λ n. R.mul (of_nat R a) (f n))
          (subst P (fun_ext (λ n. counted_once (of_nat R n) (d n)))
          (closed.sums d (λ n. R.mul (of_nat R n) (d n)) (differences f p)
          (closed.times_n d (differences f p))))
          (closed.multiples (of_nat R a) f p)

      over : A
      over = F.inverse (of_nat R (suc a))

      apart : (k u v h h' : A) → k ⊗ (u ⊕ neg h') ⊕ neg (k ⊗ (v ⊕ neg h))
          ≡ k ⊗ ((u ⊕ neg v) ⊕ neg (h' ⊕ neg h))
      apart k u v h h' = ring R (k ∷ u ∷ v ∷ h ∷ h' ∷ []) (search ring_rules depth 40) refl

      whole_part : (n a f g : A)
          → ((𝟙 ⊕ n) ⊗ g ⊕ neg (n ⊗ f)) ⊕ neg ((𝟙 ⊕ n) ⊗ (g ⊕ neg f) ⊕ neg (a ⊗ f))
          ≡ (𝟙 ⊕ a) ⊗ f
      whole_part n a f g = ring R (n ∷ a ∷ f ∷ g ∷ []) (search ring_rules depth 40) refl

      cancelled : (x y : A) → R.mul y x ≡ R.one → (z : A) → R.mul x (R.mul y z) ≡ z
      cancelled x y h z = sym (R.mul_assoc x y z) ∙ ap (λ k. R.mul k z) (R.mul_comm x y ∙ h)
          ∙ L.one-mul R z

      made : (g : ℕ → A) × IsSum e g → (g : ℕ → A) × IsSum f g
      made (g, s) = (
        (λ n. R.mul over (R.add (R.mul (of_nat R n) (f n)) (R.neg (g n)))),
        record {
          has = closed.multiples over _ (lesser (λ n. R.mul (of_nat R n) (f n)) g
              (closed.times_n f p) s.has);
          is = λ n.
              apart over (R.mul (of_nat R (suc n)) (f (suc n))) (R.mul (of_nat R n) (f n)) (g n)
              (g (suc n))
              ∙ ap (λ z. R.mul over (R.add
              (R.add (R.mul (of_nat R (suc n)) (f (suc n))) (R.neg (R.mul (of_nat R n) (f n))))
              (R.neg z))) (s.is n)
              ∙ ap (R.mul over) (whole_part (of_nat R n) (of_nat R a) (f n) (f (suc n)))
              ∙ cancelled over (of_nat R (suc a)) (F.mul-inverse (of_nat R (suc a)) (char.whole a))
              (f n);
        },
      )

  -- ---- the recurrence
  pub record Recurs (l σ : A) (f y : ℕ → A) : Type 0 where
    pub has : P y
    pub next : (n : ℕ) → y (suc n) ≡ R.add (R.mul l (y n))
        (R.mul (f n) (power (operations R) σ n))

  module _ (l σ : A) (some : σ ≢ F.zero)
      (times : (f : ℕ → A) → P f → P (λ n. R.mul (f n) (power (operations R) σ n))) where
    abbrev at : ℕ → A
    at n = power (operations R) σ n

    same_number : σ ≡ l → (a : ℕ) (f : ℕ → A) → EndsAfter R a f → P f → (y : ℕ → A)
        × Recurs l σ f y
    same_number e a f h p = made (sum_exists a f h p)
      where
        over : A
        over = F.inverse σ

        step : (k s g g' q : A) → k ⊗ (g' ⊗ (s ⊗ q)) ≡ s ⊗ (k ⊗ (g ⊗ q)) ⊕ (k ⊗ s) ⊗ ((g' ⊕ neg g) ⊗
            q)
        step k s g g' q = ring R (k ∷ s ∷ g ∷ g' ∷ q ∷ []) (search ring_rules depth 40) refl

        made : (g : ℕ → A) × IsSum f g → (y : ℕ → A) × Recurs l σ f y
        made (g, s) = (
          (λ n. R.mul over (R.mul (g n) (at n))),
          record {
            has = closed.multiples over _ (times g s.has);
            next = λ n.
                ap (λ z. R.mul over (R.mul (g (suc n)) z)) (L.power-suc R σ n)
                ∙ step over σ (g n) (g (suc n)) (at n)
                ∙ ap₂ (λ x y. R.add (R.mul x (R.mul over (R.mul (g n) (at n)))) y) e
                (ap₂ (λ x y. R.mul x (R.mul y (at n)))
                (R.mul_comm over σ ∙ F.mul-inverse σ some) (s.is n)
                ∙ L.one-mul R (R.mul (f n) (at n)));
          },
        )

    other_number : (σ ≡ l → ⊥) → (a : ℕ) (f : ℕ → A) → EndsAfter R a f → P f → (y : ℕ → A)
        × Recurs l σ f y
    other_number ne zero f h p = (
      (λ n. R.zero),
      record {
        has = closed.nothing;
        next = λ n. sym (ap₂ R.add (L.mul-zero R l) (ap (λ z. R.mul z (at n)) (h n)
            ∙ L.zero-mul R (at n)) ∙ R.add-zero R.zero);
      },
    )
    other_number ne (suc a) f h p = made (other_number ne a (difference R f) h (differences f p))
      where
        over : A
        over = F.inverse (R.add σ (R.neg l))

        apart : R.add σ (R.neg l) ≢ F.zero
        apart z = ne (L.eq_of_sub R σ l z)

        step : (k s l f g y q : A)
            → k ⊗ (g ⊗ (s ⊗ q) ⊕ neg (s ⊗ (l ⊗ y ⊕ (g ⊕ neg f) ⊗ q)))
            ≡ l ⊗ (k ⊗ (f ⊗ q ⊕ neg (s ⊗ y))) ⊕ (k ⊗ (s ⊕ neg l)) ⊗ (f ⊗ q)
        step k s l f g y q = ring R (k ∷ s ∷ l ∷ f ∷ g ∷ y ∷ q ∷ []) (search ring_rules depth 40)
            refl

        made : (y : ℕ → A) × Recurs l σ (difference R f) y → (y : ℕ → A) × Recurs l σ f y
        made (y, r) = (
          (λ n. R.mul over (R.add (R.mul (f n) (at n)) (R.neg (R.mul σ (y n))))),
          record {
            has = closed.multiples over _ (lesser (λ n. R.mul (f n) (at n)) (λ n. R.mul σ (y n))
                (times f p) (closed.multiples σ y r.has));
            next = λ n.
                ap₂ (λ u v. R.mul over (R.add (R.mul (f (suc n)) u) (R.neg (R.mul σ v))))
                (L.power-suc R σ n) (r.next n)
                ∙ step over σ l (f n) (f (suc n)) (y n) (at n)
                ∙ ap (λ z. R.add
                (R.mul l (R.mul over (R.add (R.mul (f n) (at n)) (R.neg (R.mul σ (y n)))))) z)
                (ap (λ z. R.mul z (R.mul (f n) (at n)))
                (R.mul_comm over (R.add σ (R.neg l)) ∙ F.mul-inverse (R.add σ (R.neg l)) apart)
                ∙ L.one-mul R (R.mul (f n) (at n)));
          },
        )

    pub solution_exists : (a : ℕ) (f : ℕ → A) → EndsAfter R a f → P f → (y : ℕ → A)
        × Recurs l σ f y
    solution_exists a f h p = elim (FL.discrete F σ l) [
      | yes e ↦ same_number e a f h p
      | no ne ↦ other_number ne a f h p
    ]
