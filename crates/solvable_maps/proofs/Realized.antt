-- What polynomials in n, s, u, v and the variables have as their values, and a polynomial that solves a recurrence, for each inhomogeneity.
--   IsRealized Y           a polynomial has the values Y at each n and state
--   of_state               those of a polynomial in the variables, whatever n is
--   power_of               the n-th power of a number of s, u and v
--   IsSolved l q           a polynomial that is at n + 1 l times itself at n, and q at n
--   solved                 there is one for each q
--   with_value             and where l is a number of s, u and v, one with any value at some n
--   lengths_agree          exponents that are as long as the base are as many as its numbers
use Rattle.std.proofs.Common.{◌≡◌, ◌≢◌, ℕ, zero, suc, List, [], ◌∷◌, ◌++◌, ◌-◌, map, length, drop, replicate, refl, sym, ap, ap₂, ◌∙◌, arith}
use Rattle.std.proofs.lemmas.List.{length-append, length-drop, length-replicate}
use Rattle.algebra.specs.Arithmetic.{power}
use Rattle.algebra.specs.Each.{Each}
use Rattle.algebra.specs.Ring.{CommRing, Field, operations, of_nat}
use Rattle.algebra.proofs.Each.{each-append}
use Rattle.algebra.proofs.RingLaws as L
use Rattle.algebra.proofs.RingSolver.{ring_rules, ring}
use Rattle.algebra.proofs.Homs.{id_hom}
use Rattle.algebra.specs.Fraction.{Fraction, ℚ}
use Rattle.algebra.proofs.Fractions.{ℚ_ring, ℚ_field}
use Rattle.polynomials.specs.Terms.{Terms, constant, variables, monomial_at, value_at, times, negate, compose}
use Rattle.polynomials.specs.Polynomial.{Arity}
use Rattle.polynomials.proofs.Arity.{arity-append, arity-constant, arity-constants, arity-variables, arity-times, arity-negate, arity-compose}
use Rattle.polynomials.proofs.Value.{monomial-zeros}
use Rattle.polynomials.proofs.ValueAt.{value_at-nil, value_at-append, value_at-times, value_at-negate, value_at-constant}
use Rattle.exponentials.specs.Base.{Coprime, SameLength}
use Rattle.exponentials.specs.Keys.{Key, key_of, top}
use Rattle.exponentials.proofs.Expo as Expo
use Rattle.exponentials.proofs.Monomial.{power-one, power_inverse}
use Rattle.exponentials.proofs.Unique.{fraction_char0, zero_ideal}
use Rattle.exponentials.proofs.Units.{room_long}
use Rattle.solvable_maps.specs.Expo.{tail, with_key, next_images, at_iteration}
use Rattle.solvable_maps.specs.AfterIterations.{HasRecurrence}
use Rattle.solvable_maps.specs.Iterations.{point, width}
use Rattle.solvable_maps.proofs.Differences.{HasSums, Recurs, ends_power, solution_exists}
use Rattle.solvable_maps.proofs.Numbers.{point-is}
use Rattle.solvable_maps.proofs.OneForm.{next_arity}
use Rattle.solvable_maps.proofs.Operations.{term_parts, with_parts, next-value, iteration-value}
use Rattle.solvable_maps.proofs.Recurrences.{one_value}
use Rattle.solvable_maps.proofs.Values.{natural}

abbrev R : CommRing Fraction
R = ℚ_ring

abbrev F : Field Fraction
F = ℚ_field

pub lengths_agree : (bs e : List ℕ) → SameLength bs e → length e ≡ length bs
lengths_agree [] [] f = refl
lengths_agree [] (n ∷ e) f = absurd f
lengths_agree (b ∷ bs) [] f = absurd f
lengths_agree (b ∷ bs) (n ∷ e) f = ap suc (lengths_agree bs e f)

pub zeros_fit : (bs : List ℕ) → SameLength bs (replicate (length bs) 0)
zeros_fit [] = tt
zeros_fit (b ∷ bs) = zeros_fit bs

module _ (base : List ℕ) (c : Coprime base) (m : ℕ) where
  abbrev r : ℕ
  r = length base

  abbrev w : ℕ
  w = width (length base) m

  pub record IsRealized (Y : ℕ → List Fraction → Fraction) : Type 0 where
    pub poly : Terms Fraction
    pub arity : Arity w poly
    pub values : (n : ℕ) (s : List Fraction) → length s ≡ m
        → value_at ℚ poly (point base n s) ≡ Y n s

  pub same : (Y Z : ℕ → List Fraction → Fraction) → IsRealized Y
      → ((n : ℕ) (s : List Fraction) → length s ≡ m → Y n s ≡ Z n s) → IsRealized Z
  same Y Z h e = record {
    poly = h.poly;
    arity = h.arity;
    values = λ n s l. h.values n s l ∙ e n s l;
  }

  pub none : IsRealized (λ n s. ℚ.zero)
  unfolding Each
  none = record { poly = []; arity = tt; values = λ n s l. value_at-nil R (point base n s) }

  pub number : (k : Fraction) → IsRealized (λ n s. k)
  number k = record {
    poly = constant w k;
    arity = arity-constant w k;
    values = λ n s l. value_at-constant R w k (point base n s);
  }

  pub sum : (Y Z : ℕ → List Fraction → Fraction) → IsRealized Y → IsRealized Z
      → IsRealized (λ n s. ℚ.add (Y n s) (Z n s))
  sum Y Z a b = record {
    poly = a.poly ++ b.poly;
    arity = arity-append w a.poly b.poly a.arity b.arity;
    values = λ n s l. value_at-append R a.poly b.poly (point base n s)
        ∙ ap₂ ℚ.add (a.values n s l) (b.values n s l);
  }

  pub product : (Y Z : ℕ → List Fraction → Fraction) → IsRealized Y → IsRealized Z
      → IsRealized (λ n s. ℚ.mul (Y n s) (Z n s))
  product Y Z a b = record {
    poly = times ℚ a.poly b.poly;
    arity = arity-times w ℚ a.poly b.poly a.arity b.arity;
    values = λ n s l. value_at-times R a.poly b.poly (point base n s)
        ∙ ap₂ ℚ.mul (a.values n s l) (b.values n s l);
  }

  next : (Y : ℕ → List Fraction → Fraction) → IsRealized Y → IsRealized (λ n s. Y (suc n) s)
  next Y a = record {
    poly = compose ℚ w a.poly (next_images base m);
    arity = arity-compose w ℚ a.poly (next_images base m) (next_arity base c m);
    values = λ n s l. next-value base c m a.poly n s l ∙ a.values (suc n) s l;
  }

  -- ---- one term
  abbrev pub number_of : Key → Fraction
  number_of x = Expo.number F fraction_char0 base x

  key_value : (x : Key) (n : ℕ)
      → R.mul (power (operations R) (power (operations R) (R.neg R.one) n) x.0)
      (R.mul (monomial_at (operations R) (map (λ b. power (operations R) (of_nat R b) n) base) x.1)
      (monomial_at (operations R) (map (λ b. power (operations R) (F.inverse (of_nat R b)) n)
      base) x.2))
      ≡ power (operations R) (number_of x) n
  key_value x n = Expo.number-power F fraction_char0 R (id_hom R) (λ z. z ≡ R.zero) (zero_ideal R)
      base c {W = ℕ} (λ k. k) (λ k. x) (λ k. R.zero) n x

  abbrev term_at : Fraction → ℕ → Key → List ℕ → ℕ → List Fraction → Fraction
  term_at k i x e n s = R.mul (R.mul k (monomial_at (operations R) s e))
      (R.mul (power (operations R) (of_nat R n) i) (power (operations R) (number_of x) n))

  -- of any term, by its parts
  part_value : (t : List ℕ × Fraction) (n : ℕ) (s : List Fraction)
      → value_at ℚ (t ∷ []) (point base n s)
      ≡ term_at t.1 (top t.0) (key_of r t.0) (tail r t.0) n s
  part_value t n s = ap (value_at ℚ (t ∷ [])) (point-is base n s)
      ∙ one_value t (natural F base n s)
      ∙ term_parts R base s (of_nat R n) (power (operations R) (R.neg R.one) n)
      (λ b. power (operations R) (of_nat R b) n)
      (λ b. power (operations R) (F.inverse (of_nat R b)) n) t.1 t.0
      ∙ ap (λ z. R.mul (R.mul t.1 (monomial_at (operations R) s (tail r t.0)))
      (R.mul (power (operations R) (of_nat R n) (top t.0)) z)) (key_value (key_of r t.0) n)

  -- a term with given parts
  term : (k : Fraction) (i : ℕ) (x : Key) (e : List ℕ) → SameLength base x.1 → SameLength base x.2
      → length e ≡ m → IsRealized (term_at k i x e)
  unfolding Each
  term k i x e f g l = record {
    poly = (with_key i x e, k) ∷ [];
    arity = (
      (let a = length-append x.1 (x.2 ++ e) in let b = length-append x.2 e in
          let u = lengths_agree base x.1 f in let v = lengths_agree base x.2 g in
          omega (arith, a, b, u, v, l)),
      tt,
    );
    values = λ n s h.
        ap (value_at ℚ ((with_key i x e, k) ∷ [])) (point-is base n s)
        ∙ one_value (with_key i x e, k) (natural F base n s)
        ∙ with_parts R base s (of_nat R n) (power (operations R) (R.neg R.one) n)
        (λ b. power (operations R) (of_nat R b) n)
        (λ b. power (operations R) (F.inverse (of_nat R b)) n) k i x e f g
        ∙ ap (λ z. R.mul (R.mul k (monomial_at (operations R) s e))
        (R.mul (power (operations R) (of_nat R n) i) z)) (key_value x n);
  }

  abbrev no_key : Key
  no_key = (0, replicate r 0, replicate r 0)

  no_number : number_of no_key ≡ R.one
  no_number = ap₂ R.mul (L.power-zero R (R.neg R.one))
      (ap₂ R.mul (monomial-zeros R r (map (of_nat R) base))
      (monomial-zeros R r (map (λ b. F.inverse (of_nat R b)) base)) ∙ R.mul-one R.one)
      ∙ R.mul-one R.one

  no_power : (n : ℕ) → power (operations R) (number_of no_key) n ≡ R.one
  no_power n = ap (λ z. power (operations R) z n) no_number ∙ power-one R n

  -- ---- what is needed of them
  monomial : (k : Fraction) (e : List ℕ) → length e ≡ m
      → IsRealized (λ n s. R.mul k (monomial_at (operations R) s e))
  monomial k e l = same _ _ (term k 0 no_key e (zeros_fit base) (zeros_fit base) l)
      (λ n s h. ap (R.mul (R.mul k (monomial_at (operations R) s e)))
      (ap₂ R.mul (L.power-zero R (of_nat R n)) (no_power n) ∙ R.mul-one R.one)
      ∙ R.mul-one (R.mul k (monomial_at (operations R) s e)))

  pub of_state : (p : Terms Fraction) → Arity m p → IsRealized (λ n s. value_at ℚ p s)
  unfolding Each
  of_state [] a = same _ _ none (λ n s h. sym (value_at-nil R s))
  of_state (t ∷ p) a = same _ _ (sum _ _ (monomial t.1 t.0 a.0) (of_state p a.1))
      (λ n s h. ap (λ z. R.add z (value_at ℚ p s)) (sym (one_value t s))
      ∙ sym (value_at-append R (t ∷ []) p s))

  natural_n : IsRealized (λ n s. of_nat R n)
  natural_n = same _ _ (term R.one 1 no_key (replicate m 0) (zeros_fit base) (zeros_fit base)
      (length-replicate m 0))
      (λ n s h. ap₂ (λ x y. R.mul (R.mul R.one x) y) (monomial-zeros R m s)
      (ap₂ R.mul (L.power-suc R (of_nat R n) 0 ∙ ap (R.mul (of_nat R n))
      (L.power-zero R (of_nat R n))) (no_power n))
      ∙ alone (of_nat R n))
    where
      alone : (x : Fraction) → R.mul (R.mul R.one R.one) (R.mul (R.mul x R.one) R.one) ≡ x
      alone x = ring R (x ∷ []) (search ring_rules depth 40) refl

  pub power_of : (x : Key) → SameLength base x.1 → SameLength base x.2
      → IsRealized (λ n s. power (operations R) (number_of x) n)
  power_of x f g = same _ _ (term R.one 0 x (replicate m 0) f g (length-replicate m 0))
      (λ n s h. ap₂ (λ a b. R.mul (R.mul R.one a) (R.mul b
      (power (operations R) (number_of x) n))) (monomial-zeros R m s)
      (L.power-zero R (of_nat R n))
      ∙ alone (power (operations R) (number_of x) n))
    where
      alone : (x : Fraction) → R.mul (R.mul R.one R.one) (R.mul R.one x) ≡ x
      alone x = ring R (x ∷ []) (search ring_rules depth 40) refl

  abbrev Sequence : (ℕ → Fraction) → Type 0
  Sequence f = IsRealized (λ n s. f n)

  have_sums : HasSums R Sequence
  have_sums = record {
    nothing = none;
    sums = λ f g a b. sum (λ n s. f n) (λ n s. g n) a b;
    multiples = λ k f a. product (λ n s. k) (λ n s. f n) (number k) a;
    later = λ f a. next (λ n s. f n) a;
    times_n = λ f a. product (λ n s. of_nat R n) (λ n s. f n) natural_n a;
  }

  natural_power : (i : ℕ) → Sequence (λ n. power (operations R) (of_nat R n) i)
  natural_power zero = same _ _ (number R.one) (λ n s h. sym (L.power-zero R (of_nat R n)))
  natural_power (suc i) = same _ _ (product _ _ natural_n (natural_power i))
      (λ n s h. sym (L.power-suc R (of_nat R n) i))

  -- ---- a recurrence
  pub record IsSolved (l : Fraction) (q : Terms Fraction) : Type 0 where
    pub poly : Terms Fraction
    pub arity : Arity w poly
    pub next : (n : ℕ) (s : List Fraction) → length s ≡ m
        → value_at ℚ poly (point base (suc n) s)
        ≡ ℚ.add (ℚ.mul l (value_at ℚ poly (point base n s))) (value_at ℚ q (point base n s))

  tail_size : (e : List ℕ) → length e ≡ w → length (tail r e) ≡ m
  tail_size [] l = absurd (omega (arith, l))
  tail_size (a ∷ []) l = absurd (omega (arith, l))
  tail_size (a ∷ b ∷ e) l = length-drop r (drop r e) ∙ ap (λ k. k - r) (length-drop r e)
      ∙ (let h : length e - r - r ≡ m = omega (arith, l) in h)

  term_size : (t : List ℕ × Fraction) → length t.0 ≡ w → SameLength base (key_of r t.0).1
      × SameLength base (key_of r t.0).2 × (length (tail r t.0) ≡ m)
  term_size t l =
      let fits = room_long base t (omega (arith, l)) in
      (fits.0, fits.1, tail_size t.0 l)

  pub solved : (l : Fraction) (q : Terms Fraction) → Arity w q → IsSolved l q
  unfolding Each
  solved l [] a = record {
    poly = [];
    arity = tt;
    next = λ n s h. value_at-nil R (point base (suc n) s)
        ∙ sym (ap₂ (λ x y. R.add (R.mul l x) y) (value_at-nil R (point base n s))
        (value_at-nil R (point base n s)) ∙ ap (λ z. R.add z R.zero) (L.mul-zero R l)
        ∙ R.add-zero R.zero);
  }
  solved l (t ∷ q) a = more (solution_exists F fraction_char0 Sequence have_sums l (number_of x)
      (Expo.number-ne-zero F fraction_char0 base x c)
      (λ f p. product (λ n s. f n) _ p (power_of x size.0 size.1)) (suc (top t.0))
      (λ n. power (operations R) (of_nat R n) (top t.0)) (ends_power R (top t.0))
      (natural_power (top t.0))) (solved l q a.1)
    where
      x : Key
      x = key_of r t.0

      size : SameLength base (key_of r t.0).1 × SameLength base (key_of r t.0).2
          × (length (tail r t.0) ≡ m)
      size = term_size t a.0

      own : List Fraction → Fraction
      own s = R.mul t.1 (monomial_at (operations R) s (tail r t.0))

      step : (k l y f z b : Fraction) → R.add (R.mul k (R.add (R.mul l y) f)) (R.add (R.mul l z) b)
          ≡ R.add (R.mul l (R.add (R.mul k y) z)) (R.add (R.mul k f) b)
      step k l y f z b = ring R (k ∷ l ∷ y ∷ f ∷ z ∷ b ∷ []) (search ring_rules depth 40) refl

      more : (y : ℕ → Fraction) × Recurs F fraction_char0 Sequence have_sums l (number_of x)
          (λ n. power (operations R) (of_nat R n) (top t.0)) y → IsSolved l q → IsSolved l (t ∷ q)
      more (y, h) z =
          let first : IsRealized (λ n s. R.mul (own s) (y n)) =
          product (λ n s. own s) (λ n s. y n) (monomial t.1 (tail r t.0) size.2) h.has in
          let value : (n : ℕ) (s : List Fraction) → length s ≡ m
          → value_at ℚ (first.poly ++ z.poly) (point base n s)
          ≡ R.add (R.mul (own s) (y n)) (value_at ℚ z.poly (point base n s)) =
          λ n s e. value_at-append R first.poly z.poly (point base n s)
          ∙ ap (λ v. R.add v (value_at ℚ z.poly (point base n s))) (first.values n s e) in
          record {
            poly = first.poly ++ z.poly;
            arity = arity-append w first.poly z.poly first.arity z.arity;
            next = λ n s e.
                value (suc n) s e
                ∙ ap₂ (λ u v. R.add (R.mul (own s) u) v) (h.next n) (z.next n s e)
                ∙ step (own s) l (y n)
                (R.mul (power (operations R) (of_nat R n) (top t.0))
                (power (operations R) (number_of x) n)) (value_at ℚ z.poly (point base n s))
                (value_at ℚ q (point base n s))
                ∙ ap₂ (λ u v. R.add (R.mul l u) v) (sym (value n s e))
                (ap (λ v. R.add v (value_at ℚ q (point base n s))) (sym (part_value t n s))
                ∙ sym (value_at-append R (t ∷ []) q (point base n s)));
          }

  -- ---- with a given value at some n
  pub record IsNumber (l : Fraction) : Type 0 where
    pub key : Key
    pub up : SameLength base key.1
    pub down : SameLength base key.2
    pub is : number_of key ≡ l

  pub record HasValue (l : Fraction) (q : Terms Fraction) (d : ℕ) (v : Terms Fraction) : Type 0
    where
      pub solution : IsSolved l q
      pub is : (s : List Fraction) → length s ≡ m
          → value_at ℚ solution.poly (point base d s) ≡ value_at ℚ v s

  pub with_value : (l : Fraction) → IsNumber l → (q : Terms Fraction) → Arity w q → (d : ℕ)
      → (v : Terms Fraction) → Arity m v → HasValue l q d v
  with_value l own q a d v b = record {
    solution = record {
      poly = z.poly ++ grown.poly;
      arity = arity-append w z.poly grown.poly z.arity grown.arity;
      next = λ n s e.
          value (suc n) s e
          ∙ ap₂ (λ x y. R.add x (R.mul y (start s))) (z.next n s e) (L.power-suc R l n)
          ∙ step l (value_at ℚ z.poly (point base n s)) (value_at ℚ q (point base n s))
          (power (operations R) l n) (start s)
          ∙ ap (λ x. R.add (R.mul l x) (value_at ℚ q (point base n s))) (sym (value n s e));
    };
    is = λ s e.
        value d s e
        ∙ ap (λ x. R.add (value_at ℚ z.poly (point base d s)) (R.mul (power (operations R) l d) x))
        (start_is s e)
        ∙ whole_value (value_at ℚ z.poly (point base d s)) (value_at ℚ v s)
        (power (operations R) l d) back (power_inverse R l (F.inverse l) d (F.mul-inverse l some));
  }
    where
      some : l ≢ R.zero
      some e = Expo.number-ne-zero F fraction_char0 base own.key c (own.is ∙ e)

      back : Fraction
      back = power (operations R) (F.inverse l) d

      z : IsSolved l q
      z = solved l q a

      missing : Terms Fraction
      missing = v ++ negate ℚ (at_iteration base m d z.poly)

      missing_arity : Arity m missing
      missing_arity = arity-append m v (negate ℚ (at_iteration base m d z.poly)) b
          (arity-negate m ℚ (at_iteration base m d z.poly) (arity-compose m ℚ z.poly
          (map (constant m) (point base d []) ++ variables ℚ m)
          (each-append (Arity m) (map (constant m) (point base d [])) (variables ℚ m)
          (arity-constants m (point base d [])) (arity-variables m ℚ))))

      start : List Fraction → Fraction
      start s = R.mul back (value_at ℚ missing s)

      start_is : (s : List Fraction) → length s ≡ m
          → start s ≡ R.mul back (R.add (value_at ℚ v s)
          (R.neg (value_at ℚ z.poly (point base d s))))
      start_is s e = ap (R.mul back)
          (value_at-append R v (negate ℚ (at_iteration base m d z.poly)) s
          ∙ ap (R.add (value_at ℚ v s)) (value_at-negate R (at_iteration base m d z.poly) s
          ∙ ap R.neg (iteration-value base c m z.poly d s e)))

      grown : IsRealized (λ n s. R.mul (power (operations R) l n) (start s))
      grown = product _ _ (same _ _ (power_of own.key own.up own.down)
          (λ n s h. ap (λ x. power (operations R) x n) own.is))
          (product _ _ (number back) (of_state missing missing_arity))

      value : (n : ℕ) (s : List Fraction) → length s ≡ m
          → value_at ℚ (z.poly ++ grown.poly) (point base n s)
          ≡ R.add (value_at ℚ z.poly (point base n s))
          (R.mul (power (operations R) l n) (start s))
      value n s e = value_at-append R z.poly grown.poly (point base n s)
          ∙ ap (R.add (value_at ℚ z.poly (point base n s))) (grown.values n s e)

      step : (l z q p k : Fraction) → R.add (R.add (R.mul l z) q) (R.mul (R.mul l p) k)
          ≡ R.add (R.mul l (R.add z (R.mul p k))) q
      step l z q p k = ring R (l ∷ z ∷ q ∷ p ∷ k ∷ []) (search ring_rules depth 40) refl

      apart : (z v p k : Fraction) → R.add z (R.mul p (R.mul k (R.add v (R.neg z))))
          ≡ R.add z (R.mul (R.mul p k) (R.add v (R.neg z)))
      apart z v p k = ring R (z ∷ v ∷ p ∷ k ∷ []) (search ring_rules depth 40) refl

      back_again : (z v : Fraction) → R.add z (R.mul R.one (R.add v (R.neg z))) ≡ v
      back_again z v = ring R (z ∷ v ∷ []) (search ring_rules depth 40) refl

      whole_value : (z v p k : Fraction) → R.mul p k ≡ R.one
          → R.add z (R.mul p (R.mul k (R.add v (R.neg z)))) ≡ v
      whole_value z v p k h = apart z v p k ∙ ap (λ x. R.add z (R.mul x (R.add v (R.neg z)))) h
          ∙ back_again z v

  pub recurrence : (l : Fraction) (q : Terms Fraction) (y : IsSolved l q)
      → HasRecurrence base m l q (λ s. value_at ℚ y.poly (point base 0 s)) y.poly
  recurrence l q y = record { first = λ s e. refl; next = y.next }
