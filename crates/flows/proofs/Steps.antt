-- Steps lead to a state exactly where some values of the unknowns make their zeros 0 and it is the state behind them.
--   does_with, does_by       of one step
--   all_with, all_by         of steps, one after another
--   parted                   values in two parts
use Rattle.std.proofs.Common.{◌≡◌, ◌≢◌, ℕ, zero, suc, ◌+◌, List, [], ◌∷◌, ◌++◌, map, get_or, take, drop, length, refl, sym, ap, ap₂, subst, ◌∙◌, arith, append_assoc}
use Rattle.std.proofs.lemmas.List.{append-nil, length-append}
use Rattle.algebra.specs.Each.{Each}
use Rattle.algebra.proofs.Each.{each-append, each-left, each-right}
use Rattle.algebra.proofs.Lists.{length-front, length-back}
use Rattle.algebra.proofs.RingLaws.{eq_of_sub, mul-zero}
use Rattle.algebra.proofs.InverseLaws.{mul-inverse_left}
use Rattle.algebra.specs.Fraction.{Fraction, ℚ, inverse}
use Rattle.algebra.proofs.Fractions.{ℚ_ring, ℚ_field, fractions_field}
use Rattle.loops.specs.Program.{Expr}
use Rattle.loops.specs.Effect.{store}
use Rattle.loops.specs.Run.{value}
use Rattle.flows.specs.Steps.{Step, assign, choose, equal, differ, Inverted, Does, DoesAll}
use Rattle.flows.specs.Paths.{unknowns, all_unknowns, inverse_zeros, zeros_of, after_step, all_zeros, after_all}

abbrev IsNull : Fraction → Type 0
IsNull x = x ≡ ℚ.zero

abbrev minus : Fraction → Fraction → Fraction
minus x y = ℚ.add x (ℚ.neg y)

-- ---- inverses
inverse_zero : (x : Fraction) → x ≢ ℚ.zero → minus (ℚ.mul (inverse x) x) ℚ.one ≡ ℚ.zero
inverse_zero x n = ap (λ y. minus y ℚ.one) (mul-inverse_left ℚ_field.inverses x n)
    ∙ ℚ_ring.add-neg ℚ.one

is_inverse : (x y : Fraction) → minus (ℚ.mul y x) ℚ.one ≡ ℚ.zero
    → (x ≢ ℚ.zero) × (inverse x ≡ y)
is_inverse x y h = (some, same)
  where
    one : ℚ.mul y x ≡ ℚ.one
    one = eq_of_sub ℚ_ring (ℚ.mul y x) ℚ.one h

    some : x ≢ ℚ.zero
    some z = fractions_field.one-ne-zero (sym one ∙ ap (ℚ.mul y) z ∙ mul-zero ℚ_ring y)

    same : inverse x ≡ y
    same =
        sym (ℚ_ring.mul-one (inverse x)) ∙ ap (ℚ.mul (inverse x)) (sym one)
        ∙ ap (ℚ.mul (inverse x)) (ℚ_ring.mul_comm y x)
        ∙ sym (ℚ_ring.mul_assoc (inverse x) x y)
        ∙ ap (λ w. ℚ.mul w y) (mul-inverse_left ℚ_field.inverses x some)
        ∙ ℚ_ring.mul_comm ℚ.one y ∙ ℚ_ring.mul-one y

-- ---- lists
pub parted : (xs ys : List Fraction) (n : ℕ) → length xs ≡ n
    → (take n (xs ++ ys) ≡ xs) × (drop n (xs ++ ys) ≡ ys)
parted [] ys zero l = (refl, refl)
parted [] ys (suc n) l = absurd (omega arith)
parted (x ∷ xs) ys zero l = absurd (omega arith)
parted (x ∷ xs) ys (suc n) l =
    let r = parted xs ys n (omega arith) in (ap (λ zs. x ∷ zs) r.0, r.1)

module _ {At : Type 0} where
  abbrev zeros : List (Expr At) → List Fraction → List Fraction → List Fraction
  zeros ds ys s = inverse_zeros ℚ (λ c. c) ds ys s

  record Inverses (ds : List (Expr At)) (s t : List Fraction) : Type 0 where
    values : List Fraction
    count : length values ≡ length ds
    null : Each IsNull (zeros ds values s)
    is : t ≡ s ++ values

  inverted_with : (ds : List (Expr At)) (s t : List Fraction) → Inverted ds s t
      → Inverses ds s t
  unfolding Inverted Each inverse_zeros
  inverted_with [] s t h =
      record { values = []; count = refl; null = tt; is = h ∙ sym (append-nil s) }
  inverted_with (d ∷ ds) s t h =
      let y = inverse (value d s) in
      let r = inverted_with ds (s ++ y ∷ []) t h.1 in
      record {
        values = y ∷ r.values;
        count = ap suc r.count;
        null = (inverse_zero (value d s) h.0, r.null);
        is = r.is ∙ append_assoc s (y ∷ []) r.values;
      }

  inverted_by : (ds : List (Expr At)) (ys s : List Fraction) → length ys ≡ length ds
      → Each IsNull (zeros ds ys s) → Inverted ds s (s ++ ys)
  unfolding Inverted Each inverse_zeros
  inverted_by [] [] s l h = append-nil s
  inverted_by [] (y ∷ ys) s l h = absurd (omega arith)
  inverted_by (d ∷ ds) [] s l h = absurd (omega arith)
  inverted_by (d ∷ ds) (y ∷ ys) s l h =
      let (some, same) = is_inverse (value d s) y h.0 in (
        some,
        subst (λ x. Inverted ds (s ++ x ∷ []) (s ++ y ∷ ys)) (sym same)
            (subst (Inverted ds (s ++ y ∷ [])) (append_assoc s (y ∷ []) ys)
            (inverted_by ds ys (s ++ y ∷ []) (omega arith) h.1)),
      )

  -- ---- one step
  pub record Goes (c : Step (Expr At)) (s z : List Fraction) : Type 0 where
    pub values : List Fraction
    pub count : length values ≡ unknowns c
    pub null : Each IsNull (zeros_of ℚ (λ c. c) c values s)
    pub is : z ≡ after_step ℚ (λ c. c) c values s

  pub does_with : (c : Step (Expr At)) (s z : List Fraction) → Does c s z → Goes c s z
  unfolding Does unknowns zeros_of after_step Each
  does_with (assign ds is es) s z h =
      let r = inverted_with ds s h.0 h.1 in
      record {
        values = r.values;
        count = r.count;
        null = r.null;
        is = h.2 ∙ ap (λ t. store is (map (λ e. value e t) es) s) r.is;
      }
  does_with (choose i) s z h = record { values = h.0 ∷ []; count = refl; null = tt; is = h.1 }
  does_with (equal e f) s z h = record {
    values = [];
    count = refl;
    null = (ap (λ x. minus x (value f s)) h.0 ∙ ℚ_ring.add-neg (value f s), tt);
    is = h.1;
  }
  does_with (differ e f) s z h =
      let x = minus (value e s) (value f s) in
      let n : x ≢ ℚ.zero = λ q. h.0 (eq_of_sub ℚ_ring (value e s) (value f s) q) in
      record { values = inverse x ∷ []; count = refl; null = (inverse_zero x n, tt); is = h.1 }

  pub does_by : (c : Step (Expr At)) (s z : List Fraction) → Goes c s z → Does c s z
  unfolding Does unknowns zeros_of after_step Each
  does_by (assign ds is es) s z g = (s ++ g.values, inverted_by ds g.values s g.count g.null, g.is)
  does_by (choose i) s z g = (get_or g.values 0 ℚ.zero, g.is)
  does_by (equal e f) s z g = (eq_of_sub ℚ_ring (value e s) (value f s) g.null.0, g.is)
  does_by (differ e f) s z g = (
    (λ q. (is_inverse (minus (value e s) (value f s)) (get_or g.values 0 ℚ.zero) g.null.0).0
        (ap (λ w. minus w (value f s)) q ∙ ℚ_ring.add-neg (value f s))),
    g.is,
  )

  -- ---- steps
  pub record GoesAll (cs : List (Step (Expr At))) (s z : List Fraction) : Type 0 where
    pub values : List Fraction
    pub count : length values ≡ all_unknowns cs
    pub null : Each IsNull (all_zeros ℚ (λ c. c) cs values s)
    pub is : z ≡ after_all ℚ (λ c. c) cs values s

  pub all_with : (cs : List (Step (Expr At))) (s z : List Fraction) → DoesAll cs s z
      → GoesAll cs s z
  unfolding DoesAll all_unknowns all_zeros after_all Each
  all_with [] s z h = record { values = []; count = refl; null = tt; is = h }
  all_with (c ∷ cs) s z h =
      let g = does_with c s h.0 h.1 in
      let r = all_with cs h.0 z h.2 in
      let k = parted g.values r.values (unknowns c) g.count in
      record {
        values = g.values ++ r.values;
        count = length-append g.values r.values ∙ ap₂ ◌+◌ g.count r.count;
        null = both k.0 k.1 (each-append IsNull (zeros_of ℚ (λ c. c) c g.values s)
            (all_zeros ℚ (λ c. c) cs r.values (after_step ℚ (λ c. c) c g.values s)) g.null
            (subst (λ m. Each IsNull (all_zeros ℚ (λ c. c) cs r.values m)) g.is r.null));
        is =
            r.is ∙ ap (after_all ℚ (λ c. c) cs r.values) g.is
            ∙ sym (ap₂ (λ xs ys. after_all ℚ (λ c. c) cs ys (after_step ℚ (λ c. c) c xs s)) k.0
            k.1);
      }
    where
      both : {xs ys us vs : List Fraction} → us ≡ xs → vs ≡ ys
          → Each IsNull (zeros_of ℚ (λ c. c) c xs s
          ++ all_zeros ℚ (λ c. c) cs ys (after_step ℚ (λ c. c) c xs s))
          → Each IsNull (zeros_of ℚ (λ c. c) c us s
          ++ all_zeros ℚ (λ c. c) cs vs (after_step ℚ (λ c. c) c us s))
      both {xs = xs} {vs = vs} p q h =
          subst (λ us. Each IsNull (zeros_of ℚ (λ c. c) c us s
          ++ all_zeros ℚ (λ c. c) cs vs (after_step ℚ (λ c. c) c us s))) (sym p)
          (subst (λ vs. Each IsNull (zeros_of ℚ (λ c. c) c xs s
          ++ all_zeros ℚ (λ c. c) cs vs (after_step ℚ (λ c. c) c xs s))) (sym q) h)

  pub all_by : (cs : List (Step (Expr At))) (s z : List Fraction) → GoesAll cs s z
      → DoesAll cs s z
  unfolding DoesAll all_unknowns all_zeros after_all
  all_by [] s z g = g.is
  all_by (c ∷ cs) s z g =
      let xs = take (unknowns c) g.values in
      let ys = drop (unknowns c) g.values in
      let m = after_step ℚ (λ c. c) c xs s in
      let first = zeros_of ℚ (λ c. c) c xs s in
      let rest = all_zeros ℚ (λ c. c) cs ys m in (
        m,
        does_by c s m (record {
          values = xs;
          count = length-front (unknowns c) (all_unknowns cs) g.values g.count;
          null = each-left IsNull first rest g.null;
          is = refl;
        }),
        all_by cs m z (record {
          values = ys;
          count = length-back (unknowns c) (all_unknowns cs) g.values g.count;
          null = each-right IsNull first rest g.null;
          is = g.is;
        }),
      )
