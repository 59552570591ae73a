-- A normal polynomial at n + 1 is normal: each of its terms has the exponents of s, u, v and the variables of a term at n.
--   HasRest a p, AllRest us ps     each term of p has the exponents a behind the first; each polynomial has those at its place
--   next_rest                      those of n + 1, -s, b u, v / b and the variables are those of the variables
--   arity-next                     these are polynomials in all of them
--   compose_stay                   the theorem
use Rattle.std.proofs.Common.{◌≡◌, ◌<◌, ℕ, zero, suc, pos, ◌+◌, List, [], ◌∷◌, map, length, replicate, refl, sym, ap, ap₂, subst, ◌∙◌, arith}
use Rattle.algebra.specs.Arithmetic.{Arithmetic, power}
use Rattle.algebra.specs.Each.{Each}
use Rattle.algebra.specs.Sum.{sum_over}
use Rattle.algebra.proofs.Each.{each-append, each_weaker}
use Rattle.algebra.specs.Fraction.{Fraction, ℚ, whole, inverse}
use Rattle.polynomials.specs.Algebra as Algebra
use Rattle.polynomials.specs.Exponent.{plus, unit_exponents}
use Rattle.polynomials.specs.Terms.{Terms, constant, variables, shift, times, negate, lists, monomial_at, evaluate, compose}
use Rattle.polynomials.specs.Polynomial.{Arity, AllArity}
use Rattle.polynomials.proofs.Exponent.{plus-nil}
use Rattle.polynomials.proofs.Arity.{AllLong, length-zeros, zeros-plus, unit_exponents_long, multiple, weighted, weighted-units, arity-compose, arity-times, arity-constant, arity-variables, arity-append, arity-negate}
use Rattle.exponentials.specs.Keys.{rest}
use Rattle.exponentials.proofs.Lists.{each_both}
use Rattle.solvable_maps.specs.Expo.{next_images}
use Rattle.solvable_maps.specs.Shifts.{over, later}
use Rattle.solvable_maps.specs.Iterations.{width}
use Rattle.solvable_maps.specs.NormalExponents.{normal_exponents}
use Rattle.solvable_maps.proofs.Normal.{Stays, AllStay}

rest-plus : (d e : List ℕ) → rest (plus d e) ≡ plus (rest d) (rest e)
unfolding plus
rest-plus [] e = refl
rest-plus (m ∷ d) [] = sym (plus-nil d)
rest-plus (m ∷ d) (n ∷ e) = refl

multiple-zeros : (m n : ℕ) → multiple m (replicate m 0) n ≡ replicate m 0
unfolding multiple
multiple-zeros m zero = refl
multiple-zeros m (suc n) = zeros-plus m (multiple m (replicate m 0) n)
    (ap length (multiple-zeros m n) ∙ length-zeros m) ∙ multiple-zeros m n

abbrev pub HasRest : {A : Type 0} → List ℕ → Terms A → Type 0
HasRest a p = Each (λ t. rest t.0 ≡ a) p

abbrev pub AllRest : {A : Type 0} → List (List ℕ) → List (Terms A) → Type 0
AllRest [] [] = Unit {0}
AllRest [] (q ∷ qs) = ⊥
AllRest (u ∷ us) [] = ⊥
AllRest (u ∷ us) (q ∷ qs) = HasRest u q × AllRest us qs

module _ {A : Type 0} (N : Arithmetic A) where
  rest-shift : (a d : List ℕ) (c : A) (q : Terms A) → HasRest a q
      → HasRest (plus (rest d) a) (shift N d c q)
  unfolding Each Algebra.shift
  rest-shift a d c [] h = tt
  rest-shift a d c (t ∷ q) h = (rest-plus d t.0 ∙ ap (plus (rest d)) h.0, rest-shift a d c q h.1)

  rest-times : (a b : List ℕ) (p q : Terms A) → HasRest a p → HasRest b q
      → HasRest (plus a b) (times N p q)
  unfolding Each Algebra.times
  rest-times a b [] q h k = tt
  rest-times a b (t ∷ p) q h k = each-append (λ u. rest u.0 ≡ plus a b) (shift N t.0 t.1 q)
      (times N p q)
      (subst (λ d. HasRest (plus d b) (shift N t.0 t.1 q)) h.0 (rest-shift b t.0 t.1 q k))
      (rest-times a b p q h.1 k)

  module _ (m : ℕ) where
    rest-constant : (c : A) → HasRest (replicate m 0) (constant (suc m) c)
    unfolding Each constant
    rest-constant c = (refl, tt)

    rest-power : (a : List ℕ) (q : Terms A) (n : ℕ) → HasRest a q
        → HasRest (multiple m a n) (power (lists N (suc m)) q n)
    unfolding power multiple
    rest-power a q zero h = rest-constant N.one
    rest-power a q (suc n) h = rest-times a (multiple m a n) q (power (lists N (suc m)) q n) h
        (rest-power a q n h)

    rest-monomial : (us : List (List ℕ)) (images : List (Terms A)) (e : List ℕ) → AllRest us images
        → HasRest (weighted m us e) (monomial_at (lists N (suc m)) images e)
    unfolding monomial_at weighted
    rest-monomial [] [] e h = rest-constant N.one
    rest-monomial [] (q ∷ images) e h = absurd h
    rest-monomial (u ∷ us) [] e h = absurd h
    rest-monomial (u ∷ us) (q ∷ images) [] h = rest-constant N.one
    rest-monomial (u ∷ us) (q ∷ images) (n ∷ e) h = rest-times (multiple m u n) (weighted m us e)
        (power (lists N (suc m)) q n) (monomial_at (lists N (suc m)) images e)
        (rest-power u q n h.0) (rest-monomial us images e h.1)

    -- ---- products with constants, and the variables
    rest-multiple : (c : A) (u : List ℕ) (q : Terms A) → length u ≡ m → HasRest u q
        → HasRest u (times N (constant (suc m) c) q)
    rest-multiple c u q l h = subst (λ d. HasRest d (times N (constant (suc m) c) q))
        (zeros-plus m u l) (rest-times (replicate m 0) u (constant (suc m) c) q (rest-constant c) h)

    rest-units : (us : List (List ℕ))
        → AllRest us (map (λ e. (e, N.one) ∷ []) (map (λ e. 0 ∷ e) us))
    unfolding Each
    rest-units [] = tt
    rest-units (u ∷ us) = ((refl, tt), rest-units us)

    rest-variables : AllRest (replicate m 0 ∷ unit_exponents m) (variables N (suc m))
    unfolding variables unit_exponents Each
    rest-variables = ((refl, tt), rest-units (unit_exponents m))

    rest-over : (bs : List ℕ) (k : ℕ → A) (f : List (Terms A) → List (Terms A))
        → ((us : List (List ℕ)) (l : List (Terms A)) → AllLong m us → AllRest us l
        → AllRest us (f l))
        → (us : List (List ℕ)) (l : List (Terms A)) → AllLong m us → AllRest us l
        → AllRest us (over (lists N (suc m)) bs (λ b. constant (suc m) (k b)) f l)
    unfolding Each
    rest-over [] k f g us l long h = g us l long h
    rest-over (b ∷ bs) k f g [] [] long h = tt
    rest-over (b ∷ bs) k f g [] (x ∷ l) long h = absurd h
    rest-over (b ∷ bs) k f g (u ∷ us) [] long h = absurd h
    rest-over (b ∷ bs) k f g (u ∷ us) (x ∷ l) long h = (
      rest-multiple (k b) u x long.0 h.0,
      rest-over bs k f g us l long.1 h.1,
    )

    rest-negate : (u : List ℕ) (q : Terms A) → HasRest u q → HasRest u (negate N q)
    unfolding Each Algebra.negate
    rest-negate u [] h = tt
    rest-negate u (t ∷ q) h = (h.0, rest-negate u q h.1)

    rest-later : (bs : List ℕ) (k j : ℕ → A) (u : List ℕ) (us : List (List ℕ)) (a e : Terms A)
        (l : List (Terms A)) → AllLong m us
        → HasRest (replicate m 0) a → HasRest u e → AllRest us l
        → AllRest (replicate m 0 ∷ u ∷ us) (later (lists N (suc m)) bs (λ b. constant (suc m) (k b))
        (λ b. constant (suc m) (j b)) (a ∷ e ∷ l))
    rest-later bs k j u us a e l long h g i = (
      each-append (λ t. rest t.0 ≡ replicate m 0) (constant (suc m) N.one) a (rest-constant N.one)
          h,
      (
        rest-negate u e g,
        rest-over bs k (over (lists N (suc m)) bs (λ b. constant (suc m) (j b)) (λ l. l))
            (λ us l long h. rest-over bs j (λ l. l) (λ us l long h. h) us l long h) us l long i,
      ),
    )

  next_rest : (m : ℕ) (bs : List ℕ) (k j : ℕ → A)
      → AllRest (replicate (suc m) 0 ∷ unit_exponents (suc m)) (later (lists N (suc (suc m))) bs
      (λ b. constant (suc (suc m)) (k b)) (λ b. constant (suc (suc m)) (j b))
      (variables N (suc (suc m))))
  unfolding variables unit_exponents Each
  next_rest m bs k j = from (rest-variables (suc m)) (unit_exponents_long (suc m))
    where
      from : AllRest (replicate (suc m) 0 ∷ unit_exponents (suc m)) (variables N (suc (suc m)))
          → AllLong (suc m) (unit_exponents (suc m))
          → AllRest (replicate (suc m) 0 ∷ unit_exponents (suc m)) (later (lists N (suc (suc m))) bs
          (λ b. constant (suc (suc m)) (k b)) (λ b. constant (suc (suc m)) (j b))
          (variables N (suc (suc m))))
      from h l = rest-later (suc m) bs k j _ _ _ _ _ l.1 h.0 h.1.0 h.1.1

  -- ---- compositions
  module _ (m : ℕ) (images : List (Terms A)) (is : AllRest (replicate m 0 ∷ unit_exponents m)
      images) (P : List ℕ → Type 0) where
    weighted_rest : (e : List ℕ) → length e ≡ suc m → weighted m (replicate m 0 ∷ unit_exponents m)
        e ≡ rest e
    unfolding weighted
    weighted_rest [] l = absurd (omega arith)
    weighted_rest (n ∷ e) l = ap₂ plus (multiple-zeros m n) (weighted-units m e (omega arith))
        ∙ zeros-plus m e (omega arith)

    term_rest : (t : List ℕ × A) → length t.0 ≡ suc m
        → HasRest (rest t.0) (times N (constant (suc m) t.1) (monomial_at (lists N (suc m)) images
        t.0))
    term_rest t l = rest-multiple m t.1 (rest t.0) (monomial_at (lists N (suc m)) images t.0)
        (short t.0 l)
        (subst (λ d. HasRest d (monomial_at (lists N (suc m)) images t.0)) (weighted_rest t.0 l)
        (rest-monomial m (replicate m 0 ∷ unit_exponents m) images t.0 is))
      where
        short : (e : List ℕ) → length e ≡ suc m → length (rest e) ≡ m
        short [] l = absurd (omega arith)
        short (n ∷ e) l = omega arith

    compose_rest : (p : Terms A) → Arity (suc m) p → Each (λ t. P (rest t.0)) p
        → Each (λ t. P (rest t.0)) (compose N (suc m) p images)
    unfolding Each evaluate sum_over
    compose_rest [] a h = tt
    compose_rest (t ∷ p) a h = each-append (λ u. P (rest u.0)) (times N (constant (suc m) t.1)
        (monomial_at (lists N (suc m)) images t.0)) (compose N (suc m) p images)
        (each_weaker (λ u. rest u.0 ≡ rest t.0) (λ u. P (rest u.0)) (λ u e. subst P (sym e) h.0)
        (times N (constant (suc m) t.1) (monomial_at (lists N (suc m)) images t.0))
        (term_rest t a.0))
        (compose_rest p a.1 h.1)

-- ---- what stays, by all but the first exponent
StaysBehind : ℕ → List ℕ → Type 0
StaysBehind r l = rest (normal_exponents r (0 ∷ l)) ≡ l

behind : (r : ℕ) (e : List ℕ) → Stays r e → StaysBehind r (rest e)
unfolding StaysBehind
behind r [] h = ap rest h
behind r (n ∷ e) h = ap rest h

in_front : (r : ℕ) (e : List ℕ) → 0 < length e → StaysBehind r (rest e) → Stays r e
unfolding StaysBehind
in_front r [] l h = absurd (omega arith)
in_front r (n ∷ e) l h = ap (λ d. n ∷ d) h

arity_over : (w : ℕ) (bs : List ℕ) (k : ℕ → Fraction) (f : List (Terms Fraction)
    → List (Terms Fraction)) → ((l : List (Terms Fraction)) → AllArity w l → AllArity w (f l))
    → (l : List (Terms Fraction)) → AllArity w l
    → AllArity w (over (lists ℚ w) bs (λ b. constant w (k b)) f l)
unfolding Each
arity_over w [] k f g l h = g l h
arity_over w (b ∷ bs) k f g [] h = tt
arity_over w (b ∷ bs) k f g (x ∷ l) h =
    (arity-times w ℚ (constant w (k b)) x (arity-constant w (k b)) h.0, arity_over w bs k f g l h.1)

arity_later : (w : ℕ) (bs : List ℕ) (k j : ℕ → Fraction) (l : List (Terms Fraction)) → AllArity w l
    → AllArity w (later (lists ℚ w) bs (λ b. constant w (k b)) (λ b. constant w (j b)) l)
unfolding Each
arity_later w bs k j [] h = tt
arity_later w bs k j (a ∷ []) h = tt
arity_later w bs k j (a ∷ e ∷ l) h = (
  arity-append w (constant w ℚ.one) a (arity-constant w ℚ.one) h.0,
  (
    arity-negate w ℚ e h.1.0,
    arity_over w bs k (over (lists ℚ w) bs (λ b. constant w (j b)) (λ l. l)) (λ l h.
        arity_over w bs j (λ l. l) (λ l h. h) l h) l h.1.1,
  ),
)

module _ (base : List ℕ) (m : ℕ) where
  abbrev w : ℕ
  w = width (length base) m

  pub arity-next : AllArity w (next_images base m)
  arity-next = arity_later w base (λ b. whole (pos b)) (λ b. inverse (whole (pos b)))
      (variables ℚ w) (arity-variables w ℚ)

  pub compose_stay : (r : ℕ) (p : Terms Fraction) → Arity w p → AllStay r p
      → AllStay r (compose ℚ w p (next_images base m))
  compose_stay r p a h =
      let k = length base + (length base + m) in
      each_both (compose ℚ w p (next_images base m)) (λ t s l. in_front r t.0 (omega arith) s)
      (compose_rest ℚ (suc k) (next_images base m) (next_rest ℚ k base (λ b. whole (pos b))
      (λ b. inverse (whole (pos b)))) (StaysBehind r) p a
      (each_weaker (λ t. Stays r t.0) (λ t. StaysBehind r (rest t.0)) (λ t s. behind r t.0 s) p h))
      (arity-compose w ℚ p (next_images base m) arity-next)
