-- Points where s s = 1 and u v = 1, as those of each natural n and of each negative one: what has the same values at all natural n has them there.
--   parity n             0 or 1: s^n is s^(parity n)
--   us_of r t, vs_of r t     a term's exponents of u, and of v, for a base of r numbers
--   Room bs t            the term has exponents of s and of each u and v; HasRoom bs ts: each term has
--   room_long            a term with exponents enough has them
--   normal_key r t       the exponents of s, u and v, where s s and u v are left out; normal_good: they are normal
--   part c e             the part of a term in the variables; value_of ts s: the value of a list of terms at a point
--   at                   the point: n, s, the u and the v of the base, and the variables
--   natural n            the point of a natural n
--   IsUnit               s s = 1 and u v = 1 there; natural_unit: so it is at each natural n
--   normal_term          a term's value at such a point
--   same_at_units        the theorem
use Rattle.std.proofs.lemmas.List.{length-map}
use Rattle.std.proofs.Common.{◌≡◌, ℕ, zero, suc, ◌+◌, ◌<◌, ◌≤◌, List, [], ◌∷◌, ◌++◌, map, length, take, drop, refl, sym, ap, ap₂, ◌∙◌, arith}
use Rattle.algebra.specs.Each.{Each}
use Rattle.exponentials.specs.Base.{Coprime, SameLength}
use Rattle.algebra.specs.Ring.{Hom, CommRing, Field, operations, of_nat}
use Rattle.algebra.specs.Sum.{sum_over}
use Rattle.algebra.proofs.RingLaws as L
use Rattle.algebra.specs.Arithmetic.{power}
use Rattle.exponentials.proofs.Lists.{sum_same, each_map}
use Rattle.polynomials.specs.Exponent.{plus}
use Rattle.exponentials.specs.Keys.{IsNormalKey, Key, excess, normal_key, parity, rest, top}
use Rattle.exponentials.proofs.PowerProducts.{lower, lower_comm, lower-left, left-fits}
use Rattle.polynomials.specs.Terms.{monomial_at}
use Rattle.exponentials.proofs.Monomial.{power-mul, power-one, power_inverse}
use Rattle.exponentials.proofs.Expo.{IsChar0, positive}
use Rattle.exponentials.proofs.Points.{term-value, left-disjoint}
use Rattle.polynomials.proofs.Value.{monomial-plus}
use Rattle.exponentials.proofs.Law.{Term, degree_of}
use Rattle.exponentials.proofs.Unique as U
use Rattle.exponentials.proofs.Everywhere.{Place, same_everywhere}

parity_small : (n : ℕ) → parity n < 2
parity_small zero = omega arith
parity_small (suc zero) = omega arith
parity_small (suc (suc n)) = parity_small n

-- the exponents of u, and of v
abbrev pub us_of : {K : Type 0} → ℕ → Term K → List ℕ
us_of r t = take r (rest (rest t.0))

abbrev pub vs_of : {K : Type 0} → ℕ → Term K → List ℕ
vs_of r t = take r (drop r (rest (rest t.0)))

-- there are exponents of s, of each u and of each v
abbrev pub Room : {K : Type 0} → List ℕ → Term K → Type 0
Room bs t = SameLength bs (us_of (length bs) t) × SameLength bs (vs_of (length bs) t)

abbrev pub HasRoom : {K : Type 0} → List ℕ → List (Term K) → Type 0
HasRoom bs ts = Each (Room bs) ts

fits_long : (bs e : List ℕ) → length bs ≤ length e → SameLength bs (take (length bs) e)
fits_long [] e h = tt
fits_long (b ∷ bs) [] h = absurd (omega arith)
fits_long (b ∷ bs) (n ∷ e) h = fits_long bs e (omega arith)

drop_long : (r : ℕ) (e : List ℕ) (k : ℕ) → r + k ≤ length e → k ≤ length (drop r e)
drop_long zero e k h = omega arith
drop_long (suc r) [] k h = absurd (omega arith)
drop_long (suc r) (n ∷ e) k h = drop_long r e k (omega arith)

rest_long : (e : List ℕ) (k : ℕ) → suc k ≤ length e → k ≤ length (rest e)
rest_long [] k h = absurd (omega arith)
rest_long (n ∷ e) k h = omega arith

pub room_long : {K : Type 0} (bs : List ℕ) (t : Term K) → 2 + (length bs + length bs) ≤ length t.0
    → Room bs t
room_long bs t h =
    let r = rest (rest t.0) in
    let l : length bs + length bs ≤ length r = rest_long (rest t.0) (length bs + length bs)
    (rest_long t.0 (suc (length bs + length bs)) (omega arith)) in (
      fits_long bs r (omega arith),
      fits_long bs (drop (length bs) r)
          (drop_long (length bs) r (length bs) l),
    )

pub normal_good : {K : Type 0} (bs : List ℕ) (t : Term K) → Room bs t
    → IsNormalKey bs (normal_key (length bs) t.0)
normal_good bs t room =
    let u = us_of (length bs) t in
    let v = vs_of (length bs) t in (
      parity_small (top (rest t.0)),
      left-fits bs u v room.0 room.1,
      left-fits bs v u room.1 room.0,
      left-disjoint u v,
    )

-- the point n, s, u and v of the base, and the variables
abbrev pub at : {A : Type 0} → List ℕ → List A → A → A → (ℕ → A) → (ℕ → A) → List A
at bs xs a e f g = a ∷ e ∷ (map f bs ++ (map g bs ++ xs))

module _ {A : Type 0} (R : CommRing A) (bs : List ℕ) (xs : List A) where
  open R use {zero as 𝟘, one as 𝟙, add, mul, neg}

  pub record IsUnit (e : A) (f g : ℕ → A) : Type 0 where
    pub square : mul e e ≡ 𝟙
    pub inverse : Each (λ b. mul (f b) (g b) ≡ 𝟙) bs

  power_parity : (e : A) → mul e e ≡ 𝟙 → (n : ℕ) → power (operations R) e n ≡ power (operations R) e
      (parity n)
  unfolding power
  power_parity e h zero = refl
  power_parity e h (suc zero) = refl
  power_parity e h (suc (suc n)) = sym (R.mul_assoc e e (power (operations R) e n))
      ∙ ap (λ z. mul z (power (operations R) e n)) h ∙ L.one-mul R (power (operations R) e n)
      ∙ power_parity e h n

  both-one : (f g : ℕ → A) (bs : List ℕ) (e : List ℕ) → Each (λ b. mul (f b) (g b) ≡ 𝟙) bs
      → mul (monomial_at (operations R) (map f bs) e) (monomial_at (operations R) (map g bs) e) ≡ 𝟙
  unfolding monomial_at Each
  both-one f g [] e h = L.one-mul R 𝟙
  both-one f g (x ∷ xs) [] h = L.one-mul R 𝟙
  both-one f g (x ∷ xs) (n ∷ e) h =
      L.mul_swap R (power (operations R) (f x) n) (monomial_at (operations R) (map f xs) e)
      (power (operations R) (g x) n) (monomial_at (operations R) (map g xs) e)
      ∙ ap₂ mul (sym (power-mul R (f x) (g x) n) ∙ ap (λ z. power (operations R) z n) h.0
      ∙ power-one R n) (both-one f g xs e h.1) ∙ L.one-mul R 𝟙

  -- what u and v have in common may be left out
  without_common : (f g : ℕ → A) → Each (λ b. mul (f b) (g b) ≡ 𝟙) bs → (us vs : List ℕ)
      → SameLength bs us → SameLength bs vs
      → mul (monomial_at (operations R) (map f bs) us) (monomial_at (operations R) (map g bs) vs)
      ≡ mul (monomial_at (operations R) (map f bs) (excess us vs))
      (monomial_at (operations R) (map g bs) (excess vs us))
  without_common f g h us vs p q =
      let k = lower us vs in
      ap₂ mul (ap (monomial_at (operations R) (map f bs)) (sym (lower-left bs us vs p q))
      ∙ monomial-plus R (map f bs) k (excess us vs))
      (ap (monomial_at (operations R) (map g bs)) (sym (lower-left bs vs us q p)
      ∙ ap (λ z. plus z (excess vs us)) (lower_comm vs us))
      ∙ monomial-plus R (map g bs) k (excess vs us))
      ∙ L.mul_swap R (monomial_at (operations R) (map f bs) k)
      (monomial_at (operations R) (map f bs) (excess us vs))
      (monomial_at (operations R) (map g bs) k) (monomial_at (operations R) (map g bs)
      (excess vs us))
      ∙ ap (λ z. mul z (mul (monomial_at (operations R) (map f bs) (excess us vs))
      (monomial_at (operations R) (map g bs) (excess vs us)))) (both-one f g bs k h)
      ∙ L.one-mul R (mul (monomial_at (operations R) (map f bs) (excess us vs))
      (monomial_at (operations R) (map g bs) (excess vs us)))

  -- the value of a monomial in n, s, u and v
  abbrev pub place_at : A → A → (ℕ → A) → (ℕ → A) → Place → A
  place_at a e f g p = mul (power (operations R) a p.1) (mul (power (operations R) e p.0.0)
      (mul (monomial_at (operations R) (map f bs) p.0.1) (monomial_at (operations R) (map g bs)
      p.0.2)))

  -- the part of a term in the variables, with c for its number
  abbrev pub part : A → List ℕ → A
  part c e =
      mul c (monomial_at (operations R) xs (drop (length bs) (drop (length bs) (rest (rest e)))))

  pub normal_term : {K : Type 0} (a e : A) (f g : ℕ → A) → IsUnit e f g → (c : A) (t : Term K)
      → Room bs t
      → mul c (monomial_at (operations R) (at bs xs a e f g) t.0) ≡ mul (part c t.0)
      (place_at a e f g (normal_key (length bs) t.0, degree_of t))
  normal_term a e f g unit c t room =
      let us = map f bs in
      let vs = map g bs in
      let d = rest (rest t.0) in
      term-value R c a e us vs xs t.0
      ∙ ap₂ (λ i j. mul (mul c (monomial_at (operations R) xs (drop j (drop i d))))
      (mul (power (operations R) a (top t.0)) (mul (power (operations R) e (top (rest t.0)))
      (mul (monomial_at (operations R) us (take i d)) (monomial_at (operations R) vs
      (take j (drop i d))))))) (length-map bs f) (length-map bs g)
      ∙ ap (mul (part c t.0))
      (ap (mul (power (operations R) a (top t.0)))
      (ap₂ mul (power_parity e unit.square (top (rest t.0))) (without_common f g unit.inverse
      (us_of (length bs) t) (vs_of (length bs) t) room.0 room.1)))

module _ {K A : Type 0} (F : Field K) (char : IsChar0 F) (R : CommRing A) (φ : Hom F.ring R)
    (bs : List ℕ) (c : Coprime bs) (xs : List A) where
  -- the value of a list of terms at a point
  abbrev pub value_of : List (Term K) → List A → A
  value_of ts s = sum_over (operations R) (λ t. R.mul (φ.to t.1) (monomial_at (operations R) s t.0))
      ts

  -- the point of a natural n
  abbrev pub natural : ℕ → List A
  natural n = at bs xs (of_nat R n) (power (operations R) (R.neg R.one) n)
      (λ b. power (operations R) (φ.to (of_nat F.ring b)) n)
      (λ b. power (operations R) (φ.to (F.inverse (of_nat F.ring b))) n)

  each_base : (n : ℕ) (cs : List ℕ) → Coprime cs
      → Each (λ b. R.mul (power (operations R) (φ.to (of_nat F.ring b)) n)
      (power (operations R) (φ.to (F.inverse (of_nat F.ring b))) n) ≡ R.one) cs
  unfolding Each
  each_base n [] d = tt
  each_base n (b ∷ cs) d = (
    power_inverse R (φ.to (of_nat F.ring b)) (φ.to (F.inverse (of_nat F.ring b))) n
        (sym (φ.to-mul (of_nat F.ring b) (F.inverse (of_nat F.ring b)))
        ∙ ap φ.to (F.mul-inverse (of_nat F.ring b) (positive F char b (let big : 1 < b =
        d.0 in omega arith))) ∙ φ.to-one),
    each_base n cs d.2,
  )

  pub natural_unit : (n : ℕ) → IsUnit R bs xs (power (operations R) (R.neg R.one) n)
      (λ b. power (operations R) (φ.to (of_nat F.ring b)) n)
      (λ b. power (operations R) (φ.to (F.inverse (of_nat F.ring b))) n)
  natural_unit n = record {
    square = power_inverse R (R.neg R.one) (R.neg R.one) n
        (L.minus_squared R);
    inverse = each_base n bs c;
  }

  abbrev own : Term K → A
  own t = part R bs xs (φ.to t.1) t.0

  key : Term K → Key
  key t = normal_key (length bs) t.0

  pub same_at_units : (ts us : List (Term K)) → HasRoom bs ts → HasRoom bs us
      → ((n : ℕ) → value_of ts (natural n) ≡ value_of us (natural n))
      → (a e : A) (f g : ℕ → A) → IsUnit R bs xs e f g → value_of ts (at bs xs a e f g)
      ≡ value_of us (at bs xs a e f g)
  unfolding key
  same_at_units ts us p q h a e f g unit =
      value_is ts p ∙ same_everywhere F char R φ bs c degree_of key own ts us (good ts p)
      (good us q) (λ n. sym (natural_is n ts p) ∙ h n ∙ natural_is n us q)
      (place_at R bs xs a e f g) ∙ sym (value_is us q)
    where
      good : (ts : List (Term K)) → HasRoom bs ts
          → Each (λ t. IsNormalKey bs (normal_key (length bs) t.0)) ts
      good ts p = each_map ts (λ t room. normal_good bs t room) p

      value_is : (ts : List (Term K)) → HasRoom bs ts → value_of ts (at bs xs a e f g)
          ≡ sum_over (operations R)
          (λ t. R.mul (place_at R bs xs a e f g (normal_key (length bs) t.0, degree_of t)) (own t))
          ts
      value_is ts p =
          sum_same R _ _ ts (each_map ts (λ t room. normal_term R bs xs a e f g unit (φ.to t.1) t
          room ∙ R.mul_comm _ _) p)

      natural_is : (n : ℕ) (ts : List (Term K)) → HasRoom bs ts → value_of ts (natural n)
          ≡ U.sum_at F char R φ bs c degree_of (λ t. normal_key (length bs) t.0) own ts n
      natural_is n ts p =
          sum_same R _ _ ts
          (each_map ts (λ t room. normal_term R bs xs (of_nat R n)
          (power (operations R) (R.neg R.one) n)
          (λ b. power (operations R) (φ.to (of_nat F.ring b)) n)
          (λ b. power (operations R) (φ.to (F.inverse (of_nat F.ring b))) n) (natural_unit n)
          (φ.to t.1) t room) p)
