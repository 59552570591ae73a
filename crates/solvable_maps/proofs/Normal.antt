-- Exponents and polynomials that are normal already.
--   Stays r e, AllStay r p      the exponents, and those of each term, are their own normal exponents
--   stay_kept, kept_stay        those of each term are exactly where the polynomial is its own normal one
--   exponents_stay              those put together of a normal key
--   key_normal                  those that stay have a normal key;  stay_normal: of a polynomial;  power_key_normal: the key of a power is normal
--   normal_stay, turned_stay, power_stay      normal polynomials; turned ones; the terms of a power
--   collect_each, collect_stay  like terms collected
--   normalized-push, turned-push     one term more
--   normal-length               as many exponents
--   fits_map                    as many images as the base has numbers
use Rattle.std.proofs.Common.{◌≡◌, ◌⊎◌, inl, inr, ℕ, zero, suc, ◌-◌, ◌<◌, ℤ, pos, negsuc, Bool, true, false, cond, List, [], ◌∷◌, ◌++◌, map, length, replicate, refl, sym, ap, ap₂, subst, ◌∙◌, arith, Ordering, Less, Equal, Greater}
use Rattle.algebra.specs.Each.{Each}
use Rattle.algebra.specs.Fraction.{Fraction, ℚ, rationals}
use Rattle.polynomials.specs.Order.{Rank, compare}
use Rattle.polynomials.specs.Polynomial.{Arity}
use Rattle.polynomials.specs.Terms.{Terms}
use Rattle.machines.specs.Collect.{place, insert, collect}
use Rattle.exponentials.specs.Base.{SameLength, Disjoint}
use Rattle.exponentials.specs.Keys.{Key, IsNormalKey, key_of, excess, normal_key, parity, top}
use Rattle.exponentials.proofs.Units.{Room, room_long, normal_good}
use Rattle.solvable_maps.specs.Expo.{tail, with_key, with_normal_keys, inverse_form_terms, inverse_form_sign, power_key, up_part, down_part, power_terms}
use Rattle.solvable_maps.specs.Iterations.{width, IsNormal}
use Rattle.solvable_maps.proofs.Operations.{key_with, tail_with}
use Rattle.solvable_maps.proofs.Lengths.{with-length, length-left}
use Rattle.solvable_maps.specs.NormalExponents.{normal_exponents, inverse_form_exponents}

abbrev pub Stays : ℕ → List ℕ → Type 0
Stays r e = normal_exponents r e ≡ e

abbrev pub AllStay : {A : Type 0} → ℕ → Terms A → Type 0
AllStay r p = Each (λ t. Stays r t.0) p

abbrev first_of : {A : Type 0} → Terms A → List ℕ
first_of [] = []
first_of (t ∷ p) = t.0

abbrev others_of : {A : Type 0} → Terms A → Terms A
others_of [] = []
others_of (t ∷ p) = p

pub kept_stay : {A : Type 0} (r : ℕ) (p : Terms A) → with_normal_keys r p ≡ p → AllStay r p
unfolding Each
kept_stay r [] e = tt
kept_stay r (t ∷ p) e = (ap first_of e, kept_stay r p (ap others_of e))

pub stay_kept : {A : Type 0} (r : ℕ) (p : Terms A) → AllStay r p → with_normal_keys r p ≡ p
unfolding Each
stay_kept r [] h = refl
stay_kept r (t ∷ p) h = ap₂ (λ (e : List ℕ) q. (e, t.1) ∷ q) h.0 (stay_kept r p h.1)

-- ---- normal keys
parity_stays : (n : ℕ) → n < 2 → parity n ≡ n
parity_stays zero h = refl
parity_stays (suc zero) h = refl
parity_stays (suc (suc n)) h = absurd (omega arith)

less_none : (m n : ℕ) → (m ≡ 0) ⊎ (n ≡ 0) → m - n ≡ m
less_none m n (inl h) = omega arith
less_none m n (inr h) = omega arith

left_stays : (bs u v : List ℕ) → SameLength bs u → SameLength bs v → Disjoint u v → excess u v ≡ u
unfolding excess
left_stays [] [] v f g d = refl
left_stays [] (m ∷ u) v f g d = absurd f
left_stays (b ∷ bs) [] v f g d = absurd f
left_stays (b ∷ bs) (m ∷ u) [] f g d = absurd g
left_stays (b ∷ bs) (m ∷ u) (n ∷ v) f g d = ap₂ ◌∷◌ (less_none m n d.0) (left_stays bs u v f g d.1)

swapped : (m n : ℕ) → (m ≡ 0) ⊎ (n ≡ 0) → (n ≡ 0) ⊎ (m ≡ 0)
swapped m n (inl h) = inr h
swapped m n (inr h) = inl h

pub disjoint_sym : (u v : List ℕ) → Disjoint u v → Disjoint v u
disjoint_sym [] [] d = tt
disjoint_sym [] (n ∷ v) d = tt
disjoint_sym (m ∷ u) [] d = tt
disjoint_sym (m ∷ u) (n ∷ v) d = (swapped m n d.0, disjoint_sym u v d.1)

module _ (bs : List ℕ) where
  abbrev r : ℕ
  r = length bs

  key_stays : (x : Key) → IsNormalKey bs x → (parity x.0, excess x.1 x.2, excess x.2 x.1) ≡ x
  key_stays x h =
      let p = parity_stays x.0 h.0 in
      let u = left_stays bs x.1 x.2 h.1 h.2 h.3 in
      let v = left_stays bs x.2 x.1 h.2 h.1 (disjoint_sym x.1 x.2 h.3) in
      λ i. (p i, u i, v i)

  pub exponents_stay : (n : ℕ) (x : Key) (e : List ℕ) → IsNormalKey bs x → Stays r (with_key n x e)
  exponents_stay n x e h = ap₂ (with_key n)
      (ap (λ (k : Key). (parity k.0, excess k.1 k.2, excess k.2 k.1)) (key_with bs n x e h.1 h.2)
      ∙ key_stays x h)
      (tail_with bs n x e h.1 h.2)

  room : {A : Type 0} (m : ℕ) (t : List ℕ × A) → length t.0 ≡ width r m → Room bs t
  room m t l = room_long bs t (omega arith)

  pub key_normal : {A : Type 0} (m : ℕ) (t : List ℕ × A) → length t.0 ≡ width r m → Stays r t.0
      → IsNormalKey bs (key_of r t.0)
  key_normal m t l s =
      let good : IsNormalKey bs (normal_key r t.0) = normal_good bs t (room m t l) in
      let is : key_of r (with_key (top t.0) (normal_key r t.0) (tail r t.0)) ≡ normal_key r t.0 =
      key_with bs (top t.0) (normal_key r t.0) (tail r t.0) good.1 good.2 in
      subst (IsNormalKey bs) (sym is ∙ ap (key_of r) s) good

  pub stay_normal : {A : Type 0} (m : ℕ) (p : Terms A) → Arity (width r m) p → AllStay r p
      → IsNormal bs p
  unfolding Each
  stay_normal m [] a h = tt
  stay_normal m (t ∷ p) a h = (key_normal m t a.0 h.0, stay_normal m p a.1 h.1)

  pub normal_stay : {A : Type 0} (m : ℕ) (p : Terms A) → Arity (width r m) p
      → AllStay r (with_normal_keys r p)
  unfolding Each
  normal_stay m [] a = tt
  normal_stay m (t ∷ p) a = (
    exponents_stay (top t.0) (normal_key r t.0) (tail r t.0) (normal_good bs t (room m t a.0)),
    normal_stay m p a.1,
  )

  pub turned_stay : (m : ℕ) (p : Terms Fraction) → Arity (width r m) p → AllStay r p
      → AllStay r (inverse_form_terms r p)
  unfolding Each
  turned_stay m [] a h = tt
  turned_stay m (t ∷ p) a h =
      let k : IsNormalKey bs (key_of r t.0) = key_normal m t a.0 h.0 in
      let x = key_of r t.0 in (
        exponents_stay (top t.0) (x.0, x.2, x.1) (tail r t.0) (
          k.0,
          k.2,
          k.1,
          disjoint_sym x.1 x.2 k.3,
        ),
        turned_stay m p a.1 h.1,
      )

  pub power_stay : {A : Type 0} (m : ℕ) (x : Key) (q : ℕ → A) (lo n : ℕ) → IsNormalKey bs x
      → AllStay r (power_terms m x q lo n)
  unfolding Each
  power_stay m x q lo zero h = tt
  power_stay m x q lo (suc n) h = (
    exponents_stay lo x (replicate m 0) h,
    power_stay m x q (suc lo) n h,
  )

-- ---- keys of powers
pub fits_map : (f : ℤ → ℕ) (bs : List ℕ) (e : List ℤ) → length e ≡ length bs
    → SameLength bs (map f e)
fits_map f [] [] l = tt
fits_map f [] (z ∷ e) l = absurd (omega arith)
fits_map f (b ∷ bs) [] l = absurd (omega arith)
fits_map f (b ∷ bs) (z ∷ e) l = fits_map f bs e (omega arith)

sides_disjoint : (e : List ℤ) → Disjoint (map up_part e) (map down_part e)
sides_disjoint [] = tt
sides_disjoint (pos n ∷ e) = (inr refl, sides_disjoint e)
sides_disjoint (negsuc n ∷ e) = (inl refl, sides_disjoint e)

sign_small : (b : Bool) → cond b 1 0 < 2
sign_small true = omega arith
sign_small false = omega arith

pub power_key_normal : (bs : List ℕ) (negative : Bool) (e : List ℤ) → length e ≡ length bs
    → IsNormalKey bs (power_key negative e)
power_key_normal bs negative e l = (
  sign_small negative,
  fits_map up_part bs e l,
  fits_map down_part bs e l,
  sides_disjoint e,
)

-- ---- collected
module _ (O : Rank) (P : List ℕ → Type 0) where
  insert_each : (t : List ℕ × Fraction) (p : Terms Fraction) → P t.0 → Each (λ u. P u.0) p
      → Each (λ u. P u.0) (insert rationals O t p)
  unfolding insert place Each
  insert_each t [] h k = (h, tt)
  insert_each t (u ∷ p) h k = go (compare O t.0 u.0) (rationals.is_zero (ℚ.add t.1 u.1))
      (insert_each t p h k.1)
    where
      go : (o : Ordering) (z : Bool) → Each (λ u. P u.0) (insert rationals O t p)
          → Each (λ u. P u.0) (place rationals o z t u p (insert rationals O t p))
      go Less z ih = (k.0, ih)
      go Equal true ih = k.1
      go Equal false ih = k
      go Greater z ih = (h, k)

  pub collect_each : (p : Terms Fraction) → Each (λ u. P u.0) p
      → Each (λ u. P u.0) (collect rationals O p)
  unfolding collect Each
  collect_each [] k = tt
  collect_each (t ∷ p) k = go (rationals.is_zero t.1) (collect_each p k.1)
    where
      go : (z : Bool) → Each (λ u. P u.0) (collect rationals O p)
          → Each (λ u. P u.0) (cond z (collect rationals O p)
          (insert rationals O t (collect rationals O p)))
      go true ih = ih
      go false ih = insert_each t (collect rationals O p) k.0 ih

pub collect_stay : (O : Rank) (r : ℕ) (p : Terms Fraction) → AllStay r p
    → with_normal_keys r (collect rationals O p) ≡ collect rationals O p
collect_stay O r p h = stay_kept r (collect rationals O p) (collect_each O (Stays r) p h)

-- ---- one term more
pub normalized-push : {A : Type 0} (r : ℕ) (p : Terms A) (t : List ℕ × A)
    → with_normal_keys r (p ++ t ∷ []) ≡ with_normal_keys r p ++ (normal_exponents r t.0, t.1) ∷ []
normalized-push r [] t = refl
normalized-push r (u ∷ p) t = ap (λ q. (normal_exponents r u.0, u.1) ∷ q) (normalized-push r p t)

pub turned-push : (r : ℕ) (p : Terms Fraction) (t : List ℕ × Fraction)
    → inverse_form_terms r (p ++ t ∷ [])
    ≡ inverse_form_terms r p ++ (inverse_form_exponents r t.0, inverse_form_sign (top t.0) t.1) ∷ []
turned-push r [] t = refl
turned-push r (u ∷ p) t = ap (λ q. (inverse_form_exponents r u.0, inverse_form_sign (top u.0) u.1)
    ∷ q)
    (turned-push r p t)

-- ---- the number of exponents
pub normal-length : (r m : ℕ) (e : List ℕ) → length e ≡ width r m → length (normal_exponents r e)
    ≡ width r m
normal-length r m e l = with-length r m e (λ d f. excess d f) (λ d f. excess f d) (length-left r)
    (λ d f k j. length-left r f d j k) l (top e) (normal_key r e).0
