-- The value of a list of terms at a point n, s, u, v and variables, and what agrees at each natural n.
--   values f s, iterations f n s     the values of polynomials, and n iterations;  iterations-length: which are as many
--   natural bs n s          the point of a natural n
--   value_kept              values keep sums, products and opposites
--   at-length               how long a point is
--   same_at_unit_points     polynomials with the same values at each natural n have them wherever s s = 1 and u v = 1
use Rattle.std.proofs.Common.{◌≡◌, ℕ, zero, suc, ◌+◌, List, [], ◌∷◌, ◌++◌, map, length, refl, ap, ◌∙◌, arith}
use Rattle.exponentials.specs.Base.{Coprime}
use Rattle.algebra.specs.Arithmetic.{Arithmetic, power}
use Rattle.algebra.specs.Each.{Each}
use Rattle.algebra.specs.Ring.{CommRing, Field, operations, of_nat}
use Rattle.algebra.proofs.Homs.{id_hom}
use Rattle.polynomials.specs.Terms.{Terms, evaluate, value_at, lists}
use Rattle.polynomials.specs.Polynomial.{Arity}
use Rattle.polynomials.proofs.ValueAt.{value_at-append, value_at-times, value_at-negate, value_at-constant}
use Rattle.exponentials.proofs.Expo.{IsChar0}
use Rattle.std.proofs.lemmas.List.{length-map}
use Rattle.exponentials.proofs.Units.{IsUnit, at, HasRoom, room_long, same_at_units}
use Rattle.solvable_maps.specs.Iterations.{width}
use Rattle.solvable_maps.proofs.Shifts.{IsHomomorphism}

module _ {A : Type 0} (N : Arithmetic A) where
  abbrev pub values : List (Terms A) → List A → List A
  values f s = map (λ p. value_at N p s) f

  abbrev pub iterations : List (Terms A) → ℕ → List A → List A
  iterations f zero s = s
  iterations f (suc n) s = values f (iterations f n s)

  pub iterations-first : (f : List (Terms A)) (n : ℕ) (s : List A)
      → iterations f (suc n) s ≡ iterations f n (values f s)
  iterations-first f zero s = refl
  iterations-first f (suc n) s = ap (values f) (iterations-first f n s)

  pub iterations-length : (f : List (Terms A)) (m : ℕ) → length f ≡ m → (n : ℕ) (s : List A)
      → length s ≡ m → length (iterations f n s) ≡ m
  iterations-length f m l zero s k = k
  iterations-length f m l (suc n) s k = length-map f (λ p. value_at N p (iterations f n s)) ∙ l

module _ {A : Type 0} (R : CommRing A) where
  pub value_kept : (w : ℕ) (s : List A) → IsHomomorphism (lists (operations R) w) (operations R)
      (λ p. value_at (operations R) p s)
  value_kept w s = record {
    at_one = value_at-constant R w R.one s;
    at_add = λ p q. value_at-append R p q s;
    at_mul = λ p q. value_at-times R p q s;
    at_neg = λ p. value_at-negate R p s;
  }

module _ {A : Type 0} (F : Field A) (bs : List ℕ) where
  abbrev R : CommRing A
  R = F.ring

  -- the point of a natural n
  abbrev pub natural : ℕ → List A → List A
  natural n xs = at bs xs (of_nat R n) (power (operations R) (R.neg R.one) n)
      (λ b. power (operations R) (of_nat R b) n) (λ b. power (operations R) (F.inverse (of_nat R b))
      n)

  pub at-length : (m : ℕ) (xs : List A) (a e : A) (f g : ℕ → A) → length xs ≡ m
      → length (at bs xs a e f g) ≡ width (length bs) m
  at-length m xs a e f g l = ap (λ z. suc (suc z)) (blocks f bs (map g bs ++ xs)
      ∙ ap (λ z. length bs + z) (blocks g bs xs ∙ ap (λ z. length bs + z) l))
    where
      blocks : (f : ℕ → A) (bs : List ℕ) (l : List A) → length (map f bs ++ l) ≡ length bs
          + length l
      blocks f [] l = omega arith
      blocks f (b ∷ bs) l = (let e : length (map f bs ++ l) ≡ length bs + length l =
          blocks f bs l in omega (arith, e))

  has_room : (m : ℕ) (ts : Terms A) → Arity (width (length bs) m) ts → HasRoom bs ts
  unfolding Each
  has_room m [] a = tt
  has_room m (t ∷ ts) a = (
    room_long bs t (let l : length t.0 ≡ width (length bs) m = a.0 in
        omega arith),
    has_room m ts a.1,
  )

  module _ (char : IsChar0 F) (c : Coprime bs) (m : ℕ) where
    pub same_at_unit_points : (p q : Terms A) → Arity (width (length bs) m) p
        → Arity (width (length bs) m) q → (xs : List A)
        → ((n : ℕ) → value_at (operations R) p (natural n xs) ≡ value_at (operations R) q
        (natural n xs))
        → (a e : A) (f g : ℕ → A) → IsUnit R bs xs e f g
        → value_at (operations R) p (at bs xs a e f g) ≡ value_at (operations R) q
        (at bs xs a e f g)
    unfolding evaluate
    same_at_unit_points p q k l xs h a e f g unit = same_at_units F char R (id_hom R) bs c xs p q
        (has_room m p k) (has_room m q l) h a e f g unit
