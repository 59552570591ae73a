-- The whole numbers in a commutative ring.
--   of_int R z     z times one
--   of_nat-add, of_nat-mul     of_nat keeps sums and products
--   of_int-add, of_int-mul, of_int-neg     of_int keeps sums, products and opposites
use Rattle.std.proofs.Common.{◌≡◌, ℕ, zero, suc, ◌+◌, ◌*◌, ℤ, pos, negsuc, ◌+ℤ◌, ◌*ℤ◌, neg_ℤ, refl, sym, ap, ap₂, ◌∙◌, arith}
use borrow.Author.Differences.{up, down, sum_is_lem}
use native.Mathlib.Nat as N
use Rattle.algebra.specs.Integers.{integer_in}
use Rattle.algebra.specs.Ring.{CommRing, operations, of_nat}
use Rattle.algebra.proofs.RingLaws as L

abbrev pub of_int : {A : Type 0} → CommRing A → ℤ → A
of_int R z = integer_in (operations R) z

module _ {A : Type 0} (R : CommRing A) where
  pub of_nat-add : (m n : ℕ) → of_nat R (m + n) ≡ R.add (of_nat R m) (of_nat R n)
  of_nat-add zero n = ap (of_nat R) (N.zero-add n) ∙ sym (L.zero-add R (of_nat R n))
  of_nat-add (suc m) n = ap (of_nat R) (N.suc-add m n) ∙ ap (R.add R.one) (of_nat-add m n)
      ∙ sym (R.add_assoc R.one (of_nat R m) (of_nat R n))

  pub of_nat-mul : (m n : ℕ) → of_nat R (m * n) ≡ R.mul (of_nat R m) (of_nat R n)
  of_nat-mul zero n = ap (of_nat R) (N.zero-mul n) ∙ sym (L.zero-mul R (of_nat R n))
  of_nat-mul (suc m) n =
      ap (of_nat R) (N.suc-mul m n) ∙ of_nat-add (m * n) n
      ∙ R.add_comm (of_nat R (m * n)) (of_nat R n)
      ∙ ap₂ R.add (sym (L.one-mul R (of_nat R n))) (of_nat-mul m n)
      ∙ sym (L.add-mul R R.one (of_nat R m) (of_nat R n))

  of_int-parts : (z : ℤ) → R.add (of_int R z) (of_nat R (down z)) ≡ of_nat R (up z)
  of_int-parts (pos n) = R.add-zero (of_nat R n)
  of_int-parts (negsuc n) = L.neg-add_self R (of_nat R (suc n))

  pub of_int-neg : (z : ℤ) → of_int R (neg_ℤ z) ≡ R.neg (of_int R z)
  of_int-neg (pos zero) = sym (L.neg-zero R)
  of_int-neg (pos (suc n)) = refl
  of_int-neg (negsuc n) = sym (L.neg-neg R (of_nat R (suc n)))

  pub of_int-mul : (a b : ℤ) → of_int R (a *ℤ b) ≡ R.mul (of_int R a) (of_int R b)
  of_int-mul (pos a) (pos b) = of_nat-mul a b
  of_int-mul (pos a) (negsuc b) = of_int-neg (pos (a * suc b)) ∙ ap R.neg (of_nat-mul a (suc b))
      ∙ sym (L.mul-neg R (of_nat R a) (of_nat R (suc b)))
  of_int-mul (negsuc a) (pos b) = of_int-neg (pos (suc a * b)) ∙ ap R.neg (of_nat-mul (suc a) b)
      ∙ sym (L.neg-mul R (of_nat R (suc a)) (of_nat R b))
  of_int-mul (negsuc a) (negsuc b) =
      let x = of_nat R (suc a) in
      let y = of_nat R (suc b) in
      of_nat-mul (suc a) (suc b) ∙ sym (L.neg-neg R (R.mul x y)) ∙ ap R.neg (sym (L.mul-neg R x y))
      ∙ sym (L.neg-mul R x (R.neg y))

  pub of_int-add : (a b : ℤ) → of_int R (a +ℤ b) ≡ R.add (of_int R a) (of_int R b)
  of_int-add a b =
      let s = a +ℤ b in
      let ia = of_int R a in
      let ib = of_int R b in
      let ds = of_nat R (down s) in
      let da = of_nat R (down a) in
      let db = of_nat R (down b) in
      let counts : down s + (up a + up b) ≡ (down a + down b) + up s =
      omega (arith, sum_is_lem a b) in
      -- (da + db) + (ds + (ia + ib)) = (da + db) + up s
      let whole : R.add (R.add da db) (R.add ds (R.add ia ib)) ≡ R.add (R.add da db)
      (of_nat R (up s)) =
      L.add_left_comm R (R.add da db) ds (R.add ia ib)
      ∙ ap (R.add ds) (R.add_comm (R.add da db) (R.add ia ib) ∙ L.add_swap R ia ib da db
      ∙ ap₂ R.add (of_int-parts a) (of_int-parts b) ∙ sym (of_nat-add (up a) (up b)))
      ∙ sym (of_nat-add (down s) (up a + up b)) ∙ ap (of_nat R) counts
      ∙ of_nat-add (down a + down b) (up s)
      ∙ ap (λ x. R.add x (of_nat R (up s))) (of_nat-add (down a) (down b)) in
      let parts : R.add ds (R.add ia ib) ≡ of_nat R (up s) =
      L.add_cancel R (R.add da db) (R.add ds (R.add ia ib)) (of_nat R (up s)) whole in
      L.add_cancel R ds (of_int R s) (R.add ia ib) (R.add_comm ds (of_int R s) ∙ of_int-parts s
      ∙ sym parts)
