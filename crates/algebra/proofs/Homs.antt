-- Homomorphisms of commutative rings.
--   id_hom R          what leaves each element as it is
--   then_hom φ ψ      φ, and then ψ
--   to-zero, to-neg, to-power     a homomorphism keeps zero, opposites and powers
use Rattle.std.proofs.Common.{◌≡◌, ℕ, zero, suc, refl, sym, ap, ◌∙◌}
use Rattle.algebra.specs.Ring.{operations, CommRing, Hom}
use Rattle.algebra.specs.Arithmetic.{power}
use Rattle.algebra.proofs.RingLaws.{add_cancel, neg_unique, power-zero, power-suc}

module _ {A B : Type 0} {R : CommRing A} {S : CommRing B} (φ : Hom R S) where
  pub to-zero : φ.to R.zero ≡ S.zero
  to-zero = add_cancel S (φ.to R.zero) _ _ (sym (φ.to-add R.zero R.zero)
      ∙ ap φ.to (R.add-zero R.zero) ∙ sym (S.add-zero _))

  pub to-neg : (a : A) → φ.to (R.neg a) ≡ S.neg (φ.to a)
  to-neg a = neg_unique S (φ.to a) _ (sym (φ.to-add a (R.neg a)) ∙ ap φ.to (R.add-neg a) ∙ to-zero)

abbrev pub id_hom : {A : Type 0} (R : CommRing A) → Hom R R
id_hom R = record { to = λ a. a; to-add = λ a b. refl; to-mul = λ a b. refl; to-one = refl }

abbrev pub then_hom : {A B C : Type 0} {R : CommRing A} {S : CommRing B} {T : CommRing C} → Hom R S
    → Hom S T → Hom R T
then_hom φ ψ = record {
  to = λ a. ψ.to (φ.to a);
  to-add = λ a b. ap ψ.to (φ.to-add a b) ∙ ψ.to-add _ _;
  to-mul = λ a b. ap ψ.to (φ.to-mul a b) ∙ ψ.to-mul _ _;
  to-one = ap ψ.to φ.to-one ∙ ψ.to-one;
}

module _ {A B : Type 0} {R : CommRing A} {S : CommRing B} (φ : Hom R S) where
  pub to-power : (x : A) (n : ℕ) → φ.to (power (operations R) x n) ≡ power (operations S) (φ.to x) n
  to-power x zero = simp (power-zero, φ.to-one)
  to-power x (suc n) = simp (power-suc, φ.to-mul, to-power x n)
