-- What results mean.
--   gf_at             a result with this value means what the value leaves
--   sum_at, rest_at, product_at, opposite_at, quotient_at     results
--   not_zero          a value that is not zero
use Rattle.std.proofs.Common.{◌≡◌, ◌≢◌, ◌∙◌, ◌+◌, ◌-◌, ◌*◌, ◌%◌, ◌<◌, ℕ, ap, ap₂, sym}
use native.Mathlib.Nat as N
use Rattle.algebra.specs.Scalars.{Scalars}
use Rattle.algebra.specs.Residue.{Residue, residue, residues}
use Rattle.algebra.proofs.ResidueLaws.{same_residue, rest-residue}
use Rattle.gf65521.specs.declared.Gf.{Gf}
use Rattle.gf65521.specs.GfMeaning.{residue_of, residue_rest}

abbrev pub S : Scalars
S = residues 65521 tt

pub gf_at : (n : ℕ) (z : Gf) → z.value ≡ n % 65521 → residue_of z ≡ residue 65521 tt n
gf_at n z e = same_residue 65521 _ _ (residue_rest z ∙ e ∙ sym (rest-residue 65521 tt n))

pub sum_at : (x y z : Gf) → z.value ≡ (x.value + y.value) % 65521
    → residue_of z ≡ S.add (residue_of x) (residue_of y)
sum_at x y z e = gf_at _ z (e ∙ ap₂ (λ m n. (m + n) % 65521) (sym (residue_rest x))
    (sym (residue_rest y)))

pub product_at : (x y z : Gf) → z.value ≡ (x.value * y.value) % 65521
    → residue_of z ≡ S.mul (residue_of x) (residue_of y)
product_at x y z e = gf_at _ z (e ∙ ap₂ (λ m n. (m * n) % 65521) (sym (residue_rest x))
    (sym (residue_rest y)))

pub opposite_at : (x z : Gf) → z.value ≡ (65521 - x.value) % 65521
    → residue_of z ≡ S.neg (residue_of x)
opposite_at x z e = gf_at _ z (e ∙ ap (λ n. (65521 - n) % 65521) (sym (residue_rest x)))

pub rest_at : (x y z : Gf) → z.value ≡ (x.value + (65521 - y.value)) % 65521
    → residue_of z ≡ S.add (residue_of x) (S.neg (residue_of y))
rest_at x y z e = gf_at _ z
    (e ∙ sym (N.add-mod-mod x.value (65521 - y.value) 65521)
    ∙ ap₂ (λ m n. (m + n) % 65521) (sym (residue_rest x)) (ap (λ n. (65521 - n) % 65521)
    (sym (residue_rest y)) ∙ sym (rest-residue 65521 tt (65521 - (residue_of y).rest))))

pub quotient_at : (x y z : Gf) → (z.value * y.value) % 65521 ≡ x.value
    → S.mul (residue_of z) (residue_of y) ≡ residue_of x
quotient_at x y z e =
    sym (gf_at _ x (sym e ∙ ap₂ (λ m n. (m * n) % 65521) (sym (residue_rest z))
    (sym (residue_rest y))))

pub zero_value : (x : Gf) → residue_of x ≡ S.zero → x.value ≡ 0
zero_value x e = sym (residue_rest x) ∙ ap (λ (a : Residue 65521). a.rest) e
    ∙ rest-residue 65521 tt 0 ∙ N.zero-mod 65521

pub not_zero : (x : Gf) → residue_of x ≢ S.zero → 0 < x.value
not_zero x n = N.pos_of_ne-zero (λ e. n (gf_at 0 x (e ∙ sym (N.zero-mod 65521))))
