-- Scalars as a field.
--   is_field S r f z     scalars with the laws of a ring, inverses and a test for zero are a field by how they are computed with
use Rattle.std.proofs.Common.{◌≡◌, ◌↔◌, true, refl}
use Rattle.algebra.specs.Ring.{IsRing, IsFieldOf}
use Rattle.algebra.specs.FieldArithmetic.{IsField}
use Rattle.algebra.specs.Scalars.{Scalars, field}

pub is_field : (S : Scalars) → IsRing S.arithmetic → IsFieldOf S.arithmetic S.inverse
    → ((a : S.Elem) → (S.is_zero a ≡ true) ↔ (a ≡ S.zero)) → IsField (field S)
is_field S r f z = record {
  laws = r;
  inverses = f;
  is_zero_true = λ a. (z a).0;
  is_zero-zero = (z S.zero).1 refl;
}
