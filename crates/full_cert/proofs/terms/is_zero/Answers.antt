use Rattle.std.proofs.Common.{◌≡◌, Bool, true, false, refl, sym}
use Rattle.std.specs.Prelude.{◌↔◌, IsTrue}
use Rattle.algebra.proofs.Fractions.{zero_is}
use Rattle.frac128.specs.FracMeaning.{fraction_of}
use Rattle.full_cert.proofs.terms.is_zero.Goals as goal

same_tests : {P : Type 0} (b c : Bool) → (IsTrue b ↔ P) → ((c ≡ true) ↔ P) → b ≡ c
same_tests true c f g = sym (g.1 (f.0 refl))
same_tests false true f g = let q : false ≡ true = f.1 (g.0 refl) in absurd (cc)
same_tests false false f g = refl

pub returns : goal.returns
returns c = same_tests c.is_zero.result _ c.is_zero.ensures (zero_is (fraction_of c.args.coef.now))
