-- The exponents of n, s, u, v and the variables, where the base has r numbers, and polynomials term by term.
--   normal_exponents r e     e with s s and the u v left out
--   inverse_form_exponents r e     e with u and v exchanged
use Rattle.std.specs.Prelude.{ℕ, List}
use Rattle.exponentials.specs.Keys.{key_of, normal_key, top}
use Rattle.solvable_maps.specs.Expo.{tail, with_key}

abbrev pub normal_exponents : ℕ → List ℕ → List ℕ
normal_exponents r e = with_key (top e) (normal_key r e) (tail r e)

abbrev pub inverse_form_exponents : ℕ → List ℕ → List ℕ
inverse_form_exponents r e = let x = key_of r e in with_key (top e) (x.0, x.2, x.1) (tail r e)
