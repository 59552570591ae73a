-- The terms that were read, and the set of their exponents.
--   read_terms ts        the terms
--   HasSeen seen found   the set has the exponents of the terms found, and no others
--   HasRead m ts set     the terms have m exponents each and differ in them, and the set has theirs
use Rattle.std.specs.Prelude.{◌≡◌, ◌≢◌, ℕ, List, length, All, AllPairs}
use Rattle.std.specs.Ordering.{nat_cmp}
use Rattle.std.specs.declared.cmp.Ordering.{Ordering}
use Rattle.std.specs.Cmp.Lexicographic.{slice_cmp}
use Rattle.std.specs.Global.{Vec}
use Rattle.std.specs.BTreeSet.{BTreeSet, contains}
use Rattle.frac128.specs.declared.fraction.Frac.{Frac}
use Rattle.frac128.specs.FracMeaning.{fraction_of}
use Rattle.algebra.specs.Fraction.{Fraction}
use Rattle.polynomials.specs.Terms.{Terms}
use Rattle.poly.specs.declared.Term.{Term}
use Rattle.poly.specs.View.{terms_of}
use Rattle.poly_text.specs.Flat.{stands}

abbrev pub read_terms : List (Term Frac) → Terms Fraction
read_terms ts = terms_of fraction_of ts

abbrev pub exponents_cmp : Vec ℕ → Vec ℕ → Ordering
exponents_cmp d e = slice_cmp nat_cmp d.items e.items

pub record HasSeen (seen : BTreeSet (Vec ℕ)) (found : Terms Fraction) : Type 0 where
  pub at : (e : Vec ℕ) → contains exponents_cmp seen e ≡ stands found e.items

pub record HasRead (m : ℕ) (ts : List (Term Frac)) (set : BTreeSet (Vec ℕ)) : Type 0 where
  pub arities : All (λ (t : Term Frac). length t.mono ≡ m) ts
  pub distinct : AllPairs (λ (s : Term Frac) (t : Term Frac). s.mono ≢ t.mono) ts
  pub seen : HasSeen set (read_terms ts)
