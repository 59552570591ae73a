use Rattle.std.proofs.Common.{◌≡◌, ◌++◌, ℕ, List, take, length, All}
use Rattle.frac128.specs.FracMeaning.{fraction_of}
use Rattle.poly.specs.View.{terms_of}
use Rattle.program_families.specs.RestRows.{monomials_in, IsSetOf}
use Rattle.program_families.proofs.rows.put_all.Given as goal

abbrev pub invariant-loop-term : goal.invariant-loop-term
invariant-loop-term l = record {
  long : All (λ m. length m ≡ l.polynomial.arity) l.monomials.items;
  set : (ms : List (List ℕ)) → IsSetOf ms l.fn.monomials.items
      → IsSetOf (ms ++ monomials_in (terms_of fraction_of (take l.term-index
      l.polynomial.terms.items))) l.monomials.items;
}
