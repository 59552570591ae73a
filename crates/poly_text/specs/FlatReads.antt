-- What the functions that read flat polynomials say.
--   state_of c                     the state in the context c
--   at_power c names e i           so, over the names, with the exponents e and the place i
--   divided_by c d                 so, with the denominator d
--   behind_item names found negative i     the state behind the item i, or its first part, before which the terms found were read
--   term_with negative i           the term of the item i
--   polynomial_told r              the terms that r has, or none where the text is refused; nothing where memory failed
use Rattle.std.specs.Prelude.{ℕ, Bool, List, Option, Some, None, Result, Ok, Err, option_map}
use Rattle.std.specs.Global.{Vec}
use Rattle.algebra.specs.Fraction.{Fraction}
use Rattle.polynomials.specs.Terms.{Terms}
use Rattle.frac128.specs.declared.fraction.Frac.{Frac}
use Rattle.poly.specs.declared.Term.{Term}
use Rattle.poly_text.specs.Faults.{fault_of}
use Rattle.poly_text.specs.declared.error.TextError.{TextError}
use Rattle.poly_text.specs.Flat.{FlatContext, FlatState, signed_over, at_item}
use Rattle.poly_text.specs.Seen.{read_terms}
use Rattle.poly_text.specs.declared.item.Item.{Item}

abbrev pub state_of : FlatContext → FlatState
state_of c = record { context = c; value = tt }

abbrev pub at_power : FlatContext → List (List ℕ) → List ℕ → ℕ → FlatState
at_power c names e i = state_of (record c { names = names; exponents = e; place = i })

abbrev pub divided_by : FlatContext → ℕ → FlatState
divided_by c d = state_of (record c { denominator = d })

abbrev pub behind_item : List (List ℕ) → Terms Fraction → Bool → Item → FlatState
behind_item names found negative i = state_of (record (at_item names found negative) {
  numerator = i.numerator;
  denominator = i.denominator;
  exponents = i.exponents.items;
})

abbrev pub term_with : Bool → Item → List ℕ × Fraction
term_with negative i = (i.exponents.items, signed_over negative i.numerator i.denominator)

abbrev pub polynomial_told : Result (Vec (Term Frac)) TextError → Option (Option (Terms Fraction))
polynomial_told (Ok ts) = Some (Some (read_terms ts.items))
polynomial_told (Err e) = option_map (λ f. None) (fault_of e)
