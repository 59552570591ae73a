use Rattle.std.proofs.Common.{◌≡◌, take}
use Rattle.solvable_maps.specs.Expo.{inverse_form_terms}
use Rattle.frac128.specs.FracMeaning.{fraction_of}
use Rattle.poly.specs.View.{terms_of}
use Rattle.expo.proofs.operations.terms_inverse_form.Given as goal

abbrev pub invariant-loop-term : goal.invariant-loop-term
invariant-loop-term l = terms_of fraction_of l.out.items ≡ inverse_form_terms l.count
    (terms_of fraction_of (take l.term-index l.terms))
