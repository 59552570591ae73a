use Rattle.std.proofs.Common.{◌++◌, string_bytes, length}
use Rattle.frac128.specs.FracMeaning.{fraction_of}
use Rattle.poly.specs.View.{terms_of}
use Rattle.poly_text.specs.Printed.{later_text}
use Rattle.poly_text.proofs.PrintedTerms.{TermsGoOn}
use Rattle.poly_text.proofs.printing.push_later.Given as goal

abbrev pub invariant-loop-term : goal.invariant-loop-term
invariant-loop-term l =
    TermsGoOn l.names l.terms l.rest (string_bytes l.text) (string_bytes l.fn.text
    ++ later_text l.names (terms_of fraction_of l.terms))

abbrev pub decreases-loop-term : goal.decreases-loop-term
decreases-loop-term l = length l.rest
