-- The full certificate of a trace.
--   full_from basis steps forms d      what a trace has given, with a certificate and the forms of the branches
use Rattle.std.specs.Prelude.{List}
use Rattle.algebra.specs.Fraction.{Fraction}
use Rattle.polynomials.specs.Terms.{Terms}
use Rattle.corollaries.specs.Full.{FullCertificate, WrittenForm}
use Rattle.corollaries.specs.Trace.{Results}

abbrev pub full_from : List (Terms Fraction) → List (List (List (Terms Fraction)))
    → List WrittenForm → Results → FullCertificate
full_from basis steps forms d = record {
  basis = basis;
  steps = steps;
  forms = forms;
  start_out = d.start_out;
  start_links = d.start_links;
  rounds = d.rounds;
}
