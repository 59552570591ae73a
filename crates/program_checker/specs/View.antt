-- What the code's graphs and certificates are seen as.
--   pairs_of row, rows_of rows        rows of cofactors at their positions
--   list_at c v                       the list of the node v
--   certificate_of c                  the certificate;  verdict_of v: its verdict
use Rattle.std.specs.Prelude.{List, [], map, Vec}
use Rattle.std.specs.declared.alloc.Global.{Global}
use Rattle.algebra.specs.Fraction.{Fraction}
use Rattle.polynomials.specs.Terms.{Terms}
use Rattle.cert_form.specs.Cert.{polys_in}
use Rattle.flows.specs.Certificate as certificate
use Rattle.program_checker.specs.Rows.{PairRow, row_of}
use Rattle.program_checker.specs.declared.cert.Row.{Row}
use Rattle.program_checker.specs.declared.cert.ProgramCert.{ProgramCert}

abbrev pub pairs_of : Row → PairRow
pairs_of row = record { positions = row.positions.items; cofactors = polys_in row.cofactors }

abbrev pub rows_of : Vec Row Global → List PairRow
rows_of rows = map pairs_of rows.items

abbrev pub no_row : PairRow
no_row = record { positions = []; cofactors = [] }

abbrev pub lists_of : ProgramCert → List (List (Terms Fraction))
lists_of c = map polys_in c.lists.items

abbrev pub pair_steps : ProgramCert → List (List PairRow)
pair_steps c = map rows_of c.steps.items

abbrev pub certificate_of : ProgramCert → certificate.Certificate
certificate_of c = record { lists = lists_of c; steps = map (map row_of) (pair_steps c) }
