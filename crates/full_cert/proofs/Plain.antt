-- What is written has no float, and nests less deep than what is read.
--   plain        a full certificate's document
use Rattle.std.proofs.Common.{ℕ, List, arith}
use Rattle.std.specs.Prelude.{Option, Some, None}
use Rattle.serde_json.specs.Data.{string}
use Rattle.serde_json.specs.Read.{max_depth}
use Rattle.algebra.specs.Fraction.{Fraction}
use Rattle.polynomials.specs.Terms.{Terms}
use Rattle.cert_form.proofs.Plain.{IsPlain, none, more, whole, each_plain}
use Rattle.full_cert.specs.RawWritten.{exponent_data, term_data, raw_data}
use Rattle.corollaries.specs.Stage.{Stage}
use Rattle.corollaries.specs.Full.{FullCertificate, WrittenForm}
use Rattle.full_cert.specs.PartsForm.{Start}
use Rattle.full_cert.specs.Written.{raws_data, rows_data, base_number_data, form_data, start_data, stage_data, branch_data, with_meet, round_data, full_data}

term_plain : (t : List ℕ × Fraction) → IsPlain 2 (term_data t)
term_plain t = whole (more 1 (none 0) (omega arith)
    (more 1 (each_plain exponent_data 0 (λ n. none 0) t.0) (omega arith) (none 1)))

raws_plain : (ps : List (Terms Fraction)) → IsPlain 4 (raws_data ps)
raws_plain ps = each_plain raw_data 3 (λ p. each_plain term_data 2 term_plain p) ps

rows_plain : (rows : List (List (Terms Fraction))) → IsPlain 5 (rows_data rows)
rows_plain rows = each_plain raws_data 4 raws_plain rows

form_plain : (f : WrittenForm) → IsPlain 5 (form_data f)
form_plain f = whole
    (more 4 (each_plain base_number_data 0 (λ n. none 0) f.base) (omega arith)
    (more 4 (raws_plain f.polys) (omega arith) (none 4)))

start_plain : (s : Start) → IsPlain 6 (start_data s)
start_plain s = whole (more 5 (rows_plain s.1) (omega arith)
    (more 5 (raws_plain s.0) (omega arith) (none 5)))

stage_plain : (s : Stage) → IsPlain 6 (stage_data s)
stage_plain s = whole (more 5 (rows_plain s.gens) (omega arith)
    (more 5 (rows_plain s.links) (omega arith)
    (more 5 (raws_plain s.list) (omega arith)
    (more 5 (raws_plain s.out) (omega arith)
    (more 5 (rows_plain s.pairs) (omega arith) (none 5))))))

branch_plain : (o : Option Stage) (s : Stage) → IsPlain 7 (with_meet o (stage_data s))
branch_plain None s = whole (more 6 (stage_plain s) (omega arith) (none 6))
branch_plain (Some t) s = whole (more 6 (stage_plain t) (omega arith)
    (more 6 (stage_plain s) (omega arith) (none 6)))

pub plain : (names : List (List ℕ)) (c : FullCertificate) → IsPlain max_depth (full_data names c)
plain names c = whole (more 126 (raws_plain c.basis) (omega arith)
    (more 126 (each_plain form_data 5 form_plain c.forms) (omega arith)
    (more 126 (none 0) (omega arith)
    (more 126 (each_plain round_data 8 (λ row. each_plain branch_data 7
    (λ b. branch_plain b.meet_stage b.orbit_stage) row) c.rounds) (omega arith)
    (more 126 (start_plain (c.start_out, c.start_links)) (omega arith)
    (more 126 (each_plain rows_data 5 rows_plain c.steps) (omega arith)
    (more 126 (each_plain string 0 (λ x. none 0) names) (omega arith)
    (more 126 (none 0) (omega arith) (none 126)))))))))
