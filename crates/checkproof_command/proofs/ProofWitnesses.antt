-- A program and a certificate that meet at once what the clause on validity asks for: `vars x;`, and a certificate that lists nothing.
--   idle, idle_bytes, idle_raw     the program, the bytes of the certificate, and what they are
--   idle_free                      forming its transitions passes no limit
--   idle_read                      the bytes are a certificate of it
--   none_long                      no identity of a certificate that lists nothing is too long;  idle_short: so of this one
--   idle_valid                     it is valid
use Rattle.std.proofs.Common.{◌≡◌, ℕ, zero, suc, List, [], ◌∷◌, length, Ok, refl, ap, ◌∙◌, arith}
use Rattle.std.specs.Prelude.{codes}
use Rattle.std.specs.Str.{is_utf8, chars}
use Rattle.json.specs.Json.{value}
use Rattle.json.specs.Lex.{punctuate, lex}
use Rattle.json.specs.Text.{content}
use Rattle.json.specs.Word.{word, after_number}
use Rattle.serde_json.specs.Read.{number_of}
use lib.Utf8.{encode}
use Rattle.std.specs.Float.Numeral.{scan_numeral}
use Rattle.std.proofs.lemmas.List.Elements.{All-nil, All-cons}
use Rattle.algebra.specs.Fraction.{ℚ}
use Rattle.polynomials.proofs.Same.{AllSame-length}
use Rattle.loops.specs.Program.{Expr}
use Rattle.flows.specs.Chart as chart
use Rattle.flows.specs.Code.{points}
use Rattle.flows.specs.Certificate.{IsValid, family, transition_at}
use Rattle.program_model.specs.Program.{Program, empty}
use Rattle.program_model.specs.Code.{code_behind}
use Rattle.program_model.specs.Events.{AreFree, IsPastLimit, counts}
use Rattle.program_model.specs.Forming.{most_transitions, block_events, closings, program_events}
use Rattle.program_model.specs.GraphView.{graph_of}
use Rattle.program_checker.specs.Form.{RawCertificate, cert_in}
use Rattle.program_checker.specs.ReadAs.{certificate_in}
use Rattle.checkproof_command.specs.Judging.{program_graph, reading, IsShort}

abbrev pub idle : Program (Expr ℕ)
idle = record { names = codes "x" ∷ []; statements = empty; end = 7 }

abbrev pub idle_bytes : List ℕ
idle_bytes =
    codes "{\"kind\":\"program\",\"lists\":[[]],\"steps\":[[]],\"vars\":[\"x\"],\"version\":1}"

abbrev pub idle_raw : RawCertificate
idle_raw = record { lists = [] ∷ []; steps = [] ∷ [] }

few : ¬ (IsPastLimit (counts 7 1 most_transitions))
unfolding IsPastLimit
few h = omega (arith, h)

pub idle_free : AreFree (program_events idle)
unfolding block_events closings code_behind chart.exits chart.edges
idle_free = All-cons (λ e. ¬ (IsPastLimit e)) (counts 7 1 most_transitions) [] few
    (All-nil (λ e. ¬ (IsPastLimit e)))

pub idle_read : reading idle idle_bytes ≡ Ok idle_raw
unfolding cert_in code_behind chart.exits chart.edges points is_utf8 chars encode value punctuate
    lex content word after_number number_of scan_numeral
idle_read = refl

-- ---- a certificate that lists nothing
module _ (p : Program (Expr ℕ)) (raw : RawCertificate)
    (none : (v : ℕ) → family (certificate_in raw) v ≡ []) where
  pub none_long : IsShort p raw
  none_long j i h =
      let v = (transition_at (graph_of h.graph) j).to in
      let within = h.long.long.within in
      let e = AllSame-length ℚ _ _ (h.kept.certificate.same.lists v) ∙ ap length (none v) in
      omega (arith, within, e)

nothing : (v : ℕ) → family (certificate_in idle_raw) v ≡ []
nothing zero = refl
nothing (suc zero) = refl
nothing (suc (suc v)) = refl

pub idle_short : IsShort idle idle_raw
idle_short = none_long idle idle_raw nothing

pub idle_valid : IsValid (program_graph idle) (certificate_in idle_raw)
idle_valid = record {
  start = refl;
  steps = λ j i l k.
      absurd (let e = ap length (nothing (transition_at (program_graph idle) j).to) in
      omega (arith, k, e));
}
