-- What a judgement shows of the bytes of both files.
--   valid_shown        what a valid certificate lists holds, and so do the assertions that are told to
use Rattle.std.proofs.Common.{◌≡◌, ℕ, suc, ◌+◌, ◌<◌, ◌≤◌, Bool, true, List, [], ◌∷◌, length, refl, arith}
use Rattle.std.specs.Prelude.{Option, Some, None}
use Rattle.algebra.specs.Fraction.{Fraction, ℚ}
use Rattle.algebra.proofs.In.{each_in, in_get}
use Rattle.polynomials.specs.Terms.{value_at}
use Rattle.loops.specs.Program.{Expr}
use Rattle.flows.specs.Graph.{Transition, Graph}
use Rattle.flows.specs.Sides.{difference}
use Rattle.flows.specs.Code.{Code, IsSeen, points}
use Rattle.flows.specs.Certificate.{Certificate, IsValid, AreOver, family, element}
use Rattle.flows.specs.Same.{AreSameTransitions, IsSameGraph}
use Rattle.flows.specs.Chart as chart
use Rattle.flows.proofs.Programs.{graph_is}
use Rattle.flows.proofs.Held.{points_hold, sides_hold}
use Rattle.program_model.specs.Program.{Program, Comparison, Mark}
use Rattle.program_model.specs.Code.{code_of}
use Rattle.program_model.specs.Forming.{marks_of}
use Rattle.program_model.proofs.Composed.{length-marks_of}
use Rattle.program_checker.specs.Form.{RawCertificate}
use Rattle.program_checker.specs.ReadAs.{certificate_in}
use Rattle.checkproof_command.specs.Texts.{Finding, valid, judgement_answer}
use Rattle.checkproof_command.specs.Judging.{program_graph, IsListed, IsTold, AreFindings}
use Rattle.checkproof_command.specs.Headline.{IsQuestion, Holds, HoldsIfTold, HoldIfTold, ShowsProof}
use Rattle.checkproof_command.proofs.ReadOver.{read_over}
use Rattle.checkproof_command.proofs.SameReading.{itself}

all_alike : (ts : List Transition) → AreSameTransitions ts ts
unfolding AreSameTransitions
all_alike [] = tt
all_alike (t ∷ ts) = (itself t, all_alike ts)

alike : (G : Graph) → IsSameGraph G G
alike G = record { variables = refl; nodes = refl; transitions = all_alike G.transitions }

module _ (n : ℕ) (code : Code (Expr ℕ)) (c : Certificate) (over : AreOver (chart.graph n code) c)
    (is : IsValid (chart.graph n code) c) where
  seen_zero : (v i : ℕ) → 0 < v → v < suc (suc (points code)) → i < length (family c v)
      → (z : List Fraction) → IsSeen n code v z → value_at ℚ (element c v i) z ≡ ℚ.zero
  seen_zero v i o l k =
      each_in (λ p. (z : List Fraction) → IsSeen n code v z → value_at ℚ p z ≡ ℚ.zero)
      (family c v) (element c v i)
      (points_hold (chart.graph n code) (graph_is n code) c over is n code
      (alike (chart.graph n code)) v o l) (in_get (family c v) i [] k)

  listed_holds : (v : ℕ) → 0 < v → v < suc (suc (points code)) → (k : Comparison (Expr ℕ))
      → IsListed (family c v) (difference n k.left k.right) → Holds n code v k
  listed_holds v o l k h =
      sides_hold (chart.graph n code) (graph_is n code) c over is n code
      (alike (chart.graph n code)) v o l k.left k.right h.place h.within h.same

  told_holds : (v : ℕ) → 0 < v → v < suc (suc (points code)) → (o : Option (Comparison (Expr ℕ)))
      (b : Option Bool) → IsTold n c v o b → HoldsIfTold n code v o b
  told_holds v o l None b h = tt
  told_holds v o l (Some k) None h = absurd h
  told_holds v o l (Some k) (Some b) h = λ e.
      listed_holds v o l k (h.0 (let x : Some b ≡ Some true = e in let y : b ≡ true = cc in y))

  all_hold : (v : ℕ) (ms : List (Mark (Expr ℕ))) (fs : List Finding) → 0 < v
      → v + length ms ≤ suc (points code) → AreFindings n c v ms fs → HoldIfTold n code v ms fs
  all_hold v [] fs o l h = tt
  all_hold v (m ∷ ms) [] o l h = tt
  all_hold v (m ∷ ms) (f ∷ fs) o l h = (
    told_holds v o (omega (arith, l)) m.asserted f.listed h.0.is_told,
    all_hold (suc v) ms fs (omega (arith, o)) (omega (arith, l)) h.1,
  )

pub valid_shown : (text certificate said : List ℕ) (p : Program (Expr ℕ)) (raw : RawCertificate)
    → IsQuestion text certificate p raw
    → IsValid (program_graph p) (certificate_in raw)
    → (fs : List Finding)
    → AreFindings (length p.names) (certificate_in raw) 1 (marks_of p.statements) fs
    → said ≡ (judgement_answer text (valid fs)).text → ShowsProof text certificate said
valid_shown text certificate said p raw question is fs found says =
    let n = length p.names in
    let code = code_of p.statements in
    let over : AreOver (program_graph p) (certificate_in raw) =
    read_over p.names (program_graph p) refl certificate raw question.is_certificate in
    let m = length-marks_of p.statements in
    record {
      program = p;
      raw = raw;
      question = question;
      identities = is;
      equations = seen_zero n code (certificate_in raw) over is;
      findings = fs;
      are_found = found;
      assertions = all_hold n code (certificate_in raw) over is 1 (marks_of p.statements) fs
          (omega arith) (omega (arith, m)) found;
      says = says;
    }
