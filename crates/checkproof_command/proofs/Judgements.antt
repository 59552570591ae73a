-- What is said of the bytes of CERT.
--   Formed p g             g is the graph of the program, with its points, and forming it passed no limit
--   formed, read_so        by the clauses of the functions that form it, and that read CERT
--   forming_said           what stops the forming is said;  fault_said: a fault of CERT
--   can_be_found           what the points' findings need
--   valid_said, fails_said, stopped_said     a verdict is said, and what stopped the checker
use Rattle.std.proofs.Common.{◌≡◌, ℕ, suc, ◌<◌, Bool, List, [], ◌∷◌, ◌++◌, length, get_or, refl, sym, subst, ◌∙◌, arith, Ok, Err}
use Rattle.std.specs.Prelude.{All, IfSome, Option, Some, None, option_map, codes}
use Rattle.std.proofs.lemmas.List.Elements.{All-nil, All-cons}
use Rattle.algebra.specs.Fraction.{Fraction, ℚ}
use Rattle.polynomials.specs.Terms.{Terms, Same, AllSame}
use Rattle.polynomials.proofs.Same.{Same-sym, Same-trans, AllSame-sym, AllSame-at, AllSame-length}
use Rattle.loops.specs.Program.{Expr}
use Rattle.flows.specs.Chart as chart
use Rattle.flows.specs.Sides.{difference}
use Rattle.flows.specs.Graph.{IsGraph}
use Rattle.flows.specs.Certificate.{Certificate, Verdict, valid, step_fails, IsVerdict, AreOver, family}
use Rattle.flows.specs.Same.{IsSameGraph}
use Rattle.flows.proofs.Programs.{graph_is}
use Rattle.flows.proofs.SameVerdict.{same_over, same_verdict, across_verdict}
use Rattle.poly.specs.Seen.{terms_in}
use Rattle.loop_model.specs.FracPoly.{FracPoly}
use Rattle.loop_model.specs.declared.map_error.MapError.{MapError}
use Rattle.loop_model.specs.declared.map_error.MapError.TheVariants as map_error
use Rattle.cert_form.specs.Form as form
use Rattle.cert_form.specs.Faults.{IfFault, IsRead}
use Rattle.cert_form.specs.declared.error.CertError.{CertError}
use Rattle.cert_form.specs.declared.error.CertError.TheVariants as cert_error
use Rattle.program_model.specs.Program.{Program, Comparison, Mark}
use Rattle.program_model.specs.Code.{code_of}
use Rattle.program_model.specs.Events.{AreFree, Stops}
use Rattle.program_model.specs.Forming.{marks_of, program_events}
use Rattle.program_model.specs.Fronts.{AreEdges}
use Rattle.program_model.specs.Points.{IsGoal, ArePoints}
use Rattle.program_model.specs.Graphs.{IsGraphOf}
use Rattle.program_model.specs.GraphView.{graph_of}
use Rattle.program_model.specs.declared.graph.Point.{Point}
use Rattle.program_model.specs.declared.graph.Graph.{Graph}
use Rattle.program_model.proofs.Composed.{length-marks_of}
use Rattle.program_model.proofs.Pointed.{points_length}
use Rattle.program_checker.specs.Form.{RawCertificate, cert_in}
use Rattle.program_checker.specs.ReadAs.{certificate_in, IsCertOf}
use Rattle.program_checker.specs.Refusals.{IfUnjudged}
use Rattle.program_checker.specs.View.{certificate_of, lists_of}
use Rattle.program_checker.specs.declared.cert.ProgramCert.{ProgramCert}
use Rattle.program_checker.specs.declared.error.CheckError.{CheckError}
use Rattle.program_checker.specs.declared.error.CheckError.TheVariants as check_error
use Rattle.program_checker.proofs.Over.{graph_stands, fits_over}
use Rattle.io_edge.specs.declared.answer.Status.TheVariants as status
use Rattle.io_edge.specs.Texts.{Answer, answer}
use Rattle.command_parts.specs.FaultTexts.{map_refusal}
use Rattle.checkproof_command.specs.Sources.{Source}
use Rattle.checkproof_command.specs.Texts as texts
use Rattle.checkproof_command.specs.Texts.{Finding, Judgement, step_path, certificate_refusal, judgement_answer}
use Rattle.checkproof_command.specs.Judging.{program_graph, reading, IsKept, IsListed, IsTold, AreFindings, IsJudgement, Judges}
use Rattle.checkproof_command.specs.Found.{HasGoalOver, CanBeFound, IsSaid, AreFound, IsAnswerOf}
use Rattle.checkproof_command.specs.Views.{fault_of, refusal_of}
use Rattle.checkproof_command.proofs.SameReading.{same_reading}
use Rattle.checkproof_command.proofs.ReadOver.{read_over}

pub record Formed (p : Program (Expr ℕ)) (g : Graph) : Type 0 where
  pub graph : IsGraphOf g
  pub same : IsSameGraph (graph_of g) (program_graph p)
  pub edges : AreEdges (length p.names) (chart.all_edges (code_of p.statements)) g.transitions.items
  pub points : ArePoints (length p.names) (marks_of p.statements) g.points.items
  pub free : AreFree (program_events p)

pub formed : (p : Program (Expr ℕ)) (g : Graph) → IsGraphOf g
    → IsSameGraph (graph_of g) (program_graph p)
    → AreEdges (length p.names) (chart.all_edges (code_of p.statements)) g.transitions.items
    → ArePoints (length p.names) (marks_of p.statements) g.points.items
    → AreFree (program_events p) → Formed p g
formed p g graph same edges points free =
    record { graph = graph; same = same; edges = edges; points = points; free = free }

-- a certificate that was read over the names of the program
pub read_so : (p : Program (Expr ℕ)) (g : Graph) (c : ProgramCert) (bytes : List ℕ)
    (names : List (List ℕ)) → names ≡ p.names
    → IsRead (IsCertOf g) c (cert_in names (graph_of g) bytes)
    → IsRead (IsCertOf g) c (cert_in p.names (graph_of g) bytes)
read_so p g c bytes names same read =
    subst (λ ns. IsRead (IsCertOf g) c (cert_in ns (graph_of g) bytes)) same read

said : (s : Source) (bytes : List ℕ) (a : Answer) (j : Judgement) → IsJudgement s.program bytes j
    → Some (judgement_answer s.text j) ≡ Some a → Judges s bytes a
said s bytes a j is says = record { judgement = j; is = is; says = sym (go says) }
  where
    go : Some (judgement_answer s.text j) ≡ Some a → judgement_answer s.text j ≡ a
    go e = cc

pub forming_said : (s : Source) (bytes : List ℕ) (a : Answer) (e : MapError)
    → Stops (program_events s.program) e → map_refusal (codes "program: ") e ≡ Some a
    → Judges s bytes a
forming_said s bytes a (map_error.Limit at) cause says =
    said s bytes a (texts.forming_limit at) cause says
forming_said s bytes a (map_error.Wide at) cause says =
    said s bytes a (texts.forming_wide at) cause says
forming_said s bytes a map_error.Memory cause says = absurd (cc)

-- ---- findings
listed_along : (ps qs : List (Terms Fraction)) (x y : Terms Fraction) → AllSame ℚ ps qs
    → Same ℚ x y → IsListed ps x → IsListed qs y
listed_along ps qs x y s e h = record {
  place = h.place;
  within = subst (λ n. h.place < n) (AllSame-length ℚ ps qs s) h.within;
  same = Same-trans ℚ (Same-sym ℚ (AllSame-at ℚ ps qs s h.place)) (Same-trans ℚ h.same e);
}

module _ (n : ℕ) (c : Certificate) (v : ℕ) (ps : List (Terms Fraction))
    (s : AllSame ℚ ps (family c v)) where
  told_along : (o : Option (Comparison (Expr ℕ))) (q : Option FracPoly) (b : Option Bool)
      → IsGoal n o q → IsSaid ps q b → IsTold n c v o b
  told_along None None None g h = tt
  told_along None None (Some b) g h = absurd h
  told_along None (Some q) b g h = absurd g
  told_along (Some k) None b g h = absurd g
  told_along (Some k) (Some q) None g h = absurd h
  told_along (Some k) (Some q) (Some b) g h = (
    (λ t. listed_along ps (family c v) (terms_in q) (difference n k.left k.right) s g.same (h.0 t)),
    (λ l. h.1 (listed_along (family c v) ps (difference n k.left k.right) (terms_in q)
        (AllSame-sym ℚ ps (family c v) s) (Same-sym ℚ g.same) l)),
  )

findings_along : (n : ℕ) (lists : List (List (Terms Fraction))) (c : Certificate)
    → ((v : ℕ) → AllSame ℚ (get_or lists v []) (family c v))
    → (v : ℕ) (ms : List (Mark (Expr ℕ))) (ps : List Point) (fs : List Finding)
    → ArePoints n ms ps → AreFound lists v ps fs → AreFindings n c v ms fs
findings_along n lists c s v [] [] [] p h = tt
findings_along n lists c s v [] [] (f ∷ fs) p h = absurd h
findings_along n lists c s v [] (q ∷ ps) fs p h = absurd p
findings_along n lists c s v (m ∷ ms) [] fs p h = absurd p
findings_along n lists c s v (m ∷ ms) (q ∷ ps) [] p h = absurd h
findings_along n lists c s v (m ∷ ms) (q ∷ ps) (f ∷ fs) p h = (
  record {
    at = h.0.at ∙ p.0.at;
    is_told = told_along n c v (get_or lists v []) (s v) m.asserted q.goal f.listed p.0.goal
        h.0.is_said;
  },
  findings_along n lists c s (suc v) ms ps fs p.1 h.1,
)

goal_over : (n : ℕ) (o : Option (Comparison (Expr ℕ))) (p : Point) (q : Option FracPoly)
    → p.goal ≡ q → IsGoal n o q → HasGoalOver n p
goal_over n o p None e g = subst (λ x. IfSome x (λ g. g.arity ≡ n)) (sym e) tt
goal_over n None p (Some q) e g = absurd g
goal_over n (Some k) p (Some q) e g = subst (λ x. IfSome x (λ g. g.arity ≡ n)) (sym e) g.arity

goals_over : (n : ℕ) (ms : List (Mark (Expr ℕ))) (ps : List Point) → ArePoints n ms ps
    → All (HasGoalOver n) ps
goals_over n [] [] h = All-nil (HasGoalOver n)
goals_over n [] (p ∷ ps) h = absurd h
goals_over n (m ∷ ms) [] h = absurd h
goals_over n (m ∷ ms) (p ∷ ps) h =
    All-cons (HasGoalOver n) p ps (goal_over n m.asserted p p.goal refl h.0.goal)
    (goals_over n ms ps h.1)

-- ---- judgements of a program's graph
module _ (s : Source) (bytes : List ℕ) (g : Graph) (f : Formed s.program g) where
  abbrev p : Program (Expr ℕ)
  p = s.program

  abbrev n : ℕ
  n = length p.names

  over_graph : reading p bytes ≡ cert_in p.names (graph_of g) bytes
  over_graph = sym (same_reading p.names (graph_of g) (program_graph p) f.same bytes)

  pub fault_said : (a : Answer) (e : CertError)
      → IfFault e (λ x. cert_in p.names (graph_of g) bytes ≡ Err x)
      → option_map certificate_refusal (fault_of e) ≡ Some a → Judges s bytes a
  fault_said a cert_error.NotJson h says =
      said s bytes a (texts.certificate_fault form.not_json) (f.free, over_graph ∙ h) says
  fault_said a (cert_error.Shape path) h says =
      said s bytes a (texts.certificate_fault _) (f.free, over_graph ∙ h) says
  fault_said a (cert_error.Poly path) h says =
      said s bytes a (texts.certificate_fault _) (f.free, over_graph ∙ h) says
  fault_said a cert_error.Memory h says = absurd (cc)

  module _ (c : ProgramCert) (read : IsRead (IsCertOf g) c (cert_in p.names (graph_of g) bytes))
    where
      abbrev raw : RawCertificate
      raw = read.raw

      reads : reading p bytes ≡ Ok raw
      reads = over_graph ∙ read.is

      kept : IsKept p raw g c
      kept = record { graph = f.graph; same = f.same; edges = f.edges; certificate = read.alike }

      formed_graph : IsGraph (graph_of g)
      formed_graph = graph_stands g f.graph

      code_graph : IsGraph (program_graph p)
      code_graph = graph_is n (code_of p.statements)

      cert_over : AreOver (graph_of g) (certificate_of c)
      cert_over = fits_over g c f.graph read.alike.fits

      verdict_along : (v : Verdict) → IsVerdict (graph_of g) (certificate_of c) v
          → IsVerdict (program_graph p) (certificate_in raw) v
      verdict_along v h =
          same_verdict (program_graph p) code_graph (certificate_of c) (certificate_in raw)
          (same_over (graph_of g) (program_graph p) formed_graph code_graph f.same
          (certificate_of c) cert_over)
          (read_over p.names (program_graph p) refl bytes raw reads) read.alike.same v
          (across_verdict (graph_of g) (program_graph p) formed_graph code_graph f.same
          (certificate_of c) cert_over v h)

      pub can_be_found : CanBeFound g c
      can_be_found =
          let m = points_length n (marks_of p.statements) g.points.items f.points in
          let k = length-marks_of p.statements in
          let e = f.same.nodes in
          let l = read.alike.fits.nodes in
          record {
            count = omega (arith, m, k, e, l);
            lists = read.alike.fits.lists;
            goals = subst (λ k. All (HasGoalOver k) g.points.items) (sym f.same.variables)
                (goals_over n (marks_of p.statements) g.points.items f.points);
          }

      pub valid_said : (a : Answer) → IsVerdict (graph_of g) (certificate_of c) valid
          → IsAnswerOf s.text (lists_of c) g.points.items a → Judges s bytes a
      valid_said a h found = record {
        judgement = texts.valid found.findings;
        is = record {
          free = f.free;
          raw = raw;
          is = reads;
          holds = (
            verdict_along valid h,
            findings_along n (lists_of c) (certificate_in raw) read.alike.same.lists 1
                (marks_of p.statements) g.points.items found.findings f.points found.are_found,
          );
        };
        says = found.says;
      }

      pub fails_said : (a : Answer) (j i : ℕ)
          → IsVerdict (graph_of g) (certificate_of c) (step_fails j i)
          → a ≡ answer status.No (codes "fails: " ++ step_path j i) → Judges s bytes a
      fails_said a j i h says = record {
        judgement = texts.failure j i;
        is = record {
          free = f.free;
          raw = raw;
          is = reads;
          holds = verdict_along (step_fails j i)
              h;
        };
        says = says;
      }

      pub stopped_said : (a : Answer) (e : CheckError) → IfUnjudged g c e → refusal_of e ≡ Some a
          → Judges s bytes a
      stopped_said a (check_error.Limit j i) cause says =
          said s bytes a (texts.long_identity j i) (record {
            free = f.free;
            raw = raw;
            is = reads;
            holds = record { graph = g; cert = c; kept = kept; behind = cause.0; long = cause.1 };
          }) says
      stopped_said a (check_error.Wide j i) cause says =
          said s bytes a (texts.wide_identity j i) (record {
            free = f.free;
            raw = raw;
            is = reads;
            holds = record {
              graph = g;
              cert = c;
              kept = kept;
              behind = cause.0;
              short = cause.1;
              wide = cause.2;
            };
          }) says
      stopped_said a check_error.Memory cause says = absurd (cc)
