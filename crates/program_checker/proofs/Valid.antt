-- Where all identities of the transitions hold.
--   all_valid          the certificate is valid
--   elements_hold      its elements are invariants
--   elements_seen      they are 0 at what is seen in a program with the same graph
use Rattle.std.proofs.Common.{◌≡◌, ℕ, ◌<◌, ◌≤◌, List, length, arith}
use Rattle.std.proofs.lemmas.List.{length-map}
use Rattle.algebra.specs.Fraction.{Fraction, ℚ}
use Rattle.algebra.proofs.In.{each_in, in_get}
use Rattle.polynomials.specs.Terms.{value_at}
use Rattle.loops.specs.Program.{Expr}
use Rattle.flows.specs.Graph.{Inv}
use Rattle.flows.specs.Certificate.{IsValid, family, element}
use Rattle.flows.specs.Same.{IsSameGraph}
use Rattle.flows.specs.Code.{Code, IsSeen}
use Rattle.flows.specs.Chart as program
use Rattle.flows.proofs.Held.{element_holds, points_hold}
use Rattle.program_model.specs.GraphView.{transition_of, graph_of}
use Rattle.program_checker.specs.View.{certificate_of}
use Rattle.program_model.specs.Graphs.{IsGraphOf}
use Rattle.program_checker.specs.Fits.{Fits}
use Rattle.program_checker.specs.Refusals.{elements_at, Passes}
use Rattle.program_model.specs.declared.graph.Graph.{Graph}
use Rattle.program_checker.specs.declared.cert.ProgramCert.{ProgramCert}
use Rattle.program_checker.proofs.Over.{graph_stands, fits_over}

module _ (g : Graph) (c : ProgramCert) (is : IsGraphOf g) (fits : Fits g c) (n : ℕ)
    (past : length g.transitions.items ≤ n)
    (all : (a k : ℕ) → a < n → k < length (elements_at g c a) → Passes g c a k) where
  pub all_valid : IsValid (graph_of g) (certificate_of c)
  all_valid = record {
    start = fits.start;
    steps = λ a b m k.
        all a b (omega (arith, past, m, length-map g.transitions.items transition_of)) k;
  }

  pub elements_hold : (w i : ℕ) → w < g.nodes → i < length (family (certificate_of c) w)
      → Inv (graph_of g) w (element (certificate_of c) w i)
  elements_hold w i l k = element_holds (graph_of g) (graph_stands g is) (certificate_of c)
      (fits_over g c is fits) all_valid w l i k

  pub elements_seen : (m : ℕ) (code : Code (Expr ℕ))
      → IsSameGraph (graph_of g) (program.graph m code) → (w i : ℕ) → 0 < w → w < g.nodes
      → i < length (family (certificate_of c) w) → (z : List Fraction) → IsSeen m code w z
      → value_at ℚ (element (certificate_of c) w i) z ≡ ℚ.zero
  elements_seen m code alike w i o l k =
      each_in (λ p. (z : List Fraction) → IsSeen m code w z → value_at ℚ p z ≡ ℚ.zero)
      (family (certificate_of c) w) (element (certificate_of c) w i)
      (points_hold (graph_of g) (graph_stands g is) (certificate_of c) (fits_over g c is fits)
      all_valid m code alike w o l) (in_get (family (certificate_of c) w) i _ k)
