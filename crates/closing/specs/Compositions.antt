-- The compositions of a closing.
--   IfComposing m os w e          the refusal e is of the word w, and tells by which of the operations os it stops
--   IsComposed m maps p q         q is p composed with the maps, with like terms collected
--   iteration_operations program b p, start_operations program p     those by which p is composed with the map of the branch b, and with the start's
--   IsTurned program b x y        y is the candidate x composed with the map of the branch b
--   IfIterationStops program b x e     the refusal of that
--   IsFromStart program x q       q is the candidate's polynomial composed with the start's map
--   IfStartStops program x e      the refusal of that
-- Want of memory is free.
use Rattle.std.specs.Prelude.{◌≡◌, ℕ, List, [], ◌∷◌, length}
use Rattle.algebra.specs.Fraction.{Fraction, ℚ, rationals}
use Rattle.polynomials.specs.Terms.{Terms, compose}
use Rattle.polynomials.specs.Order.{grevlex}
use Rattle.machines.specs.Collect.{collect}
use Rattle.loops.specs.Map.{branch_map, start_map}
use Rattle.loops.specs.Program.{Expr, Program}
use Rattle.rounds.specs.Word.{branch_of, after_iteration}
use Rattle.poly.specs.Seen.{terms_in}
use Rattle.loop_model.specs.FracPoly.{FracPoly}
use Rattle.loop_model.specs.Operations.{Operation, IsLimit, IsWide}
use Rattle.closures.specs.Closing.{from_start}
use Rattle.counter_run.specs.Composition.{composition_operations}
use Rattle.closing.specs.declared.candidates.Candidate.{Candidate}
use Rattle.closing.specs.declared.error.ClosingError.{ClosingError}
use Rattle.closing.specs.declared.error.ClosingError.TheVariants.{Limit, Wide, Budget, Memory}

abbrev pub IfComposing : ℕ → List Operation → List ℕ → ClosingError → Type 0
IfComposing m os w (Limit word) = (word.items ≡ w) × IsLimit m os 0
IfComposing m os w (Wide word) = (word.items ≡ w) × IsWide m os 0
IfComposing m os w Budget = ⊥
IfComposing m os w Memory = Unit {0}

pub record IsComposed (m : ℕ) (maps : List (Terms Fraction)) (p : Terms Fraction) (q : FracPoly)
    : Type 0 where
  pub arity : q.arity ≡ m
  pub terms : terms_in q ≡ collect rationals grevlex (compose ℚ m p maps)

module _ (program : Program (Expr ℕ)) where
  abbrev pub iteration_operations : ℕ → Terms Fraction → List Operation
  iteration_operations b p =
      composition_operations (length program.names) (branch_map program (branch_of program b)) [] p

  abbrev pub start_operations : Terms Fraction → List Operation
  start_operations p = composition_operations (length program.names) (start_map program) [] p

  pub record IsTurned (b : ℕ) (x y : Candidate) : Type 0 where
    pub of : y.of ≡ x.of
    pub word : y.word.items ≡ b ∷ x.word.items
    pub arity : y.polynomial.arity ≡ length program.names
    pub terms : terms_in y.polynomial
        ≡ collect rationals grevlex (after_iteration program b (terms_in x.polynomial))

  abbrev pub IfIterationStops : ℕ → Candidate → ClosingError → Type 0
  IfIterationStops b x e =
      IfComposing (length program.names) (iteration_operations b (terms_in x.polynomial))
      (b ∷ x.word.items) e

  pub record IsFromStart (x : Candidate) (q : FracPoly) : Type 0 where
    pub arity : q.arity ≡ length program.names
    pub terms : terms_in q ≡ from_start program (terms_in x.polynomial)

  abbrev pub IfStartStops : Candidate → ClosingError → Type 0
  IfStartStops x e =
      IfComposing (length program.names) (start_operations (terms_in x.polynomial)) x.word.items e
