-- What the analysis begins with, and what stays in its ideal.
--   Begins program A I  what the analysis begins with generates I: the list that its first task ends with, or the list that is given
--   IsTold program I P Q     what stays in I is told by P along words, and by Q along all
--   comes_here, comes_longer     a run of no event, and one that is an event longer
use Rattle.std.proofs.Common.{◌≡◌, ℕ, suc, ◌<◌, ◌⊎◌, List, [], ◌∷◌, ◌++◌, length, arith, refl, sym, ap, ◌∙◌, ◌↔◌, Option, Some, None}
use Rattle.algebra.specs.Fraction.{Fraction}
use Rattle.polynomials.specs.Terms.{Terms}
use Rattle.polynomials.specs.Polynomial.{Arity}
use Rattle.machines.proofs.Runs.{run_then}
use Rattle.machines.specs.Run.{IsRun}
use Rattle.loops.specs.Program.{Expr, Program}
use Rattle.rounds.specs.Word.{Every, Stays}
use Rattle.rounds.specs.Generate.{Generates}
use Rattle.rounds.specs.Analysis.{Setting, starts, list_at}
use Rattle.rounds.specs.Results.{LeadsTo, EndsWork, IsReducedList}

-- ---- runs, one event longer
module _ {S E : Type 0} (next : S → Option (E × S)) where
  pub comes_here : (s : S) → LeadsTo next s s
  unfolding IsRun
  comes_here s = record { events = []; run = refl }

  pub comes_longer : (s t u : S) (e : E) → LeadsTo next s t → next t ≡ Some (e, u)
      → LeadsTo next s u
  comes_longer s t u e c h = record {
    events = c.events ++ e ∷ [];
    run = run_then next s t u c.events e c.run h;
  }

pub less_or_same : (j i : ℕ) → j < suc i → (j < i) ⊎ (j ≡ i)
less_or_same j i n = grind arith

-- P tells what stays in I along words, and Q along all
pub record IsTold {At : Type 0} (program : Program (Expr At)) (I : Terms Fraction → Type 0)
    (P : (List ℕ → Type 0) → Terms Fraction → Type 0) (Q : Terms Fraction → Type 0) : Type 1 where
  pub along : (W : List ℕ → Type 0) (p : Terms Fraction) → Arity (length program.names) p → P W p
      ↔ Stays program I W p
  pub all : (p : Terms Fraction) → Arity (length program.names) p → Q p ↔ Stays program I Every p

pub record Begins {At : Type 0} (program : Program (Expr At)) (A : Setting) (I : Terms Fraction
    → Type 0) : Type 0 where
  pub starts_generate : A.given ≡ None → (made : EndsWork A starts)
      → Generates (length program.names) (list_at A starts made.last) I
  pub given_reduced : (gs : List (Terms Fraction)) → A.given ≡ Some gs
      → IsReducedList (length program.names) gs
  pub given_generates : (gs : List (Terms Fraction)) → A.given ≡ Some gs
      → Generates (length program.names) gs I

term_or : Option (Terms Fraction) → Terms Fraction
term_or None = []
term_or (Some x) = x

pub polynomial_of : (o : Option (Terms Fraction)) (x y : Terms Fraction) → o ≡ Some x → o ≡ Some y
    → x ≡ y
unfolding term_or
polynomial_of o x y h k = ap term_or (sym h ∙ k)
