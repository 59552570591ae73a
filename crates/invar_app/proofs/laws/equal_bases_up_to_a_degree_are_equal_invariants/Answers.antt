use Rattle.std.proofs.Common.{◌≡◌, ◌↔◌, ℕ, List, length, sym, ap, subst, ◌∙◌}
use Rattle.std.specs.Prelude.{All}
use Rattle.algebra.proofs.In.{in_get}
use Rattle.algebra.specs.Fraction.{Fraction, ℚ}
use Rattle.polynomials.specs.Order.{grevlex}
use Rattle.polynomials.specs.Polynomial.{IsPolynomial}
use Rattle.polynomials.specs.Terms.{Terms}
use Rattle.loops.specs.Inv.{Inv}
use Rattle.closures.specs.Closure.{IsIdeal}
use Rattle.closures.specs.UpTo.{IsReducedUpTo}
use Rattle.closures.proofs.Ideals.{invariants_ideal}
use Rattle.closures.proofs.SameUpTo.{same_up_to}
use Rattle.command_parts.specs.ReadBack.{ReadsBack}
use Rattle.command_parts.specs.BasisTexts.{basis_text}
use Rattle.analysis_commands.proofs.BasisTexts.{same_bases}
use Rattle.closing_commands.specs.DegreeHeadline.{HaveSameInvariantsUpTo, ShowsList}
use Rattle.invar_app.proofs.laws.equal_bases_up_to_a_degree_are_equal_invariants.Goals as goal

graded : (m d : ℕ) (I : Terms Fraction → Type 0) (gs : List (Terms Fraction))
    → IsReducedUpTo m d gs I → All (IsPolynomial ℚ grevlex m) gs
graded m d I gs r = λ i e inside. r.tidy.polynomials _ (in_get gs i e inside)

module _ (d : ℕ) (text said other answer : List ℕ) (a : ShowsList text d said)
    (b : ShowsList other d answer) (same : a.loop.names ≡ b.loop.names) where
  abbrev m : ℕ
  m = length a.loop.names

  size : length b.loop.names ≡ m
  size = ap length (sym same)

  -- at the names of the first
  here : IsReducedUpTo m d b.list (Inv b.loop)
  here = subst (λ n. IsReducedUpTo n d b.list (Inv b.loop)) size b.reduced

  read_here : All (ReadsBack a.loop.names) b.list
  read_here = subst (λ ns. All (ReadsBack ns) b.list) (sym same) b.reads_back.each

  retold : answer ≡ basis_text a.loop.names b.list
  retold = b.says ∙ ap (λ ns. basis_text ns b.list) (sym same)

  one_list : (a.list ≡ b.list) ↔ HaveSameInvariantsUpTo d a.loop b.loop
  one_list =
      same_up_to m d (Inv a.loop) (Inv b.loop) (invariants_ideal a.loop)
      (subst (λ n. IsIdeal n (Inv b.loop)) size (invariants_ideal b.loop)) a.list b.list a.reduced
      here

  equal_texts : (said ≡ answer) ↔ HaveSameInvariantsUpTo d a.loop b.loop
  equal_texts = (
    (λ e. one_list.0 (same_bases a.loop.names a.reads_back.are_names a.list b.list
        (graded m d (Inv a.loop) a.list a.reduced) (graded m d (Inv b.loop) b.list here)
        a.reads_back.each read_here (sym a.says ∙ (e ∙ retold)))),
    (λ s. a.says ∙ (ap (basis_text a.loop.names) (one_list.1 s) ∙ sym retold)),
  )

pub returns : goal.returns
returns c = equal_texts
