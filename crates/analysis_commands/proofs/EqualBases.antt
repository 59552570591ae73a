-- Two loops over the same variables print equal bases exactly where they have the same invariants.
--   Basis m I gs       the gs are reduced for the set I of polynomials in m variables;  graded: they are polynomials
--   same_list          of one set there is one
--   one_list           lists that generate two sets are the same exactly where the sets are
--   equal_bases        so are the texts
use Rattle.std.proofs.Common.{◌≡◌, ◌↔◌, ℕ, List, length, sym, ap, subst, ◌∙◌}
use Rattle.std.specs.Prelude.{All}
use Rattle.algebra.proofs.In.{in_get}
use Rattle.algebra.specs.Fraction.{Fraction, ℚ, rationals}
use Rattle.algebra.proofs.Fractions.{ℚ_field}
use Rattle.polynomials.specs.Order.{grevlex}
use Rattle.polynomials.specs.Polynomial.{Arity, IsPolynomial}
use Rattle.polynomials.specs.Terms.{Terms}
use Rattle.polynomials.proofs.Orders.{grevlex_order}
use Rattle.ideals.specs.Members.{IsMember}
use Rattle.machines.specs.Reduced.{IsReducedFor}
use Rattle.machines.proofs.Ends.{reduced_along}
use Rattle.machines.proofs.Places.{in_slice}
use Rattle.machines.proofs.Reducing.{one_reduced}
use Rattle.loops.specs.Inv.{Inv}
use Rattle.rounds.specs.Generate.{Generates}
use Rattle.command_parts.specs.ReadBack.{ReadsBack}
use Rattle.command_parts.specs.BasisTexts.{basis_text}
use Rattle.analysis_commands.proofs.BasisTexts.{same_bases}
use Rattle.analysis_commands.specs.declared.kind.Kind.TheVariants as kinds
use Rattle.analysis_commands.specs.Headline.{HaveSameInvariants, ShowsAnalysis}

abbrev pub Basis : ℕ → (Terms Fraction → Type 0) → List (Terms Fraction) → Type 0
Basis m I gs = IsReducedFor rationals grevlex m gs I

-- ---- one list
module _ (m : ℕ) (I J : Terms Fraction → Type 0) (gs hs : List (Terms Fraction))
    (rg : Basis m I gs) (rh : Basis m J hs) where
  pub same_list : ((p : Terms Fraction) → IsPolynomial ℚ grevlex m p → IsMember ℚ m gs p ↔ I p)
      → ((p : Terms Fraction) → IsPolynomial ℚ grevlex m p → I p ↔ J p) → gs ≡ hs
  same_list g s = one_reduced ℚ_field grevlex grevlex_order m gs
      (λ n x at. rg.polynomials x (in_slice gs n x at)) gs hs
      (reduced_along ℚ_field grevlex grevlex_order m gs I (IsMember ℚ m gs)
      (λ p h. ((g p h).1, (g p h).0)) rg)
      (reduced_along ℚ_field grevlex grevlex_order m hs J (IsMember ℚ m gs)
      (λ p h. ((λ j. (g p h).1 ((s p h).1 j)), (λ i. (s p h).0 ((g p h).0 i)))) rh)

  module _ (over : (p : Terms Fraction) → I p → Arity m p)
      (also : (p : Terms Fraction) → J p → Arity m p) (g : Generates m gs I)
      (h : Generates m hs J) where
    same_set : gs ≡ hs → (p : Terms Fraction) → I p ↔ J p
    same_set e p = (
      (λ i. h.only p (over p i) (subst (λ xs. IsMember ℚ m xs p) e (g.all p (over p i) i))),
      (λ j. g.only p (also p j) (subst (λ xs. IsMember ℚ m xs p) (sym e) (h.all p (also p j) j))),
    )

    pub one_list : (gs ≡ hs) ↔ ((p : Terms Fraction) → I p ↔ J p)
    one_list = (same_set, λ s. same_list (λ p a. (g.only p a.arity, g.all p a.arity)) (λ p a. s p))

pub graded : (m : ℕ) (I : Terms Fraction → Type 0) (gs : List (Terms Fraction)) → Basis m I gs
    → All (IsPolynomial ℚ grevlex m) gs
graded m I gs r = λ i d inside. r.polynomials _ (in_get gs i d inside)

-- ---- bases
module _ (text said other answer : List ℕ) (a : ShowsAnalysis kinds.Basis text said)
    (b : ShowsAnalysis kinds.Basis other answer) (same : a.loop.names ≡ b.loop.names) where
  abbrev m : ℕ
  m = length a.loop.names

  abbrev gs : List (Terms Fraction)
  gs = a.certificate.basis

  abbrev hs : List (Terms Fraction)
  hs = b.certificate.basis

  size : length b.loop.names ≡ length a.loop.names
  size = ap length (sym same)

  -- at the names of the first
  basis_here : Basis m (Inv b.loop) hs
  basis_here = subst (λ n. Basis n (Inv b.loop) hs) size b.is_basis

  retold : basis_text b.loop.names hs ≡ basis_text a.loop.names hs
  retold = ap (λ ns. basis_text ns hs) (sym same)

  read_here : All (ReadsBack a.loop.names) hs
  read_here = subst (λ ns. All (ReadsBack ns) hs) (sym same) b.reads_back.each

  one_basis : (gs ≡ hs) ↔ HaveSameInvariants a.loop b.loop
  one_basis = one_list m (Inv a.loop) (Inv b.loop) gs hs a.is_basis basis_here (λ p i. i.arity)
      (λ p i. subst (λ n. Arity n p) size i.arity) a.generates
      (subst (λ n. Generates n hs (Inv b.loop)) size b.generates)

  pub equal_bases : (said ≡ answer) ↔ HaveSameInvariants a.loop b.loop
  equal_bases = (
    (λ e. one_basis.0 (same_bases a.loop.names a.reads_back.are_names gs hs
        (graded m (Inv a.loop) gs a.is_basis) (graded m (Inv b.loop) hs basis_here)
        a.reads_back.each read_here (sym a.says ∙ (e ∙ (b.says ∙ retold))))),
    (λ s. a.says ∙ (ap (basis_text a.loop.names) (one_basis.1 s) ∙ sym (b.says ∙ retold))),
  )
