-- The certificate that `cert` prints is read as one whose identities hold.
--   valid_again        certificates with the same polynomials are valid together
--   printed_valid      so what was printed is valid
use Rattle.std.proofs.Common.{◌≡◌, ℕ, ◌<◌, ◌≤◌, List, length, refl, sym, subst, Ok, arith}
use Rattle.algebra.proofs.In.{each_from}
use Rattle.algebra.specs.Fraction.{Fraction, ℚ}
use Rattle.algebra.proofs.Fractions.{ℚ_ring}
use Rattle.polynomials.specs.Terms.{Terms}
use Rattle.polynomials.specs.Polynomial.{AllArity}
use Rattle.polynomials.proofs.Same.{Same-trans, AllSame-refl, AllSame-length, same_combination}
use Rattle.loops.specs.Certificate.{Certificate, AreOver, IsValid, SameCertificate, cofactors}
use Rattle.loops.specs.Program.{Expr, Program}
use Rattle.loops.proofs.SameVerdict.{same_start, same_step}
use Rattle.cert_form.specs.Form.{cert_in, most_elements}
use Rattle.cert_form.proofs.Over.{certificate_over}
use Rattle.analysis_commands.specs.declared.kind.Kind.TheVariants as kinds
use Rattle.analysis_commands.specs.Headline.{IsBasisOf, ShowsAnalysis}

module _ (l : Program (Expr ℕ)) (c d : Certificate) (own : AllArity (length l.names) c.basis)
    (over : AreOver (length l.names) d) (s : SameCertificate c d) where
  -- the polynomials of the one with the cofactors of the other
  abbrev mixed : Certificate
  mixed = record { basis = c.basis; steps = d.steps }

  mixed_over : AreOver (length l.names) mixed
  mixed_over = record { arities = own; cofactor_arities = over.cofactor_arities }

  mixed_same : SameCertificate mixed d
  mixed_same = record {
    basis = s.basis;
    branches = refl;
    elements = λ b. refl;
    steps = λ b i. AllSame-refl ℚ (cofactors d b i);
  }

  there : (i : ℕ) → i < length d.basis → i < length c.basis
  there i less = omega (arith, less, AllSame-length ℚ _ _ s.basis)

  pub valid_again : IsValid l c → IsValid l d
  valid_again v = record {
    starts = λ i less. same_start l mixed d mixed_over over mixed_same i
        (v.starts i (there i less));
    steps = λ b i branch less.
        same_step l mixed d mixed_over over mixed_same b i
        (Same-trans ℚ (v.steps b i branch (there i less))
        (same_combination ℚ_ring (cofactors c b i) (cofactors d b i) c.basis c.basis (s.steps b i)
        (AllSame-refl ℚ c.basis)));
  }

basis_arity : (l : Program (Expr ℕ)) (gs : List (Terms Fraction)) → IsBasisOf l gs
    → AllArity (length l.names) gs
basis_arity l gs r = each_from gs (λ g here. (r.polynomials g here).arity)

pub printed_valid : (text said : List ℕ) (a : ShowsAnalysis kinds.Certificate text said)
    → length a.certificate.basis ≤ most_elements
    → (listed : Certificate)
    × (cert_in a.loop.names (length a.loop.branches) said ≡ Ok listed) × IsValid a.loop listed
printed_valid text said a few =
    let l = a.loop in
    let c = a.certificate in
    let read = a.reads_back few in
    let is = subst (λ bytes. cert_in l.names (length l.branches) bytes ≡ Ok read.raw)
    (sym a.says) read.is in (
      read.raw,
      is,
      valid_again l c read.raw (basis_arity l c.basis a.is_basis)
          (certificate_over l.names (length l.branches) said read.raw is) read.same a.identities,
    )
