-- What a user takes away of an analysis, over the bytes of the file.
--   IsBasisOf l gs                       the gs are the reduced basis of the invariants of l: each is one, and the lead of each invariant is divided by one of theirs
--   HaveSameInvariants l k               each polynomial is an invariant of the one exactly where it is one of the other
--   IsToldBack kind names n c            the basis, or the certificate c with the cofactors of n branches, can be read back from its text; a certificate where it has at most as many polynomials as a file may have
--   ShowsAnalysis kind text said         the bytes are a loop, and of a certificate whose identities hold, and whose polynomials are the reduced basis of its invariants and generate them all, the basis is said, an equation a line, or for the other kind the certificate; it can be read back from what is said
use Rattle.std.specs.Prelude.{◌≡◌, ◌↔◌, ℕ, ◌≤◌, List, length, Ok}
use Rattle.algebra.specs.Fraction.{Fraction, rationals}
use Rattle.polynomials.specs.Order.{grevlex}
use Rattle.polynomials.specs.Terms.{Terms}
use Rattle.machines.specs.Reduced.{IsReducedFor}
use Rattle.loops.specs.Inv.{Inv}
use Rattle.loops.specs.Certificate.{Certificate, IsValid}
use Rattle.loops.specs.Program.{Expr, Program}
use Rattle.loop_text.specs.LoopReader.{loop_of}
use Rattle.rounds.specs.Generate.{Generates}
use Rattle.cert_form.specs.Form.{cert_in, most_elements, ReadsAs}
use Rattle.command_parts.specs.ReadBack.{IsReadBack}
use Rattle.analysis_commands.specs.declared.kind.Kind.{Kind}
use Rattle.analysis_commands.specs.declared.kind.Kind.TheVariants as kinds
use Rattle.analysis_commands.specs.Certificates.{certificate_text, found_text}

abbrev pub IsBasisOf : Program (Expr ℕ) → List (Terms Fraction) → Type 0
IsBasisOf l gs = IsReducedFor rationals grevlex (length l.names) gs (Inv l)

abbrev pub HaveSameInvariants : Program (Expr ℕ) → Program (Expr ℕ) → Type 0
HaveSameInvariants l k = (p : Terms Fraction) → Inv l p ↔ Inv k p

abbrev pub IsToldBack : Kind → List (List ℕ) → ℕ → Certificate → Type 0
IsToldBack kinds.Basis names branches c = IsReadBack names c.basis
IsToldBack kinds.Certificate names branches c =
    length c.basis ≤ most_elements → ReadsAs (cert_in names branches (certificate_text names c)) c

pub record ShowsAnalysis (kind : Kind) (text said : List ℕ) : Type 0 where
  pub loop : Program (Expr ℕ)
  pub is_loop : loop_of text ≡ Ok loop
  pub certificate : Certificate
  pub says : said ≡ found_text kind loop.names certificate
  pub is_basis : IsBasisOf loop certificate.basis
  pub generates : Generates (length loop.names) certificate.basis (Inv loop)
  pub identities : IsValid loop certificate
  pub reads_back : IsToldBack kind loop.names (length loop.branches) certificate
