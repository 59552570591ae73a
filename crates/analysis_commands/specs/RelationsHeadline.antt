-- What a user takes away of `relations`, over the bytes of the file.
--   Generate n gs I            the polynomials in n variables in the ideal of the gs are those of I
--   ShowsRelations text said      the bytes are sequences, and the reduced basis of all their relations is said, an equation a line: each is zero at every index, the lead of each relation is divided by one of theirs, and they generate all of them; it can be read back from what is said
--   HaveSameRelations qs rs       over as many variables as qs has sequences, a polynomial is a relation of the one exactly where it is one of the other
use Rattle.std.specs.Prelude.{◌≡◌, ◌↔◌, ℕ, List, length, Ok}
use Rattle.algebra.specs.Fraction.{Fraction, rationals, ℚ}
use Rattle.polynomials.specs.Order.{grevlex}
use Rattle.polynomials.specs.Terms.{Terms}
use Rattle.polynomials.specs.Polynomial.{IsPolynomial}
use Rattle.ideals.specs.Members.{IsMember}
use Rattle.machines.specs.Reduced.{IsReducedFor}
use Rattle.loops.specs.Program.{Expr}
use Rattle.loops.specs.Sequences.{Sequence, sequence_names, AreFormed}
use Rattle.loops.specs.Relations.{IsRelation}
use Rattle.loop_text.specs.SeqReader.{sequences_of}
use Rattle.command_parts.specs.ReadBack.{IsReadBack}
use Rattle.command_parts.specs.BasisTexts.{basis_text}

abbrev pub Generate : ℕ → List (Terms Fraction) → (Terms Fraction → Type 0) → Type 0
Generate n gs I = (p : Terms Fraction) → IsPolynomial ℚ grevlex n p → IsMember ℚ n gs p ↔ I p

pub record ShowsRelations (text said : List ℕ) : Type 0 where
  pub sequences : List (Sequence (Expr ℕ))
  pub are_sequences : sequences_of text ≡ Ok sequences
  pub formed : AreFormed sequences
  pub list : List (Terms Fraction)
  pub says : said ≡ basis_text (sequence_names sequences) list
  pub basis : IsReducedFor rationals grevlex (length sequences) list (IsRelation sequences)
  pub generates : Generate (length sequences) list (IsRelation sequences)
  pub reads_back : IsReadBack (sequence_names sequences) list

abbrev pub HaveSameRelations : List (Sequence (Expr ℕ)) → List (Sequence (Expr ℕ)) → Type 0
HaveSameRelations qs rs = (p : Terms Fraction) → IsPolynomial ℚ grevlex (length qs) p
    → IsRelation qs p ↔ IsRelation rs p
