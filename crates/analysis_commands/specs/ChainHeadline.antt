-- What a user takes away of `chain`, over the bytes of the file.
--   AreReadBack names bases          each polynomial of the bases can be read back from its text
--   AreChainBases c bases            the bases are as many as c has loops: for each the reduced basis of the polynomials that are zero at the end of every run of the chain up to it, which generates just these
--   HaveSameChainInvariants c d      they have as many loops, and up to each loop the same polynomials are zero at the end of every run
--   ShowsChain text said             the bytes are a chain, and its bases are said, each behind the line of its loop; they can be read back from what is said
use Rattle.std.specs.Prelude.{◌≡◌, ◌↔◌, ℕ, suc, ◌≤◌, List, [], get_or, length, Ok, All}
use Rattle.algebra.specs.Fraction.{Fraction, rationals}
use Rattle.polynomials.specs.Order.{grevlex}
use Rattle.polynomials.specs.Terms.{Terms}
use Rattle.machines.specs.Reduced.{IsReducedFor}
use Rattle.loops.specs.Program.{Expr}
use Rattle.rounds.specs.Generate.{Generates}
use Rattle.loops.specs.Chain.{Chain, up_to, ChainInv}
use Rattle.loop_text.specs.ChainReader.{chain_of}
use Rattle.command_parts.specs.ReadBack.{IsReadBack}
use Rattle.analysis_commands.specs.ChainTexts.{bases_text}

abbrev pub AreReadBack : List (List ℕ) → List (List (Terms Fraction)) → Type 0
AreReadBack names bases = All (IsReadBack names) bases

pub record AreChainBases (c : Chain (Expr ℕ)) (bases : List (List (Terms Fraction))) : Type 0 where
  pub count : length bases ≡ suc (length c.further)
  pub are_bases : (j : ℕ) → j ≤ length c.further
      → IsReducedFor rationals grevlex (length c.first.names) (get_or bases j [])
      (ChainInv (up_to j c))
  pub generate : (j : ℕ) → j ≤ length c.further
      → Generates (length c.first.names) (get_or bases j []) (ChainInv (up_to j c))

pub record HaveSameChainInvariants (c d : Chain (Expr ℕ)) : Type 0 where
  pub count : length c.further ≡ length d.further
  pub same : (j : ℕ) → j ≤ length c.further → (p : Terms Fraction)
      → ChainInv (up_to j c) p ↔ ChainInv (up_to j d) p

pub record ShowsChain (text said : List ℕ) : Type 0 where
  pub chain : Chain (Expr ℕ)
  pub is_chain : chain_of text ≡ Ok chain
  pub bases : List (List (Terms Fraction))
  pub are_bases : AreChainBases chain bases
  pub reads_back : AreReadBack chain.first.names bases
  pub says : said ≡ bases_text chain.first.names 0 bases
