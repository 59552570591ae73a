-- What a user takes away of `basis` and `cert` up to a degree d, over the bytes of the file.
--   ShowsList text d said          the bytes are a loop, and the part up to d of the reduced basis of all its invariants is said: each element is one, and the lead of each invariant of degree at most d is divided by one of theirs; it can be read back
--   ShowsUpToProof text d said     they are, and a valid certificate is said, which lists this part first, and behind it what of the reduced basis of its closure isn't the same
--   ShowsUpTo evidence text d said     the one or the other
--   HaveSameInvariantsUpTo d l k   each polynomial of degree at most d is an invariant of the one exactly where it is one of the other
use Rattle.std.specs.Prelude.{◌≡◌, ◌↔◌, ◌≤◌, ℕ, List, length, sum, Ok}
use Rattle.algebra.specs.Each.{Each}
use Rattle.algebra.specs.Fraction.{Fraction}
use Rattle.polynomials.specs.Terms.{Terms}
use Rattle.loops.specs.Inv.{Inv}
use Rattle.loops.specs.Program.{Expr, Program}
use Rattle.loop_text.specs.LoopReader.{loop_of}
use Rattle.closures.specs.Ends.{IsClosure}
use Rattle.closures.specs.UpTo.{IsReducedUpTo}
use Rattle.command_parts.specs.ReadBack.{IsReadBack}
use Rattle.closing_commands.specs.declared.evidence.Evidence.{Evidence}
use Rattle.closing_commands.specs.declared.evidence.Evidence.TheVariants as kinds
use Rattle.closing_commands.specs.ProvedLists.{ShowsProof}
use Rattle.closing_commands.specs.DegreeTexts.{basis_answer}

module _ (text : List ℕ) (d : ℕ) where
  pub record ShowsList (said : List ℕ) : Type 0 where
    pub loop : Program (Expr ℕ)
    pub is_loop : loop_of text ≡ Ok loop
    pub list : List (Terms Fraction)
    pub reduced : IsReducedUpTo (length loop.names) d list (Inv loop)
    pub reads_back : IsReadBack loop.names list
    pub says : said ≡ (basis_answer loop.names list).text

  pub record ShowsUpToProof (said : List ℕ) : Type 0 where
    pub loop : Program (Expr ℕ)
    pub is_loop : loop_of text ≡ Ok loop
    pub list : List (Terms Fraction)
    pub reduced : IsReducedUpTo (length loop.names) d list (Inv loop)
    pub closure : List (Terms Fraction)
    pub is_closure : IsClosure loop list closure
    pub proof : ShowsProof loop list closure said

  abbrev pub ShowsUpTo : Evidence → List ℕ → Type 0
  ShowsUpTo kinds.Basis said = ShowsList said
  ShowsUpTo kinds.Certificate said = ShowsUpToProof said

abbrev pub HaveSameInvariantsUpTo : ℕ → Program (Expr ℕ) → Program (Expr ℕ) → Type 0
HaveSameInvariantsUpTo d l k = (p : Terms Fraction) → Each (λ t. sum t.0 ≤ d) p → Inv l p ↔ Inv k p
