-- What a user takes away of `decide` and `prove`, over the bytes of the file and the equation.
--   ShowsClosure text equation said   the bytes are a loop and an equation that holds at the end of every run of it; the reduced basis of the closure of the equation's polynomial is said, invariants from which it follows and which each branch keeps; it can be read back
--   ShowsCertificate text equation said   they are, and a valid certificate is said, which lists the equation's polynomial first, and behind it what of this basis isn't the same
--   Shows evidence text equation said     the one or the other
--   ShowsCounter text equation said   they are, and it doesn't hold: no is said, and what `counter` says of it, the first word after which it doesn't hold, with its run from its first start
use Rattle.std.specs.Prelude.{◌≡◌, ℕ, List, [], ◌∷◌, ◌++◌, codes}
use Rattle.algebra.specs.Each.{Each}
use Rattle.algebra.specs.Fraction.{Fraction}
use Rattle.polynomials.specs.Terms.{Terms}
use Rattle.loops.specs.Inv.{Inv}
use Rattle.loops.specs.Program.{Expr, Program}
use Rattle.closures.specs.Ends.{IsClosure}
use Rattle.io_edge.specs.Texts.{line}
use Rattle.command_parts.specs.Equations.{polynomial_of, Holds}
use Rattle.command_parts.specs.ReadBack.{IsReadBack}
use Rattle.replay_commands.specs.CounterHeadline.{IsQuestion, ShowsCounterRun}
use Rattle.closing_commands.specs.declared.evidence.Evidence.{Evidence}
use Rattle.closing_commands.specs.declared.evidence.Evidence.TheVariants as kinds
use Rattle.closing_commands.specs.ProvedLists.{ShowsProof}
use Rattle.closing_commands.specs.DecideTexts.{closure_answer}

module _ (text equation : List ℕ) where
  pub record ShowsClosure (said : List ℕ) : Type 0 where
    pub loop : Program (Expr ℕ)
    pub difference : Expr ℕ
    pub question : IsQuestion text equation loop difference
    pub holds : Holds loop difference
    pub list : List (Terms Fraction)
    pub closure : IsClosure loop (polynomial_of loop difference ∷ []) list
    pub invariants : Each (Inv loop) list
    pub reads_back : IsReadBack loop.names list
    pub says : said ≡ (closure_answer loop.names list).text

  pub record ShowsCertificate (said : List ℕ) : Type 0 where
    pub loop : Program (Expr ℕ)
    pub difference : Expr ℕ
    pub question : IsQuestion text equation loop difference
    pub holds : Holds loop difference
    pub list : List (Terms Fraction)
    pub closure : IsClosure loop (polynomial_of loop difference ∷ []) list
    pub proof : ShowsProof loop (polynomial_of loop difference ∷ []) list said

  abbrev pub Shows : Evidence → List ℕ → Type 0
  Shows kinds.Basis said = ShowsClosure said
  Shows kinds.Certificate said = ShowsCertificate said

  pub record ShowsCounter (said : List ℕ) : Type 0 where
    pub most : ℕ
    pub run : List ℕ
    pub shows : ShowsCounterRun text equation most run
    pub says : said ≡ line (codes "no") ++ run
