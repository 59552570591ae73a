-- The divisions behind the closing of a list P, by which the list gs that it has ended with is proved closed, and what is told of them and of the maps. The journal m is that of both.
--   AreProved l P es gs        the entries lead to the end of the closing, with the list gs, and of the divisions of P and gs by gs
--   AreBegun l P es gs         they lead to the end of the closing, and follow these divisions
--   AreExhausted l P es gs n   so, as many of them are units as n, and what comes next is a unit
--   IsPastTest l P es gs b i   so, and what comes next in the division of the element i with the branch b may not fit
--   ShowsProof l P gs said     a valid certificate is said, which lists P first, and behind it what of gs isn't the same, with the cofactors of these divisions, a row for each branch and element; it can be read back where it has at most as many polynomials as a file may have
--   TellsProof l P gs m a      all have ended, and a tells it
--   TellsTest l P gs m a       a tells such a division
--   TellsProving l P gs m n a  one of the two, or as many of the entries are units as allowed, and a tells the budget n
--   TellsMap l m a             a tells the first operation of the loop's maps that can't be done, and no entry is made
use Rattle.std.specs.Prelude.{◌≡◌, ◌⊎◌, ◌≤◌, ℕ, List, [], length, Some}
use Rattle.algebra.specs.Fraction.{Fraction}
use Rattle.polynomials.specs.Terms.{Terms}
use Rattle.machines.specs.Journal.{Journal, Entry}
use Rattle.loops.specs.Certificate.{Certificate, IsValid}
use Rattle.loops.specs.Program.{Expr, Program}
use Rattle.loop_model.specs.Stops.{Stops}
use Rattle.loop_model.specs.declared.map_error.MapError.{MapError}
use Rattle.loop_model.specs.Maps.{maps_operations}
use Rattle.cert_form.specs.Form.{cert_in, most_elements, ReadsAs}
use Rattle.closures.specs.Certified.{IsListOf, IsProofBy}
use Rattle.closures.specs.Proving.{Test, State, AwaitsTests, FollowsProof, IsOutProof, IsPastProof}
use Rattle.io_edge.specs.declared.answer.Status.TheVariants as status
use Rattle.io_edge.specs.Texts.{Answer}
use Rattle.replay_commands.specs.CounterTexts.{map_answer}
use Rattle.closing_commands.specs.Rows.{HasRows}
use Rattle.command_parts.specs.FaultTexts.{exhausted_answer}
use Rattle.closing_commands.specs.ProvedTexts.{certificate_answer, wide_test_answer}

module _ (l : Program (Expr ℕ)) (P : List (Terms Fraction)) (es : List Entry)
    (gs : List (Terms Fraction)) where
  pub record AreProved : Type 0 where
    pub elements : List (Terms Fraction)
    pub listed : IsListOf P gs elements
    pub over : AwaitsTests l P gs elements es []

  pub record AreBegun : Type 0 where
    pub elements : List (Terms Fraction)
    pub listed : IsListOf P gs elements
    pub state : State
    pub follows : FollowsProof l P gs elements es state

  pub record AreExhausted (n : ℕ) : Type 0 where
    pub elements : List (Terms Fraction)
    pub listed : IsListOf P gs elements
    pub out : IsOutProof l P gs elements n es

  pub record IsPastTest (b i : ℕ) : Type 0 where
    pub elements : List (Terms Fraction)
    pub listed : IsListOf P gs elements
    pub test : Test
    pub is_branch : test.branch ≡ b
    pub is_number : test.number ≡ i
    pub past : IsPastProof l P gs elements es test

module _ (l : Program (Expr ℕ)) (P gs : List (Terms Fraction)) where
  pub record ShowsProof (said : List ℕ) : Type 0 where
    pub certificate : Certificate
    pub listed : IsListOf P gs certificate.basis
    pub places : List ℕ
    pub proof : IsProofBy l gs places certificate
    pub rows : HasRows l certificate
    pub identities : IsValid l certificate
    pub reads_back : length certificate.basis ≤ most_elements
        → ReadsAs (cert_in l.names (length l.branches) said) certificate
    pub says : said ≡ (certificate_answer l.names certificate).text

  module _ (m : Journal) where
    pub record TellsProof (a : Answer) : Type 0 where
      pub ends : AreProved l P m.entries gs
      pub shows : ShowsProof a.text
      pub yes : a.status ≡ status.Yes

    pub record TellsTest (a : Answer) : Type 0 where
      pub branch : ℕ
      pub number : ℕ
      pub is : IsPastTest l P m.entries gs branch number
      pub says : a ≡ wide_test_answer branch number

    abbrev pub TellsProving : ℕ → Answer → Type 0
    TellsProving n a =
        TellsProof a
        ⊎ (TellsTest a ⊎ (AreExhausted l P m.entries gs m.limit × (a ≡ exhausted_answer n)))

module _ (l : Program (Expr ℕ)) (m : Journal) where
  pub record TellsMap (a : Answer) : Type 0 where
    pub stop : MapError
    pub is : Stops (length l.names) (maps_operations l) stop
    pub none : m.entries ≡ []
    pub says : map_answer stop ≡ Some a
