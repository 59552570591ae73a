-- Polynomials that are divided one after another by a list.
--   AreDivided O gs ps rows before after   the entries after are those before and the divisions of the ps by gs, which have ended with the rows of cofactors
--   IsRefusedIn O gs ps before after r     the division of one of the ps was refused, behind those of the ps before it
-- And the S-polynomials of pairs, each behind the entry of its pair.
--   ArePairsDivided O gs ab rows before after     so for the pairs ab
--   IsRefusedAt O gs a before r            the refusal r comes before the entry of the pair a: it is past, or the units equal the limit
--   IsRefusedInPairs O gs ab before after r       one of the pairs was refused, or the division of its S-polynomial
use Rattle.std.specs.Prelude.{◌≡◌, ◌⊎◌, ℕ, List, [], ◌∷◌, ◌++◌}
use Rattle.algebra.specs.Fraction.{Fraction, fractions, rationals}
use Rattle.polynomials.specs.Order.{Rank}
use Rattle.polynomials.specs.Terms.{Terms}
use Rattle.machines.specs.Division as division
use Rattle.machines.specs.Completion.{s_polynomial}
use Rattle.machines.specs.Event.{Pair}
use Rattle.machines.specs.Journal.{Entry, Did, Journal, units_of}
use Rattle.machines.specs.Machine.{Refusal, too_wide, out_of_units, out_of_memory, Stops}
use Rattle.machines.specs.Machines as machines
use Rattle.machines.specs.Past.{IsPastPair}
use Rattle.machines.specs.Work.{WorkToEnd}

module _ (O : Rank) (gs : List (Terms Fraction)) where
  pub record IsDividedIn (p : Terms Fraction) (row : List (Terms Fraction))
      (before after : List Entry) : Type 0 where
    pub last : division.State Fraction
    pub finished : WorkToEnd (division.next rationals O gs) (division.initial_state gs p) before
        after last
    pub is : row ≡ last.cofactors

  unfoldable pub AreDivided : List (Terms Fraction) → List (List (Terms Fraction))
      → List Entry → List Entry → Type 0
  AreDivided [] [] before after = after ≡ before
  AreDivided [] (row ∷ rows) before after = ⊥
  AreDivided (p ∷ ps) [] before after = ⊥
  AreDivided (p ∷ ps) (row ∷ rows) before after =
      (between : List Entry) × IsDividedIn p row before between
      × AreDivided ps rows between after

  pub record IsRefusedIn (ps : List (Terms Fraction)) (before : List Entry) (after : Journal)
      (r : Refusal) : Type 0 where
    pub earlier : List (Terms Fraction)
    pub here : Terms Fraction
    pub later : List (Terms Fraction)
    pub is : ps ≡ earlier ++ here ∷ later
    pub rows : List (List (Terms Fraction))
    pub between : Journal
    pub divided : AreDivided earlier rows before between.entries
    pub stops : Stops (machines.division fractions O gs here) between after r

  -- ---- pairs
  abbrev pub with_pair : ℕ × ℕ → List Entry → List Entry
  with_pair a es = es ++ Did (Pair a.0 a.1) ∷ []

  unfoldable pub ArePairsDivided : List (ℕ × ℕ) → List (List (Terms Fraction)) → List Entry
      → List Entry → Type 0
  ArePairsDivided [] [] before after = after ≡ before
  ArePairsDivided [] (row ∷ rows) before after = ⊥
  ArePairsDivided (a ∷ ab) [] before after = ⊥
  ArePairsDivided (a ∷ ab) (row ∷ rows) before after =
      (between : List Entry)
      × IsDividedIn (s_polynomial rationals O gs a) row (with_pair a before) between
      × ArePairsDivided ab rows between after

  abbrev pub IsRefusedAt : ℕ × ℕ → Journal → Refusal → Type 0
  IsRefusedAt a before too_wide = IsPastPair fractions rationals gs a
  IsRefusedAt a before out_of_units = units_of before.entries ≡ before.limit
  IsRefusedAt a before out_of_memory = Unit {0}

  pub record IsRefusedInPairs (ab : List (ℕ × ℕ)) (before : List Entry) (after : Journal)
      (r : Refusal) : Type 0 where
    pub earlier : List (ℕ × ℕ)
    pub here : ℕ × ℕ
    pub later : List (ℕ × ℕ)
    pub is : ab ≡ earlier ++ here ∷ later
    pub rows : List (List (Terms Fraction))
    pub between : Journal
    pub divided : ArePairsDivided earlier rows before between.entries
    pub stops : ((after ≡ between) × IsRefusedAt here between r)
        ⊎ ((noted : Journal) × (noted.entries ≡ with_pair here between.entries)
        × Stops (machines.division fractions O gs (s_polynomial rationals O gs here)) noted after
        r)
