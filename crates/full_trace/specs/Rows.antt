-- Rows of cofactors as the program has them.
--   AreRowsLike o m rows   all of the rows have the order o and m variables
-- Of one pair of places of a list:
--   IsPairDivided O gs a row before after     the entries after are those before, the entry of the pair and the division of its S-polynomial by gs, which has ended with this row of cofactors
--   IsPairRefused O gs a before after r       the pair was refused, or the division of its S-polynomial
use Rattle.std.specs.Prelude.{◌≡◌, ◌⊎◌, ℕ, List, All}
use Rattle.std.specs.Global.{Vec}
use Rattle.std.specs.declared.cmp.PartialEq as PartialEq
use Rattle.algebra.specs.Fraction.{Fraction, fractions, rationals}
use Rattle.polynomials.specs.Order.{Rank}
use Rattle.polynomials.specs.Terms.{Terms}
use Rattle.machines.specs.Completion.{s_polynomial}
use Rattle.machines.specs.Journal.{Entry, Journal}
use Rattle.machines.specs.Machine.{Refusal, Stops}
use Rattle.machines.specs.Machines as machines
use Rattle.ring_laws.specs.declared.Ring as Ring
use Rattle.monos.specs.declared.order.Order as Order
use Rattle.poly.specs.declared.Poly.{Poly}
use Rattle.complete.specs.Completing.{AreLike}
use Rattle.corollaries.specs.Rows.{IsDividedIn, with_pair, IsRefusedAt}

module _ {K O : Type 0} {g : Ring.Ghosts K} {h : PartialEq.Ghosts K} {k : Order.Ghosts O}
    {l : PartialEq.Ghosts O} where
  abbrev pub AreRowsLike : O → ℕ → List (Vec (Poly K O g h k l)) → Type 0
  AreRowsLike o m rows = All (λ (row : Vec (Poly K O g h k l)). AreLike o m row.items) rows

module _ (O : Rank) (gs : List (Terms Fraction)) (a : ℕ × ℕ) where
  abbrev pub IsPairDivided : List (Terms Fraction) → (before after : List Entry) → Type 0
  IsPairDivided row before after =
      IsDividedIn O gs (s_polynomial rationals O gs a) row (with_pair O gs a before) after

  abbrev pub IsPairRefused : (before after : Journal) → Refusal → Type 0
  IsPairRefused before after r =
      ((after ≡ before) × IsRefusedAt O gs a before r)
      ⊎ ((noted : Journal) × (noted.entries ≡ with_pair O gs a before.entries)
      × Stops (machines.division fractions O gs (s_polynomial rationals O gs a)) noted after r)
