-- How the stage of a task is made, in entries: the completion of what it begins with, the divisions of that and of the S-polynomials of all pairs by its
-- list, the tidying of what has none of the variables in front, and the divisions of that by what is given. k variables stand in front.
--   IsListMade O hs list before after     the entries after are those before and the completion of hs in the order O, which has ended with the list, of monic polynomials
--   IsOutMade gs out before after         and the tidying of gs, which has ended with out
--   IsStageMade k hs s before after       and all of this, which has given the stage s
--   IsStageRefused k hs after r before    one of these was refused, behind those before it;  IsRefusedBehindList, .. : behind the completion, ..
-- The start has the completion, the tidying of all of its list, and the divisions of hs by what is given.
--   IsStartMade hs out links before after, IsStartRefused hs after r before
-- And of the tasks that have a stage:
--   Eliminates A w k hs       the task w eliminates k variables from hs, and all is divided
use Rattle.std.specs.Prelude.{◌≡◌, ◌⊎◌, ℕ, List, [], ◌++◌, map, take, drop, length, Some}
use Rattle.algebra.specs.Fraction.{Fraction, ℚ, fractions, rationals}
use Rattle.polynomials.specs.Order.{Rank, grevlex}
use Rattle.polynomials.specs.Terms.{Terms}
use Rattle.machines.specs.Basis.{AtPlaces}
use Rattle.machines.specs.Completion as completion
use Rattle.machines.specs.Completion.{s_polynomial}
use Rattle.machines.specs.Cut.{lead_number}
use Rattle.machines.specs.Elimination.{free_part}
use Rattle.machines.specs.Journal.{Entry, Journal}
use Rattle.machines.specs.Machine.{Refusal, out_of_memory, Stops}
use Rattle.machines.specs.Machines as machines
use Rattle.machines.specs.Work.{WorkToEnd}
use Rattle.rounds.specs.Analysis.{Setting, Work, block, order, starting}
use Rattle.corollaries.specs.Representation.{pairs_of}
use Rattle.corollaries.specs.Stage.{Stage, block_order}
use Rattle.corollaries.specs.Rows.{AreDivided, IsRefusedIn, ArePairsDivided, IsRefusedInPairs}
use Rattle.corollaries.specs.Trace.{CompletedList, alone, list_dividends, link_dividends, stage_of}

pub record IsListMade (O : Rank) (hs list : List (Terms Fraction)) (before after : List Entry)
    : Type 0 where
  pub last : completion.State Fraction
  pub finished : WorkToEnd (machines.completion fractions O hs).next
      (machines.completion fractions O hs).start before after last
  pub is : list ≡ last.basis
  pub monic : AtPlaces (λ g. lead_number rationals g ≡ ℚ.one) list

pub record IsOutMade (gs out : List (Terms Fraction)) (before after : List Entry) : Type 0 where
  pub last : List (Terms Fraction)
  pub finished : WorkToEnd (machines.tidying fractions grevlex gs).next
      (machines.tidying fractions grevlex gs).start before after last
  pub is : out ≡ last

module _ (k : ℕ) (hs : List (Terms Fraction)) where
  pub record IsStageMade (s : Stage) (before after : List Entry) : Type 0 where
    pub listed : List Entry
    pub divided : List Entry
    pub paired : List Entry
    pub tidied : List Entry
    pub list : IsListMade (block_order k) hs s.list before listed
    pub gens : AreDivided (block_order k) s.list hs s.gens listed divided
    pub pairs : ArePairsDivided (block_order k) s.list (pairs_of (length s.list)) s.pairs divided
        paired
    pub out : IsOutMade (free_part k s.list) s.out paired tidied
    pub links : AreDivided grevlex s.out (free_part k s.list) s.links tidied after

  -- ---- refusals
  module _ (after : Journal) (r : Refusal) where
    pub record IsRefusedBehindOut (list : List (Terms Fraction)) (paired : List Entry) : Type
        0 where
      pub out : List (Terms Fraction)
      pub tidied : List Entry
      pub made : IsOutMade (free_part k list) out paired tidied
      pub refused : IsRefusedIn grevlex out (free_part k list) tidied after r

    pub record IsRefusedBehindPairs (list : List (Terms Fraction)) (divided : List Entry) : Type
        0 where
      pub pairs : List (List (Terms Fraction))
      pub paired : Journal
      pub made : ArePairsDivided (block_order k) list (pairs_of (length list)) pairs divided
          paired.entries
      pub refused : Stops (machines.tidying fractions grevlex (free_part k list)) paired after r
          ⊎ IsRefusedBehindOut list paired.entries

    pub record IsRefusedBehindGens (list : List (Terms Fraction)) (listed : List Entry) : Type
        0 where
      pub gens : List (List (Terms Fraction))
      pub divided : List Entry
      pub made : AreDivided (block_order k) list hs gens listed divided
      pub refused : IsRefusedInPairs (block_order k) list (pairs_of (length list)) divided after r
          ⊎ IsRefusedBehindPairs list divided

    pub record IsRefusedBehindList (before : List Entry) : Type 0 where
      pub list : List (Terms Fraction)
      pub listed : List Entry
      pub made : IsListMade (block_order k) hs list before listed
      pub refused : ((after.entries ≡ listed) × (r ≡ out_of_memory))
          ⊎ (IsRefusedIn (block_order k) list hs listed after r
          ⊎ IsRefusedBehindGens list listed)

    abbrev pub IsStageRefused : Journal → Type 0
    IsStageRefused before =
        Stops (machines.completion fractions (block_order k) hs) before after r
        ⊎ IsRefusedBehindList before.entries

-- ---- the start
module _ (hs : List (Terms Fraction)) where
  pub record IsStartMade (out : List (Terms Fraction)) (links : List (List (Terms Fraction)))
      (before after : List Entry) : Type 0 where
    pub list : List (Terms Fraction)
    pub listed : List Entry
    pub tidied : List Entry
    pub completed : IsListMade grevlex hs list before listed
    pub given : IsOutMade list out listed tidied
    pub divided : AreDivided grevlex out hs links tidied after

  module _ (after : Journal) (r : Refusal) where
    pub record IsRefusedAtLinks (list : List (Terms Fraction)) (listed : List Entry) : Type 0 where
      pub out : List (Terms Fraction)
      pub tidied : List Entry
      pub made : IsOutMade list out listed tidied
      pub refused : IsRefusedIn grevlex out hs tidied after r

    pub record IsRefusedAtOut (before : List Entry) : Type 0 where
      pub list : List (Terms Fraction)
      pub listed : Journal
      pub made : IsListMade grevlex hs list before listed.entries
      pub refused : Stops (machines.tidying fractions grevlex list) listed after r
          ⊎ IsRefusedAtLinks list listed.entries

    abbrev pub IsStartRefused : Journal → Type 0
    IsStartRefused before =
        Stops (machines.completion fractions grevlex hs) before after r
        ⊎ IsRefusedAtOut before.entries

-- ---- tasks that have a stage
pub record Eliminates (A : Setting) (w : Work) (k : ℕ) (hs : List (Terms Fraction)) : Type 0 where
  pub order_is : order A w ≡ block_order k
  pub block_is : block A w ≡ k
  pub begins : starting A w ≡ hs
  pub lists : (gs : List (Terms Fraction)) → list_dividends A w gs ≡ alone A hs
      ++ (map (λ a. (Some a, s_polynomial rationals (order A w) gs a)) (pairs_of (length gs)) ++ [])
  pub links : (gs : List (Terms Fraction)) → link_dividends A w gs ≡ alone A (free_part k gs)
  pub stage_is : (t : CompletedList) (out : List (Terms Fraction))
      (rows : List (List (Terms Fraction))) → stage_of A w t out rows ≡ record {
        list = t.list;
        gens = take (length hs) t.rows;
        pairs = drop (length hs) t.rows;
        out = out;
        links = rows;
      }
