-- What the tasks of a trace give: the stages of a full certificate.
--   IsDivided O gs p qs    a division of p by gs has ended, with the cofactors qs
--   IsCompleted O hs gs    a completion of hs has ended with the list gs
--   IsTidied gs out        a tidying of gs, which are monic, has ended with out
--   IsTraced k hs s        the stage s tells how k variables are eliminated from hs: the completion, the divisions of hs and of the S-polynomials of all pairs by its list, what is given, and the divisions of what is kept by that
use Rattle.std.specs.Prelude.{◌≡◌, ℕ, ◌<◌, List, [], get_or, length}
use Rattle.algebra.specs.Fraction.{Fraction, rationals}
use Rattle.polynomials.specs.Terms.{Terms}
use Rattle.polynomials.specs.Order.{Rank, grevlex}
use Rattle.machines.specs.Run.{Ends}
use Rattle.machines.specs.Completion as completion
use Rattle.machines.specs.Completion.{s_polynomial}
use Rattle.machines.specs.Tidying as tidying
use Rattle.machines.specs.Division as division
use Rattle.machines.specs.Elimination.{free_part}
use Rattle.corollaries.specs.Representation.{pairs_of}
use Rattle.corollaries.specs.Stage.{Stage, block_order, pair_at}

pub record IsDivided (O : Rank) (gs : List (Terms Fraction)) (p : Terms Fraction)
    (qs : List (Terms Fraction)) : Type 0 where
  pub ends : Ends (division.next rationals O gs) (division.initial_state gs p)
  pub is : qs ≡ ends.last.cofactors

pub record IsCompleted (O : Rank) (hs gs : List (Terms Fraction)) : Type 0 where
  pub ends : Ends (completion.next rationals O) (completion.initial_state rationals O hs)
  pub is : gs ≡ ends.last.basis

pub record IsTidied (gs out : List (Terms Fraction)) : Type 0 where
  pub ends : Ends (tidying.next rationals grevlex) (tidying.by_lead grevlex gs)
  pub is : out ≡ ends.last

pub record IsTraced (k : ℕ) (hs : List (Terms Fraction)) (s : Stage) : Type 0 where
  pub list : IsCompleted (block_order k) hs s.list
  pub gens : (i : ℕ) → i < length hs
      → IsDivided (block_order k) s.list (get_or hs i []) (get_or s.gens i [])
  pub pairs : (i : ℕ) → i < length (pairs_of (length s.list))
      → IsDivided (block_order k) s.list (s_polynomial rationals (block_order k) s.list
      (pair_at s i))
      (get_or s.pairs i [])
  pub out : IsTidied (free_part k s.list) s.out
  pub links : (i : ℕ) → i < length (free_part k s.list)
      → IsDivided grevlex s.out (get_or (free_part k s.list) i []) (get_or s.links i [])
