-- The list that an elimination begins with, as the code has it.
--   AreOrdered m is basis gens    the gens are that list
--   first_ordered, arity_ordered  of the list, that isn't empty
--   ran_so                        what is done
--   over_ordered                  how many variables its list has
use Rattle.std.proofs.Common.{◌≡◌, ◌≢◌, inr, ℕ, ◌<◌, ◌≤◌, List, [], map, length, ap, ◌∙◌, arith}
use Rattle.std.specs.Global.{Vec}
use Rattle.std.proofs.lemmas.List.{length-map}
use Rattle.algebra.specs.Fraction.{rationals}
use Rattle.machines.specs.Collect.{collect}
use Rattle.machines.specs.Journal.{Journal}
use Rattle.machines.specs.Machine.{Outcome, Ran}
use Rattle.poly.specs.Seen.{arity_of, terms_in, terms_each}
use Rattle.ideal_ops.specs.Calls as ideal
use Rattle.ideal_ops.specs.Calls.{AreOver, first_block, IsEliminationOf, elimination_way, elimination_of}
use Rattle.corollaries.specs.Journal.{ordered_elimination, elimination_from}
use Rattle.corollaries.specs.Order.{hidden, visible, arity, in_order, block_order, starting}
use Rattle.loop_model.specs.FracPoly.{FracPoly}
use Rattle.invariant_fix.specs.Blocked.{Blocked}
use Rattle.invariant_fix.specs.Ordering.{HaveHidden, IsStarting, IsListOf}
use Rattle.invariant_fix.proofs.Eliminating.{AreStarting, not_empty, gens_count, some_gens, block_first, block_arity, ran_of, over_of}
use Rattle.invariant_fix.proofs.Started.{ran_started}

pub record AreOrdered (m : ℕ) (is : List ℕ) (basis : List FracPoly)
    (gens : List Blocked) : Type 0 where
  pub list : IsStarting m is basis gens
  pub block : HaveHidden m is gens
  pub some : basis ≢ []

module _ {m : ℕ} {is : List ℕ} {basis : List FracPoly} {gens : List Blocked}
    (u : AreOrdered m is basis gens) where
  put : AreStarting (length (hidden m is)) (length (visible m is))
      (starting m is (terms_each basis)) gens
  put = record { list = u.list; block = u.block }

  count : length (starting m is (terms_each basis)) ≡ length basis
  unfolding starting
  count = length-map (map (in_order m is) (terms_each basis)) (collect rationals (block_order m is))
      ∙ length-map (terms_each basis) (in_order m is) ∙ length-map basis terms_in

  pub few_ordered : (n : ℕ) → length basis ≤ n → length gens ≤ n
  few_ordered n l = let a = gens_count put in let b = count in omega (arith, a, b, l)

  filled : 0 < length (starting m is (terms_each basis))
  filled = let a = count in let b = not_empty basis u.some in omega (arith, a, b)

  pub some_ordered : gens ≢ []
  some_ordered e =
      let a = ap length e in let b = some_gens put filled in absurd (omega (arith, a, b))

  pub first_ordered : first_block gens ≡ length (hidden m is)
  first_ordered = block_first put filled

  pub arity_ordered : arity_of gens ≡ arity m is
  arity_ordered = block_arity put filled

  -- the elimination from the gens is that from the basis
  pub ran_so : (before : Journal) {after : Journal} (o : Outcome (Vec FracPoly))
      → Ran (elimination_of (elimination_way (first_block gens) gens))
      (ideal.IsListOf (elimination_way (first_block gens) gens)) before after o
      → Ran (elimination_from m is (terms_each basis)) (IsListOf m is) before after o
  ran_so before o h = ran_started (ordered_elimination m is (terms_each basis))
      inr o (ran_of put filled o h)

  pub over_ordered : (hs : List FracPoly) → IsEliminationOf gens hs
      → AreOver (length (visible m is)) hs
  over_ordered hs h = over_of put filled h
