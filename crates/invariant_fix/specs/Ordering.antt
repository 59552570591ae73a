-- The basis with its variables in the order of the elimination, as code has it.
--   AreImages m is ps        the ps are the variables for those of a loop with m, each at its place in the order
--   HaveHidden m is hs       each of the hs is in the order with the hidden ones first, over all
--   IsStarting m is gs hs    the hs are the elements gs so ordered
--   IsListOf m is hs s       the hs are the list of the elimination in the state s
use Rattle.std.specs.Prelude.{◌≡◌, ℕ, List, length}
use Rattle.std.specs.Global.{Vec}
use Rattle.algebra.specs.Fraction.{Fraction}
use Rattle.machines.specs.Elimination as elimination
use Rattle.poly.specs.Seen.{terms_each}
use Rattle.loop_model.specs.FracPoly.{FracPoly}
use Rattle.ideal_ops.specs.Calls.{AreOver}
use Rattle.ideal_ops.specs.Eliminating.{HaveBlock}
use Rattle.invariant_fix.specs.Blocked.{Blocked}
use Rattle.corollaries.specs.Order.{hidden, arity, images, starting}
use Rattle.corollaries.specs.Journal.{list_of}

module _ (m : ℕ) (is : List ℕ) where
  abbrev pub AreImages : List FracPoly → Type 0
  AreImages ps = (terms_each ps ≡ images m is) × AreOver (arity m is) ps

  abbrev pub HaveHidden : List Blocked → Type 0
  HaveHidden hs = HaveBlock (length (hidden m is)) (arity m is) hs

  abbrev pub IsStarting : List FracPoly → List Blocked → Type 0
  IsStarting gs hs = terms_each hs ≡ starting m is (terms_each gs)

  abbrev pub IsListOf : Vec FracPoly → elimination.State Fraction → Type 0
  IsListOf hs s = terms_each hs.items ≡ list_of m is s
