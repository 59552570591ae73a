-- The variables and the orders of the polynomials of a full certificate.
--   in_blocks k            the order that eliminates the first k variables
--   AreBlockPolys k w ps   ps have this order and w variables;  AreBlockRows: so have those of lists
--   ArePolys m ps          ps have m variables;  AreRows: so have those of lists
--   most_bases             a base has at most so many numbers
--   IsFormOver m f         the base of f has at most so many, and its polynomials are over m variables
--   IsStageIn k m s        the polynomials of the stage s have the variables and orders that they should have
--   IsBranchIn m f b       so have the stages of a branch with the form f
--   AreBranchesIn m fs r   so have those of a round with the forms fs
--   IsFullIn m c           so have all parts of the full certificate c, over m variables
use Rattle.std.specs.Prelude.{ℕ, ◌+◌, ◌≤◌, List, All, Vec, vec_len, IfSome}
use Rattle.std.specs.declared.alloc.Global.{Global}
use Rattle.std.specs.List.{AllZip}
use Rattle.std.specs.declared.cmp.PartialEq as PartialEq
use Rattle.ring_laws.specs.declared.Ring as Ring
use Rattle.monos.specs.declared.order.Order as Order
use Rattle.monos.specs.declared.order.Blocks.{Blocks}
use Rattle.poly.specs.declared.Poly.{Poly}
use Rattle.poly.specs.Seen.{IsImage}
use Rattle.poly.specs.Standing.{IsInVariables}
use Rattle.solvable_maps.specs.Iterations.{width}
use Rattle.rounds.specs.Form.{front}
use Rattle.task_lists.specs.Rows.{HaveImages}
use Rattle.task_lists.specs.declared.parts.FullForm.{FullForm}
use Rattle.task_lists.specs.declared.parts.FullStage.{FullStage}
use Rattle.task_lists.specs.declared.parts.FullBranch.{FullBranch}
use Rattle.task_lists.specs.declared.parts.FullCert.{FullCert}

abbrev pub in_blocks : ℕ → Blocks
in_blocks k = record { first = k }

module _ {K : Type 0} {g : Ring.Ghosts K} {h : PartialEq.Ghosts K} {b : Order.Ghosts Blocks}
    {e : PartialEq.Ghosts Blocks} where
  abbrev pub AreBlockPolys : ℕ → ℕ → Vec (Poly K Blocks g h b e) Global → Type 0
  AreBlockPolys k w ps = All (IsImage (in_blocks k) w) ps.items

  abbrev pub AreBlockRows : ℕ → ℕ → Vec (Vec (Poly K Blocks g h b e) Global) Global → Type 0
  AreBlockRows k w rows = HaveImages (in_blocks k) w rows.items

module _ {K O : Type 0} {g : Ring.Ghosts K} {h : PartialEq.Ghosts K} {b : Order.Ghosts O}
    {e : PartialEq.Ghosts O} where
  abbrev pub ArePolys : ℕ → Vec (Poly K O g h b e) Global → Type 0
  ArePolys m ps = All (IsInVariables m) ps.items

  abbrev pub AreRows : ℕ → Vec (Vec (Poly K O g h b e) Global) Global → Type 0
  AreRows m rows = All (ArePolys m) rows.items

abbrev pub most_bases : ℕ
most_bases = 1024

pub record IsStageIn (k m : ℕ) (s : FullStage) : Type 0 where
  pub list : AreBlockPolys k (k + m) s.list
  pub gens : AreBlockRows k (k + m) s.gens
  pub pairs : AreBlockRows k (k + m) s.pairs
  pub out : ArePolys m s.out
  pub links : AreRows m s.links

pub record IsFormOver (m : ℕ) (f : FullForm) : Type 0 where
  pub few : vec_len f.base ≤ most_bases
  pub polys : ArePolys (width (vec_len f.base) m) f.polys

pub record IsBranchIn (m : ℕ) (f : FullForm) (b : FullBranch) : Type 0 where
  pub orbit : IsStageIn (front (vec_len f.base)) m b.orbit
  pub meet : IfSome b.meet (IsStageIn 1 m)

abbrev pub AreBranchesIn : ℕ → List FullForm → Vec FullBranch Global → Type 0
AreBranchesIn m fs round = AllZip (IsBranchIn m) fs round.items

pub record IsFullIn (m : ℕ) (c : FullCert) : Type 0 where
  pub basis : ArePolys m c.basis
  pub steps : All (AreRows m) c.steps.items
  pub forms : All (IsFormOver m) c.forms.items
  pub out : ArePolys m c.start.out
  pub links : AreRows m c.start.links
  pub rounds : All (AreBranchesIn m c.forms.items) c.rounds.items
