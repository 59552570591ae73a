-- The maps of the branches, at an item of the loop over them.
--   branch_here, map_here    the branch is there, and the item is its map
use Rattle.std.proofs.Common.{◌≡◌, ℕ, ◌<◌, List, [], length, get_or, arith, Vec, Global}
use Rattle.loops.specs.Program.{Expr, Program}
use Rattle.loop_model.specs.FracPoly.{FracPoly}
use Rattle.loop_model.specs.Maps.{IsBranchMap, AreBranchMaps}
use Rattle.loop_model.proofs.BranchMaps.{maps_count, map_at}
use Rattle.loop_model.proofs.Items.{in_list, item_of}

module _ (program : Program (Expr ℕ)) {maps items : List (Vec FracPoly Global)}
    (h : AreBranchMaps program maps program.branches) (value : items ≡ maps) (i : ℕ)
    (l : i < length items) where
  pub branch_here : i < length program.branches
  branch_here =
      let k = in_list maps items value i l in
      omega (arith, k, maps_count program maps h)

  pub map_here : {images : Vec FracPoly Global} → images ≡ get_or items i images
      → IsBranchMap program images (get_or program.branches i [])
  map_here {images = images} is =
      map_at program maps images i h branch_here (item_of maps items value i images is)
