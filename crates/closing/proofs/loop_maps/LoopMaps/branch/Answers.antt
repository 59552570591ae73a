use Rattle.std.proofs.Common.{arith}
use Rattle.closing.proofs.KeptMaps.{place_inside, branch_there}
use Rattle.closing.proofs.loop_maps.LoopMaps.branch.Goals as goal

pub index-requires : goal.index-requires
index-requires c =
    omega (
      arith,
      place_inside c.args.self.now c.requires,
      c.args.self.now.maps.now.branches.ok.0,
    )

pub returns : goal.returns
returns c = branch_there c.args.self.now c.requires c.index.result.now c.index.ensures
