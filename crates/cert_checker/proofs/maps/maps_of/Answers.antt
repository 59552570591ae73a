use Rattle.std.proofs.Common.{length}
use Rattle.loop_model.specs.View.{program_of}
use Rattle.loop_model.proofs.MapsFormed.{free_all}
use Rattle.cert_checker.proofs.FormingLaws.{stops_unformed, maps_unformed}
use Rattle.cert_checker.proofs.Stopping.{passed_on}
use Rattle.cert_checker.proofs.maps.maps_of.Goals as goal

pub returns-in_err-branches-clause-refused : goal.returns-in_err-branches-clause-refused
returns-in_err-branches-clause-refused c =
    let program = program_of c.args.lp.now in
    passed_on _ _ _ c.from_residual-in_err-branches.ensures.1
    (maps_unformed program _ c.in_ok-start.ensures.free
    (stops_unformed (length program.names) _ _ c.in_err-branches.ensures.stops))

pub returns-clause-maps : goal.returns-clause-maps
returns-clause-maps c = record {
  start = c.in_ok-start.ensures.maps;
  branches = c.in_ok-branches.ensures.maps;
  free = free_all (program_of c.args.lp.now) c.in_ok-start.ensures.free
      c.in_ok-branches.ensures.free;
}
