use Rattle.std.proofs.Common.{length}
use Rattle.std.proofs.lemmas.Result.{IfOk-weaker}
use Rattle.loops.specs.Map.{start_map}
use Rattle.loops.proofs.Maps.{arity-start_map}
use Rattle.closing.specs.LoopMaps.{program_in}
use Rattle.closing.proofs.Composing.{all_over}
use Rattle.closing.proofs.KeptMaps.{kept_maps}
use Rattle.closing.proofs.loop_maps.LoopMaps.from_start.Goals as goal

pub composition_of-requires : goal.composition_of-requires
composition_of-requires c =
    let program = program_in c.args.self.now in
    record {
      images =
          all_over c.args.candidate.now.polynomial c.requires _ _ (kept_maps c.args.self.now).start
          (arity-start_map program);
    }

pub returns-clause-image : goal.returns-clause-image
returns-clause-image c =
    let program = program_in c.args.self.now in
    IfOk-weaker c.composition_of.result _ _
    (λ q h. record { arity = h.arity; terms = h.terms })
    (c.composition_of.ensures.composed (length program.names) (start_map program)
    c.requires (kept_maps c.args.self.now).start (arity-start_map program))

pub returns-clause-stopped : goal.returns-clause-stopped
returns-clause-stopped c =
    let program = program_in c.args.self.now in
    c.composition_of.ensures.stopped (length program.names) (start_map program)
    c.requires (kept_maps c.args.self.now).start (arity-start_map program)
