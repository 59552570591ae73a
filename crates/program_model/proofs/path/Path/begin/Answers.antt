use Rattle.std.proofs.Common.{refl}
use Rattle.program_model.proofs.Closed.{follows_begin, begin_ready, none_unknown}
use Rattle.program_model.proofs.path.Path.begin.Goals as goal

pub returns-clause-ready : goal.returns-clause-ready
returns-clause-ready c = begin_ready c.args.variables _ c.requires.some c.requires.few refl refl
    c.new.ensures.items c.in_ok-images.ensures.variables

pub returns-clause-way : goal.returns-clause-way
returns-clause-way c = record {
  variables = refl;
  from = refl;
  unknowns = none_unknown;
  follows = follows_begin c.args.variables _ _ c.new.ensures.items
      c.in_ok-images.ensures.variables;
}
