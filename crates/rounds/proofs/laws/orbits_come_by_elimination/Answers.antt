use Rattle.rounds.proofs.Orbit.{eliminated_within}
use Rattle.rounds.proofs.Orbits.{form_orbit, form_iteration}
use Rattle.rounds.proofs.laws.orbits_come_by_elimination.Goals as goal

pub returns : goal.returns
returns c s = record {
  orbit = λ program b f closed gs ks ga e. form_orbit program b f closed gs ga ks e;
  iteration = λ program b f closed gs ks images ga at e.
      form_iteration program b f closed gs ga images at ks e;
  within = eliminated_within;
}
