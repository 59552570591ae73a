use Rattle.std.proofs.Common.{refl}
use Rattle.poly.specs.Seen.{terms_in}
use Rattle.loop_text.proofs.Degrees.{degree_is, degree_of_zero}
use Rattle.loop_text.proofs.family_counts.degree_of.Goals as goal

pub returns-in-Some : goal.returns-in-Some
returns-in-Some c = degree_is c.in-Some.degree (terms_in c.args.p.now) c.in-Some.ensures.some

pub returns-in-None : goal.returns-in-None
returns-in-None c = degree_of_zero (terms_in c.args.p.now) (c.in-None.ensures.none.0 refl)
