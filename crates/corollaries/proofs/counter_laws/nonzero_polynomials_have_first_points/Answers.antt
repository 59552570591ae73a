use Rattle.corollaries.proofs.Points.{first_points, first_point_one, first_point_low}
use Rattle.corollaries.proofs.counter_laws.nonzero_polynomials_have_first_points.Goals as goal

pub returns : goal.returns
returns c = record { some = first_points; one = first_point_one; low = first_point_low }
