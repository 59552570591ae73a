use Rattle.solvable_maps.proofs.ClassSteps.{rests_turned, form_turned, later_form_turned, zero_form_turned, variable_turned}
use Rattle.solvable_maps.proofs.laws.forms_come_one_after_another.Goals as goal

pub returns : goal.returns
returns c = record {
  inhomogeneity = λ base images since is earlier k g next class ps turned w p w' h n s size late.
      rests_turned base images since is earlier k g next class ps turned n s size late w p w' h;
  first = λ base images since is none g class before done w width l by splits q inhomogeneity start
      y rec
      known. form_turned base images since is none g class before done w width l by splits q
      inhomogeneity
      start y rec known;
  later = λ base images since is none g class before done w width l by splits q inhomogeneity some
      start y
      rec d known. later_form_turned base images since is none g class before done w width l by
      splits q inhomogeneity some start y rec d known;
  zero = λ base images since is none g class before done w width l by splits q inhomogeneity e start
      y rec.
      zero_form_turned base images since is none g class before done w width l by splits q
      inhomogeneity e
      start y rec;
  variable = λ base images since is none g class forms done a l by makes p values.
      variable_turned base images since is none g class forms done a l by makes p values;
}
