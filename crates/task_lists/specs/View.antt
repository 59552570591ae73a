-- What full certificates and their parts are seen as.
--   stage_in s, form_in f, start_in s     the stage, the form, the start
--   branch_in b, round_in r               the stages of a branch, and of a round
--   full_of c                             the full certificate
use Rattle.std.specs.Prelude.{List, map, Vec}
use Rattle.std.specs.declared.alloc.Global.{Global}
use Rattle.std.specs.Option.{option_map}
use Rattle.algebra.specs.Fraction.{Fraction}
use Rattle.polynomials.specs.Terms.{Terms}
use Rattle.poly.specs.Seen.{terms_each}
use Rattle.coprime_base.specs.Sizes.{sizes}
use Rattle.corollaries.specs.Stage.{Stage}
use Rattle.corollaries.specs.Full.{FullCertificate, WrittenForm, BranchStages}
use Rattle.task_lists.specs.Rows.{rows_of}
use Rattle.task_lists.specs.declared.parts.FullForm.{FullForm}
use Rattle.task_lists.specs.declared.parts.FullStage.{FullStage}
use Rattle.task_lists.specs.declared.parts.FullStart.{FullStart}
use Rattle.task_lists.specs.declared.parts.FullBranch.{FullBranch}
use Rattle.task_lists.specs.declared.parts.FullCert.{FullCert}

abbrev pub stage_in : FullStage → Stage
stage_in s = record {
  list = terms_each s.list.items;
  gens = rows_of s.gens.items;
  pairs = rows_of s.pairs.items;
  out = terms_each s.out.items;
  links = rows_of s.links.items;
}

abbrev pub form_in : FullForm → WrittenForm
form_in f = record { base = sizes f.base.items; polys = terms_each f.polys.items }

abbrev pub start_in : FullStart → List (Terms Fraction) × List (List (Terms Fraction))
start_in s = (terms_each s.out.items, rows_of s.links.items)

abbrev pub branch_in : FullBranch → BranchStages
branch_in b = record { orbit_stage = stage_in b.orbit; meet_stage = option_map stage_in b.meet }

abbrev pub round_in : Vec FullBranch Global → List BranchStages
round_in r = map branch_in r.items

abbrev pub full_of : FullCert → FullCertificate
full_of c = record {
  basis = terms_each c.basis.items;
  steps = map (λ s. rows_of s.items) c.steps.items;
  forms = map form_in c.forms.items;
  start_out = (start_in c.start).0;
  start_links = (start_in c.start).1;
  rounds = map round_in c.rounds.items;
}
