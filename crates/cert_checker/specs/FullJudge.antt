-- The judge of a full certificate, as the code has it.
--   program_by j, cert_by j     the program of its loop, and the certificate
--   IsFullJudge j               the certificate has the polynomials and the counts that it must have for the loop, and the maps are those of the loop
--   Hold j parts                the parts hold;  StopsAmong j parts e: the judging of them stops for e
--   terms_by j                  how many terms a part multiplies out to
--   stage_by, branch_by, round_by, rounds_by, further_by     the parts of a stage, of a branch, of a round, of all rounds, and all behind the certificate itself
use Rattle.std.specs.Prelude.{ℕ, List, length}
use Rattle.std.specs.List.{flat_map}
use Rattle.algebra.specs.Each.{Each}
use Rattle.loops.specs.Program.{Expr, Program}
use Rattle.loop_model.specs.Maps.{AreBranchMaps}
use Rattle.loop_model.specs.View.{program_of}
use Rattle.corollaries.specs.Counts.{IsCounted}
use Rattle.corollaries.specs.Full.{FullCertificate, Kind}
use Rattle.corollaries.specs.Parts.{Part, Holds, stage_parts, branch_parts, round_parts}
use Rattle.corollaries.specs.Stage.{below}
use Rattle.task_lists.specs.Images.{IsFullIn}
use Rattle.task_lists.specs.Starts.{StandForStart}
use Rattle.task_lists.specs.View.{full_of}
use Rattle.cert_checker.specs.FullStops.{IsStop}
use Rattle.cert_checker.specs.FullWide.{IsPastPart}
use Rattle.cert_checker.specs.Further.{further_parts}
use Rattle.cert_checker.specs.LongParts.{part_terms}
use Rattle.cert_checker.specs.Parts.{part_of}
use Rattle.cert_checker.specs.declared.full_judge.FullJudge.{FullJudge}
use Rattle.cert_checker.specs.declared.full_part.Part.{Part as Found}
use Rattle.cert_checker.specs.declared.full_stop.Stop.{Stop}

abbrev pub program_by : FullJudge → Program (Expr ℕ)
program_by j = program_of j.lp.now

abbrev pub cert_by : FullJudge → FullCertificate
cert_by j = full_of j.cert.now

pub record IsFullJudge (j : FullJudge) : Type 0 where
  pub images : IsFullIn (length (program_by j).names) j.cert.now
  pub counted : IsCounted (program_by j) (cert_by j)
  pub values : StandForStart (program_by j) j.values.items
  pub maps : AreBranchMaps (program_by j) j.maps.items (program_by j).branches

module _ (j : FullJudge) where
  abbrev pub Hold : List Part → Type 0
  Hold = Each (Holds (program_by j) (cert_by j))

  abbrev pub StopsAmong : List Part → Stop Found → Type 0
  StopsAmong =
      IsStop part_of (Holds (program_by j) (cert_by j)) (IsPastPart (program_by j) (cert_by j))

  abbrev pub terms_by : Part → ℕ
  terms_by = part_terms (program_by j) (cert_by j)

  abbrev pub stage_by : ℕ → ℕ → Kind → List Part
  stage_by = stage_parts (program_by j) (cert_by j)

  abbrev pub branch_by : ℕ → ℕ → List Part
  branch_by = branch_parts (program_by j) (cert_by j)

  abbrev pub round_by : ℕ → List Part
  round_by r =
      flat_map (branch_parts (program_by j) (cert_by j) r) (below (length (program_by j).branches))

  abbrev pub rounds_by : List Part
  rounds_by = round_parts (program_by j) (cert_by j)

  abbrev pub further_by : List Part
  further_by = further_parts (program_by j) (cert_by j)
