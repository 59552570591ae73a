-- Valid full certificates, part by part, and verdicts.
--   Part                     a part of a full certificate, by its path
--   Holds program c part     that part holds
--   parts program c          all of them, in the order in which they are tested
--   AllHold program c        each holds: the full certificate is valid
--   IsFirst program c part   it doesn't hold, and those before it do
--   Verdict; IsVerdict program c v     complete, or the first part that doesn't hold
use Rattle.std.specs.Prelude.{◌≡◌, ℕ, zero, suc, List, [], ◌∷◌, ◌++◌, map, flat_map, get_or, length}
use Rattle.algebra.specs.Each.{Each}
use Rattle.algebra.specs.Fraction.{ℚ}
use Rattle.polynomials.specs.Terms.{Same, AllSame, combination}
use Rattle.loops.specs.Program.{Expr, Program}
use Rattle.loops.specs.Map.{branch_map}
use Rattle.loops.specs.Certificate.{PassesStart, PassesStep}
use Rattle.rounds.specs.Start.{start_list}
use Rattle.corollaries.specs.Stage.{Place, HoldsAt, below, places}
use Rattle.corollaries.specs.FormIdentities.{IsRightForm}
use Rattle.corollaries.specs.Full.{FullCertificate, Kind, orbit, meet, certificate, form_of, stage_of, front_of, before, starting}

pub data Part : Type 0 where
  in_basis : (e : ℕ) → Part
  in_steps : (b e : ℕ) → Part
  in_forms : (b : ℕ) → Part
  in_start : (i : ℕ) → Part
  in_round : (r b : ℕ) → Kind → Place → Part
  at_end : Part

module _ {At : Type 0} (program : Program (Expr At)) (c : FullCertificate) where
  abbrev pub Holds : Part → Type 0
  Holds (in_basis e) = PassesStart program (certificate c) e
  Holds (in_steps b e) = PassesStep program (certificate c) b e
  Holds (in_forms b) =
      IsRightForm (branch_map program (get_or program.branches b [])) (length program.names)
      (form_of c b)
  Holds (in_start i) = Same ℚ (get_or (start_list program) i [])
      (combination ℚ (get_or c.start_links i []) c.start_out)
  Holds (in_round r b kind place) =
      HoldsAt (front_of c b kind) (starting program c r b kind) (stage_of c r b kind) place
  Holds at_end = AllSame ℚ (before program c (length c.rounds)) c.basis

  -- ---- in order
  abbrev pub stage_parts : ℕ → ℕ → Kind → List Part
  stage_parts r b kind =
      map (in_round r b kind)
      (places (front_of c b kind) (starting program c r b kind) (stage_of c r b kind))

  -- the first branch has no intersection
  unfoldable pub branch_parts : ℕ → ℕ → List Part
  branch_parts r zero = stage_parts r 0 orbit
  branch_parts r (suc b) = stage_parts r (suc b) orbit ++ stage_parts r (suc b) meet

  abbrev pub basis_parts : List Part
  basis_parts = map in_basis (below (length c.basis))

  abbrev pub step_parts : List Part
  step_parts =
      flat_map (λ b. map (in_steps b) (below (length c.basis))) (below (length program.branches))

  abbrev pub form_parts : List Part
  form_parts = map in_forms (below (length program.branches))

  abbrev pub start_parts : List Part
  start_parts = map in_start (below (length (start_list program)))

  abbrev pub round_parts : List Part
  round_parts =
      flat_map (λ r. flat_map (branch_parts r) (below (length program.branches)))
      (below (length c.rounds))

  unfoldable pub parts : List Part
  parts =
      basis_parts ++ (step_parts ++ (form_parts ++ (start_parts ++ (round_parts ++ at_end ∷ []))))

  pub record AllHold : Type 0 where
    pub each : Each Holds parts

  pub record IsFirst (part : Part) : Type 0 where
    pub earlier : List Part
    pub later : List Part
    pub is : parts ≡ earlier ++ part ∷ later
    pub holds : Each Holds earlier
    pub fails : Holds part → ⊥

pub data Verdict : Type 0 where
  complete : Verdict
  fails : Part → Verdict

abbrev pub IsVerdict : {At : Type 0} → Program (Expr At) → FullCertificate → Verdict → Type 0
IsVerdict program c complete = AllHold program c
IsVerdict program c (fails part) = IsFirst program c part
