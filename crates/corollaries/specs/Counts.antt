-- How many polynomials the lists of a full certificate have.
--   IsStageCounted k n s     the stage s, which eliminates k variables, has as many cofactors as it must, where it begins with n polynomials
--   IsSquare n rows          n rows of n polynomials
--   IsBranchCounted program c r b     the stages of branch b in round r have as many cofactors as they must
--   IsCounted program c      the full certificate c has as many of all as it must for the program: in each round an entry for each branch, with an
--                            intersection for each but the first
use Rattle.std.specs.Prelude.{◌≡◌, ℕ, ◌<◌, List, [], All, get_or, length, None, is_some, true}
use Rattle.algebra.specs.Fraction.{Fraction}
use Rattle.polynomials.specs.Terms.{Terms}
use Rattle.machines.specs.Elimination.{free_part}
use Rattle.loops.specs.Program.{Expr, Program}
use Rattle.corollaries.specs.Representation.{pairs_of}
use Rattle.corollaries.specs.Stage.{Stage, no_stage}
use Rattle.corollaries.specs.Full.{FullCertificate, WrittenForm, BranchStages, orbit, meet, stage_of, front_of, starting}

pub record IsStageCounted (k n : ℕ) (s : Stage) : Type 0 where
  pub gens : length s.gens ≡ n
  pub gens_widths : All (λ row. length row ≡ length s.list) s.gens
  pub pairs : length s.pairs ≡ length (pairs_of (length s.list))
  pub pairs_widths : All (λ row. length row ≡ length s.list) s.pairs
  pub links : length s.links ≡ length (free_part k s.list)
  pub links_widths : All (λ row. length row ≡ length s.out) s.links

pub record IsSquare (n : ℕ) (rows : List (List (Terms Fraction))) : Type 0 where
  pub height : length rows ≡ n
  pub widths : All (λ row. length row ≡ n) rows

abbrev pub no_branch : BranchStages
no_branch = record { orbit_stage = no_stage; meet_stage = None }

module _ {At : Type 0} (program : Program (Expr At)) (c : FullCertificate) where
  pub record IsBranchCounted (r b : ℕ) : Type 0 where
    pub orbit : IsStageCounted (front_of c b orbit) (length (starting program c r b orbit))
        (stage_of c r b orbit)
    pub meet : 0 < b → IsStageCounted 1 (length (starting program c r b meet)) (stage_of c r b meet)

  pub record IsCounted : Type 0 where
    pub steps : length c.steps ≡ length program.branches
    pub squares : All (IsSquare (length c.basis)) c.steps
    pub forms : length c.forms ≡ length program.branches
    pub polys : All (λ (f : WrittenForm). length f.polys ≡ length program.names) c.forms
    pub links : length c.start_links ≡ length program.init
    pub links_widths : All (λ row. length row ≡ length c.start_out) c.start_links
    pub rounds : All (λ row. length row ≡ length program.branches) c.rounds
    pub first : (r : ℕ) → r < length c.rounds → 0 < length program.branches
        → (get_or (get_or c.rounds r []) 0 no_branch).meet_stage ≡ None
    pub others : (r b : ℕ) → r < length c.rounds → 0 < b → b < length program.branches
        → is_some (get_or (get_or c.rounds r []) b no_branch).meet_stage ≡ true
    pub stages : (r b : ℕ) → r < length c.rounds → b < length program.branches → IsBranchCounted r b
