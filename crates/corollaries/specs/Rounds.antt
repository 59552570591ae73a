-- Between the tasks of the rounds of a trace. Branches count from 0.
--   behind out links rounds     what the start and some rounds have given
--   within d bs s               where behind d the branches bs of a round have ended, and s is the last orbit
--   alone s, both s t           the stages of the first branch, and of another
--   OrbitBegins es k b gs hs       behind the es the orbit of the gs along branch b comes, where the hs are those before;  OrbitEnds es k b gs hs s: what comes when it has ended with the stage s
--   MeetBegins es k b gs hs ks     so of the intersection of the hs with that orbit ks;  Met es k b gs hs ks s
--   ComesBehind es k p gs bs hs     behind the es so many branches of round k have ended, p, with their stages bs and the list hs
use Rattle.std.specs.Prelude.{◌≡◌, ℕ, suc, List, [], Some, None}
use Rattle.algebra.specs.Fraction.{Fraction}
use Rattle.polynomials.specs.Terms.{Terms}
use Rattle.machines.specs.Journal as journal
use Rattle.machines.specs.Journal.{Entry, Begin}
use Rattle.rounds.specs.Analysis.{Setting, orbit, meet}
use Rattle.corollaries.specs.Stage.{Stage, no_stage}
use Rattle.corollaries.specs.Full.{BranchStages}
use Rattle.corollaries.specs.Coming.{Comes}
use Rattle.corollaries.specs.Trace.{Results, with_stage, goes, start_of, begin_orbit, after_branch, after}

abbrev pub behind : List (Terms Fraction) → List (List (Terms Fraction))
    → List (List BranchStages) → Results
behind out links rounds = record {
  start_out = out;
  start_links = links;
  rounds = rounds;
  branches = [];
  orbit_stage = no_stage;
}

abbrev pub within : Results → List BranchStages → Stage → Results
within d bs s = record {
  start_out = d.start_out;
  start_links = d.start_links;
  rounds = d.rounds;
  branches = bs;
  orbit_stage = s;
}

abbrev pub alone : Stage → BranchStages
alone s = record { orbit_stage = s; meet_stage = None }

abbrev pub both : Stage → Stage → BranchStages
both s t = record { orbit_stage = s; meet_stage = Some t }

module _ (A : Setting) (rounds : ℕ) (d : Results) (es : List Entry) (k b : ℕ)
    (gs hs : List (Terms Fraction)) where
  abbrev pub OrbitBegins : Type 0
  OrbitBegins = Comes A rounds es (begin_orbit A rounds d k b gs hs)

  abbrev pub OrbitEnds : Stage → Type 0
  OrbitEnds s = Comes A rounds es
      (after A rounds (with_stage d (orbit k b gs hs) s) (orbit k b gs hs) s.out)

  abbrev pub MeetBegins : List (Terms Fraction) → Type 0
  MeetBegins ks = Comes A rounds es
      (goes (Begin (journal.Meet k (suc b))) (start_of A d (meet k b gs hs ks)))

  abbrev pub MeetEnds : List (Terms Fraction) → Stage → Type 0
  MeetEnds ks s = Comes A rounds es
      (after A rounds (with_stage d (meet k b gs hs ks) s) (meet k b gs hs ks) s.out)

pub record ComesBehind (A : Setting) (rounds : ℕ) (d : Results) (es : List Entry) (k p : ℕ)
    (gs : List (Terms Fraction)) (bs : List BranchStages) (hs : List (Terms Fraction)) : Type
    0 where
  pub last : ℕ
  pub is : suc last ≡ p
  pub stage : Stage
  pub comes : Comes A rounds es (after_branch A rounds (within d bs stage) k last gs hs)
