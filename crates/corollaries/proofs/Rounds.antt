-- From task to task in the rounds of a trace.
--   first_at                      behind the first orbit one branch has ended
--   orbit_at, meet_at, met_at     the next orbit, its intersection, and what has ended behind that
--   round_at                      behind the last branch the round has ended
--   round_begins      behind a round the next one
use Rattle.std.proofs.Common.{ℕ, zero, suc, ◌+◌, ◌<◌, ◌≤◌, List, [], ◌∷◌, ◌++◌, length, refl, subst, arith}
use Rattle.algebra.specs.Fraction.{Fraction}
use Rattle.polynomials.specs.Terms.{Terms}
use Rattle.machines.specs.Journal.{Entry}
use Rattle.rounds.specs.Analysis.{Setting}
use Rattle.corollaries.specs.Stage.{Stage}
use Rattle.corollaries.specs.Full.{BranchStages}
use Rattle.corollaries.specs.Coming.{Comes}
use Rattle.corollaries.specs.Trace.{Results, after_round}
use Rattle.corollaries.specs.Rounds.{behind, within, alone, both, OrbitBegins, OrbitEnds, MeetBegins, MeetEnds, ComesBehind}
use Rattle.corollaries.proofs.Tasks.{after_first, after_orbit, after_meet, branch_next, branch_last, round_next}

module _ (A : Setting) (R : ℕ) (d : Results) (es : List Entry) (k : ℕ)
    (gs : List (Terms Fraction)) where
  pub first_at : (s : Stage) → OrbitEnds A R d es k 0 gs [] s
      → ComesBehind A R d es k 1 gs (alone s ∷ []) s.out
  first_at s c = record {
    last = 0;
    is = refl;
    stage = d.orbit_stage;
    comes = subst (Comes A R es)
        (after_first A R (within d (alone s ∷ []) d.orbit_stage) k gs [] s.out) c;
  }

  module _ (p : ℕ) (bs : List BranchStages) (hs : List (Terms Fraction))
      (c : ComesBehind A R d es k p gs bs hs) where
    pub orbit_at : p < length A.forms → OrbitBegins A R (within d bs c.stage) es k p gs hs
    orbit_at l =
        subst (λ b. OrbitBegins A R (within d bs c.stage) es k b gs hs) c.is
        (subst (Comes A R es) (branch_next A R (within d bs c.stage) k c.last gs hs
        (let e = c.is in omega (arith, e, l))) c.comes)

    pub round_at : length A.forms ≤ p → Comes A R es
        (after_round A R (behind d.start_out d.start_links (d.rounds ++ bs ∷ [])) k hs)
    round_at l = subst (Comes A R es) (branch_last A R (within d bs c.stage) k c.last gs hs
        (let e = c.is in omega (arith, e, l))) c.comes

  pub meet_at : (p : ℕ) → 1 ≤ p → (bs : List BranchStages) (hs : List (Terms Fraction))
      (x s : Stage) → OrbitEnds A R (within d bs x) es k p gs hs s
      → MeetBegins A R (within d bs s) es k p gs hs s.out
  meet_at zero l bs hs x s c = absurd (omega (arith, l))
  meet_at (suc b) l bs hs x s c =
      subst (Comes A R es) (after_orbit A R (within d bs s) k gs hs b s.out) c

  pub met_at : (p : ℕ) (bs : List BranchStages) (hs ks : List (Terms Fraction)) (s t : Stage)
      → MeetEnds A R (within d bs s) es k p gs hs ks t
      → ComesBehind A R d es k (p + 1) gs (bs ++ both s t ∷ []) t.out
  met_at p bs hs ks s t c = record {
    last = p;
    is = omega arith;
    stage = s;
    comes = subst (Comes A R es)
        (after_meet A R (within d (bs ++ both s t ∷ []) s) k gs hs p ks t.out) c;
  }

  pub round_begins : k < R → Comes A R es (after_round A R d k gs)
      → OrbitBegins A R d es (suc k) 0 gs []
  round_begins l c = subst (Comes A R es) (round_next A R d k gs l) c
