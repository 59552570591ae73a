-- What comes in a round, branch by branch.
--   round_begun            the first branch
--   iteration_due, orbit_due, meet_due, met_done, iterations_go_on     what follows in a branch
--   branch_at, closing_at  what follows it, by the number of the next branch
use Rattle.std.proofs.Common.{◌≡◌, ◌⊎◌, inl, inr, ℕ, zero, suc, pred, ◌+◌, ◌-◌, ◌<◌, ◌≤◌, cond, List, length, refl, ap, subst, arith}
use Rattle.std.proofs.lemmas.Bool.{lt-ltb, le-ltb}
use Rattle.std.proofs.lemmas.List.{length-map}
use Rattle.algebra.specs.Fraction.{Fraction}
use Rattle.polynomials.specs.Terms.{Terms}
use Rattle.machines.specs.Journal as journal
use Rattle.machines.specs.Journal.{Entry, Begin, Journal, units_of}
use Rattle.poly.specs.Seen.{terms_each}
use Rattle.journal.specs.View.{with_entry}
use Rattle.rounds.specs.Analysis as analysis
use Rattle.rounds.specs.Analysis.{Setting, form_of, iterations_of, next, begin_branch, begin_iteration, begin_orbit, begin_meet, after_iterations, after_branch, after_orbit, after, closing_from, orbit}
use Rattle.loop_model.specs.FracPoly.{FracPoly}
use Rattle.invariant_fix.specs.Coming.{Comes}
use Rattle.invariant_fix.specs.Setting.{setting_of}
use Rattle.invariant_fix.specs.InWork.{Awaits, branching, branched, iteration_begins, iteration_ends, iteration_meets, iteration_met, orbiting, orbited, meeting, met}
use Rattle.invariant_fix.specs.Steps as step
use Rattle.invariant_fix.specs.Steps.{HasIterations, HasMeet, HasWhole, turning, started, closing}
use Rattle.invariant_fix.specs.declared.branch_in_work.BranchInWork.{BranchInWork}
use Rattle.invariant_fix.specs.declared.setting.Setting as setting
use Rattle.invariant_fix.proofs.Lists.{units_begun}
use Rattle.invariant_fix.proofs.TaskLengths.{turning_short}
use Rattle.invariant_fix.proofs.Tasks.{begun_task}

-- ---- numbers of iterations
pred_is : (d : ℕ) → pred d ≡ d - 1
pred_is zero = refl
pred_is (suc d) = omega arith

-- ---- of any setting
module _ (A : Setting) (k b : ℕ) (gs : List (Terms Fraction)) where
  iteration_comes : (n : ℕ) (ks hs : List (Terms Fraction)) → n < iterations_of A b
      → after_iterations A k b n gs ks hs ≡ begin_iteration A k b n gs ks hs
  unfolding after_iterations
  iteration_comes n ks hs l =
      ap (λ o. cond o (begin_iteration A k b n gs ks hs) (begin_orbit A k b gs hs))
      (lt-ltb n (iterations_of A b) l)

  orbit_comes : (n : ℕ) (ks hs : List (Terms Fraction)) → iterations_of A b ≤ n
      → after_iterations A k b n gs ks hs ≡ begin_orbit A k b gs hs
  unfolding after_iterations
  orbit_comes n ks hs l =
      ap (λ o. cond o (begin_iteration A k b n gs ks hs) (begin_orbit A k b gs hs))
      (le-ltb n (iterations_of A b) l)

  branch_comes : (hs : List (Terms Fraction)) → suc b < length A.forms
      → after_branch A k b gs hs ≡ begin_branch A k (suc b) gs hs
  unfolding after_branch
  branch_comes hs l = ap (λ o. cond o (begin_branch A k (suc b) gs hs) (closing_from A k 0 0 hs))
      (lt-ltb (suc b) (length A.forms) l)

  closing_comes : (hs : List (Terms Fraction)) → length A.forms ≤ suc b
      → after_branch A k b gs hs ≡ closing_from A k 0 0 hs
  unfolding after_branch
  closing_comes hs l = ap (λ o. cond o (begin_branch A k (suc b) gs hs) (closing_from A k 0 0 hs))
      (le-ltb (suc b) (length A.forms) l)

meet_comes : (A : Setting) (k b : ℕ) (gs hs ls : List (Terms Fraction))
    → (0 < b) ⊎ (0 < (form_of A b).since) → after A (orbit k b gs hs) ls ≡ begin_meet A k b gs hs ls
unfolding after
meet_comes A k b gs hs ls h = go (form_of A b).since b h
  where
    go : (d b : ℕ) → (0 < b) ⊎ (0 < d) → after_orbit A d k b gs hs ls ≡ begin_meet A k b gs hs ls
    go zero zero (inl l) = absurd (omega (arith, l))
    go zero zero (inr l) = absurd (omega (arith, l))
    go zero (suc b) h = refl
    go (suc d) b h = refl

whole_comes : (A : Setting) (k b : ℕ) (gs hs ls : List (Terms Fraction)) → b ≡ 0
    → (form_of A b).since ≡ 0 → after A (orbit k b gs hs) ls ≡ after_branch A k b gs ls
unfolding after
whole_comes A k b gs hs ls first e = go (form_of A b).since b first e
  where
    go : (d b : ℕ) → b ≡ 0 → d ≡ 0 → after_orbit A d k b gs hs ls ≡ after_branch A k b gs ls
    go zero zero f e = refl
    go zero (suc b) f e = absurd (omega (arith, f))
    go (suc d) b f e = absurd (omega (arith, e))

-- ---- of the program's own
module _ (s : setting.Setting) (k : ℕ) (gs : List FracPoly) where
  turning_next : next (setting_of s) (analysis.turning k (terms_each gs)) ≡ step.branching s k 0 gs
      (terms_each gs)
  unfolding next
  turning_next = refl

  pub round_begun : (old mid : Journal) → Comes (setting_of s) old.entries (turning k gs)
      → mid ≡ with_entry old (Begin (journal.Round k))
      → Comes (setting_of s) mid.entries (step.branching s k 0 gs (terms_each gs))
  round_begun old mid c e = record {
    state = analysis.turning k (terms_each gs);
    run = begun_task (setting_of s) old mid (journal.Round k) (analysis.turning k (terms_each gs)) c
        e;
    is = turning_next;
    short = turning_short (setting_of s) k (terms_each gs);
  }

  pub round_unit : (old mid : Journal) → mid ≡ with_entry old (Begin (journal.Round k))
      → units_of mid.entries ≡ units_of old.entries + 1
  round_unit old mid e = units_begun old mid (journal.Round k) e

-- ---- of a branch in work
module _ (w : BranchInWork) (j : Journal) where
  abbrev A : Setting
  A = setting_of w.setting.now

  abbrev gs : List (Terms Fraction)
  gs = terms_each w.basis.now

  -- ---- its iterations
  pub iteration_due : (hs : List FracPoly) → HasIterations w.setting.now w.place
      → Awaits w j (branching w hs) → Awaits w j (iteration_begins w 0 w.basis.now (terms_each hs))
  iteration_due hs l c = subst (Awaits w j) (iteration_comes A w.round w.place gs 0 gs
      (terms_each hs) (let p = pred_is (form_of A w.place).since in omega (arith, p, l))) c

  pub orbit_due : (hs : List FracPoly) → (form_of A w.place).since < 2
      → Awaits w j (branching w hs) → Awaits w j (orbiting w (terms_each hs))
  orbit_due hs l c = subst (Awaits w j) (orbit_comes A w.round w.place gs 0 gs (terms_each hs)
      (let p = pred_is (form_of A w.place).since in omega (arith, p, l))) c

  pub iteration_meet_due : (n : ℕ) (ks hs ls : List FracPoly)
      → Awaits w j (iteration_ends w n ks (terms_each hs) ls)
      → Awaits w j (iteration_meets w n hs ls)
  unfolding after
  iteration_meet_due n ks hs ls c = c

  abbrev pub IsTaken : ℕ → List FracPoly → List FracPoly → Type 0
  IsTaken n ks hs = Awaits w j (after_iterations A w.round w.place n gs (terms_each ks)
      (terms_each hs))

  pub iterations_go_on : (n : ℕ) (hs ks ls : List FracPoly)
      → Awaits w j (iteration_met w n hs ks ls) → IsTaken (suc n) ks ls
  unfolding after
  iterations_go_on n hs ks ls c = c

  pub next_iteration : (n : ℕ) (ks hs : List FracPoly) → suc n < (form_of A w.place).since
      → IsTaken n ks hs → Awaits w j (iteration_begins w n ks (terms_each hs))
  next_iteration n ks hs l c = subst (Awaits w j) (iteration_comes A w.round w.place gs n
      (terms_each ks) (terms_each hs)
      (let p = pred_is (form_of A w.place).since in omega (arith, p, l))) c

  pub iterations_end : (n : ℕ) (ks hs : List FracPoly) → (form_of A w.place).since ≤ suc n
      → IsTaken n ks hs → Awaits w j (orbiting w (terms_each hs))
  iterations_end n ks hs l c = subst (Awaits w j) (orbit_comes A w.round w.place gs n
      (terms_each ks) (terms_each hs)
      (let p = pred_is (form_of A w.place).since in omega (arith, p, l))) c

  -- ---- its orbit
  pub meet_due : (hs ls : List FracPoly) → HasMeet w.setting.now w.place
      → Awaits w j (orbited w (terms_each hs) ls) → Awaits w j (meeting w hs ls)
  meet_due hs ls h c = subst (Awaits w j) (meet_comes A w.round w.place gs (terms_each hs)
      (terms_each ls) h) c

  pub met_done : (hs ks ls : List FracPoly) → Awaits w j (met w hs ks ls)
      → Awaits w j (branched w ls)
  unfolding after
  met_done hs ks ls c = c

  pub whole_done : (hs : List (Terms Fraction)) (ls : List FracPoly) → w.place ≡ 0
      → HasWhole w.setting.now w.place → Awaits w j (orbited w hs ls) → Awaits w j (branched w ls)
  whole_done hs ls first e c = subst (Awaits w j) (whole_comes A w.round w.place gs hs
      (terms_each ls) first e) c

pub started_closing : (s : setting.Setting) {es : List Entry} (gs : List FracPoly)
    → Comes (setting_of s) es (started s gs) → Comes (setting_of s) es (closing s 0 0 0 gs)
unfolding after
started_closing s gs c = c

-- ---- by the number of the next branch
module _ (s : setting.Setting) (k : ℕ) (gs : List FracPoly) where
  forms_count : length (setting_of s).forms ≡ length s.branches.items
  forms_count = length-map s.branches.items _

  -- what comes behind the branches before this one
  abbrev pub ComesAt : List Entry → ℕ → List FracPoly → Type 0
  ComesAt es p hs = (b : ℕ) → suc b ≡ p
      → Comes (setting_of s) es (step.branched s k b gs (terms_each hs))

  pub come_at : {es : List Entry} (p : ℕ) {n : ℕ} (hs : List FracPoly) → n ≡ suc p
      → Comes (setting_of s) es (step.branched s k p gs (terms_each hs)) → ComesAt es n hs
  come_at {es = es} p hs e c b is =
      subst (λ x. Comes (setting_of s) es (step.branched s k x gs (terms_each hs)))
      (let z : p ≡ b = omega (arith, e, is) in z) c

  pub branch_at : {es : List Entry} (p : ℕ) (hs : List FracPoly) → 1 ≤ p
      → p < length s.branches.items → ComesAt es p hs
      → Comes (setting_of s) es (step.branching s k p gs (terms_each hs))
  branch_at zero hs o l f = absurd (omega (arith, o))
  branch_at {es = es} (suc b) hs o l f =
      subst (Comes (setting_of s) es) (branch_comes (setting_of s) k b
      (terms_each gs) (terms_each hs) (let n = forms_count in omega (arith, n, l))) (f b refl)

  pub closing_at : {es : List Entry} (p : ℕ) (hs : List FracPoly) → 1 ≤ p
      → length s.branches.items ≤ p → ComesAt es p hs → Comes (setting_of s) es (closing s k 0 0 hs)
  closing_at zero hs o l f = absurd (omega (arith, o))
  closing_at {es = es} (suc b) hs o l f =
      subst (Comes (setting_of s) es) (closing_comes (setting_of s) k b
      (terms_each gs) (terms_each hs) (let n = forms_count in omega (arith, n, l))) (f b refl)
