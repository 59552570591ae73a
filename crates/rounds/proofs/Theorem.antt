-- The theorem on journals, with nothing assumed but the definitions.
--   lists_are_bases       at each state the lists given so far are reduced bases of the invariants of their tasks
--   lists_from_are_bases  from a list, of what the loop keeps of its ideal along the words of their tasks
--   begins_at_starts, begins_at_list      what an analysis begins with generates what is zero at starts, or the ideal of the list that is given
--   finished_from         a finished journal from a list ends with the list of a closed round that is the reduced basis of what is kept
--   finished_from_generates      and generates it
--   finished_is           a finished journal ends with the list of a closed round that is the reduced basis of the invariants
--   finished_generates    and generates them
--   answered_is, answered_decides_all     so does an answered one, whose division decides
--   same_basis_same       two finished journals have one basis exactly where their programs have the same invariants
use Rattle.std.proofs.Common.{◌≡◌, ◌↔◌, ℕ, ◌<◌, List, length, sym, ap, subst, refl, Option, Some, None}
use Rattle.algebra.proofs.Fractions.{ℚ_field}
use Rattle.algebra.specs.Fraction.{Fraction, ℚ, rationals}
use Rattle.polynomials.specs.Order.{grevlex}
use Rattle.polynomials.specs.Terms.{Terms}
use Rattle.polynomials.specs.Polynomial.{Arity, IsPolynomial}
use Rattle.polynomials.proofs.Orders.{grevlex_order}
use Rattle.ideals.specs.Members.{IsMember}
use Rattle.machines.specs.Journal.{Entry}
use Rattle.machines.specs.Division as division
use Rattle.machines.specs.Reduced.{IsReducedFor}
use Rattle.machines.proofs.Places.{in_slice}
use Rattle.machines.proofs.Reducing.{one_reduced}
use Rattle.machines.proofs.ReducedLists.{reduced_arity}
use Rattle.loops.specs.Program.{Expr, Program}
use Rattle.loops.specs.Inv.{Inv}
use Rattle.loops.specs.WellFormed.{IsWellFormed}
use Rattle.rounds.specs.Word.{AtMost, Every, Stays, IsZeroAtStarts}
use Rattle.rounds.specs.Generate.{Generates}
use Rattle.rounds.specs.Round.{IsClosed, IsRound}
use Rattle.rounds.specs.Orbit.{IsEliminated}
use Rattle.rounds.specs.Form.{Form}
use Rattle.rounds.specs.Analysis.{State, starts, block, starting, list_at}
use Rattle.rounds.specs.Journal.{AreForms, since_of, FollowsFrom, Follows, IsFinished, IsFinishedFrom, IsAnswered, setting_of, setting_from}
use Rattle.rounds.specs.Kept.{IsKept}
use Rattle.rounds.specs.Level.{IsZeroAfter}
use Rattle.rounds.specs.Lists.{AreInvariants, AreKept}
use Rattle.rounds.specs.Results.{IsReducedList}
use Rattle.rounds.proofs.Invariants.{reduced_for, invariants_of_closed_round}
use Rattle.rounds.proofs.Round.{closed_generates, round_is_least}
use Rattle.rounds.proofs.Run.{zero_of_stays, stays_of_zero, inv_of_stays, stays_of_inv}
use Rattle.rounds.proofs.Start.{start_list_generates}
use Rattle.rounds.proofs.Beginnings.{Begins}
use Rattle.rounds.proofs.Given.{run_given}
use Rattle.rounds.proofs.Journal.{finished_basis, answered_basis, answered_decides}
use Rattle.rounds.proofs.Lawful.{lawful}

-- ---- what an analysis begins with
module _ {At : Type 0} (program : Program (Expr At)) (forms : List Form)
    (asked : Option (Terms Fraction)) (are : AreForms program forms) where
  -- from the starts
  pub begins_at_starts : IsWellFormed program → Begins program (setting_of program forms asked)
      (IsZeroAtStarts program)
  unfolding block
  begins_at_starts w = record {
    starts_generate = λ n made.
        let laws = lawful program None forms asked are in
        let gs = list_at (setting_of program forms asked) starts made.last in
        let e : IsEliminated 0 (length program.names) (starting (setting_of program forms asked)
        starts) gs = laws.eliminates starts tt tt made in
        let l = start_list_generates program w in
        record {
          arities = e.arities;
          only = λ p a i. l.only p a ((laws.start_members p a).0 (e.only p a i));
          all = λ p a h. e.all p a ((laws.start_members p a).1 (l.all p a h));
        };
    given_reduced = λ gs h. absurd (cc);
    given_generates = λ gs h. absurd (cc);
  }

  -- from a list that is given
  module _ (firsts : List (Terms Fraction)) (reduced : IsReducedList (length program.names)
      firsts) where
    the_list : List (Terms Fraction) → Option (List (Terms Fraction)) → List (Terms Fraction)
    the_list d None = d
    the_list d (Some gs) = gs

    generates_itself : Generates (length program.names) firsts (IsMember ℚ (length program.names)
        firsts)
    generates_itself = record {
      arities = reduced_arity grevlex grevlex_order (length program.names) firsts
          (IsMember ℚ (length program.names) firsts) reduced;
      only = λ p a i. i;
      all = λ p a i. i;
    }

    pub begins_at_list : Begins program (setting_from program (Some firsts) forms asked)
        (IsMember ℚ (length program.names) firsts)
    unfolding the_list
    begins_at_list = record {
      starts_generate = λ n made. absurd (cc);
      given_reduced = λ gs h. subst (IsReducedList (length program.names)) (ap (the_list firsts) h)
          reduced;
      given_generates = λ gs h.
          subst (λ l. Generates (length program.names) l (IsMember ℚ (length program.names) firsts))
          (ap (the_list firsts) h) generates_itself;
    }

-- ---- journals from the starts
module _ {At : Type 0} (program : Program (Expr At)) (w : IsWellFormed program) where
  stays_are_invariants : (gs : List (Terms Fraction))
      → IsReducedFor rationals grevlex (length program.names) gs
      (Stays program (IsZeroAtStarts program) Every)
      → IsReducedFor rationals grevlex (length program.names) gs (Inv program)
  stays_are_invariants gs r = reduced_for (length program.names)
      (Stays program (IsZeroAtStarts program) Every) (Inv program) gs (λ p a.
      (inv_of_stays program p a, stays_of_inv program p)) r

  pub lists_are_bases : (asked : Option (Terms Fraction)) (es : List Entry) (s : State)
      → (f : Follows program asked es s) → AreInvariants program (since_of f.forms) s
  lists_are_bases asked es s f =
      run_given program w.some_branch (setting_of program f.forms asked) f.are_forms.count
      (lawful program None f.forms asked f.are_forms) (IsZeroAtStarts program)
      (begins_at_starts program f.forms asked f.are_forms w) (IsZeroAfter program) (Inv program)
      (record {
        along = λ W p a. (stays_of_zero program W p, zero_of_stays program W p a);
        all = λ p a. (stays_of_inv program p, inv_of_stays program p a);
      }) es s f.run

  pub finished_is : (es : List Entry) (k : ℕ) (gs : List (Terms Fraction))
      → IsFinished program es k gs
      → IsRound program (IsZeroAtStarts program) k gs × IsClosed program gs
      × IsReducedFor rationals grevlex (length program.names) gs (Inv program)
  finished_is es k gs c =
      let f = finished_basis program w.some_branch (setting_of program c.follows.forms None)
      c.follows.are_forms.count (lawful program None c.follows.forms None c.follows.are_forms)
      (IsZeroAtStarts program) (begins_at_starts program c.follows.forms None
      c.follows.are_forms w) es c.state k gs c.follows.run c.is in
      (f.0, f.1, stays_are_invariants gs f.2)

  module _ (p : Terms Fraction) where
    pub answered_is : (es : List Entry) (k : ℕ) (gs : List (Terms Fraction))
        (d : division.State Fraction) → IsAnswered program p es k gs d
        → IsRound program (IsZeroAtStarts program) k gs × IsClosed program gs
        × IsReducedFor rationals grevlex (length program.names) gs (Inv program)
    answered_is es k gs d c =
        let f = answered_basis program w.some_branch (setting_of program c.follows.forms (Some p))
        c.follows.are_forms.count (lawful program None c.follows.forms (Some p)
        c.follows.are_forms) (IsZeroAtStarts program)
        (begins_at_starts program c.follows.forms (Some p) c.follows.are_forms w) es c.state k
        gs d c.follows.run c.is in
        (f.0, f.1, stays_are_invariants gs f.2)

    pub answered_decides_all : IsPolynomial ℚ grevlex (length program.names) p
        → (es : List Entry) (k : ℕ) (gs : List (Terms Fraction)) (d : division.State Fraction)
        → IsAnswered program p es k gs d → (d.current ≡ None) ↔ Inv program p
    answered_decides_all h es k gs d c =
        let e = answered_decides program w.some_branch (setting_of program c.follows.forms (Some p))
        c.follows.are_forms.count (lawful program None c.follows.forms (Some p)
        c.follows.are_forms) (IsZeroAtStarts program)
        (begins_at_starts program c.follows.forms (Some p) c.follows.are_forms w) p refl h es
        c.state k gs d c.follows.run c.is in
        ((λ n. inv_of_stays program p h.arity (e.0 n)), (λ i. e.1 (stays_of_inv program p i)))

  pub finished_generates : (es : List Entry) (k : ℕ) (gs : List (Terms Fraction))
      → IsFinished program es k gs → Generates (length program.names) gs (Inv program)
  finished_generates es k gs c = let f = finished_is es k gs c in invariants_of_closed_round program
      w k gs f.0 f.1

-- ---- journals from a list that is given
module _ {At : Type 0} (program : Program (Expr At)) (nonempty : 0 < length program.branches)
    (firsts : List (Terms Fraction)) (reduced : IsReducedList (length program.names) firsts) where
  abbrev I : Terms Fraction → Type 0
  I = IsMember ℚ (length program.names) firsts

  pub lists_from_are_bases : (asked : Option (Terms Fraction)) (es : List Entry) (s : State)
      → (f : FollowsFrom program (Some firsts) asked es s)
      → AreKept program firsts (since_of f.forms) s
  lists_from_are_bases asked es s f =
      run_given program nonempty (setting_from program (Some firsts) f.forms asked)
      f.are_forms.count
      (lawful program (Some firsts) f.forms asked f.are_forms) I
      (begins_at_list program f.forms asked f.are_forms firsts reduced) (Stays program I)
      (IsKept program firsts)
      (record { along = λ W p a. (λ h. h, λ h. h); all = λ p a. (λ h. h, λ h. h) }) es s f.run

  pub finished_from : (es : List Entry) (k : ℕ) (gs : List (Terms Fraction))
      → IsFinishedFrom program firsts es k gs
      → IsRound program (IsMember ℚ (length program.names) firsts) k gs × IsClosed program gs
      × IsReducedFor rationals grevlex (length program.names) gs (IsKept program firsts)
  finished_from es k gs c =
      finished_basis program nonempty (setting_from program (Some firsts) c.follows.forms None)
      c.follows.are_forms.count (lawful program (Some firsts) c.follows.forms None
      c.follows.are_forms) I (begins_at_list program c.follows.forms None c.follows.are_forms
      firsts reduced) es c.state k gs c.follows.run c.is

  pub finished_from_generates : (es : List Entry) (k : ℕ) (gs : List (Terms Fraction))
      → IsFinishedFrom program firsts es k gs
      → Generates (length program.names) gs (IsKept program firsts)
  finished_from_generates es k gs c = let f = finished_from es k gs c in
      closed_generates program I nonempty k gs f.0 f.1

  pub finished_from_least : (es : List Entry) (k : ℕ) (gs : List (Terms Fraction))
      → IsFinishedFrom program firsts es k gs → (j : ℕ) → j < k
      → ((p : Terms Fraction) → Arity (length program.names) p → Stays program I (AtMost j) p
      → IsKept program firsts p) → ⊥
  finished_from_least es k gs c j l h = let f = finished_from es k gs c in
      round_is_least program I nonempty k gs f.0 j l h

-- one basis for the same invariants
module _ {At : Type 0} (program other : Program (Expr At)) (w : IsWellFormed program)
    (v : IsWellFormed other) (size : length program.names ≡ length other.names)
    (es fs : List Entry) (k j : ℕ) (gs hs : List (Terms Fraction)) (c : IsFinished program es k gs)
    (d : IsFinished other fs j hs) where
  abbrev m : ℕ
  m = length program.names

  g : Generates m gs (Inv program)
  g = finished_generates program w es k gs c

  h : Generates m hs (Inv other)
  h = subst (λ n. Generates n hs (Inv other)) (sym size) (finished_generates other v fs j hs d)

  rg : IsReducedFor rationals grevlex m gs (Inv program)
  rg = (finished_is program w es k gs c).2

  rh : IsReducedFor rationals grevlex m hs (Inv other)
  rh = subst (λ n. IsReducedFor rationals grevlex n hs (Inv other)) (sym size)
      (finished_is other v fs j hs d).2

  pub same_basis_same : (gs ≡ hs) ↔ ((p : Terms Fraction) → Inv program p ↔ Inv other p)
  same_basis_same = (there, back)
    where
      there : gs ≡ hs → (p : Terms Fraction) → Inv program p ↔ Inv other p
      there e p = (
        (λ i. h.only p i.arity (subst (λ l. IsMember ℚ m l p) e (g.all p i.arity i))),
        (λ i. let a : Arity m p = subst (λ n. Arity n p) (sym size) i.arity in
            g.only p a (subst (λ l. IsMember ℚ m l p) (sym e) (h.all p a i))),
      )

      back : ((p : Terms Fraction) → Inv program p ↔ Inv other p) → gs ≡ hs
      back s = one_reduced ℚ_field grevlex grevlex_order m gs (λ n x at.
          rg.polynomials x (in_slice gs n x at)) gs hs
          (reduced_for m (Inv program) (IsMember ℚ m gs) gs (λ p a. (g.all p a, g.only p a)) rg)
          (reduced_for m (Inv other) (IsMember ℚ m gs) hs (λ p a. (
            (λ i. g.all p a ((s p).1 i)),
            (λ i. (s p).0 (g.only p a i)),
          )) rh)
