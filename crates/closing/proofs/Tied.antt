-- The tasks of a closing, as the code runs them, go on with its journal.
--   divided_on, divided_out, divided_past       a division that has ended, is out of units, stops since what comes next is past
--   extended_on, extended_out, extended_past    so of the completion of the list with a rest
--   divided_going, extended_going               where there is no memory left
--   ran_limit, ran_grows                        no task changes the limit, nor what was noted before
use Rattle.std.proofs.Common.{◌≡◌, inl, inr, ℕ, List, [], ◌∷◌, ◌++◌, map, sym, ap, subst, ◌∙◌}
use Rattle.std.proofs.lemmas.List.{append_assoc}
use Rattle.algebra.specs.Fraction.{Fraction, rationals, fractions}
use Rattle.polynomials.specs.Terms.{Terms}
use Rattle.polynomials.specs.Order.{grevlex}
use Rattle.machines.specs.Division as division
use Rattle.machines.specs.Elimination as elimination
use Rattle.machines.specs.Journal.{Task, Begin, Did, Image, Extend, Journal}
use Rattle.machines.specs.Machine.{Machine, Outcome, done, stopped, too_wide, out_of_units, out_of_memory}
use Rattle.machines.specs.Machines as machines
use Rattle.machines.specs.Run.{HasEnded}
use Rattle.machines.specs.Work.{IsExhausted}
use Rattle.loops.specs.Program.{Expr, Program}
use Rattle.closures.specs.Closing.{Candidate, State, goes, dividing, extending, next_extended, begin_extended, begin_image, next}
use Rattle.closures.specs.Follows.{Follows, IsOut, IsPastTask}
use Rattle.closures.proofs.Follows.{follows_then, divided_follows, extended_follows, division_out, extension_out, division_past, extension_past, begin_out}
use Rattle.closing.specs.Progress.{Grows, IsGoing}
use Rattle.closing.specs.Tasks.{RanTask}

pub ran_limit : {S A : Type 0} (task : Task) (M : Machine S) (G : A → S → Type 0)
    (before after : Journal) (o : Outcome A) → RanTask task M G before after o
    → after.limit ≡ before.limit
ran_limit task M G before after o (inr r) = r.limit
ran_limit task M G before after (done a) (inl r) = absurd r
ran_limit task M G before after (stopped too_wide) (inl r) = absurd r
ran_limit task M G before after (stopped out_of_units) (inl r) = ap (λ (j : Journal). j.limit) r.0
ran_limit task M G before after (stopped out_of_memory) (inl r) = ap (λ (j : Journal). j.limit) r

pub ran_grows : {S A : Type 0} (task : Task) (M : Machine S) (G : A → S → Type 0) (before : Journal)
    {after : Journal} (a : A)
    → RanTask task M G before after (done a) → Grows before.entries after.entries
ran_grows task M G before a (inl r) = absurd r
ran_grows task M G before a (inr r) =
    let w = r.to.finished.work in (
      Begin task ∷ map Did w.events,
      w.entries ∙ append_assoc before.entries (Begin task ∷ []) (map Did w.events),
    )

module _ (program : Program (Expr ℕ)) (P : List (Terms Fraction)) (n : ℕ)
    (gs : List (Terms Fraction)) (kept : List Candidate) (x : Candidate)
    (waiting : List Candidate) {A : Type 0} (before after : Journal) (s : State)
    (f : Follows program P before.entries s) where
  pub record IsDivided (G : A → division.State Fraction → Type 0) (a : A) : Type 0 where
    pub last : division.State Fraction
    pub follows : Follows program P after.entries (dividing n gs kept x waiting last)
    pub ended : HasEnded (division.next rationals grevlex gs) last
    pub gives : G a last

  pub record IsExtended (G : A → elimination.State Fraction → Type 0) (a : A) : Type 0 where
    pub last : elimination.State Fraction
    pub follows : Follows program P after.entries (extending n gs kept x waiting last)
    pub ended : HasEnded next_extended last
    pub gives : G a last

  -- ---- a division
  module _ (c : next program P s ≡ begin_image program n gs kept x waiting)
      (G : A → division.State Fraction → Type 0) where
    abbrev M : Machine (division.State Fraction)
    M = machines.division fractions grevlex gs x.polynomial

    begun : Follows program P (before.entries ++ Begin (Image n) ∷ [])
        (dividing n gs kept x waiting (division.initial_state gs x.polynomial))
    begun = follows_then program P before.entries s _ (Begin (Image n)) f c

    pub divided_on : (a : A) → RanTask (Image n) M G before after (done a) → IsDivided G a
    divided_on a (inl r) = absurd r
    divided_on a (inr r) = record {
      last = r.to.last;
      follows =
          divided_follows program P n gs kept x waiting _
          after.entries (division.initial_state gs x.polynomial) r.to.last r.to.finished.work begun;
      ended = r.to.finished.ended;
      gives = r.to.gives;
    }

    pub divided_out : RanTask {A = A} (Image n) M G before after (stopped out_of_units)
        → IsOut program P before.limit after.entries
    divided_out (inl r) =
        subst (λ (j : Journal). IsOut program P before.limit j.entries) (sym r.0)
        (begin_out program P before.limit before.entries s _ (Begin (Image n)) f c r.1 r.2)
    divided_out (inr r) =
        division_out program P n gs kept x waiting _ after.entries before.limit
        (division.initial_state gs x.polynomial) (subst (λ l. IsExhausted
        (division.next rationals grevlex gs) (division.initial_state gs x.polynomial) l
        (before.entries ++ Begin (Image n) ∷ []) after.entries) r.limit r.to) begun

    pub divided_past : RanTask {A = A} (Image n) M G before after (stopped too_wide)
        → IsPastTask program P after.entries x
    divided_past (inl r) = absurd r
    divided_past (inr r) = elim r.to [
      | inl p ↦ division_past program P n gs kept x waiting _ after.entries
          (division.initial_state gs x.polynomial) p begun
      | inr p ↦ absurd p.1
    ]

    pub divided_going : RanTask {A = A} (Image n) M G before after (stopped out_of_memory)
        → IsGoing program P after.entries
    divided_going (inl r) = record {
      state = s;
      follows = subst (λ (j : Journal). Follows program P j.entries s) (sym r) f;
    }
    divided_going (inr r) = record {
      state = dividing n gs kept x waiting r.to.at;
      follows =
          divided_follows program P n gs kept x waiting _
          after.entries (division.initial_state gs x.polynomial) r.to.at r.to.work begun;
    }

  -- ---- a completion
  module _ (c : next program P s ≡ goes (Begin (Extend n))
      (extending n gs kept x waiting (begin_extended gs x.polynomial)))
      (G : A → elimination.State Fraction → Type 0) where
    abbrev E : Machine (elimination.State Fraction)
    E = machines.elimination fractions grevlex grevlex (λ hs. hs) (gs ++ x.polynomial ∷ [])

    extending_begun : Follows program P (before.entries ++ Begin (Extend n) ∷ [])
        (extending n gs kept x waiting (begin_extended gs x.polynomial))
    extending_begun = follows_then program P before.entries s _ (Begin (Extend n)) f c

    pub extended_on : (a : A) → RanTask (Extend n) E G before after (done a)
        → IsExtended G a
    extended_on a (inl r) = absurd r
    extended_on a (inr r) = record {
      last = r.to.last;
      follows =
          extended_follows program P n gs kept x waiting _ after.entries
          (begin_extended gs x.polynomial) r.to.last r.to.finished.work extending_begun;
      ended = r.to.finished.ended;
      gives = r.to.gives;
    }

    pub extended_out : RanTask {A = A} (Extend n) E G before after (stopped out_of_units)
        → IsOut program P before.limit after.entries
    extended_out (inl r) = absurd (let e = r.1 in cc)
    extended_out (inr r) =
        extension_out program P n gs kept x waiting _ after.entries before.limit
        (begin_extended gs x.polynomial) (subst (λ l. IsExhausted next_extended
        (begin_extended gs x.polynomial) l (before.entries ++ Begin (Extend n) ∷ []) after.entries)
        r.limit r.to) extending_begun

    pub extended_past : RanTask {A = A} (Extend n) E G before after (stopped too_wide)
        → IsPastTask program P after.entries x
    extended_past (inl r) = absurd r
    extended_past (inr r) = elim r.to [
      | inl p ↦ extension_past program P n gs kept x waiting _ after.entries (inl p) extending_begun
      | inr p ↦ extension_past program P n gs kept x waiting _ after.entries
          (inr (ap (λ (j : Journal). j.entries) p.0, p.1)) extending_begun
    ]

    pub extended_going : RanTask {A = A} (Extend n) E G before after (stopped out_of_memory)
        → IsGoing program P after.entries
    extended_going (inl r) = record {
      state = s;
      follows = subst (λ (j : Journal). Follows program P j.entries s) (sym r) f;
    }
    extended_going (inr r) = record {
      state = extending n gs kept x waiting r.to.at;
      follows =
          extended_follows program P n gs kept x waiting _ after.entries
          (begin_extended gs x.polynomial) r.to.at r.to.work extending_begun;
    }
