-- Membership by division, as the code answers it.
--   elements_of            what division asks of the basis
--   IsAsked p gs list old mid   the division of p by the list, which is the gs, has begun behind `old`
--   asked_within, has_asked     what is done where it is asked
--   asked_wide, asked_out       where it was refused
--   division_done          the division has ended
--   says_yes, says_no      what the answers tell of it
--   cofactors_over         the cofactors have the polynomial's variables
--   yes_member, no_member  and of membership
--   answered_by, decided_by    behind a finished analysis
use Rattle.std.proofs.Common.{◌≡◌, ◌≢◌, ◌↔◌, ◌⊎◌, inl, inr, ℕ, List, [], ◌++◌, length, get_or, is_some, Some, None, refl, sym, ap, subst, ◌∙◌, Vec, Global}
use Rattle.std.specs.Prelude.{⊤}
use Rattle.std.proofs.Math.Logic.{∥∥₁_elim}
use Rattle.std.proofs.lemmas.List.{append-nil}
use Rattle.algebra.proofs.In.{in_get, map-in}
use Rattle.algebra.specs.Fraction.{Fraction, ℚ, fractions, rationals}
use Rattle.polynomials.specs.Order.{grevlex}
use Rattle.polynomials.specs.Terms.{Terms, Same, combination}
use Rattle.ideals.specs.Members.{IsMember}
use Rattle.machines.specs.Division as division
use Rattle.machines.specs.Journal as journal
use Rattle.machines.specs.Journal.{Begin, Entry, Journal}
use Rattle.machines.specs.Machine.{Outcome, done, stopped, too_wide, out_of_units, out_of_memory, Stops, RanToEnd, Ran}
use Rattle.machines.specs.Past.{IsPastDivision}
use Rattle.machines.specs.Work.{WorkFrom, WorkToEnd, IsExhausted, PastAfter}
use Rattle.machines.proofs.ReducedLists.{division_decides}
use Rattle.loops.specs.Inv.{Inv}
use Rattle.loops.specs.Program.{Expr, Program}
use Rattle.loops.specs.WellFormed.{IsWellFormed}
use Rattle.monos.specs.declared.order.Grevlex.{Grevlex}
use Rattle.poly.specs.Seen.{arity_of, terms_in, terms_each}
use Rattle.poly.proofs.Standing.{arities_over}
use Rattle.divide.specs.Current.{AreDivisors}
use Rattle.divide.specs.Division.{division_of, HasCofactors}
use Rattle.divide.specs.Outcomes.{refusal_of}
use Rattle.divide.specs.declared.EngineError.{EngineError}
use Rattle.divide.specs.declared.EngineError.TheVariants as engine_error
use Rattle.journal.specs.View.{with_entry}
use Rattle.rounds.specs.Journal.{IsFinished, IsAnswered}
use Rattle.rounds.specs.Results.{IsReducedList}
use Rattle.rounds.proofs.Theorem.{answered_decides_all}
use Rattle.ideal_ops.specs.Calls.{AreOver}
use Rattle.loop_model.specs.FracPoly.{FracPoly}
use Rattle.invariant_fix.specs.Blocked.{Divided}
use Rattle.invariant_fix.specs.Membership.{asks, Answers, HasAsked, HasAnswered, IsWideAsking, IsAskingOutOfUnits}
use Rattle.invariant_fix.specs.declared.membership.Membership.TheVariants.{Yes, No}
use Rattle.invariant_fix.proofs.Asking.{asking_answered}
use Rattle.invariant_fix.proofs.Blocks.{graded_polynomial}
use Rattle.invariant_fix.proofs.Lists.{arity_there, empty_list}
use Rattle.invariant_fix.proofs.Tests.{nothing_left, something_left}

reduced_over : (m : ℕ) (gs : List FracPoly) → AreOver m gs
    → IsReducedList (arity_of gs) (terms_each gs) → IsReducedList m (terms_each gs)
reduced_over m gs a r = go (arity_there m gs a)
  where
    go : (gs ≡ []) ⊎ (arity_of gs ≡ m) → IsReducedList m (terms_each gs)
    go (inl e) = subst (λ (l : List FracPoly). IsReducedList m (terms_each l)) (sym e)
        (empty_list m)
    go (inr e) = subst (λ n. IsReducedList n (terms_each gs)) e r

never : {X : Type 0} → IsProp (X → ⊥)
never = hlevel

pub elements_of : (o : Grevlex) {m : ℕ} (gs : List FracPoly) → AreOver m gs
    → ∥ IsReducedList (arity_of gs) (terms_each gs) ∥₁ → AreDivisors o m gs
elements_of o gs a t i d l =
    let g = get_or gs i d in (
      refl,
      a i d l,
      ∥∥₁_elim t never (λ r. r.nonzero (terms_in g) (map-in terms_in gs g (in_get gs i d l))),
    )

-- the division of p by the list, which is the gs, begins behind the beginning of the task
pub record IsAsked (p : FracPoly) (gs list : List FracPoly) (old mid : Journal) : Type 0 where
  pub same : list ≡ gs
  pub begun : mid ≡ with_entry old (Begin journal.Member)

module _ {p : FracPoly} {gs list : List FracPoly} {old mid : Journal}
    (u : IsAsked p gs list old mid) where
  asked_so : (P : List (Terms Fraction) → List Entry → Type 0) → P (terms_each list) mid.entries
      → P (terms_each gs) (asks old.entries)
  asked_so P h = subst (P (terms_each gs)) (ap (λ (j : Journal). j.entries) u.begun)
      (subst (λ (l : List FracPoly). P (terms_each l) mid.entries) u.same h)

  pub asked_within : {new : Journal} (o : Outcome Divided)
      → Ran (division_of p list) (HasCofactors p.order p.arity)
      mid new o → new.limit ≡ old.limit
  asked_within o r = r.limit ∙ ap (λ (j : Journal). j.limit) u.begun

  worked : (new : Journal) → WorkFrom (division.next rationals grevlex (terms_each list))
      (division.initial_state (terms_each list) (terms_in p)) mid.entries new.entries
      → HasAsked (terms_each gs) (terms_in p) old new
  worked new w =
      inr (asked_so (λ hs es. WorkFrom (division.next rationals grevlex hs)
      (division.initial_state hs (terms_in p)) es new.entries) w)

  pub has_asked : {new : Journal} (o : Outcome Divided)
      → Ran (division_of p list) (HasCofactors p.order p.arity)
      mid new o → HasAsked (terms_each gs) (terms_in p) old new
  has_asked {new} (done d) r = worked new (record { at = r.to.last; work = r.to.finished.work })
  has_asked {new} (stopped too_wide) r = past r.to
    where
      past : Stops (division_of p list) mid new too_wide → HasAsked (terms_each gs) (terms_in p) old
          new
      past (inl h) = worked new (record { at = h.at; work = h.work })
      past (inr h) = absurd h.1
  has_asked {new} (stopped out_of_units) r = worked new (record { at = r.to.at; work = r.to.work })
  has_asked {new} (stopped out_of_memory) r = worked new r.to

  module _ {new : Journal} {R : Type 0} {G : R → division.State Fraction → Type 0}
      (e : EngineError)
      (r : Ran (division_of p list) G mid new (stopped (refusal_of e))) where
    refused : {x : EngineError} → e ≡ x → Stops (division_of p list) mid new (refusal_of x)
    refused w = (subst (λ y. Ran (division_of p list) G mid new (stopped (refusal_of y))) w r).to

    pub asked_wide : e ≡ engine_error.Wide → IsWideAsking (terms_each gs) (terms_in p) old new
    asked_wide w = past (refused w)
      where
        past : Stops (division_of p list) mid new too_wide
            → IsWideAsking (terms_each gs) (terms_in p) old new
        past (inl h) = asked_so (λ hs es. PastAfter (division.next rationals grevlex hs)
            (IsPastDivision fractions rationals hs) (division.initial_state hs (terms_in p)) es
            new.entries) h
        past (inr h) = absurd h.1

    pub asked_out : e ≡ engine_error.Budget → IsAskingOutOfUnits (terms_each gs) (terms_in p) old
        new
    asked_out w = asked_so (λ hs es. IsExhausted (division.next rationals grevlex hs)
        (division.initial_state hs (terms_in p)) new.limit es new.entries) (refused w)

module _ {p : FracPoly} {gs list : List FracPoly} {old mid new : Journal}
    (u : IsAsked p gs list old mid) {d : Divided}
    (i : RanToEnd (division_of p list) (HasCofactors p.order p.arity) mid new d) where
  pub division_done : WorkToEnd (division.next rationals grevlex (terms_each gs))
      (division.initial_state (terms_each gs) (terms_in p)) (asks old.entries) new.entries i.last
  division_done =
      subst (λ es. WorkToEnd (division.next rationals grevlex (terms_each gs))
      (division.initial_state (terms_each gs) (terms_in p)) es new.entries i.last)
      (ap (λ (j : Journal). j.entries) u.begun)
      (subst (λ (l : List FracPoly). WorkToEnd (division.next rationals grevlex (terms_each l))
      (division.initial_state (terms_each l) (terms_in p)) mid.entries new.entries i.last) u.same
      i.finished)

  gone : terms_in d.remainder ≡ [] → i.last.current ≡ None
  gone r = nothing_left (terms_each gs) i.last division_done.ended (sym i.gives.remainder ∙ r)

  left : terms_in d.remainder ≢ [] → (q : Terms Fraction) × (i.last.current ≡ Some q)
  left r = something_left i.last (λ z. r (i.gives.remainder ∙ z))

  pub says_yes : terms_in d.remainder ≡ [] → {qs : Vec FracPoly Global} → qs ≡ d.cofactors
      → Answers (terms_each gs) (terms_in p) old new (Yes qs)
  says_yes r e = record {
    last = i.last;
    finished = division_done;
    tells = (gone r, ap (λ (v : Vec FracPoly Global). terms_each v.items) e ∙ i.gives.cofactors);
  }

  pub says_no : terms_in d.remainder ≢ [] → Answers (terms_each gs) (terms_in p) old new No
  says_no r = let (q, e) = left r in record {
    last = i.last;
    finished = division_done;
    tells = ap is_some e;
  }

  pub cofactors_over : {qs : Vec FracPoly Global} → qs ≡ d.cofactors → AreOver p.arity qs.items
  cofactors_over e = subst (λ (v : Vec FracPoly Global). AreOver p.arity v.items) (sym e)
      (λ k l x. (i.gives.like k l x).1)

  pub yes_member : terms_in d.remainder ≡ [] → {qs : Vec FracPoly Global} → qs ≡ d.cofactors
      → Same ℚ (terms_in p) (combination ℚ (terms_each d.cofactors.items) (terms_each list)
      ++ terms_in d.remainder) → (⊤ ↔ IsMember ℚ p.arity (terms_each gs) (terms_in p))
  yes_member r e s = (
    (λ t. record {
      cofactors = terms_each d.cofactors.items;
      arity = arities_over p.arity d.cofactors.items (λ k x l. (i.gives.like k x l).1);
      is = subst (λ (l : List FracPoly).
          Same ℚ (terms_in p) (combination ℚ (terms_each d.cofactors.items) (terms_each l))) u.same
          (subst (Same ℚ (terms_in p))
          (ap (λ x. combination ℚ (terms_each d.cofactors.items) (terms_each list) ++ x) r
          ∙ append-nil _) s);
    }),
    (λ m. tt),
  )

  pub no_member : terms_in d.remainder ≢ [] → AreOver p.arity gs
      → ∥ IsReducedList (arity_of gs) (terms_each gs) ∥₁
      → (⊥ ↔ IsMember ℚ p.arity (terms_each gs) (terms_in p))
  no_member r a t = (
    (λ z. absurd z),
    (λ m. ∥∥₁_elim t (let h : IsProp ⊥ = hlevel in h) (λ b.
        (let (q, e) = left r in
        let none = (division_decides p.arity (terms_each gs) (terms_in p) division_done.work.events
        i.last (reduced_over p.arity gs a b) p.polynomial division_done.work.run
        division_done.ended).0 m in
        let z : ⊥ = cc (none, e) in z))),
  )

  module _ {program : Program (Expr ℕ)} (k : ℕ)
      (done : IsFinished program old.entries k (terms_each gs)) where
    answered : IsAnswered program (terms_in p) new.entries k (terms_each gs) i.last
    answered = asking_answered program (terms_in p) k (terms_each gs) old.entries new.entries done
        i.last division_done

    pub yes_answered : terms_in d.remainder ≡ [] → {qs : Vec FracPoly Global} → qs ≡ d.cofactors
        → HasAnswered program (terms_in p) k (terms_each gs) new.entries (Yes qs)
    yes_answered r e = record {
      last = i.last;
      answered = answered;
      tells = (gone r, ap (λ (v : Vec FracPoly Global). terms_each v.items) e ∙ i.gives.cofactors);
    }

    pub no_answered : terms_in d.remainder ≢ [] → HasAnswered program (terms_in p) k (terms_each gs)
        new.entries No
    no_answered r =
        let (q, e) = left r in record { last = i.last; answered = answered; tells = ap is_some e }

    module _ (w : IsWellFormed program) (over : p.arity ≡ length program.names) where
      decides : (i.last.current ≡ None) ↔ Inv program (terms_in p)
      decides = answered_decides_all program w (terms_in p)
          (graded_polynomial (length program.names) p over) new.entries k (terms_each gs) i.last
          answered

      pub yes_invariant : terms_in d.remainder ≡ [] → (⊤ ↔ Inv program (terms_in p))
      yes_invariant r = ((λ t. decides.0 (gone r)), (λ v. tt))

      pub no_invariant : terms_in d.remainder ≢ [] → (⊥ ↔ Inv program (terms_in p))
      no_invariant r = (
        (λ z. absurd z),
        (λ v. (let (q, e) = left r in let none = decides.1 v in let z : ⊥ = cc (none, e) in z)),
      )
