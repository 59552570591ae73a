-- What a call has done that gave no answer, by what its parts said.
--   refused_by       from what is said of each refusal
--   out_of_memory    where the start was not made, for want of memory alone
--   unmade           where it was not made, and was too wide only where it is past
--   out_of_room      where something behind a run wasn't made, for want of memory alone
--   passed_on        a refusal of the same machine, whatever the answer would have been
--   step_refused     where a step behind a run was refused, by a machine of an equal order
use Rattle.std.proofs.Common.{◌≡◌, inl, inr, Result, Ok, Err, IsErrOf, refl, sym, ap, subst}
use Rattle.std.specs.Result.{IsErrAnd}
use Rattle.machines.specs.Journal.{Journal}
use Rattle.machines.specs.Machine.{Machine, too_wide, out_of_units, stopped, Stops, Ran}
use Rattle.machines.specs.Work.{WorkFrom, StoppedAt}
use Rattle.machines.proofs.Going.{Going}
use Rattle.machines.proofs.Working.{work_begun, worked_at}
use Rattle.ring_laws.specs.declared.ArithmeticError.{ArithmeticError}
use Rattle.ring_laws.specs.declared.ArithmeticError.TheVariants as arithmetic_error
use Rattle.divide.specs.declared.EngineError.{EngineError}
use Rattle.divide.specs.declared.EngineError.TheVariants.{Wide, Budget, Memory}
use Rattle.divide.specs.Errors.{of_arithmetic}
use Rattle.divide.specs.Outcomes.{refusal_of, outcome_of}

module _ {S A : Type 0} {M : Machine S} {G : A → S → Type 0} {before after : Journal} where
  ran_refused : (r : Result A EngineError) (e : EngineError) → IsErrAnd r (λ y. y ≡ e)
      → Ran M G before after (stopped (refusal_of e)) → Ran M G before after (outcome_of r)
  ran_refused (Ok a) e h s = absurd h
  ran_refused (Err y) e h s = subst (λ x. Ran M G before after (stopped (refusal_of x))) (sym h) s

  pub passed_on : {B : Type 0} {H : B → S → Type 0} (r : Result A EngineError) (e : EngineError)
      → IsErrAnd r (λ y. y ≡ e) → Ran M H before after (stopped (refusal_of e))
      → Ran M G before after (outcome_of r)
  passed_on r e h s = ran_refused r e h (record { limit = s.limit; to = s.to })

  pub refused_by : (r : Result A EngineError) (e : EngineError) → IsErrAnd r (λ y. y ≡ e)
      → after.limit ≡ before.limit → WorkFrom M.next M.start before.entries after.entries
      → (e ≡ Wide → Stops M before after too_wide)
      → (e ≡ Budget → Stops M before after out_of_units) → Ran M G before after (outcome_of r)
  refused_by r e h l w wide budget = ran_refused r e h (go e wide budget)
    where
      go : (e : EngineError) → (e ≡ Wide → Stops M before after too_wide)
          → (e ≡ Budget → Stops M before after out_of_units)
          → Ran M G before after (stopped (refusal_of e))
      go Wide wide budget = record { limit = l; to = wide refl }
      go Budget wide budget = record { limit = l; to = budget refl }
      go Memory wide budget = record { limit = l; to = w }

  arithmetic_refused : (r : Result A EngineError) (e : ArithmeticError)
      → IsErrAnd r (λ y. y ≡ of_arithmetic e)
      → after.limit ≡ before.limit → WorkFrom M.next M.start before.entries after.entries
      → (e ≡ arithmetic_error.Wide → Stops M before after too_wide)
      → Ran M G before after (outcome_of r)
  arithmetic_refused r arithmetic_error.Wide h l w wide =
      ran_refused r Wide h (record { limit = l; to = wide refl })
  arithmetic_refused r arithmetic_error.Memory h l w wide =
      ran_refused r Memory h (record { limit = l; to = w })

  pub out_of_room : {t : S} → Going M before after t → (r : Result A EngineError)
      → IsErrAnd r (λ y. y ≡ Memory) → Ran M G before after (outcome_of r)
  out_of_room g r h =
      ran_refused r Memory h (record { limit = g.limit; to = worked_at _ _ _ _ _ g.work })

pub out_of_memory : {S A : Type 0} (M : Machine S) {G : A → S → Type 0} {j : Journal}
    (r : Result A EngineError) → IsErrAnd r (λ y. y ≡ Memory) → Ran M G j j (outcome_of r)
out_of_memory M {j = j} r h =
    refused_by r Memory h refl (worked_at _ _ _ _ _ (work_begun M.next M.start j.entries))
    (λ z. absurd (let e : ⊥ = cc in e)) (λ z. absurd (let e : ⊥ = cc in e))

pub unmade : {S A : Type 0} (M : Machine S) {G : A → S → Type 0} {j : Journal} {T : Type 0}
    (r : Result A EngineError) (e : ArithmeticError) → IsErrAnd r (λ y. y ≡ of_arithmetic e)
    → (IsErrOf {T = T} (Err e) arithmetic_error.Wide → M.IsPastStart)
    → Ran M G j j (outcome_of r)
unmade M {j = j} r e h wide =
    arithmetic_refused r e h refl (worked_at _ _ _ _ _ (work_begun M.next M.start j.entries))
    (λ z. inr (refl, wide (ap Err z)))

module _ {X S A : Type 0} (M : X → Machine S) {G : A → S → Type 0} {x y : X} (same : x ≡ y)
    {before mid after : Journal} {t : S} (g : Going (M y) before mid t) where
  pub step_refused : {T : Type 0} (r : Result A EngineError) (e : EngineError)
      → IsErrAnd r (λ z. z ≡ e) → after ≡ mid → (IsErrOf {T = T} (Err e) Wide → (M x).IsPastNext t)
      → (IsErrOf {T = T} (Err e) Budget → StoppedAt (M x).next t mid)
      → Ran (M y) G before after (outcome_of r)
  step_refused r e h is wide budget = go (subst (λ (j : Journal). Going (M y) before j t) (sym is)
      g)
    where
      go : Going (M y) before after t → Ran (M y) G before after (outcome_of r)
      go k = refused_by r e h k.limit (worked_at _ _ _ _ _ k.work)
          (λ z. inl (record {
            at = t;
            work = k.work;
            past = subst (λ o. (M o).IsPastNext t) same
                (wide (ap Err z));
          }))
          (λ z. (let s = subst (λ (j : Journal). StoppedAt (M y).next t j) (sym is)
          (subst (λ o. StoppedAt (M o).next t mid) same (budget (ap Err z))) in
          record {
            at = t;
            work = k.work;
            event = s.event;
            following = s.following;
            comes = s.comes;
            unit = s.unit;
            exhausted = s.exhausted;
          }))
