-- What a call has done, told otherwise.
--   ran_as        by what follows from what it gives
--   ended_of      where there is an answer, it has ended with it
use Rattle.std.proofs.Common.{Result, Ok, Err, IfOk}
use Rattle.machines.specs.Journal.{Journal}
use Rattle.machines.specs.Machine.{Machine, Outcome, done, stopped, RanToEnd, Ran}
use Rattle.divide.specs.declared.EngineError.{EngineError}
use Rattle.divide.specs.Outcomes.{outcome_of}

module _ {S A : Type 0} {M : Machine S} {before after : Journal} where
  pub ran_as : {G H : A → S → Type 0} → ((a : A) (s : S) → G a s → H a s) → (o : Outcome A)
      → Ran M G before after o → Ran M H before after o
  ran_as f (done a) r = record {
    limit = r.limit;
    to = record { last = r.to.last; finished = r.to.finished; gives = f a r.to.last r.to.gives };
  }
  ran_as f (stopped q) r = record { limit = r.limit; to = r.to }

  pub ended_of : {G : A → S → Type 0} (r : Result A EngineError)
      → Ran M G before after (outcome_of r) → IfOk r (RanToEnd M G before after)
  ended_of (Ok a) h = h.to
  ended_of (Err e) h = tt
