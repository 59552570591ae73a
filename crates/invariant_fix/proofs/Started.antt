-- Machines whose start is made of something (specs/Started).
--   ran_started     where making the start is past in more cases
use Rattle.std.proofs.Common.{inl, inr}
use Rattle.machines.specs.Journal.{Journal}
use Rattle.machines.specs.Machine.{Machine, Outcome, done, stopped, too_wide, out_of_units, out_of_memory, Stops, Ran}
use Rattle.invariant_fix.specs.Started.{with_past_start}

module _ {S : Type 0} (M : Machine S) {P Q : Type 0} (wider : P → Q) {before after : Journal} where
  stops : Stops (with_past_start M P) before after too_wide
      → Stops (with_past_start M Q) before after too_wide
  stops (inl p) = inl p
  stops (inr s) = inr (s.0, wider s.1)

  pub ran_started : {A : Type 0} {G : A → S → Type 0} (o : Outcome A)
      → Ran (with_past_start M P) G before after o → Ran (with_past_start M Q) G before after o
  ran_started (done a) r = record {
    limit = r.limit;
    to = record { last = r.to.last; finished = r.to.finished; gives = r.to.gives };
  }
  ran_started (stopped too_wide) r = record { limit = r.limit; to = stops r.to }
  ran_started (stopped out_of_units) r = record { limit = r.limit; to = r.to }
  ran_started (stopped out_of_memory) r = record { limit = r.limit; to = r.to }
