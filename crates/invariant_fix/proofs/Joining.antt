-- The elimination behind a finished journal of the loop.
--   ended_with_nothing     where the basis is empty
--   followed               the journal of an analysis is a beginning
--   ended_by, wide_by, exhausted_by, worked_by     what the elimination has done
use Rattle.std.proofs.Common.{inl, inr, ℕ, List, [], length, sym, ap, subst, Vec, Global}
use Rattle.machines.specs.Journal.{Journal, Entry}
use Rattle.machines.specs.Machine.{Outcome, done, stopped, too_wide, out_of_units, out_of_memory, Ran}
use Rattle.machines.proofs.Working.{work_begun}
use Rattle.loops.specs.Program.{Expr, Program}
use Rattle.rounds.specs.Journal.{IsFinished}
use Rattle.poly.specs.Seen.{terms_each}
use Rattle.loop_model.specs.FracPoly.{FracPoly}
use Rattle.invariant_fix.specs.Refusals as analysis
use Rattle.corollaries.specs.Order.{starting, hidden}
use Rattle.corollaries.specs.Journal.{elimination_from, IsEnded, IsOut, IsStopped, HasFollowed, HasWorkedBehind}
use Rattle.invariant_fix.specs.Ordering.{IsListOf}
use Rattle.invariant_fix.proofs.Leading.{nothing_comes, nothing_is}

module _ (program : Program (Expr ℕ)) (is : List ℕ) where
  pub ended_with_nothing : (es : List Entry) {k : ℕ} → IsFinished program es k []
      → IsEnded program is es []
  unfolding starting
  ended_with_nothing es {k = k} finished = record {
    analysed = es;
    rounds = k;
    basis = [];
    finished = finished;
    behind = record {
      last = (elimination_from (length program.names) is []).start;
      finished = record {
        work = work_begun (elimination_from (length program.names) is []).next
            (elimination_from (length program.names) is []).start es;
        ended = nothing_comes (length (hidden (length program.names) is));
      };
      list = nothing_is (length (hidden (length program.names) is));
    };
  }

  pub followed : {es : List Entry} → analysis.HasFollowed program es → HasFollowed program is es
  followed (inl none) = inl none
  followed (inr h) = inr (inl (record { state = h.state; follows = h.follows }))

  module _ (before after : Journal) {k : ℕ} (gs : List FracPoly)
      (finished : IsFinished program before.entries k (terms_each gs)) where
    abbrev Did : Outcome (Vec FracPoly Global) → Type 0
    Did o = Ran (elimination_from (length program.names) is (terms_each gs))
        (IsListOf (length program.names) is) before after o

    pub ended_by : (hs : Vec FracPoly Global) → Did (done hs)
        → IsEnded program is after.entries (terms_each hs.items)
    ended_by hs r = record {
      analysed = before.entries;
      rounds = k;
      basis = terms_each gs;
      finished = finished;
      behind = record { last = r.to.last; finished = r.to.finished; list = r.to.gives };
    }

    pub wide_by : Did (stopped too_wide) → IsStopped program is after.entries
    wide_by r = record {
      analysed = before.entries;
      rounds = k;
      basis = terms_each gs;
      finished = finished;
      behind = elim r.to [
        | inl p ↦ inl p
        | inr p ↦ inr (ap (λ (j : Journal). j.entries) p.0, p.1)
      ];
    }

    pub exhausted_by : Did (stopped out_of_units) → IsOut program is after.limit after.entries
    exhausted_by r = inr (record {
      analysed = before.entries;
      rounds = k;
      basis = terms_each gs;
      finished = finished;
      behind = r.to;
    })

    behind_so : HasWorkedBehind (length program.names) is before.entries after.entries
        (terms_each gs) → HasFollowed program is after.entries
    behind_so w = inr (inr (record {
      analysed = before.entries;
      rounds = k;
      basis = terms_each gs;
      finished = finished;
      behind = w;
    }))

    begun_so : HasFollowed program is before.entries
    begun_so = inr (inl (record { state = finished.state; follows = finished.follows }))

    pub worked_by : (o : Outcome (Vec FracPoly Global)) → Did o
        → HasFollowed program is after.entries
    worked_by (done hs) r = behind_so (record { at = r.to.last; work = r.to.finished.work })
    worked_by (stopped too_wide) r = elim r.to [
      | inl p ↦ behind_so (record { at = p.at; work = p.work })
      | inr p ↦ subst (λ (j : Journal). HasFollowed program is j.entries) (sym p.0) begun_so
    ]
    worked_by (stopped out_of_units) r = behind_so (record { at = r.to.at; work = r.to.work })
    worked_by (stopped out_of_memory) r = behind_so r.to
