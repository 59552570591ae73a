use Rattle.std.proofs.Common.{rules, refl, ap, ◌∙◌, map}
use Rattle.machines.specs.Journal.{Journal}
use Rattle.journal.specs.View.{entry_of}
use Rattle.closing.proofs.Appended.{appended_none, appended_next, appended_part, appended_all, never_exhausted}
use Rattle.closing.proofs.whole_search.append.Goals as goal

pub loop-entry-init : goal.loop-entry-init
loop-entry-init c = record {
  limit = refl;
  entries = appended_none c.args.meter.now.entries c.deref-entry-items.result.now;
}

pub returns-in-Err-Memory-clause-limit : goal.returns-in-Err-Memory-clause-limit
returns-in-Err-Memory-clause-limit c =
    ap (λ (j : Journal). j.limit) c.in-Err-Memory.ensures.err ∙ c.loop-entry.invariant.limit

pub returns-in-Err-Memory-clause-begun : goal.returns-in-Err-Memory-clause-begun
returns-in-Err-Memory-clause-begun c =
    appended_part c.args.meter.now.entries c.deref-entry-items.result.now (ap (map entry_of)
    c.deref-entry-items.ensures.value ∙ c.entries.ensures) _ _ (ap (λ (j : Journal). j.entries)
    c.in-Err-Memory.ensures.err ∙ c.loop-entry.invariant.entries)

pub unreachable-requires : goal.unreachable-requires
unreachable-requires c =
    never_exhausted c.args.meter.now.entries c.deref-entry-items.result.now (ap (map entry_of)
    c.deref-entry-items.ensures.value ∙ c.entries.ensures) _ _ c.loop-entry-test.true
    (search rules) _ c.requires.within c.loop-entry.meter c.loop-entry.invariant.limit
    c.loop-entry.invariant.entries (c.put.ensures.budget.0 (search rules))

pub loop-entry-preserved : goal.loop-entry-preserved
loop-entry-preserved c = record {
  limit = ap (λ (j : Journal). j.limit) c.in-Ok.ensures.ok ∙ c.loop-entry.invariant.limit;
  entries =
      appended_next c.args.meter.now.entries c.deref-entry-items.result.now _ _
      c.loop-entry-test.true (search rules) _ c.loop-entry.invariant.entries
      (ap (λ (j : Journal). j.entries) c.in-Ok.ensures.ok);
}

pub returns-clause-limit : goal.returns-clause-limit
returns-clause-limit c = c.loop-entry.invariant.limit

pub returns-clause-entries : goal.returns-clause-entries
returns-clause-entries c =
    appended_all c.args.meter.now.entries c.deref-entry-items.result.now (ap (map entry_of)
    c.deref-entry-items.ensures.value ∙ c.entries.ensures) _ c.loop-entry-test.false _
    c.loop-entry.invariant.entries

pub returns-clause-begun : goal.returns-clause-begun
returns-clause-begun c =
    appended_part c.args.meter.now.entries c.deref-entry-items.result.now (ap (map entry_of)
    c.deref-entry-items.ensures.value ∙ c.entries.ensures) _ _ c.loop-entry.invariant.entries
