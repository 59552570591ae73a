use Rattle.std.proofs.Common.{length, ap, ◌∙◌}
use Rattle.loop_model.specs.View.{program_of}
use Rattle.loop_model.specs.Maps.{entry}
use Rattle.loop_model.proofs.ValueLaws.{stops_handed_on}
use Rattle.loop_model.proofs.BranchLaws.{turned_none, turned_more, turned_all, turned_length, turned_arity, turned_over, turned_stop, some_entry, branch_stands, branch_free, branch_stops, statement_formed}
use Rattle.loop_model.proofs.loop_.Loop.branch_map.Goals as goal

pub loop-statement-init : goal.loop-statement-init
loop-statement-init c = turned_none (length c.args.self.now.names)
    (entry (program_of c.args.self.now)) c.deref-statement-items.result.now
    c.in_ok-state.state.items c.in_ok-state.ensures.entry

pub after-requires-clause-state : goal.after-requires-clause-state
after-requires-clause-state c = turned_over (length c.args.self.now.names)
    (entry (program_of c.args.self.now))
    (some_entry c.args.self.now c.branches.result.now c.branches.ensures.branches c.args.index
    c.index-branches-index.result c.requires c.index-branches-index.is
    c.deref-statement-items.result.now c.deref-statement-items.ensures.value) _
    c.loop-statement.state.items c.loop-statement.invariant

pub after-requires-clause-statement : goal.after-requires-clause-statement
after-requires-clause-statement c = statement_formed c.args.self.now c.branches.result.now
    c.branches.ensures.branches c.args.index c.index-branches-index.result c.requires
    c.index-branches-index.is c.deref-statement-items.result.now
    c.deref-statement-items.ensures.value
    c.loop-statement.statement-index c.statement-item.result c.loop-statement-test.true
    c.statement-item.is _ (turned_length (length c.args.self.now.names)
    (entry (program_of c.args.self.now)) _ c.loop-statement.state.items
    c.loop-statement.invariant)

pub loop-statement-preserved : goal.loop-statement-preserved
loop-statement-preserved c = turned_more (length c.args.self.now.names)
    (entry (program_of c.args.self.now)) c.deref-statement-items.result.now
    c.loop-statement.statement-index c.statement-item.result c.loop-statement-test.true
    c.statement-item.is
    c.loop-statement.state.items c.loop-statement.invariant _
    (turned_arity (length c.args.self.now.names) (entry (program_of c.args.self.now))
    (some_entry c.args.self.now c.branches.result.now c.branches.ensures.branches c.args.index
    c.index-branches-index.result c.requires c.index-branches-index.is
    c.deref-statement-items.result.now c.deref-statement-items.ensures.value) _
    c.loop-statement.state.items c.loop-statement.invariant)
    c.in_ok-state-2.state.items c.in_ok-state-2.ensures.0 c.in_ok-state-2.ensures.1

pub returns-clause-maps : goal.returns-clause-maps
returns-clause-maps c = branch_stands c.args.self.now c.branches.result.now
    c.branches.ensures.branches c.args.index c.index-branches-index.result c.requires
    c.index-branches-index.is c.deref-statement-items.result.now
    c.deref-statement-items.ensures.value
    c.loop-statement.state.items c.truncate.new.self.items c.len.result (c.len.ensures.len
    ∙ ap length c.names.ensures.names) c.truncate.ensures.items
    (turned_all (length c.args.self.now.names) (entry (program_of c.args.self.now))
    c.deref-statement-items.result.now c.loop-statement.statement-index
    c.loop-statement.state.items c.loop-statement-test.false c.loop-statement.invariant)

pub returns-clause-free : goal.returns-clause-free
returns-clause-free c = branch_free c.args.self.now c.branches.result.now
    c.branches.ensures.branches c.args.index c.index-branches-index.result c.requires
    c.index-branches-index.is c.deref-statement-items.result.now
    c.deref-statement-items.ensures.value
    c.loop-statement.state.items (turned_all (length c.args.self.now.names)
    (entry (program_of c.args.self.now)) c.deref-statement-items.result.now
    c.loop-statement.statement-index c.loop-statement.state.items c.loop-statement-test.false
    c.loop-statement.invariant)

pub returns-in_err-state-2-clause-stops : goal.returns-in_err-state-2-clause-stops
returns-in_err-state-2-clause-stops c =
    stops_handed_on _ _ c.in_err-state-2.field-0.0 c.from_residual-in_err-state-2.result
    c.from_residual-in_err-state-2.ensures.1
    (branch_stops c.args.self.now c.branches.result.now c.branches.ensures.branches c.args.index
    c.index-branches-index.result c.requires c.index-branches-index.is
    c.deref-statement-items.result.now c.deref-statement-items.ensures.value
    c.in_err-state-2.field-0.0
    (turned_stop (length c.args.self.now.names) (entry (program_of c.args.self.now))
    c.deref-statement-items.result.now c.loop-statement.statement-index
    c.statement-item.result c.loop-statement-test.true c.statement-item.is
    c.loop-statement.state.items c.loop-statement.invariant _
    (turned_arity (length c.args.self.now.names) (entry (program_of c.args.self.now))
    (some_entry c.args.self.now c.branches.result.now c.branches.ensures.branches c.args.index
    c.index-branches-index.result c.requires c.index-branches-index.is
    c.deref-statement-items.result.now c.deref-statement-items.ensures.value) _
    c.loop-statement.state.items c.loop-statement.invariant) c.in_err-state-2.field-0.0
    c.in_err-state-2.ensures))
