use Rattle.std.proofs.Common.{sym, ap, ◌∙◌, arith, ◌≡◌, ◌<◌, ◌-◌, length, get_or}
use Rattle.std.specs.Global.{Vec}
use Rattle.task_lists.specs.declared.parts.FullBranch.{FullBranch}
use Rattle.full_trace.proofs.RoundsMade.{rows_none, rows_last}
use Rattle.full_trace.proofs.each_round.list_behind.Goals as goal

pub returns-then-is_empty : goal.returns-then-is_empty
returns-then-is_empty c =
    let z : length c.args.rounds.now ≡ 0 = grind (arith, c.is_empty.ensures, c.if-is_empty.true) in
    rows_none c.args.start.now _ z

pub returns : goal.returns
returns c =
    let rows = c.args.rounds.now in
    let row = c.index-rounds-rounds.result in
    let some : 0 < length rows = grind (arith, c.is_empty.ensures, c.if-is_empty.false) in
    let i = length rows - 1 in
    let has : 0 < length (get_or rows i row).items = c.requires i row (omega (arith, some)) in
    let is = c.index-rounds-rounds.is in
    let same : length row.items ≡ length (get_or rows i row).items =
    ap (λ (r : Vec FullBranch). length r.items) is in
    let size = c.len.ensures in
    let held = row.ok.0 in
    c.given.ensures ∙ sym (rows_last c.args.start.now rows row i (omega (arith, some)) is
    c.index.result.now (c.len.result - 1) (omega (arith, has, same, size, held))
    c.index.ensures)
