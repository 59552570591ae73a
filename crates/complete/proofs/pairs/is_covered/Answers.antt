use Rattle.std.proofs.Common.{◌≤◌, length, sym, ap, ◌∙◌, arith}
use Rattle.std.proofs.lemmas.List.{drop_all}
use Rattle.machines.specs.Pairs.{multiple}
use Rattle.complete.specs.Pairs.{pair_of, rows_of}
use Rattle.complete.proofs.Walking.{next_leads, test, covers_here, covers_next, covers_none, covers_told}
use Rattle.complete.proofs.pairs.is_covered.Goals as goal

pub covers-requires-clause-inside : goal.covers-requires-clause-inside
covers-requires-clause-inside c = let count = c.requires.count in let l = c.loop-k-test.true in
    omega (arith, count, l)

pub covers-requires-clause-right_in : goal.covers-requires-clause-right_in
covers-requires-clause-right_in c = let count = c.requires.count in let r =
    c.requires.stands.right_in in omega (arith, count, r)

pub returns-then-covers : goal.returns-then-covers
returns-then-covers c = λ w told.
    let t = rows_of c.args.table.now in
    let a = pair_of c.args.pair.now in
    let m = multiple c.args.leads.now a in
    let count = c.requires.count in
    let l = c.loop-k-test.true in
    let right = c.requires.stands.right_in in
    let same = covers_told t w c.args.pair.now c.loop-k.k c.index-leads-k.result told
    (omega (arith, count, l)) c.requires.stands.left_first (omega (arith, count, right)) in
    sym (c.loop-k.invariant w told ∙ covers_here w a m c.loop-k.k c.index-leads-k.result _ _
    (next_leads c.args.leads.now c.loop-k.k c.index-leads-k.result l c.index-leads-k.is)
    (sym (ap (λ n. test w a n c.loop-k.k c.index-leads-k.result) c.requires.stands.multiple_is)
    ∙ sym (c.covers.ensures ∙ same) ∙ c.if-covers.true))

pub loop-k-preserved : goal.loop-k-preserved
loop-k-preserved c = λ w told.
    let t = rows_of c.args.table.now in
    let a = pair_of c.args.pair.now in
    let m = multiple c.args.leads.now a in
    let count = c.requires.count in
    let l = c.loop-k-test.true in
    let right = c.requires.stands.right_in in
    let same = covers_told t w c.args.pair.now c.loop-k.k c.index-leads-k.result told
    (omega (arith, count, l)) c.requires.stands.left_first (omega (arith, count, right)) in
    c.loop-k.invariant w told ∙ covers_next w a m c.loop-k.k c.index-leads-k.result _ _
    (next_leads c.args.leads.now c.loop-k.k c.index-leads-k.result l c.index-leads-k.is)
    (sym (ap (λ n. test w a n c.loop-k.k c.index-leads-k.result) c.requires.stands.multiple_is)
    ∙ sym (c.covers.ensures ∙ same) ∙ c.if-covers.false)

pub returns : goal.returns
returns c = λ w told.
    let out : length c.args.leads.now ≤ c.loop-k.k = let e = c.loop-k-test.false in
    omega (arith, e) in
    sym (c.loop-k.invariant w told ∙ covers_none w (pair_of c.args.pair.now)
    (multiple c.args.leads.now (pair_of c.args.pair.now)) c.loop-k.k _
    (drop_all c.loop-k.k c.args.leads.now out))
