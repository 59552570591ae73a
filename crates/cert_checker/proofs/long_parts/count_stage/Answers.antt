use Rattle.poly.specs.Seen.{terms_each}
use Rattle.cert_checker.proofs.StageTotals.{gens_beyond, pairs_beyond, links_beyond, stage_total}
use Rattle.cert_checker.proofs.long_parts.count_stage.Goals as goal

pub returns-in-Err-clause-beyond : goal.returns-in-Err-clause-beyond
returns-in-Err-clause-beyond c = λ k hs counts.
    gens_beyond (terms_each c.args.list.now) (terms_each c.args.images.now) k hs counts
    c.args.before c.requires.few c.in-Err.index c.in-Err.ensures.beyond

pub returns-in-Err-count_rows-clause-beyond : goal.returns-in-Err-count_rows-clause-beyond
returns-in-Err-count_rows-clause-beyond c = λ k hs counts.
    pairs_beyond (terms_each c.args.list.now) (terms_each c.args.images.now) k hs counts
    c.args.before c.requires.few c.in-Ok.ensures.total c.in-Err-count_rows.index
    c.in-Err-count_rows.ensures.beyond

pub returns-in-Ok-count_rows-2-clause-total : goal.returns-in-Ok-count_rows-2-clause-total
returns-in-Ok-count_rows-2-clause-total c = λ k hs counts.
    stage_total (terms_each c.args.list.now) (terms_each c.args.images.now) k hs counts
    c.args.before c.requires.few c.in-Ok.ensures.total c.in-Ok-count_rows.ensures.total
    c.in-Ok-count_rows-2.terms c.in-Ok-count_rows-2.ensures.total

pub returns-in-Err-count_rows-2-clause-beyond : goal.returns-in-Err-count_rows-2-clause-beyond
returns-in-Err-count_rows-2-clause-beyond c = λ k hs counts.
    links_beyond (terms_each c.args.list.now) (terms_each c.args.images.now) k hs counts
    c.args.before c.requires.few c.in-Ok.ensures.total c.in-Ok-count_rows.ensures.total
    c.in-Err-count_rows-2.index c.in-Err-count_rows-2.ensures.beyond
