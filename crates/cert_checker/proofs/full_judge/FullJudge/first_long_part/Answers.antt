use Rattle.std.proofs.Common.{◌≡◌, length, sym, ◌∙◌}
use Rattle.loop_model.proofs.Formed.{formed}
use Rattle.rounds.specs.Start.{start_list}
use Rattle.cert_checker.specs.FullJudge.{program_by, cert_by}
use Rattle.cert_checker.proofs.StageTotals.{forms_beyond, starts_beyond, rounds_beyond, all_few}
use Rattle.cert_checker.proofs.StartLists.{starts_all}
use Rattle.cert_checker.proofs.full_judge.FullJudge.first_long_part.Goals as goal
use Rattle.cert_checker.proofs.full_judge.FullJudge.first_long_part.Goals.{Start}

-- as many links as polynomials of the start
count : (c : Start) → length (cert_by c.args.self.now).start_links
    ≡ length (start_list (program_by c.args.self.now))
count c = c.requires.judge.counted.links
    ∙ sym (starts_all _ (formed c.args.self.now.lp.now))

pub returns-in-Err : goal.returns-in-Err
returns-in-Err c = forms_beyond (program_by c.args.self.now) (cert_by c.args.self.now)
    c.in-Err.branch c.in-Err.ensures.beyond

pub returns-in-Err-count_rows : goal.returns-in-Err-count_rows
returns-in-Err-count_rows c =
    starts_beyond (program_by c.args.self.now) (cert_by c.args.self.now)
    c.in-Ok.ensures.total (count (goal.at.returns-in-Err-count_rows c).Start)
    c.in-Err-count_rows.equation c.in-Err-count_rows.ensures.beyond

pub returns-in-Ok-count_rounds : goal.returns-in-Ok-count_rounds
returns-in-Ok-count_rounds c =
    all_few (program_by c.args.self.now) (cert_by c.args.self.now) c.in-Ok.ensures.total
    (count (goal.at.returns-in-Ok-count_rounds c).Start) c.in-Ok-count_rows.ensures.total _
    c.in-Ok-count_rounds.ensures.total

pub returns-in-Err-count_rounds : goal.returns-in-Err-count_rounds
returns-in-Err-count_rounds c =
    rounds_beyond (program_by c.args.self.now) (cert_by c.args.self.now) c.in-Ok.ensures.total
    (count (goal.at.returns-in-Err-count_rounds c).Start) c.in-Ok-count_rows.ensures.total
    c.in-Err-count_rounds.ensures.beyond
