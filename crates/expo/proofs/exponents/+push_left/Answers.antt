use Rattle.expo.proofs.Leaving.{left_nothing, left_first, left_more}
use Rattle.expo.proofs.exponents.+push_left.Goals as goal

pub returns-in_default : goal.returns-in_default
returns-in_default t c = left_nothing c.args.out.now.items c.args.these.now c.args.others.now
    c.in_default.ensures'.cases

pub returns-in_default-2 : goal.returns-in_default-2
returns-in_default-2 t c = left_first c.args.out.now.items c.args.these.now c.args.others.now
    c.in_default.ensures.cases

pub returns : goal.returns
returns t c = left_more c.push_left.result c.args.out.now.items c.push.new.self.items
    c.push_left.new.out.items c.args.these.now c.args.others.now c.in-Some-Some.these.now
    c.in-Some-Some.others.now c.in-Some-Some.one.now c.in-Some-Some.other.now
    c.saturating_sub.result
    c.in-Some-Some.ensures.cases.0 c.in-Some-Some.ensures'.cases.0 c.saturating_sub.ensures
    c.in_ok-push.ensures.items c.push_left.ensures
