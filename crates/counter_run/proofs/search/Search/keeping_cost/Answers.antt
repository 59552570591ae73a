use Rattle.std.proofs.Common.{◌≡◌, ◌*◌, length, min, nat_lt, true, false, rules}
use Rattle.poly.proofs.Standing.{arity_over}
use Rattle.counter_run.specs.Costs.{kept_cost, most_count}
use Rattle.counter_run.specs.Search.{loop_of, sought, word_in}
use Rattle.counter_run.proofs.Costs.{keeping_some, keeping_none}
use Rattle.counter_run.proofs.search.Search.keeping_cost.Goals as goal

pub returns-then-len-self : goal.returns-then-len-self
returns-then-len-self c =
    let s = c.args.self.now in
    let t = c.args.word.now in
    let is : nat_lt (length t.word.items) s.most ≡ true = search rules in
    let counted : c.saturating_mul.result
    ≡ min (kept_cost * length t.polynomial.terms.items) most_count = search rules in
    keeping_some (loop_of s) (sought s)
    (arity_over (length (loop_of s).names) s.polynomial.now c.requires.search.arity)
    t.polynomial (word_in t) c.requires.word.stands s.most c.saturating_mul.result is counted

pub returns-else-len-self : goal.returns-else-len-self
returns-else-len-self c =
    let s = c.args.self.now in
    let t = c.args.word.now in
    let is : nat_lt (length t.word.items) s.most ≡ false = search rules in
    keeping_none (loop_of s) (sought s)
    (arity_over (length (loop_of s).names) s.polynomial.now c.requires.search.arity)
    s.most (word_in t) is
