use Rattle.std.proofs.Common.{◌<◌, length, rules}
use Rattle.closed_forms.proofs.Mixing.{head_all, mine_here, mine_later, tail_all}
use Rattle.closed_forms.proofs.sums.+has_any.Goals as goal

pub exponent-requires : goal.exponent-requires
exponent-requires t c =
    head_all (λ j. j < length c.args.term.now.mono) c.in-Some.ensures.cases.0 c.requires

pub has_any-requires : goal.has_any-requires
has_any-requires t c = (
  search rules,
  tail_all (λ j. j < length c.args.term.now.mono) c.in-Some.ensures.cases.0 c.requires,
)

pub returns-then-exponent-gt0 : goal.returns-then-exponent-gt0
returns-then-exponent-gt0 t c = mine_here _ c.in-Some.ensures.cases.0
    c.exponent.ensures c.if-exponent-gt0.true

pub returns : goal.returns
returns t c = mine_later _ c.in-Some.ensures.cases.0
    c.exponent.ensures c.if-exponent-gt0.false c.has_any.ensures
