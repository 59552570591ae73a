use Rattle.std.proofs.Common.{◌<◌, All, length, sym, subst, rules}
use Rattle.std.proofs.lemmas.List.{length-set}
use Rattle.closed_forms.proofs.Mixing.{tail_all}
use Rattle.closed_forms.proofs.lengths.+set_lengths.Goals as goal

pub set_lengths-requires : goal.set_lengths-requires
set_lengths-requires t c = (
  search rules,
  subst (λ n. All (λ i. i < n) c.in-Some.group.now)
      (sym (length-set c.args.sums.now.items c.in-Some.variable.now c.args.terms)) (tail_all (λ i. i
      < length c.args.sums.now.items) c.in-Some.ensures.cases.0 c.requires.inside),
)
