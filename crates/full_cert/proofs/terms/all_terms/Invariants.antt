use Rattle.poly_text.specs.Seen.{read_terms, HasRead}
use Rattle.full_cert.proofs.SoFar.{TermsSoFar}
use Rattle.full_cert.proofs.terms.all_terms.Given as goal

abbrev pub invariant-loop-value : goal.invariant-loop-value
invariant-loop-value l = record {
  read : HasRead l.arity l.found.items l.seen;
  so_far : TermsSoFar l.arity l.list l.value-index (read_terms l.found.items);
}
