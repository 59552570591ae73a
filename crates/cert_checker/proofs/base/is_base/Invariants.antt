use Rattle.coprime_base.specs.Sizes.{sizes}
use Rattle.expo.specs.Bases.{IsCoprimeBase}
use Rattle.cert_checker.proofs.Bases.{IsFirst, base_cons}
use Rattle.cert_checker.proofs.Walks.{From}
use Rattle.cert_checker.proofs.base.is_base.Given as goal

abbrev pub invariant-loop-i : goal.invariant-loop-i
invariant-loop-i l = From IsCoprimeBase IsFirst base_cons (sizes l.numbers) l.i
