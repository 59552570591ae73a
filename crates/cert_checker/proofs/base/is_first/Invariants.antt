use Rattle.std.proofs.Common.{unsigned_abs}
use Rattle.coprime_base.specs.Sizes.{sizes}
use Rattle.cert_checker.proofs.Bases.{AreApart, IsApart, apart_cons}
use Rattle.cert_checker.proofs.Walks.{From}
use Rattle.cert_checker.proofs.base.is_first.Given as goal

abbrev pub invariant-loop-other : goal.invariant-loop-other
invariant-loop-other l =
    let a = unsigned_abs l.number.value in
    From (AreApart a) (IsApart a) (apart_cons a) (sizes l.others) l.other-index
