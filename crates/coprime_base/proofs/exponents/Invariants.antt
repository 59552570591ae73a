use Rattle.std.proofs.Common.{◌≡◌, length, drop, unsigned_abs}
use Rattle.exponentials.specs.Base.{Coprime}
use Rattle.frac128.specs.FracMeaning.{fraction_of}
use Rattle.coprime_base.specs.Sizes.{sizes}
use Rattle.coprime_base.specs.Parts.{Begun}
use Rattle.coprime_base.proofs.exponents.Given as goal

abbrev pub invariant-loop-whole : goal.invariant-loop-whole
invariant-loop-whole l = record {
  count : length l.found.items ≡ l.whole-index;
  coprime : Coprime (sizes (drop l.whole-index l.whole-items));
  begun : Begun (sizes l.whole-items) (unsigned_abs (fraction_of l.value).num)
      (fraction_of l.value).den (sizes (drop l.whole-index l.whole-items)) l.found.items l.num
      l.den;
}
