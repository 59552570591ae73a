-- Orders and arities carried along (specs/Tidying).
--   fits_along      of a tidying on its way
use Rattle.std.proofs.Common.{◌≡◌, ℕ, ◌∙◌}
use Rattle.std.specs.declared.cmp.PartialEq as PartialEq
use Rattle.ring_laws.specs.declared.Ring as Ring
use Rattle.monos.specs.declared.order.Order as Order
use Rattle.divide.proofs.Like.{divisors_along}
use Rattle.reduced_basis.specs.declared.tidying.Tidying.{Tidying}
use Rattle.reduced_basis.specs.Tidying.{FitsTidying}

module _ {K O : Type 0} {g : Ring.Ghosts K} {h : PartialEq.Ghosts K} {k : Order.Ghosts O}
    {l : PartialEq.Ghosts O} where
  pub fits_along : (o o' : O) (m m' : ℕ) (s : Tidying K O g h k l) → o ≡ o' → m ≡ m'
      → FitsTidying o m s
      → FitsTidying o' m' s
  fits_along o o' m m' s e f i = record {
    order = i.order ∙ e;
    arity = i.arity ∙ f;
    few = i.few;
    elements = divisors_along o o' m m' s.list.items e f i.elements;
    leads = i.leads;
    apart_in = i.apart_in;
    apart = i.apart;
    clean_in = i.clean_in;
    clean = i.clean;
  }
