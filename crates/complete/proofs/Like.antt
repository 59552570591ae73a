-- Orders and arities carried along (specs/Completing).
--   fits_along      of a completion on its way
--   fits_idle       where nothing is current any more
--   fits_with       with another current polynomial
use Rattle.std.proofs.Common.{◌≡◌, ◌≤◌, ℕ, List, Option, Some, None, sym, ap₂, subst, ◌∙◌}
use Rattle.std.specs.Option.{IfSome}
use Rattle.std.specs.declared.cmp.PartialEq as PartialEq
use Rattle.ring_laws.specs.declared.Ring as Ring
use Rattle.machines.specs.Pairs.{mixes_degrees}
use Rattle.monos.specs.Variables.{most_variables}
use Rattle.monos.specs.declared.order.Order as Order
use Rattle.divide.specs.declared.current.Current.{Current}
use Rattle.divide.specs.Current.{IsCurrent, IsLike}
use Rattle.divide.proofs.Like.{divisors_along}
use Rattle.complete.specs.declared.element.Completing.{Completing}
use Rattle.complete.specs.Completing.{FitsCompletion}
use Rattle.complete.specs.Pairs.{IsQueue}
use Rattle.complete.proofs.Coming.{known}

module _ {K O : Type 0} {g : Ring.Ghosts K} {h : PartialEq.Ghosts K} {k : Order.Ghosts O}
    {l : PartialEq.Ghosts O} where
  current_along : (o o' : O) (m m' : ℕ) (ls : List (List ℕ)) (c : Option (Current K O g h k l))
      → o ≡ o' → m ≡ m' → IfSome c (λ q. (q.rest.order ≡ o) × (q.rest.arity ≡ m) × IsCurrent ls q)
      → IfSome c (λ q. (q.rest.order ≡ o') × (q.rest.arity ≡ m') × IsCurrent ls q)
  current_along o o' m m' ls None e f i = tt
  current_along o o' m m' ls (Some q) e f i = (i.0 ∙ e, i.1 ∙ f, i.2)

  pub fits_along : (o o' : O) (m m' : ℕ) (s : Completing K O g h k l) → o ≡ o' → m ≡ m'
      → FitsCompletion o m s
      → FitsCompletion o' m' s
  fits_along o o' m m' s e f i = record {
    order = i.order ∙ e;
    arity = i.arity ∙ f;
    elements = divisors_along o o' m m' s.basis.items e f i.elements;
    leads = i.leads;
    sugars = i.sugars;
    small = i.small;
    pair_small = i.pair_small;
    mixed = λ l. i.mixed (subst (λ n. n ≤ most_variables) (sym f) l)
        ∙ ap₂ (λ x n. mixes_degrees (k.order x) n) e f;
    queue = subst (λ x. IsQueue (k.order x) s.leads.items s.sugars.items s.queue) e i.queue;
    current = current_along o o' m m' s.leads.items s.current e f i.current;
  }

  fits_of : (o : O) (m : ℕ) (c : Option (Current K O g h k l)) (s : Completing K O g h k l)
      → IfSome c (λ q. (q.rest.order ≡ o) × (q.rest.arity ≡ m) × IsCurrent s.leads.items q)
      → FitsCompletion o m s → FitsCompletion o m (record s { current = c })
  fits_of o m c s there i = record {
    order = i.order;
    arity = i.arity;
    elements = i.elements;
    leads = i.leads;
    sugars = i.sugars;
    small = i.small;
    pair_small = i.pair_small;
    mixed = i.mixed;
    queue = i.queue;
    current = there;
  }

  pub fits_idle : (o : O) (m : ℕ) (c : Option (Current K O g h k l)) (s : Completing K O g h k l)
      → c ≡ None → FitsCompletion o m s → FitsCompletion o m (record s { current = c })
  fits_idle o m c s none i = fits_of o m c s (subst (λ (d : Option (Current K O g h k l)). IfSome d
      (λ q. (q.rest.order ≡ o) × (q.rest.arity ≡ m) × IsCurrent s.leads.items q)) (sym none) tt) i

  pub fits_with : (o : O) (m : ℕ) (c d : Current K O g h k l) (s : Completing K O g h k l)
      → s.current ≡ Some c → IsLike c d → IsCurrent s.leads.items d → FitsCompletion o m s
      → FitsCompletion o m (record s { current = Some d })
  fits_with o m c d s is like there i =
      let old = known (λ q. (q.rest.order ≡ o) × (q.rest.arity ≡ m)
      × IsCurrent s.leads.items q) s.current c is i.current in
      fits_of o m (Some d) s (like.0 ∙ old.0, like.1 ∙ old.1, there) i
