-- The first state of a completion (specs/Completing).
--   first_is, first_told, first_fits     a state without elements
use Rattle.std.proofs.Common.{◌≡◌, ◌≢◌, ◌≤◌, ℕ, zero, suc, [], map, drop, length, None, refl, sym, ap, subst, ◌∙◌, arith}
use Rattle.std.specs.List.{All}
use Rattle.std.specs.Option.{IfSome}
use Rattle.std.specs.declared.cmp.PartialEq as PartialEq
use Rattle.std.proofs.lemmas.List.Elements.{All-nil}
use Rattle.machines.specs.Completion.{empty_state}
use Rattle.machines.specs.Cut.{lead_of}
use Rattle.machines.specs.Pairs.{mixes_degrees}
use Rattle.ring_laws.specs.declared.Ring as Ring
use Rattle.monos.specs.Variables.{most_variables}
use Rattle.monos.specs.declared.order.Order as Order
use Rattle.poly.specs.Seen.{terms_in, terms_each}
use Rattle.complete.specs.declared.element.Completing.{Completing}
use Rattle.divide.specs.Current.{IsCurrent}
use Rattle.complete.specs.Completing.{state_of, current_of, FitsCompletion, IsSmall}
use Rattle.complete.specs.Pairs.{pair_of, keys, InOrder, Stands, HasSugar, waiting_pairs, rows_of, IsTold}
use Rattle.complete.specs.Table.{Tells, Once}

drop_none : {X : Type 0} (k : ℕ) → drop {A = X} k [] ≡ []
drop_none zero = refl
drop_none (suc k) = refl

module _ {K O : Type 0} {g : Ring.Ghosts K} {h : PartialEq.Ghosts K} {k : Order.Ghosts O}
    {l : PartialEq.Ghosts O} (s : Completing K O g h k l)
    (basis : s.basis.items ≡ []) (leads : s.leads.items ≡ []) (sugars : s.sugars.items ≡ [])
    (pairs : s.queue.pairs.items ≡ []) (rows : rows_of s.queue.table ≡ []) (current : s.current
    ≡ None) (sugar : s.pair_sugar ≡ 0) where
  none_waits : waiting_pairs s.queue ≡ []
  none_waits = ap (drop s.queue.taken) pairs ∙ drop_none s.queue.taken

  pub first_is : state_of s ≡ empty_state
  first_is = λ i. record {
    basis = terms_each (basis i);
    sugars = sugars i;
    waiting = map pair_of (none_waits i);
    current = current_of (current i);
    pair_sugar = sugar i;
  }

  pub first_told : IsTold s.queue
  first_told = subst (λ t. Tells t (map pair_of (waiting_pairs s.queue))) (sym rows) (λ i j l m.
      absurd (omega (arith, m)))

  pub first_fits : (o : O) (m : ℕ) → s.order ≡ o → s.arity ≡ m → s.queue.taken ≡ 0
      → (m ≤ most_variables → s.queue.mixed ≡ mixes_degrees (k.order o) m) → FitsCompletion o m s
  unfolding InOrder Once
  first_fits o m e f t mixed = record {
    order = e;
    arity = f;
    elements = subst (All (λ f. (f.order ≡ o) × (f.arity ≡ m) × (terms_in f ≢ []))) (sym basis)
        (All-nil _);
    leads = leads ∙ sym (ap (λ xs. map lead_of (terms_each xs)) basis);
    sugars = ap length sugars ∙ sym (ap length basis);
    small = subst (All (IsSmall (length s.basis.items))) (sym sugars) (All-nil _);
    pair_small = omega (arith, sugar);
    mixed = mixed;
    queue = record {
      taken = omega (arith, t);
      pairs = subst (All (Stands s.leads.items)) (sym none_waits) (All-nil _);
      sugars = subst (All (HasSugar s.leads.items s.sugars.items)) (sym none_waits) (All-nil _);
      in_order = subst (InOrder (keys (k.order o) s.queue.mixed)) (sym none_waits) tt;
      once = subst (λ ps. Once (map pair_of ps)) (sym none_waits) tt;
      count = ap length rows ∙ sym (ap length leads);
    };
    current = subst (λ c. IfSome c (λ q. (q.rest.order ≡ o) × (q.rest.arity ≡ m)
        × IsCurrent s.leads.items q)) (sym current) tt;
  }
