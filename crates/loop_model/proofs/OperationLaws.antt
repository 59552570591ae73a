-- What holds of operations holds of those on the same polynomials.
--   SameOperation m o o'       the same operator on the same polynomials
--   AllSameOperations os os'   so each of two lists, one by one;  same_operations-append: one behind another
--   same_forms                 a polynomial that is formed by the ones is formed by the others
--   forms_behind               operations behind some that pass no limit
--   stops_front, stops_behind  a stop among the first operations, and behind some that pass no limit
--   does_last                  one operation behind some that pass no limit
--   handed_on                  what stops in a part stops
use Rattle.std.proofs.Common.{◌≡◌, inl, inr, ℕ, List, [], ◌∷◌, ◌++◌, refl, sym, ap, subst, ◌∙◌, append_assoc, Result, Ok, Err}
use Rattle.std.specs.List.{AllZip}
use Rattle.std.specs.Result.{IsErrAnd}
use Rattle.std.proofs.lemmas.List.Elements.{All-cons, All-head, All-tail, All-append}
use Rattle.algebra.specs.Fraction.{Fraction, ℚ}
use Rattle.polynomials.specs.Terms.{Terms, Same}
use Rattle.polynomials.proofs.Same.{Same-sym, Same-trans}
use Rattle.poly.specs.Standing.{StandsFor}
use Rattle.loop_model.specs.FracPoly.{FracPoly}
use Rattle.loop_model.specs.Operations.{Kind, summed, multiplied, divided, Operation, HoldsCollected, IsHigh, IsTooHighIn, IsTooHigh, PassesLimit, BothPast, IsPastOperation, IsFree, IsFirst}
use Rattle.loop_model.specs.Stops.{Stops, Forms, Does}
use Rattle.loop_model.specs.declared.map_error.MapError.{MapError}
use Rattle.loop_model.specs.declared.map_error.MapError.TheVariants.{Limit, Wide, Memory}

pub collected_along : (m : ℕ) (P : Terms Fraction → Type 0) (p q : Terms Fraction) → Same ℚ p q
    → HoldsCollected m P p → HoldsCollected m P q
collected_along m P p q s c = record {
  terms = c.terms;
  is = c.is;
  same = Same-trans ℚ c.same s;
  holds = c.holds;
}

pub record SameOperation (o o' : Operation) : Type 0 where
  pub at : o.at ≡ o'.at
  pub kind : o.kind ≡ o'.kind
  pub left : Same ℚ o.left o'.left
  pub right : Same ℚ o.right o'.right
  pub result : Same ℚ o.result o'.result

abbrev pub AllSameOperations : List Operation → List Operation → Type 0
AllSameOperations os os' = AllZip SameOperation os os'

pub operation_sym : (o o' : Operation) → SameOperation o o' → SameOperation o' o
operation_sym o o' s = record {
  at = sym s.at;
  kind = sym s.kind;
  left = Same-sym ℚ s.left;
  right = Same-sym ℚ s.right;
  result = Same-sym ℚ s.result;
}

pub same_operations-append : (os os' ps ps' : List Operation) → AllSameOperations os os'
    → AllSameOperations ps ps' → AllSameOperations (os ++ ps) (os' ++ ps')
same_operations-append [] [] ps ps' h k = k
same_operations-append [] (o' ∷ os') ps ps' h k = absurd h
same_operations-append (o ∷ os) [] ps ps' h k = absurd h
same_operations-append (o ∷ os) (o' ∷ os') ps ps' h k =
    (h.0, same_operations-append os os' ps ps' h.1 k)

-- ---- one operation
module _ (m : ℕ) where
  high_along : (k : Kind) (p p' : Terms Fraction) → Same ℚ p p' → IsTooHighIn m k p
      → IsTooHighIn m k p'
  high_along summed p p' s h = h
  high_along multiplied p p' s h = collected_along m IsHigh p p' s h
  high_along divided p p' s h = h

  pub too_high_along : (o o' : Operation) → SameOperation o o' → IsTooHigh m o → IsTooHigh m o'
  too_high_along o o' s h = subst (λ k. IsTooHighIn m k o'.result) s.kind
      (high_along o.kind o.result o'.result s.result h)

  pub passes_along : (o o' : Operation) → SameOperation o o' → PassesLimit m o → PassesLimit m o'
  passes_along o o' s (inl h) = inl (too_high_along o o' s h)
  passes_along o o' s (inr h) = inr (collected_along m _ o.result o'.result s.result h)

  pub past_along : (o o' : Operation) → SameOperation o o' → IsPastOperation m o
      → IsPastOperation m o'
  past_along o o' s h = record {
    terms = h.terms;
    is = h.is;
    same = Same-trans ℚ h.same s.left;
    holds = collected_along m _ o.right o'.right s.right
        (subst (λ k. HoldsCollected m (λ q. BothPast m k h.terms q) o.right) s.kind h.holds);
  }

  abbrev IsWideOne : Operation → Type 0
  IsWideOne o = ¬ (IsTooHigh m o) × IsPastOperation m o

  wide_along : (o o' : Operation) → SameOperation o o' → IsWideOne o → IsWideOne o'
  wide_along o o' s h = (
    (λ high. h.0 (too_high_along o' o (operation_sym o o' s) high)),
    past_along o o' s h.1,
  )

  -- ---- some operations
  abbrev IsFreeOne : Operation → Type 0
  IsFreeOne o = ¬ (PassesLimit m o)

  pub free_along : (os os' : List Operation) → AllSameOperations os os' → IsFree m os → IsFree m os'
  free_along [] [] s f = f
  free_along [] (o' ∷ os') s f = absurd s
  free_along (o ∷ os) [] s f = absurd s
  free_along (o ∷ os) (o' ∷ os') s f = All-cons IsFreeOne o' os'
      (λ h. All-head IsFreeOne o os f (passes_along o' o (operation_sym o o' s.0) h))
      (free_along os os' s.1 (All-tail IsFreeOne o os f))

  -- the part of the others that stands where before, the operation and behind stand
  record Split (before : List Operation) (o : Operation) (os' : List Operation) : Type 0 where
    before' : List Operation
    operation' : Operation
    behind' : List Operation
    order' : os' ≡ before' ++ operation' ∷ behind'
    same_before : AllSameOperations before before'
    same_operation : SameOperation o operation'

  split_along : (before : List Operation) (o : Operation) (behind os' : List Operation)
      → AllSameOperations (before ++ o ∷ behind) os' → Split before o os'
  split_along [] o behind [] s = absurd s
  split_along [] o behind (o' ∷ os') s = record {
    before' = [];
    operation' = o';
    behind' = os';
    order' = refl;
    same_before = tt;
    same_operation = s.0;
  }
  split_along (b ∷ before) o behind [] s = absurd s
  split_along (b ∷ before) o behind (b' ∷ os') s =
      let rest = split_along before o behind os' s.1 in
      record {
        before' = b' ∷ rest.before';
        operation' = rest.operation';
        behind' = rest.behind';
        order' = ap (λ xs. b' ∷ xs) rest.order';
        same_before = (s.0, rest.same_before);
        same_operation = rest.same_operation;
      }

  first_along : (P : Operation → Type 0) → ((o o' : Operation) → SameOperation o o' → P o → P o')
      → (os os' : List Operation) (at : ℕ) → AllSameOperations os os' → IsFirst m P os at
      → IsFirst m P os' at
  first_along P along os os' at s f =
      let split : Split f.before f.operation os' = split_along f.before f.operation f.behind os'
      (subst (λ xs. AllSameOperations xs os') f.order s) in
      record {
        before = split.before';
        operation = split.operation';
        behind = split.behind';
        order = split.order';
        free = free_along f.before split.before' split.same_before f.free;
        offset = sym split.same_operation.at ∙ f.offset;
        holds = along f.operation split.operation' split.same_operation f.holds;
      }

  pub stops_along : (os os' : List Operation) (e : MapError) → AllSameOperations os os'
      → Stops m os e → Stops m os' e
  stops_along os os' (Limit at) s h = first_along (PassesLimit m) passes_along os os' at s h
  stops_along os os' (Wide at) s h = first_along IsWideOne wide_along os os' at s h
  stops_along os os' Memory s h = tt

  pub stands_along : (p : FracPoly) (q q' : Terms Fraction) → Same ℚ q q' → StandsFor m p q
      → StandsFor m p q'
  stands_along p q q' s h = record { order = refl; arity = h.arity; same = Same-trans ℚ h.same s }

  pub same_forms : (os os' : List Operation) (q q' : Terms Fraction) (r : Result FracPoly MapError)
      → AllSameOperations os os' → Same ℚ q q' → Forms m os q r → Forms m os' q' r
  same_forms os os' q q' (Ok p) s t h = (stands_along p q q' t h.0, free_along os os' s h.1)
  same_forms os os' q q' (Err e) s t h = stops_along os os' e s h

  -- ---- some behind others
  first_front : (P : Operation → Type 0) (os ps : List Operation) (at : ℕ) → IsFirst m P os at
      → IsFirst m P (os ++ ps) at
  first_front P os ps at f = record {
    before = f.before;
    operation = f.operation;
    behind = f.behind ++ ps;
    order = ap (λ xs. xs ++ ps) f.order ∙ append_assoc f.before (f.operation ∷ f.behind) ps;
    free = f.free;
    offset = f.offset;
    holds = f.holds;
  }

  first_behind : (P : Operation → Type 0) (os ps : List Operation) (at : ℕ) → IsFree m os
      → IsFirst m P ps at → IsFirst m P (os ++ ps) at
  first_behind P os ps at free f = record {
    before = os ++ f.before;
    operation = f.operation;
    behind = f.behind;
    order = ap (λ xs. os ++ xs) f.order ∙ sym (append_assoc os f.before (f.operation ∷ f.behind));
    free = All-append IsFreeOne os f.before free f.free;
    offset = f.offset;
    holds = f.holds;
  }

  pub stops_front : (os ps : List Operation) (e : MapError) → Stops m os e → Stops m (os ++ ps) e
  stops_front os ps (Limit at) h = first_front (PassesLimit m) os ps at h
  stops_front os ps (Wide at) h = first_front IsWideOne os ps at h
  stops_front os ps Memory h = tt

  pub stops_behind : (os ps : List Operation) (e : MapError) → IsFree m os → Stops m ps e
      → Stops m (os ++ ps) e
  stops_behind os ps (Limit at) f h = first_behind (PassesLimit m) os ps at f h
  stops_behind os ps (Wide at) f h = first_behind IsWideOne os ps at f h
  stops_behind os ps Memory f h = tt

  pub forms_behind : (os ps : List Operation) (q : Terms Fraction) (r : Result FracPoly MapError)
      → IsFree m os → Forms m ps q r → Forms m (os ++ ps) q r
  forms_behind os ps q (Ok p) f h = (h.0, All-append IsFreeOne os ps f h.1)
  forms_behind os ps q (Err e) f h = stops_behind os ps e f h

  -- one operation, which the other is the same as
  pub does_last : (os : List Operation) (o o' : Operation) (r : Result FracPoly MapError)
      → IsFree m os → SameOperation o o' → Does m o r → Forms m (os ++ o' ∷ []) o'.result r
  does_last os o o' r f s h = forms_behind os (o' ∷ []) o'.result r f (same_forms (o ∷ []) (o' ∷ [])
      o.result o'.result r (s, tt) s.result h)

  -- the error that `?` hands on
  pub handed_on : (os : List Operation) (q : Terms Fraction) (e : MapError)
      (r : Result FracPoly MapError) → IsErrAnd r (λ x. x ≡ e) → Stops m os e → Forms m os q r
  handed_on os q e (Ok p) is h = absurd is
  handed_on os q e (Err x) is h = subst (Stops m os) (sym is) h
