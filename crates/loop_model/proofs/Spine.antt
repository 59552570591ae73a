-- The left spine of an expression, and what goes up along it.
--   below e               the spine of its first operand, if it has one
--   first_smaller         a first operand has fewer operators
--   IsOn ps e p ds        p stands on the spine of e, above ds: it uses no other variables, is no larger, and where it stops, e stops
--   Rising ps e xs q      the polynomials of the spine of e are formed but for those of xs, and q was the last
--   begun, risen, all_formed     at the beginning, an expression of the spine later, and at the end
--   taken                 what the last of xs is taken for
use Rattle.std.proofs.Common.{◌≡◌, ◌<◌, ◌≤◌, ◌+◌, ℕ, suc, List, [], ◌∷◌, ◌++◌, Option, Some, None, Ok, arith, refl, sym, subst, ◌∙◌, append_assoc}
use Rattle.std.specs.Option.{IfSome, option_map_or}
use Rattle.std.proofs.lemmas.List.{append-nil}
use Rattle.algebra.proofs.Basics.{same_head, same_tail}
use Rattle.loops.specs.Program.{Expr, number, variable, neg, add, sub, mul, divide, power}
use Rattle.loops.specs.WellFormed.{Uses}
use Rattle.poly.specs.Seen.{terms_each, arity_of}
use Rattle.loop_model.specs.FracPoly.{FracPoly}
use Rattle.loop_model.specs.Spine.{first_operand, spine}
use Rattle.loop_model.specs.Stops.{StopsAt, IsFormed}
use Rattle.loop_model.specs.declared.map_error.MapError.{MapError}
use Rattle.loop_model.proofs.ExprSize.{size_of}
use Rattle.loop_model.proofs.FormedLaws.{stops_left, stopped_neg, stopped_add, stopped_sub, stopped_mul, stopped_divide, stopped_power}

abbrev pub below : Expr ℕ → List (Expr ℕ)
below e = option_map_or spine (first_operand e) []

pub spine_is : (e : Expr ℕ) → spine e ≡ e ∷ below e
unfolding spine
spine_is (number n) = refl
spine_is (variable i) = refl
spine_is (neg at e) = refl
spine_is (add at e f) = refl
spine_is (sub at e f) = refl
spine_is (mul at e f) = refl
spine_is (divide at e n) = refl
spine_is (power at e n) = refl

one_more : (n : ℕ) → n < suc n
one_more n = omega arith

sum_more : (n k : ℕ) → n < suc (n + k)
sum_more n k = omega arith

pub first_smaller : (e : Expr ℕ) → IfSome (first_operand e) (λ f. size_of f < size_of e)
unfolding size_of
first_smaller (number n) = tt
first_smaller (variable i) = tt
first_smaller (neg at e) = one_more (size_of e)
first_smaller (add at e f) = sum_more (size_of e) (size_of f)
first_smaller (sub at e f) = sum_more (size_of e) (size_of f)
first_smaller (mul at e f) = sum_more (size_of e) (size_of f)
first_smaller (divide at e n) = one_more (size_of e)
first_smaller (power at e n) = one_more (size_of e)

first_uses : (n : ℕ) (e : Expr ℕ) → Uses (λ i. i < n) e
    → IfSome (first_operand e) (λ f. Uses (λ i. i < n) f)
unfolding Uses
first_uses n (number z) u = tt
first_uses n (variable i) u = tt
first_uses n (neg at e) u = u
first_uses n (add at e f) u = u.0
first_uses n (sub at e f) u = u.0
first_uses n (mul at e f) u = u.0
first_uses n (divide at e z) u = u.0
first_uses n (power at e z) u = u

module _ (ps : List FracPoly) where
  first_stops : (x : MapError) (e : Expr ℕ)
      → IfSome (first_operand e) (λ f. StopsAt ps f x → StopsAt ps e x)
  first_stops x (number n) = tt
  first_stops x (variable i) = tt
  first_stops x (neg at e) = λ h. stopped_neg (arity_of ps) (terms_each ps) at e x h
  first_stops x (add at e f) = λ h. stopped_add (arity_of ps) (terms_each ps) at e f x
      (stops_left (arity_of ps) (terms_each ps) e f x h)
  first_stops x (sub at e f) = λ h. stopped_sub (arity_of ps) (terms_each ps) at e f x
      (stops_left (arity_of ps) (terms_each ps) e f x h)
  first_stops x (mul at e f) = λ h. stopped_mul (arity_of ps) (terms_each ps) at e f x
      (stops_left (arity_of ps) (terms_each ps) e f x h)
  first_stops x (divide at e n) = λ h. stopped_divide (arity_of ps) (terms_each ps) at e x h n
  first_stops x (power at e n) = λ h. stopped_power (arity_of ps) (terms_each ps) at e x h n

  pub record IsOn (e p : Expr ℕ) (ds : List (Expr ℕ)) : Type 0 where
    pub above : below p ≡ ds
    pub stops : (x : MapError) → StopsAt ps p x → StopsAt ps e x
    pub uses : (n : ℕ) → Uses (λ i. i < n) e → Uses (λ i. i < n) p
    pub small : size_of p ≤ size_of e

  -- e, whose first operand is o
  on_operand : (e p : Expr ℕ) (xs ds : List (Expr ℕ)) (o : Option (Expr ℕ))
      → IfSome o (λ f. size_of f < size_of e)
      → ((n : ℕ) → Uses (λ i. i < n) e → IfSome o (λ f. Uses (λ i. i < n) f))
      → ((x : MapError) → IfSome o (λ f. StopsAt ps f x → StopsAt ps e x))
      → option_map_or spine o [] ≡ xs ++ p ∷ ds
      → ((f : Expr ℕ) → spine f ≡ xs ++ p ∷ ds → IsOn f p ds) → IsOn e p ds
  on_operand e p [] ds None small uses stops h k = absurd (let n : [] ≡ p ∷ ds = h in cc)
  on_operand e p (x ∷ xs) ds None small uses stops h k =
      absurd (let n : [] ≡ x ∷ (xs ++ p ∷ ds) = h in cc)
  on_operand e p xs ds (Some f) small uses stops h k =
      let on = k f h in
      let less : size_of f < size_of e = small in
      let most : size_of p ≤ size_of f = on.small in
      record {
        above = on.above;
        stops = λ x z. stops x (on.stops x z);
        uses = λ n u. on.uses n (uses n u);
        small = omega (arith, less, most);
      }

  on_spine : (xs : List (Expr ℕ)) (e p : Expr ℕ) (ds : List (Expr ℕ)) → spine e ≡ xs ++ p ∷ ds
      → IsOn e p ds
  on_spine [] e p ds h =
      let both : e ∷ below e ≡ p ∷ ds = sym (spine_is e) ∙ h in
      subst (λ z. IsOn e z ds) (same_head both) (record {
        above = same_tail both;
        stops = λ x z. z;
        uses = λ n u. u;
        small = omega arith;
      })
  on_spine (x ∷ xs) e p ds h =
      let both : e ∷ below e ≡ x ∷ (xs ++ p ∷ ds) = sym (spine_is e) ∙ h in
      on_operand e p xs ds (first_operand e) (first_smaller e) (λ n u. first_uses n e u)
      (λ x. first_stops x e) (same_tail both) (λ f g. on_spine xs f p ds g)

  -- ---- up along the spine
  pub record Rising (e : Expr ℕ) (xs : List (Expr ℕ)) (q : FracPoly) : Type 0 where
    pub done : List (Expr ℕ)
    pub split : spine e ≡ xs ++ done
    pub formed : (d : Expr ℕ) (ds : List (Expr ℕ)) → done ≡ d ∷ ds → IsFormed ps d (Ok q)

  pub begun : (e : Expr ℕ) (xs : List (Expr ℕ)) (q : FracPoly) → xs ≡ spine e → Rising e xs q
  begun e xs q h = record {
    done = [];
    split = sym h ∙ sym (append-nil xs);
    formed = λ d ds none. absurd (cc);
  }

  pub all_formed : (e : Expr ℕ) (q : FracPoly) → Rising e [] q → IsFormed ps e (Ok q)
  all_formed e q r = r.formed e (below e) (sym r.split ∙ spine_is e)

  module _ (e p : Expr ℕ) (xs : List (Expr ℕ)) (q : FracPoly) (r : Rising e (xs ++ p ∷ []) q) where
    split_before : spine e ≡ xs ++ p ∷ r.done
    split_before = r.split ∙ append_assoc xs (p ∷ []) r.done

    pub taken : IsOn e p r.done
    taken = on_spine xs e p r.done split_before

    pub operand_formed : IfSome (first_operand p) (λ f. IsFormed ps f (Ok q))
    operand_formed = go (first_operand p) taken.above
      where
        go : (o : Option (Expr ℕ)) → option_map_or spine o [] ≡ r.done
            → IfSome o (λ f. IsFormed ps f (Ok q))
        go None h = tt
        go (Some f) h = r.formed f (below f) (sym h ∙ spine_is f)

    pub risen : (q' : FracPoly) → IsFormed ps p (Ok q') → Rising e xs q'
    risen q' f = record {
      done = p ∷ r.done;
      split = split_before;
      formed = λ d ds h. subst (λ z. IsFormed ps z (Ok q')) (same_head h) f;
    }
