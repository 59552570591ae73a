-- A list with its variables in order.
--   back t                 the state of the loop, from the values t in order
--   ordered_at             the value of an ordered polynomial there
--   ordered_members        what has only the visible variables in the ideal of the ordered list, of one that generates the invariants
use Rattle.std.proofs.Common.{◌≡◌, ◌↔◌, ℕ, zero, suc, ◌+◌, ◌<◌, List, [], ◌∷◌, ◌++◌, map, length, get_or, drop, arith, refl, sym, ap, ap₂, ◌∙◌, All}
use Rattle.std.proofs.lemmas.List.{length-append, length-map, map-append}
use Rattle.std.proofs.lemmas.List.Elements.{All-nil, All-cons}
use Rattle.std.proofs.lemmas.Simd.{map-map}
use Rattle.algebra.specs.Each.{Each}
use Rattle.algebra.proofs.Each.{each-map, each_of, map_same}
use Rattle.algebra.specs.Fraction.{Fraction, ℚ}
use Rattle.algebra.proofs.Fractions.{ℚ_ring}
use Rattle.polynomials.specs.Terms.{Terms, variables, compose, value_at}
use Rattle.polynomials.specs.Polynomial.{Arity, AllArity}
use Rattle.polynomials.proofs.Arity.{arity-compose, arity-variables, arity_at}
use Rattle.polynomials.proofs.ByValues.{same_by_values}
use Rattle.polynomials.proofs.ValueAt.{value_at_same, value_at-nil, value_at-compose, value_at-variables, combination_zero}
use Rattle.ideals.specs.Members.{IsMember}
use Rattle.ideals.proofs.FractionMembers.{member_same, member_at}
use Rattle.ideals.proofs.Members.{member_compose}
use Rattle.machines.specs.Elimination.{in_front}
use Rattle.machines.proofs.Padding.{arity-pad, in_front_at}
use Rattle.loops.specs.Program.{Expr, Program}
use Rattle.loops.specs.Inv.{Inv}
use Rattle.loops.proofs.Invariants.{end_is_state}
use Rattle.rounds.specs.Generate.{Generates}
use Rattle.loops.specs.Turning.{places}
use Rattle.loops.specs.Relations.{values_at_places, IsShown}
use Rattle.loops.proofs.Lists.{length-places}
use Rattle.corollaries.specs.Order.{hidden, visible, order, place_in, images, in_order}
use Rattle.corollaries.proofs.Permuted.{place_of_among, places_again, order_has_all, order_distinct, order_below, places_below, picked_all, get_placed}

abbrev at : Terms Fraction → List Fraction → Fraction
at p s = value_at ℚ p s

-- a default is mapped along
get_mapped_or : {A B : Type 0} (f : A → B) (xs : List A) (i : ℕ) (d : A)
    → f (get_or xs i d) ≡ get_or (map f xs) i (f d)
get_mapped_or f [] i d = refl
get_mapped_or f (x ∷ xs) zero d = refl
get_mapped_or f (x ∷ xs) (suc i) d = get_mapped_or f xs i d

drop_length : {A : Type 0} (xs ys : List A) → drop (length xs) (xs ++ ys) ≡ ys
drop_length [] ys = refl
drop_length (x ∷ xs) ys = drop_length xs ys

variable_value : (n i : ℕ) (t : List Fraction) → length t ≡ n
    → at (get_or (variables ℚ n) i []) t ≡ get_or t i ℚ.zero
variable_value n i t l = get_mapped_or (λ q. at q t) (variables ℚ n) i []
    ∙ ap₂ (λ l d. get_or l i d) (value_at-variables ℚ_ring n t l) (value_at-nil ℚ_ring t)

arity_of_variable : (n i : ℕ) → Arity n (get_or (variables ℚ n) i [])
unfolding Each
arity_of_variable n i = go (variables ℚ n) i (arity-variables n ℚ)
  where
    go : (vs : List (Terms Fraction)) (i : ℕ) → AllArity n vs → Arity n (get_or vs i [])
    go [] i h = tt
    go (v ∷ vs) zero h = h.0
    go (v ∷ vs) (suc i) h = go vs i h.1

variables_of : (n : ℕ) (js : List ℕ) → AllArity n (map (λ i. get_or (variables ℚ n) i []) js)
variables_of n js = each-map (Arity n) (λ i. get_or (variables ℚ n) i []) js
    (each_of (λ i. Arity n (get_or (variables ℚ n) i [])) (arity_of_variable n) js)

values_of_variables : (n : ℕ) (js : List ℕ) (t : List Fraction) → length t ≡ n
    → map (λ q. at q t) (map (λ i. get_or (variables ℚ n) i []) js) ≡ values_at_places js t
values_of_variables n js t l = map-map (λ q. at q t) (λ i. get_or (variables ℚ n) i []) js
    ∙ map_same _ _ js (each_of _ (λ i. variable_value n i t l) js)

module _ (m : ℕ) (is : List ℕ) where
  abbrev k : ℕ
  k = length (hidden m is)

  abbrev v : ℕ
  v = length (visible m is)

  -- ---- states, in order and back
  abbrev back : List Fraction → List Fraction
  back t = map (λ i. get_or t (place_in (order m is) i) ℚ.zero) (places 0 m)

  length-back : (t : List Fraction) → length (back t) ≡ m
  length-back t = length-map (places 0 m) _ ∙ length-places 0 m

  length-order : length (order m is) ≡ k + v
  length-order = length-append (hidden m is) (visible m is)

  length-picked : (s : List Fraction) → length (values_at_places (order m is) s) ≡ k + v
  length-picked s = length-map (order m is) _ ∙ length-order

  back_of_picked : (s : List Fraction) → length s ≡ m → back (values_at_places (order m is) s) ≡ s
  unfolding Each
  back_of_picked s l = map_same _ (λ i. get_or s i ℚ.zero) (places 0 m)
      (each_below (places 0 m) (places_below 0 m m (omega arith))) ∙ picked_all s m ℚ.zero l
    where
      each_below : (js : List ℕ) → Each (λ i. i < m) js
          → Each (λ i. get_or (values_at_places (order m is) s)
          (place_in (order m is) i) ℚ.zero ≡ get_or s i ℚ.zero) js
      each_below [] h = tt
      each_below (j ∷ js) h = (
        place_of_among (λ i. get_or s i ℚ.zero) ℚ.zero (order m is) j
            (order_has_all m is j h.0),
        each_below js h.1,
      )

  picked_back : (t : List Fraction) → length t ≡ k + v → values_at_places (order m is) (back t) ≡ t
  unfolding Each
  picked_back t l = map_same _ (λ i. get_or t (place_in (order m is) i) ℚ.zero) (order m is)
      (each_below (order m is) (order_below m is))
      ∙ places_again (order m is) t ℚ.zero (order_distinct m is) (l ∙ sym length-order)
    where
      each_below : (js : List ℕ) → Each (λ i. i < m) js
          → Each (λ i. get_or (back t) i ℚ.zero ≡ get_or t (place_in (order m is) i) ℚ.zero) js
      each_below [] h = tt
      each_below (j ∷ js) h = (
        get_placed (λ i. get_or t (place_in (order m is) i) ℚ.zero) m j ℚ.zero h.0,
        each_below js
            h.1,
      )

  -- the visible values stand behind the hidden ones
  visible_behind : (s : List Fraction) → drop k (values_at_places (order m is) s) ≡ values_at_places
      (visible m is) s
  visible_behind s =
      ap₂ drop (sym (length-map (hidden m is) (λ i. get_or s i ℚ.zero)))
      (map-append (λ i. get_or s i ℚ.zero) (hidden m is) (visible m is))
      ∙ drop_length (values_at_places (hidden m is) s) (values_at_places (visible m is) s)

  -- ---- polynomials in order
  images_arity : AllArity (k + v) (images m is)
  images_arity = each-map (Arity (k + v))
      (λ i. get_or (variables ℚ (k + v)) (place_in (order m is) i) []) (places 0 m)
      (each_of _ (λ i. arity_of_variable (k + v) (place_in (order m is) i)) (places 0 m))

  images_at : (t : List Fraction) → length t ≡ k + v → map (λ q. at q t) (images m is) ≡ back t
  images_at t l = map-map (λ q. at q t)
      (λ i. get_or (variables ℚ (k + v)) (place_in (order m is) i) []) (places 0 m)
      ∙ map_same _ _ (places 0 m)
      (each_of _ (λ i. variable_value (k + v) (place_in (order m is) i) t l) (places 0 m))

  ordered_at : (p : Terms Fraction) (t : List Fraction) → length t ≡ k + v
      → at (in_order m is p) t ≡ at p (back t)
  ordered_at p t l = value_at-compose ℚ_ring (k + v) p (images m is) t ∙ ap (at p) (images_at t l)

  pub ordered_arity : (gs : List (Terms Fraction)) → AllArity (k + v) (map (in_order m is) gs)
  ordered_arity gs = each-map (Arity (k + v)) (in_order m is) gs
      (each_of _ (λ g. arity-compose (k + v) ℚ g (images m is) images_arity) gs)

module _ {At : Type 0} (program : Program (Expr At)) (is : List ℕ) (gs : List (Terms Fraction))
    (generates : Generates (length program.names) gs (Inv program)) where
  abbrev n : ℕ
  n = length program.names

  abbrev a : ℕ
  a = length (hidden n is)

  abbrev b : ℕ
  b = length (visible n is)

  all_zero : (s : List Fraction) → length s ≡ n → (hs : List (Terms Fraction))
      → ((i : ℕ) → i < length hs → at (get_or hs i []) s ≡ ℚ.zero)
      → All (λ g. at g (values_at_places (order n is) s) ≡ ℚ.zero) (map (in_order n is) hs)
  all_zero s l [] h = All-nil _
  all_zero s l (g ∷ hs) h =
      All-cons (λ g. at g (values_at_places (order n is) s) ≡ ℚ.zero) (in_order n is g)
      (map (in_order n is) hs)
      (ordered_at n is g (values_at_places (order n is) s) (length-picked n is s)
      ∙ ap (at g) (back_of_picked n is s l) ∙ h 0 (omega arith))
      (all_zero s l hs (λ i k. h (suc i) (omega arith)))

  to_relation : (p : Terms Fraction) → Arity b p
      → IsMember ℚ (a + b) (map (in_order n is) gs) (in_front a p)
      → IsShown program (visible n is) p
  to_relation p h i = record {
    arity = h;
    zero = λ r.
        let s = r.end in
        let l : length s ≡ n = end_is_state program r in
        let t = values_at_places (order n is) s in
        ap (at p) (sym (visible_behind n is s))
        ∙ sym (in_front_at a b p t (length-picked n is s))
        ∙ value_at_same ℚ_ring _ _ t i.is
        ∙ combination_zero ℚ_ring i.cofactors (map (in_order n is) gs) t
        (all_zero s l gs (λ j
        k. (generates.only (get_or gs j []) (arity_at n gs generates.arities j)
        (member_at n gs generates.arities j k)).zero r));
  }

  -- a relation, as a polynomial over the loop's variables
  lifted : Terms Fraction → Terms Fraction
  lifted p = compose ℚ n p (map (λ i. get_or (variables ℚ n) i []) (visible n is))

  lifted_at : (p : Terms Fraction) (s : List Fraction) → length s ≡ n
      → at (lifted p) s ≡ at p (values_at_places (visible n is) s)
  unfolding lifted
  lifted_at p s l = value_at-compose ℚ_ring n p
      (map (λ i. get_or (variables ℚ n) i []) (visible n is)) s
      ∙ ap (at p) (values_of_variables n (visible n is) s l)

  lifted_arity : (p : Terms Fraction) → Arity n (lifted p)
  unfolding lifted
  lifted_arity p = arity-compose n ℚ p (map (λ i. get_or (variables ℚ n) i []) (visible n is))
      (variables_of n (visible n is))

  from_relation : (p : Terms Fraction) → IsShown program (visible n is) p
      → IsMember ℚ (a + b) (map (in_order n is) gs) (in_front a p)
  from_relation p h =
      let q = lifted p in
      let inv : Inv program q =
      record {
        arity = lifted_arity p;
        zero = λ r. lifted_at p r.end (end_is_state program r)
            ∙ h.zero r;
      } in
      let member : IsMember ℚ n gs q = generates.all q (lifted_arity p) inv in
      let turned : IsMember ℚ (a + b) (map (in_order n is) gs) (in_order n is q) =
      member_compose ℚ_ring n (a + b) (images n is) (images_arity n is) gs q generates.arities
      (lifted_arity p) member in
      member_same (a + b) (map (in_order n is) gs) (in_order n is q) (in_front a p)
      (same_by_values (a + b) (in_front a p) (in_order n is q) (arity-pad a b p h.arity)
      (arity-compose (a + b) ℚ q (images n is) (images_arity n is))
      (λ t l. in_front_at a b p t l ∙ ap (λ z. at p (drop a z)) (sym (picked_back n is t l))
      ∙ ap (at p) (visible_behind n is (back n is t))
      ∙ sym (lifted_at p (back n is t) (length-back n is t)) ∙ sym (ordered_at n is q t l)))
      turned

  pub ordered_members : (p : Terms Fraction) → Arity (length (visible (length program.names) is)) p
      → IsMember ℚ (length (hidden (length program.names) is) + length
      (visible (length program.names) is)) (map (in_order (length program.names) is) gs)
      (in_front (length (hidden (length program.names) is)) p)
      ↔ IsShown program (visible (length program.names) is) p
  ordered_members p h = (to_relation p h, from_relation p)
