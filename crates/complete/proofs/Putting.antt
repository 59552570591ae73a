-- Pairs put among those that wait, over plain variables.
--   coprime_is                  the test whether monomials are coprime tells it
--   all_insert                  one more at a place
--   stand_long                  the multiples of pairs have an exponent for each variable
--   stands_at, sugar_there      a pair of two places
--   stand_more, sugar_more      pairs stand for more leads, and their sugars are those for more elements
--   within_all                  their places are those of leads
--   Kept, kept_none, kept_enter, kept_enters, kept_more  what is kept by pairs that are put where they belong
--   put_as                      and that this is the place of a new one among the waiting ones
--   new_next, new_end           the pairs of a new lead, one more, and all
use Rattle.std.proofs.Common.{◌≡◌, ◌↔◌, ◌⊎◌, inl, inr, ℕ, zero, suc, ◌+◌, ◌-◌, ◌<◌, min, max, sum, Bool, true, ◌&&◌, ◌||◌, cond, eqb, List, [], ◌∷◌, ◌++◌, map, take, drop, length, get_or, slice_get, Some, refl, sym, ap, ap₂, subst, ◌∙◌, arith}
use Rattle.std.specs.Cmp.{both_ways}
use Rattle.std.specs.List.{All, insert}
use Rattle.std.proofs.lemmas.Bool.{eqb-true, or_cases, or_right, and_parts}
use Rattle.std.proofs.lemmas.List.{length_push, get_or_append_left, get_or_push}
use Rattle.std.proofs.lemmas.Option.{slice_get_within, slice_get_read, get_or_from_slice_get}
use Rattle.std.proofs.lemmas.List.Elements.{All-nil, All-append, All-cons, All-take, All-drop}
use Rattle.polynomials.specs.Exponent.{lcm}
use Rattle.polynomials.specs.Order.{Rank}
use Rattle.polynomials.proofs.Exponent.{length-lcm}
use Rattle.machines.specs.Pairs.{coprime, multiple, sugar, mixes_degrees, put_pair, with_new}
use Rattle.machines.proofs.Waiting.{AllWithin}
use Rattle.monos.specs.Coprime.{IsCoprime}
use Rattle.complete.specs.declared.pair.Pair.{Pair}
use Rattle.complete.specs.declared.pairs.Queue.{Queue}
use Rattle.complete.specs.Pairs.{pair_of, Stands, AllStand, HasSugar, AllHaveSugar, keys, InOrder, enter, enters, IsPairOf, waiting_pairs, IsQueue}
use Rattle.complete.proofs.Placing.{keys_total, keys_apart, enter_is}
use Rattle.complete.proofs.Entering.{all_enter, all_enters, in_order_enter, in_order_enters, enters_enter}

-- ---- coprime monomials
least_to : (a b : ℕ) → (eqb a 0 || eqb b 0) ≡ true → min a b ≡ 0
least_to a b e = go (or_cases (eqb a 0) (eqb b 0) e)
  where
    go : (eqb a 0 ≡ true) ⊎ (eqb b 0 ≡ true) → min a b ≡ 0
    go (inl h) = let z : a ≡ 0 = eqb-true a 0 h in omega (arith, z)
    go (inr h) = let z : b ≡ 0 = eqb-true b 0 h in omega (arith, z)

least_from : (a b : ℕ) → min a b ≡ 0 → (eqb a 0 || eqb b 0) ≡ true
least_from zero b e = refl
least_from (suc a) zero e = or_right (eqb (suc a) 0) true refl
least_from (suc a) (suc b) e = absurd (let f : min (suc a) (suc b) ≡ 0 = e in omega (arith, f))

coprime_to : (d e : List ℕ) → length d ≡ length e → coprime d e ≡ true → IsCoprime d e
unfolding coprime
coprime_to [] e l h k i = absurd (omega (arith, i))
coprime_to (x ∷ d) [] l h k i = absurd (omega arith)
coprime_to (x ∷ d) (y ∷ e) l h zero i =
    least_to x y (and_parts (eqb x 0 || eqb y 0) (coprime d e) h).0
coprime_to (x ∷ d) (y ∷ e) l h (suc k) i =
    coprime_to d e (omega arith) (and_parts (eqb x 0 || eqb y 0) (coprime d e) h).1 k
    (omega (arith, i))

coprime_from : (d e : List ℕ) → length d ≡ length e → IsCoprime d e → coprime d e ≡ true
unfolding coprime
coprime_from [] e l h = refl
coprime_from (x ∷ d) [] l h = absurd (omega arith)
coprime_from (x ∷ d) (y ∷ e) l h = ap₂ ◌&&◌ (least_from x y (h zero (omega arith)))
    (coprime_from d e (omega arith) (λ k i. h (suc k) (omega (arith, i))))

pub coprime_is : (b : Bool) (d e : List ℕ) → length d ≡ length e → ((b ≡ true) ↔ IsCoprime d e)
    → b ≡ coprime d e
coprime_is b d e l h = both_ways b (coprime d e) (λ t. coprime_from d e l (h.0 t))
    (λ t. h.1 (coprime_to d e l t))

-- ---- a pair among the others
module _ {X : Type 0} where
  pub all_insert : (P : X → Type 0) (xs : List X) (i : ℕ) (x : X) → All P xs → P x
      → All P (insert xs i x)
  all_insert P xs i x a p = All-append P (take i xs) (x ∷ drop i xs) (All-take P i xs a)
      (All-cons P x (drop i xs) p (All-drop P i xs a))

-- ---- what pairs stand for
pub left_in : (ls : List (List ℕ)) (a : Pair) → Stands ls a → a.parts.value.left < length ls
left_in ls a s = let f = s.left_first in let r = s.right_in in omega (arith, f, r)

pub stand_long : (m : ℕ) (ls : List (List ℕ)) (a : Pair) → All (λ e. length e ≡ m) ls → Stands ls a
    → length a.parts.value.multiple ≡ m
stand_long m ls a h s =
    let f = s.left_first in
    let r = s.right_in in
    let left = h a.parts.value.left [] (omega (arith, f, r)) in
    let right = h a.parts.value.right [] r in
    ap length s.multiple_is ∙ length-lcm (get_or ls a.parts.value.left [])
    (get_or ls a.parts.value.right []) (left ∙ sym right) ∙ left

pub all_stand_long : (m : ℕ) (ls : List (List ℕ)) (ps : List Pair) → All (λ e. length e ≡ m) ls
    → AllStand ls ps → All (λ b. length b.parts.value.multiple ≡ m) ps
all_stand_long m ls ps h s k d l = stand_long m ls (get_or ps k d) h (s k d l)

module _ (ls : List (List ℕ)) (ss : List ℕ) (a : ℕ × ℕ) (d e : List ℕ) (m n : ℕ) (p : Pair)
    (i : IsPairOf a d m e n p) (j : slice_get ls a.0 ≡ Some d) (k : slice_get ls a.1 ≡ Some e) where
  got : (lcm d e ≡ multiple ls a) × (d ≡ get_or ls a.0 []) × (e ≡ get_or ls a.1 [])
  got =
      let x = sym (get_or_from_slice_get ls a.0 d [] j) in
      let y = sym (get_or_from_slice_get ls a.1 e [] k) in
      (ap₂ lcm x y, x, y)

  pub stands_at : a.0 < a.1 → Stands ls p
  stands_at l = record {
    left_first = subst (λ (b : ℕ × ℕ). b.0 < b.1) (sym i.places) l;
    right_in = subst (λ (b : ℕ × ℕ). b.1 < length ls) (sym i.places) (slice_get_within ls a.1 e k);
    multiple_is = i.multiple_is ∙ got.0 ∙ ap (multiple ls) (sym i.places);
  }

  pub sugar_there : m ≡ get_or ss a.0 0 → n ≡ get_or ss a.1 0 → HasSugar ls ss p
  sugar_there x y = i.sugar_is
      ∙ (λ t. max (x t + sum (got.0 t) - sum (got.1 t)) (y t + sum (got.0 t) - sum (got.2 t)))
      ∙ ap (sugar ls ss) (sym i.places)

pub stand_more : (ls : List (List ℕ)) (e : List ℕ) (ps : List Pair) → AllStand ls ps
    → AllStand (ls ++ e ∷ []) ps
stand_more ls e ps h k d l =
    let s = h k d l in
    let a = get_or ps k d in
    let left = s.left_first in
    let right = s.right_in in
    let more = length_push ls e in
    record {
      left_first = left;
      right_in = omega (arith, right, more);
      multiple_is = s.multiple_is
          ∙ ap₂ lcm
          (sym (get_or_append_left ls (e ∷ []) [] a.parts.value.left (omega (arith, left, right))))
          (sym (get_or_append_left ls (e ∷ []) [] a.parts.value.right right));
    }

pub sugar_more : (ls : List (List ℕ)) (ss : List ℕ) (e : List ℕ) (n : ℕ) (ps : List Pair)
    → length ss ≡ length ls → AllStand ls ps → AllHaveSugar ls ss ps
    → AllHaveSugar (ls ++ e ∷ []) (ss ++ n ∷ []) ps
sugar_more ls ss e n ps size h q k d l =
    let s = h k d l in
    let a = get_or ps k d in
    let right = s.right_in in
    let first = s.left_first in
    let left : a.parts.value.left < length ls = omega (arith, first, right) in
    let x = sym (get_or_append_left ls (e ∷ []) [] a.parts.value.left left) in
    let y = sym (get_or_append_left ls (e ∷ []) [] a.parts.value.right right) in
    let u = sym (get_or_append_left ss (n ∷ []) 0 a.parts.value.left (omega (arith, left, size))) in
    let v = sym (get_or_append_left ss (n ∷ []) 0 a.parts.value.right (omega (arith, right, size)))
    in
    q k d l ∙ (λ t. max (u t + sum (lcm (x t) (y t)) - sum (x t)) (v t + sum (lcm (x t) (y t))
    - sum (y t)))

pub within_all : (ls : List (List ℕ)) (ps : List Pair) → AllStand ls ps
    → AllWithin (length ls) (map pair_of ps)
unfolding AllWithin
within_all ls [] h = tt
within_all ls (a ∷ ps) h =
    let s = h 0 a (omega arith) in
    let left = s.left_first in
    let right = s.right_in in
    (omega (arith, left, right), right, within_all ls ps (λ k d l. h (suc k) d (omega arith)))

pub slice_front : (ls : List (List ℕ)) (e : List ℕ) (k : ℕ) (d : List ℕ) → k < length ls
    → d ≡ get_or ls k d → slice_get (ls ++ e ∷ []) k ≡ Some d
slice_front ls e k d l h = let more = length_push ls e in slice_get_read (ls ++ e ∷ []) _ k d refl
    (omega (arith, more, l)) (h ∙ sym (get_or_append_left ls (e ∷ []) d k l))

pub slice_last : (ls : List (List ℕ)) (e : List ℕ) (n : ℕ) → n ≡ length ls
    → slice_get (ls ++ e ∷ []) n ≡ Some e
slice_last ls e n h = let more = length_push ls e in slice_get_read (ls ++ e ∷ []) _ n e refl
    (omega (arith, more, h)) (sym (get_or_push ls e e n (sym h)))

-- ---- pairs that are put where they belong
module _ (O : Rank) (mixed : Bool) (ls : List (List ℕ)) (ss : List ℕ) where
  pub record Kept (ps : List Pair) : Type 0 where
    pub pairs : AllStand ls ps
    pub sugars : AllHaveSugar ls ss ps
    pub in_order : InOrder (keys O mixed) ps

  pub kept_none : (ps : List Pair) → ps ≡ [] → Kept ps
  unfolding InOrder
  kept_none ps e = subst Kept (sym e) (record {
    pairs = All-nil (Stands ls);
    sugars = All-nil (HasSugar ls ss);
    in_order = tt;
  })

  pub kept_enter : (a : Pair) (ps : List Pair) → Stands ls a → HasSugar ls ss a → Kept ps
      → Kept (enter (keys O mixed) a ps)
  kept_enter a ps s q k = record {
    pairs = all_enter (keys O mixed) (Stands ls) a ps s k.pairs;
    sugars = all_enter (keys O mixed) (HasSugar ls ss) a ps q k.sugars;
    in_order = in_order_enter (keys O mixed) (keys_total O mixed) a ps k.in_order;
  }

  pub kept_enters : (news ps : List Pair) → Kept news → Kept ps
      → Kept (enters (keys O mixed) news ps)
  kept_enters news ps h k = record {
    pairs = all_enters (keys O mixed) (Stands ls) news ps h.pairs k.pairs;
    sugars = all_enters (keys O mixed) (HasSugar ls ss) news ps h.sugars k.sugars;
    in_order = in_order_enters (keys O mixed) (keys_total O mixed) news ps k.in_order;
  }

  -- one more among the news is one more behind the others
  pub put_as : (m : ℕ) (a : Pair) (news ps : List Pair) → mixed ≡ mixes_degrees O m
      → length a.parts.value.multiple ≡ m → Stands ls a → HasSugar ls ss a
      → All (λ b. b.parts.value.left < a.parts.value.left) news → Kept news → Kept ps
      → map pair_of (enters (keys O mixed) (enter (keys O mixed) a news) ps)
      ≡ put_pair O ls ss (pair_of a) (map pair_of (enters (keys O mixed) news ps))
  put_as m a news ps mixes long s q before h k =
      let all = kept_enters news ps h k in
      ap (map pair_of) (enters_enter (keys O mixed) (keys_total O mixed) a news ps
      (λ n d l. keys_apart O mixed a (get_or news n d) (λ e. let b = before n d l in
      omega (arith, b, e))))
      ∙ enter_is O ls ss mixed m a mixes long s q (enters (keys O mixed) news ps) all.pairs
      all.sugars

-- the pairs that wait, for one more lead
pub kept_more : (O : Rank) (ls : List (List ℕ)) (ss : List ℕ) (e : List ℕ) (n : ℕ) (q : Queue)
    → length ss ≡ length ls → IsQueue O ls ss q
    → Kept O q.mixed (ls ++ e ∷ []) (ss ++ n ∷ []) (waiting_pairs q)
kept_more O ls ss e n q size i = record {
  pairs = stand_more ls e (waiting_pairs q) i.pairs;
  sugars = sugar_more ls ss e n (waiting_pairs q) size i.pairs i.sugars;
  in_order = i.in_order;
}

-- ---- the pairs of a new lead
module _ (O : Rank) (ls : List (List ℕ)) (ss : List ℕ) (n : ℕ) (d : List ℕ) where
  pub new_next : (es fs : List (List ℕ)) (e : List ℕ) (k : ℕ) (w : List (ℕ × ℕ)) → es ≡ e ∷ fs
      → with_new O ls ss n d es k w ≡ with_new O ls ss n d fs (k + 1)
      (cond (coprime e d) w (put_pair O ls ss (k, n) w))
  unfolding with_new
  new_next es fs e k w h = ap (λ zs. with_new O ls ss n d zs k w) h
      ∙ ap (λ j. with_new O ls ss n d fs j (cond (coprime e d) w (put_pair O ls ss (k, n) w)))
      (let q : suc k ≡ k + 1 = omega arith in q)

  pub new_end : (es : List (List ℕ)) (k : ℕ) (w : List (ℕ × ℕ)) → es ≡ []
      → with_new O ls ss n d es k w ≡ w
  unfolding with_new
  new_end es k w h = ap (λ zs. with_new O ls ss n d zs k w) h
