-- How long classes are, as the code counts it.
--   lengths_some            none of some lengths is 0
--   none_of_class, class_more, class_past_rest, class_past_own     a class
--   set-count, set_lengths, some_lengths     lengths with those of a class
--   long_one                    its first class that is too long is one;  long_not, long_or_short     a map isn't both too long and short;  single_short: one of one variable
--   ones                    each variable is one term to begin with
use Rattle.std.proofs.Common.{◌≡◌, inl, inr, ℕ, zero, suc, ◌+◌, ◌<◌, ◌≤◌, List, [], ◌∷◌, T, length, get_or, set, replicate, Vec, Global, All, refl, sym, ap, ap₂, subst, ◌∙◌, arith, Option}
use Rattle.std.proofs.lemmas.List.{length-set}
use Rattle.std.proofs.lemmas.List.Elements.{All-set, All-replicate}
use Rattle.algebra.specs.Fraction.{Fraction}
use Rattle.polynomials.specs.Terms.{Terms}
use Rattle.expansion.specs.Counts.{most_terms, IsCount}
use Rattle.expansion.proofs.Counting.{one_fits, count_of, of_zero}
use Rattle.algebra.specs.Each.{Each}
use Rattle.algebra.proofs.In.{each_in, each_from, in_get, in_place, map-in}
use Rattle.solvable_maps.specs.Classes.{IsClass}
use Rattle.solvable_maps.proofs.Classwise.{class_some}
use Rattle.solvable.specs.Refusal.{AreClassesOf}
use Rattle.closed_forms.specs.Splits.{groups_in}
use Rattle.closed_forms.proofs.Splitting.{classes_are}
use Rattle.solvable_maps.specs.Class.{IsClassOf, IsNext, AreClasses}
use Rattle.solvable_maps.specs.Uses.{uses, poly_at}
use Rattle.solvable_maps.proofs.Classes.{classes_one, reached_within}
use Rattle.closed_forms.specs.Lengths.{IsLength, AreLengths, sum_length, class_length, with_length, at_least_one, with_class, IsLongAmong, AreShort, IsLong, IsShort}

-- ---- lengths of sums
pub lengths_some : (ns : List ℕ) → AreLengths ns → Each (λ n. 0 < n) ns
lengths_some ns are = each_from ns (λ n i.
    let r = in_place ns 0 n i in subst (λ n. 0 < n) r.2 (are r.0 0 r.1).0)

-- ---- classes
module _ (images : List (Terms Fraction)) where
  pub none_of_class : (g ns : List ℕ) → length g ≡ 0 → (0 ≡ class_length images g ns)
      × (class_length images g ns ≤ most_terms)
  unfolding class_length
  none_of_class [] ns e = of_zero 0 refl
  none_of_class (i ∷ g) ns e = absurd (omega (arith, e))

  pub class-cons : (i : ℕ) (g ns : List ℕ) → class_length images (i ∷ g) ns
      ≡ sum_length (poly_at images i) ns + class_length images g ns
  unfolding class_length
  class-cons i g ns = refl

  pub class_past_rest : {i : ℕ} {g all : List ℕ} (ns : List ℕ) → all ≡ i ∷ g
      → most_terms < class_length images g ns → most_terms < class_length images all ns
  class_past_rest {i = i} {g = g} ns e past =
      let is = ap (λ x. class_length images x ns) e ∙ class-cons i g ns in omega (arith, is, past)

  pub class_past_own : {i : ℕ} {g all : List ℕ} (ns : List ℕ) {p : Terms Fraction} → all ≡ i ∷ g
      → p ≡ poly_at images i → most_terms < sum_length p ns
      → most_terms < class_length images all ns
  class_past_own {i = i} {g = g} ns e f past =
      let is = ap (λ x. class_length images x ns) e ∙ class-cons i g ns in
      let own = ap (λ x. sum_length x ns) f in omega (arith, is, own, past)

  pub class_more : {i : ℕ} {g : List ℕ} (all ns : List ℕ) {p : Terms Fraction} {own rest : ℕ}
      (o : Option ℕ)
      → all ≡ i ∷ g → p ≡ poly_at images i → own ≡ sum_length p ns → rest ≡ class_length images g ns
      → IsCount (own + rest) o → IsCount (class_length images all ns) o
  class_more {i = i} {g = g} all ns {own = own} {rest = rest} o e f l r h =
      count_of (own + rest) (class_length images all ns) o
      (ap₂ ◌+◌ (l ∙ ap (λ x. sum_length x ns) f) r ∙ sym (class-cons i g ns)
      ∙ sym (ap (λ x. class_length images x ns) e)) h

-- ---- lengths with those of a class
pub set-count : (g : List ℕ) (n : ℕ) (ns : List ℕ) → length (with_length g n ns) ≡ length ns
set-count [] n ns = refl
set-count (i ∷ g) n ns = set-count g n (set ns i n) ∙ length-set ns i n

pub set_lengths : (g : List ℕ) (n : ℕ) (ns : List ℕ) → IsLength n → AreLengths ns
    → AreLengths (with_length g n ns)
set_lengths [] n ns h are = are
set_lengths (i ∷ g) n ns h are = set_lengths g n (set ns i n) h (All-set IsLength ns i n h are)

pub some_lengths : (n : ℕ) → n ≤ most_terms → IsLength (at_least_one n)
some_lengths zero h = (omega arith, one_fits)
some_lengths (suc n) h = (omega arith, h)

-- ---- one class after another
module _ (images : List (Terms Fraction)) where
  -- the lengths with one class more
  pub class_counted : (g : List ℕ) (ns new : List ℕ) {terms : ℕ} {clamped : ℕ}
      → terms ≡ class_length images g ns → clamped ≡ at_least_one terms
      → new ≡ with_length g clamped ns → new ≡ with_class images g ns
  class_counted g ns new e f h =
      h ∙ ap (λ n. with_length g n ns) (f ∙ ap at_least_one e)

  pub lengths_counted : (g : List ℕ) (ns new : List ℕ) → class_length images g ns ≤ most_terms
      → new ≡ with_class images g ns → AreLengths ns → AreLengths new
  lengths_counted g ns new few is are =
      subst AreLengths (sym is) (set_lengths g _ ns
      (some_lengths (class_length images g ns) few) are)

  pub count_counted : (g : List ℕ) (ns new : List ℕ) → new ≡ with_class images g ns
      → length new ≡ length ns
  count_counted g ns new is =
      ap length is ∙ set-count g (at_least_one (class_length images g ns)) ns

  -- each has a variable
  pub classes_some : (groups : List (Vec ℕ Global)) → AreClassesOf images groups
      → All (λ (g : Vec ℕ Global). 0 < length g.items) groups
  classes_some groups h k d l = class_some images (get_or groups k d).items
      (each_in (IsClass images) (groups_in groups) _ (classes_are images [] (groups_in groups) h)
      (map-in (λ (g : Vec ℕ Global). g.items) groups _ (in_get groups k d l)))

-- ---- to begin with
pub ones : (n : ℕ) → (0 < 1) × (1 ≤ most_terms) × AreLengths (replicate n 1)
ones n = (omega arith, one_fits, All-replicate IsLength n 1 (omega arith, one_fits))

-- ---- a map isn't both
pub long_not : (images : List (Terms Fraction)) (groups : List (List ℕ)) (ns : List ℕ) (v : ℕ)
    → IsLongAmong images groups ns v → AreShort images groups ns → ⊥
long_not images [] ns v h s = h
long_not images (g ∷ groups) ns v (inl h) s =
    let more = h.1 in let few = s.0 in omega (arith, more, few)
long_not images (g ∷ groups) ns v (inr h) s =
    long_not images groups (with_class images g ns) v h.1 s.1

among_same : (images : List (Terms Fraction)) (groups : List (List ℕ)) (ns : List ℕ) (v w : ℕ)
    → IsLongAmong images groups ns v → IsLongAmong images groups ns w → v ≡ w
among_same images [] ns v w h k = absurd h
among_same images (g ∷ groups) ns v w (inl h) (inl k) = sym h.0 ∙ k.0
among_same images (g ∷ groups) ns v w (inl h) (inr k) =
    absurd (let more = h.1 in let few = k.0 in omega (arith, more, few))
among_same images (g ∷ groups) ns v w (inr h) (inl k) =
    absurd (let more = k.1 in let few = h.0 in omega (arith, more, few))
among_same images (g ∷ groups) ns v w (inr h) (inr k) =
    among_same images groups (with_class images g ns) v w h.1 k.1

module _ (images : List (Terms Fraction)) (bounded : (i j : ℕ) → T (uses images i j)
    → (i < length images) × (j < length images)) where
  pub long_one : (v w : ℕ) → IsLong images v → IsLong images w → v ≡ w
  long_one v w l k =
      among_same images l.groups (replicate (length images) 1) v w l.long
      (subst (λ gs. IsLongAmong images gs (replicate (length images) 1) w)
      (classes_one (uses images) (length images) bounded k.groups l.groups [] k.are l.are) k.long)

  pub long_or_short : (v : ℕ) → IsLong images v → IsShort images → ⊥
  long_or_short v l s =
      long_not images l.groups (replicate (length images) 1) v l.long
      (subst (λ gs. AreShort images gs (replicate (length images) 1))
      (classes_one (uses images) (length images) bounded s.groups l.groups [] s.are l.are) s.short)

  -- one of one variable
  pub single_short : length images ≡ 1 → IsClassOf (uses images) 1 0 (0 ∷ [])
      → class_length images (0 ∷ []) (1 ∷ []) ≤ most_terms → IsShort images
  single_short size class few = record {
    groups = (0 ∷ []) ∷ [];
    are = subst (λ m. AreClasses (uses images) m [] ((0 ∷ []) ∷ [])) (sym size)
        (0, next, class, λ i l. inl (omega (arith, l)));
    short = subst (λ m. AreShort images ((0 ∷ []) ∷ []) (replicate m 1)) (sym size) (few, tt);
  }
    where
      next : IsNext (uses images) 1 [] 0
      next = record {
        within = omega arith;
        ready = record {
          new = λ i. i;
          inside = λ j r. inl (inl (let l = (reached_within (uses images) (length images) bounded 0
              j r).1 in omega (arith, l, size)));
        };
        least = λ j l r. omega arith;
      }
