-- Walks along waiting pairs and leads (machines/specs/Pairs), over plain variables.
--   seen_drop, seen_end        what is seen of a list from a place on
--   next_leads                 leads from a place on: the one there, and those behind it
--   apart                      two numbers that differ aren't equal by the test
--   covers_told, told_behind   the test by a table, and the table behind a pair that is taken
--   covers_next, covers_here   whether a lead covers a pair
--   settled_next, settled_here     whether the first is covered
use Rattle.std.proofs.Common.{◌≡◌, ℕ, suc, ◌+◌, ◌<◌, ◌≤◌, Bool, true, false, not, ◌&&◌, ◌||◌, cond, eqb, List, [], ◌∷◌, map, drop, length, get_or, refl, sym, ap, ap₂, subst, ◌∙◌, arith}
use Rattle.std.proofs.lemmas.Bool.{eqb-true, eqb-false}
use Rattle.std.proofs.lemmas.List.{drop_more, drop_all}
use Rattle.machines.specs.Cut.{divides}
use Rattle.complete.specs.declared.pair.Pair.{Pair}
use Rattle.complete.specs.Pairs.{pair_of, covers_pair}
use Rattle.complete.specs.Table.{of_either, IsTriangle, without, Tells, Once}
use Rattle.complete.proofs.Tables.{told_either, told_taken, once_drop, once_first}
use Rattle.machines.specs.Pairs.{waits, covers, is_covered, skip_covered}

module _ {X Y : Type 0} (f : X → Y) where
  pub seen_drop : (xs : List X) (k : ℕ) (x : X) → k < length xs → x ≡ get_or xs k x
      → map f (drop k xs) ≡ f x ∷ map f (drop (k + 1) xs)
  seen_drop xs k x l e = ap (map f) (drop_more xs k x l) ∙ ap (λ y. f y ∷ map f (drop (k + 1) xs))
      (sym e)

  pub seen_end : (xs : List X) (k : ℕ) → length xs ≤ k → map f (drop k xs) ≡ []
  seen_end xs k l = ap (map f) (drop_all k xs l)

module _ (w : List (ℕ × ℕ)) (a : ℕ × ℕ) (l : List ℕ) (k : ℕ) where
  abbrev pub test : List ℕ → Bool
  test d = (not (eqb k a.0) && not (eqb k a.1)) && divides d l &&
      (not (waits w a.0 k) && not (waits w a.1 k))

  module _ (d : List ℕ) (es fs : List (List ℕ)) (e : es ≡ d ∷ fs) where
    covers_first : covers w a l es k ≡ (test d || covers w a l fs (suc k))
    unfolding covers
    covers_first = ap (λ z. covers w a l z k) e

    pub covers_here : test d ≡ true → covers w a l es k ≡ true
    covers_here t = covers_first ∙ ap (λ b. b || covers w a l fs (suc k)) t

    pub covers_next : test d ≡ false → covers w a l es k ≡ covers w a l fs (k + 1)
    covers_next t = covers_first ∙ ap (λ b. b || covers w a l fs (suc k)) t
        ∙ ap (covers w a l fs) (let q : suc k ≡ k + 1 = omega arith in q)

  pub covers_none : (es : List (List ℕ)) → es ≡ [] → covers w a l es k ≡ false
  unfolding covers
  covers_none es e = ap (λ z. covers w a l z k) e

-- the test by a table
pub covers_told : (t : List (List Bool)) (w : List (ℕ × ℕ)) (a : Pair) (k : ℕ) (d : List ℕ)
    → Tells t w → k < length t → a.parts.value.left < a.parts.value.right
    → a.parts.value.right < length t → covers_pair a t k d ≡ test w (pair_of a)
    a.parts.value.multiple k d
covers_told t w a k d told inside left right = go (eqb k a.parts.value.left)
    (eqb k a.parts.value.right) refl refl
  where
    whole : Bool → Bool → Bool → Bool → Bool
    whole b c x y = (not b && not c) && divides d a.parts.value.multiple && (not x && not y)

    go : (b c : Bool) → eqb k a.parts.value.left ≡ b → eqb k a.parts.value.right ≡ c
        → whole (eqb k a.parts.value.left) (eqb k a.parts.value.right)
        (of_either t a.parts.value.left k) (of_either t a.parts.value.right k)
        ≡ whole (eqb k a.parts.value.left) (eqb k a.parts.value.right)
        (waits w a.parts.value.left k) (waits w a.parts.value.right k)
    go true c e f = ap (λ b. whole b (eqb k a.parts.value.right) (of_either t a.parts.value.left k)
        (of_either t a.parts.value.right k)) e
        ∙ sym (ap (λ b. whole b (eqb k a.parts.value.right) (waits w a.parts.value.left k)
        (waits w a.parts.value.right k)) e)
    go false true e f =
        ap₂ (λ b c. whole b c (of_either t a.parts.value.left k) (of_either t a.parts.value.right
        k)) e f ∙ sym (ap₂ (λ b c. whole b c (waits w a.parts.value.left k)
        (waits w a.parts.value.right k)) e f)
    go false false e f =
        let n = eqb-false k a.parts.value.left e in
        let m = eqb-false k a.parts.value.right f in
        ap₂ (whole (eqb k a.parts.value.left) (eqb k a.parts.value.right))
        (told_either t w a.parts.value.left k told (λ q. n (sym q)) (omega (arith, left, right))
        inside) (told_either t w a.parts.value.right k told (λ q. m (sym q)) right inside)

-- the pairs behind one that is taken
pub told_behind : (list : List Pair) (i : ℕ) (a : Pair) (t u : List (List Bool)) → i < length list
    → a ≡ get_or list i a → u ≡ without t a.parts.value.left a.parts.value.right
    → a.parts.value.left < a.parts.value.right → a.parts.value.right < length t → IsTriangle t
    → Once (map pair_of list)
    → Tells t (map pair_of (drop i list)) → Tells u (map pair_of (drop (i + 1) list))
told_behind list i a t u l e is left right triangle once told =
    let v = map pair_of (drop (i + 1) list) in
    let seen = seen_drop pair_of list i a l e in
    subst (λ z. Tells z v) (sym is) (told_taken t (pair_of a) v left right triangle
    (subst (Tells t) seen told) (once_first (pair_of a) v (map pair_of (drop i list)) seen
    (once_drop pair_of i list once)))

module _ (ls : List (List ℕ)) (a : ℕ × ℕ) (w v : List (ℕ × ℕ)) (e : w ≡ a ∷ v) where
  settled_first : skip_covered ls w ≡ cond (is_covered ls v a) (skip_covered ls v) (a ∷ v)
  unfolding skip_covered
  settled_first = ap (skip_covered ls) e

  pub settled_next : is_covered ls v a ≡ true → skip_covered ls w ≡ skip_covered ls v
  settled_next t = settled_first ∙ ap (λ b. cond b (skip_covered ls v) (a ∷ v)) t

  pub settled_here : is_covered ls v a ≡ false → skip_covered ls w ≡ w
  settled_here t = settled_first ∙ ap (λ b. cond b (skip_covered ls v) (a ∷ v)) t ∙ sym e

pub settled_none : (ls : List (List ℕ)) (w : List (ℕ × ℕ)) → w ≡ [] → skip_covered ls w ≡ w
unfolding skip_covered
settled_none ls w e = ap (skip_covered ls) e ∙ sym e

pub next_leads : (ls : List (List ℕ)) (k : ℕ) (e : List ℕ) → k < length ls → e ≡ get_or ls k e
    → drop k ls ≡ e ∷ drop (k + 1) ls
next_leads ls k e l is = drop_more ls k e l ∙ ap (λ d. d ∷ drop (k + 1) ls) (sym is)

-- ---- the test of a lead, part by part
pub third_fails : (a b c d e : Bool) → c ≡ false → false ≡ ((a && b) && c && (d && e))
third_fails true true false d e h = refl
third_fails true false c d e h = refl
third_fails false b c d e h = refl
third_fails true true true d e h = absurd (let z : ⊥ = cc in z)

pub last_tells : (a b c d e x : Bool) → a ≡ true → b ≡ true → c ≡ true → d ≡ true → x ≡ e
    → x ≡ ((a && b) && c && (d && e))
last_tells a b c d e x h i j k l = l
    ∙ sym (ap₂ (λ y z. y && z) (ap₂ (λ y z. y && z) (ap₂ (λ y z. y && z) h i) j)
    (ap (λ y. y && e) k))

pub apart : (m n : ℕ) → (m ≡ n → ⊥) → not (eqb m n) ≡ true
apart m n h = go (eqb m n) refl
  where
    go : (b : Bool) → eqb m n ≡ b → not (eqb m n) ≡ true
    go true e = absurd (h (eqb-true m n e))
    go false e = ap not e

pub both_ends : {X Y : Type 0} (f : X → Y) (xs : List X) (k : ℕ) → length xs ≤ k
    → map f (drop k xs) ≡ map f (drop (length xs) xs)
both_ends f xs k l = seen_end f xs k l ∙ sym (seen_end f xs (length xs) (omega arith))
