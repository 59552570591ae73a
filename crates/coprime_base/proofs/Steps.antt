-- What the loop's edits of its two lists mean.
use Rattle.std.proofs.Common.{◌≡◌, ◌≢◌, ◌⊎◌, inl, inr, ◌<◌, ◌≤◌, ◌/◌, ℕ, zero, suc, List, [], ◌∷◌, ◌++◌, All, length, get_or, refl, sym, ap, subst, ◌∙◌, arith}
use Rattle.algebra.specs.Each.{Each}
use Rattle.exponentials.specs.Base.{Ascending, Coprime, Divides, IsTheBase}
use Rattle.std.specs.Prelude.{remove}
use Rattle.std.specs.List.Sorted.{IsPermutation, IsNonDecreasingBy, IsSorted}
use Rattle.std.specs.Ordering.{nat_cmp}
use Rattle.std.proofs.lemmas.List.Sorted.{IsNonDecreasingBy-from_sort}
use native.Mathlib.Nat as N
use Rattle.algebra.specs.Gcd.{gcd}
use Rattle.algebra.proofs.GcdLaws as G
use Rattle.exponentials.proofs.Lists.{each_both}
use Rattle.exponentials.proofs.Refine.{Picked, picked-each}
use Rattle.exponentials.proofs.Orders.{picked-push, picked-remove, coarsest-permuted, each-permuted, all-each, not_self}
use Rattle.exponentials.proofs.Refining.{Refining, Settles, settles_one, settles_new, settles_split, refining_start, refining_done}

pub gcd_some : (w b g : ℕ) → 0 < w → g ≡ gcd w b → 0 < g
gcd_some w b g h e = subst (λ z. 0 < z) (sym e) (N.pos_of_dvd_of_pos (G.gcd-left w b) h)

pub one_case : (w : ℕ) (ws bs : List ℕ) → w ≡ 1 → Settles w ws bs ws bs
one_case w ws bs e = subst (λ z. Settles z ws bs ws bs) (sym e) (settles_one ws bs)

pub new_case : (w : ℕ) (ws bs bs' s : List ℕ) → 1 < w → s ≡ bs → All (λ b. gcd w b ≡ 1) s
    → bs' ≡ bs ++ w ∷ [] → Settles w ws bs ws bs'
new_case w ws bs bs' s h e p q = subst (λ l. Settles w ws bs ws l) (sym q)
    (settles_new w ws bs h (all-each (λ b. gcd w b ≡ 1) bs (subst (All (λ b. gcd w b ≡ 1)) e p)))

default_free : (i : ℕ) (xs : List ℕ) (d e : ℕ) → i < length xs → get_or xs i d ≡ get_or xs i e
default_free i [] d e h = absurd (omega arith)
default_free zero (x ∷ xs) d e h = refl
default_free (suc i) (x ∷ xs) d e h = default_free i xs d e (omega arith)

pub split_case : (w i b g : ℕ) (ws w1 w2 w3 bs bs' s : List ℕ) → s ≡ bs → i < length s
    → gcd w (get_or s i 0) ≢ 1 → b ≡ get_or bs i b → bs' ≡ remove bs i → g ≡ gcd w b
    → w1 ≡ ws ++ (b / g) ∷ [] → w2 ≡ w1 ++ g ∷ [] → w3 ≡ w2 ++ (w / g) ∷ [] → Settles w ws bs w3 bs'
split_case w i b g ws w1 w2 w3 bs bs' s e h ne at out gg p q r =
    let inside : i < length bs = subst (λ l. i < length l) e h in
    let other : gcd w b ≢ 1 = λ o. ne (ap (λ l. gcd w (get_or l i 0)) e
    ∙ ap (gcd w) (default_free i bs 0 b inside ∙ sym at) ∙ o) in
    let picked : Picked b bs' bs = subst (λ l. Picked b l bs) (sym out)
    (subst (λ z. Picked z (remove bs i) bs) (sym at) (picked-remove i bs b inside)) in
    settles_split w b ws w3 bs bs' picked other
    (record {
      one = w1;
      two = w2;
      first = subst (λ l. Picked (b / gcd w b) ws l) (sym (p ∙ ap (λ z. ws ++ (b / z) ∷ []) gg))
          (picked-push (b / gcd w b) ws);
      second = subst (λ l. Picked (gcd w b) w1 l) (sym (q ∙ ap (λ z. w1 ++ z ∷ []) gg))
          (picked-push (gcd w b) w1);
      third = subst (λ l. Picked (w / gcd w b) w2 l) (sym (r ∙ ap (λ z. w2 ++ (w / z) ∷ []) gg))
          (picked-push (w / gcd w b) w2);
    })

pub start_case : (list ws bs s : List ℕ) → All (λ x. 0 < x) list → s ≡ list → ws ≡ s → bs ≡ []
    → Refining list ws bs
start_case list ws bs s p e f g = subst (λ l. Refining list l bs) (sym (f ∙ e))
    (subst (Refining list list) (sym g) (refining_start list (all-each (λ x. 0 < x) list p)))

pub popped : (w : ℕ) (ws all : List ℕ) → all ≡ ws ++ w ∷ [] → Picked w ws all
popped w ws all e = subst (Picked w ws) (sym e) (picked-push w ws)

pub popped_some : (w : ℕ) (ws all : List ℕ) → all ≡ ws ++ w ∷ [] → Each (λ x. 0 < x) all → 0 < w
popped_some w ws all e p = (picked-each (λ x. 0 < x) w ws all (popped w ws all e) p).0

-- numbers in order that are pairwise coprime and above 1 ascend
ascending_from : (xs : List ℕ) → Coprime xs → IsNonDecreasingBy (λ (x : ℕ). x) xs → Ascending xs
unfolding Each
ascending_from [] c h = tt
ascending_from (x ∷ xs) c h = (
  each_both xs (λ y p q. apart y p q) (all-each (λ y. x ≤ y) xs (λ k d l.
      h 0 (suc k) d (omega arith) (omega arith))) c.1,
  ascending_from xs c.2 (λ i j d p q. h (suc i) (suc j) d (omega arith) (omega arith)),
)
  where
    parts : (x y : ℕ) → x ≤ y → (x < y) ⊎ (x ≡ y)
    parts x y h = grind arith

    apart : (y : ℕ) → x ≤ y → gcd x y ≡ 1 → x < y
    apart y p e = elim (parts x y p) [
      | inl l ↦ l
      | inr q
          ↦ absurd (not_self x c.0 (ap (gcd x) q ∙ e))
    ]

pub end_case : (list ws bs sorted : List ℕ) → ws ≡ [] → IsPermutation bs sorted
    → IsSorted nat_cmp sorted → Refining list ws bs → IsTheBase list sorted
end_case list ws bs sorted e p s r =
    let done = subst (λ l. Refining list l bs) e r in
    let c = coarsest-permuted list bs sorted p (refining_done list bs done) in
    record {
      coarsest = c;
      ascending = ascending_from sorted c.base.coprime (IsNonDecreasingBy-from_sort (λ (x : ℕ). x)
          sorted s);
      divides = each-permuted (Divides list) bs sorted p done.divides;
    }
