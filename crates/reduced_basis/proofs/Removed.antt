-- Elements taken out of lists, and put in place of others, over plain variables.
--   seen_removed, without_is     what is seen of a list less an item
--   dropped_is, dropped_leads    the elements and their leads behind a Drop
--   all_removed                  what is said of all items of it
--   removed_below, removed_at    what stands at its places
--   apart_removed                before the lead that is taken out still no other one divides a lead
--   set_leads                    a list with another item that has the same lead
use Rattle.std.proofs.Common.{◌≡◌, ℕ, zero, suc, ◌+◌, ◌<◌, ◌≤◌, true, false, List, [], ◌∷◌, ◌++◌, map, drop, take, length, slice_get, set, Some, None, refl, sym, ap, ap₂, subst, ◌∙◌, arith, ◌⊎◌, inl, inr}
use Rattle.std.specs.List.{All, remove}
use Rattle.std.proofs.lemmas.Bool.{cases_lt}
use Rattle.std.proofs.lemmas.List.{map-append, take-map, drop-map}
use Rattle.std.proofs.lemmas.List.Edits.{length-remove}
use Rattle.std.proofs.lemmas.List.Elements.{All-append, All-take, All-drop}
use Rattle.polynomials.specs.Terms.{Terms}
use Rattle.complete.proofs.Walking.{apart}
use Rattle.machines.specs.Cut.{lead_of, divides}
use Rattle.machines.specs.Tidying.{others, without}
use Rattle.reduced_basis.specs.Leads.{first_divisor, redundant_from}
use Rattle.reduced_basis.proofs.Divisors.{none_divides, none_where, redundant_before, redundant_clear}

pub seen_removed : {X Y : Type 0} (f : X → Y) (xs : List X) (k : ℕ)
    → map f (remove xs k) ≡ remove (map f xs) k
seen_removed f xs k = map-append f (take k xs) (drop (suc k) xs)
    ∙ ap₂ (λ us vs. us ++ vs) (sym (take-map f k xs)) (sym (drop-map f (suc k) xs))

pub without_is : {X : Type 0} (xs : List X) (k : ℕ) → remove xs k ≡ without k xs
unfolding without
without_is [] zero = refl
without_is [] (suc k) = refl
without_is (x ∷ xs) zero = refl
without_is (x ∷ xs) (suc k) = ap (λ l. x ∷ l) (without_is xs k)

pub dropped_is : {X A : Type 0} (terms : X → Terms A) (xs ys : List X) (k : ℕ) → ys ≡ remove xs k
    → map terms ys ≡ without k (map terms xs)
dropped_is terms xs ys k e = ap (map terms) e ∙ seen_removed terms xs k
    ∙ without_is (map terms xs) k

pub dropped_leads : {X A : Type 0} (terms : X → Terms A) (xs ys : List X) (ls ms : List (List ℕ))
    (k : ℕ) → ls ≡ map lead_of (map terms xs) → ms ≡ remove ls k → ys ≡ remove xs k
    → ms ≡ map lead_of (map terms ys)
dropped_leads terms xs ys ls ms k l m e =
    m ∙ ap (λ z. remove z k) l ∙ sym (seen_removed lead_of (map terms xs) k)
    ∙ ap (map lead_of) (sym (seen_removed terms xs k) ∙ ap (map terms) (sym e))

pub all_removed : {X : Type 0} (P : X → Type 0) (xs ys : List X) (k : ℕ) → ys ≡ remove xs k
    → All P xs → All P ys
all_removed P xs ys k e h = subst (All P) (sym e) (All-append P (take k xs) (drop (suc k) xs)
    (All-take P k xs h) (All-drop P (suc k) xs h))

pub removed_below : {X : Type 0} (xs : List X) (k j : ℕ) (x : X) → j < k → slice_get (remove xs k) j
    ≡ Some x → slice_get xs j ≡ Some x
removed_below [] zero j x l e = absurd (omega arith)
removed_below [] (suc k) j x l e = absurd (let z : ⊥ = cc in z)
removed_below (y ∷ xs) zero j x l e = absurd (omega arith)
removed_below (y ∷ xs) (suc k) zero x l e = e
removed_below (y ∷ xs) (suc k) (suc j) x l e = removed_below xs k j x (omega arith) e

removed_above : {X : Type 0} (xs : List X) (k j : ℕ) (x : X) → k ≤ j → slice_get (remove xs k) j
    ≡ Some x → slice_get xs (suc j) ≡ Some x
removed_above [] zero j x l e = absurd (let z : ⊥ = cc in z)
removed_above [] (suc k) j x l e = absurd (let z : ⊥ = cc in z)
removed_above (y ∷ xs) zero j x l e = e
removed_above (y ∷ xs) (suc k) zero x l e = absurd (omega arith)
removed_above (y ∷ xs) (suc k) (suc j) x l e = removed_above xs k j x (omega arith) e

pub apart_removed : (ls ms : List (List ℕ)) (k : ℕ) → redundant_from ls 0 ls ≡ Some k
    → k < length ls → ms ≡ remove ls k → redundant_from ms 0 ms ≡ redundant_from ms k (drop k ms)
apart_removed ls ms k h l e = subst (λ n. redundant_from ms 0 ms ≡ redundant_from ms n (drop k ms))
    (let q : 0 + k ≡ k = omega arith in q) (redundant_clear ms 0 ms k size clear)
  where
    size : k ≤ length ms
    size = let r = length-remove ls k l in let s = ap length e in omega (arith, r, s, l)

    clear : (j : ℕ) (d : List ℕ) → j < k → slice_get ms j ≡ Some d
        → first_divisor (others (0 + j)) 0 ms d ≡ None
    clear j d b at = none_where (others (0 + j)) 0 ms d (λ i c is other.
        by i c (ap (λ z. slice_get z i) (sym e) ∙ is) other (cases_lt i k))
      where
        old : first_divisor (others (0 + j)) 0 ls d ≡ None
        old = redundant_before ls 0 ls k h j d (omega arith)
            (removed_below ls k j d b (ap (λ z. slice_get z j) (sym e) ∙ at))

        by : (i : ℕ) (c : List ℕ) → slice_get (remove ls k) i ≡ Some c → others (0 + j) (0 + i)
            ≡ true → (i < k) ⊎ (k ≤ i) → divides c d ≡ false
        by i c is other (inl m) = none_divides (others (0 + j)) 0 ls d old i c
            (removed_below ls k i c m is) other
        by i c is other (inr m) = none_divides (others (0 + j)) 0 ls d old (suc i) c
            (removed_above ls k i c m is) (apart (0 + suc i) (0 + j)
            (λ z. (let q : ⊥ = omega (arith, z, m, b) in q)))

pub set_leads : {A : Type 0} (gs : List (Terms A)) (i : ℕ) (g y : Terms A) → slice_get gs i ≡ Some g
    → lead_of y ≡ lead_of g → map lead_of (set gs i y) ≡ map lead_of gs
set_leads [] i g y at e = refl
set_leads (x ∷ gs) zero g y at e = ap (λ d. d ∷ map lead_of gs) (e
    ∙ ap lead_of (let is : g ≡ x = cc in is))
set_leads (x ∷ gs) (suc i) g y at e = ap (λ l. lead_of x ∷ l) (set_leads gs i g y at e)
