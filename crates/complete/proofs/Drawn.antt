-- The pair that is taken next, over plain variables.
--   settled_from          the pairs that are left when the covered ones are skipped
--   stands_in, all_later  what is said of all pairs behind a place, of one, and of those behind a later one
--   all_long              their multiples have an exponent for each variable
--   inside_of, lead_got   an element of the list, and its lead
--   later                 what is behind a later place
--   in_order_later, once_later, told_later     so is what is said of it
--   multiple_of           the least common multiple of a pair's leads
--   got                   a polynomial of the list, as terms
use Rattle.std.proofs.Common.{◌≡◌, ℕ, ◌+◌, ◌-◌, ◌<◌, ◌≤◌, Bool, Ordering, List, [], map, take, drop, length, get_or, sym, ap, ap₂, subst, ◌∙◌, arith}
use Rattle.std.proofs.lemmas.List.{length-map, length-drop, get_or-map, get_or-drop, drop-drop, take_rest}
use Rattle.std.specs.List.{All}
use Rattle.std.proofs.lemmas.List.Elements.{All-drop}
use Rattle.polynomials.specs.Exponent.{lcm}
use Rattle.polynomials.specs.Terms.{Terms}
use Rattle.machines.specs.Cut.{lead_of}
use Rattle.machines.specs.Pairs.{multiple, skip_covered}
use Rattle.complete.specs.declared.pair.Pair.{Pair}
use Rattle.complete.specs.Pairs.{pair_of, Stands, AllStand}
use Rattle.complete.specs.Pairs.{InOrder}
use Rattle.std.specs.Cmp.{IsTotalOrder}
use Rattle.complete.specs.Table.{Once, Tells}
use Rattle.complete.proofs.Placing.{in_order_drop}
use Rattle.complete.proofs.Putting.{left_in, stand_long}
use Rattle.complete.proofs.Tables.{once_drop}

pub settled_from : (items ds : List Pair) (ls es : List (List ℕ)) (t r : ℕ) → ds ≡ items → es ≡ ls
    → skip_covered es (map pair_of (take (length ds - t) (drop t ds)))
    ≡ map pair_of (drop r (take (length ds - t) (drop t ds)))
    → skip_covered ls (map pair_of (drop t items)) ≡ map pair_of (drop (t + r) items)
settled_from items ds ls es t r i j e =
    let slice = take_rest ds t ∙ ap (drop t) i in
    ap₂ (λ k ps. skip_covered k (map pair_of ps)) (sym j) (sym slice) ∙ e
    ∙ ap (λ ps. map pair_of (drop r ps)) slice ∙ ap (map pair_of) (drop-drop r t items)

pub stands_in : {X : Type 0} (P : X → Type 0) (xs : List X) (t r : ℕ) (x : X) → t + r < length xs
    → x ≡ get_or xs (t + r) x → All P (drop t xs) → P x
stands_in P xs t r x l i h = let size = length-drop t xs in subst P (get_or-drop t xs r x
    ∙ sym i) (h r x (omega (arith, size, l)))

pub all_long : (m : ℕ) (ls : List (List ℕ)) (ps : List Pair) → All (λ e. length e ≡ m) ls
    → AllStand ls ps → All (λ a. All (λ e. length e ≡ length a.parts.value.multiple) ls) ps
all_long m ls ps h s k d l i e j = h i e j ∙ sym (stand_long m ls (get_or ps k d) h (s k d l))

pub inside_of : {X A : Type 0} (terms : X → Terms A) (xs : List X) (ls : List (List ℕ)) (k : ℕ)
    → ls ≡ map lead_of (map terms xs) → k < length ls → k < length xs
inside_of terms xs ls k e l =
    let size = ap length e ∙ length-map (map terms xs) lead_of ∙ length-map xs terms in
    omega (arith, size, l)

pub got : {X A : Type 0} (terms : X → Terms A) (xs : List X) (k : ℕ) (x : X) → k < length xs
    → x ≡ get_or xs k x → get_or (map terms xs) k [] ≡ terms x
got terms xs k x l e = get_or-map terms xs k x [] l ∙ ap terms (sym e)

pub lead_got : {X A : Type 0} (terms : X → Terms A) (xs : List X) (k : ℕ) (x : X) → k < length xs
    → x ≡ get_or xs k x → get_or (map lead_of (map terms xs)) k [] ≡ lead_of (terms x)
lead_got terms xs k x l e = let s = length-map xs terms in get_or-map lead_of (map terms xs) k [] []
    (omega (arith, s, l)) ∙ ap lead_of (got terms xs k x l e)

pub multiple_of : {X A : Type 0} (terms : X → Terms A) (xs : List X) (ls : List (List ℕ)) (a : Pair)
    (x y : X) → ls ≡ map lead_of (map terms xs) → Stands ls a → x ≡ get_or xs a.parts.value.left x
    → y ≡ get_or xs a.parts.value.right y
    → a.parts.value.multiple ≡ lcm (lead_of (terms x)) (lead_of (terms y))
multiple_of terms xs ls a x y e s i j =
    s.multiple_is ∙ ap (λ ms. multiple ms (pair_of a)) e
    ∙ ap₂ lcm (lead_got terms xs a.parts.value.left x (inside_of terms xs ls a.parts.value.left
    e (left_in ls a s)) i) (lead_got terms xs a.parts.value.right y
    (inside_of terms xs ls a.parts.value.right e s.right_in) j)

pub all_later : {X : Type 0} (P : X → Type 0) (xs : List X) (t n : ℕ) → t ≤ n → All P (drop t xs)
    → All P (drop n xs)
all_later P xs t n l h = subst (All P) (drop-drop (n - t) t xs
    ∙ ap (λ k. drop k xs) (let q : t + (n - t) ≡ n = omega (arith, l) in q))
    (All-drop P (n - t) (drop t xs) h)

pub later : {X : Type 0} (xs : List X) (t n : ℕ) → t ≤ n → drop (n - t) (drop t xs) ≡ drop n xs
later xs t n l = drop-drop (n - t) t xs ∙ ap (λ k. drop k xs) (let q : t + (n - t) ≡ n =
    omega (arith, l) in q)

pub in_order_later : {X : Type 0} (R : X → X → Ordering) (o : IsTotalOrder R) (xs : List X)
    (t n : ℕ) → t ≤ n → InOrder R (drop t xs) → InOrder R (drop n xs)
in_order_later R o xs t n l h = subst (InOrder R) (later xs t n l)
    (in_order_drop R o (n - t) (drop t xs) h)

pub once_later : (xs : List Pair) (t n : ℕ) → t ≤ n → Once (map pair_of (drop t xs))
    → Once (map pair_of (drop n xs))
once_later xs t n l h = subst (λ ps. Once (map pair_of ps)) (later xs t n l)
    (once_drop pair_of (n - t) (drop t xs) h)

pub told_later : (u : List (List Bool)) (items ds : List Pair) (t r : ℕ) → ds ≡ items
    → t + r < length items
    → (r < length (take (length ds - t) (drop t ds))
    → Tells u (map pair_of (drop (r + 1) (take (length ds - t) (drop t ds)))))
    → Tells u (map pair_of (drop (t + r + 1) items))
told_later u items ds t r i l h =
    let slice = take_rest ds t ∙ ap (drop t) i in
    let size = length-drop t items in
    subst (λ ps. Tells u (map pair_of ps)) (ap (drop (r + 1)) slice ∙ drop-drop (r + 1) t items
    ∙ ap (λ k. drop k items) (let q : t + (r + 1) ≡ t + r + 1 = omega arith in q))
    (h (subst (λ ps. r < length ps) (sym slice) (omega (arith, size, l))))
