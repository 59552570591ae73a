-- Elements that are put into a list where they belong (specs/Pairs), over plain variables.
--   all_before, all_after          what holds for each of two parts
--   fronts, front_is, later_is     a list that is cut at the place of one more, and what is behind, last first
--   enter_insert                   the place where one goes
--   enters_none                    none is put in
--   all_enter, all_enters          what holds for each of them
--   in_order_enter, in_order_enters    the list stays in its order
--   enters_enter                   one more may be put among the others first, if none is like it
--   IsOnItsWay, step, done         the last of them is put in, and what is behind it set aside
use Rattle.std.proofs.Common.{◌≡◌, ◌≢◌, ℕ, zero, suc, ◌+◌, ◌≤◌, Bool, true, false, not, cond, List, [], ◌∷◌, ◌++◌, take, drop, length, get_or, reverse, refl, sym, ap, subst, ◌∙◌, arith, Ordering, Less, Equal, Greater}
use Rattle.std.specs.Cmp.{IsTotalOrder}
use Rattle.std.specs.List.{All, insert}
use Rattle.std.specs.Ordering.{is_lt, is_gt, ordering_reverse}
use Rattle.std.proofs.lemmas.List.{append_assoc, take-append-le, drop-append-le, drop-take, length-take-le, reverse-append, reverse-reverse}
use Rattle.std.proofs.lemmas.List.Edits.{insert-append_left}
use Rattle.std.proofs.lemmas.List.Elements.{All-nil, All-cons, All-append, All-push, All-take, All-drop}
use Rattle.std.proofs.Math.Seq.{take-append_seam, drop-append_seam}
use Rattle.complete.specs.Pairs.{InOrder, enter, enters}
use Rattle.complete.proofs.Placing.{lt_less, less_gt, less_up, up_less, not_below}

-- ---- a list that is cut at the place of one more
module _ {X : Type 0} where
  pub all_before : (P : X → Type 0) (xs ys : List X) → All P (xs ++ ys) → All P xs
  all_before P xs ys h = subst (All P) (take-append_seam xs ys) (All-take P (length xs) (xs ++ ys)
      h)

  pub all_after : (P : X → Type 0) (xs ys : List X) → All P (xs ++ ys) → All P ys
  all_after P xs ys h = subst (All P) (drop-append_seam xs ys) (All-drop P (length xs) (xs ++ ys) h)

  -- what holds for each before, also behind it the place of a further one
  pub fronts : (P : X → Type 0) (front news : List X) (a : X) (p : ℕ)
      → All P (front ++ (news ++ a ∷ [])) → All P ((take p front ++ a ∷ []) ++ news)
  fronts P front news a p h =
      let behind = all_after P front (news ++ a ∷ []) h in
      All-append P (take p front ++ a ∷ []) news
      (All-push P (take p front) a (All-take P p front (all_before P front (news ++ a ∷ []) h))
      (all_after P news (a ∷ []) behind 0 a (omega arith))) (all_before P news (a ∷ []) behind)

  pub front_is : (xs ys : List X) (t p : ℕ) (a : X) → t + p ≤ length xs
      → ys ≡ take (t + p) xs ++ a ∷ [] → drop t ys ≡ take p (drop t xs) ++ a ∷ []
  front_is xs ys t p a l e =
      let long = length-take-le (t + p) xs l in
      ap (drop t) e ∙ drop-append-le t (take (t + p) xs) (a ∷ []) (omega (arith, long))
      ∙ ap (λ zs. zs ++ a ∷ []) (drop-take t p xs)

  pub later_is : (xs ys tail zs : List X) → ys ≡ reverse tail → zs ≡ xs ++ ys
      → tail ++ reverse xs ≡ reverse zs
  later_is xs ys tail zs e f = sym (ap reverse (f ∙ ap (λ l. xs ++ l) e)
      ∙ reverse-append xs (reverse tail) ∙ ap (λ l. l ++ reverse xs) (reverse-reverse tail))

-- ---- elements put where they belong
module _ {X : Type 0} (R : X → X → Ordering) where
  pub enter_insert : (a : X) (xs : List X) (p : ℕ) → All (λ b. is_lt (R a b) ≡ false) (take p xs)
      → All (λ b. is_lt (R a b) ≡ true) (drop p xs) → insert xs p a ≡ enter R a xs
  unfolding enter
  enter_insert a [] zero h k = refl
  enter_insert a [] (suc p) h k = refl
  enter_insert a (b ∷ xs) zero h k = ap (λ t. cond t (a ∷ b ∷ xs) (b ∷ enter R a xs))
      (sym (k 0 b (omega arith)))
  enter_insert a (b ∷ xs) (suc p) h k =
      ap (λ l. b ∷ l) (enter_insert a xs p (λ n d l. h (suc n) d (omega arith)) k)
      ∙ ap (λ t. cond t (a ∷ b ∷ xs) (b ∷ enter R a xs)) (sym (h 0 b (omega arith)))

  pub all_enter : (P : X → Type 0) (a : X) (xs : List X) → P a → All P xs → All P (enter R a xs)
  unfolding enter
  all_enter P a [] p h = All-cons P a [] p h
  all_enter P a (b ∷ xs) p h = go (is_lt (R a b))
      (all_enter P a xs p (λ n d l. h (suc n) d (omega arith)))
    where
      go : (t : Bool) → All P (enter R a xs) → All P (cond t (a ∷ b ∷ xs) (b ∷ enter R a xs))
      go true later = All-cons P a (b ∷ xs) p h
      go false later = All-cons P b (enter R a xs) (h 0 b (omega arith)) later

  pub all_enters : (P : X → Type 0) (news xs : List X) → All P news → All P xs
      → All P (enters R news xs)
  unfolding enters
  all_enters P [] xs h k = k
  all_enters P (a ∷ news) xs h k = all_enter P a (enters R news xs) (h 0 a (omega arith))
      (all_enters P news xs (λ n d l. h (suc n) d (omega arith)) k)

  pub enters_none : (news xs : List X) → news ≡ [] → enters R news xs ≡ xs
  unfolding enters
  enters_none news xs e = ap (λ ys. enters R ys xs) e

  enters_push : (news : List X) (a : X) (xs : List X)
      → enters R (news ++ a ∷ []) xs ≡ enters R news (enter R a xs)
  unfolding enters
  enters_push [] a xs = refl
  enters_push (b ∷ news) a xs = ap (enter R b) (enters_push news a xs)

  -- ---- lists in order
  in_order_front : (xs ys : List X) → InOrder R (xs ++ ys) → InOrder R xs
  unfolding InOrder
  in_order_front [] ys h = tt
  in_order_front (x ∷ xs) ys h =
      (all_before (λ y. is_gt (R x y) ≡ false) xs ys h.0, in_order_front xs ys h.1)

  in_order_last : (xs : List X) (a : X) → InOrder R (xs ++ a ∷ [])
      → All (λ x. is_gt (R x a) ≡ false) xs
  unfolding InOrder
  in_order_last [] a h = All-nil (λ x. is_gt (R x a) ≡ false)
  in_order_last (x ∷ xs) a h = All-cons (λ y. is_gt (R y a) ≡ false) x xs
      (all_after (λ y. is_gt (R x y) ≡ false) xs (a ∷ []) h.0 0 a (omega arith))
      (in_order_last xs a h.1)

  -- ---- the given ones are put into the old list: the news are left, and the list is cut into what
  -- is before the last one's place, and what is set aside
  pub record IsOnItsWay (given old news front later : List X) : Type 0 where
    pub news_in_order : InOrder R news
    pub list_in_order : InOrder R (front ++ later)
    pub above : All (λ a. All (λ b. is_lt (R a b) ≡ true) later) news
    pub whole : enters R news (front ++ later) ≡ enters R given old

  module _ (o : IsTotalOrder R) where
    pub in_order_enter : (a : X) (xs : List X) → InOrder R xs → InOrder R (enter R a xs)
    unfolding InOrder enter
    in_order_enter a [] h = (All-nil (λ y. is_gt (R a y) ≡ false), tt)
    in_order_enter a (b ∷ xs) h = go (is_lt (R a b)) refl (in_order_enter a xs h.1)
      where
        go : (t : Bool) → is_lt (R a b) ≡ t → InOrder R (enter R a xs)
            → InOrder R (cond t (a ∷ b ∷ xs) (b ∷ enter R a xs))
        go true e later = (
          All-cons (λ y. is_gt (R a y) ≡ false) b xs (less_gt (R a b) e)
              (λ n d l. less_gt (R a (get_or xs n d)) (less_up R o a b (get_or xs n d) e
              (h.0 n d l))),
          h,
        )
        go false e later = (
          all_enter (λ y. is_gt (R b y) ≡ false) a xs (not_below R o a b e) h.0,
          later,
        )

    pub in_order_enters : (news xs : List X) → InOrder R xs → InOrder R (enters R news xs)
    unfolding enters
    in_order_enters [] xs h = h
    in_order_enters (a ∷ news) xs h = in_order_enter a (enters R news xs)
        (in_order_enters news xs h)

    -- ---- two that aren't alike go in either way round
    either : (r s : Ordering) → s ≡ ordering_reverse r → r ≢ Equal → is_lt s ≡ not (is_lt r)
    either Less s e n = ap is_lt e
    either Equal s e n = absurd (n refl)
    either Greater s e n = ap is_lt e

    -- what isn't less than c isn't less than one that is
    not_less : (a b c : X) → is_lt (R a c) ≡ true → is_lt (R b c) ≡ false → is_lt (R b a) ≡ false
    not_less a b c h k = go (is_lt (R b a)) refl
      where
        go : (t : Bool) → is_lt (R b a) ≡ t → is_lt (R b a) ≡ false
        go false e = e
        go true e =
            let is : is_lt (R b c) ≡ true = ap is_lt (o.trans b a c (lt_less (R b a) e)
            (lt_less (R a c) h)) in
            absurd (let z : ⊥ = cc in z)

    both : (a b : X) (xs : List X) → R a b ≢ Equal
        → cond (is_lt (R a b)) (a ∷ b ∷ xs) (b ∷ a ∷ xs)
        ≡ cond (is_lt (R b a)) (b ∷ a ∷ xs) (a ∷ b ∷ xs)
    both a b xs n = go (is_lt (R a b)) ∙ ap (λ t. cond t (b ∷ a ∷ xs) (a ∷ b ∷ xs))
        (sym (either (R a b) (R b a) (o.antisymm b a) n))
      where
        go : (t : Bool) → cond t (a ∷ b ∷ xs) (b ∷ a ∷ xs)
            ≡ cond (not t) (b ∷ a ∷ xs) (a ∷ b ∷ xs)
        go true = refl
        go false = refl

    enter_comm : (a b : X) → R a b ≢ Equal → (xs : List X)
        → enter R a (enter R b xs) ≡ enter R b (enter R a xs)
    unfolding enter
    enter_comm a b n [] = both a b [] n
    enter_comm a b n (c ∷ xs) = go (is_lt (R a c)) (is_lt (R b c)) refl refl (enter_comm a b n xs)
      where
        go : (s t : Bool) → is_lt (R a c) ≡ s → is_lt (R b c) ≡ t
            → enter R a (enter R b xs) ≡ enter R b (enter R a xs)
            → enter R a (cond t (b ∷ c ∷ xs) (c ∷ enter R b xs))
            ≡ enter R b (cond s (a ∷ c ∷ xs) (c ∷ enter R a xs))
        go true true e f ih =
            ap (λ l. cond (is_lt (R a b)) (a ∷ b ∷ c ∷ xs) (b ∷ l))
            (ap (λ t. cond t (a ∷ c ∷ xs) (c ∷ enter R a xs)) e)
            ∙ both a b (c ∷ xs) n
            ∙ ap (λ l. cond (is_lt (R b a)) (b ∷ a ∷ c ∷ xs) (a ∷ l))
            (sym (ap (λ t. cond t (b ∷ c ∷ xs) (c ∷ enter R b xs)) f))
        go true false e f ih =
            ap (λ t. cond t (a ∷ c ∷ enter R b xs) (c ∷ enter R a (enter R b xs))) e
            ∙ sym (ap (λ t. cond t (b ∷ a ∷ c ∷ xs) (a ∷ enter R b (c ∷ xs))) (not_less a b c e f)
            ∙ ap (λ l. a ∷ l) (ap (λ t. cond t (b ∷ c ∷ xs) (c ∷ enter R b xs)) f))
        go false true e f ih =
            ap (λ t. cond t (a ∷ b ∷ c ∷ xs) (b ∷ enter R a (c ∷ xs))) (not_less b a c f e)
            ∙ ap (λ l. b ∷ l) (ap (λ t. cond t (a ∷ c ∷ xs) (c ∷ enter R a xs)) e)
            ∙ sym (ap (λ t. cond t (b ∷ c ∷ enter R a xs) (c ∷ enter R b (enter R a xs))) f)
        go false false e f ih =
            ap (λ t. cond t (a ∷ c ∷ enter R b xs) (c ∷ enter R a (enter R b xs))) e
            ∙ ap (λ l. c ∷ l) ih
            ∙ sym (ap (λ t. cond t (b ∷ c ∷ enter R a xs) (c ∷ enter R b (enter R a xs))) f)

    pub enters_enter : (a : X) (news xs : List X) → All (λ b. R a b ≢ Equal) news
        → enters R (enter R a news) xs ≡ enter R a (enters R news xs)
    unfolding enter enters
    enters_enter a [] xs h = refl
    enters_enter a (b ∷ news) xs h = go (is_lt (R a b))
        (enters_enter a news xs (λ n d l. h (suc n) d (omega arith)))
      where
        go : (t : Bool) → enters R (enter R a news) xs ≡ enter R a (enters R news xs)
            → enters R (cond t (a ∷ b ∷ news) (b ∷ enter R a news)) xs
            ≡ enter R a (enter R b (enters R news xs))
        go true ih = refl
        go false ih = ap (enter R b) ih
            ∙ sym (enter_comm a b (h 0 b (omega arith)) (enters R news xs))

    -- ---- one after another, from the last
    pub step : (given old all news front later : List X) (a : X) (p : ℕ) → all ≡ news ++ a ∷ []
        → p ≤ length front → All (λ b. is_lt (R a b) ≡ false) (take p front)
        → All (λ b. is_lt (R a b) ≡ true) (drop p front) → IsOnItsWay given old all front later
        → IsOnItsWay given old news (take p front ++ a ∷ []) (drop p front ++ later)
    step given old all news front later a p e l below above i =
        let ahead = subst (InOrder R) e i.news_in_order in
        let aside = subst (All (λ x. All (λ b. is_lt (R x b) ≡ true) later)) e i.above in
        let lasts = All-append (λ b. is_lt (R a b) ≡ true) (drop p front) later above
        (all_after (λ x. All (λ b. is_lt (R x b) ≡ true) later) news (a ∷ []) aside 0 a
        (omega arith)) in
        let is = append_assoc (take p front) (a ∷ []) (drop p front ++ later)
        ∙ sym (append_assoc (take p front) (a ∷ drop p front) later)
        ∙ sym (insert-append_left front later p a l)
        ∙ enter_insert a (front ++ later) p
        (subst (All (λ b. is_lt (R a b) ≡ false)) (sym (take-append-le p front later l)) below)
        (subst (All (λ b. is_lt (R a b) ≡ true)) (sym (drop-append-le p front later l)) lasts) in
        record {
          news_in_order = in_order_front news (a ∷ []) ahead;
          list_in_order = subst (InOrder R) (sym is) (in_order_enter a (front ++ later)
              i.list_in_order);
          above = λ n d m k x j. up_less R o (get_or news n d) a (get_or (drop p front ++ later) k
              x)
              (in_order_last news a ahead n d m) (lasts k x j);
          whole = ap (enters R news) is ∙ sym (enters_push news a (front ++ later))
              ∙ ap (λ ys. enters R ys (front ++ later)) (sym e) ∙ i.whole;
        }

    pub front_in_order : (given old news front later : List X)
        → IsOnItsWay given old news front later → InOrder R front
    front_in_order given old news front later i = in_order_front front later i.list_in_order

    pub done : (given old news front later : List X) → news ≡ []
        → IsOnItsWay given old news front later → front ++ later ≡ enters R given old
    done given old news front later e i = sym (enters_none news (front ++ later) e) ∙ i.whole
