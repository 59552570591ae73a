-- Elements in order of leads (machines/specs/Tidying), over plain variables.
--   put_here, put_next, put_none     where an element is put, by the first of the list
--   put_at, put_last     what is seen of a list with an element put in at a place, and behind the last
--   put_all, all_put, none_put, last_put     all elements of a list put into another, the last first
--   length-sorted        a list in order has as many elements
use Rattle.std.proofs.Common.{◌≡◌, ℕ, ◌≤◌, suc, List, [], ◌∷◌, ◌++◌, map, take, drop, length, refl, sym, ap, ap₂, ◌∙◌, arith, Ordering, Less, Equal, Greater}
use Rattle.std.specs.List.{insert}
use Rattle.std.proofs.lemmas.List.{map-append, take_all, drop_all}
use Rattle.polynomials.specs.Order.{Rank, compare}
use Rattle.polynomials.specs.Terms.{Terms}
use Rattle.machines.specs.Cut.{lead_of}
use Rattle.machines.specs.Tidying.{ahead, put_by_lead, by_lead}

module _ {A : Type 0} (O : Rank) (f g : Terms A) (gs rest : List (Terms A))
    (is : gs ≡ g ∷ rest) where
  put_first : put_by_lead O f gs ≡ ahead O (compare O (lead_of f) (lead_of g)) f g rest
      (put_by_lead O f rest)
  unfolding put_by_lead
  put_first = ap (put_by_lead O f) is

  pub put_here : (o : Ordering) → o ≡ compare O (lead_of f) (lead_of g) → o ≡ Less
      → put_by_lead O f gs ≡ f ∷ gs
  unfolding ahead
  put_here o c less = put_first ∙ ap (λ x. ahead O x f g rest (put_by_lead O f rest)) (sym c ∙ less)
      ∙ ap (λ l. f ∷ l) (sym is)

  pub put_next : (o : Ordering) → o ≡ compare O (lead_of f) (lead_of g) → (o ≡ Less → ⊥)
      → put_by_lead O f gs ≡ g ∷ put_by_lead O f rest
  unfolding ahead
  put_next o c other = put_first ∙ ap (λ x. ahead O x f g rest (put_by_lead O f rest)) (sym c)
      ∙ go o other
    where
      go : (o : Ordering) → (o ≡ Less → ⊥) → ahead O o f g rest (put_by_lead O f rest) ≡ g
          ∷ put_by_lead O f rest
      go Less n = absurd (n refl)
      go Equal n = refl
      go Greater n = refl

pub put_none : {A : Type 0} (O : Rank) (f : Terms A) (gs : List (Terms A)) → gs ≡ []
    → put_by_lead O f gs ≡ f ∷ gs
unfolding put_by_lead
put_none O f gs e = ap (put_by_lead O f) e ∙ ap (λ l. f ∷ l) (sym e)

module _ {X Y : Type 0} (f : X → Y) (xs : List X) (k : ℕ) (x : X) where
  pub put_at : map f (insert xs k x) ≡ map f (take k xs) ++ f x ∷ map f (drop k xs)
  put_at = map-append f (take k xs) (x ∷ drop k xs)

module _ {X Y : Type 0} (f : X → Y) (xs : List X) where
  whole_seen : (k : ℕ) → length xs ≤ k → map f (take k xs) ≡ map f xs
  whole_seen k l = ap (map f) (take_all k xs l)

  none_left : (k : ℕ) → length xs ≤ k → map f (drop k xs) ≡ []
  none_left k l = ap (map f) (drop_all k xs l)

  pub put_last : (k : ℕ) (x : X) → length xs ≤ k
      → map f (take k xs) ++ f x ∷ map f (drop k xs) ≡ map f (insert xs (length xs) x)
  put_last k x l = ap₂ (λ us vs. us ++ f x ∷ vs)
      (whole_seen k l ∙ sym (whole_seen (length xs) (omega arith)))
      (none_left k l ∙ sym (none_left (length xs) (omega arith)))
      ∙ sym (put_at f xs (length xs) x)

unfoldable pub put_all : {A : Type 0} → Rank → List (Terms A) → List (Terms A) → List (Terms A)
put_all O [] hs = hs
put_all O (g ∷ gs) hs = put_by_lead O g (put_all O gs hs)

pub all_put : {A : Type 0} (O : Rank) (gs : List (Terms A)) → by_lead O gs ≡ put_all O gs []
unfolding put_all by_lead
all_put O [] = refl
all_put O (g ∷ gs) = ap (put_by_lead O g) (all_put O gs)

pub none_put : {A : Type 0} (O : Rank) (gs hs : List (Terms A)) → gs ≡ [] → put_all O gs hs ≡ hs
unfolding put_all
none_put O gs hs e = ap (λ l. put_all O l hs) e

pub last_put : {A : Type 0} (O : Rank) (gs hs : List (Terms A)) (g : Terms A)
    → put_all O (gs ++ g ∷ []) hs ≡ put_all O gs (put_by_lead O g hs)
unfolding put_all
last_put O [] hs g = refl
last_put O (x ∷ gs) hs g = ap (put_by_lead O x) (last_put O gs hs g)

length-put : {A : Type 0} (O : Rank) (g : Terms A) (gs : List (Terms A))
    → length (put_by_lead O g gs) ≡ suc (length gs)
unfolding put_by_lead ahead
length-put O g [] = refl
length-put O g (h ∷ gs) = go (compare O (lead_of g) (lead_of h)) (length-put O g gs)
  where
    go : (o : Ordering) → length (put_by_lead O g gs) ≡ suc (length gs)
        → length (ahead O o g h gs (put_by_lead O g gs)) ≡ suc (suc (length gs))
    go Less ih = refl
    go Equal ih = ap suc ih
    go Greater ih = ap suc ih

pub length-sorted : {A : Type 0} (O : Rank) (gs : List (Terms A)) → length (by_lead O gs)
    ≡ length gs
unfolding by_lead
length-sorted O [] = refl
length-sorted O (g ∷ gs) = length-put O g (by_lead O gs) ∙ ap suc (length-sorted O gs)
