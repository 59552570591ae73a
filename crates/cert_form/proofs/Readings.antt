-- What readings that succeed were made of.
--   on_ok, after_ok, expect_ok, ok_or_ok     the parts of such a reading
--   each_ok, parts_ok            a fact on lists that each element adds to;  parts_all: a fact of each element
--   each_count, parts_count      how many parts there are
--   list_count                   how many entries a list has that is asked for so many
use Rattle.std.proofs.Common.{◌≡◌, ℕ, suc, List, [], ◌∷◌, ◌++◌, Ok, Err, length, refl, sym, ap, subst, ◌∙◌, arith}
use Rattle.std.specs.Prelude.{All, Bool, true, false, Option, Some, None, if◌then◌else◌, ◌==◌, option_and_then}
use Rattle.std.specs.Option.{ok_or}
use Rattle.std.proofs.lemmas.Bool.Decides.{nat_tests}
use Rattle.std.proofs.lemmas.List.Elements.{All-nil, All-cons}
use Rattle.serde_json.specs.Data.{Data, Items, no_items, item}
use Rattle.serde_json.specs.Find.{as_array}
use Rattle.cert_form.specs.Form.{Fault, shape, Reading, on, after, part, each, expect, count, parts, list_with}

-- what a reading that succeeds was made of
pub record OkOf {A B : Type 0} (f : A → Reading B) (r : Reading A) (b : B) : Type 0 where
  pub part : A
  pub is : r ≡ Ok part
  pub gives : f part ≡ Ok b

pub on_ok : {A B : Type 0} (f : A → Reading B) (r : Reading A) (b : B) → on f r ≡ Ok b → OkOf f r b
on_ok f (Ok a) b h = record { part = a; is = refl; gives = h }
on_ok f (Err e) b h = cc

pub record Behind {A : Type 0} (first : List A) (r : Reading (List A)) (all : List A) : Type 0 where
  pub rest : List A
  pub is : r ≡ Ok rest
  pub joined : all ≡ first ++ rest

pub after_ok : {A : Type 0} (first : List A) (r : Reading (List A)) (all : List A)
    → after first r ≡ Ok all → Behind first r all
after_ok first (Ok rest) all h = record { rest = rest; is = refl; joined = cc }
after_ok first (Err e) all h = cc

pub expect_ok : {A : Type 0} (test : Bool) (path : List ℕ) (r : Reading A) (a : A)
    → expect test path r ≡ Ok a → r ≡ Ok a
expect_ok true path r a h = h
expect_ok false path r a h = cc

pub ok_or_ok : {A : Type 0} (o : Option A) (e : Fault) (a : A) → ok_or o e ≡ Ok a → o ≡ Some a
ok_or_ok (Some x) e a h = cc
ok_or_ok None e a h = cc

-- a fact on lists that each element adds to
module _ {A : Type 0} (f : List ℕ → Data → Reading A) (P : A → Type 0) (Q : List A → Type 0)
    (sound : (path : List ℕ) (d : Data) (a : A) → f path d ≡ Ok a → P a)
    (none : Q []) (more : (a : A) (xs : List A) → P a → Q xs → Q (a ∷ xs)) where
  pub each_ok : (path : List ℕ) (n : ℕ) (ds : Items) (xs : List A) → each f path n ds ≡ Ok xs → Q xs
  each_ok path n no_items xs h = let same : [] ≡ xs = cc in subst Q same none
  each_ok path n (item d ds) xs h =
      let first = on_ok _ (f (part path n) d) xs h in
      let behind = after_ok (first.part ∷ []) (each f path (suc n) ds) xs first.gives in
      subst Q (sym behind.joined) (more _ _ (sound _ d _ first.is)
      (each_ok path (suc n) ds behind.rest behind.is))

  pub parts_ok : (path : List ℕ) (ds : Option Items) (xs : List A) → parts f path ds ≡ Ok xs → Q xs
  parts_ok path ds xs h = let list = on_ok _ (ok_or ds (shape path)) xs h in
      each_ok path 0 list.part xs list.gives

pub parts_all : {A : Type 0} (f : List ℕ → Data → Reading A) (P : A → Type 0)
    → ((path : List ℕ) (d : Data) (a : A) → f path d ≡ Ok a → P a)
    → (path : List ℕ) (ds : Option Items) (xs : List A) → parts f path ds ≡ Ok xs → All P xs
parts_all f P sound = parts_ok f P (All P) sound (All-nil P) (All-cons P)

pub each_count : {A : Type 0} (f : List ℕ → Data → Reading A) (path : List ℕ) (n : ℕ) (ds : Items)
    (xs : List A) → each f path n ds ≡ Ok xs → length xs ≡ count ds
each_count f path n no_items xs h = let same : [] ≡ xs = cc in
    subst (λ ys. length ys ≡ 0) same refl
each_count f path n (item d ds) xs h =
    let first = on_ok _ (f (part path n) d) xs h in
    let behind = after_ok (first.part ∷ []) (each f path (suc n) ds) xs first.gives in
    ap length behind.joined ∙ ap suc (each_count f path (suc n) ds behind.rest behind.is)

pub list_count : (n : ℕ) (d : Data) (ds : Items) → list_with n d ≡ Some ds → count ds ≡ n
list_count n d ds h = go (as_array d) h
  where
    test : (es : Items) (b : Bool) → (count es == n) ≡ b → (if b then Some es else None) ≡ Some ds
        → count ds ≡ n
    test es true e h = let same : es ≡ ds = cc in
        subst (λ x. count x ≡ n) same (grind (arith, nat_tests, e))
    test es false e h = absurd (cc)

    go : (o : Option Items)
        → option_and_then (λ es. if count es == n then Some es else None) o ≡ Some ds
        → count ds ≡ n
    go None h = absurd (cc)
    go (Some es) h = test es (count es == n) refl h

pub parts_count : {A : Type 0} (f : List ℕ → Data → Reading A) (path : List ℕ) (n : ℕ)
    (o : Option Items) (xs : List A) → ((ds : Items) → o ≡ Some ds → count ds ≡ n)
    → parts f path o ≡ Ok xs → length xs ≡ n
parts_count f path n o xs counted h =
    let list = on_ok _ (ok_or o (shape path)) xs h in
    each_count f path 0 list.part xs list.gives
    ∙ counted list.part (ok_or_ok o (shape path) list.part list.is)
