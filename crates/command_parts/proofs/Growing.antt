-- Lists that are made part by part, where memory may be wanting.
--   each_more            what some parts and one more are
--   letters_more, values_more     what is found of the letters and of the values, one part further
use Rattle.std.proofs.Common.{◌≡◌, ℕ, Bool, true, false, List, [], ◌∷◌, ◌++◌, map, Bor, refl, sym, ap, ap₂, subst, ◌∙◌, Result, Ok, Err}
use Rattle.std.specs.Prelude.{◌&&◌, Option, Some, None, option_map, is_some, if◌then◌else◌, Vec}
use Rattle.std.specs.declared.alloc.AllocError.{AllocError}
use Rattle.std.specs.declared.alloc.Global.{Global}
use Rattle.std.specs.List.{list_all, filter_map, cons_option}
use Rattle.std.proofs.lemmas.List.{map-append}
use Rattle.std.proofs.lemmas.List.Elements.{filter_map-append}
use Rattle.std.proofs.lemmas.List.Folds.{list_all-append}
use Rattle.frac128.specs.FracMeaning.{fraction_of}
use Rattle.frac128.specs.declared.fraction.Frac.{Frac}
use Rattle.command_parts.specs.Lookup.{IsFound, Grows, list_with}
use Rattle.poly_text.specs.Number.{number_of}
use Rattle.command_parts.specs.Numerals.{each_of, letter_of}

pub each_more : {A : Type 0} (f : List ℕ → Option A) (parts : List (List ℕ)) (part : List ℕ)
    → list_with (each_of f parts) (f part) ≡ each_of f (parts ++ part ∷ [])
each_more {A} f parts part =
    go (list_all (λ p. is_some (f p)) parts) (f part) (filter_map f parts)
    ∙ sym (ap₂ (λ b xs. if b then Some xs else None)
    (list_all-append (λ p. is_some (f p)) parts (part ∷ []))
    (filter_map-append f parts (part ∷ [])))
  where
    go : (b : Bool) (o : Option A) (xs : List A)
        → list_with (if b then Some xs else None) o
        ≡ (if b && (is_some o && true) then Some (xs ++ cons_option o []) else None)
    go true None xs = refl
    go true (Some x) xs = refl
    go false o xs = refl

module _ {A B : Type 0} (view : A → B) (seen : List A → List B)
    (push : (xs : List A) (x : A) → seen (xs ++ x ∷ []) ≡ seen xs ++ view x ∷ []) where
  abbrev Holds : Result (Option (Vec A Global)) AllocError → Option (List B) → Type 0
  Holds r o = IsFound (λ (v : Vec A Global). seen v.items) r o

  none_holds : (r : Result (Option (Vec A Global)) AllocError) (o : Option (List B)) → r ≡ Ok None
      → None ≡ o → Holds r o
  none_holds r o none is = subst (λ x. Holds x o) (sym none) is

  grows : (found r : Result (Option (Vec A Global)) AllocError) (part : Option A)
      (o : Option (List B)) → Holds found o → Grows part found r
      → Holds r (list_with o (option_map view part))
  grows found r None o is h = none_holds r _ h (no_more o)
    where
      no_more : (o : Option (List B)) → None ≡ list_with o None
      no_more None = refl
      no_more (Some xs) = refl
  grows (Ok None) r (Some x) o is h = none_holds r _ h (ap (λ y. list_with y (Some (view x))) is)
  grows (Ok (Some list)) r (Some x) o is h =
      subst (λ y. Holds r (list_with y (Some (view x)))) is (behind list r h)
    where
      behind : (list : Vec A Global) (r : Result (Option (Vec A Global)) AllocError)
          → Grows (Some x) (Ok (Some list)) r → Holds r (Some (seen list.items ++ view x ∷ []))
      behind list (Ok None) h = absurd h
      behind list (Ok (Some more)) h = ap Some (ap seen h ∙ push list.items x)
      behind list (Err e) h = refl
  grows (Err e) (Ok x) (Some y) o is h = absurd (cc)
  grows (Err e) (Err f) (Some x) None is h = absurd (cc)
  grows (Err e) (Err f) (Some x) (Some xs) is h = refl

  pub part_more : (f : List ℕ → Option B) (found r : Result (Option (Vec A Global)) AllocError)
      (p : Option A) (yielded : List (Bor (List ℕ))) (part : Bor (List ℕ))
      → Holds found (each_of f (map (λ q. q.now) yielded)) → option_map view p ≡ f part.now
      → Grows p found r → Holds r (each_of f (map (λ q. q.now) (yielded ++ part ∷ [])))
  part_more f found r p yielded part is at h =
      subst (Holds r) (ap (list_with (each_of f (map (λ q. q.now) yielded))) at
      ∙ each_more f (map (λ q. q.now) yielded) part.now
      ∙ ap (each_of f) (sym (map-append (λ q. q.now) yielded (part ∷ []))))
      (grows found r p _ is h)

same_option : {A : Type 0} (p : Option A) → option_map (λ x. x) p ≡ p
same_option None = refl
same_option (Some x) = refl

pub letters_more : (found r : Result (Option (Vec ℕ Global)) AllocError) (p : Option ℕ)
    (yielded : List (Bor (List ℕ))) (part : Bor (List ℕ))
    → IsFound (λ (v : Vec ℕ Global). v.items) found (each_of letter_of (map (λ q. q.now) yielded))
    → p ≡ letter_of part.now → Grows p found r
    → IsFound (λ (v : Vec ℕ Global). v.items) r
    (each_of letter_of (map (λ q. q.now) (yielded ++ part ∷ [])))
letters_more found r p yielded part is at h =
    part_more (λ n. n) (λ ns. ns) (λ xs x. refl) letter_of found r p yielded part is
    (same_option p ∙ at) h

pub values_more : (found r : Result (Option (Vec Frac Global)) AllocError) (p : Option Frac)
    (yielded : List (Bor (List ℕ))) (part : Bor (List ℕ))
    → IsFound (λ (v : Vec Frac Global). map fraction_of v.items) found
    (each_of number_of (map (λ q. q.now) yielded)) → option_map fraction_of p ≡ number_of part.now
    → Grows p found r
    → IsFound (λ (v : Vec Frac Global). map fraction_of v.items) r
    (each_of number_of (map (λ q. q.now) (yielded ++ part ∷ [])))
values_more found r p yielded part is at h =
    part_more fraction_of (map fraction_of)
    (λ xs x. map-append fraction_of xs (x ∷ [])) number_of found r p yielded part is at h
