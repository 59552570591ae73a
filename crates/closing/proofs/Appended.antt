-- The entries of a part, behind others.
--   appended_none, appended_next     the first entries of the part, and one more
--   appended_part, appended_all      they are a beginning of it, and all of it
--   never_exhausted                      the units of both don't pass the limit, so each entry of the part may be made
use Rattle.std.proofs.Common.{◌≡◌, ℕ, ◌+◌, ◌<◌, ◌≤◌, List, [], ◌∷◌, ◌++◌, map, take, drop, length, get_or, cond, arith, sym, ap, ◌∙◌, take-append-drop}
use Rattle.std.proofs.lemmas.List.{append-nil, append_assoc, map-append, take_all}
use Rattle.algebra.proofs.Lists.{take_next}
use Rattle.machines.specs.Journal.{units_of}
use Rattle.rounds.proofs.Prefixes.{units-append}
use Rattle.machines.specs.Journal as machines
use Rattle.journal.specs.View.{entry_of, Exceeds}
use Rattle.journal.specs.declared.Entry.{Entry}
use Rattle.closing.specs.Found.{IsPartOf}

module _ (before : List machines.Entry) (ds : List Entry) where
  abbrev pub first : ℕ → List machines.Entry
  first i = map entry_of (take i ds)

  pub appended_none : before ≡ before ++ first 0
  appended_none = sym (append-nil before)

  pub appended_next : (i : ℕ) (d : Entry) → i < length ds → d ≡ get_or ds i d
      → {es : List machines.Entry} (fs : List machines.Entry) → es ≡ before ++ first i
      → fs ≡ es ++ entry_of d ∷ [] → fs ≡ before ++ first (i + 1)
  appended_next i d inside is fs h more =
      more ∙ ap (λ xs. xs ++ entry_of d ∷ []) h
      ∙ append_assoc before (first i) (entry_of d ∷ [])
      ∙ ap (λ xs. before ++ xs) (sym (take_next entry_of ds i d inside is))

  module _ {part : List machines.Entry} (all : map entry_of ds ≡ part) where
    pub appended_part : (i : ℕ) (es : List machines.Entry) → es ≡ before ++ first i
        → IsPartOf before part es
    appended_part i es h = record {
      taken = first i;
      more = map entry_of (drop i ds);
      part_is =
          sym all ∙ ap (map entry_of) (sym (take-append-drop i ds))
          ∙ map-append entry_of (take i ds) (drop i ds);
      after_is = h;
    }

    pub appended_all : (i : ℕ) → length ds ≤ i → (es : List machines.Entry)
        → es ≡ before ++ first i → es ≡ before ++ part
    appended_all i past es h =
        h ∙ ap (λ xs. before ++ map entry_of xs) (take_all i ds past)
        ∙ ap (λ xs. before ++ xs) all

  module _ {part : List machines.Entry} (all : map entry_of ds ≡ part) (i : ℕ) (d : Entry)
      (inside : i < length ds) (is : d ≡ get_or ds i d) where
    more_units : units_of (first (i + 1))
        ≡ units_of (first i) + units_of (entry_of d ∷ [])
    more_units = ap units_of (take_next entry_of ds i d inside is)
        ∙ units-append (first i) (entry_of d ∷ [])

    all_units : units_of part
        ≡ units_of (first (i + 1)) + units_of (map entry_of (drop (i + 1) ds))
    all_units =
        ap units_of (sym all ∙ ap (map entry_of) (sym (take-append-drop (i + 1) ds))
        ∙ map-append entry_of (take (i + 1) ds) (drop (i + 1) ds))
        ∙ units-append (first (i + 1)) (map entry_of (drop (i + 1) ds))

    pub never_exhausted : (limit : ℕ) → units_of before + units_of part ≤ limit
        → (m : machines.Journal) → m.limit ≡ limit → m.entries ≡ before ++ first i
        → Exceeds m (entry_of d) → ⊥
    unfolding units_of
    never_exhausted limit few m same has exceeds =
        let one : units_of (entry_of d ∷ []) ≡ 1 =
        ap (λ b. cond b 1 0 + 0) exceeds.0 in
        let so_far : units_of m.entries ≡ units_of before + units_of (first i) =
        ap units_of has ∙ units-append before (first i) in
        let full : units_of m.entries ≡ limit = exceeds.1 ∙ same in
        omega (arith, few, one, more_units, all_units, so_far, full)
