-- The names of unknowns, and names behind them.
--   unknown_fits          each can be a name, and stands not among those before it
--   one_more_unknown      one more of them
--   none_stands           a word that is none of the names has no place
--   unknowns_count        how many they are
--   name_other            each of the names stands neither among the unknowns nor before itself
use Rattle.std.proofs.Common.{◌≡◌, ◌≢◌, ◌⊎◌, inl, inr, ℕ, zero, suc, ◌+◌, ◌-◌, ◌<◌, ◌≤◌, Bool, true, List, [], ◌∷◌, ◌++◌, map, take, length, get_or, Some, None, refl, sym, ap, subst, ◌∙◌, arith, add-one}
use Rattle.std.specs.Fmt.{digits}
use Rattle.std.specs.Prelude.{Option, ◌&&◌, nat_le, is_none}
use Rattle.std.proofs.lemmas.Bool.{and_parts, cases_lt}
use Rattle.std.proofs.lemmas.Bool.Decides.{nat_tests}
use Rattle.std.proofs.lemmas.List.{length-map, length-append, length-take, map-append, get_or_append_left, get_or-append_right, get_or-take}
use Rattle.exponentials.specs.Table.{numbers}
use Rattle.task_lists.proofs.Places.{numbers-push}
use Rattle.loops.specs.Limits.{most_bytes}
use Rattle.loop_model.specs.Names.{place_of, AreNames}
use Rattle.loop_model.specs.Words.{keyword_of, is_plain_word}
use Rattle.loop_model.proofs.NameLaws as name_laws
use Rattle.loop_model.proofs.Places.{place_within, place_stands}
use Rattle.program_model.specs.PathEvents.{most_unknowns}
use Rattle.program_model.specs.Names.{unknown_name, unknown_names, HasNoUnknown}

-- ---- the unknowns
abbrev fits : ℕ → Bool
fits k = is_plain_word (unknown_name k)
    && (nat_le (length (unknown_name k)) most_bytes
    && is_none (place_of (unknown_names k) (unknown_name k)))

abbrev all_below : (ℕ → Bool) → ℕ → Bool
all_below p zero = true
all_below p (suc n) = p n && all_below p n

at_below : (p : ℕ → Bool) (n k : ℕ) → all_below p n ≡ true → k < n → p k ≡ true
at_below p zero k all less = absurd (omega (arith, less))
at_below p (suc n) k all less =
    let both = and_parts (p n) (all_below p n) all in
    elim (cases_lt k n) [
      | inl below ↦ at_below p n k both.1 below
      | inr not ↦ let same : n ≡ k = omega (arith, less, not) in subst (λ j. p j ≡ true) same both.0
    ]

all_fit : all_below fits most_unknowns ≡ true
unfolding digits keyword_of most_bytes
all_fit = refl

is_nothing : {A : Type 0} (o : Option A) → is_none o ≡ true → o ≡ None
is_nothing None e = refl
is_nothing (Some x) e = absurd (cc)

pub record IsUnknownFit (k : ℕ) : Type 0 where
  pub plain : is_plain_word (unknown_name k) ≡ true
  pub short : length (unknown_name k) ≤ most_bytes
  pub other : place_of (unknown_names k) (unknown_name k) ≡ None

pub unknown_fits : (k : ℕ) → k < most_unknowns → IsUnknownFit k
unknown_fits k l =
    let both = and_parts (is_plain_word (unknown_name k))
    (nat_le (length (unknown_name k)) most_bytes
    && is_none (place_of (unknown_names k) (unknown_name k)))
    (at_below fits most_unknowns k all_fit l) in
    let rest = and_parts (nat_le (length (unknown_name k)) most_bytes)
    (is_none (place_of (unknown_names k) (unknown_name k))) both.1 in
    record { plain = both.0; short = grind (arith, nat_tests, rest.0); other = is_nothing _ rest.1 }

pub one_more_unknown : (k : ℕ) → unknown_names k ++ unknown_name k ∷ [] ≡ unknown_names (k + 1)
one_more_unknown k =
    sym (map-append unknown_name (numbers 0 k) (k ∷ []))
    ∙ ap (map unknown_name) (ap (λ j. numbers 0 k ++ j ∷ []) (let e : k ≡ 0 + k = omega arith in e)
    ∙ sym (numbers-push 0 k) ∙ ap (numbers 0) (sym (add-one k)))

numbers-length : (lo n : ℕ) → length (numbers lo n) ≡ n
numbers-length lo zero = refl
numbers-length lo (suc n) = ap suc (numbers-length (suc lo) n)

unknown_at : (a i : ℕ) → i < a → get_or (unknown_names a) i [] ≡ unknown_name i
unknown_at a i l = from a 0 i l ∙ ap unknown_name (let e : 0 + i ≡ i = omega arith in e)
  where
    from : (a lo i : ℕ) → i < a → get_or (map unknown_name (numbers lo a)) i [] ≡ unknown_name
        (lo + i)
    from zero lo i l = absurd (omega arith)
    from (suc a) lo zero l = ap unknown_name (let e : lo ≡ lo + 0 = omega arith in e)
    from (suc a) lo (suc i) l = from a (suc lo) i (omega arith)
        ∙ ap unknown_name (let e : suc lo + i ≡ lo + suc i = omega arith in e)

pub unknowns_count : (a : ℕ) → length (unknown_names a) ≡ a
unknowns_count a = length-map (numbers 0 a) unknown_name ∙ numbers-length 0 a

-- ---- names behind them
pub none_stands : (names : List (List ℕ)) (w : List ℕ)
    → ((i : ℕ) → i < length names → get_or names i [] ≢ w) → place_of names w ≡ None
none_stands names w apart = go (place_of names w) refl
  where
    go : (o : Option ℕ) → place_of names w ≡ o → place_of names w ≡ None
    go None e = e
    go (Some i) e = absurd (apart i (place_within names w i e) (place_stands names w i e))

there_place : (names : List (List ℕ)) (i : ℕ) (w : List ℕ) → i < length names
    → get_or names i [] ≡ w → place_of names w ≡ None → ⊥
there_place names i w l is none = name_laws.place-none names w none i [] l is

module _ (names : List (List ℕ)) (are : AreNames names) (free : HasNoUnknown names) (a index : ℕ)
    (inside : index < length names) where
  abbrev pub w : List ℕ
  w = get_or names index []

  abbrev pub before : List (List ℕ)
  before = unknown_names a ++ take index names

  unknown_apart : (k : ℕ) → unknown_name k ≢ w
  unknown_apart k is = there_place names index (unknown_name k) inside (sym is) (free k)

  taken_apart : (k : ℕ) → k < index → get_or names k [] ≢ w
  taken_apart k l = are.differ k index [] l inside

  apart : (i : ℕ) → i < length before → get_or before i [] ≢ w
  apart i l = go (cases_lt i a)
    where
      many : length (unknown_names a) ≡ a
      many = unknowns_count a

      go : (i < a) ⊎ (a ≤ i) → get_or before i [] ≢ w
      go (inl b) = subst (λ v. v ≢ w)
          (sym (get_or_append_left (unknown_names a) (take index names) [] i
          (omega (arith, b, many))
          ∙ unknown_at a i b)) (unknown_apart i)
      go (inr e) =
          let short : i - a < index = omega (
            arith,
            l,
            e,
            many,
            length-append (unknown_names a) (take index names),
            length-take index names,
            inside,
          ) in
          subst (λ v. v ≢ w)
          (sym (get_or-append_right (unknown_names a) (take index names) a i [] many e
          ∙ get_or-take index names (i - a) [] short)) (taken_apart (i - a) short)

  pub name_other : place_of before w ≡ None
  name_other = none_stands before w apart
