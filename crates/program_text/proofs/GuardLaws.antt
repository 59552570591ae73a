-- The parts of a guard, step by step.
--   piece_more, piece_split, piece_end     one byte more in a piece, a split, and the end
--   closing_more, closing_here, inside_more, inside_here     a pair of parentheses
use Rattle.std.proofs.Math.Bool.{and-false}
use Rattle.std.proofs.Common.{◌≡◌, ◌<◌, ◌≤◌, ◌+◌, ◌-◌, ℕ, zero, suc, take, List, [], ◌∷◌, length, drop, get_or, refl, ap, sym, subst, ◌∙◌, Bool, true, false, ◌&&◌, ◌==◌, if◌then◌else◌, None, arith, add-one, ◌⊎◌, inl, inr}
use Rattle.std.proofs.lemmas.List.{drop_more, drop-drop, length-drop, length-take, take_all}
use Rattle.std.proofs.lemmas.Bool.{eqb-true, ne_eqb}
use Rattle.poly_text.specs.Tokens.{is_blank}
use Rattle.program_text.specs.Guards.{counted, splits, pieces_from, open_behind, last_at, closing_at, opened_at, inside_from, parts_within, in_each, by_inside, inside_of, by_pieces, pieces, IsWithin}
use Rattle.std.specs.List.{All}

module _ (at start o c : ℕ) where
  more_in : (a : ℕ) (xs : List ℕ) → splits o c (a ∷ xs) ≡ false
      → pieces_from at start o c (a ∷ xs) ≡ pieces_from (suc at) start (counted a 40 o)
      (counted a 41 c) xs
  unfolding pieces_from
  more_in a [] e = refl
  more_in a (b ∷ bs) e = ap (λ t. if t then (start, at) ∷ pieces_from (suc (suc at)) (suc (suc at))
      o c bs else pieces_from (suc at) start (counted a 40 o) (counted a 41 c) (b ∷ bs)) e

  split_in : (xs : List ℕ) → splits o c xs ≡ true → (2 ≤ length xs)
      × (pieces_from at start o c xs ≡ (start, at) ∷ pieces_from (suc (suc at)) (suc (suc at)) o c
      (drop 2 xs))
  unfolding pieces_from
  split_in [] e = absurd (cc)
  split_in (a ∷ []) e = absurd (cc)
  split_in (a ∷ b ∷ bs) e = (
    omega arith,
    ap (λ t. if t then (start, at) ∷ pieces_from (suc (suc at)) (suc (suc at)) o c bs
        else pieces_from (suc at) start (counted a 40 o) (counted a 41 c) (b ∷ bs)) e,
  )

  pub piece_end : pieces_from at start o c [] ≡ (start, at) ∷ []
  unfolding pieces_from
  piece_end = refl

module _ (text : List ℕ) (at : ℕ) (room : at < length text) where
  abbrev byte : ℕ
  byte = get_or text at 0

  pub piece_more : (start o c : ℕ) → splits o c (drop at text) ≡ false
      → pieces_from at start o c (drop at text) ≡ pieces_from (at + 1) start (counted byte 40 o)
      (counted byte 41 c) (drop (at + 1) text)
  piece_more start o c e =
      ap (pieces_from at start o c) (drop_more text at 0 room)
      ∙ more_in at start o c byte (drop (at + 1) text)
      (ap (splits o c) (sym (drop_more text at 0 room)) ∙ e)
      ∙ ap (λ k. pieces_from k start (counted byte 40 o) (counted byte 41 c) (drop (at + 1) text))
      (sym (add-one at))

  pub closing_more : (n : ℕ) → (byte == 41 && n == 1) ≡ false
      → closing_at at n (drop at text) ≡ closing_at (at + 1) (open_behind byte n)
      (drop (at + 1) text)
  unfolding closing_at
  closing_more n e =
      ap (closing_at at n) (drop_more text at 0 room)
      ∙ ap (λ t. if t then last_at at (drop (at + 1) text) else closing_at (suc at)
      (open_behind byte n) (drop (at + 1) text)) e
      ∙ ap (λ k. closing_at k (open_behind byte n) (drop (at + 1) text)) (sym (add-one at))

  pub closing_here : (n : ℕ) → (byte == 41 && n == 1) ≡ true
      → closing_at at n (drop at text) ≡ last_at at (drop (at + 1) text)
  unfolding closing_at
  closing_here n e =
      ap (closing_at at n) (drop_more text at 0 room)
      ∙ ap (λ t. if t then last_at at (drop (at + 1) text) else closing_at (suc at)
      (open_behind byte n) (drop (at + 1) text)) e

  pub inside_more : is_blank byte ≡ true → inside_from at (drop at text) ≡ inside_from (at + 1)
      (drop (at + 1) text)
  unfolding inside_from
  inside_more e =
      ap (inside_from at) (drop_more text at 0 room)
      ∙ ap (λ t. if t then inside_from (suc at) (drop (at + 1) text)
      else opened_at at (byte ∷ drop (at + 1) text)) e
      ∙ ap (λ k. inside_from k (drop (at + 1) text)) (sym (add-one at))

  pub inside_here : is_blank byte ≡ false → inside_from at (drop at text) ≡ opened_at at
      (drop at text)
  unfolding inside_from
  inside_here e =
      ap (inside_from at) (drop_more text at 0 room)
      ∙ ap (λ t. if t then inside_from (suc at) (drop (at + 1) text)
      else opened_at at (byte ∷ drop (at + 1) text)) e
      ∙ ap (opened_at at) (sym (drop_more text at 0 room))

  pub piece_split : (start o c : ℕ) → splits o c (drop at text) ≡ true
      → (at + 2 ≤ length text) × (pieces_from at start o c (drop at text)
      ≡ (start, at) ∷ pieces_from (at + 2) (at + 2) o c (drop (at + 2) text))
  piece_split start o c e =
      let s = split_in at start o c (drop at text) e in
      let l = length-drop at text in
      let two : suc (suc at) ≡ at + 2 = omega arith in (
        omega (arith, s.0, l, room),
        s.1
            ∙ ap (λ k. (start, at) ∷ pieces_from k k o c (drop 2 (drop at text))) two
            ∙ ap (λ ys. (start, at) ∷ pieces_from (at + 2) (at + 2) o c ys) (drop-drop 2 at text),
      )

pub ended : {A : Type 0} (n : ℕ) (text : List A) → length text ≤ n → drop n text ≡ []
ended zero [] e = refl
ended (suc n) [] e = refl
ended zero (x ∷ xs) e = absurd (omega arith)
ended (suc n) (x ∷ xs) e = ended n xs (omega arith)

pub few : (c which n at m : ℕ) → m ≡ counted c which n → n ≤ at → m ≤ at + 1
few c which n at m e l = go (c == which) refl
  where
    go : (b : Bool) → (c == which) ≡ b → m ≤ at + 1
    go true is = let k : m ≡ suc n = e ∙ ap (λ b. if b then suc n else n) is in omega (arith, k, l)
    go false is = let k : m ≡ n = e ∙ ap (λ b. if b then suc n else n) is in omega (arith, k, l)

pub closing_end : (at n : ℕ) → closing_at at n [] ≡ None
unfolding closing_at
closing_end at n = refl

pub inside_end : (at : ℕ) → inside_from at [] ≡ None
unfolding inside_from
inside_end at = refl

pub parts_more : (n : ℕ) (text : List ℕ) (p : ℕ × ℕ) → parts_within (suc n) text p
    ≡ by_pieces (parts_within n text) (take p.1 text) (pieces (take p.1 text) p.0)
unfolding parts_within
parts_more n text p = refl

module _ (n : ℕ) (text : List ℕ) (p : ℕ × ℕ) (some : 0 < n) (ps : List (ℕ × ℕ))
    (is : ps ≡ pieces (take p.1 text) p.0) where
  by_one_less : parts_within n text p ≡ by_pieces (parts_within (n - 1) text) (take p.1 text) ps
  by_one_less =
      let more : n ≡ suc (n - 1) = omega (arith, some) in
      ap (λ m. parts_within m text p) more ∙ parts_more (n - 1) text p
      ∙ ap (by_pieces (parts_within (n - 1) text) (take p.1 text)) (sym is)

  pub parts_of_none : length ps ≡ 0 → parts_within n text p ≡ []
  parts_of_none e = by_one_less ∙ go ps e
    where
      go : (ps : List (ℕ × ℕ)) → length ps ≡ 0
          → by_pieces (parts_within (n - 1) text) (take p.1 text) ps ≡ []
      go [] e = refl
      go (q ∷ qs) e = absurd (omega arith)

  module _ (f : ℕ × ℕ) (rest : List (ℕ × ℕ)) (e : ps ≡ f ∷ rest) where
    pub parts_of_each : 0 < length rest
        → parts_within n text p ≡ in_each (parts_within (n - 1) text)
        ps
    parts_of_each l = by_one_less ∙ ap (by_pieces (parts_within (n - 1) text) (take p.1 text)) e
        ∙ go rest l ∙ ap (in_each (parts_within (n - 1) text)) (sym e)
      where
        go : (rest : List (ℕ × ℕ)) → 0 < length rest → by_pieces (parts_within (n - 1) text)
            (take p.1 text) (f ∷ rest) ≡ in_each (parts_within (n - 1) text) (f ∷ rest)
        go [] l = absurd (omega arith)
        go (g ∷ rest) l = refl

    pub parts_of_one : length rest ≡ 0 → parts_within n text p
        ≡ by_inside (parts_within (n - 1) text) f (inside_of f.0 (take p.1 text))
    parts_of_one l = by_one_less ∙ ap (by_pieces (parts_within (n - 1) text) (take p.1 text)) e
        ∙ go rest l
      where
        go : (rest : List (ℕ × ℕ)) → length rest ≡ 0 → by_pieces (parts_within (n - 1) text)
            (take p.1 text) (f ∷ rest)
            ≡ by_inside (parts_within (n - 1) text) f (inside_of f.0 (take p.1 text))
        go [] l = refl
        go (g ∷ rest) l = absurd (omega arith)

pub first_within : (text : List ℕ) (n : ℕ) (ps : List (ℕ × ℕ)) (f : ℕ × ℕ) (rest : List (ℕ × ℕ))
    → ps ≡ f ∷ rest → All (IsWithin (length (take n text))) ps → IsWithin (length text) f
first_within text n ps f rest e all =
    let here : IsWithin (length (take n text)) f = subst (λ ps. (d : ℕ × ℕ) → 0 < length ps
    → IsWithin (length (take n text)) (get_or ps 0 d)) e (λ d l. all 0 d l) f (omega arith) in
    let most = length-take n text in
    record { order = here.order; end = let e = here.end in omega (arith, e, most) }

pub whole : (text : List ℕ) (at : ℕ) → take (length text - at) (drop at text) ≡ drop at text
whole text at = take_all (length text - at) (drop at text) (omega (arith, length-drop at text))

-- ---- the byte doesn't close the last parenthesis
module _ (b n : ℕ) (other : ((b ≡ 41) × (n ≡ 1 → ⊥)) ⊎ (b ≡ 41 → ⊥)) where
  pub no_closing : (b == 41 && n == 1) ≡ false
  no_closing = elim other [
    | inl h ↦ ap (λ t. (b == 41) && t) (ne_eqb n 1 h.1) ∙ and-false (b == 41)
    | inr h ↦ ap (λ t. t && (n == 1)) (ne_eqb b 41 h)
  ]

  several : (n : ℕ) → 0 < n → (n ≡ 1 → ⊥) → 0 < n - 1
  several zero some h = absurd (omega arith)
  several (suc zero) some h = absurd (h refl)
  several (suc (suc m)) some h = omega arith

  pub open_some : 0 < n → 0 < open_behind b n
  open_some some = go (b == 40) (b == 41) refl
    where
      go : (s t : Bool) → (b == 41) ≡ t → 0 < (if s then suc n else (if t then n - 1 else n))
      go true t e = omega arith
      go false false e = some
      go false true e = elim other [
        | inl h ↦ several n some h.1
        | inr h ↦ absurd (h (eqb-true b 41 e))
      ]

  pub open_few : open_behind b n ≤ suc n
  open_few = go (b == 40) (b == 41)
    where
      go : (s t : Bool) → (if s then suc n else (if t then n - 1 else n)) ≤ suc n
      go true t = omega arith
      go false false = omega arith
      go false true = omega arith

pub parts_none : (text : List ℕ) (p : ℕ × ℕ) → parts_within 0 text p ≡ p ∷ []
unfolding parts_within
parts_none text p = refl
