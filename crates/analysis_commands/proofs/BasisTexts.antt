-- The text of a basis tells the basis, and that of the bases of a chain tells these.
--   same_bases      bases with the same text are the same, where they can be read back from it
--   same_before     so are they where more stands behind them that doesn't go on with an equation, and this is the same
--   same_chain_bases     the bases of chains
use Rattle.std.proofs.Common.{◌≡◌, ℕ, suc, ◌+◌, List, [], ◌∷◌, ◌++◌, length, refl, sym, ap, ap₂, subst, ◌∙◌, Option, Some, None, arith, append_assoc, length-append, reverse}
use Rattle.std.specs.Prelude.{All, IsSomeAnd, codes, decimal, get_or, true, ◌&&◌}
use Rattle.std.specs.List.{flat_map}
use Rattle.std.proofs.lemmas.List.{append_cancel_left, append_cancel_right, append-nil, reverse-append}
use Rattle.std.proofs.lemmas.List.Elements.{All-head, All-tail}
use Rattle.std.proofs.lemmas.List.Folds.{list_all-append}
use Rattle.algebra.proofs.Basics.{same_head}
use Rattle.algebra.specs.Fraction.{Fraction, ℚ}
use Rattle.algebra.proofs.Fractions.{ℚ_ring}
use Rattle.polynomials.specs.Terms.{Terms, Same}
use Rattle.polynomials.specs.Polynomial.{IsPolynomial}
use Rattle.polynomials.specs.Order.{grevlex}
use Rattle.polynomials.proofs.Orders.{grevlex_order}
use Rattle.polynomials.proofs.Canonical.{polynomial_unique}
use Rattle.polynomials.proofs.Same.{Same-sym, Same-trans}
use Rattle.loop_model.specs.Names.{AreNames}
use Rattle.poly_text.specs.Flat.{flat_of}
use Rattle.poly_text.specs.Printed.{polynomial_text}
use Rattle.command_parts.specs.ReadBack.{ReadsBack, IsReadBack}
use Rattle.command_parts.specs.BasisTexts.{line, equation_line, basis_text}
use Rattle.analysis_commands.specs.ChainTexts.{part_line, bases_text}
use Rattle.analysis_commands.specs.ChainHeadline.{AreReadBack}
use Rattle.analysis_commands.proofs.LineFeeds.{is_line, first_line, join_lines, decimal_line, printed_line}

module _ (names : List (List ℕ)) (are : AreNames names) where
  abbrev Graded : Terms Fraction → Type 0
  Graded p = IsPolynomial ℚ grevlex (length names) p

  read_alike : (g h : Terms Fraction) (o : Option (Terms Fraction)) → IsSomeAnd o (λ q. Same ℚ q g)
      → IsSomeAnd o (λ q. Same ℚ q h) → Same ℚ g h
  read_alike g h None a b = absurd a
  read_alike g h (Some q) a b = Same-trans ℚ (Same-sym ℚ a) b

  same_element : (g h : Terms Fraction) → Graded g → Graded h → ReadsBack names g
      → ReadsBack names h → polynomial_text names g ≡ polynomial_text names h → g ≡ h
  same_element g h pg ph rg rh e =
      polynomial_unique grevlex grevlex_order ℚ_ring (length names) (length names) g h pg ph
      (read_alike g h (flat_of names (polynomial_text names g)) rg
      (subst (λ text. IsSomeAnd (flat_of names text) (λ q. Same ℚ q h)) (sym e) rh))

  -- ---- line by line
  abbrev front : Terms Fraction → List ℕ
  front g = polynomial_text names g ++ codes " = 0"

  front_line : (g : Terms Fraction) → is_line (front g) ≡ true
  front_line g = list_all-append _ (polynomial_text names g) (codes " = 0")
      ∙ ap (λ b. b && true) (printed_line names are.plain g)

  cut : (g : Terms Fraction) (rest : List ℕ) → equation_line names g ++ rest ≡ front g ++ 10 ∷ rest
  cut g rest = append_assoc (front g) (10 ∷ []) rest

  -- a text whose first line has no line feed is none of equations
  not_none : (h : Terms Fraction) (us rest : List ℕ)
      → line (codes "none") ++ us ≡ equation_line names h ++ rest → ⊥
  not_none h us rest e =
      let lines = first_line (codes "none") (front h) us rest refl (front_line h) (e
      ∙ cut h rest) in
      go (polynomial_text names h) lines.0
    where
      go : (text : List ℕ) → codes "none" ≡ text ++ codes " = 0" → ⊥
      go [] is = let z : 110 ≡ 32 = same_head is in omega (arith, z)
      go (c ∷ cs) is =
          let l : length (cs ++ codes " = 0") ≡ length cs + 4 = length-append cs (codes " = 0") in
          let z : 4 ≡ suc (length (cs ++ codes " = 0")) = ap length is in
          omega (arith, z, l)

  -- nor is the empty text
  some_line : (h : Terms Fraction) (rest : List ℕ) → [] ≡ equation_line names h ++ rest → ⊥
  some_line h rest is =
      let l : length (front h ++ 10 ∷ rest) ≡ length (front h) + suc (length rest) =
      length-append (front h) (10 ∷ rest) in
      let z : 0 ≡ length (front h ++ 10 ∷ rest) = ap length (is ∙ cut h rest) in
      omega (arith, z, l)

  -- what stands behind a basis doesn't go on with an equation
  abbrev pub IsApart : List ℕ → Type 0
  IsApart us = (g : Terms Fraction) (rest : List ℕ) → us ≡ equation_line names g ++ rest → ⊥

  abbrev rows : List (Terms Fraction) → List ℕ
  rows gs = flat_map (equation_line names) gs

  cut_row : (g : Terms Fraction) (gs : List (Terms Fraction)) (us : List ℕ)
      → rows (g ∷ gs) ++ us ≡ front g ++ 10 ∷ (rows gs ++ us)
  cut_row g gs us = append_assoc (equation_line names g) (rows gs) us ∙ cut g (rows gs ++ us)

  same_rows : (gs hs : List (Terms Fraction)) (us vs : List ℕ) → All Graded gs → All Graded hs
      → All (ReadsBack names) gs → All (ReadsBack names) hs → IsApart us → IsApart vs
      → rows gs ++ us ≡ rows hs ++ vs → (gs ≡ hs) × (us ≡ vs)
  same_rows [] [] us vs pg ph rg rh au av e = (refl, e)
  same_rows [] (h ∷ hs) us vs pg ph rg rh au av e =
      absurd (au h (rows hs ++ vs) (e ∙ append_assoc (equation_line names h) (rows hs) vs))
  same_rows (g ∷ gs) [] us vs pg ph rg rh au av e =
      absurd (av g (rows gs ++ us) (sym e ∙ append_assoc (equation_line names g) (rows gs) us))
  same_rows (g ∷ gs) (h ∷ hs) us vs pg ph rg rh au av e =
      let lines = first_line (front g) (front h) (rows gs ++ us) (rows hs ++ vs) (front_line g)
      (front_line h) (sym (cut_row g gs us) ∙ (e ∙ cut_row h hs vs)) in
      let more = same_rows gs hs us vs (All-tail Graded g gs pg) (All-tail Graded h hs ph)
      (All-tail (ReadsBack names) g gs rg) (All-tail (ReadsBack names) h hs rh) au av lines.1 in (
        ap₂ ◌∷◌
            (same_element g h (All-head Graded g gs pg) (All-head Graded h hs ph)
            (All-head (ReadsBack names) g gs rg) (All-head (ReadsBack names) h hs rh)
            (append_cancel_right (polynomial_text names g) (polynomial_text names h)
            (codes " = 0") lines.0))
            more.0,
        more.1,
      )

  pub same_before : (gs hs : List (Terms Fraction)) (us vs : List ℕ) → All Graded gs
      → All Graded hs → All (ReadsBack names) gs → All (ReadsBack names) hs → IsApart us
      → IsApart vs → basis_text names gs ++ us ≡ basis_text names hs ++ vs
      → (gs ≡ hs) × (us ≡ vs)
  same_before [] [] us vs pg ph rg rh au av e =
      (refl, append_cancel_left (line (codes "none")) us vs e)
  same_before [] (h ∷ hs) us vs pg ph rg rh au av e = absurd (not_none h us (rows hs ++ vs)
      (e ∙ append_assoc (equation_line names h) (rows hs) vs))
  same_before (g ∷ gs) [] us vs pg ph rg rh au av e = absurd (not_none g vs (rows gs ++ us)
      (sym e ∙ append_assoc (equation_line names g) (rows gs) us))
  same_before (g ∷ gs) (h ∷ hs) us vs pg ph rg rh au av e =
      same_rows (g ∷ gs) (h ∷ hs) us vs pg ph rg rh au av e

  pub same_bases : (gs hs : List (Terms Fraction)) → All Graded gs → All Graded hs
      → All (ReadsBack names) gs → All (ReadsBack names) hs → basis_text names gs ≡ basis_text names
      hs → gs ≡ hs
  same_bases gs hs pg ph rg rh e = (same_before gs hs [] [] pg ph rg rh some_line some_line
      (append-nil (basis_text names gs) ∙ (e ∙ sym (append-nil (basis_text names hs))))).0

-- ---- the bases of a chain
module _ (names : List (List ℕ)) (are : AreNames names) where
  abbrev behind_word : ℕ → List ℕ
  behind_word j = codes "loop " ++ decimal (j + 1)

  abbrev before_feed : ℕ → List ℕ
  before_feed j = behind_word j ++ codes ":"

  part_is_line : (j : ℕ) → is_line (before_feed j) ≡ true
  part_is_line j = join_lines (behind_word j) (codes ":")
      (join_lines (codes "loop ") (decimal (j + 1)) refl (decimal_line (j + 1))) refl

  cut_part : (j : ℕ) (rest : List ℕ) → part_line j ++ rest ≡ before_feed j ++ 10 ∷ rest
  cut_part j rest = append_assoc (behind_word j) (codes ":\n") rest
      ∙ sym (append_assoc (behind_word j) (codes ":") (10 ∷ rest))

  -- the line of a loop ends with a colon, and that of an equation with 0
  other_end : (xs ys : List ℕ) → xs ++ codes ":" ≡ ys ++ codes " = 0" → ⊥
  other_end xs ys e =
      let r : reverse (codes ":") ++ reverse xs ≡ reverse (codes " = 0") ++ reverse ys =
      sym (reverse-append xs (codes ":")) ∙ (ap reverse e ∙ reverse-append ys (codes " = 0")) in
      let z : 58 ≡ 48 = ap (λ (l : List ℕ). get_or l 0 0) r in
      omega (arith, z)

  bases_apart : (j : ℕ) (bases : List (List (Terms Fraction)))
      → IsApart names are (bases_text names j bases)
  bases_apart j [] g rest e = some_line names are g rest e
  bases_apart j (b ∷ bases) g rest e =
      let behind = basis_text names b ++ bases_text names (suc j) bases in
      other_end (behind_word j) (polynomial_text names g)
      (first_line (before_feed j) (front names are g) behind rest (part_is_line j)
      (front_line names are g) (sym (cut_part j behind) ∙ (e ∙ cut names are g rest))).0

  abbrev AllGraded : List (Terms Fraction) → Type 0
  AllGraded gs = All (Graded names are) gs

  pub same_chain_bases : (j : ℕ) (bs cs : List (List (Terms Fraction))) → All AllGraded bs
      → All AllGraded cs → AreReadBack names bs → AreReadBack names cs
      → bases_text names j bs ≡ bases_text names j cs → bs ≡ cs
  same_chain_bases j [] [] pb pc rb rc e = refl
  same_chain_bases j [] (c ∷ cs) pb pc rb rc e = absurd (cc)
  same_chain_bases j (b ∷ bs) [] pb pc rb rc e = absurd (cc)
  same_chain_bases j (b ∷ bs) (c ∷ cs) pb pc rb rc e =
      let parts = same_before names are b c (bases_text names (suc j) bs)
      (bases_text names (suc j) cs) (All-head AllGraded b bs pb) (All-head AllGraded c cs pc)
      (All-head (IsReadBack names) b bs rb).each (All-head (IsReadBack names) c cs rc).each
      (bases_apart (suc j) bs) (bases_apart (suc j) cs)
      (append_cancel_left (part_line j) (basis_text names b ++ bases_text names (suc j) bs)
      (basis_text names c ++ bases_text names (suc j) cs) e) in
      ap₂ ◌∷◌ parts.0 (same_chain_bases (suc j) bs cs (All-tail AllGraded b bs pb)
      (All-tail AllGraded c cs pc) (All-tail (IsReadBack names) b bs rb)
      (All-tail (IsReadBack names) c cs rc) parts.1)
